-- K1 to K8 of document 01, the front of the one list K1 to K12, with both ratios 1:2:1, and some of R-4 with others (`house`): em 10, base 10 wide, ruby 5
-- wide, kana-like. One claim about all: each is set, and its
-- characters stand, by document 01's places and by the writers alike, where the document puts them.
use Rattle.std.specs.Prelude.{◌≡◌, refl, List, [], ◌∷◌, map, ℕ, length, replicate}
use Rattle.basics.specs.Lists.{sum}
use Rattle.spread.specs.Ratio.{one_two_one}
use Rattle.spread.specs.Ratio.{Ratios}
use Rattle.word.specs.declared.Form.{Form}
use Rattle.word.specs.declared.Form.TheVariants as form
use Rattle.word.specs.declared.Answer.{Answer}
use Rattle.word.specs.declared.Answer.TheVariants.{Set}
use Rattle.word.specs.Given.{Given}
use Rattle.word.specs.Alone.{Places, places}
use Rattle.word.specs.Word.{word_of, base_starts, ruby_starts}
use Rattle.word.specs.Answer.{answer}

-- an element by its counts: M its ruby, G base and ruby, J its runs
pub data Element : Type 0 where
  M : ℕ → Element
  G : ℕ → ℕ → Element
  J : List ℕ → Element

-- b base characters and the runs of ruby characters over them
unfoldable pub given : Ratios → ℕ → List ℕ → Given
given h b runs =
    record {
      em = 10;
      ratios = h;
      class = replicate b 19;
      width = replicate b 10;
      before = replicate b 0;
      after = replicate b 0;
      ruby_class = replicate (sum runs) 15;
      ruby_width = replicate (sum runs) 5;
      run = runs;
    }

pub form_of : Element → Form
form_of (M r) = form.M
form_of (G b r) = form.G
form_of (J runs) = form.J

pub given_of : Ratios → Element → Given
unfolding given
given_of h (M r) = given h 1 (r ∷ [])
given_of h (G b r) = given h b (r ∷ [])
given_of h (J runs) = given h (length runs) runs

pub record Case : Type 0 where
  pub ratios : Ratios
  pub element : Element
  pub base : List ℕ
  pub ruby : List ℕ

-- both ratios 1:2:1
abbrev pub today : Ratios
today = record { ruby = one_two_one; base = one_two_one }

case : Element → List ℕ → List ℕ → Case
case e b r = record { ratios = today; element = e; base = b; ruby = r }

-- both ratios a:m:c
by : ℕ → ℕ → ℕ → Element → List ℕ → List ℕ → Case
by a m c e b r = record { ratios = record { ruby = record { a = a; m = m; c = c }; base = record { a = a; m = m; c = c } }; element = e; base = b; ruby = r }

pub cases : List Case
unfolding case
cases =
    case (M 3) (5 ∷ []) (0 ∷ 10 ∷ 20 ∷ [])
    ∷ case (G 3 2) (0 ∷ 20 ∷ 40 ∷ []) (10 ∷ 40 ∷ [])
    ∷ case (G 5 2) (0 ∷ 20 ∷ 40 ∷ 60 ∷ 80 ∷ []) (10 ∷ 80 ∷ [])
    ∷ case (G 2 7) (7 ∷ 43 ∷ []) (0 ∷ 10 ∷ 20 ∷ 30 ∷ 40 ∷ 50 ∷ 60 ∷ [])
    ∷ case (G 3 8) (3 ∷ 30 ∷ 57 ∷ []) (0 ∷ 10 ∷ 20 ∷ 30 ∷ 40 ∷ 50 ∷ 60 ∷ 70 ∷ [])
    ∷ case (G 4 1) (0 ∷ 20 ∷ 40 ∷ 60 ∷ []) (35 ∷ [])
    ∷ case (J (1 ∷ 2 ∷ [])) (0 ∷ 20 ∷ []) (5 ∷ 20 ∷ 30 ∷ [])
    ∷ case (J (1 ∷ 3 ∷ [])) (0 ∷ 20 ∷ []) (0 ∷ 10 ∷ 20 ∷ 30 ∷ [])
    ∷ []

pub house : List Case
unfolding by
house =
    by 0 0 1 (G 3 2) (0 ∷ 20 ∷ 40 ∷ []) (0 ∷ 10 ∷ [])
    ∷ by 0 0 1 (G 2 7) (0 ∷ 20 ∷ []) (0 ∷ 10 ∷ 20 ∷ 30 ∷ 40 ∷ 50 ∷ 60 ∷ [])
    ∷ by 1 3 1 (G 3 2) (0 ∷ 20 ∷ 40 ∷ []) (8 ∷ 42 ∷ [])
    ∷ by 1 3 1 (G 5 2) (0 ∷ 20 ∷ 40 ∷ 60 ∷ 80 ∷ []) (10 ∷ 80 ∷ [])  -- the limit at both ends
    ∷ by 1 3 1 (G 2 7) (6 ∷ 44 ∷ []) (0 ∷ 10 ∷ 20 ∷ 30 ∷ 40 ∷ 50 ∷ 60 ∷ [])
    ∷ by 0 1 4 (G 5 2) (0 ∷ 20 ∷ 40 ∷ 60 ∷ 80 ∷ []) (0 ∷ 80 ∷ [])  -- the limit at one end alone
    ∷ by 1 0 0 (G 5 2) (0 ∷ 20 ∷ 40 ∷ 60 ∷ 80 ∷ []) (80 ∷ 90 ∷ [])  -- no limit where m is 0
    ∷ by 1 0 0 (G 2 7) (30 ∷ 50 ∷ []) (0 ∷ 10 ∷ 20 ∷ 30 ∷ 40 ∷ 50 ∷ 60 ∷ [])
    ∷ by 1 0 0 (G 4 1) (0 ∷ 20 ∷ 40 ∷ 60 ∷ []) (70 ∷ [])  -- n = 1
    ∷ by 0 0 1 (G 4 1) (0 ∷ 20 ∷ 40 ∷ 60 ∷ []) (0 ∷ [])
    ∷ by 1 3 2 (G 4 1) (0 ∷ 20 ∷ 40 ∷ 60 ∷ []) (23 ∷ [])
    ∷ by 0 3 0 (G 4 1) (0 ∷ 20 ∷ 40 ∷ 60 ∷ []) (35 ∷ [])  -- centred
    ∷ by 1 0 0 (J (3 ∷ [])) (10 ∷ []) (0 ∷ 10 ∷ 20 ∷ [])  -- a J of one character with a long run is G
    ∷ by 1 0 0 (M 3) (5 ∷ []) (0 ∷ 10 ∷ 20 ∷ [])  -- as a part it is M
    ∷ by 1 0 0 (J (1 ∷ 2 ∷ [])) (0 ∷ 20 ∷ []) (5 ∷ 20 ∷ 30 ∷ [])  -- runs stay centred over their own characters
    ∷ []

-- what level one gives: its answer, document 01's places, and what the writers put at the origin 0
pub record Told : Type 0 where
  pub answers : Answer
  pub alone : Places
  pub written : Places

pub got : Case → Told
unfolding form_of given_of answer places word_of base_starts ruby_starts
got c =
    let f = form_of c.element in
    let w = given_of c.ratios c.element in
    record { answers = answer f 0 w; alone = places f w; written = record { base = base_starts (word_of f w) 0 w.width; ruby = ruby_starts (word_of f w) 10 0 w.run w.ruby_width } }

pub wanted : Case → Told
unfolding form_of given_of word_of
wanted c =
    let p : Places = record { base = c.base; ruby = c.ruby } in
    record { answers = Set (word_of (form_of c.element) (given_of c.ratios c.element)); alone = p; written = p }

-- the one claim
pub all-cases : map got cases ≡ map wanted cases
unfolding got wanted cases
all-cases = refl

pub all-house : map got house ≡ map wanted house
unfolding got wanted house
all-house = refl
