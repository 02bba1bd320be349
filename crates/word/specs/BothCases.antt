-- Words with a reading on either side, worked by hand from document 02 (R-5): em 10, base 10 wide, ruby and left characters 5 wide, kana-like, both ratios 1:2:1 but where another stands.
-- One claim about all: their characters stand, by document 02's places and by the writers alike, where the hand put them.
use Rattle.std.specs.Prelude.{◌≡◌, refl, List, [], ◌∷◌, map, ℕ, replicate}
use Rattle.basics.specs.Lists.{sum}
use Rattle.spread.specs.Ratio.{Ratios, one_two_one, usual}
use Rattle.word.specs.declared.Form.{Form}
use Rattle.word.specs.declared.Form.TheVariants as form
use Rattle.word.specs.declared.Left.{Left}
use Rattle.word.specs.declared.Left.TheVariants as left
use Rattle.word.specs.Cases.{given}
use Rattle.word.specs.Both.{Both, Gloss, places}
use Rattle.word.specs.Sides.{word_of, block_starts, reading_starts}
use Rattle.word.specs.SidesJoined.{both_at}

pub record Case : Type 0 where
  pub ratios : Ratios
  pub form : Form
  pub bases : ℕ
  pub runs : List ℕ
  pub kind : Left
  pub lefts : List ℕ
  pub places : Both

case : Form → ℕ → List ℕ → Left → List ℕ → List ℕ → List ℕ → List ℕ → Case
case f b runs k lefts base right under =
    record { ratios = usual; form = f; bases = b; runs = runs; kind = k; lefts = lefts; places = record { base = base; right = right; left = under } }

pub cases : List Case
unfolding case
cases =
    -- all three strings are centred on the longest
    case form.M 1 (3 ∷ []) left.M (1 ∷ []) (5 ∷ []) (0 ∷ 10 ∷ 20 ∷ []) (10 ∷ [])
    ∷ case form.M 1 (1 ∷ []) left.M (3 ∷ []) (5 ∷ []) (10 ∷ []) (0 ∷ 10 ∷ 20 ∷ [])
    -- neither reading is longer than the base: each as a group alone, as K2, and a single character
    ∷ case form.G 3 (2 ∷ []) left.G (1 ∷ []) (0 ∷ 20 ∷ 40 ∷ []) (10 ∷ 40 ∷ []) (25 ∷ [])
    -- the right reading is the longer, as K4; the other over its length, where the limit holds either end: half an em, 30 within
    ∷ case form.G 2 (7 ∷ []) left.G (2 ∷ []) (7 ∷ 43 ∷ []) (0 ∷ 10 ∷ 20 ∷ 30 ∷ 40 ∷ 50 ∷ 60 ∷ []) (10 ∷ 50 ∷ [])
    -- the left one is
    ∷ case form.G 2 (2 ∷ []) left.G (7 ∷ []) (7 ∷ 43 ∷ []) (10 ∷ 50 ∷ []) (0 ∷ 10 ∷ 20 ∷ 30 ∷ 40 ∷ 50 ∷ 60 ∷ [])
    -- with the ruby ratio 1:0:0 the other reading stands at 50 to 70, and the block at 7 to 63
    ∷ record {
      ratios = record { ruby = record { a = 1; m = 0; c = 0 }; base = one_two_one };
      form = form.G;
      bases = 2;
      runs = 7 ∷ [];
      kind = left.G;
      lefts = 2 ∷ [];
      places = record { base = 7 ∷ 43 ∷ []; right = 0 ∷ 10 ∷ 20 ∷ 30 ∷ 40 ∷ 50 ∷ 60 ∷ []; left = 50 ∷ 60 ∷ [] };
    }
    -- runs over their own characters on both sides
    ∷ case form.J 2 (1 ∷ 2 ∷ []) left.J (2 ∷ 1 ∷ []) (0 ∷ 20 ∷ []) (5 ∷ 20 ∷ 30 ∷ []) (0 ∷ 10 ∷ 25 ∷ [])
    -- one run longer than one em, on either side: as group on both
    ∷ case form.J 2 (1 ∷ 3 ∷ []) left.J (1 ∷ 1 ∷ []) (0 ∷ 20 ∷ []) (0 ∷ 10 ∷ 20 ∷ 30 ∷ []) (5 ∷ 25 ∷ [])
    ∷ case form.J 2 (1 ∷ 1 ∷ []) left.J (3 ∷ 1 ∷ []) (0 ∷ 20 ∷ []) (5 ∷ 25 ∷ []) (0 ∷ 10 ∷ 20 ∷ 30 ∷ [])
    -- a left G: as group on both, though no run is longer
    ∷ case form.J 2 (1 ∷ 2 ∷ []) left.G (3 ∷ []) (0 ∷ 20 ∷ []) (1 ∷ 15 ∷ 29 ∷ []) (1 ∷ 15 ∷ 29 ∷ [])
    ∷ []

pub record Told : Type 0 where
  pub alone : Both
  pub written : Both

gloss : Case → Gloss
gloss c = record { kind = c.kind; class = replicate (sum c.lefts) 15; width = replicate (sum c.lefts) 5; run = c.lefts }

pub got : Case → Told
unfolding gloss given places word_of block_starts reading_starts
got c =
    let w = given c.ratios c.bases c.runs in
    let g = gloss c in
    record { alone = places c.form w g; written = both_at (word_of c.form w g) 10 0 w.width w.run w.ruby_width g.run g.width }

pub wanted : Case → Told
wanted c = record { alone = c.places; written = c.places }

-- the one claim
pub all-cases : map got cases ≡ map wanted cases
unfolding got wanted cases
all-cases = refl
