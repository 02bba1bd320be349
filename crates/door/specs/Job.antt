-- The job as the entry point gets it, and its elements (document 01, "The job").
use Rattle.std.specs.Prelude.{Bool, true, false, cond, List, [], ◌∷◌, map, ℕ, zero, suc, ◌+◌, min, eqb, length, get_or}
use Rattle.basics.specs.Lists.{sum, count, any}
use Rattle.spread.specs.Ratio.{Ratios, ratios_of}
use Rattle.word.specs.declared.Form.{Form}
use Rattle.word.specs.declared.Form.TheVariants.{P, M, G, J}
use Rattle.word.specs.declared.Left.{Left}
use Rattle.word.specs.declared.Left.TheVariants as left
use Rattle.word.specs.Given.{Given}
use Rattle.word.specs.Both.{Gloss}
use Rattle.door.specs.declared.Taken.{Taken}
use Rattle.door.specs.declared.Piece.{Piece}

-- em, measure, the house ratios (R-4) and the profile (R-8); each field in a list of its own, left characters and what an element says of them (R-5) among them. em, measure and widths are in units.
pub record Job : Type 0 where
  pub em : ℕ
  pub measure : ℕ
  pub ratios : Ratios
  pub profile : ℕ
  pub class : List ℕ
  pub width : List ℕ
  pub before : List ℕ
  pub after : List ℕ
  pub flag : List ℕ
  pub ruby_class : List ℕ
  pub ruby_width : List ℕ
  pub left_class : List ℕ
  pub left_width : List ℕ
  pub kind : List ℕ
  pub element_base : List ℕ
  pub element_ruby : List ℕ
  pub left_kind : List ℕ
  pub element_left : List ℕ
  pub run : List ℕ
  pub left_run : List ℕ

-- a job by its numbers and lists, as the entry point is lent them
abbrev pub job_of : ℕ → ℕ → List (List ℕ) → ℕ → List ℕ → List ℕ → List ℕ → List ℕ → List ℕ → List ℕ → List ℕ → List ℕ → List ℕ → List ℕ → List ℕ → List ℕ → List ℕ → List ℕ → List ℕ → List ℕ → Job
job_of em measure ratios profile class width before after flag ruby_class ruby_width left_class left_width kind element_base element_ruby left_kind element_left run left_run =
    record {
      em = em;
      measure = measure;
      ratios = ratios_of ratios;
      profile = profile;
      class = class;
      width = width;
      before = before;
      after = after;
      flag = flag;
      ruby_class = ruby_class;
      ruby_width = ruby_width;
      left_class = left_class;
      left_width = left_width;
      kind = kind;
      element_base = element_base;
      element_ruby = element_ruby;
      left_kind = left_kind;
      element_left = element_left;
      run = run;
      left_run = left_run;
    }

-- the job with another measure
abbrev pub with_measure : ℕ → Job → Job
with_measure measure job =
    record {
      em = job.em;
      measure = measure;
      ratios = job.ratios;
      profile = job.profile;
      class = job.class;
      width = job.width;
      before = job.before;
      after = job.after;
      flag = job.flag;
      ruby_class = job.ruby_class;
      ruby_width = job.ruby_width;
      left_class = job.left_class;
      left_width = job.left_width;
      kind = job.kind;
      element_base = job.element_base;
      element_ruby = job.element_ruby;
      left_kind = job.left_kind;
      element_left = job.element_left;
      run = job.run;
      left_run = job.left_run;
    }

-- "Where a kind's fields come in several lists, its count is the shortest list's length"
unfoldable pub base_count : Job → ℕ
base_count job = min (length job.class) (min (length job.width) (min (length job.before) (min (length job.after) (length job.flag))))

unfoldable pub ruby_count : Job → ℕ
ruby_count job = min (length job.ruby_class) (length job.ruby_width)

unfoldable pub left_count : Job → ℕ
left_count job = min (length job.left_class) (length job.left_width)

unfoldable pub element_count : Job → ℕ
element_count job = min (length job.kind) (min (length job.element_base) (min (length job.element_ruby) (min (length job.left_kind) (length job.element_left))))

-- the n entries from i on; "a J run past the end of its list reads as 0, and spare runs are not read"
abbrev pub entries : List ℕ → ℕ → ℕ → List ℕ
entries xs i n = map (λ j. get_or xs j 0) (count i n)

-- a kind is written in its list as its letter on the sheet: P, M, G, J
abbrev pub known : ℕ → Bool
known n = any (eqb n) (80 ∷ 77 ∷ 71 ∷ 74 ∷ [])

-- its form; a kind that is not known is refused (5) before its form matters
abbrev pub form_of : ℕ → Form
form_of n = cond (eqb n 77) M (cond (eqb n 71) G (cond (eqb n 74) J P))

-- "Nor are counts a kind doesn't show on the sheet [read]: both of P, the base count of M, the ruby count of J"
abbrev pub takes_base : Form → ℕ → ℕ
takes_base P b = 1
takes_base M b = 1
takes_base G b = b
takes_base J b = b

abbrev pub takes_ruby : Form → ℕ → ℕ → ℕ
takes_ruby P r runs = 0
takes_ruby M r runs = r
takes_ruby G r runs = r
takes_ruby J r runs = runs

abbrev pub takes_runs : Form → ℕ → ℕ
takes_runs P b = 0
takes_runs M b = 0
takes_runs G b = 0
takes_runs J b = b

-- a left kind is written as its letter too: M, G, J, and N for none
abbrev pub known_left : ℕ → Bool
known_left n = any (eqb n) (78 ∷ 77 ∷ 71 ∷ 74 ∷ [])

abbrev pub left_of : ℕ → Left
left_of n = cond (eqb n 77) left.M (cond (eqb n 71) left.G (cond (eqb n 74) left.J left.N))

-- A left reading has one count on its element, or a run for each base character: a G has one, and an M on an M; an M or a J on any other element has runs, "as for right ones".
-- Nothing is read of N, nor on a P, which takes no left reading.
abbrev pub left_by_runs : Form → Left → Bool
left_by_runs form left.N = false
left_by_runs form left.G = false
left_by_runs P left.M = false
left_by_runs M left.M = false
left_by_runs G left.M = true
left_by_runs J left.M = true
left_by_runs P left.J = false
left_by_runs M left.J = true
left_by_runs G left.J = true
left_by_runs J left.J = true

abbrev pub left_by_count : Form → Left → Bool
left_by_count form left.N = false
left_by_count P left.G = false
left_by_count M left.G = true
left_by_count G left.G = true
left_by_count J left.G = true
left_by_count P left.M = false
left_by_count M left.M = true
left_by_count G left.M = false
left_by_count J left.M = false
left_by_count form left.J = false

abbrev pub takes_left : Form → Left → ℕ → ℕ → ℕ
takes_left form gloss l runs = cond (left_by_runs form gloss) runs (cond (left_by_count form gloss) l 0)

abbrev pub takes_left_runs : Form → Left → ℕ → ℕ
takes_left_runs form gloss n = cond (left_by_runs form gloss) n 0

-- nothing is taken before the first element
abbrev pub nothing : Taken
nothing = record { base = 0; ruby = 0; run = 0; left = 0; leftrun = 0 }

-- element k, where those before it have taken `at`
unfoldable pub element : Job → ℕ → Taken → Piece
element job k at =
    let form = form_of (get_or job.kind k 0) in
    let gloss = left_of (get_or job.left_kind k 0) in
    let n = takes_base form (get_or job.element_base k 0) in
    record {
      form = form;
      base = at.base;
      bases = n;
      ruby = at.ruby;
      rubies = takes_ruby form (get_or job.element_ruby k 0) (sum (entries job.run at.run n));
      run = at.run;
      gloss = gloss;
      left = at.left;
      lefts = takes_left form gloss (get_or job.element_left k 0) (sum (entries job.left_run at.leftrun n));
      leftrun = at.leftrun;
      more = false;
    }

-- what is taken with an element
abbrev pub past : Taken → Piece → Taken
past at x =
    record {
      base = at.base + x.bases;
      ruby = at.ruby + x.rubies;
      run = at.run + takes_runs x.form x.bases;
      left = at.left + x.lefts;
      leftrun = at.leftrun + takes_left_runs x.form x.gloss x.bases;
    }

-- "Elements take base and ruby characters in order": n elements from the k-th on
unfoldable pub elements_from : Job → ℕ → ℕ → Taken → List Piece
unfolding element
elements_from job zero k at = []
elements_from job (suc n) k at = let e = element job k at in e ∷ elements_from job n (suc k) (past at e)

unfoldable pub elements : Job → List Piece
unfolding elements_from element_count
elements job = elements_from job (element_count job) 0 nothing

-- what level one is given of a piece: its own characters and runs
abbrev pub given : Job → Piece → Given
given job p =
    record {
      em = job.em;
      ratios = job.ratios;
      class = entries job.class p.base p.bases;
      width = entries job.width p.base p.bases;
      before = entries job.before p.base p.bases;
      after = entries job.after p.base p.bases;
      ruby_class = entries job.ruby_class p.ruby p.rubies;
      ruby_width = entries job.ruby_width p.ruby p.rubies;
      run = entries job.run p.run p.bases;
    }

-- and of its left reading
abbrev pub gloss_of : Job → Piece → Gloss
gloss_of job p =
    record {
      kind = p.gloss;
      class = entries job.left_class p.left p.lefts;
      width = entries job.left_width p.left p.lefts;
      run = entries job.left_run p.leftrun p.bases;
    }
