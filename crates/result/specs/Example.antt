-- Texts of whole results, computed: the output that document 01 has for its sheet, a J in one line, left readings, and a job without elements.
use Rattle.std.specs.Prelude.{◌≡◌, refl, List, [], ◌∷◌, ℕ, length, replicate}
use Rattle.spread.specs.Ratio.{usual}
use Rattle.refusal.specs.declared.Refusal.TheVariants.{NoBreak}
use Rattle.door.specs.Job.{Job}
use Rattle.job.specs.Outcome.{outcome}
use Rattle.result.specs.Text.{bytes, result_text, refusal_text}

-- em 10, all base characters 10 wide without blanks, flag 1, all ruby and left characters of class 15 and 5 wide; an element has its kind, its counts, and its left kind and left count
abbrev pub glossed : ℕ → List ℕ → ℕ → ℕ → List ℕ → List ℕ → List ℕ → List ℕ → List ℕ → List ℕ → List ℕ → Job
glossed measure classes rubies lefts kinds bases counts leftKinds leftCounts runs left_runs =
    record {
      em = 10;
      measure = measure;
      ratios = usual;
      profile = 0;
      class = classes;
      width = replicate (length classes) 10;
      before = replicate (length classes) 0;
      after = replicate (length classes) 0;
      flag = replicate (length classes) 1;
      ruby_class = replicate rubies 15;
      ruby_width = replicate rubies 5;
      left_class = replicate lefts 15;
      left_width = replicate lefts 5;
      kind = kinds;
      element_base = bases;
      element_ruby = counts;
      left_kind = leftKinds;
      element_left = leftCounts;
      run = runs;
      left_run = left_runs;
    }

-- without left readings
abbrev pub plain : ℕ → List ℕ → ℕ → List ℕ → List ℕ → List ℕ → List ℕ → Job
plain measure classes rubies kinds bases counts runs =
    glossed measure classes rubies 0 kinds bases counts (replicate (length kinds) 78) (replicate (length kinds) 0) runs []

-- the text of what the entry point leaves in lists that were 0
pub text_of : Job → List ℕ
unfolding outcome result_text
text_of job = let o = outcome job (replicate 8 0) (replicate 8 0) (replicate 8 0) (replicate 8 0) in result_text job o.base o.ruby o.left

-- the sheet's `M 3`, `P`, `J 2 1 2` at measure 35
abbrev pub sheet : Job
sheet = plain 35 (19 ∷ 15 ∷ 19 ∷ 19 ∷ []) 6 (77 ∷ 80 ∷ 74 ∷ []) (1 ∷ 1 ∷ 2 ∷ []) (3 ∷ 0 ∷ 3 ∷ []) (1 ∷ 2 ∷ [])

pub sheet_text : text_of sheet ≡ bytes "lines 2\nline 70\nb 0 5\nr 0 0\nr 1 10\nr 2 20\nb 1 30\nb 2 50\nr 3 55\nline 20\nb 3 0\nr 4 0\nr 5 10\n"
unfolding text_of
sheet_text = refl

-- K7: all base characters of the J come before its ruby characters
abbrev pub jukugo : Job
jukugo = plain 1000 (19 ∷ 19 ∷ []) 3 (74 ∷ []) (2 ∷ []) (3 ∷ []) (1 ∷ 2 ∷ [])

pub jukugo-text : text_of jukugo ≡ bytes "lines 1\nline 40\nb 0 0\nb 1 20\nr 0 5\nr 1 20\nr 2 30\n"
unfolding text_of
jukugo-text = refl

-- R-5: an M with three ruby characters and one left character, and a J of three with runs 1, 2, 1 and a mono left reading of 2, 1, 1. The M's strings are centred on its ruby, the longest: base
-- at 15 - 10, left at 15 - 5. The J's first character stands clear of that ruby at 30, and each next one behind the one before; its runs of 5 and 10 units are centred on its 10. Its rows are
-- printed together: all `b`, then all `r`, then all `l`.
abbrev pub glosses : ℕ → Job
glosses measure =
    glossed measure (19 ∷ 19 ∷ 19 ∷ 19 ∷ []) 7 5 (77 ∷ 74 ∷ []) (1 ∷ 3 ∷ []) (3 ∷ 0 ∷ []) (77 ∷ 77 ∷ []) (1 ∷ 0 ∷ []) (1 ∷ 2 ∷ 1 ∷ []) (2 ∷ 1 ∷ 1 ∷ [])

pub glosses-text : text_of (glosses 1000) ≡ bytes "lines 1\nline 90\nb 0 5\nr 0 0\nr 1 10\nr 2 20\nl 0 10\nb 1 30\nb 2 50\nb 3 70\nr 3 35\nr 4 50\nr 5 60\nr 6 75\nl 1 30\nl 2 40\nl 3 55\nl 4 75\n"
unfolding text_of
glosses-text = refl

-- with a measure of 35 the line ends behind the J's second character, and its part of two is printed together
pub cut-text : text_of (glosses 35) ≡ bytes "lines 2\nline 70\nb 0 5\nr 0 0\nr 1 10\nr 2 20\nl 0 10\nb 1 30\nb 2 50\nr 3 35\nr 4 50\nr 5 60\nl 1 30\nl 2 40\nl 3 55\nline 20\nb 3 0\nr 6 5\nl 4 5\n"
unfolding text_of
cut-text = refl

-- "zero elements give zero lines"
pub empty-text : text_of (plain 35 [] 0 [] [] [] []) ≡ bytes "lines 0\n"
unfolding text_of
empty-text = refl

pub refusal_text_lem : refusal_text (NoBreak 3) ≡ bytes "refused 11 3\n"
unfolding refusal_text
refusal_text_lem = refl
