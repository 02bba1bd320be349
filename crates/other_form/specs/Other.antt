-- A sheet in the other form (document 02, R-6), and when form one can't hold a sheet of form two. "A converter takes every form one sheet .. to form two and back to the same bytes"; "Form two goes
-- back only if it has no left reading, both ratios are 1:2:1 and the profile is 0."
use Rattle.std.specs.Prelude.{Bool, true, false, cond, ◌||◌, List, [], ◌∷◌, ◌++◌, ◌≡◌, ℕ, ◌+◌, eqb, ltb, length}
use Rattle.basics.specs.Lists.{All, any}
use Rattle.elements.specs.declared.SheetForm.{SheetForm}
use Rattle.elements.specs.declared.SheetForm.TheVariants.{One, Two}
use Rattle.elements.specs.Print.{Entry, Left, P, word, none, mono, group, jukugo}
use Rattle.sheet.specs.Sheet.{plain, reading}
use Rattle.sheet.specs.Form.{Written, sheet_text, written_of}

unfoldable pub other : SheetForm → SheetForm
other One = Two
other Two = One

-- the numbers that were read, written in the other form
unfoldable pub other_text : List ℕ → List ℕ
unfolding sheet_text written_of reading other
other_text s = sheet_text (other (reading s).form) (written_of (reading s))

-- "a letter for the left kind (M, G, J; N for none)": whether it says a left reading
abbrev pub reads : Left → Bool
reads none = false
reads (mono counts) = true
reads (group count) = true
reads (jukugo counts) = true

abbrev pub has_left : Entry → Bool
has_left P = false
has_left (word r l) = reads l

-- "only if it has no left reading, both ratios are 1:2:1 and the profile is 0": no left characters, and no letter but N
pub record Holds (r : Written) : Type 0 where
  pub house : r.house ≡ plain
  pub left : r.left ≡ []
  pub letters : All (λ (e : Entry). has_left e ≡ false) r.elem

-- The lines at fault. Numbers stand one a line, of which the first has the number `line`.
unfoldable pub unlike : ℕ → List ℕ → List ℕ → List ℕ
unlike line [] ps = []
unlike line (v ∷ vs) [] = []
unlike line (v ∷ vs) (p ∷ ps) = cond (eqb v p) [] (line ∷ []) ++ unlike (line + 1) vs ps

-- "(a reading: the `left` count line)": behind the first line, nine numbers, the `base` section and the `ruby` section
abbrev pub left_line : ℕ → ℕ → ℕ
left_line bases rubies = bases + rubies + 13

abbrev pub has_reading : Written → Bool
has_reading r = ltb 0 (length r.left) || any has_left r.elem

-- the ratios from line 4 on, the profile on line 10, and a reading
unfoldable pub faults : Written → List ℕ
unfolding unlike
faults r = unlike 4 r.house plain ++ cond (has_reading r) (left_line (length r.base) (length r.ruby) ∷ []) []

abbrev pub first_or : ℕ → List ℕ → ℕ
first_or d [] = d
first_or d (x ∷ xs) = x

-- "17, a form two sheet that form one can't hold, .. place the first line at fault": 0 where there is none
unfoldable pub fault_line : Written → ℕ
unfolding faults
fault_line r = first_or 0 (faults r)
