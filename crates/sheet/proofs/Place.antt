-- "13: job sheet text breaks its form; line from 1; 0 if over 65,535 bytes": the line is determined, and bytes that break the form are neither a sheet nor begin with a count over its maximum.
use Rattle.std.specs.Prelude.{List, ◌≡◌, ℕ}
use Rattle.sheet.specs.Sheet.{reading}
use Rattle.sheet.specs.Form.{KeepsForm, Over}
use Rattle.sheet.specs.Breaks.{Breaks}
use Rattle.sheet.specs.Reads.{SheetIs, over_reads}
use Rattle.sheet.proofs.Came.{sheet-is, breaks-reads}
use Rattle.sheet.proofs.Exact.{sound-not, sound-keeps}
use Rattle.sheet.specs.Place.{same_line, not-count, OneOfThree, keeps, over, breaks}

pub one_place : (s : List ℕ) (l m : ℕ) → Breaks s l → Breaks s m → l ≡ m
one_place s l m x y = same_line (reading s).end l m (breaks-reads s l x) (breaks-reads s m y)

pub one_of_three : (s : List ℕ) → OneOfThree s
one_of_three s = go (sheet-is s)
  where
    go : SheetIs s → OneOfThree s
    go (SheetIs.broken l b) = breaks l b
    go (SheetIs.over which o) = over which o
    go (SheetIs.stands f r form text) = keeps (record { form = f; numbers = r; keeps = form; text = text })

-- and no two of them
pub keeps-alone : (s : List ℕ) → KeepsForm s → ((which : ℕ) → Over s which → ⊥) × ((l : ℕ) → Breaks s l → ⊥)
keeps-alone s k =
    let c = (sound-keeps s).1 k in
    (λ w o. sound-not s c.0 c.1 (over_reads o), λ l b. sound-not s c.0 c.1 (breaks-reads s l b))

pub breaks-alone : (s : List ℕ) (l which : ℕ) → Breaks s l → Over s which → ⊥
breaks-alone s l which b o = not-count (reading s).end l which (breaks-reads s l b) (over_reads o)
