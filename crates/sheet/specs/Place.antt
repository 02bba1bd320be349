-- "13: job sheet text breaks its form; line from 1; 0 if over 65,535 bytes": the line is determined, and bytes that break the form are neither a sheet nor begin with a count over its maximum.
-- The theorems are in `proofs/Place.antt`.
use Rattle.std.specs.Prelude.{List, ◌≡◌, ℕ, ◌≤◌, Err, Result}
use Rattle.std.proofs.Common.{arith}
use Rattle.basics.specs.Lists.{All}
use Rattle.refusal.specs.declared.Refusal.TheVariants.{Form, Count}
use Rattle.refusal.specs.declared.Refusal.{Refusal}
use Rattle.rows.specs.Chain.{Section, ChainOver, here, behind}
use Rattle.elements.specs.declared.SheetForm.{SheetForm}
use Rattle.elements.specs.declared.SheetForm.TheVariants.{One, Two}
use Rattle.sheet.specs.declared.Counts.{Counts}
use Rattle.sheet.specs.Form.{sections, KeepsForm, Over, in_rows, in_elem}
use Rattle.sheet.specs.Breaks.{Breaks}

pub same_line : (r : Result Counts Refusal) (l m : ℕ) → r ≡ Err (Form l) → r ≡ Err (Form m) → l ≡ m
same_line r l m e f = cc

pub not-count : (r : Result Counts Refusal) (l m : ℕ) → r ≡ Err (Form l) → r ≡ Err (Count m) → ⊥
not-count r l m e f = let z : ◌≡◌ {A = ℕ} 0 1 = cc in omega arith

-- All bytes are one of three: a sheet, or a count over its maximum is the first fault in them, or they break the form on some line.
pub data OneOfThree (s : List ℕ) : Type 0 where
  keeps : KeepsForm s → OneOfThree s
  over : (which : ℕ) → Over s which → OneOfThree s
  breaks : (l : ℕ) → Breaks s l → OneOfThree s

-- a count over its maximum has a place up to 3
chain-which : {s : List ℕ} {xs : List Section} {at which : ℕ} → All (λ (x : Section). x.which ≤ 3) xs → ChainOver s xs at which → which ≤ 3
chain-which h (here x xs at n next c e) = h.0
chain-which h (behind x xs at which t p k e o) = chain-which h.1 o

few-places : (f : SheetForm) → All (λ (x : Section). x.which ≤ 3) (sections f)
unfolding sections
few-places One = (omega arith, (omega arith, tt))
few-places Two = (omega arith, (omega arith, (omega arith, tt)))

pub over-most : {s : List ℕ} {which : ℕ} → Over s which → which ≤ 3
over-most (in_rows f p which b o) = chain-which (few-places f) o
over-most (in_elem f p ts q n next b k e c h) = omega arith
