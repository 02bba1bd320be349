-- No element and no refusal of one depends on the measure.
use Rattle.std.specs.Prelude.{◌≡◌}
use Rattle.std.proofs.Math.Path.{refl, ap}
use mathlib.Core.List.{List, [], ◌∷◌, ◌++◌}
use Prim.Native.Nat.{ℕ, zero, suc}
use Rattle.refusal.specs.declared.Refusal.{Refusal}
use Rattle.door.specs.declared.Taken.{Taken}
use Rattle.door.specs.declared.Piece.{Piece}
use Rattle.door.specs.Job.{Job, with_measure, base_count, ruby_count, left_count, element_count, nothing, past, element, elements_from, elements}
use Rattle.door.specs.Refusals.{element_faults, elements_faults, left_faults}
use Rattle.door.specs.Loop.{part_faults}

module _ (measure : ℕ) (job : Job) where
  same_from : (n k : ℕ) (at : Taken) → elements_from (with_measure measure job) n k at ≡ elements_from job n k at
  unfolding elements_from element
  same_from zero k at = refl
  same_from (suc n) k at = let x = element job k at in ap (λ (l : List Piece). x ∷ l) (same_from n (suc k) (past at x))

  pub same-elements : elements (with_measure measure job) ≡ elements job
  unfolding elements element_count
  same-elements = same_from (element_count job) 0 nothing

  same_rows : (k : ℕ) (es : List Piece) → elements_faults (with_measure measure job) k es ≡ elements_faults job k es
  unfolding elements_faults base_count ruby_count left_count
  same_rows k [] = refl
  same_rows k (e ∷ es) = ap (λ (l : List Refusal). element_faults job k e ++ l) (same_rows (suc k) es)

  pub same-faults : part_faults (with_measure measure job) ≡ part_faults job
  unfolding left_faults base_count ruby_count left_count element_count
  same-faults = rw (same_rows 0 (elements (with_measure measure job)), same-elements)
