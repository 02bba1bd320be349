-- What measure would do: neither the breaks nor the extents of a job's lines read its measure, so the needed extent tells of the same job with any other.
use Rattle.std.specs.Prelude.{◌≡◌, true, ◌↔◌}
use Rattle.std.proofs.Math.Path.{refl, sym, ap, subst}
use Rattle.std.proofs.Common.{◌∙◌, le-leb, leb-true}
use mathlib.Core.List.{List, ◌∷◌}
use Prim.Native.Nat.{ℕ, zero, suc, ◌*◌, ◌≤◌, ◌<◌}
use Rattle.door.specs.declared.Piece.{Piece}
use Rattle.door.specs.declared.Taken.{Taken}
use Rattle.door.specs.Job.{Job, with_measure, base_count, element_count, nothing, past, element, elements_from, elements}
use Rattle.job.specs.Line.{part, words_in, words, cuts, in_line, pieces, seen, line_of, origins, extent_of, can_set, permitted}
use Rattle.job.specs.Promise.{Break}
use Rattle.shortest.specs.Needed.{needed}
use Rattle.shortest.specs.Theorems.{exactly}

module _ (m : ℕ) (job : Job) where
  same_from : (n k : ℕ) (at : Taken) → elements_from (with_measure m job) n k at ≡ elements_from job n k at
  unfolding elements_from element
  same_from zero k at = refl
  same_from (suc n) k at = let x = element job k at in ap {B = List Piece} (λ xs. x ∷ xs) (same_from n (suc k) (past at x))

  same_count : base_count (with_measure m job) ≡ base_count job
  unfolding base_count
  same_count = refl

  same-elements : elements (with_measure m job) ≡ elements job
  unfolding elements element_count
  same-elements = same_from (element_count job) 0 nothing

  same-permitted : (e : ℕ) → permitted (with_measure m job) e ≡ permitted job e
  unfolding permitted base_count cuts
  same-permitted e = rw same-elements

  same-pieces : (s e : ℕ) → pieces (with_measure m job) s e ≡ pieces job s e
  unfolding pieces in_line part cuts words words_in
  same-pieces s e = rw same-elements

  same_line : (s e : ℕ) → line_of (with_measure m job) s e ≡ line_of job s e
  unfolding line_of seen
  same_line s e = rw (same-pieces s e)

  same-extent : (s e : ℕ) → extent_of (with_measure m job) s e ≡ extent_of job s e
  unfolding extent_of origins
  same-extent s e = rw (same_line s e)

  same_break : (s e : ℕ) → Break (with_measure m job) s e ↔ Break job s e
  unfolding base_count
  same_break s e = (
    λ b. record { ahead = b.ahead; within = b.within; permits = sym (same-permitted e) ∙ b.permits },
    λ b. record { ahead = b.ahead; within = b.within; permits = same-permitted e ∙ b.permits },
  )

  -- With the measure m in the place of its own, some permitted break gives a line from s that can be set exactly when the needed extent is at most twice m.
  -- So that is by how much the measure falls short.
  pub would_do : (s : ℕ) → s < base_count job → ((e : ℕ) × Break (with_measure m job) s e × (can_set (with_measure m job) s e ≡ true)) ↔ (needed job s ≤ 2 * m)
  unfolding can_set
  would_do s h = (to, from)
    where
      to : ((e : ℕ) × Break (with_measure m job) s e × (can_set (with_measure m job) s e ≡ true)) → needed job s ≤ 2 * m
      to (e, b, c) = (exactly job s h m).0 (e, (same_break s e).0 b, subst (λ (n : ℕ). n ≤ 2 * m) (same-extent s e) (leb-true _ _ c))

      from : needed job s ≤ 2 * m → (e : ℕ) × Break (with_measure m job) s e × (can_set (with_measure m job) s e ≡ true)
      from l = let a = (exactly job s h m).1 l in (a.0, (same_break s a.0).1 a.1, le-leb _ _ (subst (λ (n : ℕ). n ≤ 2 * m) (sym (same-extent s a.0)) a.2))
