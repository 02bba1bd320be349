-- The lines of a job that passes the door: either they fill it, and no line is refused, or they come to one place where no permitted break can be set, and
-- that is number 11 with that place. Each of the two is shown both ways, so nothing else is ever refused there.
use Rattle.std.specs.Prelude.{◌≡◌, Bool, true, false, cond, ltb, refl, List, [], ◌∷◌, ℕ, zero, suc, ◌+◌, ◌≤◌, ◌<◌}
use Rattle.std.proofs.Common.{sym, ap, ◌∙◌, subst, inl, inr, arith, lt-ltb, le-ltb, zero-le}
use mathlib.Core.List.{head?}
use Rattle.std.proofs.Math.Option.{none, some}
use Rattle.std.proofs.Math.Decide.{dec_lt}
use Rattle.basics.specs.Lists.{each, keep}
use Rattle.refusal.specs.declared.Refusal.{Refusal}
use Rattle.refusal.specs.declared.Refusal.TheVariants.{NoBreak}
use Rattle.door.specs.Job.{Job, base_count}
use Rattle.door.specs.Passed.{Passed}
use Rattle.job.specs.Line.{furthest, ends_from, ends}
use Rattle.job.specs.Refusals.{no_break, line_faults, lines_faults}
use Rattle.job.specs.Promise.{CanSet, Break, Ends, Filled, Stuck}
use Rattle.job.proofs.Filled.{end_none, no_break_lem, line-ends, stuck-chain}
use Rattle.job.specs.Declined.{Way}

-- the refusals of at most n lines from s on
abbrev from : Job → ℕ → ℕ → List Refusal
from job n s = each (line_faults job) (keep (λ s. ltb s (base_count job)) (s ∷ ends_from job n s))

module _ (job : Job) (passed : Passed job) where
  at-end : (n s : ℕ) → s ≡ base_count job → Way job s (ends_from job n s) (from job n s)
  at-end n s e = inl (rw (end_none job n s (omega arith), le-ltb s (base_count job) (omega arith)), rw (end_none job n s (omega arith)) e)

  -- the first line, and the lines after it
  step : (n s : ℕ) → s < base_count job →
      ((e : ℕ) → s < e → e ≤ base_count job → Way job e (ends_from job n e) (from job n e)) → Way job s (ends_from job (suc n) s) (from job (suc n) s)
  unfolding ends_from no_break
  step n s h f = go (no_break job s) refl
    where
      e : ℕ
      e = furthest job s

      keeps : ltb s (base_count job) ≡ true
      keeps = lt-ltb s (base_count job) h

      here : no_break job s ≡ true → from job (suc n) s ≡ NoBreak s ∷ []
      here b = rw (b, keeps, b)

      later : no_break job s ≡ false → from job (suc n) s ≡ from job n e
      later b = rw (b, keeps, b)

      move : Ends job s e → Way job e (ends_from job n e) (from job n e) → no_break job s ≡ false → Way job s (e ∷ ends_from job n e) (from job (suc n) s)
      move l (inl w) b = inl (later b ∙ w.0, (l, w.1))
      move l (inr w) b = inr (record { place = w.place; lines = (l, w.lines); more = w.more; none = w.none; fault = later b ∙ w.fault })

      go : (t : Bool) → no_break job s ≡ t → Way job s (cond (no_break job s) [] (e ∷ ends_from job n e)) (from job (suc n) s)
      go true b =
          subst (λ t. Way job s (cond t [] (e ∷ ends_from job n e)) (from job (suc n) s)) (sym b) (inr (record { place = s; lines = refl; more = h; none = b; fault = here b }))
      go false b =
          let l = line-ends job passed s b in
          subst (λ t. Way job s (cond t [] (e ∷ ends_from job n e)) (from job (suc n) s)) (sym b) (move l (f e l.at.ahead l.at.within) b)

  way : (n s : ℕ) → s ≤ base_count job → base_count job ≤ s + n → Way job s (ends_from job n s) (from job n s)
  way zero s h k = at-end zero s (omega arith)
  way (suc n) s h k =
      elim (dec_lt s (base_count job)) [
        | yes g ↦ step n s g (λ e l u. way n e u (omega arith))
        | no g ↦ at-end (suc n) s (last g)
      ]
    where
      last : (s < base_count job → ⊥) → s ≡ base_count job
      last g = omega arith

  pub lines-way : Way job 0 (ends job) (lines_faults job)
  unfolding ends lines_faults
  lines-way = way (base_count job) 0 zero-le (omega arith)

  -- No line is refused exactly when the lines fill the job.

  none-some : (r : Refusal) {xs : List Refusal} → xs ≡ [] → xs ≡ r ∷ [] → ⊥
  none-some r e f = let z : ◌≡◌ {A = ℕ} 0 1 = cc in omega arith

  pub filled : lines_faults job ≡ [] → Filled job (ends job)
  filled e = go lines-way
    where
      go : Way job 0 (ends job) (lines_faults job) → Filled job (ends job)
      go (inl w) = w.1
      go (inr w) = absurd (none-some (NoBreak w.place) e w.fault)

  end-ends : (e : ℕ) → Ends job (base_count job) e → ⊥
  end-ends e l = omega (arith, l.at.ahead, l.at.within)

  stop-ends : (s : ℕ) → ((e : ℕ) → Break job s e → CanSet job s e → ⊥) → (e : ℕ) → Ends job s e → ⊥
  stop-ends s f e l = f e l.at l.set

  pub fills : (es : List ℕ) → Filled job es → lines_faults job ≡ []
  fills es c = go lines-way
    where
      go : Way job 0 (ends job) (lines_faults job) → lines_faults job ≡ []
      go (inl w) = w.0
      go (inr w) =
          absurd (omega (arith, w.more, stuck-chain job 0 w.place (base_count job) (ends job) es w.lines c (stop-ends w.place (no_break_lem job passed w.place w.none)) end-ends))

  -- Number 11 is given exactly where the lines are stuck.

  pub stuck : (s : ℕ) → head? (lines_faults job) ≡ some (NoBreak s) → Stuck job s
  stuck s e = go lines-way
    where
      go : Way job 0 (ends job) (lines_faults job) → Stuck job s
      go (inl w) = absurd cc
      go (inr w) =
          let h : w.place ≡ s = same w.place (lines_faults job) w.fault e in
          subst (Stuck job) h (record { sofar = ends job; lines = w.lines; more = w.more; none = no_break_lem job passed w.place w.none })
        where
          same : (t : ℕ) (xs : List Refusal) → xs ≡ NoBreak t ∷ [] → head? xs ≡ some (NoBreak s) → t ≡ s
          same t xs f g = let q : some (NoBreak t) ≡ some (NoBreak s) = sym (ap head? f) ∙ g in cc

  -- and nothing else is refused in the lines
  pub nothing_else : (r : Refusal) → ((s : ℕ) → r ≡ NoBreak s → ⊥) → head? (lines_faults job) ≡ some r → ⊥
  nothing_else r f e = go lines-way
    where
      go : Way job 0 (ends job) (lines_faults job) → ⊥
      go (inl w) = let z : ◌≡◌ {A = ℕ} 0 1 = none-head (lines_faults job) w.0 e in omega arith
        where
          none-head : (xs : List Refusal) → xs ≡ [] → head? xs ≡ some r → ◌≡◌ {A = ℕ} 0 1
          none-head xs p q = let k : none ≡ some r = sym (ap head? p) ∙ q in cc
      go (inr w) = f w.place (same w.place (lines_faults job) w.fault e)
        where
          same : (t : ℕ) (xs : List Refusal) → xs ≡ NoBreak t ∷ [] → head? xs ≡ some r → r ≡ NoBreak t
          same t xs p q = let k : some (NoBreak t) ≡ some r = sym (ap head? p) ∙ q in cc

  pub sticks : (s : ℕ) → Stuck job s → lines_faults job ≡ NoBreak s ∷ []
  sticks s k = go lines-way
    where
      go : Way job 0 (ends job) (lines_faults job) → lines_faults job ≡ NoBreak s ∷ []
      go (inl w) = absurd (omega (arith, k.more, stuck-chain job 0 s (base_count job) k.sofar (ends job) k.lines w.1 (stop-ends s k.none) end-ends))
      go (inr w) =
          let h : w.place ≡ s = stuck-chain job 0 w.place s (ends job) k.sofar w.lines k.lines (stop-ends w.place (no_break_lem job passed w.place w.none)) (stop-ends s k.none) in
          w.fault ∙ ap {B = List Refusal} (λ t. NoBreak t ∷ []) h
