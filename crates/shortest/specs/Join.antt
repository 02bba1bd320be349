-- A table that holds a job that passed the door: what its rows say that a line needs is what the job says.
use Rattle.std.specs.Prelude.{◌≡◌, Bool}
use Rattle.std.proofs.Math.Path.{refl, ap}
use Rattle.std.proofs.Common.{sym, ◌∙◌}
use Rattle.std.proofs.Math.Bool.{true, false, cond}
use mathlib.Core.List.{List, [], ◌∷◌, ◌++◌, map, map-append, append-nil}
use Prim.Native.Nat.{ℕ, zero, suc, ◌+◌, ◌-◌, ◌≤◌, ◌<◌, min}
use native.Mathlib.Omega.{arith}
use Rattle.basics.specs.Lists.{count, keep}
use Rattle.refusal.specs.declared.Refusal.TheVariants.{NoBreak}
use Rattle.line.specs.Setting.{furthest}
use Rattle.cells.specs.Rows.{Rows}
use Rattle.cells.specs.Cells.{may_end}
use Rattle.cells.specs.Sound.{Sound}
use Rattle.door.specs.Job.{Job, base_count}
use Rattle.door.specs.Passed.{Passed}
use Rattle.job.specs.declared.Answer.TheVariants.{Refused}
use Rattle.job.specs.Line.{extent_of, permitted, tries}
use Rattle.job.specs.Laws.{count-join, keep_append}
use Rattle.job.specs.Outcome.{outcome}
use Rattle.job.proofs.Walk.{extent_of_lem}
use Rattle.join.specs.Rows.{Holds}
use Rattle.join.specs.Join.{sound, state-join, may_join}
use Rattle.shortest.specs.Needed.{least, needed}
use Rattle.shortest.specs.Shortest.{least_of, extent_at, needed_of, least-same}
use Rattle.shortest.specs.Theorems.{entered, refused-ahead}

-- The least by numbers is the least of a list.

least_more : (d y : ℕ) (xs : List ℕ) → least d (xs ++ (y ∷ [])) ≡ min y (least d xs)
least_more d y [] = refl
least_more d y (x ∷ xs) = ap (min x) (least_more d y xs) ∙ swap x y (least d xs)
  where
    swap : (a b c : ℕ) → min a (min b c) ≡ min b (min a c)
    swap a b c = omega arith

module _ (p : ℕ → Bool) (f : ℕ → ℕ) (d s : ℕ) where
  abbrev listed : ℕ → List ℕ
  listed k = keep p (count (suc s) k)

  -- one number more
  listed_more : (k : ℕ) → listed (suc k) ≡ listed k ++ cond (p (s + suc k)) ((s + suc k) ∷ []) []
  listed_more k = ap (keep p) (sym (count-join (suc s) (s + suc k) k 1 (suc k) (omega arith) (omega arith))) ∙ keep_append p (count (suc s) k) ((s + suc k) ∷ [])

  least-listed : (k : ℕ) → least_of p f d s k ≡ least d (map f (listed k))
  unfolding least_of
  least-listed zero = refl
  least-listed (suc k) = rw (least-listed k) (sym (ap (λ (es : List ℕ). least d (map f es)) (listed_more k) ∙ go (p (s + suc k)) (s + suc k) (listed k)))
    where
      go : (b : Bool) (c : ℕ) (es : List ℕ) → least d (map f (es ++ cond b (c ∷ []) [])) ≡ cond b (min (f c) (least d (map f es))) (least d (map f es))
      go true c es = ap (least d) (map-append f es (c ∷ [])) ∙ least_more d (f c) (map f es)
      go false c es = ap (λ (es : List ℕ). least d (map f es)) (append-nil es)

module _ (job : Job) (passed : Passed job) (t : Rows) (table : Holds job t) (s : ℕ) (h : s < base_count job) where
  extent-join : (c : ℕ) → s < c → c ≤ base_count job → extent_at t s c ≡ extent_of job s c
  extent-join c l u = ap furthest (state-join job passed t table s c l u) ∙ sym (extent_of_lem job s c)

  -- THE JOIN
  pub needed-join : needed_of t (base_count job) s ≡ needed job s
  unfolding needed_of needed tries
  needed-join =
      least-same (may_end t (base_count job)) (extent_at t s) (extent_at t s (base_count job)) s (permitted job) (extent_of job s) (base_count job - s)
      (λ c l u. let v : c ≤ base_count job = omega arith in (may_join job passed t table c (omega arith) v, extent-join c l v))
      ∙ ap (λ d. least_of (permitted job) (extent_of job s) d s (base_count job - s)) (extent-join (base_count job) h (omega arith))
      ∙ least-listed (permitted job) (extent_of job s) (extent_of job s (base_count job)) s (base_count job - s)

-- Of a job that is refused with number 11 at s and a table that holds it, `needed_extent` tells what is needed there: all that it asks holds.
module _ (job : Job) (base ruby left line : List ℕ) (s : ℕ) (refused : (outcome job base ruby left line).answer ≡ Refused (NoBreak s)) (t : Rows) (table : Holds job t) where
  pub refused-ready : (Sound t (base_count job)) × (s < base_count job) × (needed_of t (base_count job) s ≡ needed job s)
  refused-ready =
      let good = entered job base ruby left line s refused in
      let h = refused-ahead job base ruby left line s refused in
      (sound job good t table, h, needed-join job good t table s h)
