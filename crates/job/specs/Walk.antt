-- Where a walk over the elements stands, for a job that passes the door, and what it keeps of a line. What it needs to know to fill lines is in `proofs/Walk.antt`. Nothing here says
-- what a line is; `Line` does.
use Rattle.std.specs.Prelude.{◌≡◌, refl, ℕ, zero, suc, ◌+◌, ◌-◌, ◌<◌, length, take, drop, List, [], ◌∷◌, ◌++◌}
use Rattle.std.proofs.Common.{sym, ◌∙◌, add-one, arith, drop-drop, take-add, ap}
use Rattle.std.proofs.Math.Nat.{sub-zero}
use Rattle.basics.specs.Lists.{count, keep, last_or}
use Rattle.line.specs.declared.Element.{Element}
use Rattle.line.specs.declared.State.{State}
use Rattle.line.specs.Setting.{start, put, origin, run}
use Rattle.door.specs.declared.Piece.{Piece}
use Rattle.door.specs.declared.Taken.{Taken}
use Rattle.door.specs.Job.{Job, element_count, nothing, past, element, elements_from, elements}
use Rattle.door.specs.Passed.{Tiled, BaseTiled, RubyTiled, LeftTiled}
use Rattle.job.specs.Line.{line_of, can_set, permitted}

-- The walk stands before element k; those before it have taken `at`.

pub record At (job : Job) (k : ℕ) (at : Taken) : Type 0 where
  pub rest : drop k (elements job) ≡ elements_from job (element_count job - k) k at
  pub base : BaseTiled 0 (take k (elements job)) at.base
  pub ruby : RubyTiled 0 (take k (elements job)) at.ruby
  pub left : LeftTiled 0 (take k (elements job)) at.left

pub at_first : (job : Job) → At job 0 nothing
unfolding elements
at_first job = record { rest = rw (sub-zero (element_count job)); base = refl; ruby = refl; left = refl }

-- its rest is the element and the rest after it
at-cons : (job : Job) (k : ℕ) (at : Taken) → k < element_count job → At job k at →
    let x = element job k at in drop k (elements job) ≡ x ∷ elements_from job (element_count job - (k + 1)) (k + 1) (past at x)
unfolding elements_from
at-cons job k at h a = a.rest ∙ go (element_count job - k) (element_count job - (k + 1)) (omega arith)
  where
    x : Piece
    x = element job k at

    go : (m n : ℕ) → m ≡ suc n → elements_from job m k at ≡ x ∷ elements_from job n (k + 1) (past at x)
    go m n e = rw (e, add-one)

tiled-more : (first many : Piece → ℕ) (a b : ℕ) (xs : List Piece) (x : Piece) → first x ≡ b → Tiled first many a xs b → Tiled first many a (xs ++ (x ∷ [])) (b + many x)
tiled-more first many a b [] x e t = (e ∙ sym t, ap (λ c. c + many x) t)
tiled-more first many a b (y ∷ ys) x e t = (t.0, tiled-more first many (a + many y) b ys x e t.1)

pub at_next : (job : Job) (k : ℕ) (at : Taken) → k < element_count job → At job k at → At job (k + 1) (past at (element job k at))
unfolding element
at_next job k at h a =
    let x = element job k at in
    let more : take (k + 1) (elements job) ≡ take k (elements job) ++ (x ∷ []) = take-add k 1 (elements job) ∙ ap (λ es. take k (elements job) ++ take 1 es) (at-cons job k at h a) in
    record {
      rest = sym (drop-drop 1 k (elements job)) ∙ ap (λ es. drop 1 es) (at-cons job k at h a);
      base = rw more (tiled-more (λ p. p.base) (λ p. p.bases) 0 at.base (take k (elements job)) x refl a.base);
      ruby = rw more (tiled-more (λ p. p.ruby) (λ p. p.rubies) 0 at.ruby (take k (elements job)) x refl a.ruby);
      left = rw more (tiled-more (λ p. p.left) (λ p. p.lefts) 0 at.left (take k (elements job)) x refl a.left);
    }

length_from : (job : Job) (n k : ℕ) (at : Taken) → length (elements_from job n k at) ≡ n
unfolding elements_from
length_from job zero k at = refl
length_from job (suc n) k at = ap suc (length_from job n (suc k) (past at (element job k at)))

pub length-elements : (job : Job) → length (elements job) ≡ element_count job
unfolding elements
length-elements job = length_from job (element_count job) 0 nothing

-- The state of the line: what its next element is set by.

abbrev pub state_of : Job → ℕ → ℕ → State
state_of job s e = run start (line_of job s e)

-- one element more
abbrev pub next : State → Element → State
next st e = put st e (origin st e)

-- The search for the furthest break, try by try.

-- the furthest permitted break up to c whose line from s can be set; 0 where there is none
unfoldable pub best : Job → ℕ → ℕ → ℕ
unfolding permitted can_set
best job s c = last_or 0 (keep (can_set job s) (keep (permitted job) (count (suc s) (c - s))))
