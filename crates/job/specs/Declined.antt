-- How the lines of a job that passes the door end: they go all the way, or stop short of one place. `proofs/Declined.antt` shows that they do.
use Rattle.std.specs.Prelude.{◌≡◌, true, ◌⊎◌, List, [], ◌∷◌, ℕ, ◌<◌}
use Rattle.refusal.specs.declared.Refusal.{Refusal}
use Rattle.refusal.specs.declared.Refusal.TheVariants.{NoBreak}
use Rattle.door.specs.Job.{Job, base_count}
use Rattle.job.specs.Refusals.{no_break}
use Rattle.job.specs.Promise.{Chain}

-- the place where lines stop short
pub record Stops (job : Job) (s : ℕ) (es : List ℕ) (faults : List Refusal) : Type 0 where
  pub place : ℕ
  pub lines : Chain job s es place
  pub more : place < base_count job
  pub none : no_break job place ≡ true
  pub fault : faults ≡ NoBreak place ∷ []

-- the lines go all the way, or stop short
abbrev pub Way : Job → ℕ → List ℕ → List Refusal → Type 0
Way job s es faults = ((faults ≡ []) × Chain job s es (base_count job)) ⊎ Stops job s es faults
