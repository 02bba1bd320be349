-- What is proved of a line's account holds of all lines of an accepted job.
use Rattle.std.specs.Prelude.{◌≡◌, List, ℕ, ◌<◌, length}
use Rattle.door.specs.Job.{Job}
use Rattle.door.specs.Passed.{Passed, passed}
use Rattle.job.specs.declared.Answer.TheVariants.{Set}
use Rattle.job.specs.Line.{line_of, origins}
use Rattle.job.specs.Outcome.{outcome}
use Rattle.job.specs.Demands.{Accepted}
use Rattle.job.proofs.Demands.{set-accepted, filled-exactly}
use Rattle.account.specs.Claims.{Tight}
use Rattle.account.specs.Theorems.{Accounted}
use Rattle.job_account.specs.Theorems.{reason_in, accounted, tight}

module _ (job : Job) (base ruby left lines : List ℕ) {n : ℕ} (set : (outcome job base ruby left lines).answer ≡ Set n) where
  accepted : Accepted job base ruby left lines
  accepted = set-accepted job base ruby left lines n set

  door : Passed job
  door = passed job (length base) (length ruby) (length left) (length lines) ((filled-exactly job base ruby left lines).0 accepted).0

  -- Why each gap of each line is as wide as it is: every piece has a reason, whose own numbers make the gap, and the rule that it names would be broken one half unit nearer
  -- the line's start.
  pub gaps : (s e i : ℕ) → i < length (line_of job s e) → Accounted (line_of job s e) (origins job s e) i × Tight (line_of job s e) (origins job s e) i (reason_in job s e i)
  gaps s e i h = (accounted job door s e i h, tight job door s e i h)
