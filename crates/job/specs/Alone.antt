-- A piece in a line of an accepted job, as the theorems of `proofs/Alone.antt` speak of it.
use Rattle.std.specs.Prelude.{List, ℕ, ◌<◌, length}
use Rattle.door.specs.Job.{Job}
use Rattle.job.specs.Line.{pieces, ends}
use Rattle.job.specs.Promise.{IsLine}
use Rattle.job.specs.Demands as demands

-- piece k of the line from s up to e of an accepted job
pub record Set (job : Job) (base ruby left line : List ℕ) (s e k : ℕ) : Type 0 where
  pub accepted : demands.Accepted job base ruby left line
  pub of_line : IsLine 0 (ends job) s e
  pub there : k < length (pieces job s e)
