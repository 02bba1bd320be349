-- A job whose answer is a number of lines was accepted: it passed the door, and that many lines it has.
use Rattle.std.specs.Prelude.{◌≡◌, List, ℕ, length}
use Rattle.std.proofs.Common.{sym, ◌∙◌}
use Rattle.door.specs.Job.{Job}
use Rattle.door.specs.Passed.{Passed, passed}
use Rattle.job.specs.declared.Answer.TheVariants.{Set}
use Rattle.job.specs.Line.{ends}
use Rattle.job.specs.Outcome.{outcome}
use Rattle.job.specs.Demands.{Accepted}
use Rattle.job.proofs.Demands.{set-accepted, filled-exactly, lines-told}

module _ (job : Job) (base ruby left lines : List ℕ) {n : ℕ} (set : (outcome job base ruby left lines).answer ≡ Set n) where
  pub accepted : Accepted job base ruby left lines
  accepted = set-accepted job base ruby left lines n set

  pub many : n ≡ length (ends job)
  many = let e = sym set ∙ (lines-told job base ruby left lines accepted).0 in cc

  pub door : Passed job
  door = passed job (length base) (length ruby) (length left) (length lines) ((filled-exactly job base ruby left lines).0 accepted).0
