-- What an account leaves, as an `ensures` sees it: its answer, and what its lists hold at exit.
use Rattle.std.specs.Prelude.{List, ℕ}
use Rattle.job.specs.declared.Answer.{Answer}
use Rattle.job_account.specs.Outcome.{Telling}

abbrev pub leaves : Answer → List ℕ → List ℕ → List ℕ → Telling
leaves answer rows told extents = record { answer = answer; rows = rows; told = told; extents = extents }
