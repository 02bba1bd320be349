-- The accounts of all lines of a job.
use Rattle.std.specs.Prelude.{◌≡◌, List, [], ◌∷◌, ℕ, ◌+◌, length}
use Rattle.std.proofs.lemmas.List.Edits.{sets}
use Rattle.door.specs.Job.{Job}
use Rattle.job.specs.Line.{line_of, extent_of, ends, by_line}
use Rattle.job_account.specs.Rows.{rows_in}

-- the accounts of all lines, six numbers for each piece,
unfoldable pub accounts : Job → List ℕ
unfolding rows_in ends
accounts job = by_line (rows_in job) 0 (ends job)

-- for each line the count of pieces up to its end; q are told already, and the lines from s on end at es
abbrev pub counts_from : Job → ℕ → ℕ → List ℕ → List ℕ
counts_from job q s [] = []
counts_from job q s (e ∷ es) = (q + length (line_of job s e)) ∷ counts_from job (q + length (line_of job s e)) e es

unfoldable pub counts : Job → List ℕ
unfolding line_of ends
counts job = counts_from job 0 0 (ends job)

-- and for each line its extent
abbrev pub extents_from : Job → ℕ → List ℕ → List ℕ
extents_from job = by_line (λ s e. extent_of job s e ∷ [])

unfoldable pub extents : Job → List ℕ
unfolding extent_of ends
extents job = extents_from job 0 (ends job)

-- All is told: from the front of each list on, and nothing else.
pub record LinesTold (job : Job) (was wasTold wasWide out told wide : List ℕ) : Type 0 where
  pub rows : out ≡ sets was 0 (accounts job)
  pub counts : told ≡ sets wasTold 0 (counts job)
  pub extents : wide ≡ sets wasWide 0 (extents job)
