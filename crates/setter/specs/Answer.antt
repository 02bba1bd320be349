-- The answer to a sheet (document 01, "The job sheet"), from its bytes alone, and what the lent tables and lists are afterwards.
use Rattle.std.specs.Prelude.{List, ◌≡◌, ℕ, ◌≤◌, length, take, Ok, Err, Result}
use Rattle.sheet.specs.declared.Counts.{Counts}
use Rattle.std.proofs.Math.Option.{Option, none, some}
use Rattle.text.specs.Print.{Wrote}
use Rattle.refusal.specs.declared.Refusal.{Refusal}
use Rattle.sheet.specs.Sheet.{Sheet, reading, Tables, Into}
use Rattle.line.specs.declared.Side.TheVariants.{Right, Left}
use Rattle.door.specs.Job.{Job}
use Rattle.sheet_job.specs.Tables.{sheet_job}
use Rattle.job.specs.Line.{ends, base_in, reading_in, by_line}
use Rattle.job.specs.Refusals.{fault}
use Rattle.job.specs.Outcome.{outcome}
use Rattle.result.specs.Text.{result_text, refusal_text}
use Rattle.result.specs.Short.{longest}

-- a result, where each character has the position that the job's lines give it
unfoldable pub set_text : Job → List ℕ
unfolding ends base_in reading_in result_text
set_text job = result_text job (by_line (base_in job) 0 (ends job)) (by_line (reading_in Right job) 0 (ends job)) (by_line (reading_in Left job) 0 (ends job))

-- "writes `refused N P`, or a result"
unfoldable pub text_by : Job → Option Refusal → List ℕ
unfolding set_text refusal_text
text_by job none = set_text job
text_by job (some r) = refusal_text r

-- the text of a job whose result lists have these lengths
unfoldable pub job_text : Job → ℕ → ℕ → ℕ → ℕ → List ℕ
unfolding text_by fault
job_text job base ruby left lines = text_by job (fault job base ruby left lines)

-- "The other checks follow a sound reading." The program's result lists have the maximum lengths.
unfoldable pub answer_by : Sheet → Result Counts Refusal → List ℕ
unfolding job_text sheet_job refusal_text
answer_by t (Err r) = refusal_text r
answer_by t (Ok n) = job_text (sheet_job t) 1024 2048 2048 1024

-- the whole answer to a sheet
unfoldable pub answer_text : List ℕ → List ℕ
unfolding answer_by reading
answer_text s = answer_by (reading s) (reading s).end

-- The result lists: where base characters, ruby characters and left characters stand, and where lines end.
pub record Lists : Type 0 where
  pub base : List ℕ
  pub ruby : List ℕ
  pub left : List ℕ
  pub lines : List ℕ

abbrev pub lists : List ℕ → List ℕ → List ℕ → List ℕ → Lists
lists base ruby left lines = record { base = base; ruby = ruby; left = left; lines = lines }

-- of the maximum lengths, as a sheet's always are
pub record ListsLong (l : Lists) : Type 0 where
  pub bases : length l.base ≡ 1024
  pub rubies : length l.ruby ≡ 2048
  pub lefts : length l.left ≡ 2048
  pub ends : length l.lines ≡ 1024

-- as a job's outcome leaves them
abbrev pub leaves : Job → Lists → Lists
leaves job was = let o = outcome job was.base was.ruby was.left was.lines in lists o.base o.ruby o.left o.lines

-- and as a sheet leaves them: moved only where the reading is sound
unfoldable pub lists_by : Sheet → Result Counts Refusal → Lists → Lists
unfolding sheet_job outcome
lists_by t (Err r) was = was
lists_by t (Ok n) was = leaves (sheet_job t) was

-- A job is told: its lists are the outcome's, and its text stands at the front of `out`.
pub record Told (job : Job) (was : Lists) (out : List ℕ) (r : ℕ) (now : Lists) (newOut : List ℕ) : Type 0 where
  pub holds : now ≡ leaves job was
  pub text : Wrote out 0 (job_text job (length was.base) (length was.ruby) (length was.left) (length was.lines)) r newOut
  pub short : r ≤ longest

-- n bytes at the front of a list, for those who write them out
abbrev pub Fits : ℕ → List ℕ → Type 0
Fits n xs = (n ≤ length xs) × (n ≡ length (take n xs))

-- A sheet is answered: the tables hold what was read, the result lists what the job's outcome leaves in them, and `out` begins with the answer.
pub record Answered (s : List ℕ) (was : Tables) (before : Lists) (out : List ℕ) (r : ℕ) (t : Tables) (now : Lists) (newOut : List ℕ) : Type 0 where
  pub text : Wrote out 0 (answer_text s) r newOut
  pub short : r ≤ longest
  pub holds : now ≡ lists_by (reading s) (reading s).end before
  pub read : Into s was (reading s).end t
