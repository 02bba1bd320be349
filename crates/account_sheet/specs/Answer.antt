-- The account of a sheet, from its bytes alone, and what the lent tables and lists are afterwards.
use Rattle.std.specs.Prelude.{cond, List, [], ◌++◌, ◌≡◌, ℕ, ◌≤◌, eqb, Ok, Err, Result}
use Rattle.sheet.specs.declared.Counts.{Counts}
use Rattle.std.proofs.Math.Option.{Option, none, some}
use Rattle.text.specs.Print.{Wrote}
use Rattle.refusal.specs.declared.Refusal.{Refusal}
use Rattle.refusal.specs.Refusal.{number_of, place_of}
use Rattle.sheet.specs.Sheet.{Sheet, reading, Tables, Into}
use Rattle.door.specs.Job.{Job}
use Rattle.job.specs.Refusals.{fault}
use Rattle.result.specs.Text.{refusal_text}
use Rattle.sheet_job.specs.Tables.{sheet_job}
use Rattle.shortest.specs.Needed.{needed}
use Rattle.job_account.specs.Outcome.{room, telling}
use Rattle.account_text.specs.Text.{account_text, needs_text}
use Rattle.account_text.specs.Short.{longest}

-- a refusal; where a line is declined (11), also the extent that it needs, and the measure
abbrev pub refused_text : Refusal → ℕ → ℕ → List ℕ
refused_text r needs measure = refusal_text r ++ cond (eqb (number_of r) 11) (needs_text needs measure) []

-- a refusal of a job: its own line, and how far that falls short
unfoldable pub declined_text : Job → Refusal → List ℕ
unfolding refusal_text needs_text needed
declined_text job r = refused_text r (needed job (place_of r)) job.measure

-- the account of a page that is clear, or its refusal
unfoldable pub telling_text : Job → Option Refusal → List ℕ
unfolding account_text declined_text
telling_text job none = account_text job
telling_text job (some r) = declined_text job r

-- the account of a job whose lists have room for m base characters
unfoldable pub job_account : Job → ℕ → List ℕ
unfolding telling_text fault
job_account job m = telling_text job (fault job 1024 2048 2048 m)

-- "The other checks follow a sound reading." The program's lists have the maximum lengths.
unfoldable pub account_by : Sheet → Result Counts Refusal → List ℕ
unfolding job_account sheet_job refusal_text
account_by t (Err r) = refusal_text r
account_by t (Ok n) = job_account (sheet_job t) 1024

-- the whole account of a sheet
unfoldable pub account_of_sheet : List ℕ → List ℕ
unfolding account_by reading
account_of_sheet s = account_by (reading s) (reading s).end

-- The account's lists: a row for each piece, and for each line how many rows there are up to its end and its extent.
pub record Lists : Type 0 where
  pub rows : List ℕ
  pub told : List ℕ
  pub wide : List ℕ

abbrev pub lists : List ℕ → List ℕ → List ℕ → Lists
lists rows told wide = record { rows = rows; told = told; wide = wide }

-- as a job's account leaves them
abbrev pub leaves : Job → Lists → Lists
leaves job was = let o = telling job was.rows was.told was.wide in lists o.rows o.told o.extents

-- and as a sheet leaves them: moved only where the reading is sound
unfoldable pub lists_by : Sheet → Result Counts Refusal → Lists → Lists
unfolding sheet_job telling
lists_by t (Err r) was = was
lists_by t (Ok n) was = leaves (sheet_job t) was

-- A job is told: its lists are those of its account, and its text stands at the front of `out`.
pub record Told (job : Job) (was : Lists) (out : List ℕ) (r : ℕ) (now : Lists) (newOut : List ℕ) : Type 0 where
  pub holds : now ≡ leaves job was
  pub text : Wrote out 0 (job_account job (room was.rows was.told was.wide)) r newOut
  pub short : r ≤ longest

-- A sheet is answered: the tables hold what was read, the lists what the job's account leaves in them, and `out` begins with the account.
pub record Answered (s : List ℕ) (was : Tables) (before : Lists) (out : List ℕ) (r : ℕ) (t : Tables) (now : Lists) (newOut : List ℕ) : Type 0 where
  pub text : Wrote out 0 (account_of_sheet s) r newOut
  pub short : r ≤ longest
  pub holds : now ≡ lists_by (reading s) (reading s).end before
  pub read : Into s was (reading s).end t
