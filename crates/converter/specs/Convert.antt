-- What the converter writes of a sheet (document 02, R-6), from its bytes alone: the other sheet whole, or `refused N P`. "17 .. given by the converter only, after 13"; "other jobs get their
-- refusal".
use Rattle.std.specs.Prelude.{cond, List, ℕ, ◌≤◌, eqb, Ok, Err, Result}
use Rattle.std.proofs.Math.Option.{Option, none, some}
use Rattle.text.specs.Print.{Wrote}
use Rattle.refusal.specs.declared.Refusal.{Refusal}
use Rattle.refusal.specs.declared.Refusal.TheVariants.{OtherForm}
use Rattle.sheet.specs.declared.Counts.{Counts}
use Rattle.sheet.specs.Sheet.{Sheet, reading, Tables, Into}
use Rattle.sheet.specs.Form.{written_of}
use Rattle.std.specs.Prelude.{Result, Ok, Err, ⊤}
use Rattle.job.specs.Refusals.{fault}
use Rattle.result.specs.Text.{refusal_text}
use Rattle.sheet_job.specs.Tables.{sheet_job, Lent}
use Rattle.other_form.specs.Other.{other_text, fault_line}

-- the refusal of a sheet's job, if it has one; the result lists have the maximum lengths
unfoldable pub given : Sheet → Option Refusal
unfolding fault sheet_job
given t = fault (sheet_job t) 1024 2048 2048 1024

-- "every form one sheet whose job is accepted": it is set; "other jobs get their refusal"
unfoldable pub judged : List ℕ → Option Refusal → List ℕ
unfolding other_text refusal_text
judged s none = other_text s
judged s (some r) = refusal_text r

-- 13, and the 2 of a count line, come first; then 17, with the first line at fault; then the job's own
unfoldable pub convert_by : List ℕ → Result Counts Refusal → List ℕ
unfolding judged given fault_line refusal_text
convert_by s (Err r) = refusal_text r
convert_by s (Ok n) =
    let line = fault_line (written_of (reading s)) in
    cond (eqb line 0) (judged s (given (reading s))) (refusal_text (OtherForm line))

unfoldable pub convert_text : List ℕ → List ℕ
unfolding convert_by reading
convert_text s = convert_by s (reading s).end

-- the same by what the code finds: the line at fault, 0 if there is none, and the job's own refusal
abbrev pub own : Option Refusal → Result ⊤ Refusal
own none = Ok tt
own (some r) = Err r

abbrev pub verdict : ℕ → Option Refusal → Result ⊤ Refusal
verdict line g = cond (eqb line 0) (own g) (Err (OtherForm line))

-- A sound sheet in its tables.
pub record TablesHold (s : List ℕ) (n : Counts) (t : Tables) : Type 0 where
  pub was : Tables
  pub into : Into s was (Ok n) t
  pub lent : Lent t

-- A sheet is converted: the tables hold what was read, and `out` begins with what is written.
pub record Converted (s : List ℕ) (was : Tables) (out : List ℕ) (r : ℕ) (t : Tables) (newOut : List ℕ) : Type 0 where
  pub text : Wrote out 0 (convert_text s) r newOut
  pub short : r ≤ 65535
  pub read : Into s was (reading s).end t
