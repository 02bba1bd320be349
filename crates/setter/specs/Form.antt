-- What is written of a sheet, said of its bytes. `refused 13 L` is written exactly of bytes that break the form on line L, `refused 2 P` exactly of those in which a count over its maximum is the
-- first fault, and `refused 12 P` of none.
use Rattle.std.specs.Prelude.{List, ◌++◌, ◌↔◌, ◌≡◌, ℕ, ◌≤◌, Ok, Err, Result}
use Rattle.std.proofs.Math.Option.{Option, none, some}
use Rattle.std.proofs.Math.Path.{refl, ap}
use Rattle.text.specs.Text.{most}
use Rattle.text.specs.Print.{bytes, decimal}
use Rattle.refusal.specs.declared.Refusal.{Refusal}
use Rattle.sheet.specs.declared.Counts.{Counts}
use Rattle.sheet.specs.Sheet.{reading}
use Rattle.sheet.specs.Form.{Over}
use Rattle.sheet.specs.Breaks.{Breaks}
use Rattle.line.specs.declared.Side.TheVariants.{Right, Left}
use Rattle.door.specs.Job.{Job}
use Rattle.job.specs.Line.{ends, base_in, reading_in, by_line}
use Rattle.job.specs.Refusals.{fault}
use Rattle.job.specs.Order.{given-first}
use Rattle.result.specs.Text.{line_two, refusal_text}
use Rattle.result.specs.Refused.{refused-is, no_refusal}
use Rattle.sheet_job.specs.Tables.{sheet_job}
use Rattle.setter.specs.Answer.{set_text, text_by, job_text, answer_by, answer_text}
use Rattle.setter.specs.Given.{Given, by-sheet, by-job, thirteen_by, two_by, twelve_by}

set_other : (job : Job) (n p : ℕ) → set_text job ≡ line_two (bytes "refused") n p → ⊥
unfolding set_text
set_other job n p e = no_refusal job (by_line (base_in job) 0 (ends job)) (by_line (reading_in Right job) 0 (ends job)) (by_line (reading_in Left job) 0 (ends job)) n p e

module _ (s : List ℕ) where
  job-gives : (n p : ℕ) → n ≤ most → (c : Counts) → (reading s).end ≡ Ok c → (f : Option Refusal) → fault (sheet_job (reading s)) 1024 2048 2048 1024 ≡ f →
      text_by (sheet_job (reading s)) f ≡ line_two (bytes "refused") n p → Given s n p
  unfolding text_by
  job-gives n p small c is none g e = absurd (set_other (sheet_job (reading s)) n p e)
  job-gives n p small c is (some r) g e = by-job c r (refused-is r n p small e).0 is (given-first (sheet_job (reading s)) 1024 2048 2048 1024 r g)

  sheet-gives : (n p : ℕ) → n ≤ most → (x : Result Counts Refusal) → (reading s).end ≡ x → answer_by (reading s) x ≡ line_two (bytes "refused") n p → Given s n p
  unfolding answer_by job_text
  sheet-gives n p small (Err r) is e = let x = refused-is r n p small e in by-sheet r x.0 x.1 is
  sheet-gives n p small (Ok c) is e = job-gives n p small c is (fault (sheet_job (reading s)) 1024 2048 2048 1024) refl e

  gives : (n p : ℕ) → n ≤ most → answer_text s ≡ line_two (bytes "refused") n p → Given s n p
  unfolding answer_text
  gives n p small e = sheet-gives n p small (reading s).end refl e

  read : (r : Refusal) → (reading s).end ≡ Err r → answer_text s ≡ refusal_text r
  unfolding answer_text
  read r e = ap (answer_by (reading s)) e

  -- "13: job sheet text breaks its form; line from 1; 0 if over 65,535 bytes"
  pub thirteen_written : (l : ℕ) → (answer_text s ≡ bytes "refused 13 " ++ (decimal l ++ bytes "\n")) ↔ Breaks s l
  thirteen_written = thirteen_by s (answer_text s) read gives

  -- "2: a count over its maximum; 0 base, 1 ruby, 2 elements", of left characters "places 3 for the count"
  pub two-written : (which : ℕ) → (answer_text s ≡ bytes "refused 2 " ++ (decimal which ++ bytes "\n")) ↔ Over s which
  two-written = two_by s (answer_text s) read gives

  -- no sheet is refused with 12, since the program's result lists have the maximum lengths
  pub never_twelve : (p : ℕ) → answer_text s ≡ bytes "refused 12 " ++ (decimal p ++ bytes "\n") → ⊥
  never_twelve = twelve_by s (answer_text s) read gives
