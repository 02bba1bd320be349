-- What the account of a sheet is, said of its bytes, as for the setting: `refused 13 L` exactly of bytes that break the form on line L, `refused 2 P` exactly of those in which a count over its
-- maximum is the first fault, and `refused 12 P` of none.
use Rattle.std.specs.Prelude.{cond, List, [], ◌++◌, ◌↔◌, ◌≡◌, ℕ, ◌≤◌, eqb, get_or, Ok, Err, Result}
use Rattle.std.proofs.Math.Option.{Option, none, some}
use Rattle.std.proofs.Math.Path.{refl, ap}
use Rattle.std.proofs.Common.{arith}
use Rattle.text.specs.Text.{most}
use Rattle.text.specs.Print.{bytes, decimal}
use Rattle.refusal.specs.declared.Refusal.{Refusal}
use Rattle.refusal.specs.Refusal.{number_of, place_of}
use Rattle.sheet.specs.declared.Counts.{Counts}
use Rattle.sheet.specs.Sheet.{reading}
use Rattle.sheet.specs.Form.{Over}
use Rattle.sheet.specs.Breaks.{Breaks}
use Rattle.door.specs.Job.{Job}
use Rattle.job.specs.Refusals.{fault}
use Rattle.job.specs.Order.{given-first}
use Rattle.result.specs.Text.{line_two, refusal_text}
use Rattle.result.specs.Refused.{refused-is, refused-begins}
use Rattle.sheet_job.specs.Tables.{sheet_job}
use Rattle.setter.specs.Given.{Given, by-sheet, by-job, thirteen_by, two_by, twelve_by}
use Rattle.shortest.specs.Needed.{needed}
use Rattle.account_text.specs.Text.{said, verdict_text, account_text, needs_text}
use Rattle.account_sheet.specs.Answer.{declined_text, telling_text, job_account, account_by, account_of_sheet}

-- an account begins with `clear`
account-other : (job : Job) (n p : ℕ) → account_text job ≡ line_two (bytes "refused") n p → ⊥
unfolding account_text verdict_text said line_two
account-other job n p e = omega (arith, ap (λ l. get_or l 0 0) e)

declined-number : (job : Job) (r : Refusal) (n p : ℕ) → n ≤ most → declined_text job r ≡ line_two (bytes "refused") n p → number_of r ≡ n
unfolding declined_text
declined-number job r n p small e = refused-begins r (cond (eqb (number_of r) 11) (needs_text (needed job (place_of r)) job.measure) []) n p small e

module _ (s : List ℕ) where
  job-gives : (n p : ℕ) → n ≤ most → (c : Counts) → (reading s).end ≡ Ok c → (f : Option Refusal) → fault (sheet_job (reading s)) 1024 2048 2048 1024 ≡ f →
      telling_text (sheet_job (reading s)) f ≡ line_two (bytes "refused") n p → Given s n p
  unfolding telling_text
  job-gives n p small c is none g e = absurd (account-other (sheet_job (reading s)) n p e)
  job-gives n p small c is (some r) g e = by-job c r (declined-number (sheet_job (reading s)) r n p small e) is (given-first (sheet_job (reading s)) 1024 2048 2048 1024 r g)

  sheet-gives : (n p : ℕ) → n ≤ most → (x : Result Counts Refusal) → (reading s).end ≡ x → account_by (reading s) x ≡ line_two (bytes "refused") n p → Given s n p
  unfolding account_by job_account
  sheet-gives n p small (Err r) is e = let x = refused-is r n p small e in by-sheet r x.0 x.1 is
  sheet-gives n p small (Ok c) is e = job-gives n p small c is (fault (sheet_job (reading s)) 1024 2048 2048 1024) refl e

  gives : (n p : ℕ) → n ≤ most → account_of_sheet s ≡ line_two (bytes "refused") n p → Given s n p
  unfolding account_of_sheet
  gives n p small e = sheet-gives n p small (reading s).end refl e

  read : (r : Refusal) → (reading s).end ≡ Err r → account_of_sheet s ≡ refusal_text r
  unfolding account_of_sheet
  read r e = ap (account_by (reading s)) e

  pub thirteen_told : (l : ℕ) → (account_of_sheet s ≡ bytes "refused 13 " ++ (decimal l ++ bytes "\n")) ↔ Breaks s l
  thirteen_told = thirteen_by s (account_of_sheet s) read gives

  pub two-told : (which : ℕ) → (account_of_sheet s ≡ bytes "refused 2 " ++ (decimal which ++ bytes "\n")) ↔ Over s which
  two-told = two_by s (account_of_sheet s) read gives

  pub never_twelve : (p : ℕ) → account_of_sheet s ≡ bytes "refused 12 " ++ (decimal p ++ bytes "\n") → ⊥
  never_twelve = twelve_by s (account_of_sheet s) read gives
