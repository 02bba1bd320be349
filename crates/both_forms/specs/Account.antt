-- The account of a sheet is that of its conversion (`same-account`): it is told of the job alone, and the two forms of the same numbers have the same job.
use Rattle.std.specs.Prelude.{List, ◌≡◌, refl, ℕ, Ok}
use Rattle.std.proofs.Math.Option.{none}
use Rattle.elements.specs.declared.SheetForm.TheVariants.{One, Two}
use Rattle.sheet.specs.declared.Counts.{Counts}
use Rattle.sheet.specs.Sheet.{reading}
use Rattle.sheet.specs.Form.{Written, sheet_of, written_of}
use Rattle.other_form.specs.Other.{Holds}
use Rattle.sheet_job.specs.Tables.{sheet_job}
use Rattle.converter.specs.Convert.{given, convert_text}
use Rattle.converter.proofs.Exact.{same_numbers}
use Rattle.account_sheet.specs.Answer.{account_by, account_of_sheet}

same-told : (r : Written) → account_by (sheet_of One r) (sheet_of One r).end ≡ account_by (sheet_of Two r) (sheet_of Two r).end
unfolding account_by sheet_job sheet_of
same-told r = refl

-- a sound sheet that form one can hold and whose job is accepted: what the account program writes of the two is the same
pub same-account : (s : List ℕ) (c : Counts) → (reading s).end ≡ Ok c → Holds (written_of (reading s)) → given (reading s) ≡ none → account_of_sheet (convert_text s) ≡ account_of_sheet s
unfolding account_of_sheet
same-account s c sound holds ok = same_numbers s c sound holds ok (List ℕ) (λ t. account_by t t.end) same-told
