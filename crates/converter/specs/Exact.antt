-- What the converter's answer says (document 02, R-6). It is one of four (`convert_is`): the reading's refusal, 17 with the first line at fault, the job's own refusal, or the other sheet; and the
-- other sheet goes back to the same bytes (`there_and_back`) and has the same job, so the same answer (`same_answer`).
-- The theorems are in `proofs/Exact.antt`.
use Rattle.std.specs.Prelude.{List, ◌≡◌, ℕ, Ok, Err}
use Rattle.std.proofs.Math.Option.{none, some}
use Rattle.refusal.specs.declared.Refusal.{Refusal}
use Rattle.refusal.specs.declared.Refusal.TheVariants.{OtherForm}
use Rattle.sheet.specs.declared.Counts.{Counts}
use Rattle.sheet.specs.Sheet.{reading}
use Rattle.sheet.specs.Form.{written_of}
use Rattle.result.specs.Text.{refusal_text}
use Rattle.other_form.specs.Other.{other_text, Holds}
use Rattle.other_form.specs.First.{FirstFault}
use Rattle.converter.specs.Convert.{given}

-- one of four
pub data ConvertIs (s : List ℕ) : List ℕ → Type 0 where
  unread : (why : Refusal) → (reading s).end ≡ Err why → ConvertIs s (refusal_text why)
  unheld : (c : Counts) (l : ℕ) → (reading s).end ≡ Ok c → FirstFault (written_of (reading s)) l → ConvertIs s (refusal_text (OtherForm l))
  declined : (c : Counts) (why : Refusal) → (reading s).end ≡ Ok c → Holds (written_of (reading s)) → given (reading s) ≡ some why → ConvertIs s (refusal_text why)
  written : (c : Counts) → (reading s).end ≡ Ok c → Holds (written_of (reading s)) → given (reading s) ≡ none → ConvertIs s (other_text s)
