-- What the converter's answer says (document 02, R-6). It is one of four (`convert_is`): the reading's refusal, 17 with the first line at fault, the job's own refusal, or the other sheet; and the
-- other sheet goes back to the same bytes (`there_and_back`) and has the same job, so the same answer (`same_answer`).
use Rattle.std.specs.Prelude.{Bool, true, false, cond, List, ◌≡◌, refl, ℕ, ◌<◌, eqb, length, Ok, Err, Result}
use Rattle.std.proofs.Math.Option.{Option, none, some}
use Rattle.std.proofs.Common.{◌∙◌, sym, subst, arith, eqb-true, ne_eqb}
use Rattle.std.proofs.Math.Path.{ap}
use Rattle.std.proofs.lemmas.Bool.{eqb-false}
use Rattle.refusal.specs.declared.Refusal.{Refusal}
use Rattle.refusal.specs.declared.Refusal.TheVariants.{OtherForm}
use Rattle.elements.specs.declared.SheetForm.TheVariants.{One, Two}
use Rattle.sheet.specs.declared.Counts.{Counts}
use Rattle.sheet.specs.Sheet.{Sheet, reading}
use Rattle.sheet.specs.Form.{Written, InForm, sheet_of, written_of}
use Rattle.sheet.specs.Exact.{SoundAs}
use Rattle.door.specs.Job.{Job}
use Rattle.job.specs.Refusals.{fault}
use Rattle.result.specs.Text.{refusal_text}
use Rattle.sheet_job.specs.Tables.{sheet_job}
use Rattle.setter.specs.Answer.{answer_by, answer_text}
use Rattle.other_form.specs.Other.{other, other_text, Holds, fault_line}
use Rattle.other_form.specs.Fault.{house-seven}
use Rattle.other_form.specs.Known.{known}
use Rattle.other_form.specs.First.{FirstFault, holds-exactly, first-exactly}
use Rattle.other_form.specs.Back.{one_holds, Goes, other-sound, there_and_back, same-reading}
use Rattle.converter.specs.Convert.{given, judged, convert_by, convert_text}
use Rattle.converter.specs.Accepted.{other-short}
use Rattle.converter.specs.Exact.{ConvertIs, unread, unheld, declined, written}

-- the same numbers are the same job in both forms
same-job : (r : Written) → sheet_job (sheet_of One r) ≡ sheet_job (sheet_of Two r)
unfolding sheet_job sheet_of
same-job r = refl

same-given : (r : Written) → given (sheet_of One r) ≡ given (sheet_of Two r)
unfolding given
same-given r = ap (λ job. fault job 1024 2048 2048 1024) (same-job r)

same-told : (r : Written) → answer_by (sheet_of One r) (sheet_of One r).end ≡ answer_by (sheet_of Two r) (sheet_of Two r).end
unfolding answer_by sheet_job sheet_of
same-told r = refl

module _ (s : List ℕ) where
  abbrev r : Written
  r = written_of (reading s)

  seven : (n : Counts) → (reading s).end ≡ Ok n → length r.house ≡ 7
  seven n e = house-seven (reading s).form r (known e).form.shown

  -- a sheet that breaks its form, or has a count over its maximum, gets that refusal
  pub by-reading : (why : Refusal) → (reading s).end ≡ Err why → convert_text s ≡ refusal_text why
  unfolding convert_text convert_by
  by-reading why e = ap (convert_by s) e

  by_line : (n : Counts) → (reading s).end ≡ Ok n → convert_text s ≡ cond (eqb (fault_line r) 0) (judged s (given (reading s))) (refusal_text (OtherForm (fault_line r)))
  unfolding convert_text convert_by
  by_line n e = ap (convert_by s) e

  -- "17, a form two sheet that form one can't hold, .. place the first line at fault"
  pub by-fault : (l : ℕ) (c : Counts) → (reading s).end ≡ Ok c → FirstFault r l → convert_text s ≡ refusal_text (OtherForm l)
  by-fault l c e f =
      let p = (first-exactly r (seven c e) l).1 f in
      by_line c e ∙ rw (p.0, ne_eqb l 0 (λ z. omega (arith, p.1)))

  held : (c : Counts) → (reading s).end ≡ Ok c → Holds r → convert_text s ≡ judged s (given (reading s))
  held c e h = by_line c e ∙ rw ((holds-exactly r (seven c e)).1 h)

  -- "other jobs get their refusal"
  pub by-job : (c : Counts) (why : Refusal) → (reading s).end ≡ Ok c → Holds r → given (reading s) ≡ some why → convert_text s ≡ refusal_text why
  unfolding judged
  by-job c why e h g = held c e h ∙ ap (judged s) g

  -- a job that is accepted gets the other sheet
  pub by-other : (c : Counts) → (reading s).end ≡ Ok c → Holds r → given (reading s) ≡ none → convert_text s ≡ other_text s
  unfolding judged
  by-other c e h g = held c e h ∙ ap (judged s) g

pub convert_is : (s : List ℕ) → ConvertIs s (convert_text s)
convert_is s = go (reading s).end refl
  where
    r : Written
    r = written_of (reading s)

    job : (c : Counts) → (reading s).end ≡ Ok c → Holds r → (g : Option Refusal) → given (reading s) ≡ g → ConvertIs s (convert_text s)
    job c e h none g = subst (ConvertIs s) (sym (by-other s c e h g)) (written c e h g)
    job c e h (some why) g = subst (ConvertIs s) (sym (by-job s c why e h g)) (declined c why e h g)

    positive : (n : ℕ) → (n ≡ 0 → ⊥) → 0 < n
    positive n h = omega arith

    line : (c : Counts) → (reading s).end ≡ Ok c → (b : Bool) → eqb (fault_line r) 0 ≡ b → ConvertIs s (convert_text s)
    line c e true z = job c e ((holds-exactly r (seven s c e)).0 (eqb-true (fault_line r) 0 z)) (given (reading s)) refl
    line c e false z =
        let f = (first-exactly r (seven s c e) (fault_line r)).0 (refl, positive (fault_line r) (eqb-false (fault_line r) 0 z)) in
        subst (ConvertIs s) (sym (by-fault s (fault_line r) c e f)) (unheld c (fault_line r) e f)

    go : (x : Result Counts Refusal) → (reading s).end ≡ x → ConvertIs s (convert_text s)
    go (Err why) e = subst (ConvertIs s) (sym (by-reading s why e)) (unread why e)
    go (Ok c) e = line c e (eqb (fault_line r) 0) refl

-- "A converter takes every form one sheet whose job is accepted to form two and back to the same bytes"; "Form two goes back only if ..", and forth again to the same bytes
module _ (s : List ℕ) (c : Counts) (sound : (reading s).end ≡ Ok c) (holds : Holds (written_of (reading s))) (ok : given (reading s) ≡ none) where
  goes : Goes s c
  goes = record { sound = sound; holds = holds; short = other-short s c sound holds ok }

  is : convert_text s ≡ other_text s
  is = by-other s c sound holds ok

  -- the other sheet is sound, of the other form, and says the same numbers
  pub converted_sound : SoundAs (convert_text s) (other (reading s).form) (written_of (reading s))
  converted_sound = subst (λ t. SoundAs t (other (reading s).form) (written_of (reading s))) (sym is) (other-sound goes)

  -- so all that the numbers alone decide is the same
  pub same_numbers : (A : Type 0) (what : Sheet → A) → ((r : Written) → what (sheet_of One r) ≡ what (sheet_of Two r)) → what (reading (convert_text s)) ≡ what (reading s)
  same_numbers A what alike = ap (λ t. what (reading t)) is ∙ same-reading goes A what alike

  -- its job is the same, and is accepted
  pub same-sheet_job : sheet_job (reading (convert_text s)) ≡ sheet_job (reading s)
  same-sheet_job = same_numbers Job sheet_job same-job

  -- what the setting program writes of the two is the same
  pub same_answer : answer_text (convert_text s) ≡ answer_text s
  unfolding answer_text
  same_answer = same_numbers (List ℕ) (λ t. answer_by t t.end) same-told

  pub converted_back : convert_text (convert_text s) ≡ s
  converted_back =
      let o = other-sound goes in
      let h : Holds (written_of (reading (other_text s))) = subst Holds (sym o.numbers) holds in
      let g : given (reading (other_text s)) ≡ none = same-reading goes (Option Refusal) given same-given ∙ ok in
      ap convert_text is ∙ by-other (other_text s) o.counts o.sound h g ∙ there_and_back goes

-- a form one sheet: that its job is accepted is all that is asked
pub one-back : (s : List ℕ) (c : Counts) → (reading s).end ≡ Ok c → (reading s).form ≡ One → given (reading s) ≡ none → convert_text (convert_text s) ≡ s
one-back s c e one ok = converted_back s c e (one_holds (written_of (reading s)) (subst (λ f. InForm f (written_of (reading s))) one (known e).form)) ok
