-- From the reading to what is written, which is never over 65,535 bytes: a refusal is short, and the other sheet of an accepted job is.
use Rattle.std.specs.Prelude.{Bool, true, false, cond, List, ◌≡◌, ℕ, ◌≤◌, eqb, Ok, Err, Result}
use Rattle.std.proofs.Math.Option.{Option, none, some}
use Rattle.std.proofs.Math.Path.{refl, sym, subst}
use Rattle.std.proofs.Common.{◌∙◌, ap, arith, eqb-true, length-take-le}
use Rattle.std.proofs.Math.ListN.{length}
use Rattle.std.proofs.Math.Seq.{length-sets}
use Rattle.text.specs.Print.{Wrote}
use Rattle.refusal.specs.declared.Refusal.{Refusal}
use Rattle.refusal.specs.declared.Refusal.TheVariants.{OtherForm}
use Rattle.sheet.specs.declared.Counts.{Counts}
use Rattle.sheet.specs.Sheet.{reading, Tables, Into}
use Rattle.sheet.specs.Form.{Written, written_of}
use Rattle.result.specs.Text.{refusal_text}
use Rattle.result.specs.Short.{refusal_short}
use Rattle.sheet_job.specs.Tables.{Lent}
use Rattle.setter.specs.Answer.{Fits}
use Rattle.sheet_job.specs.Read.{as_read}
use Rattle.other_form.specs.Other.{Holds, fault_line}
use Rattle.other_form.specs.Fault.{house-seven}
use Rattle.other_form.specs.Known.{known}
use Rattle.other_form.specs.First.{holds-exactly}
use Rattle.converter.specs.Convert.{given, judged, convert_by, convert_text, TablesHold, Converted}
use Rattle.converter.specs.Accepted.{other-short}

module _ (s : List ℕ) where
  abbrev r : Written
  r = written_of (reading s)

  -- form one can hold a sound sheet in which no line is at fault
  pub held_by : (n : Counts) → (reading s).end ≡ Ok n → fault_line r ≡ 0 → Holds r
  held_by n e z = (holds-exactly r (house-seven (reading s).form r (known e).form.shown)).0 z

  judged-short : (n : Counts) → (reading s).end ≡ Ok n → Holds r → (g : Option Refusal) → given (reading s) ≡ g → length (judged s g) ≤ 65535
  unfolding judged
  judged-short n e h none ok = other-short s n e h ok
  judged-short n e h (some why) ok = omega (arith, refusal_short why)

  sound-short : (n : Counts) → (reading s).end ≡ Ok n → (b : Bool) → eqb (fault_line r) 0 ≡ b → length (cond b (judged s (given (reading s))) (refusal_text (OtherForm (fault_line r)))) ≤ 65535
  sound-short n e true z = judged-short n e (held_by n e (eqb-true (fault_line r) 0 z)) (given (reading s)) refl
  sound-short n e false z = omega (arith, refusal_short (OtherForm (fault_line r)))

  pub convert_short : length (convert_text s) ≤ 65535
  unfolding convert_text convert_by
  convert_short = go (reading s).end refl
    where
      go : (x : Result Counts Refusal) → (reading s).end ≡ x → length (convert_by s x) ≤ 65535
      go (Err why) e = omega (arith, refusal_short why)
      go (Ok n) e = sound-short n e (eqb (fault_line r) 0) refl

-- the bytes that are written stand within their list
pub converted_fits : {s : List ℕ} {was t : Tables} {out out' : List ℕ} {r : ℕ} → Converted s was out r t out' → length out ≡ 65535 → Fits r out'
converted_fits {s} {out = out} {out' = out'} {r = r} a l =
    let within : r ≤ length out' = omega (arith, a.short, ap length a.text.holds, length-sets out 0 (convert_text s)) in
    (within, sym (length-take-le r out' within))

module _ {s : List ℕ} {was t : Tables} {a : Result Counts Refusal} (into : Into s was a t) where
  pub converted_refused : {out out' : List ℕ} {r : ℕ} {why : Refusal} → a ≡ Err why → Wrote out 0 (refusal_text why) r out' → Converted s was out r t out'
  unfolding convert_text convert_by
  converted_refused {out} {out'} {r} {why} e wrote =
      let is = sym into.answer ∙ e in
      record {
        text = subst (λ xs. Wrote out 0 xs r out') (sym (ap (convert_by s) is)) wrote;
        short = omega (arith, wrote.next, refusal_short why);
        read = as_read into;
      }

  pub tables_hold : {n : Counts} → a ≡ Ok n → Lent t → TablesHold s n t
  tables_hold e lent = record { was = was; into = subst (λ x. Into s was x t) e into; lent = lent }

  pub converted_written : {out out' : List ℕ} {r : ℕ} → Wrote out 0 (convert_text s) r out' → Converted s was out r t out'
  converted_written wrote = record { text = wrote; short = omega (arith, wrote.next, convert_short s); read = as_read into }
