-- What is written, by what the code finds: the line at fault, the job's own refusal, or that it has none.
use Rattle.std.specs.Prelude.{Bool, true, false, cond, List, ◌≡◌, ℕ, eqb, length, Result, Ok, Err, ⊤}
use Rattle.std.proofs.Math.Option.{Option, none, some}
use Rattle.std.proofs.Math.Path.{refl, ap}
use Rattle.std.proofs.Common.{◌∙◌, ap₂, sym, subst, arith}
use Rattle.text.specs.Print.{Wrote}
use Rattle.refusal.specs.declared.Refusal.{Refusal}
use Rattle.refusal.specs.declared.Refusal.TheVariants.{OtherForm}
use Rattle.sheet.specs.declared.Counts.{Counts}
use Rattle.sheet.specs.Sheet.{reading, Tables}
use Rattle.sheet.specs.Form.{written_of}
use Rattle.job.specs.Refusals.{fault}
use Rattle.result.specs.Text.{refusal_text}
use Rattle.sheet_job.specs.Tables.{tables_job, TablesLong}
use Rattle.sheet_job.specs.Read.{tables-long, same-job}
use Rattle.sheet.proofs.Lent.{set_long, elem-long}
use Rattle.other_form.specs.Other.{fault_line}
use Rattle.other_form.specs.Ready.{FaultReady, OtherReady}
use Rattle.other_form.specs.Fault.{line_by, fault-ready, line_by_lem, house-seven}
use Rattle.other_form.specs.Known.{known}
use Rattle.other_form.specs.First.{holds-exactly}
use Rattle.converter.specs.Convert.{given, judged, convert_by, convert_text, own, verdict, TablesHold}
use Rattle.converter.specs.Accepted.{other-short}
use Rattle.converter.specs.Steps.{written, passed}

written-by : (s : List ℕ) (line : ℕ) (g : Option Refusal) → cond (eqb line 0) (judged s g) (refusal_text (OtherForm line)) ≡ written s (verdict line g)
unfolding judged
written-by s line g = go (eqb line 0) g
  where
    go : (b : Bool) (g : Option Refusal) → cond b (judged s g) (refusal_text (OtherForm line)) ≡ written s (cond b (own g) (Err (OtherForm line)))
    go true none = refl
    go true (some r) = refl
    go false g = refl

-- A sound sheet in its tables.
module _ {s : List ℕ} {n : Counts} {t : Tables} (q : TablesHold s n t) where
  sound : (reading s).end ≡ Ok n
  sound = sym q.into.answer

  nine : length q.was.set ≡ 9
  nine = sym (set_long q.into) ∙ q.lent.nine

  wide : length q.was.elem ≡ 5120
  wide = sym (elem-long q.into) ∙ q.lent.rest.long_elem

  pub judge_ready : FaultReady n t.set t.elem × TablesLong n t
  judge_ready = (fault-ready q.into nine wide, tables-long q.into refl q.lent)

  -- the line that the tables give is the first at fault, and the job that they hold is the sheet's
  line-is : line_by n t.set t.elem ≡ fault_line (written_of (reading s))
  line-is = line_by_lem q.into nine wide

  given_is : fault (tables_job n t) 1024 2048 2048 1024 ≡ given (reading s)
  unfolding given
  given_is = ap (λ job. fault job 1024 2048 2048 1024) (same-job q.into refl q.lent)

  module _ {c : Result ⊤ Refusal} (e : c ≡ verdict (line_by n t.set t.elem) (fault (tables_job n t) 1024 2048 2048 1024)) where
    told : c ≡ verdict (fault_line (written_of (reading s))) (given (reading s))
    told = e ∙ ap₂ verdict line-is given_is

    convert_is : convert_text s ≡ written s c
    unfolding convert_text convert_by
    convert_is = ap (convert_by s) sound ∙ written-by s (fault_line (written_of (reading s))) (given (reading s)) ∙ ap (written s) (sym told)

    pub wrote_verdict : {d : Result ⊤ Refusal} {out out' : List ℕ} {k : ℕ} → c ≡ d → Wrote out 0 (written s d) k out' → Wrote out 0 (convert_text s) k out'
    wrote_verdict {d} {out} {out'} {k} is w = subst (λ xs. Wrote out 0 xs k out') (sym (convert_is ∙ ap (written s) is)) w

    pub other-ready : {out : List ℕ} → c ≡ Ok tt → length out ≡ 65535 → OtherReady s n out
    other-ready {out} is room =
        let free = passed (fault_line (written_of (reading s))) (given (reading s)) (sym told ∙ is) in
        let holds = (holds-exactly (written_of (reading s)) (house-seven (reading s).form (written_of (reading s)) (known sound).form.shown)).0 free.0 in
        record { sound = sound; holds = holds; room = omega (arith, room, other-short s n sound holds free.1) }
