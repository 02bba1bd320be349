-- From the reading to the answer: a sheet that breaks its form is refused, and the tables of a sound one hold its job.
use Rattle.std.specs.Prelude.{List, ◌≡◌, ℕ, ◌≤◌, length, Ok, Err, Result}
use Rattle.std.proofs.Math.Path.{sym, subst}
use Rattle.std.proofs.Common.{ap, ◌∙◌, arith, length-take-le}
use Rattle.std.proofs.Math.Seq.{length-sets}
use Rattle.text.specs.Print.{Wrote}
use Rattle.refusal.specs.declared.Refusal.{Refusal}
use Rattle.sheet.specs.declared.Counts.{Counts}
use Rattle.sheet.specs.Sheet.{reading, Tables, Into}
use Rattle.result.specs.Text.{refusal_text}
use Rattle.result.specs.Short.{refusal_short}
use Rattle.sheet_job.specs.Tables.{sheet_job, tables_job, Lent}
use Rattle.sheet_job.specs.Read.{as_read, same-job}
use Rattle.setter.specs.Answer.{answer_by, answer_text, Lists, ListsLong, lists_by, Told, Fits, Answered}

-- the bytes of an answer stand within their list
pub fits : {s : List ℕ} {was t : Tables} {before now : Lists} {out out' : List ℕ} {r : ℕ} → Answered s was before out r t now out' → length out ≡ 131072 → Fits r out'
fits {s} {out = out} {out' = out'} {r = r} a l =
    let within : r ≤ length out' = omega (arith, a.short, ap length a.text.holds, length-sets out 0 (answer_text s)) in
    (within, sym (length-take-le r out' within))

-- a sheet that is refused
pub answered-refused : {s : List ℕ} {was t : Tables} {a : Result Counts Refusal} → Into s was a t → {before : Lists} {out out' : List ℕ} {r : ℕ} {why : Refusal} → a ≡ Err why → Wrote out 0 (refusal_text why) r out' →
    Answered s was before out r t before out'
unfolding answer_text answer_by lists_by
answered-refused {s} into {before} {out} {out'} {r} {why} e wrote =
    let is = sym into.answer ∙ e in
    record {
      text = subst (λ xs. Wrote out 0 xs r out') (sym (ap (answer_by (reading s)) is)) wrote;
      short = omega (arith, wrote.next, refusal_short why);
      holds = sym (ap (λ x. lists_by (reading s) x before) is);
      read = as_read into;
    }

-- a sheet that keeps its form
module _ {s : List ℕ} {was t : Tables} {a : Result Counts Refusal} {n : Counts} (into : Into s was a t) (e : a ≡ Ok n) (now : Lent t) where
  pub answered-sound : {before after : Lists} {out out' : List ℕ} {r : ℕ} → ListsLong before → Told (tables_job n t) before out r after out' →
      Answered s was before out r t after out'
  unfolding answer_text answer_by lists_by
  answered-sound {before} {after} {out} {out'} {r} long told =
      let is = sym into.answer ∙ e in
      let x : Told (sheet_job (reading s)) before out r after out' = subst (λ job. Told job before out r after out') (same-job into e now) told in
      record {
        text = subst (λ xs. Wrote out 0 xs r out') (rw (long.bases, long.rubies, long.lefts, long.ends) (sym (ap (answer_by (reading s)) is))) x.text;
        short = x.short;
        holds = x.holds ∙ sym (ap (λ y. lists_by (reading s) y before) is);
        read = as_read into;
      }
