-- From the reading to the account: a sheet that breaks its form is refused, and the tables of a sound one hold its job.
use Rattle.std.specs.Prelude.{List, ◌≡◌, ℕ, ◌/◌, ◌≤◌, min, length, Ok, Err, Result}
use Rattle.std.proofs.Common.{sym, ap, subst, ◌∙◌, arith, length-take-le}
use Rattle.std.proofs.Math.Seq.{length-sets}
use Rattle.text.specs.Print.{Wrote}
use Rattle.refusal.specs.declared.Refusal.{Refusal}
use Rattle.sheet.specs.declared.Counts.{Counts}
use Rattle.sheet.specs.Sheet.{reading, Tables, Into}
use Rattle.result.specs.Text.{refusal_text}
use Rattle.result.specs.Short.{refusal_short}
use Rattle.sheet_job.specs.Tables.{sheet_job, tables_job, Lent}
use Rattle.setter.specs.Answer.{Fits}
use Rattle.sheet_job.specs.Read.{as_read, same-job}
use Rattle.job_account.specs.Outcome.{room}
use Rattle.account_sheet.specs.Answer.{job_account, account_by, account_of_sheet, Lists, lists_by, Told, Answered}

-- the bytes of an account stand within their list
pub fits : {s : List ℕ} {was t : Tables} {before now : Lists} {out out' : List ℕ} {r : ℕ} → Answered s was before out r t now out' → length out ≡ 131072 → Fits r out'
fits {s} {out = out} {out' = out'} {r = r} a l =
    let within : r ≤ length out' = omega (arith, a.short, ap length a.text.holds, length-sets out 0 (account_of_sheet s)) in
    (within, sym (length-take-le r out' within))

-- a sheet that is refused
pub answered-refused : {s : List ℕ} {was t : Tables} {a : Result Counts Refusal} → Into s was a t → {before : Lists} {out out' : List ℕ} {r : ℕ} {why : Refusal} → a ≡ Err why → Wrote out 0 (refusal_text why) r out' →
    Answered s was before out r t before out'
unfolding account_of_sheet account_by lists_by
answered-refused {s} into {before} {out} {out'} {r} {why} e wrote =
    let is = sym into.answer ∙ e in
    record {
      text = subst (λ xs. Wrote out 0 xs r out') (sym (ap (account_by (reading s)) is)) wrote;
      short = omega (arith, wrote.next, refusal_short why);
      holds = sym (ap (λ x. lists_by (reading s) x before) is);
      read = as_read into;
    }

-- lists of the maximum lengths have room for as many base characters as there can be
pub most : (rows told wide : List ℕ) → length rows ≡ 6144 → length told ≡ 1024 → length wide ≡ 1024 → 1024 ≡ room rows told wide
most rows told wide f g h = go (length rows) (length told) (length wide) f g h
  where
    go : (a b c : ℕ) → a ≡ 6144 → b ≡ 1024 → c ≡ 1024 → 1024 ≡ min (a / 6) (min b c)
    go a b c f g h = omega arith

-- a sheet that keeps its form
pub answered-sound : {s : List ℕ} {was t : Tables} {a : Result Counts Refusal} {n : Counts} → Into s was a t → a ≡ Ok n → Lent t →
    {before now : Lists} {out out' : List ℕ} {r : ℕ} → 1024 ≡ room before.rows before.told before.wide →
    Told (tables_job n t) before out r now out' → Answered s was before out r t now out'
unfolding account_of_sheet account_by lists_by
answered-sound {s} into e l {before} {now} {out} {out'} {r} full told =
    let is = sym into.answer ∙ e in
    let x : Told (sheet_job (reading s)) before out r now out' = subst (λ job. Told job before out r now out') (same-job into e l) told in
    record {
      text = subst (λ xs. Wrote out 0 xs r out') (ap (job_account (sheet_job (reading s))) (sym full) ∙ sym (ap (account_by (reading s)) is)) x.text;
      short = x.short;
      holds = x.holds ∙ sym (ap (λ y. lists_by (reading s) y before) is);
      read = as_read into;
    }
