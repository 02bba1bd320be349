-- The text that was written is the job's: the refusal that it was given, or its result.
use mathlib.Core.List.{List}
use Rattle.std.proofs.Math.Option.{Option, none, some}
use Rattle.std.proofs.Math.Path.{◌≡◌, sym, ap}
use Rattle.std.proofs.Common.{subst, ◌∙◌, arith}
use Rattle.std.specs.Prelude.{ℕ, ◌≤◌, length}
use Rattle.text.specs.Print.{Wrote}
use Rattle.refusal.specs.declared.Refusal.{Refusal}
use Rattle.line.specs.declared.Side.TheVariants.{Right, Left}
use Rattle.door.specs.Job.{Job}
use Rattle.job.specs.declared.Answer.TheVariants.{Set, Refused}
use Rattle.job.specs.Line.{ends, base_in, reading_in, by_line}
use Rattle.job.specs.Refusals.{fault}
use Rattle.job.specs.Outcome.{Outcome, after, outcome}
use Rattle.job.proofs.Demands.{lines-filled, base-told, reading-told}
use Rattle.result.specs.Text.{result_text, refusal_text}
use Rattle.result.specs.Set.{accepted, door}
use Rattle.result.specs.Short.{longest, result-short, refusal_short}
use Rattle.setter.specs.Answer.{set_text, text_by, job_text, lists, Told}
use Rattle.setter.specs.Over.{result-over}

module _ (job : Job) (base ruby left lines : List ℕ) where
  abbrev given : Option Refusal
  given = fault job (length base) (length ruby) (length left) (length lines)

  abbrev text : List ℕ
  text = job_text job (length base) (length ruby) (length left) (length lines)

  refused-given : {r : Refusal} → (outcome job base ruby left lines).answer ≡ Refused r → given ≡ some r
  unfolding outcome after
  refused-given {r} = go given
    where
      go : (f : Option Refusal) → (after job base ruby left lines f).answer ≡ Refused r → f ≡ some r
      go none e = absurd (let z : ◌≡◌ {A = ℕ} 0 1 = cc in omega arith)
      go (some q) e = let h : q ≡ r = cc in ap {B = Option Refusal} some h

  -- the text of a job is that of the refusal that its outcome has
  pub refused_text_lem : {r : Refusal} → (outcome job base ruby left lines).answer ≡ Refused r → text ≡ refusal_text r
  unfolding job_text text_by
  refused_text_lem e = rw (refused-given e)

  -- or of the positions that its outcome leaves in the result lists
  pub set_text_lem : {n : ℕ} → (outcome job base ruby left lines).answer ≡ Set n → text ≡ (let o = outcome job base ruby left lines in result_text job o.base o.ruby o.left)
  unfolding job_text text_by set_text
  set_text_lem e =
      let ok = accepted job base ruby left lines e in
      let b = base-told job base ruby left lines ok in
      let r = reading-told job base ruby left lines ok Right in
      let l = reading-told job base ruby left lines ok Left in
      ap (text_by job) ok
      ∙ sym (result-over job (by_line (base_in job) 0 (ends job)) (by_line (reading_in Right job) 0 (ends job)) (by_line (reading_in Left job) 0 (ends job)) base ruby left (omega (arith, b.1)) (omega (arith, r.1))
      (omega (arith, l.1)) (door job base ruby left lines e))
      ∙ three (sym b.0) (sym r.0) (sym l.0)
    where
      three : {a a' b b' c c' : List ℕ} → a ≡ a' → b ≡ b' → c ≡ c' → result_text job a b c ≡ result_text job a' b' c'
      three {a} {a'} {b} {b'} {c} {c'} e f g = ap (λ x. result_text job x b c) e ∙ ap (λ x. result_text job a' x c) f ∙ ap (λ x. result_text job a' b' x) g

  set-short : {n : ℕ} → (outcome job base ruby left lines).answer ≡ Set n → (b r l : List ℕ) → length (result_text job b r l) ≤ longest
  set-short e b r l = result-short job b r l (door job base ruby left lines e) (lines-filled job base ruby left lines (accepted job base ruby left lines e))

-- what the entry point left, and a text after it
abbrev Tells : Job → List ℕ → List ℕ → List ℕ → List ℕ → List ℕ → Outcome → ℕ → List ℕ → Type 0
Tells job base ruby left lines out o r now = Told job (lists base ruby left lines) out r (lists o.base o.ruby o.left o.lines) now

module _ {job : Job} {base ruby left lines out : List ℕ} {o : Outcome} (e : o ≡ outcome job base ruby left lines) {r : ℕ} {now : List ℕ} where
  tells : {xs : List ℕ} → job_text job (length base) (length ruby) (length left) (length lines) ≡ xs → length xs ≤ longest → Wrote out 0 xs r now → Tells job base ruby left lines out o r now
  tells same few wrote =
      record {
        holds = ap (λ (x : Outcome). lists x.base x.ruby x.left x.lines) e;
        text = subst (λ xs. Wrote out 0 xs r now) (sym same) wrote;
        short = omega (arith, wrote.next);
      }

  pub told-refused : {why : Refusal} → o.answer ≡ Refused why → Wrote out 0 (refusal_text why) r now → Tells job base ruby left lines out o r now
  told-refused {why} is wrote = tells (refused_text_lem job base ruby left lines (ap (λ (x : Outcome). x.answer) (sym e) ∙ is)) (omega (arith, refusal_short why)) wrote

  pub told-set : {n : ℕ} → o.answer ≡ Set n → Wrote out 0 (result_text job o.base o.ruby o.left) r now → Tells job base ruby left lines out o r now
  told-set is wrote =
      tells (set_text_lem job base ruby left lines (ap (λ (x : Outcome). x.answer) (sym e) ∙ is) ∙ ap (λ (x : Outcome). result_text job x.base x.ruby x.left) (sym e))
      (set-short job base ruby left lines (ap (λ (x : Outcome). x.answer) (sym e) ∙ is) o.base o.ruby o.left) wrote
