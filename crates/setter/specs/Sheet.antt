-- The answer to a sheet and the outcome of its job: what is written of a sheet that keeps its form is the refusal or the result that `outcome` gives (`refused-written`, `set-written`), with
-- result lists of the program's lengths. Such a job has its counts within their maxima, so it is refused neither with 2 nor with 12 (`never-count`, `never-short`), nor with 13.
use Rattle.std.specs.Prelude.{Bool, true, false, ◌||◌, List, ◌≡◌, refl, ℕ, ◌≤◌, ltb, length, Ok}
use Rattle.std.proofs.Common.{inl, inr, ◌∙◌, arith, ltb-true}
use Rattle.std.proofs.Math.Path.{ap}
use Rattle.std.proofs.Math.Nat.{le_trans, min-le_left}
use Rattle.refusal.specs.declared.Refusal.{Refusal}
use Rattle.refusal.specs.declared.Refusal.TheVariants.{Count, Short, Form}
use Rattle.rows.specs.Table.{length-column}
use Rattle.elements.specs.declared.SheetForm.{SheetForm}
use Rattle.sheet.specs.declared.Counts.{Counts}
use Rattle.sheet.specs.Sheet.{Sheet, reading}
use Rattle.sheet.specs.Form.{Written, InForm, sheet_text, sheet_of}
use Rattle.sheet.specs.Reads.{sheet-reads}
use Rattle.sheet.proofs.Sound.{sound}
use Rattle.door.specs.Job.{Job, base_count, ruby_count, left_count, element_count}
use Rattle.job.specs.declared.Answer.TheVariants.{Set, Refused}
use Rattle.job.specs.Table.{Row}
use Rattle.job.specs.Outcome.{Outcome, outcome}
use Rattle.job.proofs.Demands.{refused-exactly}
use Rattle.result.specs.Text.{result_text, refusal_text}
use Rattle.sheet_job.specs.Tables.{sheet_job}
use Rattle.setter.specs.Answer.{job_text, answer_by, answer_text}
use Rattle.setter.specs.Tell.{refused_text_lem, set_text_lem}

-- what is written of the sheet of some numbers is the text of their job
pub sheet-answered : (f : SheetForm) (r : Written) → InForm f r → answer_text (sheet_text f r) ≡ job_text (sheet_job (sheet_of f r)) 1024 2048 2048 1024
unfolding answer_text answer_by sheet_of
sheet-answered f r form = ap (λ (t : Sheet). answer_by t t.end) (sheet-reads (sheet_text f r) f r form refl)

module _ (s : List ℕ) (c : Counts) (is : (reading s).end ≡ Ok c) where
  abbrev job : Job
  job = sheet_job (reading s)

  -- the counts of the sheet's job are within their maxima
  pub bases-few : base_count job ≤ 1024
  unfolding base_count sheet_job
  bases-few = le_trans (min-le_left _ _) (omega (arith, length-column 0 (reading s).base, (sound s c is).base.count, (sound s c is).base.few))

  pub rubies-few : ruby_count job ≤ 2048
  unfolding ruby_count sheet_job
  rubies-few = le_trans (min-le_left _ _) (omega (arith, length-column 0 (reading s).ruby, (sound s c is).ruby.count, (sound s c is).ruby.few))

  pub elements-few : element_count job ≤ 1024
  unfolding element_count sheet_job
  elements-few = le_trans (min-le_left _ _) (omega (arith, length-column 0 (reading s).elem, (sound s c is).elem.count, (sound s c is).elem.few))

  pub lefts-few : left_count job ≤ 2048
  unfolding left_count sheet_job
  lefts-few = le_trans (min-le_left _ _) (omega (arith, length-column 0 (reading s).left, (sound s c is).left.count, (sound s c is).left.few))

  -- so the refusal list gives it no 2, and no 12 where the result lists have the maximum lengths; 13 is the sheet's own
  module _ (base ruby left lines : ℕ) where
    pub no-count : (p : ℕ) → Row job base ruby left lines (Count p) → ⊥
    no-count p (inl x) = omega (arith, x.1, bases-few)
    no-count p (inr (inl x)) = omega (arith, x.1, rubies-few)
    no-count p (inr (inr (inl x))) = omega (arith, x.1, elements-few)
    no-count p (inr (inr (inr x))) = omega (arith, x.1, lefts-few)

    short-by : (n m k : ℕ) (a b c d : Bool) → n ≤ base → n ≤ lines → m ≤ ruby → k ≤ left → ltb base n ≡ a → ltb lines n ≡ b → ltb ruby m ≡ c → ltb left k ≡ d → (a || (b || (c || d))) ≡ true → ⊥
    short-by n m k true b c d g h i j ea eb ec ed e = omega (arith, ltb-true base n ea)
    short-by n m k false true c d g h i j ea eb ec ed e = omega (arith, ltb-true lines n eb)
    short-by n m k false false true d g h i j ea eb ec ed e = omega (arith, ltb-true ruby m ec)
    short-by n m k false false false true g h i j ea eb ec ed e = omega (arith, ltb-true left k ed)
    short-by n m k false false false false g h i j ea eb ec ed e = absurd (let z : ◌≡◌ {A = ℕ} 0 1 = cc in omega arith)

    pub no_short : 1024 ≤ base → 2048 ≤ ruby → 2048 ≤ left → 1024 ≤ lines → Row job base ruby left lines Short → ⊥
    no_short g h k i e =
        short-by (base_count job) (ruby_count job) (left_count job) (ltb base (base_count job)) (ltb lines (base_count job)) (ltb ruby (ruby_count job)) (ltb left (left_count job))
        (omega (arith, bases-few)) (omega (arith, bases-few)) (omega (arith, rubies-few)) (omega (arith, lefts-few)) refl refl refl refl e

  -- The same of the answer.
  module _ (base ruby left lines : List ℕ) where
    abbrev result : Outcome
    result = outcome job base ruby left lines

    pub never-count : (p : ℕ) → result.answer ≡ Refused (Count p) → ⊥
    never-count p e = no-count (length base) (length ruby) (length left) (length lines) p ((refused-exactly job base ruby left lines (Count p)).0 e).holds

    pub never-form : (p : ℕ) → result.answer ≡ Refused (Form p) → ⊥
    never-form p e = ((refused-exactly job base ruby left lines (Form p)).0 e).holds

    module _ (bases : length base ≡ 1024) (rubies : length ruby ≡ 2048) (lefts : length left ≡ 2048) (ends : length lines ≡ 1024) where
      -- "12: a result list too short": of no sheet
      pub never-short : result.answer ≡ Refused Short → ⊥
      never-short e =
          no_short (length base) (length ruby) (length left) (length lines) (omega (arith, bases)) (omega (arith, rubies)) (omega (arith, lefts)) (omega (arith, ends))
          ((refused-exactly job base ruby left lines Short).0 e).holds

      job-written : answer_text s ≡ job_text job (length base) (length ruby) (length left) (length lines)
      unfolding answer_text answer_by
      job-written = ap (answer_by (reading s)) is ∙ rw (bases, rubies, lefts, ends)

      -- "writes `refused N P`, or a result": the refusal that the outcome of the job has, or its lines and positions
      pub refused-written : {r : Refusal} → result.answer ≡ Refused r → answer_text s ≡ refusal_text r
      refused-written e = job-written ∙ refused_text_lem job base ruby left lines e

      pub set-written : {n : ℕ} → result.answer ≡ Set n → answer_text s ≡ result_text job result.base result.ruby result.left
      set-written e = job-written ∙ set_text_lem job base ruby left lines e
