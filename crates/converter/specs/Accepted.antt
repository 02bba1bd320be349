-- A sheet whose job is accepted is converted within 65,535 bytes: form one to form two by the job's limits (`Modest`), form two to form one since that is shorter.
use Rattle.std.specs.Prelude.{List, ◌++◌, ◌≡◌, refl, ℕ, ◌≤◌, min, length, Ok}
use Rattle.std.proofs.Math.Option.{none}
use Rattle.std.proofs.Common.{◌∙◌, ap, subst, arith}
use Rattle.rows.specs.Table.{column, length-column}
use Rattle.elements.specs.declared.SheetForm.{SheetForm}
use Rattle.elements.specs.declared.SheetForm.TheVariants.{One, Two}
use Rattle.elements.specs.Print.{rows_of, rows-many}
use Rattle.sheet.specs.declared.Counts.{Counts}
use Rattle.sheet.specs.Sheet.{Sheet, reading}
use Rattle.sheet.specs.Form.{Written, InForm, sheet_of, written_of}
use Rattle.door.specs.Job.{Job, base_count, ruby_count, element_count}
use Rattle.door.specs.Refusals.{own_faults}
use Rattle.door.specs.Verdict.{append_none}
use Rattle.door.specs.Passed.{Passed, passed}
use Rattle.job.specs.Laws.{head-none}
use Rattle.job.specs.Refusals.{lines_faults, faults, fault}
use Rattle.sheet_job.specs.Tables.{sheet_job}
use Rattle.other_form.specs.Other.{other_text, Holds}
use Rattle.other_form.specs.Known.{known}
use Rattle.other_form.specs.Joined.{other-one}
use Rattle.other_form.specs.Back.{back-short}
use Rattle.other_form.specs.Short.{two-short}
use Rattle.converter.specs.Modest.{JobHas, modest}
use Rattle.converter.specs.Convert.{given}

-- lists that are all as long as one
least-five : (n a b c d e : ℕ) → a ≡ n → b ≡ n → c ≡ n → d ≡ n → e ≡ n → min a (min b (min c (min d e))) ≡ n
least-five n a b c d e p q r s t = omega arith

least-two : (n a b : ℕ) → a ≡ n → b ≡ n → min a b ≡ n
least-two n a b p q = omega arith

pub job-has : (f : SheetForm) (r : Written) → JobHas (sheet_job (sheet_of f r)) r
unfolding sheet_job sheet_of base_count ruby_count element_count
job-has f r =
    let b = r.base in
    let many : (j : ℕ) → length (column j (rows_of r.elem)) ≡ length r.elem = λ j. length-column j (rows_of r.elem) ∙ rows-many r.elem in
    record {
      class = refl;
      width = refl;
      before = refl;
      after = refl;
      flag = refl;
      ruby_class = refl;
      ruby_width = refl;
      kind = refl;
      element_base = refl;
      element_ruby = refl;
      run = refl;
      bases = least-five (length b) _ _ _ _ _ (length-column 0 b) (length-column 1 b) (length-column 2 b) (length-column 3 b) (length-column 4 b);
      rubies = least-two (length r.ruby) _ _ (length-column 0 r.ruby) (length-column 1 r.ruby);
      elements = least-five (length r.elem) _ _ _ _ _ (many 0) (many 1) (many 2) (many 3) (many 4);
    }

-- a job without a refusal passed the door
passed-by : (job : Job) (base ruby left lines : ℕ) → fault job base ruby left lines ≡ none → Passed job
unfolding fault faults
passed-by job base ruby left lines e =
    passed job base ruby left lines (append_none (own_faults job base ruby left lines) (lines_faults job) (head-none (own_faults job base ruby left lines ++ lines_faults job) e)).0

pub given-passed : (t : Sheet) → given t ≡ none → Passed (sheet_job t)
unfolding given
given-passed t e = passed-by (sheet_job t) 1024 2048 2048 1024 e

one-short : (s : List ℕ) (n : Counts) → (reading s).end ≡ Ok n → given (reading s) ≡ none → (reading s).form ≡ One → length (other_text s) ≤ 65535
one-short s n e ok one =
    let r = written_of (reading s) in
    let k = known e in
    let f = subst (λ f. InForm f r) one k.form in
    let p = subst (λ t. Passed (sheet_job t)) k.is (given-passed (reading s) ok) in
    omega (arith, ap length (other-one s one), two-short r f (modest (sheet_job (sheet_of (reading s).form r)) r (job-has (reading s).form r) p f))

pub other-short : (s : List ℕ) (n : Counts) → (reading s).end ≡ Ok n → Holds (written_of (reading s)) → given (reading s) ≡ none → length (other_text s) ≤ 65535
other-short s n e h ok = go (reading s).form refl
  where
    go : (f : SheetForm) → (reading s).form ≡ f → length (other_text s) ≤ 65535
    go One i = one-short s n e ok i
    go Two i = back-short s n e h i
