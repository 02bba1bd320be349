-- A text that answers a sheet, the setting's or the account's: when it is `refused N P`. Either the reading gave that refusal, or the refusal list gives the number to the sheet's job. So it is
-- known of the sheet's bytes when it is 13 or 2, and that it is never 12.
use Rattle.std.specs.Prelude.{true, List, ◌++◌, ◌↔◌, ◌≡◌, refl, ℕ, ◌≤◌, Ok, Err}
use Rattle.std.proofs.Common.{◌∙◌, ap, sym, subst, arith}
use Rattle.text.specs.Text.{most}
use Rattle.text.specs.Print.{bytes, decimal}
use Rattle.text.specs.Unique.{decimal-one}
use Rattle.refusal.specs.declared.Refusal.{Refusal}
use Rattle.refusal.specs.declared.Refusal.TheVariants.{Count, Short, Form}
use Rattle.refusal.specs.Refusal.{number_of, place_of, by_paper, of_number}
use Rattle.sheet.specs.declared.Counts.{Counts}
use Rattle.sheet.specs.Sheet.{reading}
use Rattle.sheet.specs.Faults.{ours}
use Rattle.sheet.proofs.Faults.{thirteen_or_two}
use Rattle.sheet.specs.Form.{Over}
use Rattle.sheet.specs.Breaks.{Breaks, place-most}
use Rattle.sheet.proofs.Exact.{two-exactly, place-exactly}
use Rattle.sheet.specs.Place.{over-most}
use Rattle.door.specs.Job.{Job}
use Rattle.job.specs.Table.{First}
use Rattle.result.specs.Text.{line_two, refusal_text}
use Rattle.sheet_job.specs.Tables.{sheet_job}
use Rattle.setter.specs.Sheet.{no-count, no_short}

-- why a sheet gets the number n and a place that is written as p is
pub data Given (s : List ℕ) (n p : ℕ) : Type 0 where
  by-sheet : (r : Refusal) → number_of r ≡ n → decimal (place_of r) ≡ decimal p → (reading s).end ≡ Err r → Given s n p
  by-job : (c : Counts) (r : Refusal) → number_of r ≡ n → (reading s).end ≡ Ok c → First (sheet_job (reading s)) 1024 2048 2048 1024 r → Given s n p

-- the number gives the case
is-form : (r : Refusal) → number_of r ≡ 13 → r ≡ Form (place_of r)
unfolding by_paper
is-form r e = of_number r 13 e

is-count : (r : Refusal) → number_of r ≡ 2 → r ≡ Count (place_of r)
unfolding by_paper
is-count r e = of_number r 2 e

is-short : (r : Refusal) → number_of r ≡ 12 → r ≡ Short
unfolding by_paper
is-short r e = of_number r 12 e

-- a refusal's text, with its number as it is written
line_two_lem : (p : ℕ) → bytes "refused 2 " ++ (decimal p ++ bytes "\n") ≡ line_two (bytes "refused") 2 p
unfolding line_two
line_two_lem p = refl

line_twelve : (p : ℕ) → bytes "refused 12 " ++ (decimal p ++ bytes "\n") ≡ line_two (bytes "refused") 12 p
unfolding line_two
line_twelve p = refl

line_thirteen : (p : ℕ) → bytes "refused 13 " ++ (decimal p ++ bytes "\n") ≡ line_two (bytes "refused") 13 p
unfolding line_two
line_thirteen p = refl

text_of : (r : Refusal) → refusal_text r ≡ line_two (bytes "refused") (number_of r) (place_of r)
unfolding refusal_text
text_of r = refl

module _ (s : List ℕ) where
  abbrev job : Job
  job = sheet_job (reading s)

  -- the reading gives no number but 13 and 2
  not-read : (r q : Refusal) → r ≡ q → (reading s).end ≡ Err r → ours q ≡ true
  not-read r q f e = subst (λ x. ours x ≡ true) f (thirteen_or_two s r e)

  breaks-given : (l : ℕ) → Given s 13 l → Breaks s l
  breaks-given l (by-sheet r n p e) =
      let b = (place-exactly s (place_of r)).0 (e ∙ ap Err (is-form r n)) in
      subst (Breaks s) (sym (decimal-one l (place_of r) (omega (arith, place-most b)) (sym p))) b
  breaks-given l (by-job c r n is first) = absurd (subst (First job 1024 2048 2048 1024) (is-form r n) first).holds

  over-given : (which : ℕ) → Given s 2 which → Over s which
  over-given which (by-sheet r n p e) =
      let b = (two-exactly s (place_of r)).0 (e ∙ ap Err (is-count r n)) in
      subst (Over s) (sym (decimal-one which (place_of r) (omega (arith, over-most b)) (sym p))) b
  over-given which (by-job c r n is first) = absurd (no-count s c is 1024 2048 2048 1024 (place_of r) (subst (First job 1024 2048 2048 1024) (is-count r n) first).holds)

  twelve_given : (p : ℕ) → Given s 12 p → ⊥
  twelve_given p (by-sheet r n q e) = let g = not-read r Short (is-short r n) e in let z : ◌≡◌ {A = ℕ} 0 1 = cc in omega arith
  twelve_given p (by-job c r n is first) =
      no_short s c is 1024 2048 2048 1024 (omega arith) (omega arith) (omega arith) (omega arith) (subst (First job 1024 2048 2048 1024) (is-short r n) first).holds

  -- an answer that is the reading's refusal where there is one, and `refused N P` for no other cause
  module _ (answer : List ℕ) (read : (r : Refusal) → (reading s).end ≡ Err r → answer ≡ refusal_text r)
      (given : (n p : ℕ) → n ≤ most → answer ≡ line_two (bytes "refused") n p → Given s n p) where
    pub thirteen_by : (l : ℕ) → (answer ≡ bytes "refused 13 " ++ (decimal l ++ bytes "\n")) ↔ Breaks s l
    thirteen_by l =
        (λ e. breaks-given l (given 13 l (omega arith) (e ∙ line_thirteen l)), λ b. read (Form l) ((place-exactly s l).1 b) ∙ (text_of (Form l) ∙ sym (line_thirteen l)))

    pub two_by : (which : ℕ) → (answer ≡ bytes "refused 2 " ++ (decimal which ++ bytes "\n")) ↔ Over s which
    two_by which =
        (λ e. over-given which (given 2 which (omega arith) (e ∙ line_two_lem which)), λ o. read (Count which) ((two-exactly s which).1 o) ∙ (text_of (Count which) ∙ sym (line_two_lem which)))

    pub twelve_by : (p : ℕ) → answer ≡ bytes "refused 12 " ++ (decimal p ++ bytes "\n") → ⊥
    twelve_by p e = twelve_given p (given 12 p (omega arith) (e ∙ line_twelve p))
