-- The number and the place of each refusal (document 01, "Refusal list": "Each returns its number and a place").
use Rattle.std.specs.Prelude.{◌≡◌, refl, cond, ℕ, ◌≤◌, eqb}
use Rattle.std.proofs.Common.{sym, ap, ap₂, ◌∙◌, arith}
use Rattle.refusal.specs.declared.Refusal.{Refusal}
use Rattle.refusal.specs.declared.Refusal.TheVariants.{Range, Ratio, Profile, Count, Short, Character, Blanks, Element, LeftKind, Supply, BlankInside, JukugoBase, Mixed, WesternOver, NoBreak, Form, OtherForm}

abbrev pub number_of : Refusal → ℕ
number_of (Range p) = 1
number_of (Ratio p) = 15
number_of Profile = 20
number_of (Count p) = 2
number_of Short = 12
number_of (Character p) = 3
number_of (Blanks p) = 4
number_of (Element p) = 5
number_of (LeftKind p) = 16
number_of (Supply p) = 6
number_of (BlankInside p) = 7
number_of (JukugoBase p) = 8
number_of (Mixed p) = 9
number_of (WesternOver p) = 10
number_of (NoBreak p) = 11
number_of (Form p) = 13
number_of (OtherForm p) = 17

-- 12 and 20 have the place 0
abbrev pub place_of : Refusal → ℕ
place_of (Range p) = p
place_of (Ratio p) = p
place_of Profile = 0
place_of (Count p) = p
place_of Short = 0
place_of (Character p) = p
place_of (Blanks p) = p
place_of (Element p) = p
place_of (LeftKind p) = p
place_of (Supply p) = p
place_of (BlankInside p) = p
place_of (JukugoBase p) = p
place_of (Mixed p) = p
place_of (WesternOver p) = p
place_of (NoBreak p) = p
place_of (Form p) = p
place_of (OtherForm p) = p

-- no number has more than two digits
pub two_digits : (r : Refusal) → number_of r ≤ 99
two_digits (Range p) = omega arith
two_digits (Ratio p) = omega arith
two_digits Profile = omega arith
two_digits (Count p) = omega arith
two_digits Short = omega arith
two_digits (Character p) = omega arith
two_digits (Blanks p) = omega arith
two_digits (Element p) = omega arith
two_digits (LeftKind p) = omega arith
two_digits (Supply p) = omega arith
two_digits (BlankInside p) = omega arith
two_digits (JukugoBase p) = omega arith
two_digits (Mixed p) = omega arith
two_digits (WesternOver p) = omega arith
two_digits (NoBreak p) = omega arith
two_digits (Form p) = omega arith
two_digits (OtherForm p) = omega arith

-- The paper's number and place determine the case: `by_paper` finds it again.
unfoldable pub by_paper : ℕ → ℕ → Refusal
by_paper n p =
    cond (eqb n 1) (Range p)
    (cond (eqb n 15) (Ratio p)
    (cond (eqb n 20) Profile
    (cond (eqb n 2) (Count p)
    (cond (eqb n 3) (Character p)
    (cond (eqb n 4) (Blanks p)
    (cond (eqb n 5) (Element p)
    (cond (eqb n 16) (LeftKind p)
    (cond (eqb n 6) (Supply p)
    (cond (eqb n 7) (BlankInside p)
    (cond (eqb n 8) (JukugoBase p)
    (cond (eqb n 9) (Mixed p)
    (cond (eqb n 10) (WesternOver p)
    (cond (eqb n 11) (NoBreak p)
    (cond (eqb n 13) (Form p)
    (cond (eqb n 17) (OtherForm p) Short)))))))))))))))

back : (r : Refusal) → by_paper (number_of r) (place_of r) ≡ r
unfolding by_paper
back (Range p) = refl
back (Ratio p) = refl
back Profile = refl
back (Count p) = refl
back Short = refl
back (Character p) = refl
back (Blanks p) = refl
back (Element p) = refl
back (LeftKind p) = refl
back (Supply p) = refl
back (BlankInside p) = refl
back (JukugoBase p) = refl
back (Mixed p) = refl
back (WesternOver p) = refl
back (NoBreak p) = refl
back (Form p) = refl
back (OtherForm p) = refl

-- so a number gives its case
pub of_number : (r : Refusal) (n : ℕ) → number_of r ≡ n → r ≡ by_paper n (place_of r)
of_number r n e = sym (back r) ∙ ap (λ m. by_paper m (place_of r)) e

pub same_refusal : (r q : Refusal) → number_of r ≡ number_of q → place_of r ≡ place_of q → r ≡ q
same_refusal r q n p = sym (back r) ∙ ap₂ by_paper n p ∙ back q
