-- Theorems `number-only` and `word-only`: what was read as a number is that number in decimal and the byte that ends it, and what was read as a word is that word. With `number-back` of Back:
-- a number is read exactly where it is written, and in one way. `decimal-one`: no two numbers are written alike.
use Rattle.std.specs.Prelude.{ℕ, Option, Some, None, zero, suc, ◌+◌, ◌-◌, ◌*◌, ◌/◌, ◌%◌, ◌^◌, ◌<◌, ◌≤◌, ◌≡◌, refl, List, [], ◌∷◌, ◌++◌, Bool, true, false, cond, eqb, ltb, length, get_or, drop}
use Rattle.std.proofs.Common.{◌∙◌, ap, ap₂, sym, append_assoc, arith, pow-suc, div-one, div-lt_iff_lt-mul, div-mul-le_self, mul-le-mul_right, mul_comm, add-zero, mod-eq_of_lt, eqb-true, ltb-false, le-leb, length-append}
use Rattle.std.proofs.Math.Decide.{dec_lt}
use Rattle.std.proofs.Math.Nat.{div-div-eq-div-mul, pow-le-pow_right}
use Rattle.std.proofs.lemmas.Bool.{eqb-false}
use Rattle.std.proofs.lemmas.Bool.Decides.{Decides-eqb}
use Rattle.std.proofs.lemmas.Option.{cond_some, none-some, some_pair_parts}
use Rattle.std.proofs.lemmas.Slice.Eq.{starts_is}
use Rattle.std.specs.List.{starts_with}
use Rattle.text.specs.Text.{most, more, alone, number, word}
use Rattle.text.specs.Print.{spell, width_from, width, decimal}
use Rattle.text.specs.Written.{length-decimal, width_le}
use Rattle.text.specs.Back.{tens, value, Wide, wide-ten, wide}

-- digits up to `stop`, after digits that say v: they are the last digits of n, and the digits before them say v
record Digits (l : List ℕ) (stop v at n next : ℕ) : Type 0 where
  digits : ℕ
  rest : List ℕ
  text : l ≡ spell digits n ++ (stop ∷ rest)
  past : next ≡ at + digits + 1
  front : n / 10 ^ digits ≡ v
  small : v ≤ most → n ≤ most

digit-back : (x b v : ℕ) → 48 ≤ b → b ≤ 57 → x ≡ v * 10 + (b - 48) → b ≡ 48 + x % 10
digit-back x b v h g e = omega arith

digit-front : (n p b v : ℕ) → 48 ≤ b → b ≤ 57 → n / p ≡ v * 10 + (b - 48) → n / (p * 10) ≡ v
digit-front n p b v h g e = sym (div-div-eq-div-mul n p 10) ∙ (rw e (omega arith))

more-case : (b : ℕ) (rest : List ℕ) (stop v at n next : ℕ) (t1 t2 t3 t4 : Bool) → eqb b stop ≡ t1 → ltb b 48 ≡ t2 → ltb 57 b ≡ t3 → ltb most (v * 10 + (b - 48)) ≡ t4 →
    (x : Option (ℕ × ℕ)) → (x ≡ Some (n, next) → Digits rest stop (v * 10 + (b - 48)) (at + 1) n next) →
    cond t1 (Some (v, at + 1)) (cond t2 None (cond t3 None (cond t4 None x))) ≡ Some (n, next) → Digits (b ∷ rest) stop v at n next
unfolding spell
more-case b rest stop v at n next true t2 t3 t4 h1 h2 h3 h4 x on e =
    let p = some_pair_parts v n (at + 1) next e in
    let f = p.0 in
    let g = p.1 in
    record {
      digits = 0;
      rest = rest;
      text = ap {B = List ℕ} (λ c. c ∷ rest) (eqb-true b stop h1);
      past = omega arith;
      front = div-one n ∙ sym f;
      small = λ q. omega arith;
    }
more-case b rest stop v at n next false true t3 t4 h1 h2 h3 h4 x on e = absurd (none-some (n, next) e)
more-case b rest stop v at n next false false true t4 h1 h2 h3 h4 x on e = absurd (none-some (n, next) e)
more-case b rest stop v at n next false false false true h1 h2 h3 h4 x on e = absurd (none-some (n, next) e)
more-case b rest stop v at n next false false false false h1 h2 h3 h4 x on e =
    let d = on e in
    let lo = ltb-false b 48 h2 in
    let hi = ltb-false 57 b h3 in
    record {
      digits = suc d.digits;
      rest = d.rest;
      text = ap₂ {C = List ℕ} (λ c l. c ∷ l) (digit-back (n / 10 ^ d.digits) b v lo hi d.front) d.text;
      past = omega (arith, d.past);
      front = rw (pow-suc) (digit-front n (10 ^ d.digits) b v lo hi d.front);
      small = λ q. d.small (ltb-false _ _ h4);
    }

more-only : (l : List ℕ) (stop v at n next : ℕ) → more l stop v at ≡ Some (n, next) → Digits l stop v at n next
unfolding more
more-only [] stop v at n next e = absurd (none-some (n, next) e)
more-only (b ∷ rest) stop v at n next e =
    more-case b rest stop v at n next (eqb b stop) (ltb b 48) (ltb 57 b) (ltb most (v * 10 + (b - 48))) refl refl refl refl (more rest stop (v * 10 + (b - 48)) (at + 1))
    (more-only rest stop (v * 10 + (b - 48)) (at + 1) n next)
    e

-- a number has one width
narrower : (n w x : ℕ) → Wide n w → Wide n x → w < x → ⊥
narrower n w x a b h =
    let g : 10 ^ w ≤ 10 ^ (x - 1) = pow-le-pow_right (omega arith) (omega arith) in
    omega (arith, a.above, b.least (omega (arith, a.some)), g)

wide-one : (n w x : ℕ) → Wide n w → Wide n x → w ≡ x
wide-one n w x a b =
    elim (dec_lt w x) [
      | yes h ↦ absurd (narrower n w x a b h)
      | no h ↦ elim (dec_lt x w) [
        | yes g ↦ absurd (narrower n x w b a g)
        | no g ↦ same w x h g
      ]
    ]
  where
    same : (w x : ℕ) → (w < x → ⊥) → (x < w → ⊥) → w ≡ x
    same w x h g = omega arith

-- What is left of a text after t, and the place past it.
pub record Reads (l t : List ℕ) (at next : ℕ) : Type 0 where
  pub rest : List ℕ
  pub text : l ≡ t ++ rest
  pub past : next ≡ at + length t

-- a number and the byte that ends it
abbrev pub ended : ℕ → ℕ → List ℕ
ended n stop = decimal n ++ (stop ∷ [])

-- What was read as a number: the number in decimal, then the byte `stop`.
record Only (l : List ℕ) (stop at n next : ℕ) : Type 0 where
  rest : List ℕ
  text : l ≡ decimal n ++ (stop ∷ rest)
  past : next ≡ at + width n + 1
  small : n ≤ most

-- the first digit is not 0: then the digits are as many as the number has
lead-wide : (n k d : ℕ) → n / 10 ^ k ≡ d → 1 ≤ d → d ≤ 9 → 0 < 10 ^ k → Wide n (suc k)
lead-wide n k d e h g p =
    let f : suc k - 1 ≡ k = omega arith in
    record {
      some = omega arith;
      above = rw pow-suc (rw mul_comm ((div-lt_iff_lt-mul p).0 (omega arith)));
      least = λ _. rw f (omega (arith, div-mul-le_self n (10 ^ k), mul-le-mul_right (10 ^ k) (rw (← e) at h)));
    }

lead-only : (b : ℕ) (rest : List ℕ) (stop at n next : ℕ) → 48 < b → b ≤ 57 → Digits rest stop (b - 48) (at + 1) n next → Only (b ∷ rest) stop at n next
unfolding spell decimal
lead-only b rest stop at n next lo hi d =
    let k = d.digits in
    let sm : n ≤ most = d.small (omega arith) in
    let w : width n ≡ suc k = wide-one n (width n) (suc k) (wide n sm) (lead-wide n k (b - 48) d.front (omega arith) (omega arith) (tens k)) in
    let f : b ≡ 48 + n / 10 ^ k % 10 = omega (arith, d.front) in
    record {
      rest = d.rest;
      text = rw w (ap₂ {C = List ℕ} (λ c l. c ∷ l) f d.text);
      past = omega (arith, d.past, w);
      small = sm;
    }

zero-only : (rest : List ℕ) (stop at n next : ℕ) → alone rest stop (at + 1) ≡ Some (n, next) → Only (48 ∷ rest) stop at n next
unfolding alone decimal width
zero-only [] stop at n next e = absurd (none-some (n, next) e)
zero-only (b ∷ rest) stop at n next e = go (eqb b stop) refl e
  where
    go : (t : Bool) → eqb b stop ≡ t → cond {A = Option (ℕ × ℕ)} t (Some (0, at + 1 + 1)) None ≡ Some (n, next) → Only (48 ∷ b ∷ rest) stop at n next
    go true h e =
        let p = some_pair_parts 0 n (at + 1 + 1) next e in
        let f = p.0 in
        let g = p.1 in
        record {
          rest = rest;
          text = rw (← f, eqb-true b stop h);
          past = rw (← f) (omega arith);
          small = omega arith;
        }
    go false h e = absurd (none-some (n, next) e)

number-case : (b : ℕ) (rest : List ℕ) (stop at n next : ℕ) (t1 t2 t3 : Bool) → eqb b 48 ≡ t1 → ltb b 48 ≡ t2 → ltb 57 b ≡ t3 →
    cond t1 (alone rest stop (at + 1)) (cond t2 None (cond t3 None (more rest stop (b - 48) (at + 1)))) ≡ Some (n, next) → Only (b ∷ rest) stop at n next
number-case b rest stop at n next true t2 t3 h1 h2 h3 e = rw (eqb-true b 48 h1) (zero-only rest stop at n next e)
number-case b rest stop at n next false true t3 h1 h2 h3 e = absurd (none-some (n, next) e)
number-case b rest stop at n next false false true h1 h2 h3 e = absurd (none-some (n, next) e)
number-case b rest stop at n next false false false h1 h2 h3 e =
    let ne = eqb-false b 48 h1 in
    lead-only b rest stop at n next (omega (arith, ltb-false b 48 h2)) (ltb-false 57 b h3) (more-only rest stop (b - 48) (at + 1) n next e)

only : (l : List ℕ) (stop at n next : ℕ) → number l stop at ≡ Some (n, next) → Only l stop at n next
unfolding number
only [] stop at n next e = absurd (none-some (n, next) e)
only (b ∷ rest) stop at n next e = number-case b rest stop at n next (eqb b 48) (ltb b 48) (ltb 57 b) refl refl refl e

-- what was read as a number is the number in decimal: no other digits are read as it
pub number-only : (l : List ℕ) (stop at n next : ℕ) → number l stop at ≡ Some (n, next) → (n ≤ most) × Reads l (ended n stop) at next
number-only l stop at n next e =
    let o = only l stop at n next e in (
      o.small,
      record {
        rest = o.rest;
        text = o.text ∙ sym (append_assoc (decimal n) (stop ∷ []) o.rest);
        past = omega (arith, o.past, length-append (decimal n) (stop ∷ []), length-decimal n);
      },
    )

-- what was read as a word is the word, and a word that is written is read back
pub word-only : (w l : List ℕ) (at next : ℕ) → word w l at ≡ Some next → Reads l w at next
unfolding word
word-only w l at next e =
    let c = cond_some (starts_with eqb l w) (at + length w) next e in
    record { rest = drop (length w) l; text = (starts_is Decides-eqb l w _ refl).0 c.0; past = sym c.1 }

pub word_back : (w rest : List ℕ) (at : ℕ) → word w (w ++ rest) at ≡ Some (at + length w)
unfolding word
word_back w rest at = rw ((starts_is Decides-eqb (w ++ rest) w _ refl).1 rest refl)

-- No other number has the decimal of a number below 1,000,000,000. (`decimal` writes ten digits at most, so that numbers from 10,000,000,000 on lose their first.)

spelled : (w n m : ℕ) → spell w n ≡ spell w m → n % 10 ^ w ≡ m % 10 ^ w
unfolding spell
spelled zero n m e = omega arith
spelled (suc k) n m e =
    let d = ap (λ l. get_or l 0 0) e in
    let r = spelled k n m (ap (λ l. drop 1 l) e) in
    let f : n / 10 ^ k % 10 ≡ m / 10 ^ k % 10 = omega (arith, d) in
    let a = value k n 0 in
    let b = value k m 0 in
    omega (arith, rw (f, r) at a, b)

wide-full : (fuel k n : ℕ) → 10 ^ (k + fuel) ≤ n → width_from fuel k n ≡ k + fuel
unfolding width_from
wide-full zero k n h = sym (add-zero k)
wide-full (suc fuel) k n h =
    let f : k + 1 + fuel ≡ k + suc fuel = omega arith in
    let g : 10 ^ k ≤ 10 ^ (k + suc fuel) = pow-le-pow_right (omega arith) (omega arith) in
    rw (le-leb (10 ^ k) n (omega (arith, g, h))) (wide-full fuel (k + 1) n (rw f h) ∙ f)

-- fewer than ten digits: a number below 10 ^ 10
few-digits : (n : ℕ) → width n < 10 → Wide n (width n)
unfolding width
few-digits n h =
    elim (dec_lt n (10 ^ 10)) [
      | yes g ↦ wide-ten n g
      | no g ↦ absurd (omega (arith, wide-full 9 1 n (omega arith)))
    ]

short-width : (m w : ℕ) → Wide m w → w ≤ 10 → m < 1000000000 → w < 10
short-width m w a h g =
    elim (dec_lt w 10) [
      | yes e ↦ e
      | no e ↦ ten (omega arith)
    ]
  where
    ten : w ≡ 10 → w < 10
    ten f = absurd (omega (arith, rw f at (a.least (omega arith))))

pub decimal-one : (n m : ℕ) → m < 1000000000 → decimal n ≡ decimal m → n ≡ m
unfolding decimal
decimal-one n m h e =
    let a = wide-ten m (omega arith) in
    let w : width n ≡ width m = sym (length-decimal n) ∙ (ap length e ∙ length-decimal m) in
    let b = few-digits n (omega (arith, w, short-width m (width m) a (width_le m) h)) in
    let f = spelled (width m) n m (rw w at e) in
    let i = mod-eq_of_lt (rw w at b.above) in
    let j = mod-eq_of_lt a.above in
    sym i ∙ (f ∙ j)
