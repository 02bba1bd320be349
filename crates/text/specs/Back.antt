-- Theorem `number-back`: what is written is read back. A number in decimal, followed by a byte below the digits, is read as that number, and the reading ends past that byte.
use Rattle.std.specs.Prelude.{ℕ, Some, zero, suc, ◌+◌, ◌-◌, ◌*◌, ◌/◌, ◌%◌, ◌^◌, ◌<◌, ◌≤◌, ◌≡◌, refl, List, ◌∷◌, ◌++◌, Bool, true, false, cond, leb, ltb}
use Rattle.std.proofs.Common.{◌∙◌, arith, pow-suc, add-mul, mul_assoc, le-mul_of_pos_right, add-zero, zero-mul, mod-lt, mod-eq_of_lt, div-lt_iff_lt-mul, div-add-mod', eq-eqb, ne_eqb, le-ltb, leb-true, leb-false, ltb-true, ltb-false}
use Rattle.std.proofs.Math.Nat.{pow-succ'}
use Rattle.std.proofs.Math.Arith.{mod-mul}
use Rattle.text.specs.Text.{most, more, number, alone}
use Rattle.text.specs.Print.{spell, width, width_from, decimal}

more-digit : (d stop v at : ℕ) (l : List ℕ) → stop < 48 → d < 10 → v * 10 + d ≤ most → more ((48 + d) ∷ l) stop v at ≡ more l stop (v * 10 + d) (at + 1)
unfolding more
more-digit d stop v at l hs hd hm =
    let e : 48 + d - 48 ≡ d = omega arith in
    rw (ne_eqb (48 + d) stop (λ q. omega arith), le-ltb (48 + d) 48 (omega arith), le-ltb 57 (48 + d) (omega arith), e, le-ltb most (v * 10 + d) hm)

pub tens : (k : ℕ) → 0 < 10 ^ k
tens zero = omega arith
tens (suc k) = rw pow-suc (omega (arith, tens k))

-- the value after one more digit
pub value : (k n v : ℕ) → (v * 10 + n / 10 ^ k % 10) * 10 ^ k + n % 10 ^ k ≡ v * 10 ^ suc k + n % 10 ^ suc k
value k n v =
    let p = pow-succ' 10 k in
    let a = add-mul (v * 10) (n / 10 ^ k % 10) (10 ^ k) in
    let b = mul_assoc v 10 (10 ^ k) in
    let c = mod-mul n {m = 10} {c = 10 ^ k} (omega arith) (tens k) in
    rw p (omega (arith, a, b, c))

less : (x p r m : ℕ) → 0 < p → x * p + r ≤ m → x ≤ m
less x p r m hp h = omega (arith, le-mul_of_pos_right x hp)

pub more-back : (k n stop v at : ℕ) (rest : List ℕ) → stop < 48 → v * 10 ^ k + n % 10 ^ k ≤ most → more (spell k n ++ (stop ∷ rest)) stop v at ≡ Some (v * 10 ^ k + n % 10 ^ k, at + k + 1)
unfolding more spell
more-back zero n stop v at rest hs h =
    let e : v * 10 ^ 0 + n % 10 ^ 0 ≡ v = omega arith in
    let f : at + 0 + 1 ≡ at + 1 = omega arith in
    rw (e, f, eq-eqb stop stop refl)
more-back (suc k) n stop v at rest hs h =
    let hd : n / 10 ^ k % 10 < 10 = omega arith in
    let g = rw (← value k n v) at h in
    let f : at + 1 + k + 1 ≡ at + suc k + 1 = omega arith in
    more-digit (n / 10 ^ k % 10) stop v at (spell k n ++ (stop ∷ rest)) hs hd (less _ _ _ _ (tens k) g) ∙
    (more-back k n stop (v * 10 + n / 10 ^ k % 10) (at + 1) rest hs g ∙ rw (value k n v, f))

-- w digits hold n, and no fewer do, but that 0 takes one
pub record Wide (n w : ℕ) : Type 0 where
  pub some : 1 ≤ w
  pub above : n < 10 ^ w
  pub least : 1 < w → 10 ^ (w - 1) ≤ n

wide-case : (b : Bool) (fuel k n : ℕ) → leb (10 ^ k) n ≡ b → 1 ≤ k → (1 < k → 10 ^ (k - 1) ≤ n) → (10 ^ k ≤ n → Wide n (width_from fuel (k + 1) n)) → Wide n (cond b (width_from fuel (k + 1) n) k)
wide-case true fuel k n e hk hl on = on (leb-true _ _ e)
wide-case false fuel k n e hk hl on = record { some = hk; above = leb-false _ _ e; least = hl }

wide_from : (fuel k n : ℕ) → 1 ≤ k → (1 < k → 10 ^ (k - 1) ≤ n) → n < 10 ^ (k + fuel) → Wide n (width_from fuel k n)
unfolding width_from
wide_from zero k n hk hl ha = record { some = hk; above = rw add-zero at ha; least = hl }
wide_from (suc fuel) k n hk hl ha =
    let f : k + suc fuel ≡ k + 1 + fuel = omega arith in
    let g : k + 1 - 1 ≡ k = omega arith in
    wide-case (leb (10 ^ k) n) fuel k n refl hk hl (λ q. wide_from fuel (k + 1) n (omega arith) (λ _. rw g q) (rw f at ha))

pub wide-ten : (n : ℕ) → n < 10 ^ 10 → Wide n (width n)
unfolding width
wide-ten n h = wide_from 9 1 n (omega arith) (λ q. absurd (omega arith)) h

pub wide : (n : ℕ) → n ≤ most → Wide n (width n)
wide n h = wide-ten n (omega arith)

first-digit : (n j : ℕ) → n < 10 ^ suc j → n / 10 ^ j % 10 ≡ n / 10 ^ j
first-digit n j h = mod-eq_of_lt ((div-lt_iff_lt-mul (tens j)).1 (rw pow-succ' at h))

-- the first digit and the rest, read as a number
lead : (d n j stop at : ℕ) (rest : List ℕ) → stop < 48 → 0 < d → d < 10 → d * 10 ^ j + n % 10 ^ j ≤ most →
    number ((48 + d) ∷ (spell j n ++ (stop ∷ rest))) stop at ≡ Some (d * 10 ^ j + n % 10 ^ j, at + 1 + j + 1)
unfolding number
lead d n j stop at rest hs h0 hd h =
    let e : 48 + d - 48 ≡ d = omega arith in
    rw (ne_eqb (48 + d) 48 (λ q. omega arith), le-ltb (48 + d) 48 (omega arith), le-ltb 57 (48 + d) (omega arith), e) (more-back j n stop d (at + 1) rest hs h)

zero-alone : (stop at : ℕ) (rest : List ℕ) → number (48 ∷ (stop ∷ rest)) stop at ≡ Some (0, at + 2)
unfolding number alone
zero-alone stop at rest =
    let e : at + 1 + 1 ≡ at + 2 = omega arith in
    rw (eq-eqb stop stop refl, e)

small : (n j : ℕ) → n / 10 ^ j ≤ 0 → n < 10 ^ j
small n j h =
    let e : n / 10 ^ j ≡ 0 = omega arith in
    let m = mod-lt n {m = 10 ^ j} (tens j) in
    let d = rw e at (div-add-mod' n (10 ^ j)) in
    omega (arith, zero-mul (10 ^ j), d, m)

none : (n j : ℕ) → Wide n (suc j) → n / 10 ^ j ≤ 0 → (j ≡ 0) × (n ≡ 0)
none n zero w h = (refl, omega (arith, small n 0 h))
none n (suc i) w h =
    let e : suc (suc i) - 1 ≡ suc i = omega arith in
    absurd (omega (arith, rw e at (w.least (omega arith)), small n (suc i) h))

back-case : (b : Bool) (n j stop at : ℕ) (rest : List ℕ) → ltb 0 (n / 10 ^ j) ≡ b → Wide n (suc j) → n ≤ most → stop < 48 → number (spell (suc j) n ++ (stop ∷ rest)) stop at ≡ Some (n, at + suc j + 1)
unfolding spell
back-case true n j stop at rest e w hm hs =
    let q = first-digit n j w.above in
    let s = div-add-mod' n (10 ^ j) in
    let hq : n / 10 ^ j < 10 = omega (arith, q) in
    let f : at + 1 + j + 1 ≡ at + suc j + 1 = omega arith in
    rw q (lead (n / 10 ^ j) n j stop at rest hs (ltb-true _ _ e) hq (rw s hm) ∙ rw (s, f))
back-case false n j stop at rest e w hm hs =
    let z = none n j w (ltb-false _ _ e) in
    let f : at + 1 + 1 ≡ at + 2 = omega arith in
    rw (z.0, z.1) (zero-alone stop at rest ∙ rw (← f))

back : (w n stop at : ℕ) (rest : List ℕ) → Wide n w → n ≤ most → stop < 48 → number (spell w n ++ (stop ∷ rest)) stop at ≡ Some (n, at + w + 1)
back zero n stop at rest w hm hs = absurd (omega (arith, w.some))
back (suc j) n stop at rest w hm hs = back-case (ltb 0 (n / 10 ^ j)) n j stop at rest refl w hm hs

-- a number that is written and ended by a byte below the digits is read back
pub number-back : (n stop at : ℕ) (rest : List ℕ) → n ≤ most → stop < 48 → number (decimal n ++ (stop ∷ rest)) stop at ≡ Some (n, at + width n + 1)
unfolding decimal
number-back n stop at rest hm hs = back (width n) n stop at rest (wide n hm) hm hs
