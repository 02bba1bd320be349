-- The spread by pencil, as a trainee does it: the remainder of one division is carried from gap to gap. s is the space within a string, what the end gaps leave
-- of 2D, and p the number of its gaps, n - 1. The engine's loop works in the same way; positions are defined by document 01's floor, and `by-pencil` says that the
-- two agree.
use Rattle.std.specs.Prelude.{◌≡◌, refl, cond, [], ◌∷◌, ℕ, zero, suc, ◌+◌, ◌-◌, ◌*◌, ◌/◌, ◌%◌, ◌≤◌, ◌<◌, ltb}
use Rattle.std.proofs.Common.{ap, ◌∙◌, div-add-mod', mod-lt, add-mul, one-mul, mul-suc, mul-zero, lt_of_not-le, arith, lt-ltb, le-ltb}
use Rattle.std.proofs.Math.Nat.{zero-div, zero-mod}
use Rattle.std.proofs.Math.Decide.{dec_le}
use Rattle.std.proofs.Math.Arith.{digits_div, digits_mod}
use Rattle.spread.specs.Gap.{starts}

-- what stands on the paper after some gaps: the half units given out to them, and the remainder that is carried on
pub record Paper : Type 0 where
  pub given : ℕ
  pub carried : ℕ

-- The next gap gets the quotient, and the remainder is added to the one carried. Where that makes up the number of gaps, the gap gets one half unit more and the
-- number of gaps is taken off.
abbrev pub next : ℕ → ℕ → Paper → Paper
next s p a =
    cond (ltb (a.carried + s % p) p)
    (record { given = a.given + s / p; carried = a.carried + s % p })
    (record { given = a.given + s / p + 1; carried = a.carried + s % p - p })

-- the paper after i gaps; at first nothing is given out and nothing carried
abbrev pub after : ℕ → ℕ → ℕ → Paper
after s p zero = record { given = 0; carried = 0 }
after s p (suc i) = next s p (after s p i)

-- One gap more, for any number a in place of s * i: where the remainders stay below p the quotients add up, and else there is one more.
module _ (a s p : ℕ) where
  parts : a + s ≡ (a / p + s / p) * p + (a % p + s % p)
  parts = rw (add-mul (a / p) (s / p) p) (omega (arith, div-add-mod' a p, div-add-mod' s p))

  parts_more : p ≤ a % p + s % p → a + s ≡ (a / p + s / p + 1) * p + (a % p + s % p - p)
  parts_more l = parts ∙ rw (add-mul (a / p + s / p) 1 p, one-mul p) (omega arith)

  kept_div : a % p + s % p < p → (a + s) / p ≡ a / p + s / p
  kept_div l = ap (λ (n : ℕ). n / p) parts ∙ digits_div (a / p + s / p) l

  kept_mod : a % p + s % p < p → (a + s) % p ≡ a % p + s % p
  kept_mod l = ap (λ (n : ℕ). n % p) parts ∙ digits_mod (a / p + s / p) l

  less : 0 < p → p ≤ a % p + s % p → a % p + s % p - p < p
  less h l = omega (arith, mod-lt a h, mod-lt s h)

  more_div : 0 < p → p ≤ a % p + s % p → (a + s) / p ≡ a / p + s / p + 1
  more_div h l = ap (λ (n : ℕ). n / p) (parts_more l) ∙ digits_div (a / p + s / p + 1) (less h l)

  more_mod : 0 < p → p ≤ a % p + s % p → (a + s) % p ≡ a % p + s % p - p
  more_mod h l = ap (λ (n : ℕ). n % p) (parts_more l) ∙ digits_mod (a / p + s / p + 1) (less h l)

-- After i gaps the sum given out is floor(s * i / p), and what is carried is the remainder of that division.
pub by-pencil : (s p i : ℕ) → 0 < p → after s p i ≡ record { given = s * i / p; carried = s * i % p }
by-pencil s p zero h = rw (mul-zero s, zero-div p, zero-mod p)
by-pencil s p (suc i) h = ap (next s p) (by-pencil s p i h) ∙ go (dec_le p (s * i % p + s % p))
  where
    go : Dec (p ≤ s * i % p + s % p) → next s p (record { given = s * i / p; carried = s * i % p }) ≡ record { given = s * suc i / p; carried = s * suc i % p }
    go (yes l) = rw (le-ltb _ _ l, mul-suc s i, more_div (s * i) s p h l, more_mod (s * i) s p h l)
    go (no n) = let l : s * i % p + s % p < p = lt_of_not-le n in rw (lt-ltb _ _ l, mul-suc s i, kept_div (s * i) s p l, kept_mod (s * i) s p l)

-- so the carried remainder stays below the number of gaps, and one half unit more is always enough
pub below : (s p i : ℕ) → 0 < p → (after s p i).carried < p
below s p i h = rw (by-pencil s p i h) (mod-lt (s * i) h)

-- In the documents' letters, for a string of n characters with the end gaps f and c: the sum carried through i gaps is floor((2D - (f + c)) * i / (n - 1)), the
-- carried remainder is what that division leaves, and it stays below n - 1.
pub pencil : (D f c n i : ℕ) → 1 < n →
    let s = 2 * D - (f + c) in
    ((after s (n - 1) i).given ≡ s * i / (n - 1))
    × ((after s (n - 1) i).carried ≡ s * i % (n - 1))
    × ((after s (n - 1) i).carried < n - 1)
pencil D f c n i h =
    let p : 0 < n - 1 = omega arith in
    let s = 2 * D - (f + c) in
    (ap (λ (a : Paper). a.given) (by-pencil s (n - 1) i p), ap (λ (a : Paper). a.carried) (by-pencil s (n - 1) i p), below s (n - 1) i p)

-- The two words of the manual, gap by gap: K5, 14 half units in two gaps, and one whose division leaves a remainder, 16 in three.
worked :
    (after 14 2 1 ≡ record { given = 7; carried = 0 })
    × (after 14 2 2 ≡ record { given = 14; carried = 0 })
    × (starts 14 3 (10 ∷ 10 ∷ 10 ∷ []) ≡ 3 ∷ 30 ∷ 57 ∷ [])
    × (after 16 3 1 ≡ record { given = 5; carried = 1 })
    × (after 16 3 2 ≡ record { given = 10; carried = 2 })
    × (after 16 3 3 ≡ record { given = 16; carried = 0 })
    × (starts 16 2 (10 ∷ 10 ∷ 10 ∷ 10 ∷ []) ≡ 2 ∷ 27 ∷ 52 ∷ 78 ∷ [])
unfolding starts
worked = (refl, refl, refl, refl, refl, refl, refl)
