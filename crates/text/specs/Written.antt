-- One step of each definition of Print, and writes that follow each other.
use Prim.Native.Nat.{ℕ, zero, suc, ◌+◌, ◌-◌, ◌/◌, ◌%◌, ◌^◌, ◌<◌, ◌≤◌}
use Rattle.std.specs.Prelude.{◌≡◌, refl, List, ◌++◌, Bool, true, false, cond, leb, length, set}
use Rattle.std.proofs.Common.{◌∙◌, sym, length-append}
use Rattle.std.proofs.Math.Path.{ap}
use native.Mathlib.Omega.{arith}
use borrow.Author.Tests.{le-leb, lt-leb, leb-true}
use Rattle.std.proofs.lemmas.List.Edits.{sets}
use Rattle.std.proofs.Math.Seq.{length-sets}
use Rattle.basics.specs.Laws.{sets_append}
use Rattle.text.specs.Print.{width_from, width, spell, decimal, Wrote}

module _ (left k n p : ℕ) (hl : 0 < left) (hp : p ≡ 10 ^ k) where
  pub width-stop : n < p → width_from left k n ≡ k
  unfolding width_from
  width-stop h =
      let e : left ≡ suc (left - 1) = omega arith in
      let f : n < 10 ^ k = rw hp at h in
      rw (e, lt-leb _ _ f)

  pub width-more : p ≤ n → width_from left k n ≡ width_from (left - 1) (k + 1) n
  unfolding width_from
  width-more h =
      let e : left ≡ suc (left - 1) = omega arith in
      let f : 10 ^ k ≤ n = rw hp at h in
      ap (λ (m : ℕ). width_from m k n) e ∙ rw (le-leb _ _ f)

pub width-end : (left k n : ℕ) → left ≤ 0 → width_from left k n ≡ k
unfolding width_from
width-end left k n h =
    let e : left ≡ 0 = omega arith in
    rw e

pub length-spell : (k n : ℕ) → length (spell k n) ≡ k
unfolding spell
length-spell zero n = refl
length-spell (suc k) n = ap suc (length-spell k n)

pub length-decimal : (n : ℕ) → length (decimal n) ≡ width n
unfolding decimal
length-decimal n = length-spell (width n) n

pub spell-more : (k n : ℕ) (t : List ℕ) (at : ℕ) → 0 < k → sets t at (spell k n) ≡ sets (set t at (48 + n / 10 ^ (k - 1) % 10)) (at + 1) (spell (k - 1) n)
unfolding spell
spell-more k n t at h =
    let e : k ≡ suc (k - 1) = omega arith in
    let f : at + 1 ≡ suc at = omega arith in
    ap (λ (m : ℕ). sets t at (spell m n)) e ∙ rw f

pub spell-end : (k n : ℕ) (t : List ℕ) (at : ℕ) → k ≤ 0 → sets t at (spell k n) ≡ t
unfolding spell
spell-end k n t at h =
    let e : k ≡ 0 = omega arith in
    rw e

-- a write and the next, from where it ended
pub then : {t u v : List ℕ} {from r q : ℕ} {a b : List ℕ} → Wrote t from a r u → Wrote u r b q v → Wrote t from (a ++ b) q v
then {t} {u} {v} {from} {r} {q} {a} {b} x y =
    let l = length-append a b in
    record {
      next = omega (arith, x.next, y.next, l);
      holds = y.holds ∙ (rw (x.holds, x.next) (sym (sets_append t a b from)));
    }

pub same-long : {t u : List ℕ} {from r : ℕ} {a : List ℕ} → Wrote t from a r u → length u ≡ length t
same-long {t} {u} {from} {r} {a} x = ap length x.holds ∙ length-sets t from a

-- "Any two results meeting one contract are shown equal": what is said to be written determines both the place past it and the lent list
pub wrote_unique : {t text : List ℕ} {from p q : ℕ} {u v : List ℕ} → Wrote t from text p u → Wrote t from text q v → (p ≡ q) × (u ≡ v)
wrote_unique x y = (x.next ∙ sym y.next, x.holds ∙ sym y.holds)

width_from_le : (fuel k n : ℕ) → width_from fuel k n ≤ k + fuel
unfolding width_from
width_from_le zero k n = omega arith
width_from_le (suc fuel) k n = pick (leb (10 ^ k) n) (omega (arith, width_from_le fuel (k + 1) n)) (omega arith)
  where
    pick : {x y m : ℕ} (b : Bool) → x ≤ m → y ≤ m → cond b x y ≤ m
    pick true h g = h
    pick false h g = g

pub width_le : (n : ℕ) → width n ≤ 10
unfolding width
width_le n = width_from_le 9 1 n

-- a number takes at most ten digits
pub decimal_le : (n : ℕ) → length (decimal n) ≤ 10
decimal_le n = omega (arith, length-decimal n, width_le n)

-- and one below 10 ^ m at most m
width-below : (m fuel k n : ℕ) → k ≤ m → n < 10 ^ m → width_from fuel k n ≤ m
unfolding width_from
width-below m zero k n h l = h
width-below m (suc fuel) k n h l = go (leb (10 ^ k) n) refl (λ q. width-below m fuel (k + 1) n q l)
  where
    short : 10 ^ k ≤ n → k ≡ m → ⊥
    short q e = let f : 10 ^ m ≤ n = rw e at q in omega arith

    go : (b : Bool) → leb (10 ^ k) n ≡ b → (k + 1 ≤ m → width_from fuel (k + 1) n ≤ m) → cond b (width_from fuel (k + 1) n) k ≤ m
    go true e f = f (omega (arith, short (leb-true _ _ e)))
    go false e f = h

pub decimal-below : (m n : ℕ) → 0 < m → n < 10 ^ m → length (decimal n) ≤ m
unfolding width
decimal-below m n h l = omega (arith, length-decimal n, width-below m 9 1 n h l)
