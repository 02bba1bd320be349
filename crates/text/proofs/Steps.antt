-- One step of each definition, as the code takes it.
use Rattle.std.proofs.Common.{append_assoc, take, ◌∙◌, sym, ℕ, suc, ◌+◌, ◌-◌, ◌*◌, ◌/◌, ◌%◌, ◌^◌, ◌<◌, ◌≤◌, ◌≡◌, refl, List, Some, None, cond, eqb, ltb, leb, length, get_or, set, drop, arith, drop-drop, add-one, zero, false, ap, length-set, div-one, [], ◌∷◌}
use lib.ListN.{drop_of_length-le}
use borrow.Author.Tests.{le-leb, lt-leb}
use Rattle.std.proofs.lemmas.List.{set_comm}
use Rattle.std.proofs.Math.Nat.{pow-le-pow_right, pow-suc, div-div-eq-div-mul}
use borrow.Rule.Slice.PartMut.{put_mid}
use Rattle.std.proofs.lemmas.Bool.Decides.{nat_tests}
use Rattle.std.proofs.lemmas.List.Edits.{sets, sets-eq}
use Rattle.text.specs.Places.{drop_at}
use Rattle.text.specs.Print.{width, width_from, spell, decimal, Wrote}
use Rattle.text.specs.Text.{most, more}
use Rattle.text.specs.Written.{length-decimal}

pub more_at : (s : List ℕ) (at stop v : ℕ) → at < length s → more (drop at s) stop v at ≡
    cond (eqb (get_or s at 0) stop) (Some (v, at + 1))
    (cond (ltb (get_or s at 0) 48) None
    (cond (ltb 57 (get_or s at 0)) None
    (cond (ltb most (v * 10 + (get_or s at 0 - 48))) None
    (more (drop (at + 1) s) stop (v * 10 + (get_or s at 0 - 48)) (at + 1)))))
unfolding more
more_at s at stop v h = rw (drop_at s at h)

pub more_end : (s : List ℕ) (at stop v : ℕ) → length s ≤ at → more (drop at s) stop v at ≡ None
unfolding more
more_end s at stop v h = rw (drop_of_length-le s h)

pub ruleset more_steps = (more_at, more_end, nat_tests)

-- How many digits a number takes, by the powers of ten that it lies between.
power-next : (j k : ℕ) → j ≡ k + 1 → 10 ^ j ≡ 10 * 10 ^ k
power-next j k e = rw (e, add-one k) (omega arith)

width_up : (d j n k : ℕ) → j + d ≡ k + 1 → k < 10 → 10 ^ k ≤ n → n < 10 * 10 ^ k → width_from (10 - j) j n ≡ k + 1
unfolding width_from
width_up zero j n k e h low high = go (10 - j) refl
  where
    above : leb (10 ^ j) n ≡ false
    above = let p : 10 ^ j ≡ 10 * 10 ^ k = power-next j k (omega arith) in lt-leb (10 ^ j) n (omega (arith, p))

    go : (fuel : ℕ) → 10 - j ≡ fuel → width_from fuel j n ≡ k + 1
    go zero f = omega arith
    go (suc fuel) f = rw above (omega arith)
width_up (suc d) j n k e h low high =
    let s : 10 - j ≡ suc (10 - (j + 1)) = omega arith in
    let p : 10 ^ j ≤ 10 ^ k = pow-le-pow_right (omega arith) (omega arith) in
    rw (s, le-leb (10 ^ j) n (omega arith)) (width_up d (j + 1) n k (omega arith) h low high)

pub width_by : (n k : ℕ) → k < 10 → 10 ^ k ≤ n → n < 10 * 10 ^ k → width n ≡ k + 1
unfolding width
width_by n k h low high = width_up k 1 n k (omega arith) h low high

pub width_none : (n : ℕ) → n ≡ 0 → width n ≡ 1
unfolding width width_from
width_none n e = rw e refl

pub ruleset width_steps = (width_by, width_none, nat_tests)

-- A part written whole.
pub wrote_part : (t : List ℕ) (from : ℕ) (xs : List ℕ) (k : ℕ) (ys : List ℕ) → ys ≡ xs → k ≡ length xs → from + length xs ≤ length t → Wrote t from xs (from + length xs) (put_mid from k t ys)
wrote_part t from xs k ys e h l = record { next = refl; holds = rw (e, h) (sym (sets-eq xs t from l ∙ append_assoc (take from t) xs _ ∙ rw (drop-drop (length xs) from t) refl)) }

-- The digits of a number, from the last on: those from `at` up to `end` are written, and `rest` is what stands before them.
pub record Spelled (t out : List ℕ) (n at end rest : ℕ) : Type 0 where
  pub within : at ≤ end
  pub long : length out ≡ length t
  pub written : out ≡ sets t at (spell (end - at) n)
  pub left : rest ≡ n / 10 ^ (end - at)

set_sets : (t : List ℕ) (i j v : ℕ) (vs : List ℕ) → i < j → set (sets t j vs) i v ≡ sets (set t i v) j vs
set_sets t i j v [] h = refl
set_sets t i j v (x ∷ vs) h = set_sets (set t j x) i (suc j) v vs (omega arith) ∙ ap (λ u. sets u (suc j) vs) (set_comm t j i x v (λ e. absurd (omega arith)))

pub spelled_first : (t : List ℕ) (n end : ℕ) → Spelled t t n end end n
unfolding spell
spelled_first t n end =
    let z : end - end ≡ 0 = omega arith in
    record { within = omega arith; long = refl; written = rw z refl; left = rw z (sym (div-one n)) }

pub spelled_next : {t out : List ℕ} {n at end rest d : ℕ} → Spelled t out n at end rest → 0 < at → d ≡ 48 + rest % 10 → Spelled t (set out (at - 1) d) n (at - 1) end (rest / 10)
unfolding spell
spelled_next {t} {out} {n} {at} {end} {rest} {d} inv some is =
    let k : end - (at - 1) ≡ suc (end - at) = omega (arith, inv.within) in
    let s : suc (at - 1) ≡ at = omega arith in
    record {
      within = omega (arith, inv.within);
      long = length-set out (at - 1) d ∙ inv.long;
      written =
          rw (k, inv.written, is, inv.left)
          (set_sets t (at - 1) at (48 + n / 10 ^ (end - at) % 10) (spell (end - at) n) (omega arith)
          ∙ ap (λ a. sets (set t (at - 1) (48 + n / 10 ^ (end - at) % 10)) a (spell (end - at) n)) (sym s));
      left = rw (k, inv.left) (div-div-eq-div-mul n (10 ^ (end - at)) 10 ∙ ap (λ m. n / m) (sym (pow-suc 10 (end - at))));
    }

pub spelled_done : {t out : List ℕ} {n from at end rest : ℕ} → Spelled t out n at end rest → at ≡ from → end ≡ from + width n → Wrote t from (decimal n) end out
unfolding decimal
spelled_done {t} {out} {n} {from} {at} {end} inv low high =
    let k : end - at ≡ width n = omega arith in
    record { next = omega (arith, length-decimal n); holds = rw (k, low) at inv.written }

pub ruleset digit_steps = (spelled_first, spelled_next, spelled_done, length-decimal)
