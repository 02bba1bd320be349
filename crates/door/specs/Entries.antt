-- Laws of `entries`: one more, a part of a list, and sums.
use Rattle.std.specs.Prelude.{◌≡◌, refl, false, List, [], ◌∷◌, ℕ, zero, suc, ◌+◌, ◌-◌, ◌*◌, ◌≤◌, ◌<◌, eqb, length, take, drop, get_or}
use Rattle.std.proofs.Common.{sym, ap, ap₂, ◌∙◌, zero-le, mul-suc, arith, drop-cons}
use Rattle.std.proofs.Math.Nat.{add-sub_cancel_left}
use Rattle.std.proofs.Math.Decide.{dec_lt}
use Rattle.std.proofs.lemmas.Bool.{eqb-false}
use Rattle.std.proofs.lemmas.List.{length-map}
use Rattle.std.proofs.Math.ListN.{get_or-eq_default}
use Rattle.basics.specs.Lists.{sum, count, any, All}
use Rattle.basics.specs.Laws.{length-count, or_none}
use Rattle.door.specs.Job.{entries}

pub entries_next : (xs : List ℕ) (u n j : ℕ) → j < n → entries xs (u + j) (n - j) ≡ get_or xs (u + j) 0 ∷ entries xs (u + (j + 1)) (n - (j + 1))
entries_next xs u n j h =
    ap (λ (m : ℕ). entries xs (u + j) m) {x = n - j} {y = suc (n - (j + 1))} (omega arith)
    ∙ ap (λ (a : ℕ). get_or xs (u + j) 0 ∷ entries xs a (n - (j + 1))) {x = suc (u + j)} {y = u + (j + 1)} (omega arith)

pub entries-all : (xs : List ℕ) (u n : ℕ) → entries xs (u + 0) (n - 0) ≡ entries xs u n
entries-all xs u n = ap₂ (λ (a b : ℕ). entries xs a b) {x = u + 0} {y = u} {u = n - 0} {v = n} (omega arith) (omega arith)

pub entries_none : (xs : List ℕ) (u n j : ℕ) → n ≤ j → entries xs (u + j) (n - j) ≡ []
entries_none xs u n j h = ap (λ (m : ℕ). entries xs (u + j) m) {x = n - j} {y = 0} (omega arith)

-- entries that lie within a list are a part of it
pub entries-within : (xs : List ℕ) (a n : ℕ) → a + n ≤ length xs → entries xs a n ≡ take n (drop a xs)
entries-within xs a zero h = refl
entries-within xs a (suc n) h = rw (drop-cons xs a 0 (omega arith)) (ap (λ (l : List ℕ). get_or xs a 0 ∷ l) (entries-within xs (suc a) n (omega arith)))

-- as the code has it, from a up to a + n
pub part_of : (xs : List ℕ) (a n : ℕ) → a + n ≤ length xs → take (a + n - a) (drop a xs) ≡ entries xs a n
part_of xs a n h = rw add-sub_cancel_left (sym (entries-within xs a n h))

pub length-entries : (xs : List ℕ) (a n : ℕ) → length (entries xs a n) ≡ n
length-entries xs a n = length-map (count a n) (λ j. get_or xs j 0) ∙ length-count a n

-- a sum of entries within bounds
pub sum-most : (xs : List ℕ) (m a n : ℕ) → ((i : ℕ) → a ≤ i → i < a + n → get_or xs i 0 ≤ m) → sum (entries xs a n) ≤ m * n
sum-most xs m a zero f = zero-le
sum-most xs m a (suc n) f = rw (mul-suc m n) (omega (arith, f a (omega arith) (omega arith), sum-most xs m (suc a) n (λ i l u. f i (omega arith) (omega arith))))

pub sum_first : (xs : List ℕ) (a n : ℕ) → 0 < n → get_or xs a 0 ≤ sum (entries xs a n)
sum_first xs a zero h = absurd (omega arith)
sum_first xs a (suc n) h = omega arith

-- entries of which none is 0 lie within the list, past whose end all read as 0
pub some-within : (xs : List ℕ) (a n : ℕ) → 0 < n → any (eqb 0) (entries xs a n) ≡ false → a + n ≤ length xs
some-within xs a zero p e = absurd (omega arith)
some-within xs a (suc n) p e =
    let q = or_none (eqb 0 (get_or xs a 0)) (any (eqb 0) (entries xs (suc a) n)) e in
    go (dec_lt a (length xs)) n q.0 (λ h. some-within xs (suc a) n h q.1)
  where
    go : Dec (a < length xs) → (m : ℕ) → eqb 0 (get_or xs a 0) ≡ false → (0 < m → suc a + m ≤ length xs) → a + suc m ≤ length xs
    go (no l) m q f = absurd (eqb-false 0 (get_or xs a 0) q (sym (get_or-eq_default xs 0 (omega arith))))
    go (yes l) zero q f = omega arith
    go (yes l) (suc m) q f = omega (arith, f (omega arith))

pub none-zero : (xs : List ℕ) → any (eqb 0) xs ≡ false → All (λ n. 0 < n) xs
none-zero [] e = tt
none-zero (x ∷ xs) e = let q = or_none (eqb 0 x) (any (eqb 0) xs) e in (some_of x (eqb-false 0 x q.0), none-zero xs q.1)
  where
    some_of : (x : ℕ) → (0 ≡ x → ⊥) → 0 < x
    some_of x h = omega arith

pub some-sum : (xs : List ℕ) → 0 < length xs → All (λ n. 0 < n) xs → 0 < sum xs
some-sum [] h a = h
some-sum (x ∷ xs) h a = omega (arith, a.0)
