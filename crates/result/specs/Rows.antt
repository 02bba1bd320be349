-- Rows of characters: how long they are, and the loop over the characters.
use Rattle.std.specs.Prelude.{◌≡◌, List, [], ◌∷◌, ◌++◌, length, get_or}
use Rattle.std.proofs.Common.{subst, length-append}
use Prim.Native.Nat.{ℕ, zero, suc, ◌+◌, ◌-◌, ◌*◌, ◌≤◌, ◌<◌, zero-le}
use Rattle.std.proofs.Math.Numerals.{add-one}
use native.Mathlib.Omega.{arith}
use Rattle.text.specs.Written.{same-long}
use Rattle.text.specs.Print.{decimal, Wrote}
use Rattle.text.specs.Written.{decimal_le, decimal-below}
use Rattle.result.specs.Text.{line_one, line_two, rows}
use Rattle.result.specs.Left.{Left, left-first, fits, left-next, left_end}

-- a line's parts
pub length-one : (word : List ℕ) (n : ℕ) → length (line_one word n) ≡ length word + 1 + length (decimal n) + 1
unfolding line_one
length-one word n = omega (arith, length-append word (32 ∷ (decimal n ++ (10 ∷ []))), length-append (decimal n) (10 ∷ []))

pub length_two : (word : List ℕ) (i p : ℕ) → length (line_two word i p) ≡ length word + 1 + length (decimal i) + 1 + length (decimal p) + 1
unfolding line_two
length_two word i p =
    omega (arith, length-append word (32 ∷ (decimal i ++ (32 ∷ (decimal p ++ (10 ∷ []))))), length-append (decimal i) (32 ∷ (decimal p ++ (10 ∷ []))), length-append (decimal p) (10 ∷ []))

-- the characters have positions, and there is room for their rows
pub record RowsReady (out : List ℕ) (from : ℕ) (word : List ℕ) (i n : ℕ) (positions : List ℕ) : Type 0 where
  pub within : i + n ≤ length positions
  pub small : i + n ≤ 4096
  pub room : from + length (rows word positions i n) ≤ length out

-- before the k-th character of those up to `end`
pub record Going (t : List ℕ) (from : ℕ) (all word positions : List ℕ) (end : ℕ) (u : List ℕ) (at k : ℕ) : Type 0 where
  pub within : k ≤ end
  pub left : Left t from all u at (rows word positions k (end - k))

pub going_first : {t : List ℕ} {from : ℕ} {word positions : List ℕ} {i n : ℕ} → RowsReady t from word i n positions →
    Going t from (rows word positions i n) word positions (i + n) t from i
going_first {t} {from} {word} {positions} {i} {n} h =
    record { within = omega arith; left = subst (λ m. Left t from (rows word positions i n) t from (rows word positions i m)) (omega arith) (left-first h.room) }

module _ {t : List ℕ} {from : ℕ} {all word positions : List ℕ} {end : ℕ} {u : List ℕ} {at k : ℕ} (going : Going t from all word positions end u at k) where
  module _ (h : k < end) where
    abbrev row : List ℕ
    row = line_two word k (get_or positions k 0)

    split : rows word positions k (end - k) ≡ row ++ rows word positions (k + 1) (end - (k + 1))
    unfolding rows
    split = go (end - k) (end - (k + 1)) (omega arith)
      where
        go : (m n : ℕ) → m ≡ suc n → rows word positions k m ≡ row ++ rows word positions (k + 1) n
        go m n e = rw (e, add-one k)

    left_row_lem : Left t from all u at (row ++ rows word positions (k + 1) (end - (k + 1)))
    left_row_lem = subst (Left t from all u at) split going.left

    pub row_fits : at + length row ≤ length u
    row_fits = fits row (rows word positions (k + 1) (end - (k + 1))) left_row_lem

    pub going_next : {r : ℕ} {v : List ℕ} → Wrote u at row r v → Going t from all word positions end v r (k + 1)
    going_next w = record { within = omega arith; left = left-next row (rows word positions (k + 1) (end - (k + 1))) left_row_lem w }

  pub going_end : end ≤ k → Wrote t from all at u
  unfolding rows
  going_end h = left_end (subst (λ m. Left t from all u at (rows word positions k m)) (none end k h) going.left)
    where
      none : (e k : ℕ) → e ≤ k → e - k ≡ 0
      none e k h = omega arith

-- How long rows are: an index below 10,000 takes at most four digits, any other number ten.
pub rows_short : (word positions : List ℕ) (i n : ℕ) → length word ≡ 1 → i + n ≤ 10000 → length (rows word positions i n) ≤ 18 * n
unfolding rows
rows_short word positions i zero e h = zero-le
rows_short word positions i (suc n) e h =
    let p = get_or positions i 0 in
    omega (
      arith,
      length-append (line_two word i p) (rows word positions (suc i) n),
      length_two word i p,
      decimal-below 4 i (omega arith) (omega arith),
      decimal_le p,
      rows_short word positions (suc i) n e (omega arith),
    )

pub ruleset size_steps = (length-one, length_two, same-long)

pub ruleset row_steps = (going_first, row_fits, going_next, going_end)
