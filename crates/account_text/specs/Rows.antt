-- The rows of a line, one after the other.
use Rattle.std.specs.Prelude.{◌≡◌, List, [], ◌∷◌, ◌++◌, ℕ, suc, ◌+◌, ◌-◌, ◌*◌, ◌≤◌, ◌<◌, length, get_or, take, drop}
use Rattle.std.proofs.Common.{ap, ap₂, ◌∙◌, subst, drop-cons}
use native.Mathlib.Omega.{arith}
use Rattle.text.specs.Print.{Wrote}
use Rattle.result.specs.Text.{bytes}
use Rattle.result.specs.Left.{Left, left-first, fits, left-next, left_end}
use Rattle.account_text.specs.Text.{said, head_text, reason_text, row_text, row_at, rows_text, segment}

-- the rows from q up to e stand in the list, and there is room for their text
pub record SegmentReady (out : List ℕ) (from q e : ℕ) (rows text : List ℕ) : Type 0 where
  pub ordered : q ≤ e
  pub within : 6 * e ≤ length rows
  pub small : e ≤ 4096
  pub room : from + length text ≤ length out

-- one row, part by part
abbrev pub index : List ℕ → ℕ → List ℕ
index rows q = said (bytes "element ") (get_or rows (6 * q) 0)

abbrev pub start : List ℕ → ℕ → List ℕ
start rows q = said (bytes " at ") (get_or rows (6 * q + 1) 0)

abbrev pub gap : List ℕ → ℕ → List ℕ
gap rows q = said (bytes " gap ") (get_or rows (6 * q + 2) 0)

abbrev pub reason : List ℕ → ℕ → List ℕ
reason rows q = reason_text (get_or rows (6 * q + 3) 0) (get_or rows (6 * q + 4) 0) (get_or rows (6 * q + 5) 0)

pub row-left : {t : List ℕ} {from : ℕ} (rows : List ℕ) (q : ℕ) → from + length (row_at rows q) ≤ length t →
    Left t from (row_at rows q) t from (index rows q ++ (start rows q ++ (gap rows q ++ (reason rows q ++ (10 ∷ [])))))
unfolding row_text
row-left rows q h = left-first h

-- six entries of a list, from the i-th on
six-on : (xs : List ℕ) (i : ℕ) → i + 6 ≤ length xs →
    drop i xs ≡ get_or xs i 0 ∷ get_or xs (i + 1) 0 ∷ get_or xs (i + 2) 0 ∷ get_or xs (i + 3) 0 ∷ get_or xs (i + 4) 0 ∷ get_or xs (i + 5) 0 ∷ drop (i + 6) xs
six-on xs i h =
    drop-cons xs i 0 (omega arith)
    ∙ ap (cons (get_or xs i 0)) (ap (λ (k : ℕ). drop k xs) {x = suc i} {y = i + 1} (omega arith) ∙ step 1 2 (omega arith) (omega arith)
    ∙ ap (cons (get_or xs (i + 1) 0)) (step 2 3 (omega arith) (omega arith)
    ∙ ap (cons (get_or xs (i + 2) 0)) (step 3 4 (omega arith) (omega arith)
    ∙ ap (cons (get_or xs (i + 3) 0)) (step 4 5 (omega arith) (omega arith)
    ∙ ap (cons (get_or xs (i + 4) 0)) (step 5 6 (omega arith) (omega arith))))))
  where
    cons : ℕ → List ℕ → List ℕ
    cons x ys = x ∷ ys

    step : (j k : ℕ) → i + j < length xs → suc (i + j) ≡ i + k → drop (i + j) xs ≡ get_or xs (i + j) 0 ∷ drop (i + k) xs
    step j k h e = drop-cons xs (i + j) 0 h ∙ ap (λ (n : ℕ). get_or xs (i + j) 0 ∷ drop n xs) e

-- the first row of a segment, and the rest
pub first-row : (rows : List ℕ) (q e : ℕ) → q < e → 6 * e ≤ length rows → rows_text (segment rows q e) ≡ row_at rows q ++ rows_text (segment rows (q + 1) e)
unfolding rows_text
first-row rows q e h w =
    ap rows_text (ap₂ (λ (n : ℕ) xs. take n xs) (times (e - q) (e - (q + 1)) (omega arith)) (six-on rows (6 * q) (omega arith)))
    ∙ ap (λ (k : ℕ). row_at rows q ++ rows_text (take (6 * (e - (q + 1))) (drop k rows))) {x = 6 * q + 6} {y = 6 * (q + 1)} (omega arith)
  where
    times : (m n : ℕ) → m ≡ suc n → 6 * m ≡ suc (suc (suc (suc (suc (suc (6 * n))))))
    times m n e = omega arith

-- before row k of those up to e
pub record Going (t : List ℕ) (from : ℕ) (all rows : List ℕ) (e : ℕ) (u : List ℕ) (at k : ℕ) : Type 0 where
  pub ordered : k ≤ e
  pub within : 6 * e ≤ length rows
  pub small : e ≤ 4096
  pub left : Left t from all u at (rows_text (segment rows k e))

pub going_first : {t : List ℕ} {from q e : ℕ} {rows : List ℕ} → SegmentReady t from q e rows (rows_text (segment rows q e)) → Going t from (rows_text (segment rows q e)) rows e t from q
going_first r = record { ordered = r.ordered; within = r.within; small = r.small; left = left-first r.room }

module _ {t : List ℕ} {from : ℕ} {all rows : List ℕ} {e : ℕ} {u : List ℕ} {at k : ℕ} (going : Going t from all rows e u at k) where
  module _ (h : k < e) where
    left_row_lem : Left t from all u at (row_at rows k ++ rows_text (segment rows (k + 1) e))
    left_row_lem = subst (Left t from all u at) (first-row rows k e h going.within) going.left

    pub row-ready : (6 * k + 6 ≤ length rows) × (k < 4096) × (at + length (row_at rows k) ≤ length u)
    row-ready = (omega (arith, going.within), omega (arith, going.small), fits (row_at rows k) (rows_text (segment rows (k + 1) e)) left_row_lem)

    pub going_next : {r : ℕ} {v : List ℕ} → Wrote u at (row_at rows k) r v → Going t from all rows e v r (k + 1)
    going_next w =
        record { ordered = omega arith; within = going.within; small = going.small; left = left-next (row_at rows k) (rows_text (segment rows (k + 1) e)) left_row_lem w }

  pub going_end : e ≤ k → Wrote t from all at u
  unfolding rows_text
  going_end h = left_end (subst (λ (m : ℕ). Left t from all u at (rows_text (take (6 * m) (drop (6 * k) rows)))) (none e k h) going.left)
    where
      none : (e k : ℕ) → e ≤ k → e - k ≡ 0
      none e k h = omega arith

-- a line's extent, part by part
pub extent-left : {t : List ℕ} {from : ℕ} (x : ℕ) → from + length (head_text x) ≤ length t → Left t from (head_text x) t from (said (bytes "line ") x ++ (10 ∷ []))
unfolding head_text
extent-left x h = left-first h

-- a line's extent, and its rows
module _ {out : List ℕ} {from q e : ℕ} {rows : List ℕ} (head : List ℕ) (ready : SegmentReady out from q e rows (head ++ rows_text (segment rows q e))) where
  head-left : Left out from (head ++ rows_text (segment rows q e)) out from (head ++ rows_text (segment rows q e))
  head-left = left-first ready.room

  pub head-fits : from + length head ≤ length out
  head-fits = fits head (rows_text (segment rows q e)) head-left

  module _ {r : ℕ} {v : List ℕ} (w : Wrote out from head r v) where
    pub rest-ready : SegmentReady v r q e rows (rows_text (segment rows q e))
    rest-ready =
        let l = left-next head (rows_text (segment rows q e)) head-left w in
        record { ordered = ready.ordered; within = ready.within; small = ready.small; room = omega (arith, l.room, l.long, l.next) }

pub ruleset row_steps = (going_first, row-ready, going_next, going_end)
