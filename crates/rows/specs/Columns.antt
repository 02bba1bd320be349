-- What a table of lines holds, for those who lend its parts: number j of all lines is one part of it.
use Rattle.std.specs.Prelude.{List, [], ◌∷◌, ◌≢◌, ◌≡◌, refl, ℕ, zero, suc, ◌+◌, ◌*◌, ◌≤◌, ◌<◌, length, get_or, set, take, drop}
use Rattle.std.proofs.Common.{◌∙◌, ap, ap₂, sym, suc-mul, zero-add, mul-le-mul_right, le_of_suc-le-suc, arith, length-set, drop-cons, get_or-set_same, get_or-set_other}
use Rattle.std.proofs.Math.Decide.{dec_lt}
use Rattle.basics.specs.Lists.{All}
use Rattle.rows.specs.Table.{strided, laid, column, length-strided, length-laid}

-- a place between the strides stays
strided-other : (q step : ℕ) (vs t : List ℕ) (at : ℕ) → ((m : ℕ) → at + m * step ≢ q) → get_or (strided t at step vs) q 0 ≡ get_or t q 0
unfolding strided
strided-other q step [] t at h = refl
strided-other q step (v ∷ vs) t at h =
    strided-other q step vs (set t at v) (at + step) (λ m e. h (suc m) (omega (arith, suc-mul m step)))
    ∙ get_or-set_other t at q v 0 (λ e. h 0 (omega arith))

-- stride j holds number j
strided-at : (step j : ℕ) (vs t : List ℕ) (at : ℕ) → 0 < step → j < length vs → at + j * step < length t → get_or (strided t at step vs) (at + j * step) 0 ≡ get_or vs j 0
unfolding strided
strided-at step j [] t at s h l = absurd (omega arith)
strided-at step zero (v ∷ vs) t at s h l =
    ap (λ q. get_or (strided (set t at v) (at + step) step vs) q 0) first
    ∙ strided-other at step vs (set t at v) (at + step) (λ m e. omega arith)
    ∙ get_or-set_same t at v 0 (omega arith)
  where
    first : at + 0 * step ≡ at
    first = omega arith
strided-at step (suc j) (v ∷ vs) t at s h l =
    ap (λ q. get_or (strided (set t at v) (at + step) step vs) q 0) next
    ∙ strided-at step j vs (set t at v) (at + step) s (le_of_suc-le-suc h) (omega (arith, length-set t at v, next))
  where
    next : at + suc j * step ≡ at + step + j * step
    next = omega (arith, suc-mul j step)

-- lines after line i leave its places
apart : (step i k j m : ℕ) → i < k → k < step → k + m * step ≢ i + j * step
apart step i k j m h l e =
    elim (dec_lt m j) [
      | yes g ↦ omega (arith, suc-mul m step, mul-le-mul_right step g)
      | no g ↦ omega (arith, mul-le-mul_right step (upto g))
    ]
  where
    upto : (m < j → ⊥) → j ≤ m
    upto g = omega arith

laid-other : (step i j : ℕ) (rows : List (List ℕ)) (t : List ℕ) (k : ℕ) → i < k → k + length rows ≤ step → get_or (laid t k step rows) (i + j * step) 0 ≡ get_or t (i + j * step) 0
unfolding laid
laid-other step i j [] t k h l = refl
laid-other step i j (r ∷ rows) t k h l =
    laid-other step i j rows (strided t k step r) (k + 1) (omega arith) (omega arith)
    ∙ strided-other (i + j * step) step r t k (λ m. apart step i k j m h (omega arith))

-- line i holds number j of the first line that is stored from there
column-from : (k step j : ℕ) → j < k → (rows : List (List ℕ)) (t : List ℕ) (i : ℕ) → All (λ (r : List ℕ). length r ≡ k) rows → i + length rows ≤ step → k * step ≤ length t →
    take (length rows) (drop (i + j * step) (laid t i step rows)) ≡ column j rows
unfolding laid
column-from k step j h [] t i a l s = refl
column-from k step j h (r ∷ rows) t i a l s =
    ap (λ u. take (suc (length rows)) u) (drop-cons (laid (strided t i step r) (i + 1) step rows) (i + j * step) 0 here)
    ∙ ap₂ {C = List ℕ} (λ x xs. x ∷ xs) value
    (ap (λ q. take (length rows) (drop q (laid (strided t i step r) (i + 1) step rows))) (shift i (j * step))
    ∙ column-from k step j h rows (strided t i step r) (i + 1) a.1 (omega arith) (omega (arith, length-strided t i step r)))
  where
    inside : i + j * step < length t
    inside = omega (arith, suc-mul j step, mul-le-mul_right step h)

    here : i + j * step < length (laid (strided t i step r) (i + 1) step rows)
    here = omega (arith, inside, length-laid (strided t i step r) (i + 1) step rows, length-strided t i step r)

    value : get_or (laid (strided t i step r) (i + 1) step rows) (i + j * step) 0 ≡ get_or r j 0
    value =
        laid-other step i j rows (strided t i step r) (i + 1) (omega arith) (omega arith)
        ∙ strided-at step j r t i (omega arith) (omega (arith, a.0)) inside

    shift : (i x : ℕ) → suc (i + x) ≡ i + 1 + x
    shift i x = omega arith

-- The part of the table from a = j * step on, as long as there are lines, is number j of each line: `&table[a..a + n]`.
pub column-part : (k step j n : ℕ) (rows : List (List ℕ)) (t : List ℕ) → j < k → length rows ≡ n → n ≤ step → All (λ (r : List ℕ). length r ≡ k) rows → k * step ≤ length t →
    (a m : ℕ) → a ≡ j * step → m ≡ n → take m (drop a (laid t 0 step rows)) ≡ column j rows
column-part k step j n rows t h e l w s a m f g =
    ap₂ (λ m a. take m (drop a (laid t 0 step rows))) (g ∙ sym e) (f ∙ sym (zero-add (j * step)))
    ∙ column-from k step j h rows t 0 w (omega arith) s
