-- Rows written one after the other: those of some base characters are there, and all else is as it was.
use Rattle.std.specs.Prelude.{◌≡◌, refl, false, ◌⊎◌, List, ℕ, ◌+◌, ◌≤◌, ◌<◌, length, set}
use Rattle.std.proofs.Common.{sym, ap, ◌∙◌, subst, inl, inr, arith, length-set, get_or-set_same, get_or-set_other}
use Rattle.std.proofs.Math.Decide.{dec_lt}
use Rattle.cells.specs.declared.Cell.{Cell}
use Rattle.cells.specs.declared.LeftRow.{LeftRow}
use Rattle.cells.specs.Rows.{no_cell, row_in}
use Rattle.cells.specs.Cells.{beside}

-- Rows from a up to e are those of f.
pub record Filled (f : ℕ → Cell) (a e : ℕ) (was t : List Cell) : Type 0 where
  pub long : length t ≡ length was
  pub here : (i : ℕ) → a ≤ i → i < e → row_in t i ≡ f i
  pub other : (i : ℕ) → (i < a) ⊎ (e ≤ i) → row_in t i ≡ row_in was i

pub filled_none : (f : ℕ → Cell) (a : ℕ) (was : List Cell) → Filled f a a was was
filled_none f a was = record { long = refl; here = λ i h l. absurd (omega arith); other = λ i h. refl }

pub filled_more : (f : ℕ → Cell) (a e : ℕ) (was t : List Cell) (c : Cell) → a ≤ e → e < length was → Filled f a e was t → c ≡ f e → Filled f a (e + 1) was (set t e c)
filled_more f a e was t c l m q is =
    record {
      long = simp length-set q.long;
      here = λ i h k. row i h k (dec_lt i e);
      other = other;
    }
  where
    row : (i : ℕ) → a ≤ i → i < e + 1 → Dec (i < e) → row_in (set t e c) i ≡ f i
    row i h k (yes g) = get_or-set_other t e i c no_cell (λ z. omega arith) ∙ q.here i h g
    row i h k (no g) =
        let s : i ≡ e = omega arith in
        ap (row_in (set t e c)) s ∙ get_or-set_same t e c no_cell (omega (arith, q.long)) ∙ is ∙ ap f (sym s)

    other : (i : ℕ) → (i < a) ⊎ (e + 1 ≤ i) → row_in (set t e c) i ≡ row_in was i
    other i (inl h) = get_or-set_other t e i c no_cell (λ z. omega arith) ∙ q.other i (inl h)
    other i (inr h) = get_or-set_other t e i c no_cell (λ z. omega arith) ∙ q.other i (inr (omega arith))

-- by another name
pub filled_as : (f g : ℕ → Cell) (a e : ℕ) (was t : List Cell) → ((i : ℕ) → a ≤ i → i < e → f i ≡ g i) → Filled f a e was t → Filled g a e was t
filled_as f g a e was t h q = record { long = q.long; here = λ i l m. q.here i l m ∙ h i l m; other = q.other }

-- rows up to the end are all rows
pub upto-end : (f : ℕ → Cell) {a i e : ℕ} {was t : List Cell} → i ≡ e → Filled f a i was t → Filled f a e was t
upto-end f {a} {i} {e} {was} {t} h q = subst (λ (z : ℕ). Filled f a z was t) h q

-- one row
pub filled-one : (c : Cell) (a e : ℕ) (was t : List Cell) → e ≡ a + 1 → a < length was → t ≡ set was a c → Filled (λ i. c) a e was t
filled-one c a e was t h l is =
    subst (Filled (λ i. c) a e was) (sym is) (upto-end (λ i. c) (sym h) (filled_more (λ i. c) a a was was c (omega arith) l (filled_none (λ i. c) a was) refl))

-- rows, and then their left readings
pub filled_beside : (f : ℕ → Cell) (g : ℕ → LeftRow) (a e : ℕ) (was mid t : List Cell) → Filled f a e was mid → Filled (λ i. beside (row_in mid i) (g i)) a e mid t →
    Filled (λ i. beside (f i) (g i)) a e was t
filled_beside f g a e was mid t q p =
    record {
      long = p.long ∙ q.long;
      here = λ i h l. p.here i h l ∙ ap (λ c. beside c (g i)) (q.here i h l);
      other = λ i h. p.other i h ∙ q.other i h;
    }

-- No left reading: the next left characters begin at l.
abbrev pub bare_row : ℕ → LeftRow
bare_row l = record { from = 0; upto = 0; within = 0; runs = false; first = l; many = 0; own = 0; more = false }
