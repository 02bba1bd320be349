-- The text of a line by rows: what its printing asks for, and the loop over its elements.
use Rattle.std.specs.Prelude.{◌≡◌, refl, List, ◌++◌, ℕ, zero, suc, ◌+◌, ◌-◌, ◌≤◌, ◌<◌, min, length}
use Rattle.std.proofs.Common.{sym, ap₂, ◌∙◌, subst, lt-ltb, le-ltb}
use Rattle.std.proofs.Math.Path.{ap}
use native.Mathlib.Omega.{arith}
use Rattle.std.proofs.Math.Decide.{dec_lt}
use Rattle.text.specs.Print.{Wrote}
use Rattle.text.specs.Written.{then}
use Rattle.line.specs.declared.Side.{Side}
use Rattle.line.specs.declared.Side.TheVariants.{Right, Left}
use Rattle.cells.specs.Rows.{Rows}
use Rattle.cells.specs.Cells.{cell_at, share_of, stop}
use Rattle.cells.specs.Walk.{stop-whole}
use Rattle.positions.specs.Positions.{Sheet, sheet, first}
use Rattle.positions.specs.Ready.{Begins, SideFits, pick}
use Rattle.positions.specs.Ready as positions
use Rattle.positions.specs.Walk.{begins-next, stop-ahead, side-here}
use Rattle.positions.specs.Piece.{no-characters}
use Rattle.result.specs.Text.{bytes, rows}
use Rattle.result.specs.Left.{Left as Rest, left-first, left-next, left_end, fits}
use Rattle.result.specs.Rows.{RowsReady}
use Rattle.result.specs.ByRows.{last_piece, closes, side_rows, of_rows, elements_text}
use Rattle.result.specs.Element.{Table, SideReady, table_of, Reaches, reaches}

-- Its pieces are those that a line may have, and there is room for their text.
pub record LineReady (t : Rows) (s e : ℕ) (base ruby left out : List ℕ) (from : ℕ) : Type 0 where
  pub width : List ℕ
  pub ruby_width : List ℕ
  pub left_width : List ℕ
  pub line : positions.LineReady (sheet t width ruby_width left_width) s e base ruby left
  pub room : from + length (elements_text t base ruby left (e - s) s e) ≤ length out

-- Before the element of row i.
pub record Printing (t : Rows) (s e : ℕ) (base ruby left was : List ℕ) (from i at : ℕ) (out : List ℕ) : Type 0 where
  pub ready : LineReady t s e base ruby left was from
  pub low : s ≤ i
  pub begins : i < e → Begins t i
  pub rest : Rest was from (elements_text t base ruby left (e - s) s e) out at (elements_text t base ruby left (e - i) i e)

pub printing_first : {t : Rows} {s e : ℕ} {base ruby left was : List ℕ} {from : ℕ} → LineReady t s e base ruby left was from → Printing t s e base ruby left was from s from was
printing_first ready = record { ready = ready; low = omega arith; begins = λ _. ready.line.begins; rest = left-first ready.room }

-- An element of the line, from i up to c; its last piece begins at z.
module _ {t : Rows} {s e : ℕ} {base ruby left was : List ℕ} {from : ℕ} (ready : LineReady t s e base ruby left was from) where
  abbrev g : Sheet
  g = sheet t ready.width ready.ruby_width ready.left_width

  abbrev ln : positions.LineReady (sheet t ready.width ready.ruby_width ready.left_width) s e base ruby left
  ln = ready.line

  pub line-table : Table t e
  line-table = table_of ln.table ln.within ln.permits

  module _ {i : ℕ} (h : i < e) (b : Begins t i) {z c : ℕ} (last : z ≡ last_piece t i e) (closed : c ≡ stop t z e) where
    at_last : Reaches ln.table ln.within ln.permits i z
    at_last = subst (Reaches ln.table ln.within ln.permits i) (sym last) (reaches ln.table ln.within ln.permits i h b)

    pub last-held : (z ≤ 1024) × (z < length t.rows)
    last-held = let s = ln.table.sound in let r = at_last in (omega (arith, r.high, ln.within, s.few), omega (arith, r.high, ln.within, s.long))

    last-ends : (z < c) × (c ≤ z + (cell_at t z).bases) × (c ≤ e)
    last-ends = let a = stop-ahead ln.table e ln.within ln.permits z at_last.high in rw closed (a.0, a.1, most e (z + (cell_at t z).bases))
      where
        most : (e y : ℕ) → min e y ≤ e
        most e y = omega arith

    pub ends : (i < c) × (c ≤ e) × (e ≤ 1024)
    ends = let s = ln.table.sound in (omega (arith, last-ends.0, at_last.low), last-ends.2, omega (arith, ln.within, s.few))

    reads : (side : Side) → SideFits side g ln.n (pick ln.m ln.l side) z c
    reads side = rw closed (side-here ln.table e ln.within ln.permits z at_last.high side at_last.begins)

    pub side-ready : (side : Side) {positions out : List ℕ} {at : ℕ} → pick ln.m ln.l side ≤ length positions → at + length (side_rows side t positions i z c) ≤ length out →
        SideReady side t i z c positions out at
    side-ready side room fit =
        let r = reads side in
        let s = ln.table.sound in
        let inside : z < ln.n = omega (arith, at_last.high, ln.within) in
        record {
          low = at_last.low;
          ahead = last-ends.0;
          few = omega (arith, ends);
          held = omega (arith, ends.1, ln.within, s.long);
          onward = omega (arith, at_last.onward side, r.ahead);
          within = omega (arith, r.within, room);
          small = omega (arith, r.within, ln.table.few side);
          none = λ q m. no-characters ln.table last-ends.0 last-ends.1 inside side r (ap (λ (j : ℕ). (share_of side (cell_at t j)).many) q ∙ m) ∙ ap (first side t) q;
          room = fit;
        }

    -- the next element begins where this one ends
    pub begins-behind : c < e → Begins t c
    begins-behind l =
        subst (Begins t) (sym (closed ∙ stop-whole t z e (past e (z + (cell_at t z).bases) (omega (arith, closed))))) (begins-next ln.table z (omega (arith, at_last.high, ln.within)))
      where
        past : (e y : ℕ) → min e y < e → y ≤ e
        past e y l = omega arith

-- so many elements are enough
enough : {t : Rows} {s e : ℕ} {base ruby left was : List ℕ} {from : ℕ} → LineReady t s e base ruby left was from → (k m i : ℕ) → (i < e → Begins t i) → e ≤ i + k → e ≤ i + m →
    elements_text t base ruby left k i e ≡ elements_text t base ruby left m i e
unfolding elements_text
enough ready zero zero i b h g = refl
enough {e = e} ready zero (suc m) i b h g = rw (le-ltb i e (omega arith))
enough {e = e} ready (suc k) zero i b h g = rw (le-ltb i e (omega arith))
enough {t} {s} {e} {base} {ruby} {left} ready (suc k) (suc m) i b h g =
    go (dec_lt i e) (λ u. let a = (ends ready u (b u) refl refl).0 in enough ready k m (closes t i e) (begins-behind ready u (b u) refl refl) (omega arith) (omega arith))
  where
    go : Dec (i < e) → (i < e → elements_text t base ruby left k (closes t i e) e ≡ elements_text t base ruby left m (closes t i e) e) →
        elements_text t base ruby left (suc k) i e ≡ elements_text t base ruby left (suc m) i e
    go (no u) f = rw (le-ltb i e (omega arith))
    go (yes u) f = rw (lt-ltb i e u) (ap (λ l. of_rows t base ruby left i e ++ l) (f u))

module _ {t : Rows} {s e : ℕ} {base ruby left was : List ℕ} {from i at : ℕ} {out : List ℕ} (q : Printing t s e base ruby left was from i at out) where
  abbrev whole : List ℕ
  whole = elements_text t base ruby left (e - s) s e

  -- after the last element nothing is left
  pub printing_end : e ≤ i → Wrote was from whole at out
  unfolding elements_text
  printing_end h = left_end (subst (λ k. Rest was from whole out at (elements_text t base ruby left k i e)) (none e i h) q.rest)
    where
      none : (e i : ℕ) → e ≤ i → e - i ≡ 0
      none e i h = omega arith

  -- the element of row i, whose last piece begins at z and ends at c
  module _ (h : i < e) {z c : ℕ} (last : z ≡ last_piece t i e) (closed : c ≡ stop t z e) where
    abbrev bases : List ℕ
    bases = rows (bytes "b") base i (c - i)

    abbrev rubies : List ℕ
    rubies = side_rows Right t ruby i z c

    abbrev lefts : List ℕ
    lefts = side_rows Left t left i z c

    abbrev later : List ℕ
    later = elements_text t base ruby left (e - c) c e

    opens : Begins t i
    opens = q.begins h

    pub ahead : (i < c) × (c ≤ e) × (e ≤ 1024)
    ahead = ends q.ready h opens last closed

    of_rows_lem : of_rows t base ruby left i e ≡ bases ++ (rubies ++ lefts)
    unfolding of_rows
    of_rows_lem = rw (closed, last)

    split : elements_text t base ruby left (e - i) i e ≡ (bases ++ (rubies ++ lefts)) ++ later
    unfolding elements_text
    split =
        let a = ahead.0 in
        enough q.ready (e - i) (suc (e - i)) i q.begins (omega arith) (omega arith)
        ∙ rw (lt-ltb i e h)
        (ap₂ (λ x y. x ++ y) of_rows_lem
        (ap (λ (k : ℕ). elements_text t base ruby left (e - i) k e) (sym (closed ∙ ap (λ (k : ℕ). stop t k e) last))
        ∙ enough q.ready (e - i) (e - c) c (begins-behind q.ready h opens last closed) (omega arith) (omega arith)))

    left-element : Rest was from whole out at ((bases ++ (rubies ++ lefts)) ++ later)
    left-element = subst (Rest was from whole out at) split q.rest

    room : at + length (bases ++ (rubies ++ lefts)) ≤ length out
    room = fits (bases ++ (rubies ++ lefts)) later left-element

    begun : Rest out at (bases ++ (rubies ++ lefts)) out at (bases ++ (rubies ++ lefts))
    begun = left-first room

    pub base-ready : RowsReady out at (bytes "b") i (c - i) base
    base-ready =
        let a = ahead in
        let p = q.ready.line in
        record {
          within = omega (arith, a.0, a.1, p.within, p.room);
          small = omega (arith, a.0, a.1, a.2);
          room = fits bases (rubies ++ lefts) begun;
        }

    module _ {r : ℕ} {u : List ℕ} (w : Wrote out at bases r u) where
      read : Rest out at (bases ++ (rubies ++ lefts)) u r (rubies ++ lefts)
      read = left-next bases (rubies ++ lefts) begun w

      pub right-ready : SideReady Right t i z c ruby u r
      right-ready = side-ready q.ready h opens last closed Right q.ready.line.room_ruby (fits rubies lefts read)

      module _ {o : ℕ} {v : List ℕ} (y : Wrote u r rubies o v) where
        pub left-ready : SideReady Left t i z c left v o
        left-ready =
            let k = left-next rubies lefts read y in
            side-ready q.ready h opens last closed Left q.ready.line.room_left (omega (arith, k.room, k.long, k.next))

        pub printing_next : {p : ℕ} {x : List ℕ} → Wrote v o lefts p x → Printing t s e base ruby left was from c p x
        printing_next j =
            record {
              ready = q.ready;
              low = omega (arith, q.low, ahead.0);
              begins = begins-behind q.ready h opens last closed;
              rest = left-next (bases ++ (rubies ++ lefts)) later left-element (then w (then y j));
            }
