-- An element of a line by its rows: its pieces follow each other, so where its last one begins can be found piece by piece, and the characters of either side are those from its
-- first piece's first up to its last piece's end.
use Rattle.std.specs.Prelude.{◌≡◌, Bool, true, false, cond, List, length}
use Rattle.std.proofs.Math.Path.{refl, sym}
use Rattle.std.proofs.Common.{ap, ◌∙◌, subst, add-zero, lt-ltb, le-ltb}
use Prim.Native.Nat.{ℕ, zero, suc, ◌+◌, ◌-◌, ◌≤◌, ◌<◌}
use native.Mathlib.Omega.{arith}
use Rattle.std.proofs.Math.Decide.{dec_lt}
use Rattle.text.specs.Print.{Wrote}
use Rattle.line.specs.declared.Side.{Side}
use Rattle.cells.specs.Rows.{Rows}
use Rattle.cells.specs.Cells.{cell_at, share_of, may_end}
use Rattle.cells.specs.Sound.{Sound}
use Rattle.cells.specs.Walk.{stop-whole}
use Rattle.positions.specs.Positions.{Sheet, first, reading_end}
use Rattle.positions.specs.Ready.{Begins, Writable}
use Rattle.positions.specs.Walk.{begins-next, side-here}
use Rattle.result.specs.Text.{rows, letter}
use Rattle.result.specs.Rows.{RowsReady}
use Rattle.result.specs.ByRows.{behind, last_from, last_piece, side_rows}

-- a sound table, in which a line ends at e
pub record Table (t : Rows) (e : ℕ) : Type 0 where
  pub n : ℕ
  pub sound : Sound t n
  pub within : e ≤ n

-- what the printing of one side asks for
pub record SideReady (side : Side) (t : Rows) (i z c : ℕ) (positions out : List ℕ) (from : ℕ) : Type 0 where
  pub low : i ≤ z
  pub ahead : z < c
  pub few : c ≤ 1024
  pub held : c ≤ length t.rows
  pub onward : first side t i ≤ reading_end side t z c
  pub within : reading_end side t z c ≤ length positions
  pub small : reading_end side t z c ≤ 4096
  pub none : z ≡ i → (share_of side (cell_at t i)).many ≡ 0 → reading_end side t z c ≡ first side t i
  pub room : from + length (side_rows side t positions i z c) ≤ length out

module _ {side : Side} {t : Rows} {i z c : ℕ} {positions out : List ℕ} {from : ℕ} (ready : SideReady side t i z c positions out from) where
  -- of one piece without characters there are none
  pub no_rows : z ≡ i → (share_of side (cell_at t i)).many ≡ 0 → Wrote out from (side_rows side t positions i z c) from out
  unfolding side_rows rows
  no_rows e m = rw (back (first side t i) (ready.none e m)) (record { next = sym (add-zero from); holds = refl })
    where
      back : (r : ℕ) {q : ℕ} → q ≡ r → q - r ≡ 0
      back r e = omega arith

  -- the rows by their numbers, where w is the side's letter
  module _ {w : List ℕ} {r q : ℕ} (is : w ≡ letter side) (begins : r ≡ first side t i) (ends : q ≡ reading_end side t z c) where
    pub rows-ready : RowsReady out from w r (q - r) positions
    unfolding side_rows
    rows-ready = rw (is, begins, ends) (record { within = omega (arith, ready.onward, ready.within); small = omega (arith, ready.onward, ready.small); room = ready.room })

    pub side-written : {p : ℕ} {v : List ℕ} → Wrote out from (rows w positions r (q - r)) p v → Wrote out from (side_rows side t positions i z c) p v
    unfolding side_rows
    side-written y = rw (is, begins, ends) at y

-- The last piece.

module _ {t : Rows} {e : ℕ} (table : Table t e) where
  -- a row of the line, and the next piece of its element
  pub row-held : (i : ℕ) → i < e → (i ≤ 1024) × (i < length t.rows)
  row-held i h = let s = table.sound in (omega (arith, table.within, s.few), omega (arith, table.within, s.long))

  pub behind-ahead : (i : ℕ) → i < e → i < behind t i e
  behind-ahead i h = go (cell_at t i).more
    where
      go : (b : Bool) → i < cond b (i + (cell_at t i).bases) e
      go true = omega (arith, (table.sound.row i (omega (arith, table.within))).some)
      go false = h

  -- so many pieces are enough
  enough : (k m i : ℕ) → i < e → e ≤ i + k → e ≤ i + m → last_from t k i e ≡ last_from t m i e
  unfolding last_from
  enough zero m i l h g = absurd (omega arith)
  enough (suc k) zero i l h g = absurd (omega arith)
  enough (suc k) (suc m) i l h g = go (dec_lt (behind t i e) e) (λ u. let a = behind-ahead i l in enough k m (behind t i e) u (omega arith) (omega arith))
    where
      go : Dec (behind t i e < e) → (behind t i e < e → last_from t k (behind t i e) e ≡ last_from t m (behind t i e) e) → last_from t (suc k) i e ≡ last_from t (suc m) i e
      go (yes u) f = rw (lt-ltb (behind t i e) e u) (f u)
      go (no u) f = rw (le-ltb (behind t i e) e (omega arith))

  pub last-next : (i : ℕ) → i < e → behind t i e < e → last_piece t i e ≡ last_piece t (behind t i e) e
  unfolding last_piece last_from
  last-next i l h =
      enough (e - i) (suc (e - i)) i l (omega arith) (omega arith) ∙ rw (lt-ltb (behind t i e) e h)
      (let a = behind-ahead i l in enough (e - i) (e - behind t i e) (behind t i e) h (omega arith) (omega arith))

  pub last-here : (i : ℕ) → i < e → e ≤ behind t i e → last_piece t i e ≡ i
  unfolding last_piece last_from
  last-here i l h = enough (e - i) (suc (e - i)) i l (omega arith) (omega arith) ∙ rw (le-ltb (behind t i e) e h)

-- Its characters.

-- a line of the table that goes up to e, where it may end
module _ {g : Sheet} {n m l : ℕ} (table : Writable g n m l) {e : ℕ} (within : e ≤ n) (permits : may_end g.t n e ≡ true) where
  abbrev t : Rows
  t = g.t

  pub table_of : Table t e
  table_of = record { n = n; sound = table.sound; within = within }

  -- the piece at z is one of those of the element at i in this line
  pub record Reaches (i z : ℕ) : Type 0 where
    pub low : i ≤ z
    pub high : z < e
    pub begins : Begins t z
    pub onward : (side : Side) → first side t i ≤ first side t z

  reaches-next : (i z : ℕ) → Reaches i z → behind t z e < e → Reaches i (behind t z e)
  reaches-next i z r h = go (cell_at t z).more refl
    where
      go : (b : Bool) → (cell_at t z).more ≡ b → Reaches i (behind t z e)
      go true q =
          let next : behind t z e ≡ z + (cell_at t z).bases = rw q in
          let inside : z < n = omega (arith, r.high) in
          subst (Reaches i) (sym next)
          (record {
            low = omega (arith, r.low);
            high = omega arith;
            begins = begins-next table z inside;
            onward = λ side.
                let f = side-here table e within permits z r.high side r.begins in
                let c = stop-whole t z e (omega arith) in
                omega (arith, r.onward side, f.ahead, f.follows (omega arith), ap (first side t) c);
          })
      go false q = let same : behind t z e ≡ e = rw q in absurd (omega arith)

  reaches-from : (k i z : ℕ) → Reaches i z → Reaches i (last_from t k z e)
  unfolding last_from
  reaches-from zero i z r = r
  reaches-from (suc k) i z r = go (dec_lt (behind t z e) e) (λ u. reaches-from k i (behind t z e) (reaches-next i z r u))
    where
      go : Dec (behind t z e < e) → (behind t z e < e → Reaches i (last_from t k (behind t z e) e)) → Reaches i (last_from t (suc k) z e)
      go (yes u) f = rw (lt-ltb (behind t z e) e u) (f u)
      go (no u) f = rw (le-ltb (behind t z e) e (omega arith)) r

  pub reaches : (i : ℕ) → i < e → Begins t i → Reaches i (last_piece t i e)
  unfolding last_piece
  reaches i h b = reaches-from (e - i) i i (record { low = omega arith; high = h; begins = b; onward = λ side. omega arith })

pub ruleset piece_steps = (row-held, behind-ahead, last-next, last-here)
