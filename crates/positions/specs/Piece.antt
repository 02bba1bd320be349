-- One piece: how many positions it has, and that its strings can be written.
use Rattle.std.specs.Prelude.{◌≡◌, Bool, cond}
use Rattle.std.proofs.Math.Path.{refl}
use Rattle.std.proofs.Common.{sym, ap, ◌∙◌, subst, add-zero, arith}
use Rattle.std.proofs.Math.Bool.{true, false}
use mathlib.Core.List.{List, [], ◌∷◌}
use Prim.Native.Nat.{ℕ, suc, ◌+◌, ◌-◌, ◌≤◌, ◌<◌}
use Rattle.std.proofs.Math.ListN.{length}
use Rattle.spread.specs.Gap.{starts}
use Rattle.spread.specs.Laws.{length-starts}
use Rattle.word.specs.declared.Reading.{Reading}
use Rattle.word.specs.Word.{base_starts}
use Rattle.line.specs.declared.Side.{Side}
use Rattle.line.specs.declared.Side.TheVariants.{Right, Left}
use Rattle.cells.specs.Rows.{Rows}
use Rattle.cells.specs.Cells.{cell_at, share_of}
use Rattle.cells.specs.Sound.{cut_word, part-bare}
use Rattle.positions.specs.Positions.{Sheet, lent, widths_of, first, run_end, reading_end, reading_lent, runs_put, reading_by, word_of, reading_of, base_put, side_put}
use Rattle.positions.specs.Lists.{lent-long}
use Rattle.positions.specs.Ready.{StringReady, Runs, Fits, SideFits, pick, Writable}
use Rattle.positions.specs.Runs.{RunsReady, runs-long}

-- What the writing of a piece's reading asks for, v where it has one and x its origin.
pub record ReadingReady (side : Side) (t : Rows) (i c : ℕ) (v : Reading) (x : ℕ) (ws out : List ℕ) : Type 0 where
  pub ahead : i < c
  pub rows : c ≤ 1024
  pub held : c ≤ length t.rows
  pub runs : v.there ≡ true → v.runs ≡ true → RunsReady side t i c x ws out
  pub string : v.there ≡ true → v.runs ≡ false → StringReady (x + v.from) v.within (first side t i) (reading_end side t i c) ws out

module _ {g : Sheet} {n m l : ℕ} (table : Writable g n m l) {i c : ℕ} (ahead : i < c) (upto : c ≤ i + (cell_at g.t i).bases) (h : i < n) where
  pub inside : c ≤ n
  inside = omega (arith, (table.sound.row i h).inside)

  module _ (f : Fits g i c) where
    -- a position for each base character
    pub base-long : (x : ℕ) → length (base_put g i c x) ≡ c - i
    unfolding base_put base_starts
    base-long x = go (word_of g i c).right.there refl
      where
        go : (b : Bool) → (word_of g i c).right.there ≡ b → length (cond b (base_starts (word_of g i c) x (lent g.width i c)) (x ∷ [])) ≡ c - i
        go true e = length-starts _ _ (lent g.width i c) ∙ lent-long g.width i c (omega arith) (omega (arith, inside, table.width))
        go false e = omega (arith, f.plain e)

    -- which can be written from an origin that is not too far
    pub base-ready : (x : ℕ) → x ≤ 536870912 → (word_of g i c).right.there ≡ true → {base : List ℕ} → n ≤ length base →
        StringReady (x + (word_of g i c).front) (word_of g i c).inbase i c g.width base
    base-ready x near e room =
        record {
          ahead = omega arith;
          few = omega (arith, (table.sound.row i h).few);
          end = omega (arith, inside, table.sound.few);
          widths = omega (arith, inside, table.width);
          room = omega (arith, inside, room);
          small = omega (arith, f.base e);
          near = omega (arith, f.base e, near);
        }

  module _ (side : Side) (f : SideFits side g n (pick m l side) i c) where
    -- and one for each character of a side
    pub side-long : (x : ℕ) → first side g.t i + length (side_put side g i c x) ≡ reading_end side g.t i c
    unfolding side_put reading_by
    side-long x = go (reading_of side g i c).there (reading_of side g i c).runs refl refl
      where
        ws : List ℕ
        ws = widths_of side g

        r : ℕ
        r = first side g.t i

        one : (i c : ℕ) → i < c → c - i ≡ suc (c - 1 - i)
        one i c k = omega arith

        last : (i c : ℕ) → i < c → i + (c - 1 - i) ≡ c - 1
        last i c k = omega arith

        top : (i c : ℕ) → i < c → c ≡ i + suc (c - 1 - i)
        top i c k = omega arith

        adds : (a b : ℕ) → r ≤ b → a ≡ b - r → r + a ≡ b
        adds a b k e = omega arith

        go : (b d : Bool) → (reading_of side g i c).there ≡ b → (reading_of side g i c).runs ≡ d →
            r + length (cond b (cond d (runs_put side g.t ws (c - i) i x)
            (starts (reading_of side g i c).within (x + (reading_of side g i c).from) (reading_lent side g.t ws i c))) []) ≡ reading_end side g.t i c
        go false d e k = omega (arith, f.none e)
        go true true e k =
            rw (one i c ahead) (runs-long side g.t ws (pick m l side) (table.widths side) (c - 1 - i) i x
            (subst (λ (z : ℕ). Runs side g.t ws (pick m l side) i z) (top i c ahead) (f.runs e k)) ∙ ap (run_end side g.t) (last i c ahead) ∙ sym (f.last e k))
        go true false e k =
            adds _ (reading_end side g.t i c) f.ahead
            (length-starts _ _ (reading_lent side g.t ws i c)
            ∙ lent-long ws r (reading_end side g.t i c) f.ahead (omega (arith, f.within, table.widths side)))

    -- a piece whose first row has none has none at all
    pub no-characters : (share_of side (cell_at g.t i)).many ≡ 0 → reading_end side g.t i c ≡ first side g.t i
    no-characters e = go (cell_at g.t i).cut refl
      where
        none-cut : (v : Side) → (share_of v (cell_at g.t i)).many ≡ 0 → (cell_at g.t i).cut ≡ true → (reading_of v g i c).there ≡ false
        none-cut Right z k =
            let some = ((table.sound.row i h).runs k (i + 1) (omega arith) (omega arith)).more in
            absurd (omega (arith, z, some, ap (λ (j : ℕ). first Right g.t j + (share_of Right (cell_at g.t j)).many) (back i)))
          where
            back : (i : ℕ) → i + 1 - 1 ≡ i
            back i = omega arith
        none-cut Left z k = ap (λ w. w.left.there) (cut_word g.t i c k) ∙ part-bare g.t i c z

        go : (b : Bool) → (cell_at g.t i).cut ≡ b → cond b (run_end side g.t (c - 1)) (run_end side g.t i) ≡ first side g.t i
        go true k = sym (rw k) ∙ f.none (none-cut side e k)
        go false k = ap (λ z. first side g.t i + z) e ∙ add-zero (first side g.t i)

    pub side-ready : (x : ℕ) → x ≤ 536870912 → {out : List ℕ} → pick m l side ≤ length out → ReadingReady side g.t i c (reading_of side g i c) x (widths_of side g) out
    side-ready x near room =
        record {
          ahead = ahead;
          rows = omega (arith, inside, table.sound.few);
          held = omega (arith, inside, table.sound.long);
          runs =
              λ e k. record {
                m = pick m l side;
                runs = f.runs e k;
                widths = table.widths side;
                room = room;
                many = table.few side;
                ahead = ahead;
                few = omega (arith, (table.sound.row i h).few);
                rows = omega (arith, inside, table.sound.few);
                held = omega (arith, inside, table.sound.long);
                small = table.sound.small;
                near = omega (arith, near);
              };
          string =
              λ e k. record {
                ahead = f.ahead;
                few = f.few;
                end = omega (arith, f.within, table.few side);
                widths = omega (arith, f.within, table.widths side);
                room = omega (arith, f.within, room);
                small = omega (arith, f.string e k);
                near = omega (arith, f.string e k, near);
              };
        }
