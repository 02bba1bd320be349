-- One line: what is written so far and what is left to write make up the whole.
use Rattle.std.specs.Prelude.{◌≡◌, true, false, cond, List, [], ◌∷◌, ◌++◌, ℕ, zero, suc, ◌+◌, ◌-◌, ◌*◌, ◌≤◌, ◌<◌, length, set}
use Rattle.std.proofs.Math.Path.{refl, ap}
use Rattle.std.proofs.Common.{sym, ◌∙◌, zero-le, arith, lt-ltb}
use Rattle.std.proofs.Math.Decide.{dec_lt}
use Rattle.std.proofs.Math.Seq.{sets, length-sets}
use Rattle.basics.specs.Laws.{sets_append}
use Rattle.word.specs.Word.{base_starts}
use Rattle.line.specs.declared.Side.{Side}
use Rattle.line.specs.declared.Side.TheVariants.{Right, Left}
use Rattle.line.specs.declared.State.{State}
use Rattle.line.specs.Setting.{start, origin, furthest}
use Rattle.line.proofs.Bound.{origin_bound}
use Rattle.cells.specs.Cells.{cell_at, next, stop, Advances}
use Rattle.cells.specs.Sound.{advances}
use Rattle.cells.specs.Walk.{next-near, stop-whole}
use Rattle.positions.specs.Positions.{Sheet, lent, widths_of, first, word_of, reading_of, piece_of, reading_by, base_put, side_put, put_from, base_of, side_of}
use Rattle.positions.specs.Lists.{sets-any}
use Rattle.positions.specs.Ready.{StringReady, Begins, Fits, SideFits, pick, LineReady}
use Rattle.positions.specs.Piece.{ReadingReady, base-long, side-long, base-ready, side-ready}
use Rattle.positions.specs.Walk.{none_from, begins-next, stop-ahead, fits-here, side-here}

-- A result list before the piece from i, of which the pieces from there on add what f gives: the line's own part begins at `at` of it and is `all`.
pub record Strand (f : ℕ → ℕ → ℕ → List ℕ) (g : Sheet) (e fuel : ℕ) (st : State) (i : ℕ) (was : List ℕ) (at : ℕ) (all : List ℕ) (here : ℕ) (out : List ℕ) : Type 0 where
  pub made : sets out here (put_from f g fuel st i e) ≡ sets was at all
  pub long : length out ≡ length was

-- once one piece more is written: the next one's characters follow, where there is one
strand_next : {f : ℕ → ℕ → ℕ → List ℕ} {g : Sheet} {e k : ℕ} {st : State} {i : ℕ} {was : List ℕ} {at : ℕ} {all : List ℕ} {here : ℕ} {out : List ℕ} →
    Strand f g e (suc k) st i was at all here out → i < e → (there : ℕ) →
    let c = stop g.t i e in
    let new = f i c (origin st (piece_of g i c)) in
    let end = i + (cell_at g.t i).bases in
    (end < e → there ≡ here + length new) → Strand f g e k (next st (piece_of g i c)) end was at all there (sets out here new)
unfolding put_from
strand_next {f} {g} {e} {k} {st} {i} {was} {at} {all} {here} {out} q h there follows =
    record {
      made =
          place (dec_lt (i + (cell_at g.t i).bases) e)
          ∙ sym (sets_append out new rest here)
          ∙ ap (λ b. sets out here (cond b (new ++ rest) [])) (sym (lt-ltb i e h))
          ∙ q.made;
      long = length-sets out here new ∙ q.long;
    }
  where
    new : List ℕ
    new = f i (stop g.t i e) (origin st (piece_of g i (stop g.t i e)))

    rest : List ℕ
    rest = put_from f g k (next st (piece_of g i (stop g.t i e))) (i + (cell_at g.t i).bases) e

    place : Dec (i + (cell_at g.t i).bases < e) → sets (sets out here new) there rest ≡ sets (sets out here new) (here + length new) rest
    place (yes u) = ap (λ z. sets (sets out here new) z rest) (follows u)
    place (no u) = sets-any (sets out here new) rest _ _ (none_from f g k (next st (piece_of g i (stop g.t i e))) (i + (cell_at g.t i).bases) e (omega arith))

strand_end : {f : ℕ → ℕ → ℕ → List ℕ} {g : Sheet} {e fuel : ℕ} {st : State} {i : ℕ} {was : List ℕ} {at : ℕ} {all : List ℕ} {here : ℕ} {out : List ℕ} →
    Strand f g e fuel st i was at all here out → e ≤ i → out ≡ sets was at all
strand_end {f} {g} {e} {fuel} {st} {i} {was} {at} {all} {here} {out} q h = ap (λ l. sets out here l) (sym (none_from f g fuel st i e h)) ∙ q.made

-- a result list of one side
abbrev SideStrand : Side → (g : Sheet) (s e fuel : ℕ) → State → ℕ → (was out : List ℕ) → Type 0
SideStrand side g s e fuel st i was out = Strand (side_put side g) g e fuel st i was (first side g.t s) (side_of side g s e) (first side g.t i) out

-- Before the piece from i, the line so far in the state st.
pub record Along (g : Sheet) (s e : ℕ) (was wasRuby wasLeft : List ℕ) (i : ℕ) (st : State) (base ruby left : List ℕ) : Type 0 where
  pub fuel : ℕ
  pub enough : e ≤ i + fuel
  pub begins : i < e → Begins g.t i
  pub near : furthest st ≤ 524288 * i
  pub bases : Strand (base_put g) g e fuel st i was s (base_of g s e) i base
  pub rubies : SideStrand Right g s e fuel st i wasRuby ruby
  pub lefts : SideStrand Left g s e fuel st i wasLeft left

module _ {g : Sheet} {s e : ℕ} {was wasRuby wasLeft : List ℕ} (ready : LineReady g s e was wasRuby wasLeft) where
  pub along-first : Along g s e was wasRuby wasLeft s start was wasRuby wasLeft
  unfolding base_of side_of
  along-first =
      record {
        fuel = e - s;
        enough = omega arith;
        begins = λ _. ready.begins;
        near = zero-le;
        bases = record { made = refl; long = refl };
        rubies = record { made = refl; long = refl };
        lefts = record { made = refl; long = refl };
      }

  module _ {i : ℕ} {st : State} {base ruby left : List ℕ} (q : Along g s e was wasRuby wasLeft i st base ruby left) where
    pub along-end : e ≤ i → (base ≡ sets was s (base_of g s e)) × (ruby ≡ sets wasRuby (first Right g.t s) (side_of Right g s e)) × (left ≡ sets wasLeft (first Left g.t s) (side_of Left g s e))
    along-end h = (strand_end q.bases h, strand_end q.rubies h, strand_end q.lefts h)

    module _ (h : i < e) where
      abbrev c : ℕ
      c = stop g.t i e

      abbrev o : ℕ
      o = origin st (piece_of g i (stop g.t i e))

      pub in_table : i < ready.n
      in_table = omega (arith, ready.within)

      ahead : (i < stop g.t i e) × (stop g.t i e ≤ i + (cell_at g.t i).bases)
      ahead = stop-ahead ready.table e ready.within ready.permits i h

      here : Fits g i (stop g.t i e)
      here = fits-here ready.table e ready.within ready.permits i h (q.begins h)

      reads : (v : Side) → SideFits v g ready.n (pick ready.m ready.l v) i (stop g.t i e)
      reads v = side-here ready.table e ready.within ready.permits i h v (q.begins h)

      pub held : i < length g.t.rows
      held = omega (arith, in_table, ready.table.sound.long)

      pub few : (i < 1024) × (0 < (cell_at g.t i).bases) × ((cell_at g.t i).bases ≤ 32)
      few = let row = ready.table.sound.row i in_table in (omega (arith, in_table, ready.table.sound.few), row.some, row.few)

      pub can_advance : Advances g.t st i (stop g.t i e)
      can_advance = advances g.t ready.n ready.table.sound i (stop g.t i e) ahead.0 ahead.1 in_table st q.near

      not-far : origin st (piece_of g i (stop g.t i e)) ≤ 536870912
      not-far = omega (arith, origin_bound st (piece_of g i (stop g.t i e)), q.near, in_table, ready.table.sound.few)

      pub asks-base : (word_of g i c).right.there ≡ true → StringReady (o + (word_of g i c).front) (word_of g i c).inbase i c g.width base
      asks-base w = base-ready ready.table ahead.0 ahead.1 in_table here o not-far w (omega (arith, ready.room, q.bases.long))

      pub asks-ruby : ReadingReady Right g.t i c (word_of g i c).right o g.ruby_width ruby
      asks-ruby = side-ready ready.table ahead.0 ahead.1 in_table Right (reads Right) o not-far (omega (arith, ready.room_ruby, q.rubies.long))

      pub asks-left : ReadingReady Left g.t i c (word_of g i c).left o g.left_width left
      asks-left = side-ready ready.table ahead.0 ahead.1 in_table Left (reads Left) o not-far (omega (arith, ready.room_left, q.lefts.long))

      pub in_base : i < length base
      in_base = omega (arith, in_table, ready.room, q.bases.long)

      -- what the piece leaves, by its two cases
      pub wrote_base : {base2 : List ℕ} → (word_of g i c).right.there ≡ true → base2 ≡ sets base i (base_starts (word_of g i c) o (lent g.width i c)) → base2 ≡ sets base i (base_put g i c o)
      unfolding base_put
      wrote_base w x = x ∙ ap (λ b. sets base i (cond b (base_starts (word_of g i c) o (lent g.width i c)) (o ∷ []))) (sym w)

      pub wrote_side : (v : Side) (out now : List ℕ) → now ≡ sets out (first v g.t i) (reading_by v g.t (widths_of v g) (reading_of v g i c) i c o) →
          now ≡ sets out (first v g.t i) (side_put v g i c o)
      unfolding side_put
      wrote_side v out now x = x

      pub wrote_plain : (word_of g i c).right.there ≡ false → set base i o ≡ sets base i (base_put g i c o)
      unfolding base_put
      wrote_plain w = ap (λ b. sets base i (cond b (base_starts (word_of g i c) o (lent g.width i c)) (o ∷ []))) (sym w)

      wrote_none : (v : Side) (out : List ℕ) → (reading_of v g i c).there ≡ false → out ≡ sets out (first v g.t i) (side_put v g i c o)
      unfolding side_put reading_by
      wrote_none v out w = rw w

      pub no_ruby : (word_of g i c).right.there ≡ false → ruby ≡ sets ruby (first Right g.t i) (side_put Right g i c o)
      no_ruby w = wrote_none Right ruby w

      pub no_left_lem : (word_of g i c).right.there ≡ false → left ≡ sets left (first Left g.t i) (side_put Left g i c o)
      no_left_lem w = wrote_none Left left (here.bare w)

      pub along-next : Along g s e was wasRuby wasLeft (i + (cell_at g.t i).bases) (next st (piece_of g i c))
          (sets base i (base_put g i c o)) (sets ruby (first Right g.t i) (side_put Right g i c o)) (sets left (first Left g.t i) (side_put Left g i c o))
      along-next = go q.fuel q.enough q.bases q.rubies q.lefts
        where
          follows : (v : Side) → i + (cell_at g.t i).bases < e → first v g.t (i + (cell_at g.t i).bases) ≡ first v g.t i + length (side_put v g i c o)
          follows v u =
              ap (first v g.t) (sym (stop-whole g.t i e (omega arith)))
              ∙ (reads v).follows (omega (arith, ready.within)) ∙ sym (side-long ready.table ahead.0 ahead.1 in_table v (reads v) o)

          go : (k : ℕ) → e ≤ i + k → Strand (base_put g) g e k st i was s (base_of g s e) i base → SideStrand Right g s e k st i wasRuby ruby → SideStrand Left g s e k st i wasLeft left →
              Along g s e was wasRuby wasLeft (i + (cell_at g.t i).bases) (next st (piece_of g i c))
              (sets base i (base_put g i c o)) (sets ruby (first Right g.t i) (side_put Right g i c o)) (sets left (first Left g.t i) (side_put Left g i c o))
          go zero room b r l = absurd (omega arith)
          go (suc k) room b r l =
              record {
                fuel = k;
                enough = omega (arith, few.1);
                begins = λ _. begins-next ready.table i in_table;
                near = next-near g.t ready.n ready.table.sound st i c ahead.0 ahead.1 in_table q.near;
                bases =
                    strand_next b h (i + (cell_at g.t i).bases)
                    (λ u. omega (arith, base-long ready.table ahead.0 ahead.1 in_table here o, stop-whole g.t i e (omega arith)));
                rubies = strand_next r h (first Right g.t (i + (cell_at g.t i).bases)) (follows Right);
                lefts = strand_next l h (first Left g.t (i + (cell_at g.t i).bases)) (follows Left);
              }
