-- A line piece by piece: each is one that a line may have, and the next one's characters follow its own.
use Rattle.std.specs.Prelude.{◌≡◌, refl, Bool, true, false, cond, List, [], ◌++◌, eqb}
use Rattle.std.proofs.Common.{sym, ◌∙◌, subst, inl, inr, add-zero, arith, lt-ltb, le-ltb, ne_eqb, eqb-true}
use Rattle.std.proofs.Math.Path.{ap}
use Prim.Native.Nat.{ℕ, zero, suc, ◌+◌, ◌-◌, ◌≤◌, ◌<◌, min}
use Rattle.std.proofs.Math.Decide.{dec_lt}
use Rattle.std.proofs.lemmas.Bool.{eqb-false}
use Rattle.std.proofs.Math.ListN.{length, length-append}
use Rattle.line.specs.declared.Side.{Side}
use Rattle.line.specs.declared.State.{State}
use Rattle.line.specs.Setting.{origin}
use Rattle.cells.specs.Cells.{cell_at, next, stop, may_end}
use Rattle.cells.specs.Walk.{along, may_within, stop-whole, stop-within}
use Rattle.positions.specs.Positions.{Sheet, first, reading_end, piece_of, base_put, side_put, put_from}
use Rattle.positions.specs.Ready.{Fits, SideFits, Begins, Stops, pick, Writable}
use Rattle.positions.specs.Piece.{base-long, side-long}

-- no piece more
pub none_from : (f : ℕ → ℕ → ℕ → List ℕ) (g : Sheet) (k : ℕ) (st : State) (i e : ℕ) → e ≤ i → put_from f g k st i e ≡ []
unfolding put_from
none_from f g zero st i e h = refl
none_from f g (suc k) st i e h = rw (le-ltb i e h)

-- The line from i up to e has a position for each base character, and its characters of one side end where those of the row e begin.
pub record Counted (g : Sheet) (n m l e k : ℕ) (st : State) (i : ℕ) : Type 0 where
  pub long : length (put_from (base_put g) g k st i e) ≡ e - i
  pub place : (side : Side) → i ≤ e → e < n → first side g.t i + length (put_from (side_put side g) g k st i e) ≡ first side g.t e
  pub short : (side : Side) → i < e → first side g.t i + length (put_from (side_put side g) g k st i e) ≤ pick m l side

module _ {g : Sheet} {n m l : ℕ} (table : Writable g n m l) where
  -- an element begins where another one ends
  pub begins-next : (i : ℕ) → i < n → Begins g.t (i + (cell_at g.t i).bases)
  begins-next i h = inr (inr (subst (λ (z : ℕ). (cell_at g.t z).bases ≡ 1) (back i (cell_at g.t i).bases some) (omega (arith, some, last))))
    where
      some : 0 < (cell_at g.t i).bases
      some = (table.sound.row i h).some

      last : (cell_at g.t i).bases ≡ (cell_at g.t (i + ((cell_at g.t i).bases - 1))).bases + ((cell_at g.t i).bases - 1)
      last = (along g.t n table.sound i h ((cell_at g.t i).bases - 1) (omega (arith, some))).bases

      back : (i b : ℕ) → 0 < b → i + (b - 1) ≡ i + b - 1
      back i b l = omega arith

  -- a line begins where another one may end
  pub begins-behind : (e : ℕ) → 0 < e → e < n → may_end g.t n e ≡ true → Begins g.t e
  begins-behind e some h p =
      go (eqb (cell_at g.t (e - 1)).bases 1) refl (rw (ne_eqb e n (λ z. omega arith)) at p)
    where
      go : (b : Bool) → eqb (cell_at g.t (e - 1)).bases 1 ≡ b → cond b (cell_at g.t (e - 1)).ends (cell_at g.t (e - 1)).cut ≡ true → Begins g.t e
      go true z q = inr (inr (eqb-true _ _ z))
      go false z q =
          let row = table.sound.row (e - 1) (omega arith) in
          let more = eqb-false (cell_at g.t (e - 1)).bases 1 z in
          inl (sym (subst (λ (k : ℕ). (cell_at g.t (e - 1)).cut ≡ (cell_at g.t k).cut) (one e some) (row.follows (two (cell_at g.t (e - 1)).bases row.some more)).cut) ∙ q)
        where
          one : (e : ℕ) → 0 < e → e - 1 + 1 ≡ e
          one e l = omega arith

          two : (b : ℕ) → 0 < b → (b ≡ 1 → ⊥) → 1 < b
          two b l f = omega arith

  -- the line goes on up to e, where it may end
  module _ (e : ℕ) (within : e ≤ n) (permits : may_end g.t n e ≡ true) where
    module _ (i : ℕ) (h : i < e) where
      pub stop-ahead : (i < stop g.t i e) × (stop g.t i e ≤ i + (cell_at g.t i).bases)
      stop-ahead = let some = (table.sound.row i (omega arith)).some in (omega arith, omega arith)

      stops : Stops g.t i (stop g.t i e)
      stops = go (dec_lt e (i + (cell_at g.t i).bases))
        where
          go : Dec (e < i + (cell_at g.t i).bases) → Stops g.t i (stop g.t i e)
          go (yes u) = inl (sym (may_within g.t n table.sound i (omega arith) e h u) ∙ permits)
          go (no u) = inr (omega arith)

      pub fits-here : Begins g.t i → Fits g i (stop g.t i e)
      fits-here b = table.fits i (stop g.t i e) (omega arith) stop-ahead.0 stop-ahead.1 b stops

      pub side-here : (side : Side) → Begins g.t i → SideFits side g n (pick m l side) i (stop g.t i e)
      side-here side b = table.sides side i (stop g.t i e) (omega arith) stop-ahead.0 stop-ahead.1 b stops

    done : (k : ℕ) (st : State) (i : ℕ) → e ≤ i → Counted g n m l e k st i
    done k st i h =
        record {
          long = ap length (none_from (base_put g) g k st i e h) ∙ omega arith;
          place = λ side u v. ap (λ z. first side g.t i + length z) (none_from (side_put side g) g k st i e h) ∙ add-zero _ ∙ ap (first side g.t) (omega arith);
          short = λ side u. absurd (omega arith);
        }

    one_more : (k : ℕ) (st : State) (i : ℕ) → i < e → Begins g.t i →
        Counted g n m l e k (next st (piece_of g i (stop g.t i e))) (i + (cell_at g.t i).bases) → Counted g n m l e (suc k) st i
    unfolding put_from
    one_more k st i h b rest =
        record {
          long = ap length (step (base_put g)) ∙ length-append here more ∙ adds (length here) (length more) (cell_at g.t i).bases (base-long table a.0 a.1 u (fits-here i h b) o) rest.long;
          place = λ side _ v. ap (λ z. first side g.t i + length z) (step (side_put side g)) ∙ sum side ∙ place side v (dec_lt (i + (cell_at g.t i).bases) e);
          short = λ side _. omega (arith, ap (λ z. first side g.t i + length z) (step (side_put side g)) ∙ sum side, short side (dec_lt (i + (cell_at g.t i).bases) e));
        }
      where
        c : ℕ
        c = stop g.t i e

        a : (i < stop g.t i e) × (stop g.t i e ≤ i + (cell_at g.t i).bases)
        a = stop-ahead i h

        u : i < n
        u = omega arith

        o : ℕ
        o = origin st (piece_of g i (stop g.t i e))

        here : List ℕ
        here = base_put g i (stop g.t i e) (origin st (piece_of g i (stop g.t i e)))

        more : List ℕ
        more = put_from (base_put g) g k (next st (piece_of g i (stop g.t i e))) (i + (cell_at g.t i).bases) e

        here_of : Side → List ℕ
        here_of side = side_put side g i (stop g.t i e) (origin st (piece_of g i (stop g.t i e)))

        more_of : Side → List ℕ
        more_of side = put_from (side_put side g) g k (next st (piece_of g i (stop g.t i e))) (i + (cell_at g.t i).bases) e

        step : (f : ℕ → ℕ → ℕ → List ℕ) → put_from f g (suc k) st i e
            ≡ f i (stop g.t i e) (origin st (piece_of g i (stop g.t i e))) ++ put_from f g k (next st (piece_of g i (stop g.t i e))) (i + (cell_at g.t i).bases) e
        step f = rw (lt-ltb i e h)

        adds : (p q b : ℕ) → p ≡ min e (i + b) - i → q ≡ e - (i + b) → p + q ≡ e - i
        adds p q b x y = omega arith

        sum : (side : Side) → first side g.t i + length (here_of side ++ more_of side) ≡ reading_end side g.t i (stop g.t i e) + length (more_of side)
        sum side = omega (arith, length-append (here_of side) (more_of side), side-long table a.0 a.1 u side (side-here i h side b) o)

        -- past the line's end nothing more, else the next piece's characters follow
        nothing : (side : Side) → e ≤ i + (cell_at g.t i).bases → length (more_of side) ≡ 0
        nothing side v = ap length (none_from (side_put side g) g k (next st (piece_of g i (stop g.t i e))) (i + (cell_at g.t i).bases) e v)

        goes_on : (side : Side) → i + (cell_at g.t i).bases < e → reading_end side g.t i (stop g.t i e) ≡ first side g.t (i + (cell_at g.t i).bases)
        goes_on side v = sym ((side-here i h side b).follows (omega arith)) ∙ ap (first side g.t) (stop-whole g.t i e (omega arith))

        place : (side : Side) → e < n → Dec (i + (cell_at g.t i).bases < e) → reading_end side g.t i (stop g.t i e) + length (more_of side) ≡ first side g.t e
        place side v (yes y) = ap (λ z. z + length (more_of side)) (goes_on side y) ∙ rest.place side (omega arith) v
        place side v (no y) =
            ap (λ z. reading_end side g.t i (stop g.t i e) + z) (nothing side (omega arith)) ∙ add-zero _ ∙ sym ((side-here i h side b).follows (omega arith))
            ∙ ap (first side g.t) (stop-within g.t i e (omega arith))

        short : (side : Side) → Dec (i + (cell_at g.t i).bases < e) → reading_end side g.t i (stop g.t i e) + length (more_of side) ≤ pick m l side
        short side (yes y) = omega (arith, goes_on side y, rest.short side y)
        short side (no y) = omega (arith, nothing side (omega arith), (side-here i h side b).within)

    pub counted : (k : ℕ) (st : State) (i : ℕ) → e ≤ i + k → (i < e → Begins g.t i) → Counted g n m l e k st i
    counted zero st i room b = done zero st i (omega arith)
    counted (suc k) st i room b = go (dec_lt i e) (λ u. counted k (next st (piece_of g i (stop g.t i e))) (i + (cell_at g.t i).bases)
        (let some = (table.sound.row i (omega arith)).some in omega arith) (λ _. begins-next i (omega arith)))
      where
        go : Dec (i < e) → (i < e → Counted g n m l e k (next st (piece_of g i (stop g.t i e))) (i + (cell_at g.t i).bases)) → Counted g n m l e (suc k) st i
        go (yes u) f = one_more k st i u (b u) (f u)
        go (no u) f = done (suc k) st i (omega arith)
