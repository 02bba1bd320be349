-- All lines, one after the other, and their ends.
use Rattle.std.specs.Prelude.{◌≡◌, refl, true, List, [], ◌∷◌, ◌++◌, ℕ, suc, ◌+◌, ◌-◌, ◌≤◌, ◌<◌, length, get_or, set, take, drop}
use Rattle.std.proofs.Common.{sym, ap, ◌∙◌, subst, inl, inr, zero-le, add-one, arith, length-set, length-append, drop_of_length-le, drop-cons, get_or-take, length-take-le}
use Rattle.std.proofs.Math.Decide.{dec_lt}
use Rattle.std.proofs.lemmas.List.Edits.{sets}
use Rattle.std.proofs.Math.Seq.{length-sets, take-length}
use Rattle.basics.specs.Laws.{sets_append}
use Rattle.line.specs.declared.Side.{Side}
use Rattle.line.specs.declared.Side.TheVariants.{Right, Left}
use Rattle.line.specs.Setting.{start}
use Rattle.cells.specs.Rows.{Rows}
use Rattle.cells.specs.Cells.{cell_at, may_end}
use Rattle.positions.specs.Positions.{Sheet, over, first, base_of, side_of, by_line}
use Rattle.positions.specs.Lists.{sets_over, sets-any}
use Rattle.positions.specs.Ready.{Begins, pick, Writable, LineReady, Chained, LinesReady}
use Rattle.positions.specs.Walk.{begins-behind, Counted, counted}

-- What a line adds, and all lines from one on.
module _ {g : Sheet} {n m l : ℕ} (table : Writable g n m l) where
  counted-line : (s e : ℕ) → e ≤ n → may_end g.t n e ≡ true → Begins g.t s → Counted g n m l e (e - s) start s
  counted-line s e within permits begins = counted table e within permits (e - s) start s (omega arith) (λ _. begins)

  module _ (s e : ℕ) (ahead : s < e) (within : e ≤ n) (permits : may_end g.t n e ≡ true) (begins : Begins g.t s) where
    pub next-base : s + length (base_of g s e) ≡ e
    unfolding base_of
    next-base = omega (arith, (counted-line s e within permits begins).long)

    pub next-side : (side : Side) → e < n → first side g.t s + length (side_of side g s e) ≡ first side g.t e
    unfolding side_of
    next-side side h = (counted-line s e within permits begins).place side (omega arith) h

    pub room-side : (side : Side) → first side g.t s + length (side_of side g s e) ≤ pick m l side
    unfolding side_of
    room-side side = (counted-line s e within permits begins).short side ahead

  pub bases-long : (s : ℕ) (es : List ℕ) → s ≤ n → (s < n → Begins g.t s) → Chained g.t n s es → s + length (by_line (base_of g) s es) ≤ n
  bases-long s [] h b c = omega arith
  bases-long s (e ∷ es) h b c =
      let rest = bases-long e es c.1 (λ u. begins-behind table e (omega (arith, c.0)) u c.2) c.3 in
      omega (arith, length-append (base_of g s e) (by_line (base_of g) e es), next-base s e c.0 c.1 c.2 (b (omega (arith, c.0, c.1))), rest)

  pub side-all : (side : Side) (s : ℕ) (es : List ℕ) → s < n → Begins g.t s → Chained g.t n s es → first side g.t s + length (by_line (side_of side g) s es) ≤ pick m l side
  side-all side s [] h b c =
      let row = table.sound.row s h in
      let f = table.sides side s (s + (cell_at g.t s).bases) h (omega (arith, row.some)) (omega arith) b (inr refl) in
      omega (arith, f.ahead, f.within)
  side-all side s (e ∷ es) h b c = go (dec_lt e n) es c.3 (λ u. side-all side e es u (begins-behind table e (omega (arith, c.0)) u c.2) c.3)
    where
      go : Dec (e < n) → (xs : List ℕ) → Chained g.t n e xs → (e < n → first side g.t e + length (by_line (side_of side g) e xs) ≤ pick m l side) →
          first side g.t s + length (side_of side g s e ++ by_line (side_of side g) e xs) ≤ pick m l side
      go (yes u) xs d f = omega (arith, length-append (side_of side g s e) (by_line (side_of side g) e xs), next-side s e c.0 c.1 c.2 b side u, f u)
      go (no u) [] d f = omega (arith, length-append (side_of side g s e) [], room-side s e c.0 c.1 c.2 b side)
      go (no u) (x ∷ xs) d f = absurd (omega (arith, d.0, d.1))

-- A result list before the line that begins at base character s, of which each line adds what f gives, from `here` on; all lines make up the whole.
pub record Strand (f : ℕ → ℕ → List ℕ) (s : ℕ) (todo all : List ℕ) (was : List ℕ) (here : ℕ) (out : List ℕ) : Type 0 where
  pub made : sets out here (by_line f s todo) ≡ sets was 0 (by_line f 0 all)
  pub long : length out ≡ length was

strand_next : {f : ℕ → ℕ → List ℕ} {s e : ℕ} {todo rest all was : List ℕ} {here : ℕ} {out now : List ℕ} → Strand f s todo all was here out → todo ≡ e ∷ rest →
    now ≡ sets out here (f s e) → (there : ℕ) → (sets (sets out here (f s e)) there (by_line f e rest) ≡ sets (sets out here (f s e)) (here + length (f s e)) (by_line f e rest)) →
    Strand f e rest all was there now
strand_next {f} {s} {e} {todo} {rest} {all} {was} {here} {out} {now} q split w there place =
    record {
      made =
          ap (λ b. sets b there (by_line f e rest)) w ∙ place
          ∙ sym (sets_append out (f s e) (by_line f e rest) here)
          ∙ ap (λ xs. sets out here (by_line f s xs)) (sym split)
          ∙ q.made;
      long = ap length w ∙ length-sets out here (f s e) ∙ q.long;
    }

strand_end : {f : ℕ → ℕ → List ℕ} {s : ℕ} {todo all was : List ℕ} {here : ℕ} {out : List ℕ} → Strand f s todo all was here out → todo ≡ [] → length (by_line f 0 all) ≤ length was →
    out ≡ over (by_line f 0 all) was
strand_end {f} {s} {todo} {all} {was} {here} {out} q none few = ap (λ xs. sets out here (by_line f s xs)) (sym none) ∙ q.made ∙ sets_over was (by_line f 0 all) few

-- lines at the front of a list, and that front by itself
pub lines-front : {g : Sheet} {k : ℕ} {found base ruby left : List ℕ} → LinesReady g k found base ruby left → LinesReady g (length (take k found)) (take k found) base ruby left
lines-front {g} {k} {found} {base} {ruby} {left} r =
    let many = length-take-le k found r.held in
    record {
      n = r.n;
      m = r.m;
      l = r.l;
      table = r.table;
      room = r.room;
      room_ruby = r.room_ruby;
      room_left = r.room_left;
      held = omega arith;
      few = omega (arith, many, r.few);
      chained = subst (Chained g.t r.n 0) (sym (take-length (take k found))) r.chained;
      start = r.start;
    }

-- Before line k, which begins at base character s: what is written and what is to do make up the whole.
pub record Going (g : Sheet) (k : ℕ) (found was wasRuby wasLeft : List ℕ) (s at : ℕ) (base ruby left : List ℕ) : Type 0 where
  pub ready : LinesReady g k found was wasRuby wasLeft
  pub begins : s < ready.n → Begins g.t s
  pub chained : Chained g.t ready.n s (drop at (take k found))
  pub bases : Strand (base_of g) s (drop at (take k found)) (take k found) was s base
  pub rubies : Strand (side_of Right g) s (drop at (take k found)) (take k found) wasRuby (first Right g.t s) ruby
  pub lefts : Strand (side_of Left g) s (drop at (take k found)) (take k found) wasLeft (first Left g.t s) left

-- a table without rows has no lines
none-chained : (t : Rows) (n s : ℕ) (xs : List ℕ) → n ≤ s → Chained t n s xs → xs ≡ []
none-chained t n s [] h c = refl
none-chained t n s (e ∷ es) h c = absurd (omega (arith, c.0, c.1))

module _ {g : Sheet} {k : ℕ} {found was wasRuby wasLeft : List ℕ} (ready : LinesReady g k found was wasRuby wasLeft) where
  pub going_first : Going g k found was wasRuby wasLeft 0 0 was wasRuby wasLeft
  going_first =
      record {
        ready = ready;
        begins = λ _. inr (inl refl);
        chained = ready.chained;
        bases = record { made = refl; long = refl };
        rubies = record { made = front Right wasRuby (dec_lt 0 ready.n); long = refl };
        lefts = record { made = front Left wasLeft (dec_lt 0 ready.n); long = refl };
      }
    where
      front : (side : Side) (out : List ℕ) → Dec (0 < ready.n) →
          sets out (first side g.t 0) (by_line (side_of side g) 0 (take k found)) ≡ sets out 0 (by_line (side_of side g) 0 (take k found))
      front side out (yes h) = ap (λ z. sets out z (by_line (side_of side g) 0 (take k found))) (ready.start h side)
      front side out (no h) =
          sets-any out (by_line (side_of side g) 0 (take k found)) (first side g.t 0) 0
          (ap (by_line (side_of side g) 0) (none-chained g.t ready.n 0 (take k found) (omega arith) ready.chained))

module _ {g : Sheet} {k : ℕ} {found was wasRuby wasLeft : List ℕ} {s l : ℕ} {base ruby left : List ℕ} (going : Going g k found was wasRuby wasLeft s l base ruby left) where
  abbrev es : List ℕ
  es = take k found

  abbrev ready : LinesReady g k found was wasRuby wasLeft
  ready = going.ready

  many : length (take k found) ≡ k
  many = length-take-le k found ready.held

  module _ (h : l < k) where
    abbrev e : ℕ
    e = get_or found l 0

    split : drop l es ≡ e ∷ drop (suc l) es
    split = drop-cons es l 0 (omega (arith, many)) ∙ ap (λ (x : ℕ). x ∷ drop (suc l) es) (get_or-take k found l 0 h)

    chained : Chained g.t ready.n s (e ∷ drop (suc l) es)
    chained = subst (λ xs. Chained g.t ready.n s xs) split going.chained

    begins : Begins g.t s
    begins = going.begins (omega (arith, chained.0, chained.1))

    pub line-ready : LineReady g s e base ruby left
    line-ready =
        record {
          n = ready.n;
          m = ready.m;
          l = ready.l;
          table = ready.table;
          room = omega (arith, ready.room, going.bases.long);
          room_ruby = omega (arith, ready.room_ruby, going.rubies.long);
          room_left = omega (arith, ready.room_left, going.lefts.long);
          ahead = chained.0;
          within = chained.1;
          begins = begins;
          permits = chained.2;
        }

    pub going_next : {base2 ruby2 left2 : List ℕ} →
        (base2 ≡ sets base s (base_of g s e)) × (ruby2 ≡ sets ruby (first Right g.t s) (side_of Right g s e)) × (left2 ≡ sets left (first Left g.t s) (side_of Left g s e)) →
        Going g k found was wasRuby wasLeft e (l + 1) base2 ruby2 left2
    going_next {base2} {ruby2} {left2} w =
        rw (add-one l) (record {
          ready = ready;
          begins = λ u. begins-behind ready.table e (omega (arith, chained.0)) u chained.2;
          chained = chained.3;
          bases =
              strand_next going.bases split w.0 e
              (ap (λ z. sets (sets base s (base_of g s e)) z (by_line (base_of g) e (drop (suc l) es))) (sym (next-base ready.table s e chained.0 chained.1 chained.2 begins)));
          rubies = strand_next going.rubies split w.1 (first Right g.t e) (place Right ruby (dec_lt e ready.n));
          lefts = strand_next going.lefts split w.2 (first Left g.t e) (place Left left (dec_lt e ready.n));
        })
      where
        place : (side : Side) (out : List ℕ) → Dec (e < ready.n) →
            sets (sets out (first side g.t s) (side_of side g s e)) (first side g.t e) (by_line (side_of side g) e (drop (suc l) es))
            ≡ sets (sets out (first side g.t s) (side_of side g s e)) (first side g.t s + length (side_of side g s e)) (by_line (side_of side g) e (drop (suc l) es))
        place side out (yes z) =
            ap (λ a. sets (sets out (first side g.t s) (side_of side g s e)) a (by_line (side_of side g) e (drop (suc l) es)))
            (sym (next-side ready.table s e chained.0 chained.1 chained.2 begins side z))
        place side out (no z) =
            sets-any (sets out (first side g.t s) (side_of side g s e)) (by_line (side_of side g) e (drop (suc l) es)) (first side g.t e) (first side g.t s + length (side_of side g s e))
            (ap (by_line (side_of side g) e) (none-chained g.t ready.n e (drop (suc l) es) (omega arith) chained.3))

  -- after the last line all is written
  pub going_end : k ≤ l → (base ≡ over (by_line (base_of g) 0 es) was) × (ruby ≡ over (by_line (side_of Right g) 0 es) wasRuby) × (left ≡ over (by_line (side_of Left g) 0 es) wasLeft)
  going_end h =
      let past : length es ≤ l = omega (arith, many) in
      let none : drop l es ≡ [] = drop_of_length-le es past in (
        strand_end going.bases none (omega (arith, bases-long ready.table 0 es zero-le (λ _. inr (inl refl)) ready.chained, ready.room)),
        strand_end going.rubies none (omega (arith, few Right (dec_lt 0 ready.n), ready.room_ruby)),
        strand_end going.lefts none (omega (arith, few Left (dec_lt 0 ready.n), ready.room_left)),
      )
    where
      few : (side : Side) → Dec (0 < ready.n) → length (by_line (side_of side g) 0 (take k found)) ≤ pick ready.m ready.l side
      few side (yes z) = omega (arith, side-all ready.table side 0 (take k found) z (inr (inl refl)) ready.chained)
      few side (no z) = rw (none-chained g.t ready.n 0 (take k found) (omega arith) ready.chained) zero-le

-- of a list that has no more than the ends
pub going_all : {g : Sheet} {found was wasRuby wasLeft : List ℕ} {s l : ℕ} {base ruby left : List ℕ} → Going g (length found) found was wasRuby wasLeft s l base ruby left → length found ≤ l →
    (base ≡ over (by_line (base_of g) 0 found) was) × (ruby ≡ over (by_line (side_of Right g) 0 found) wasRuby) × (left ≡ over (by_line (side_of Left g) 0 found) wasLeft)
going_all {g} {found} {was} {wasRuby} {wasLeft} {base = base} {ruby = ruby} {left = left} q h =
    subst (λ es. (base ≡ over (by_line (base_of g) 0 es) was) × (ruby ≡ over (by_line (side_of Right g) 0 es) wasRuby) × (left ≡ over (by_line (side_of Left g) 0 es) wasLeft)) (take-length found)
    (going_end q h)

-- The ends: what is copied and what is left to copy make up the whole.
pub record Ending (n : ℕ) (ends was : List ℕ) (l : ℕ) (lines : List ℕ) : Type 0 where
  pub upto : l ≤ n
  pub rows : sets lines l (drop l (take n ends)) ≡ sets was 0 (take n ends)
  pub long : length lines ≡ length was

module _ {n : ℕ} {ends was : List ℕ} (held : n ≤ length ends) where
  pub ending_first : Ending n ends was 0 was
  ending_first = record { upto = zero-le; rows = refl; long = refl }

  module _ {l : ℕ} {lines : List ℕ} (q : Ending n ends was l lines) where
    pub ending_next : l < n → Ending n ends was (l + 1) (set lines l (get_or ends l 0))
    ending_next h =
        rw (add-one l) (record {
          upto = omega arith;
          rows =
              ap (sets lines l) (sym (drop-cons (take n ends) l 0 (omega (arith, length-take-le n ends held)) ∙ ap (λ (x : ℕ). x ∷ drop (suc l) (take n ends)) (get_or-take n ends l 0 h)))
              ∙ q.rows;
          long = length-set lines l (get_or ends l 0) ∙ q.long;
        })

    pub ending_end : n ≤ l → n ≤ length was → lines ≡ over (take n ends) was
    ending_end h room =
        let past : length (take n ends) ≤ l = omega (arith, length-take-le n ends held) in
        ap (sets lines l) (sym (drop_of_length-le (take n ends) past))
        ∙ q.rows ∙ sets_over was (take n ends) (omega (arith, length-take-le n ends held))
