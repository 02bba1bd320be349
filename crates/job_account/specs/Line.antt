-- One line: what is written of its accounts so far and what is left to write make up the whole.
use Rattle.std.specs.Prelude.{◌≡◌, refl, Bool, true, false, cond, leb, ltb, length, get_or, set}
use Rattle.std.proofs.Common.{sym, ap, ◌∙◌, subst, add-zero, arith, lt-ltb, le-ltb, length-append, get_or-set_same, get_or-set_other}
use mathlib.Core.List.{List, [], ◌∷◌, ◌++◌}
use Prim.Native.Nat.{ℕ, zero, suc, ◌+◌, ◌-◌, ◌*◌, ◌≤◌, ◌<◌, zero-le}
use Rattle.std.proofs.Math.Decide.{dec_lt}
use Rattle.std.proofs.Math.ListN.{get_or-append}
use Rattle.std.proofs.lemmas.List.Edits.{sets}
use Rattle.std.proofs.Math.Seq.{length-sets}
use Rattle.basics.specs.Laws.{sets_append}
use Rattle.line.specs.declared.State.{State}
use Rattle.line.specs.Setting.{start, origin, furthest}
use Rattle.cells.specs.Rows.{Rows}
use Rattle.cells.specs.Cells.{cell_at, piece, stop, Advances}
use Rattle.cells.specs.Sound.{Sound, advances}
use Rattle.cells.specs.Walk.{next-near}
use Rattle.account.specs.declared.Before.{Before}
use Rattle.account.specs.declared.Account.{Account}
use Rattle.account.specs.Claims.{number, depth, Earlier}
use Rattle.account.specs.Step.{nothing}
use Rattle.account.specs.Behind.{Behind, behind-none, reason-behind, behind-next}
use Rattle.job_account.specs.declared.Told.{Told}
use Rattle.job_account.specs.declared.Place.{Place}
use Rattle.job_account.specs.Rows.{other_by, row, row_by, index_at, RowReady}
use Rattle.job_account.specs.Table.{told_at, ended, rows_from, line_rows, pieces_from, pieces_in, ended_from, ended_in, behind}

-- The line from s up to e can be told: the table is sound, the list has six places for each of its rows, and no more elements are passed and rows told than there are characters before s.
pub record LineReady (t : Rows) (s e : ℕ) (from : Place) (out : List ℕ) : Type 0 where
  pub n : ℕ
  pub sound : Sound t n
  pub ahead : s < e
  pub within : e ≤ n
  pub index : from.k ≤ s
  pub few : from.q ≤ s
  pub room : 6 * n ≤ length out

-- Entries before those that are set stay, and the first that is set is the first of the others.
get_d_before : (l vs : List ℕ) (i k : ℕ) → k < i → get_or (sets l i vs) k 0 ≡ get_or l k 0
get_d_before l [] i k h = refl
get_d_before l (v ∷ vs) i k h = get_d_before (set l i v) vs (suc i) k (omega arith) ∙ get_or-set_other l i k v 0 (λ e. omega arith)

get_d_first : (l vs : List ℕ) (i v : ℕ) → i < length l → get_or (sets l i (v ∷ vs)) i 0 ≡ v
get_d_first l vs i v h = get_d_before (set l i v) vs (suc i) i (omega arith) ∙ get_or-set_same l i v 0 h

row_first : (out : List ℕ) (p : ℕ) (f : ℕ → ℕ) (k x : ℕ) (a : Account) → p < length out → get_or (sets out p (row f k x a)) p 0 ≡ k
row_first out p f k x a h = get_d_first out (x ∷ a.gap ∷ number a.reason ∷ other_by f a.reason ∷ depth a.reason ∷ []) p k h

-- Past the line's end there is no piece.

pub no_rows : (t : Rows) (ks : List ℕ) (k n : ℕ) (st : State) (b : Before) (i e : ℕ) → e ≤ i → rows_from t ks k n st b i e ≡ []
unfolding rows_from
no_rows t ks k zero st b i e h = refl
no_rows t ks k (suc n) st b i e h = rw (le-ltb i e h)

pub no_pieces : (t : Rows) (n i e : ℕ) → e ≤ i → pieces_from t n i e ≡ 0
unfolding pieces_from
no_pieces t zero i e h = refl
no_pieces t (suc n) i e h = rw (le-ltb i e h)

pub none-ended : (t : Rows) (n i e : ℕ) → e ≤ i → ended_from t n i e ≡ 0
unfolding ended_from
none-ended t zero i e h = refl
none-ended t (suc n) i e h = rw (le-ltb i e h)

-- No more pieces than characters, and no more elements.

pub pieces-few : (t : Rows) (n i e : ℕ) → pieces_from t n i e ≤ n
unfolding pieces_from
pieces-few t zero i e = zero-le
pieces-few t (suc n) i e = go (ltb i e) (pieces-few t n (i + (cell_at t i).bases) e)
  where
    go : (p : Bool) {z : ℕ} → z ≤ n → cond p (suc z) 0 ≤ suc n
    go true h = omega arith
    go false h = zero-le

ended-one : (t : Rows) (i e : ℕ) → ended t i e ≤ 1
ended-one t i e = go (cell_at t i).more (leb (i + (cell_at t i).bases) e)
  where
    go : (m p : Bool) → cond m 0 (cond p 1 0) ≤ 1
    go true p = zero-le
    go false true = omega arith
    go false false = zero-le

pub ended-few : (t : Rows) (n i e : ℕ) → ended_from t n i e ≤ n
unfolding ended_from
ended-few t zero i e = zero-le
ended-few t (suc n) i e = go (ltb i e) (ended-one t i e) (ended-few t n (i + (cell_at t i).bases) e)
  where
    go : (p : Bool) {y z : ℕ} → y ≤ 1 → z ≤ n → cond p (y + z) 0 ≤ suc n
    go true g h = omega arith
    go false g h = zero-le

-- Before the piece from i, number j of the line and of element k, the line so far in the state st; ks has the elements' indexes of the pieces before it.
pub record Along (t : Rows) (s e : ℕ) (from : Place) (was : List ℕ) (i : ℕ) (st : State) (b : Before) (j k : ℕ) (out : List ℕ) : Type 0 where
  pub fuel : ℕ
  pub enough : e ≤ i + fuel
  pub near : furthest st ≤ 524288 * i
  pub many : s + j ≤ i
  pub index : k ≤ from.k + j
  pub behind : Behind j b
  pub ks : List ℕ
  pub count : length ks ≡ j
  pub told : (m : ℕ) → m < j → index_at out from.q m ≡ get_or ks m 0
  pub rows : sets out (6 * (from.q + j)) (rows_from t ks k fuel st b i e) ≡ sets was (6 * from.q) (line_rows t from.k s e)
  pub pieces : j + pieces_from t fuel i e ≡ pieces_in t s e
  pub ends : k + ended_from t fuel i e ≡ from.k + ended_in t s e
  pub long : length out ≡ length was

module _ {t : Rows} {s e : ℕ} {from : Place} {was : List ℕ} (ready : LineReady t s e from was) where
  pub along-first : Along t s e from was s start nothing 0 from.k was
  along-first =
      record {
        fuel = e - s;
        enough = omega arith;
        near = zero-le;
        many = omega arith;
        index = omega arith;
        behind = behind-none;
        ks = [];
        count = refl;
        told = λ m h. absurd (omega arith);
        rows = ap (λ z. sets was (6 * z) (line_rows t from.k s e)) (add-zero from.q);
        pieces = omega arith;
        ends = refl;
        long = refl;
      }

  module _ {i : ℕ} {st : State} {b : Before} {j k : ℕ} {out : List ℕ} (q : Along t s e from was i st b j k out) where
    pub few-told : (j ≤ 1024) × (k ≤ 2048) × (from.q ≤ 1024)
    few-told =
        let m = ready.sound.few in
        let l : j ≤ 1024 = omega (arith, q.pieces, pieces-few t (e - s) s e, ready.within) in
        (l, omega (arith, q.index, ready.index, ready.ahead, ready.within), omega (arith, ready.few, ready.ahead, ready.within))

    -- all is told, and where the walk stands
    pub told-all : e ≤ i → out ≡ sets was (6 * from.q) (line_rows t from.k s e)
    told-all h = ap (sets out (6 * (from.q + j))) (sym (no_rows t q.ks k q.fuel st b i e h)) ∙ q.rows

    pub at-end : e ≤ i → record { k = k; q = from.q + j } ≡ behind t s e from
    at-end h = same (omega (arith, q.ends, none-ended t q.fuel i e h)) (omega (arith, q.pieces, no_pieces t q.fuel i e h))
      where
        same : {a b c d : ℕ} → a ≡ b → c ≡ d → ◌≡◌ {A = Place} (record { k = a; q = c }) (record { k = b; q = d })
        same p r = cc

    module _ (h : i < e) where
      abbrev c : ℕ
      c = stop t i e

      abbrev r : Told
      r = told_at t i (stop t i e) st j b

      pub in_table : i < ready.n
      in_table = omega (arith, ready.within)

      ahead : (i < stop t i e) × (stop t i e ≤ i + (cell_at t i).bases)
      ahead = let some = (ready.sound.row i in_table).some in (omega arith, omega arith)

      pub held : i < length t.rows
      held = omega (arith, in_table, ready.sound.long)

      pub few : (i < 1024) × (0 < (cell_at t i).bases) × ((cell_at t i).bases ≤ 32)
      few = let row = ready.sound.row i in_table in (omega (arith, in_table, ready.sound.few), row.some, row.few)

      pub can_advance : Advances t st i (stop t i e)
      can_advance = advances t ready.n ready.sound i (stop t i e) ahead.0 ahead.1 in_table st q.near

      near_next : furthest r.st ≤ 524288 * (i + (cell_at t i).bases)
      near_next = next-near t ready.n ready.sound st i c ahead.0 ahead.1 in_table q.near

      -- the numbers of its row are small, and have their places
      pub small : (j ≤ 1024) × (k ≤ 1024) × (from.q ≤ 1024) × (6 * (from.q + j) + 6 ≤ length out)
      small = (
        omega (arith, q.many, few.0),
        omega (arith, q.index, ready.index, q.many, few.0),
        omega (arith, ready.few, q.many, few.0),
        omega (arith, ready.few, q.many, in_table, ready.room, q.long),
      )

      earlier : Earlier j r.account.reason
      earlier = reason-behind j b (piece t i c) (origin st (piece t i c)) q.behind

      pub row-ready : RowReady r.account from.q j r.start out
      row-ready =
          record { gap = omega (arith, distant); near = omega (arith, distant); begun = small.2; few = small.0; room = small.3; earlier = earlier }
        where
          distant : r.start ≤ 553648128
          distant = omega (arith, near_next, few.0, few.2)

      abbrev this : List ℕ
      this = row (index_at out from.q) k r.start r.account

      -- one row more
      along_one : Along t s e from was (i + (cell_at t i).bases) r.st r.before (j + 1) (k + ended t i e) (sets out (6 * (from.q + j)) this)
      unfolding rows_from pieces_from ended_from
      along_one = go q.fuel q.enough q.rows q.pieces q.ends
        where
          ks2 : List ℕ
          ks2 = q.ks ++ (k ∷ [])

          room : 6 * (from.q + j) < length out
          room = omega (arith, small.3)

          told : (m : ℕ) → m < j + 1 → index_at (sets out (6 * (from.q + j)) this) from.q m ≡ get_or ks2 m 0
          told m l =
              elim (dec_lt m j) [
                | yes g ↦
                    get_d_before out this (6 * (from.q + j)) (6 * (from.q + m)) (omega arith) ∙ q.told m g
                    ∙ sym (get_or-append q.ks (k ∷ []) 0 m (omega (arith, q.count)))
                | no g ↦ here (same g)
              ]
            where
              same : (m < j → ⊥) → m ≡ j
              same g = omega arith

              last : (xs : List ℕ) → get_or (xs ++ (k ∷ [])) (length xs) 0 ≡ k
              last [] = refl
              last (x ∷ xs) = last xs

              here : m ≡ j → index_at (sets out (6 * (from.q + j)) this) from.q m ≡ get_or ks2 m 0
              here g =
                  ap (λ z. index_at (sets out (6 * (from.q + j)) this) from.q z) g
                  ∙ row_first out (6 * (from.q + j)) (index_at out from.q) k r.start r.account room
                  ∙ sym (ap (λ (z : ℕ). get_or ks2 z 0) (g ∙ sym q.count) ∙ last q.ks)

          -- the row by the list is the row by the indexes
          this-is : this ≡ row (λ m. get_or q.ks m 0) k r.start r.account
          this-is = row_by (index_at out from.q) (λ m. get_or q.ks m 0) j k r.start r.account earlier q.told

          go : (m : ℕ) → e ≤ i + m → sets out (6 * (from.q + j)) (rows_from t q.ks k m st b i e) ≡ sets was (6 * from.q) (line_rows t from.k s e) →
              j + pieces_from t m i e ≡ pieces_in t s e → k + ended_from t m i e ≡ from.k + ended_in t s e →
              Along t s e from was (i + (cell_at t i).bases) r.st r.before (j + 1) (k + ended t i e) (sets out (6 * (from.q + j)) this)
          go zero room u v w = absurd (omega arith)
          go (suc m) room u v w =
              record {
                fuel = m;
                enough = omega (arith, few.1);
                near = near_next;
                many = omega (arith, q.many, few.1);
                index = omega (arith, q.index, ended-one t i e);
                behind = behind-next j b (piece t i c) (origin st (piece t i c)) q.behind;
                ks = q.ks ++ (k ∷ []);
                count = omega (arith, length-append q.ks (k ∷ []), q.count);
                told = told;
                rows =
                    ap (λ z. sets (sets out (6 * (from.q + j)) this) z rest) (place from.q j)
                    ∙ sym (sets_append out this rest (6 * (from.q + j)))
                    ∙ ap (λ z. sets out (6 * (from.q + j)) (z ++ rest)) this-is
                    ∙ ap (λ (z : ℕ). sets out (6 * (from.q + j)) (row_of z ++ rest_of z)) (sym q.count)
                    ∙ ap (λ p. sets out (6 * (from.q + j)) (cond p (row_of (length q.ks) ++ rest_of (length q.ks)) [])) (sym (lt-ltb i e h))
                    ∙ u;
                pieces = omega (arith, v, pieces_are);
                ends = omega (arith, w, ended_are);
                long = length-sets out (6 * (from.q + j)) this ∙ q.long;
              }
            where
              -- by the number of the piece
              row_of : ℕ → List ℕ
              row_of z = let r = told_at t i (stop t i e) st z b in row (λ m. get_or q.ks m 0) k r.start r.account

              rest_of : ℕ → List ℕ
              rest_of z =
                  let r = told_at t i (stop t i e) st z b in
                  rows_from t (q.ks ++ (k ∷ [])) (k + ended t i e) m r.st r.before (i + (cell_at t i).bases) e

              rest : List ℕ
              rest = rows_from t (q.ks ++ (k ∷ [])) (k + ended t i e) m r.st r.before (i + (cell_at t i).bases) e

              place : (q j : ℕ) → 6 * (q + (j + 1)) ≡ 6 * (q + j) + 6
              place q j = omega arith

              pieces_are : pieces_from t (suc m) i e ≡ suc (pieces_from t m (i + (cell_at t i).bases) e)
              pieces_are = rw (lt-ltb i e h)

              ended_are : ended_from t (suc m) i e ≡ ended t i e + ended_from t m (i + (cell_at t i).bases) e
              ended_are = rw (lt-ltb i e h)

      pub along-next : {end : ℕ} {told : Told} {next : ℕ} {out2 : List ℕ} → end ≡ i + (cell_at t i).bases → told ≡ r → next ≡ k + ended t i e →
          out2 ≡ sets out (6 * (from.q + j)) (row (index_at out from.q) k told.start told.account) →
          Along t s e from was end told.st told.before (j + 1) next out2
      along-next {end} {told} {next} {out2} u v x w =
          subst (λ o. Along t s e from was end told.st told.before (j + 1) next o) (sym w)
          (subst (λ z. Along t s e from was end told.st told.before (j + 1) z (written told)) (sym x)
          (subst (λ z. Along t s e from was z told.st told.before (j + 1) (k + ended t i e) (written told)) (sym u)
          (subst (λ (z : Told). Along t s e from was (i + (cell_at t i).bases) z.st z.before (j + 1) (k + ended t i e) (written z)) (sym v) along_one)))
        where
          written : Told → List ℕ
          written z = sets out (6 * (from.q + j)) (row (index_at out from.q) k z.start z.account)
