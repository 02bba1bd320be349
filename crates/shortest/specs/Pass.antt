-- The pass over the pieces of a line that takes the least extent: what is known at a piece, and what its breaks add.
use Rattle.std.specs.Prelude.{◌≡◌, refl, Bool, true, false, cond, ◌||◌, ℕ, suc, ◌+◌, ◌-◌, ◌*◌, ◌≤◌, ◌<◌, min, eqb, length}
use Rattle.std.proofs.Math.Path.{sym, ap, subst}
use Rattle.std.proofs.Common.{◌∙◌, zero-le, arith, eq-eqb}
use Rattle.line.specs.declared.State.{State}
use Rattle.line.specs.Setting.{start, furthest}
use Rattle.cells.specs.Rows.{Rows}
use Rattle.cells.specs.declared.Cell.{Cell}
use Rattle.cells.specs.Cells.{cell_at, piece, next, rest, state_at, may_end, Advances}
use Rattle.cells.specs.Sound.{Row, Sound, advances}
use Rattle.cells.specs.Walk.{stop-whole, stop-within, may_within, may_end_lem, step, next-near, rest-none}
use Rattle.shortest.specs.Shortest.{least_of, extent_at, needed_of, least-split, least-same, least_at, least-none, least-never, least_start}

-- the largest number of 32 bits, past every extent: what is held before the first break
abbrev pub largest : ℕ
largest = 4294967295

-- the extent of a line of the state st and of the piece from i up to c
abbrev pub extent_upto : Rows → State → ℕ → ℕ → ℕ
extent_upto t st i c = furthest (next st (piece t i c))

-- the least of d and the extents at the first k breaks within the element from i on: only a J has any
unfoldable pub inner_least : Rows → State → ℕ → ℕ → ℕ → ℕ
unfolding least_of
inner_least t st i d k = least_of (λ _. (cell_at t i).cut) (extent_upto t st i) d i k

-- the same up to the end of the piece at i, where the line has the state `then`
unfoldable pub behind : Rows → ℕ → ℕ → State → State → ℕ → ℕ
unfolding inner_least
behind t n i st then d =
    let a = cell_at t i in
    let r = inner_least t st i d (a.bases - 1) in
    cond (eqb (i + a.bases) n || a.ends) (min (furthest then) r) r

-- break by break
module _ (t : Rows) (st : State) (i d : ℕ) where
  pub inner-none : (k : ℕ) → k ≡ 0 → inner_least t st i d k ≡ d
  unfolding inner_least
  inner-none = least-none (λ _. (cell_at t i).cut) (extent_upto t st i) d i

  pub inner-next : (cell_at t i).cut ≡ true → (m k : ℕ) → m ≡ suc k → inner_least t st i d m ≡ min (extent_upto t st i (i + m)) (inner_least t st i d k)
  unfolding inner_least
  inner-next e m k l = least_at (λ _. (cell_at t i).cut) (extent_upto t st i) d i m k l ∙ rw e

  pub inner-whole : (cell_at t i).cut ≡ false → (k : ℕ) → inner_least t st i d k ≡ d
  unfolding inner_least
  inner-whole e k = ap (λ (x : Bool). least_of (λ _. x) (extent_upto t st i) d i k) e ∙ least-never (extent_upto t st i) d i k

-- a line of the state st stands before row i; a piece takes it on by 524,288 at most
pub record Stands (t : Rows) (n i : ℕ) (st : State) : Type 0 where
  pub sound : Sound t n
  pub inside : i < n
  pub near : furthest st ≤ 524288 * i

module _ {t : Rows} {n i : ℕ} {st : State} (h : Stands t n i st) where
  pub row : Row t n i
  row = h.sound.row i h.inside

  pub held : i < length t.rows
  held = omega (arith, h.inside, h.sound.long)

  pub goes : (c : ℕ) → i < c → c ≤ i + (cell_at t i).bases → Advances t st i c
  goes c l u = advances t n h.sound i c l u h.inside st h.near

-- the pass behind the pieces before row i: the line from s has the state st there, and the breaks from here on are held against d
pub record Passes (t : Rows) (n s i : ℕ) (st : State) (d : ℕ) : Type 0 where
  pub sound : Sound t n
  pub from : s ≤ i
  pub upto : i ≤ n
  pub near : furthest st ≤ 524288 * i
  pub state : (c : ℕ) → i < c → c ≤ n → state_at t s c ≡ rest t st i c
  pub here : s < i → state_at t s i ≡ st
  pub short : least_of (may_end t n) (extent_at t s) largest s (n - s) ≡ least_of (may_end t n) (extent_at t s) d i (n - i)

pub passes-first : {t : Rows} {n s : ℕ} → Sound t n → s < n → Passes t n s s start largest
passes-first sound h =
    record { sound = sound; from = omega arith; upto = omega arith; near = zero-le; state = λ c l u. refl; here = λ l. absurd (omega arith); short = refl }

module _ {t : Rows} {n s i : ℕ} {st : State} {d : ℕ} (q : Passes t n s i st d) where
  -- behind the last piece all breaks have been tried
  pub passes-end : s < n → n ≤ i → d ≡ needed_of t n s
  unfolding needed_of
  passes-end l h =
      sym (least-none (may_end t n) (extent_at t s) d i (n - i) (omega arith)) ∙ sym q.short
      ∙ go (n - s) (omega arith)
    where
      stands : state_at t s n ≡ st
      stands = subst (λ e. s < e → state_at t s e ≡ st) (omega (arith, q.upto)) q.here l

      near : extent_at t s n ≤ largest
      near = omega (arith, ap furthest stands, q.near, q.upto, q.sound.few)

      go : (m : ℕ) → s + m ≡ n → least_of (may_end t n) (extent_at t s) largest s m ≡ least_of (may_end t n) (extent_at t s) (extent_at t s n) s m
      go m e =
          least_start (may_end t n) (extent_at t s) largest s m (m - 1) (omega arith) (rw (eq-eqb (s + m) n e)) (subst (λ c. extent_at t s c ≤ largest) (sym e) near)
          ∙ ap (λ c. least_of (may_end t n) (extent_at t s) (extent_at t s c) s m) e

  module _ (h : i < n) where
    pub stands : Stands t n i st
    stands = record { sound = q.sound; inside = h; near = q.near }

    abbrev a : Cell
    a = cell_at t i

    abbrev b : ℕ
    b = i + (cell_at t i).bases

    r : Row t n i
    r = q.sound.row i h

    abbrev then : State
    then = next st (piece t i b)

    -- behind the piece, up to its end, and within it
    after : (c : ℕ) → b < c → c ≤ n → state_at t s c ≡ rest t then b c
    after c l u =
        q.state c (omega arith) u ∙ step t n q.sound st i c (omega arith) u
        ∙ ap (λ z. rest t (next st (piece t i z)) b c) (stop-whole t i c (omega arith))

    at-end : state_at t s b ≡ then
    at-end =
        q.state b (omega (arith, r.some)) r.inside ∙ step t n q.sound st i b (omega (arith, r.some)) r.inside
        ∙ ap (λ z. rest t (next st (piece t i z)) b b) (stop-whole t i b (omega arith)) ∙ rest-none t then b b (omega arith)

    inside : (c : ℕ) → i < c → c < b → state_at t s c ≡ next st (piece t i c)
    inside c l u =
        let v : c ≤ n = omega (arith, r.inside) in
        q.state c l v ∙ step t n q.sound st i c l v
        ∙ ap (λ z. rest t (next st (piece t i z)) b c) (stop-within t i c (omega arith)) ∙ rest-none t (next st (piece t i c)) b c (omega arith)

    -- the breaks of the piece: those within it
    inner : least_of (may_end t n) (extent_at t s) d i (a.bases - 1) ≡ inner_least t st i d (a.bases - 1)
    unfolding inner_least
    inner =
        least-same (may_end t n) (extent_at t s) d i (λ _. a.cut) (extent_upto t st i) (a.bases - 1)
        (λ c l u. let m : c < b = omega (arith, r.some) in (may_within t n q.sound i h c l m, ap furthest (inside c l m)))

    -- and all of them
    passed : least_of (may_end t n) (extent_at t s) d i a.bases ≡ behind t n i st then d
    unfolding behind
    passed =
        least_at (may_end t n) (extent_at t s) d i a.bases (a.bases - 1) (omega (arith, r.some))
        ∙ rw (inner, may_end_lem t n q.sound i h, at-end)

    -- the pass goes on behind it
    pub passes-next : Passes t n s b then (behind t n i st then d)
    passes-next =
        record {
          sound = q.sound;
          from = omega (arith, q.from);
          upto = r.inside;
          near = next-near t n q.sound st i b (omega (arith, r.some)) (omega arith) h q.near;
          state = after;
          here = λ _. at-end;
          short =
              q.short ∙ ap (least_of (may_end t n) (extent_at t s) d i) (split n i a.bases r.inside)
              ∙ least-split (may_end t n) (extent_at t s) d i a.bases (n - b)
              ∙ ap (λ z. least_of (may_end t n) (extent_at t s) z b (n - b)) passed;
        }
      where
        split : (n i b : ℕ) → i + b ≤ n → n - i ≡ b + (n - (i + b))
        split n i b h = omega arith

-- what is behind a piece, case by case
module _ (t : Rows) (n i : ℕ) (st then : State) (d r : ℕ) (e : r ≡ inner_least t st i d ((cell_at t i).bases - 1)) where
  pub behind_may : (eqb (i + (cell_at t i).bases) n || (cell_at t i).ends) ≡ true → min (furthest then) r ≡ behind t n i st then d
  unfolding behind
  behind_may h = rw (h, e)

  pub behind-not : (eqb (i + (cell_at t i).bases) n || (cell_at t i).ends) ≡ false → r ≡ behind t n i st then d
  unfolding behind
  behind-not h = rw (h, e)
