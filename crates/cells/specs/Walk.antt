-- Laws of rows and lines: the rows of an element, one piece more, and the last number that passes a test.
use Rattle.std.specs.Prelude.{◌≡◌, Bool, true, false, ◌||◌, eqb, ltb}
use Rattle.std.proofs.Math.Path.{refl, ap}
use Rattle.std.proofs.Common.{sym, ◌∙◌, subst, add-zero, lt-ltb, le-ltb, eq-eqb, ne_eqb}
use Rattle.std.proofs.Math.Bool.{cond}
use Prim.Native.Nat.{ℕ, zero, suc, ◌+◌, ◌-◌, ◌*◌, ◌≤◌, ◌<◌}
use native.Mathlib.Omega.{arith}
use Rattle.std.proofs.Math.Decide.{dec_lt}
use Rattle.line.specs.declared.State.{State}
use Rattle.line.specs.Setting.{furthest}
use Rattle.line.proofs.Bound.{put_bound}
use Rattle.line.proofs.Extent.{put-grows}
use Rattle.cells.specs.declared.Cell.{Cell}
use Rattle.cells.specs.Rows.{Rows}
use Rattle.cells.specs.Cells.{cell_at, piece, next, stop, walk, rest, may_end, last_of}
use Rattle.cells.specs.Sound.{Sound, piece-total}

-- where a piece ends: with its element, or before
pub stop-whole : (t : Rows) (i c : ℕ) → i + (cell_at t i).bases ≤ c → stop t i c ≡ i + (cell_at t i).bases
stop-whole t i c h = omega arith

pub stop-within : (t : Rows) (i c : ℕ) → c ≤ i + (cell_at t i).bases → stop t i c ≡ c
stop-within t i c h = omega arith

-- the j-th row behind a, in the same element
pub record Along (a : Cell) (j : ℕ) (b : Cell) : Type 0 where
  pub bases : a.bases ≡ b.bases + j
  pub cut : a.cut ≡ b.cut
  pub ends : a.ends ≡ b.ends

module _ (t : Rows) (n : ℕ) (sound : Sound t n) where
  pub along : (i : ℕ) → i < n → (j : ℕ) → j < (cell_at t i).bases → Along (cell_at t i) j (cell_at t (i + j))
  along i h zero l = subst (λ (k : ℕ). Along (cell_at t i) 0 (cell_at t k)) (sym (add-zero i)) (record { bases = omega arith; cut = refl; ends = refl })
  along i h (suc j) l =
      let before = along i h j (omega arith) in
      let row = sound.row (i + j) (omega (arith, (sound.row i h).inside)) in
      let f = row.follows (omega (arith, before.bases)) in
      subst (λ (k : ℕ). Along (cell_at t i) (suc j) (cell_at t k)) (one i j)
      (record { bases = omega (arith, before.bases, f.bases); cut = before.cut ∙ f.cut; ends = before.ends ∙ f.ends })
    where
      one : (i j : ℕ) → i + j + 1 ≡ i + suc j
      one i j = omega arith

  module _ (i : ℕ) (h : i < n) where
    row_before : (c : ℕ) → i < c → c ≤ i + (cell_at t i).bases → Along (cell_at t i) (c - 1 - i) (cell_at t (c - 1))
    row_before c l u = subst (λ (k : ℕ). Along (cell_at t i) (c - 1 - i) (cell_at t k)) (back i c l) (along i h (c - 1 - i) (omega arith))
      where
        back : (i c : ℕ) → i < c → i + (c - 1 - i) ≡ c - 1
        back i c l = omega arith

    -- a line may end within an element that may be cut, and behind one that says so or is the last
    pub may_within : (c : ℕ) → i < c → c < i + (cell_at t i).bases → may_end t n c ≡ (cell_at t i).cut
    may_within c l u =
        let a = row_before c l (omega arith) in
        rw (ne_eqb c n (λ e. omega (arith, (sound.row i h).inside)), ne_eqb (cell_at t (c - 1)).bases 1 (λ e. omega (arith, a.bases))) (sym a.cut)

    pub may_end_lem : may_end t n (i + (cell_at t i).bases) ≡ (eqb (i + (cell_at t i).bases) n || (cell_at t i).ends)
    may_end_lem =
        let s = (sound.row i h).some in
        let a = row_before (i + (cell_at t i).bases) (omega arith) (omega arith) in
        rw (eq-eqb (cell_at t (i + (cell_at t i).bases - 1)).bases 1 (omega (arith, a.bases))) (ap (λ z. eqb (i + (cell_at t i).bases) n || z) (sym a.ends))

  enough : (k m : ℕ) (st : State) (i c : ℕ) → c ≤ n → c ≤ i + k → c ≤ i + m → walk t k st i c ≡ walk t m st i c
  unfolding walk
  enough zero zero st i c l h g = refl
  enough zero (suc m) st i c l h g = rw (le-ltb i c (omega arith))
  enough (suc k) zero st i c l h g = rw (le-ltb i c (omega arith))
  enough (suc k) (suc m) st i c l h g =
      go (dec_lt i c) (λ z. let s = (sound.row i (omega arith)).some in enough k m (next st (piece t i (stop t i c))) (i + (cell_at t i).bases) c l (omega arith) (omega arith))
    where
      go : Dec (i < c) → (i < c → walk t k (next st (piece t i (stop t i c))) (i + (cell_at t i).bases) c ≡ walk t m (next st (piece t i (stop t i c))) (i + (cell_at t i).bases) c) →
          walk t (suc k) st i c ≡ walk t (suc m) st i c
      go (no z) f = rw (le-ltb i c (omega arith))
      go (yes z) f = rw (lt-ltb i c z) (f z)

  -- one piece more
  pub step : (st : State) (i c : ℕ) → i < c → c ≤ n → rest t st i c ≡ rest t (next st (piece t i (stop t i c))) (i + (cell_at t i).bases) c
  unfolding walk
  step st i c h l =
      enough (c - i) (suc (c - i)) st i c l (omega arith) (omega arith)
      ∙ rw (lt-ltb i c h)
      (enough (c - i) (c - (i + (cell_at t i).bases)) (next st (piece t i (stop t i c))) (i + (cell_at t i).bases) c l (omega (arith, (sound.row i (omega arith)).some)) (omega arith))

  -- the line goes on from an element's end no further than its rows are many
  pub next-near : (st : State) (i c : ℕ) → i < c → c ≤ i + (cell_at t i).bases → i < n → furthest st ≤ 524288 * i → furthest (next st (piece t i c)) ≤ 524288 * (i + (cell_at t i).bases)
  next-near st i c l u h f = omega (arith, put_bound st (piece t i c), piece-total t n sound i c l u h)

-- no piece more
pub rest-none : (t : Rows) (st : State) (i c : ℕ) → c ≤ i → rest t st i c ≡ st
unfolding walk
rest-none t st i c h = rw (none i c h)
  where
    none : (i c : ℕ) → c ≤ i → c - i ≡ 0
    none i c h = omega arith

-- a longer line reaches at least as far
pub grows : (t : Rows) (k : ℕ) (st : State) (i c : ℕ) → furthest st ≤ furthest (walk t k st i c)
unfolding walk
grows t zero st i c = omega arith
grows t (suc k) st i c =
    let p = piece t i (stop t i c) in
    go (ltb i c) (walk t k (next st p) (i + (cell_at t i).bases) c) (grows t k (next st p) (i + (cell_at t i).bases) c)
  where
    go : (b : Bool) (z : State) → furthest (next st (piece t i (stop t i c))) ≤ furthest z → furthest st ≤ furthest (cond b z st)
    go true z h = omega (arith, put-grows st (piece t i (stop t i c)))
    go false z h = omega arith

-- The last number that passes a test.

module _ (p : ℕ → Bool) (d s : ℕ) where
  pub last-split : (j k : ℕ) → last_of p d s (j + k) ≡ last_of p (last_of p d s j) (s + j) k
  unfolding last_of
  last-split j zero = ap (last_of p d s) (add-zero j)
  last-split j (suc k) = ap (last_of p d s) (one j k) ∙ rw (last-split j k) (ap (λ (m : ℕ). cond (p m) m (last_of p (last_of p d s j) (s + j) k)) (move s j k))
    where
      one : (j k : ℕ) → j + suc k ≡ suc (j + k)
      one j k = omega arith

      move : (s j k : ℕ) → s + suc (j + k) ≡ s + j + suc k
      move s j k = omega arith

  pub last_none : (k : ℕ) → ((c : ℕ) → s < c → c ≤ s + k → p c ≡ false) → last_of p d s k ≡ d
  unfolding last_of
  last_none zero f = refl
  last_none (suc k) f = rw (f (s + suc k) (omega arith) (omega arith)) (last_none k (λ c l u. f c l (omega arith)))

  pub last-same : (q : ℕ → Bool) (k : ℕ) → ((c : ℕ) → s < c → c ≤ s + k → p c ≡ q c) → last_of p d s k ≡ last_of q d s k
  unfolding last_of
  last-same q zero f = refl
  last-same q (suc k) f = rw (f (s + suc k) (omega arith) (omega arith), last-same q k (λ c l u. f c l (omega arith)))

  -- by its upper end
  pub last-at : (c : ℕ) → s < c → last_of p d s (c - s) ≡ cond (p c) c (last_of p d s (c - 1 - s))
  unfolding last_of
  last-at c h = ap (last_of p d s) (one s c h) ∙ ap (λ (m : ℕ). cond (p m) m (last_of p d s (c - 1 - s))) (top s c h)
    where
      one : (s c : ℕ) → s < c → c - s ≡ suc (c - 1 - s)
      one s c h = omega arith

      top : (s c : ℕ) → s < c → s + suc (c - 1 - s) ≡ c
      top s c h = omega arith

  pub last-zero : (c : ℕ) → c ≤ s → last_of p d s (c - s) ≡ d
  unfolding last_of
  last-zero c h = ap (last_of p d s) (none s c h)
    where
      none : (s c : ℕ) → c ≤ s → c - s ≡ 0
      none s c h = omega arith
