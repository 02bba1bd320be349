-- The search for a line's end, piece by piece: what is known at a piece, and what its breaks add.
use Rattle.std.specs.Prelude.{◌≡◌, Bool, ◌&&◌, ◌||◌, leb, eqb, length}
use Rattle.std.proofs.Math.Path.{refl, sym, ap, subst}
use Rattle.std.proofs.Common.{◌∙◌, leb-false, eq-eqb, ne_eqb}
use Rattle.std.proofs.Math.Bool.{true, false, cond}
use Prim.Native.Nat.{ℕ, zero, suc, ◌+◌, ◌-◌, ◌*◌, ◌/◌, ◌≤◌, ◌<◌, min, zero-le}
use native.Mathlib.Omega.{arith}
use Rattle.std.proofs.Math.Decide.{dec_lt}
use Rattle.std.proofs.lemmas.Bool.{lt-leb}
use Rattle.line.specs.declared.State.{State}
use Rattle.line.specs.Setting.{start, furthest}
use Rattle.cells.specs.Rows.{Rows}
use Rattle.cells.specs.declared.Cell.{Cell}
use Rattle.cells.specs.Cells.{cell_at, piece, next, rest, state_at, may_end, holds, last_of, breaks, end_of, Advances}
use Rattle.cells.specs.Sound.{Row, Sound, advances}
use Rattle.cells.specs.Walk.{stop-whole, stop-within, may_within, may_end_lem, step, next-near, rest-none, grows, last-split, last_none, last-same, last-at}
use Rattle.filling.specs.declared.Break.{Break}

-- of the k numbers behind s the last that passes a test, with its extent, or d
unfoldable pub last_break : (ℕ → Bool) → (ℕ → ℕ) → Break → ℕ → ℕ → Break
last_break p f d s zero = d
last_break p f d s (suc k) = cond (p (s + suc k)) (record { at = s + suc k; extent = f (s + suc k) }) (last_break p f d s k)

-- the extent of a line of the state st and of the piece from i up to c
abbrev pub extent_upto : Rows → State → ℕ → ℕ → ℕ
extent_upto t st i c = furthest (next st (piece t i c))

abbrev pub fits_upto : ℕ → Rows → State → ℕ → ℕ → Bool
fits_upto limit t st i c = leb (extent_upto t st i c) limit

-- the furthest of the first k breaks within the J from i on
unfoldable pub inner_break : ℕ → Rows → State → ℕ → Break → ℕ → Break
unfolding last_break
inner_break limit t st i last k = last_break (fits_upto limit t st i) (extent_upto t st i) last i k

-- the furthest break up to the end of the piece at i, but for the job's end
unfoldable pub behind : ℕ → Rows → ℕ → State → Break → ℕ → Break
unfolding inner_break
behind limit t i st last extent =
    let a = cell_at t i in
    cond (leb extent limit && a.ends) (record { at = i + a.bases; extent = extent }) (cond a.cut (inner_break limit t st i last (a.bases - 1)) last)

-- a line's end and extent
unfoldable pub end_break : ℕ → Rows → ℕ → ℕ → Break
unfolding end_of
end_break limit t n s = let e = end_of limit t n s in record { at = e; extent = furthest (state_at t s e) }

-- how many characters of one em there is room for, of those before the last
abbrev pub most_of : ℕ → ℕ → ℕ → ℕ → ℕ
most_of bases end em limit = min ((limit - end) / (2 * em)) (bases - 1)

-- Breaks with extents are breaks.

module _ (p : ℕ → Bool) (f : ℕ → ℕ) (d : Break) (s : ℕ) where
  pub at_last : (k : ℕ) → (last_break p f d s k).at ≡ last_of p d.at s k
  unfolding last_break last_of
  at_last zero = refl
  at_last (suc k) = go (p (s + suc k)) (at_last k)
    where
      go : (b : Bool) → (last_break p f d s k).at ≡ last_of p d.at s k →
          (cond b (record { at = s + suc k; extent = f (s + suc k) }) (last_break p f d s k)).at ≡ cond b (s + suc k) (last_of p d.at s k)
      go true h = refl
      go false h = h

  -- where each extent is that of F
  pub extent-last : (F : ℕ → ℕ) → d.extent ≡ F d.at → (k : ℕ) → ((c : ℕ) → s < c → c ≤ s + k → f c ≡ F c) → (last_break p f d s k).extent ≡ F (last_break p f d s k).at
  unfolding last_break
  extent-last F e zero g = e
  extent-last F e (suc k) g = go (p (s + suc k)) (extent-last F e k (λ c l u. g c l (omega arith)))
    where
      go : (b : Bool) → (last_break p f d s k).extent ≡ F (last_break p f d s k).at →
          (cond b (record { at = s + suc k; extent = f (s + suc k) }) (last_break p f d s k)).extent ≡ F (cond b (record { at = s + suc k; extent = f (s + suc k) }) (last_break p f d s k)).at
      go true h = g (s + suc k) (omega arith) (omega arith)
      go false h = h

  pub break_none : (j k : ℕ) → j ≤ k → ((c : ℕ) → s + j < c → c ≤ s + k → p c ≡ false) → last_break p f d s k ≡ last_break p f d s j
  unfolding last_break
  break_none j zero h g = let e : 0 ≡ j = omega arith in ap (last_break p f d s) e
  break_none j (suc k) h g = go (dec_lt k j) (λ l. break_none j k l (λ c m u. g c m (omega arith)))
    where
      go : Dec (k < j) → (j ≤ k → last_break p f d s k ≡ last_break p f d s j) → last_break p f d s (suc k) ≡ last_break p f d s j
      go (yes l) b = let e : suc k ≡ j = omega arith in ap (last_break p f d s) e
      go (no l) b = rw (g (s + suc k) (omega arith) (omega arith)) (b (omega arith))

-- by its upper end
module _ (limit : ℕ) (t : Rows) (st : State) (i : ℕ) (last : Break) where
  pub inner-at : (k : ℕ) → 0 < k →
      inner_break limit t st i last k ≡ cond (fits_upto limit t st i (i + k)) (record { at = i + k; extent = extent_upto t st i (i + k) }) (inner_break limit t st i last (k - 1))
  unfolding inner_break last_break
  inner-at zero h = absurd (omega arith)
  inner-at (suc k) h = ap (λ m. cond (fits_upto limit t st i (i + suc k)) (record { at = i + suc k; extent = extent_upto t st i (i + suc k) }) (inner_break limit t st i last m)) (less k)
    where
      less : (k : ℕ) → k ≡ suc k - 1
      less k = omega arith

  pub inner-none : (k : ℕ) → k ≤ 0 → last ≡ inner_break limit t st i last k
  unfolding inner_break last_break
  inner-none zero h = refl
  inner-none (suc k) h = absurd (omega arith)

-- a line of the state st stands before row i; a piece takes it on by 524,288 at most
pub record Stands (t : Rows) (n i : ℕ) (st : State) : Type 0 where
  pub sound : Sound t n
  pub inside : i < n
  pub near : furthest st ≤ 524288 * i

module _ (t : Rows) (n i : ℕ) (st : State) (h : Stands t n i st) where
  pub row : Row t n i
  row = h.sound.row i h.inside

  pub held : i < length t.rows
  held = omega (arith, h.inside, h.sound.long)

  pub goes : (c : ℕ) → i < c → c ≤ i + (cell_at t i).bases → Advances t st i c
  goes c l u = advances t n h.sound i c l u h.inside st h.near

-- the search behind the pieces before row i: the line from s has the state st there, and `last` is the furthest break so far
pub record Seeks (limit : ℕ) (t : Rows) (n s i : ℕ) (st : State) (last : Break) : Type 0 where
  pub sound : Sound t n
  pub from : s ≤ i
  pub upto : i ≤ n
  pub near : furthest st ≤ 524288 * i
  pub state : (c : ℕ) → i < c → c ≤ n → state_at t s c ≡ rest t st i c
  pub here : s < i → state_at t s i ≡ st
  pub fits : s < i → leb (furthest st) limit ≡ true
  pub best : i < n → end_of limit t n s ≡ last_of (breaks limit t n s) last.at i (n - i)
  pub far : last.extent ≡ furthest (state_at t s last.at)

pub seeks_first : (limit : ℕ) (t : Rows) (n s : ℕ) → Sound t n → s < n → Seeks limit t n s s start (record { at = 0; extent = 0 })
unfolding end_of
seeks_first limit t n s sound h =
    record {
      sound = sound;
      from = omega arith;
      upto = omega arith;
      near = zero-le;
      state = λ c l u. refl;
      here = λ l. absurd (omega arith);
      fits = λ l. absurd (omega arith);
      best = λ l. refl;
      far = sym (ap furthest (rest-none t start s 0 zero-le));
    }

-- a break by its place and extent
same_break : (x : Break) (e f : ℕ) → x.at ≡ e → x.extent ≡ f → x ≡ record { at = e; extent = f }
same_break x e f p q = rw (← p, ← q)

module _ (limit : ℕ) (t : Rows) (n s i : ℕ) (st : State) (last : Break) (q : Seeks limit t n s i st last) where
  -- behind the last piece the line ends the job
  pub seeks_end : s < n → n ≤ i → record { at = n; extent = furthest st } ≡ end_break limit t n s
  unfolding end_break end_of
  seeks_end l h = sym (same_break (end_break limit t n s) n (furthest st) ended (ap (λ e. furthest (state_at t s e)) ended ∙ ap furthest stands))
    where
      stands : state_at t s n ≡ st
      stands = subst (λ e. s < e → state_at t s e ≡ st) (omega (arith, q.upto)) q.here l

      fits : leb (furthest (state_at t s n)) limit ≡ true
      fits = ap (λ z. leb (furthest z) limit) stands ∙ q.fits (omega arith)

      ended : end_of limit t n s ≡ n
      ended = last-at (breaks limit t n s) 0 s n l ∙ rw (eq-eqb n n refl, fits)

  module _ (h : i < n) where
    pub stands : Stands t n i st
    stands = record { sound = q.sound; inside = h; near = q.near }

    abbrev a : Cell
    a = cell_at t i

    abbrev b : ℕ
    b = i + (cell_at t i).bases

    r : Row t n i
    r = q.sound.row i h

    abbrev then : State
    then = next st (piece t i b)

    abbrev fit : Bool
    fit = leb (furthest then) limit

    -- behind the piece, up to its end, and within it
    after : (c : ℕ) → b < c → c ≤ n → state_at t s c ≡ rest t then b c
    after c l u =
        q.state c (omega arith) u ∙ step t n q.sound st i c (omega arith) u
        ∙ ap (λ z. rest t (next st (piece t i z)) b c) (stop-whole t i c (omega arith))

    at-end : state_at t s b ≡ then
    at-end =
        q.state b (omega (arith, r.some)) r.inside ∙ step t n q.sound st i b (omega (arith, r.some)) r.inside
        ∙ ap (λ z. rest t (next st (piece t i z)) b b) (stop-whole t i b (omega arith)) ∙ rest-none t then b b (omega arith)

    inside : (c : ℕ) → i < c → c < b → state_at t s c ≡ next st (piece t i c)
    inside c l u =
        let v : c ≤ n = omega (arith, r.inside) in
        q.state c l v ∙ step t n q.sound st i c l v
        ∙ ap (λ z. rest t (next st (piece t i z)) b c) (stop-within t i c (omega arith)) ∙ rest-none t (next st (piece t i c)) b c (omega arith)

    -- the breaks of the piece
    breaks-end : breaks limit t n s b ≡ ((eqb b n || a.ends) && fit)
    breaks-end = rw (may_end_lem t n q.sound i h, at-end)

    breaks-within : a.cut ≡ true → (c : ℕ) → i < c → c < b → breaks limit t n s c ≡ fits_upto limit t st i c
    breaks-within j c l u = rw (may_within t n q.sound i h c l u, j, inside c l u)

    breaks-none : a.cut ≡ false → (c : ℕ) → i < c → c < b → breaks limit t n s c ≡ false
    breaks-none j c l u = rw (may_within t n q.sound i h c l u, j)

    inner : last_of (breaks limit t n s) last.at i (a.bases - 1) ≡ (cond a.cut (inner_break limit t st i last (a.bases - 1)) last).at
    unfolding inner_break
    inner = go a.cut refl
      where
        go : (b : Bool) → a.cut ≡ b → last_of (breaks limit t n s) last.at i (a.bases - 1) ≡ (cond b (inner_break limit t st i last (a.bases - 1)) last).at
        go true e =
            last-same (breaks limit t n s) last.at i (fits_upto limit t st i) (a.bases - 1) (λ c l u. breaks-within e c l (omega (arith, r.some)))
            ∙ sym (at_last (fits_upto limit t st i) (extent_upto t st i) last i (a.bases - 1))
        go false e = last_none (breaks limit t n s) last.at i (a.bases - 1) (λ c l u. breaks-none e c l (omega (arith, r.some)))

    passed : breaks limit t n s b ≡ (fit && a.ends) → last_of (breaks limit t n s) last.at i a.bases ≡ (behind limit t i st last (furthest then)).at
    unfolding behind last_of
    passed g = go (a.bases - 1) a.bases (omega (arith, r.some)) inner g ∙ choice (fit && a.ends)
      where
        rest_of : Break
        rest_of = cond a.cut (inner_break limit t st i last (a.bases - 1)) last

        go : (k m : ℕ) → m ≡ suc k → last_of (breaks limit t n s) last.at i k ≡ rest_of.at → breaks limit t n s (i + m) ≡ (fit && a.ends) →
            last_of (breaks limit t n s) last.at i m ≡ cond (fit && a.ends) (i + m) rest_of.at
        go k m e f g =
            let g2 : breaks limit t n s (i + suc k) ≡ (fit && a.ends) = subst (λ (z : ℕ). breaks limit t n s (i + z) ≡ (fit && a.ends)) e g in
            rw (e, g2, f)

        choice : (x : Bool) → cond x b rest_of.at ≡ (cond x (record { at = b; extent = furthest then }) rest_of).at
        choice true = refl
        choice false = refl

    far-behind : (behind limit t i st last (furthest then)).extent ≡ furthest (state_at t s (behind limit t i st last (furthest then)).at)
    unfolding behind inner_break
    far-behind = go (fit && a.ends) a.cut
      where
        go : (x y : Bool) →
            let z = cond x (record { at = b; extent = furthest then }) (cond y (inner_break limit t st i last (a.bases - 1)) last) in
            z.extent ≡ furthest (state_at t s z.at)
        go true y = ap furthest (sym at-end)
        go false true =
            extent-last (fits_upto limit t st i) (extent_upto t st i) last i (λ c. furthest (state_at t s c)) q.far (a.bases - 1)
            (λ c l u. ap furthest (sym (inside c l (omega (arith, r.some)))))
        go false false = q.far

    best-behind : breaks limit t n s b ≡ (fit && a.ends) →
        end_of limit t n s ≡ last_of (breaks limit t n s) (behind limit t i st last (furthest then)).at b (n - b)
    best-behind g =
        q.best h ∙ ap (last_of (breaks limit t n s) last.at i) (split n i a.bases r.inside)
        ∙ last-split (breaks limit t n s) last.at i a.bases (n - b)
        ∙ ap (λ d. last_of (breaks limit t n s) d b (n - b)) (passed g)
      where
        split : (n i b : ℕ) → i + b ≤ n → n - i ≡ b + (n - (i + b))
        split n i b h = omega arith

    -- the search goes on behind it
    pub seeks_next : fit ≡ true → Seeks limit t n s b then (behind limit t i st last (furthest then))
    seeks_next f =
        record {
          sound = q.sound;
          from = omega (arith, q.from);
          upto = r.inside;
          near = next-near t n q.sound st i b (omega (arith, r.some)) (omega arith) h q.near;
          state = after;
          here = λ _. at-end;
          fits = λ _. f;
          best = λ l. best-behind (breaks-end ∙ rw (ne_eqb b n (λ e. omega arith)) (flip a.ends fit));
          far = far-behind;
        }
      where
        flip : (x y : Bool) → (x && y) ≡ (y && x)
        flip true true = refl
        flip true false = refl
        flip false true = refl
        flip false false = refl

    -- or stops: no longer line can be set
    pub stops : fit ≡ false → behind limit t i st last (furthest then) ≡ end_break limit t n s
    unfolding end_break
    stops e = same_break (behind limit t i st last (furthest then)) _ _ ended (far-behind ∙ ap (λ c. furthest (state_at t s c)) ended)
      where
        no_and : (x y : Bool) → y ≡ false → (x && y) ≡ false
        no_and true y e = e
        no_and false y e = refl

        too_long : (c : ℕ) → b < c → c ≤ n → holds limit t s c ≡ false
        too_long c l u =
            ap (λ z. leb (furthest z) limit) (after c l u)
            ∙ lt-leb _ limit (omega (arith, leb-false (furthest then) limit e, grows t (c - b) then b c))

        none : (c : ℕ) → b < c → c ≤ b + (n - b) → breaks limit t n s c ≡ false
        none c l u = no_and (may_end t n c) (holds limit t s c) (too_long c l (omega (arith, r.inside)))

        ended : (behind limit t i st last (furthest then)).at ≡ end_of limit t n s
        ended =
            sym (best-behind (breaks-end ∙ no_and (eqb b n || a.ends) fit e ∙ sym (ap (λ z. z && a.ends) e))
            ∙ last_none (breaks limit t n s) (behind limit t i st last (furthest then)).at b (n - b) none)

-- what is behind a piece, case by case
module _ (limit : ℕ) (t : Rows) (i : ℕ) (st : State) (last : Break) (extent : ℕ) where
  pub behind-ends : leb extent limit ≡ true → (cell_at t i).ends ≡ true → record { at = i + (cell_at t i).bases; extent = extent } ≡ behind limit t i st last extent
  unfolding behind
  behind-ends e f = rw (e, f)

  pub behind-cut : (leb extent limit && (cell_at t i).ends) ≡ false → (cell_at t i).cut ≡ true → inner_break limit t st i last ((cell_at t i).bases - 1) ≡ behind limit t i st last extent
  unfolding behind
  behind-cut e f = rw (e, f)

  pub behind-last : (leb extent limit && (cell_at t i).ends) ≡ false → (cell_at t i).cut ≡ false → last ≡ behind limit t i st last extent
  unfolding behind
  behind-last e f = rw (e, f)

  pub behind-whole : leb extent limit ≡ true → (cell_at t i).cut ≡ false →
      cond (cell_at t i).ends (record { at = i + (cell_at t i).bases; extent = extent }) last ≡ behind limit t i st last extent
  unfolding behind
  behind-whole e f = rw (e, f)

  pub behind-none : leb extent limit ≡ false → (cell_at t i).cut ≡ false → last ≡ behind limit t i st last extent
  unfolding behind
  behind-none e f = rw (e, f)
