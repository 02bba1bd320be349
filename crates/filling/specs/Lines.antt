-- The lines so far, and those from here on: they fill the job, or are stuck.
use Rattle.std.specs.Prelude.{◌≡◌, Bool, true, false, cond, eqb, length, drop, Result, Ok, Err}
use Rattle.std.proofs.Math.Path.{refl, sym, ap}
use Rattle.std.proofs.Common.{◌∙◌, eq-eqb, ne_eqb}
use mathlib.Core.List.{List, [], ◌∷◌, ◌++◌, append-nil, append_assoc}
use Prim.Native.Nat.{ℕ, zero, suc, ◌+◌, ◌-◌, ◌≤◌, ◌<◌, zero-le}
use native.Mathlib.Omega.{arith}
use Rattle.std.proofs.Math.ListN.{set, length-append}
use Rattle.basics.specs.Lists.{last_or}
use Rattle.refusal.specs.declared.Refusal.{Refusal}
use Rattle.refusal.specs.declared.Refusal.TheVariants.{NoBreak}
use Rattle.line.specs.Setting.{furthest}
use Rattle.cells.specs.Rows.{Rows}
use Rattle.cells.specs.Cells.{state_at, last_of, breaks, end_of, ends_from, lines_of}
use Rattle.cells.specs.Sound.{Sound}

-- a list written over the front of another
abbrev pub over : List ℕ → List ℕ → List ℕ
over new was = new ++ drop (length new) was

-- lines that end at n fill the job; others are stuck where the last one ends
abbrev pub told_of : ℕ → List ℕ → Result ℕ Refusal
told_of n es = let z = last_or 0 es in cond (eqb z n) (Ok (length es)) (Err (NoBreak z))

-- the extents of lines that end at es, the first from s on
abbrev pub extents_of : Rows → ℕ → List ℕ → List ℕ
extents_of t s [] = []
extents_of t s (e ∷ es) = furthest (state_at t s e) ∷ extents_of t e es

pub length-extents : (t : Rows) (s : ℕ) (es : List ℕ) → length (extents_of t s es) ≡ length es
length-extents t s [] = refl
length-extents t s (e ∷ es) = ap suc (length-extents t e es)

extents_snoc : (t : Rows) (s : ℕ) (es : List ℕ) (e : ℕ) → extents_of t s (es ++ (e ∷ [])) ≡ extents_of t s es ++ (furthest (state_at t (last_or s es) e) ∷ [])
extents_snoc t s [] e = refl
extents_snoc t s (d ∷ es) e = ap (λ (l : List ℕ). furthest (state_at t s d) ∷ l) (extents_snoc t d es e)

set-over : (done was : List ℕ) (e : ℕ) → length done < length was → set (over done was) (length done) e ≡ over (done ++ (e ∷ [])) was
set-over [] [] e h = absurd (omega arith)
set-over [] (w ∷ ws) e h = refl
set-over (d ∷ ds) [] e h = absurd (omega arith)
set-over (d ∷ ds) (w ∷ ws) e h = ap (λ (l : List ℕ). d ∷ l) (set-over ds ws e (omega arith))

length_over : (done was : List ℕ) → length done ≤ length was → length (over done was) ≡ length was
length_over [] was h = refl
length_over (d ∷ ds) [] h = absurd (omega arith)
length_over (d ∷ ds) (w ∷ ws) h = ap suc (length_over ds ws (omega arith))

last_snoc : (d : ℕ) (xs : List ℕ) (e : ℕ) → last_or d (xs ++ (e ∷ [])) ≡ e
last_snoc d [] e = refl
last_snoc d (x ∷ xs) e = last_snoc x xs e

-- a line's end lies behind its start
last_in : (p : ℕ → Bool) (s k : ℕ) → (last_of p 0 s k ≡ 0 → ⊥) → (s < last_of p 0 s k) × (last_of p 0 s k ≤ s + k)
unfolding last_of
last_in p s zero h = absurd (h refl)
last_in p s (suc k) h = go (p (s + suc k)) (last_of p 0 s k) (last_in p s k) h
  where
    go : (b : Bool) (z : ℕ) → ((z ≡ 0 → ⊥) → (s < z) × (z ≤ s + k)) → (cond b (s + suc k) z ≡ 0 → ⊥) → (s < cond b (s + suc k) z) × (cond b (s + suc k) z ≤ s + suc k)
    go true z f h = (omega arith, omega arith)
    go false z f h = let q = f h in (q.0, omega (arith, q.1))

-- k lines are found, up to s
pub record Sofar (limit : ℕ) (t : Rows) (n : ℕ) (was table wasFar far : List ℕ) (s k : ℕ) : Type 0 where
  pub sound : Sound t n
  pub room : n ≤ length was
  pub room_far : n ≤ length wasFar
  pub done : List ℕ
  pub fuel : ℕ
  pub written : table ≡ over done was
  pub told : far ≡ over (extents_of t 0 done) wasFar
  pub many : length done ≡ k
  pub last : last_or 0 done ≡ s
  pub all : lines_of limit t n ≡ done ++ ends_from limit t n fuel s
  pub enough : n ≤ s + fuel
  pub few : k ≤ s
  pub upto : s ≤ n

pub sofar-first : (limit : ℕ) (t : Rows) (n : ℕ) (was wasFar : List ℕ) → Sound t n → n ≤ length was → n ≤ length wasFar → Sofar limit t n was was wasFar wasFar 0 0
unfolding lines_of
sofar-first limit t n was wasFar sound room far =
    record { sound = sound; room = room; room_far = far; done = []; fuel = n; written = refl; told = refl; many = refl; last = refl; all = refl; enough = omega arith; few = zero-le; upto = zero-le }

module _ (limit : ℕ) (t : Rows) (n : ℕ) (was table wasFar far : List ℕ) (s k : ℕ) (q : Sofar limit t n was table wasFar far s k) where
  pub long : length table ≡ length was
  long = ap length q.written ∙ length_over q.done was (omega (arith, q.many, q.few, q.upto, q.room))

  pub long-far : length far ≡ length wasFar
  long-far =
      let e = length-extents t 0 q.done in
      ap length q.told ∙ length_over (extents_of t 0 q.done) wasFar (omega (arith, e, q.many, q.few, q.upto, q.room_far))

  -- no line more
  ended : end_of limit t n s ≡ 0 → lines_of limit t n ≡ q.done
  unfolding ends_from
  ended e = q.all ∙ ap (λ (l : List ℕ). q.done ++ l) (none q.fuel) ∙ append-nil q.done
    where
      none : (f : ℕ) → ends_from limit t n f s ≡ []
      none zero = refl
      none (suc f) = rw (eq-eqb (end_of limit t n s) 0 e)

  pub stuck : s < n → end_of limit t n s ≡ 0 → (Err (NoBreak s) ≡ told_of n (lines_of limit t n)) × (table ≡ over (lines_of limit t n) was) × (far ≡ over (extents_of t 0 (lines_of limit t n)) wasFar)
  stuck h e = rw (ended e, q.last, ne_eqb s n (λ z. omega arith)) (refl, q.written, q.told)

  at-end : n ≤ s → end_of limit t n s ≡ 0
  unfolding end_of last_of
  at-end h = ap (last_of (breaks limit t n s) 0 s) (none n s h)
    where
      none : (n s : ℕ) → n ≤ s → n - s ≡ 0
      none n s h = omega arith

  pub full : n ≤ s → (Ok k ≡ told_of n (lines_of limit t n)) × (table ≡ over (lines_of limit t n) was) × (far ≡ over (extents_of t 0 (lines_of limit t n)) wasFar)
  full h = (rw (ended (at-end h), q.last, eq-eqb s n (omega (arith, q.upto)), q.many), rw (ended (at-end h)) q.written, rw (ended (at-end h)) q.told)

  module _ (h : s < n) (e : ℕ) (is : e ≡ end_of limit t n s) (some : e ≡ 0 → ⊥) where
    pub further : (s < e) × (e ≤ n)
    unfolding end_of
    further =
        let r = last_in (breaks limit t n s) s (n - s) (λ z. some (is ∙ z)) in
        (omega (arith, r.0), omega (arith, r.1))

    pub sofar-next : Sofar limit t n was (set table k e) wasFar (set far k (furthest (state_at t s e))) e (k + 1)
    unfolding ends_from
    sofar-next =
        record {
          sound = q.sound;
          room = q.room;
          room_far = q.room_far;
          done = q.done ++ (e ∷ []);
          fuel = q.fuel - 1;
          written = rw (q.written, ← q.many) (set-over q.done was e (omega (arith, q.many, q.few, q.upto, q.room)));
          told = told;
          many = simp length-append (omega (arith, q.many));
          last = last_snoc 0 q.done e;
          all = q.all ∙ ap (λ (l : List ℕ). q.done ++ l) (one q.fuel (q.fuel - 1) (omega (arith, q.enough))) ∙ sym (append_assoc q.done (e ∷ []) (ends_from limit t n (q.fuel - 1) e));
          enough = omega (arith, q.enough, further.0);
          few = omega (arith, q.few, further.0);
          upto = further.1;
        }
      where
        told : set far k (furthest (state_at t s e)) ≡ over (extents_of t 0 (q.done ++ (e ∷ []))) wasFar
        told =
            let m = length-extents t 0 q.done in
            rw (q.told, extents_snoc t 0 q.done e, q.last, sym (m ∙ q.many))
            (set-over (extents_of t 0 q.done) wasFar (furthest (state_at t s e)) (omega (arith, m, q.many, q.few, q.upto, q.room_far)))

        one : (f g : ℕ) → f ≡ suc g → ends_from limit t n f s ≡ e ∷ ends_from limit t n g e
        one f g z = rw (z, ← is, ne_eqb e 0 some)
