-- Why what follows moves as one (`Exchange` has the theorem). A state that is moved on moves on all that follows it. An element with a reading decides alone what
-- follows it: no ruby from before it reaches past it on either side. The element after one without any decides so too, since ruby from before reaches no further
-- than the one without. (That is, they leave states that ask the same, `Same`.) So whatever stands before them, from the second on the same elements stand alike.
use Rattle.std.specs.Prelude.{◌≡◌, refl, Bool, true, false, cond, List, [], ◌∷◌, ◌⊎◌, ℕ, zero, suc, ◌+◌, ◌-◌, ◌≤◌, ◌<◌, max, length, T}
use Rattle.std.proofs.Common.{sym, ap, ◌∙◌, inl, inr, ⊎_elim, arith, le_antisymm, add_comm}
use Rattle.line.specs.declared.Element.{Element}
use Rattle.line.specs.declared.Reading.{Reading}
use Rattle.line.specs.declared.State.{State}
use Rattle.line.specs.declared.Side.{Side}
use Rattle.line.specs.declared.Side.TheVariants.{Right, Left}
use Rattle.line.specs.Rules.{other, ruby, HasRuby, ruby_of, ruby_end, org, Shape, Flush, Sound, Sounds}
use Rattle.line.specs.Setting.{start, reach, reached, put, Near, origin, settle_from}
use Rattle.line.specs.Flag.{lowered}
use Rattle.line.specs.Least.{origin-near, near-origin, reach-put, from_is, end_is}
use Rattle.line.specs.Onward.{Alike}

same-state : (st st' : State) → st.end ≡ st'.end → ((s : Side) → reach s st ≡ reach s st') → st.room ≡ st'.room → st ≡ st'
same-state st st' e r m = λ i. record { end = e i; right = r Right i; left = r Left i; room = m i }

-- A state moved on by k.
abbrev later : ℕ → State → State
later k st = record { end = st.end + k; right = st.right + k; left = st.left + k; room = st.room }

reach-later : (s : Side) (k : ℕ) (st : State) → reach s (later k st) ≡ reach s st + k
reach-later Right k st = refl
reach-later Left k st = refl

near-later : (s : Side) (k : ℕ) (st : State) (e : Element) (x : ℕ) → Near s st e x → Near s (later k st) e (x + k)
near-later s k st e x n =
    record {
      block = omega (arith, n.block);
      under = omega (arith, reach-later s k st, n.under);
      clear = omega (arith, reach-later s k st, n.clear);
      over = omega (arith, n.over);
    }

near-sooner : (s : Side) (k : ℕ) (st : State) (e : Element) (x : ℕ) → Near s (later k st) e (x + k) → Near s st e x
near-sooner s k st e x n =
    record {
      block = omega (arith, n.block);
      under = omega (arith, reach-later s k st, n.under);
      clear = omega (arith, reach-later s k st, n.clear);
      over = omega (arith, n.over);
    }

module _ (k : ℕ) (st : State) (e : Element) (h : st.room ≤ st.end) (w : Sound e) where
  abbrev x : ℕ
  x = origin st e

  abbrev y : ℕ
  y = origin (later k st) e

  -- a string of the element starts at its origin, and so past k
  enough : k ≤ y
  enough = go w.flush
    where
      go : Flush e → k ≤ y
      go (inl f) = omega (arith, (origin-near (later k st) e Right).block)
      go (inr (s, t, f)) = omega (arith, from_is s e t, (origin-near (later k st) e s).over)

  origin-later : y ≡ x + k
  origin-later =
      le_antisymm (near-origin (later k st) e (x + k) (λ s. near-later s k st e x (origin-near st e s)))
      (back (y - k) (omega (arith, enough)))
    where
      back : (z : ℕ) → y ≡ z + k → x + k ≤ y
      back z q = omega (arith, near-origin st e z (λ s. near-sooner s k st e z (rw (← q) (origin-near (later k st) e s))))

put-later : (k : ℕ) (st : State) (e : Element) (x y : ℕ) → y ≡ x + k → put (later k st) e y ≡ later k (put st e x)
put-later k st e x y q = same-state (put (later k st) e y) (later k (put st e x)) (omega arith) reaches refl
  where
    one : (z : ℕ) (r : Reading) → reached (z + k) y r ≡ reached z x r + k
    one z r = go r.there
      where
        go : (b : Bool) → max (z + k) (cond b (y + r.upto) 0) ≡ max z (cond b (x + r.upto) 0) + k
        go true = omega arith
        go false = omega arith

    reaches : (s : Side) → reach s (put (later k st) e y) ≡ reach s (later k (put st e x))
    reaches Right = one st.right e.right
    reaches Left = one st.left e.left

pub tail : (e : Element) (es : List Element) → Sounds (e ∷ es) → Sounds es
tail e es w i h = w (suc i) (omega arith)

settle-later : (k : ℕ) (st : State) (es : List Element) → st.room ≤ st.end → Sounds es → (i : ℕ) → i < length es →
    org (settle_from (later k st) es) i ≡ org (settle_from st es) i + k
unfolding settle_from
settle-later k st [] h w i l = absurd (omega arith)
settle-later k st (e ∷ es) h w zero l = origin-later k st e h (w 0 l)
settle-later k st (e ∷ es) h w (suc i) l =
    ap (λ t. org (settle_from t es) i) (put-later k st e (origin st e) _ (origin-later k st e h (w 0 (omega arith))))
    ∙ settle-later k (put st e (origin st e)) es (omega (arith, (w 0 (omega arith)).after)) (tail e es w) i (omega arith)

-- Two states that ask the same of what follows: the rubies of a side reach equally far, or in both no further than the part of the last block on which no ruby may
-- lie, where the block itself keeps off all that the rubies do.
abbrev Hidden : Side → State → Type 0
Hidden s st = reach s st + st.room ≤ st.end

record Same (st st' : State) : Type 0 where
  pub end : st.end ≡ st'.end
  pub room : st.room ≡ st'.room
  pub reach : (s : Side) → (reach s st ≡ reach s st') ⊎ (Hidden s st × Hidden s st')

same_back : {st st' : State} → Same st st' → Same st' st
same_back m = record { end = sym m.end; room = sym m.room; reach = λ s. ⊎_elim (λ e. inl (sym e)) (λ h. inr (h.1, h.0)) (m.reach s) }

same-near : (s : Side) (st st' : State) (e : Element) (x : ℕ) → Same st st' → Near s st e x → Near s st' e x
same-near s st st' e x m n =
    record {
      block = omega (arith, n.block, m.end);
      under = ⊎_elim (λ q. omega (arith, q, n.under)) (λ h. omega (arith, h.1, n.block, m.end)) (m.reach s);
      clear = ⊎_elim (λ q. omega (arith, q, n.clear)) (λ h. omega (arith, h.1, n.over, m.end, m.room)) (m.reach s);
      over = omega (arith, n.over, m.end, m.room);
    }

same-origin : (st st' : State) (e : Element) → Same st st' → origin st e ≡ origin st' e
same-origin st st' e m =
    le_antisymm (near-origin st e (origin st' e) (λ s. same-near s st' st e (origin st' e) (same_back m) (origin-near st' e s)))
    (near-origin st' e (origin st e) (λ s. same-near s st st' e (origin st e) m (origin-near st e s)))

runs : (s : Side) (e : Element) → Shape e (ruby (other s) e) (ruby s e) → (ruby s e).from ≤ (ruby s e).upto
runs s e (inl i) = i.runs
runs s e (inr (inl a)) = omega (arith, a.leads, a.trails)
runs s e (inr (inr i)) = i.runs

-- ruby from before an element with a reading on its side reaches no further than that
past : (s : Side) (st : State) (e : Element) (x : ℕ) → Sound e → Near s st e x → HasRuby s e → reach s st ≤ x + (ruby s e).upto
past s st e x w n t = omega (arith, n.clear, from_is s e t, runs s e (w.reading s t).shape)

-- what an element with a reading leaves, and one without
reach-own : (s : Side) (st : State) (e : Element) (x : ℕ) → Sound e → Near s st e x → HasRuby s e → reach s (put st e x) ≡ x + (ruby s e).upto
reach-own s st e x w n t = omega (arith, reach-put s st e x, end_is s e x t, past s st e x w n t)

reach-kept : (s : Side) (st : State) (e : Element) (x : ℕ) → (HasRuby s e → ⊥) → reach s (put st e x) ≡ reach s st
reach-kept s st e x n = omega (arith, reach-put s st e x, lowered (ruby s e).there (ruby_of s e x).end 0 n)

held : (s : Side) (e : Element) → HasRuby s e ⊎ (HasRuby s e → ⊥)
held s e = go (ruby s e).there
  where
    go : (b : Bool) → T b ⊎ (T b → ⊥)
    go true = inl tt
    go false = inr (λ t. t)

same-put : (st st' : State) (e : Element) (x : ℕ) → Sound e → Same st st' → ((s : Side) → Near s st e x) → Same (put st e x) (put st' e x)
same-put st st' e x w m n = record { end = refl; room = refl; reach = λ s. ⊎_elim (own s) (kept s) (held s e) }
  where
    own : (s : Side) → HasRuby s e → (reach s (put st e x) ≡ reach s (put st' e x)) ⊎ (Hidden s (put st e x) × Hidden s (put st' e x))
    own s t = inl (reach-own s st e x w (n s) t ∙ sym (reach-own s st' e x w (same-near s st st' e x m (n s)) t))

    kept : (s : Side) → (HasRuby s e → ⊥) → (reach s (put st e x) ≡ reach s (put st' e x)) ⊎ (Hidden s (put st e x) × Hidden s (put st' e x))
    kept s t =
        ⊎_elim (λ q. inl (reach-kept s st e x t ∙ q ∙ sym (reach-kept s st' e x t)))
        (λ h. inr (
          omega (arith, reach-kept s st e x t, h.0, (n s).block, w.after),
          omega (arith, reach-kept s st' e x t, h.1, m.end, (n s).block, w.after),
        )) (m.reach s)

settle-same : (st st' : State) (es : List Element) → Sounds es → Same st st' → settle_from st es ≡ settle_from st' es
unfolding settle_from
settle-same st st' [] w m = refl
settle-same st st' (e ∷ es) w m =
    ap (λ x. x ∷ settle_from (put st e (origin st e)) es) (same-origin st st' e m)
    ∙ ap (λ xs. origin st' e ∷ xs)
    (settle-same (put st e (origin st e)) (put st' e (origin st e)) es (tail e es w) (same-put st st' e (origin st e) (w 0 (omega arith)) m (origin-near st e))
    ∙ ap (λ x. settle_from (put st' e x) es) (same-origin st st' e m))

-- What an element at x asks by itself of those after it, and where it decides alone: no ruby from before it reaches past its own, or past its block.
abbrev alone : Element → ℕ → State
alone e x = put start e x

reach-alone : (s : Side) (e : Element) (x : ℕ) → reach s (alone e x) ≡ ruby_end s e x
reach-alone Right e x = omega arith
reach-alone Left e x = omega arith

decides : (st : State) (e : Element) (x : ℕ) → Sound e → ((s : Side) → Near s st e x) → ((s : Side) → (HasRuby s e → ⊥) → reach s st + e.after ≤ x + e.front + e.len) →
    Same (put st e x) (alone e x)
decides st e x w n h = record { end = refl; room = refl; reach = λ s. ⊎_elim (own s) (kept s) (held s e) }
  where
    own : (s : Side) → HasRuby s e → (reach s (put st e x) ≡ reach s (alone e x)) ⊎ (Hidden s (put st e x) × Hidden s (alone e x))
    own s t = inl (omega (arith, reach-own s st e x w (n s) t, reach-alone s e x, end_is s e x t))

    kept : (s : Side) → (HasRuby s e → ⊥) → (reach s (put st e x) ≡ reach s (alone e x)) ⊎ (Hidden s (put st e x) × Hidden s (alone e x))
    kept s t =
        inr (
          omega (arith, reach-kept s st e x t, h s t),
          omega (arith, reach-alone s e x, lowered (ruby s e).there (ruby_of s e x).end 0 t, w.after),
        )

-- it asks the same wherever it stands
alone-later : (e : Element) (x : ℕ) → Sound e → Same (alone e x) (later x (alone e 0))
alone-later e x w = record { end = omega arith; room = refl; reach = λ s. ⊎_elim (own s) (kept s) (held s e) }
  where
    own : (s : Side) → HasRuby s e → (reach s (alone e x) ≡ reach s (later x (alone e 0))) ⊎ (Hidden s (alone e x) × Hidden s (later x (alone e 0)))
    own s t = inl (omega (arith, reach-later s x (alone e 0), reach-alone s e x, reach-alone s e 0, end_is s e x t, end_is s e 0 t))

    kept : (s : Side) → (HasRuby s e → ⊥) → (reach s (alone e x) ≡ reach s (later x (alone e 0))) ⊎ (Hidden s (alone e x) × Hidden s (later x (alone e 0)))
    kept s t =
        inr (
          omega (arith, reach-alone s e x, lowered (ruby s e).there (ruby_of s e x).end 0 t, w.after),
          omega (arith, reach-later s x (alone e 0), reach-alone s e 0, lowered (ruby s e).there (ruby_of s e 0).end 0 t, w.after),
        )

-- all that follows an element which decides alone moves as it does
alone-moves : (e : Element) (x : ℕ) (es : List Element) → Sound e → Sounds es → (i : ℕ) → i < length es →
    org (settle_from (alone e x) es) i ≡ org (settle_from (alone e 0) es) i + x
alone-moves e x es v w i l =
    ap (λ xs. org xs i) (settle-same (alone e x) (later x (alone e 0)) es w (alone-later e x v)) ∙ settle-later x (alone e 0) es (omega (arith, v.after)) w i l

-- An element with a reading decides alone,
reading-decides : (st : State) (e : Element) (x : ℕ) → Sound e → ((s : Side) × HasRuby s e) → ((s : Side) → Near s st e x) → Same (put st e x) (alone e x)
reading-decides st e x w (r, u) n = decides st e x w n (λ s t. omega (arith, (n s).under, (w.reading r u).before, (w.reading r u).after))

-- and so does the element after one without any
next-decides : (st : State) (c d : Element) (x y : ℕ) → Sound c → Sound d → ((s : Side) → HasRuby s c → ⊥) → ((s : Side) → Near s st c x) →
    ((s : Side) → Near s (put st c x) d y) → Same (put (put st c x) d y) (alone d y)
next-decides st c d x y v w m n k =
    decides (put st c x) d y w k (λ s t. omega (arith, reach-kept s st c x (m s), (n s).under, v.before, (k s).block, w.after))

either : (e : Element) → ((s : Side) × HasRuby s e) ⊎ ((s : Side) → HasRuby s e → ⊥)
either e = ⊎_elim (λ t. inl (Right, t)) (λ n. ⊎_elim (λ t. inl (Left, t)) (λ m. inr (λ s. neither s n m)) (held Left e)) (held Right e)
  where
    neither : (s : Side) → (HasRuby Right e → ⊥) → (HasRuby Left e → ⊥) → HasRuby s e → ⊥
    neither Right n m = n
    neither Left n m = m

abbrev next : State → Element → State
next st e = put st e (origin st e)

-- they move as the first does, if it has a reading,
with_reading : (s s' : State) (c : Element) (ds : List Element) → Sound c → Sounds ds → ((r : Side) × HasRuby r c) → Alike (c ∷ ds) s s'
unfolding settle_from
with_reading s s' c ds v w r = record { forth = origin s' c; back = origin s c; moves = moves }
  where
    each : (s : State) (i : ℕ) → i < length ds → org (settle_from (next s c) ds) i ≡ org (settle_from (alone c 0) ds) i + origin s c
    each s i l = ap (λ xs. org xs i) (settle-same _ _ ds w (reading-decides s c (origin s c) v r (origin-near s c))) ∙ alone-moves c (origin s c) ds v w i l

    moves : (i : ℕ) → 0 < i → i < length (c ∷ ds) → org (settle_from s' (c ∷ ds)) i + origin s c ≡ org (settle_from s (c ∷ ds)) i + origin s' c
    moves zero h l = absurd (omega arith)
    moves (suc i) h l = omega (arith, each s i (omega arith), each s' i (omega arith))

-- and as the second does, if it has none
without : (s s' : State) (c d : Element) (ds : List Element) → Sound c → Sound d → Sounds ds → ((r : Side) → HasRuby r c → ⊥) → Alike (c ∷ d ∷ ds) s s'
unfolding settle_from
without s s' c d ds v u w n = record { forth = origin (next s' c) d; back = origin (next s c) d; moves = moves }
  where
    each : (s : State) (i : ℕ) → i < length ds → org (settle_from (next (next s c) d) ds) i ≡ org (settle_from (alone d 0) ds) i + origin (next s c) d
    each s i l =
        ap (λ xs. org xs i) (settle-same _ _ ds w (next-decides s c d (origin s c) (origin (next s c) d) v u n (origin-near s c) (origin-near (next s c) d)))
        ∙ alone-moves d (origin (next s c) d) ds u w i l

    moves : (i : ℕ) → 0 < i → i < length (c ∷ d ∷ ds) →
        org (settle_from s' (c ∷ d ∷ ds)) i + origin (next s c) d ≡ org (settle_from s (c ∷ d ∷ ds)) i + origin (next s' c) d
    moves zero h l = absurd (omega arith)
    moves (suc zero) h l = add_comm (origin (next s' c) d) (origin (next s c) d)
    moves (suc (suc i)) h l = omega (arith, each s i (omega arith), each s' i (omega arith))

pub alike : (s s' : State) (es : List Element) → Sounds es → Alike es s s'
alike s s' [] w = record { forth = 0; back = 0; moves = λ i h l. absurd (omega arith) }
alike s s' (c ∷ []) w = record { forth = 0; back = 0; moves = λ i h l. absurd (omega arith) }
alike s s' (c ∷ d ∷ ds) w =
    ⊎_elim (with_reading s s' c (d ∷ ds) (w 0 (omega arith)) (tail c (d ∷ ds) w))
    (without s s' c d ds (w 0 (omega arith)) (w 1 (omega arith)) (tail d ds (tail c (d ∷ ds) w))) (either c)
