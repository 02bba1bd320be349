-- The setting by its states. The least origin is the least that the state allows, and an origin nearer the start leaves a state that asks
-- no more of what follows; so each origin of the setting is at or before that of any setting that follows its own states.
use Rattle.std.specs.Prelude.{◌≡◌, Bool, true, false, cond, List, [], ◌∷◌, ◌++◌, length, refl, ℕ, zero, suc, ◌+◌, ◌-◌, ◌≤◌, ◌<◌, max}
use Rattle.std.proofs.Common.{sym, ap, ◌∙◌, zero-le, arith}
use Rattle.line.specs.declared.Element.{Element}
use Rattle.line.specs.declared.State.{State}
use Rattle.line.specs.declared.Side.{Side}
use Rattle.line.specs.declared.Side.TheVariants.{Right, Left}
use Rattle.line.specs.Rules.{ruby, HasRuby, ruby_of, ruby_end, el, org}
use Rattle.line.specs.Setting.{ruby_from, start, reach, put, Near, asks, asked, origin, settle_from, settle, run, after, Follows}
use Rattle.line.specs.Flag.{raised}

max-left : (a b : ℕ) {x : ℕ} → max a b ≤ x → a ≤ x
max-left a b h = omega arith

max-right : (a b : ℕ) {x : ℕ} → max a b ≤ x → b ≤ x
max-right a b h = omega arith

pub max_le : {a b x : ℕ} → a ≤ x → b ≤ x → max a b ≤ x
max_le h k = omega arith

up : (a b : ℕ) {x : ℕ} → a - b ≤ x → a ≤ x + b
up a b h = omega arith

up₂ : (a b c : ℕ) {x : ℕ} → a - (b + c) ≤ x → a ≤ x + b + c
up₂ a b c h = omega arith

-- what one side asks of x: four demands, each a difference
pub asked-near : (s : Side) (st : State) (e : Element) (x : ℕ) → asked s st e ≤ x → Near s st e x
unfolding asks
asked-near s st e x h =
    record {
      block = up _ _ (max-left _ _ (max-left _ _ h));
      under = up₂ _ _ _ (max-right _ _ (max-left _ _ h));
      clear = up _ _ (max-left _ _ (max-right _ _ h));
      over = up₂ _ _ _ (max-right _ _ (max-right _ _ h));
    }

pub near-asked : (s : Side) (st : State) (e : Element) (x : ℕ) → Near s st e x → asked s st e ≤ x
unfolding asks
near-asked s st e x n = max_le (max_le (omega (arith, n.block)) (omega (arith, n.under))) (max_le (omega (arith, n.clear)) (omega (arith, n.over)))

-- and both
pub origin-near : (st : State) (e : Element) (s : Side) → Near s st e (origin st e)
unfolding origin
origin-near st e s = one s
  where
    whole : origin st e ≤ origin st e
    whole = omega arith

    one : (s : Side) → Near s st e (origin st e)
    one Right = asked-near Right st e (origin st e) (max-left _ _ whole)
    one Left = asked-near Left st e (origin st e) (max-right _ _ whole)

pub near-origin : (st : State) (e : Element) (x : ℕ) → ((s : Side) → Near s st e x) → origin st e ≤ x
unfolding origin
near-origin st e x n = max_le (near-asked Right st e x (n Right)) (near-asked Left st e x (n Left))

-- the furthest ruby of a side once e is at x
pub reach-put : (s : Side) (st : State) (e : Element) (x : ℕ) → reach s (put st e x) ≡ max (reach s st) (ruby_end s e x)
reach-put Right st e x = refl
reach-put Left st e x = refl

-- where ruby starts and ends, if there is any
pub from_is : (s : Side) (e : Element) → HasRuby s e → ruby_from s e ≡ (ruby s e).from
from_is s e = raised (ruby s e).there (ruby s e).from (e.front + e.len)

pub end_is : (s : Side) (e : Element) (x : ℕ) → HasRuby s e → ruby_end s e x ≡ (ruby_of s e x).end
end_is s e x = raised (ruby s e).there (ruby_of s e x).end 0

-- an element nearer the start has its ruby no further on
end-nearer : (s : Side) (e : Element) (x y : ℕ) → x ≤ y → ruby_end s e x ≤ ruby_end s e y
end-nearer s e x y h = go (ruby s e).there
  where
    go : (b : Bool) → cond b (x + (ruby s e).upto) 0 ≤ cond b (y + (ruby s e).upto) 0
    go true = omega arith
    go false = zero-le

-- a state that asks no more than another
pub record Under (st st' : State) : Type 0 where
  pub end : st.end ≤ st'.end
  pub reach : (s : Side) → reach s st ≤ reach s st'
  pub room : st.room ≡ st'.room

pub under-near : (st st' : State) (e : Element) (x : ℕ) (s : Side) → Under st st' → Near s st' e x → Near s st e x
under-near st st' e x s u n =
    record {
      block = omega (arith, u.end, n.block);
      under = omega (arith, u.reach s, n.under);
      clear = omega (arith, u.reach s, n.clear);
      over = omega (arith, u.end, u.room, n.over);
    }

-- the setting by the number of an element
pub after-cons : (st : State) (e : Element) (es : List Element) (x : ℕ) (xs : List ℕ) (i : ℕ) → after st (e ∷ es) (x ∷ xs) (suc i) ≡ after (put st e x) es xs i
unfolding after
after-cons st e es x xs zero = refl
after-cons st e es x xs (suc i) = ap (λ s. put s (el es i) (org xs i)) (after-cons st e es x xs i)

pub settle-origin : (st : State) (es : List Element) (i : ℕ) → i < length es → org (settle_from st es) i ≡ origin (after st es (settle_from st es) i) (el es i)
unfolding settle_from after
settle-origin st [] i h = absurd (omega arith)
settle-origin st (e ∷ es) zero h = refl
settle-origin st (e ∷ es) (suc i) h =
    settle-origin (put st e (origin st e)) es i (omega arith)
    ∙ ap (λ s. origin s (el es i)) (sym (after-cons st e es (origin st e) (settle_from (put st e (origin st e)) es) i))

settle-length : (st : State) (es : List Element) → length (settle_from st es) ≡ length es
unfolding settle_from
settle-length st [] = refl
settle-length st (e ∷ es) = ap suc (settle-length (put st e (origin st e)) es)

pub settle-follows : (es : List Element) → Follows es (settle es)
settle-follows es =
    record {
      each = settle-length start es;
      near = λ i h s. rw (settle-origin start es i h) (origin-near (after start es (settle es) i) (el es i) s);
    }

-- by the number of the element: its own origin, and the state that the origins before it have made
module _ (es : List Element) (xs : List ℕ) (f : Follows es xs) where
  at : (i : ℕ) → i < length es → Under (after start es (settle es) i) (after start es xs i) → org (settle es) i ≤ org xs i
  at i h u =
      omega (
        arith,
        settle-origin start es i h,
        near-origin (after start es (settle es) i) (el es i) (org xs i) (λ s. under-near _ _ (el es i) (org xs i) s u (f.near i h s)),
      )

  under : (i : ℕ) → i ≤ length es → Under (after start es (settle es) i) (after start es xs i)
  unfolding after
  under zero h = record { end = zero-le; reach = λ s. same s; room = refl }
    where
      same : (s : Side) → reach s start ≤ reach s start
      same s = omega arith
  under (suc i) h =
      let u = under i (omega arith) in
      let l = at i h u in
      record {
        end = omega arith;
        reach = λ s.
            omega (
              arith,
              reach-put s (after start es (settle es) i) (el es i) (org (settle es) i),
              reach-put s (after start es xs i) (el es i) (org xs i),
              u.reach s,
              end-nearer s (el es i) (org (settle es) i) (org xs i) l,
            );
        room = refl;
      }

  pub settle-least : (i : ℕ) → i < length es → org (settle es) i ≤ org xs i
  settle-least i h = at i h (under i (omega arith))

-- A line that goes on.
pub settle_append : (st : State) (a b : List Element) → settle_from st (a ++ b) ≡ settle_from st a ++ settle_from (run st a) b
unfolding settle_from run
settle_append st [] b = refl
settle_append st (e ∷ a) b = ap (λ xs. origin st e ∷ xs) (settle_append (put st e (origin st e)) a b)

pub run_append : (st : State) (a b : List Element) → run st (a ++ b) ≡ run (run st a) b
unfolding run
run_append st [] b = refl
run_append st (e ∷ a) b = run_append (put st e (origin st e)) a b
