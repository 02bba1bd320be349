-- The steps that the proofs of this crate repeat: a side that asks no more than the other, an element that ends within the sum that is asked to fit, and a P.
use Rattle.std.specs.Prelude.{◌≡◌, Bool, true, false, not, ◌&&◌, ℕ, ◌+◌, ◌≤◌, max, leb}
use Rattle.std.proofs.Common.{refl, sym, subst, zero-le, arith, leb-true}
use Rattle.std.specs.Prelude.{T}
use Rattle.line.specs.declared.Element.{Element}
use Rattle.line.specs.declared.State.{State}
use Rattle.line.specs.declared.Side.{Side}
use Rattle.line.specs.declared.Side.TheVariants.{Right, Left}
use Rattle.line.specs.Rules.{ruby, ruby_of, ruby_end}
use Rattle.line.specs.Setting.{reach, reached, asked, origin, furthest, total}
use Rattle.line.specs.Flag.{by_flag}
use Rattle.line.specs.Least.{max_le}
use Rattle.line.specs.OneSide.{one-origin}
use Rattle.line.specs.Plain.{plain-placed}
use Rattle.line.proofs.Extent.{reach-furthest}
use Rattle.line.proofs.Bound.{upto-total, origin_bound}

-- an idle left side leaves the right one to decide
pub right-decides : (st : State) (e : Element) → (not e.left.there && leb st.left st.end) ≡ true → asked Right st e ≡ origin st e
right-decides st e h = let p = both e.left.there (leb st.left st.end) h in sym (one-origin Right st e (subst T p.0) (leb-true _ _ p.1))
  where
    both : (a b : Bool) → (not a && b) ≡ true → (a ≡ false) × (b ≡ true)
    both true b q = absurd cc
    both false b q = (refl, q)

-- the origin lies within what stands, so block and readings end within what is asked to fit
pub block-fits : (st : State) (e : Element) (m : ℕ) → furthest st + total e ≤ m → origin st e + e.front + e.len ≤ m
block-fits st e m h = go (origin_bound st e) (omega arith)
  where
    go : origin st e ≤ furthest st → e.front + e.len ≤ total e → origin st e + e.front + e.len ≤ m
    go o t = omega (arith, h)

reach-fits : (s : Side) (st : State) (e : Element) (x m : ℕ) → furthest st + total e ≤ m → x ≡ origin st e → max (reach s st) (ruby_end s e x) ≤ m
reach-fits s st e x m h q =
    max_le (go (reach s st) (reach-furthest s st))
    (by_flag (λ v. v ≤ m) (ruby s e).there (ruby_of s e x).end 0 (λ t. omega (arith, h, origin_bound st e, q, upto-total s e t)) (λ n. zero-le))
  where
    go : (z : ℕ) → z ≤ furthest st → z ≤ m
    go z l = omega (arith, h)

pub right-fits : (st : State) (e : Element) (x m : ℕ) → furthest st + total e ≤ m → x ≡ origin st e → reached st.right x e.right ≤ m
right-fits st e x m h q = reach-fits Right st e x m h q

pub left-fits : (st : State) (e : Element) (x m : ℕ) → furthest st + total e ≤ m → x ≡ origin st e → reached st.left x e.left ≤ m
left-fits st e x m h q = reach-fits Left st e x m h q

pub ruleset side_steps = (right-decides)

pub ruleset fit_steps = (block-fits, right-fits, left-fits)

pub ruleset plain_steps = (plain-placed)
