-- The account of one element from what stands before it, for those who walk a line: the element just before, and of all rubies of a side so far the one
-- that reaches furthest. (specs/Law.antt: in a line whose rubies don't overlap this is the account of specs/Reasons.antt.)
use Rattle.std.specs.Prelude.{◌≡◌, refl, Bool, true, false, cond, ◌&&◌, List, Option, Some, None, eqb, leb, ℕ, zero, suc, ◌-◌, ◌≤◌, ◌<◌}
use Rattle.std.proofs.Common.{◌∙◌, ne_eqb, le-leb, ap, arith}
use Rattle.std.proofs.lemmas.Bool.{lt-leb}
use Rattle.line.specs.declared.Element.{Element}
use Rattle.line.specs.declared.Reading.{Reading}
use Rattle.line.specs.declared.Side.{Side}
use Rattle.line.specs.declared.Side.TheVariants.{Right, Left}
use Rattle.line.specs.Rules.{ruby, no_reading, block_of, el, org}
use Rattle.account.specs.declared.Reason.{Reason}
use Rattle.account.specs.declared.Reason.TheVariants.{Start, Ruby, Edge, Free}
use Rattle.account.specs.declared.Account.{Account}
use Rattle.account.specs.declared.Far.{Far}
use Rattle.account.specs.declared.Before.{Before}
use Rattle.account.specs.Reasons.{drawn, starts, by_side, beside}

-- the ruby of a side that reaches furthest
abbrev pub far : Side → Before → Option Far
far Right b = b.right
far Left b = b.left

-- rule 3 between ruby of the side s that starts at z and the furthest ruby there, or else the rest
abbrev pub touched_at : Side → Option Far → ℕ → Reason → Reason
touched_at s None z rest = rest
touched_at s (Some f) z rest = cond (eqb f.end z) (Ruby s f.whose) rest

-- whose ruby that is, which the reading r of an element at x touches
abbrev pub touching : Option Far → Reading → ℕ → Option ℕ
touching None r x = None
touching (Some f) r x = cond (r.there && eqb f.end (drawn r x).start) (Some f.whose) None

-- the same of the reading r of an element at x, where it is there
abbrev pub touched : Side → Option Far → Reading → ℕ → Reason → Reason
touched s f r x rest = cond r.there (touched_at s f (drawn r x).start rest) rest

abbrev pub touched_on : Side → Before → Element → ℕ → Reason → Reason
touched_on s b e x rest = touched s (far s b) (ruby s e) x rest

-- rules 3 and 4
abbrev pub ruby_after : Before → Element → ℕ → Reason
ruby_after b e x = touched_on Right b e x (touched_on Left b e x (by_side (λ s. starts (ruby s e) x) Edge Free))

-- rules 1 and 2 with the element just before, if there is one
abbrev pub beside_last : ℕ → Before → Element → ℕ → Reason → Reason
beside_last zero b e x rest = rest
beside_last (suc j) b e x rest = beside j b.last b.at e x rest

unfoldable pub reason_after : ℕ → Before → Element → ℕ → Reason
reason_after i b e x = cond (eqb (block_of e x).start 0) Start (beside_last i b e x (ruby_after b e x))

abbrev pub end_before : ℕ → Before → ℕ
end_before zero b = 0
end_before (suc j) b = (block_of b.last b.at).end

abbrev pub account_after : ℕ → Before → Element → ℕ → Account
account_after i b e x = record { gap = (block_of e x).start - end_before i b; reason = reason_after i b e x }

-- the furthest ruby of a side once the element with the number i, with the reading r there, stands at x: of two that end at one place the nearer
abbrev pub longer : ℕ → Option Far → ℕ → Option Far
longer i None upto = Some (record { whose = i; end = upto })
longer i (Some f) upto = cond (leb f.end upto) (Some (record { whose = i; end = upto })) (Some f)

abbrev pub further : ℕ → Option Far → Reading → ℕ → Option Far
further i f r x = cond r.there (longer i f (drawn r x).end) f

abbrev pub passed : ℕ → Before → Element → ℕ → Before
passed i b e x = record { last = e; at = x; right = further i b.right e.right x; left = further i b.left e.left x }

-- what stands before the element with the number i of a line
abbrev pub nothing : Before
nothing = record { last = record { front = 0; len = 0; right = no_reading; left = no_reading; before = 0; after = 0 }; at = 0; right = None; left = None }

unfoldable pub standing : List Element → List ℕ → ℕ → Before
standing es xs zero = nothing
standing es xs (suc i) = passed i (standing es xs i) (el es i) (org xs i)

-- What the code goes by.

module _ (i : ℕ) (b : Before) (e : Element) (x : ℕ) (r : Reason) (n : (block_of e x).start ≡ 0 → ⊥) where
  pub reason-first : i ≡ 0 → r ≡ ruby_after b e x → r ≡ reason_after i b e x
  unfolding reason_after
  reason-first z h = rw (ne_eqb _ _ n, z) h

  pub reason-next : (i ≡ 0 → ⊥) → r ≡ beside (i - 1) b.last b.at e x (ruby_after b e x) → r ≡ reason_after i b e x
  unfolding reason_after
  reason-next z q = rw (ne_eqb _ _ n) (q ∙ go i z (ruby_after b e x))
    where
      go : (i : ℕ) → (i ≡ 0 → ⊥) → (rest : Reason) → beside (i - 1) b.last b.at e x rest ≡ beside_last i b e x rest
      go zero z rest = absurd (z refl)
      go (suc j) z rest = ap (λ k. beside k b.last b.at e x rest) one
        where
          one : suc j - 1 ≡ j
          one = omega arith

pub end-next : (i : ℕ) (b : Before) → (i ≡ 0 → ⊥) → end_before i b ≡ (block_of b.last b.at).end
end-next zero b z = absurd (z refl)
end-next (suc j) b z = refl

module _ (f : Option Far) (r : Reading) (x : ℕ) where
  module _ (i : ℕ) where
    pub further-plain : r.there ≡ false → f ≡ further i f r x
    further-plain h = rw h

    module _ (upto : ℕ) (h : r.there ≡ true) (u : upto ≡ (drawn r x).end) where
      pub further-first : f ≡ None → Some (record { whose = i; end = upto }) ≡ further i f r x
      further-first q = rw (h, q, u)

      pub further-more : (k z : ℕ) → f ≡ Some (record { whose = k; end = z }) → z ≤ upto → Some (record { whose = i; end = upto }) ≡ further i f r x
      further-more k z q l = rw (h, q, ← u, le-leb _ _ l)

      pub further-less : (k z : ℕ) → f ≡ Some (record { whose = k; end = z }) → upto < z → Some (record { whose = k; end = z }) ≡ further i f r x
      further-less k z q l = rw (h, q, ← u, lt-leb _ _ l)

module _ (s : Side) (f : Option Far) (r : Reading) (x : ℕ) (rest : Reason) where
  pub touched_one : (k : ℕ) → touching f r x ≡ Some k → touched s f r x rest ≡ Ruby s k
  touched_one k e = go f r.there e
    where
      go : (f : Option Far) (t : Bool) → touching f (record { there = t; from = r.from; upto = r.upto }) x ≡ Some k →
          cond t (touched_at s f (drawn r x).start rest) rest ≡ Ruby s k
      go None t e = cc
      go (Some f) false e = cc
      go (Some f) true e = at (eqb f.end (drawn r x).start) e
        where
          at : (b : Bool) → ◌≡◌ {A = Option ℕ} (cond b (Some f.whose) None) (Some k) → cond b (Ruby s f.whose) rest ≡ Ruby s k
          at true e = ap (Ruby s) cc
          at false e = cc

  pub touched_none : touching f r x ≡ None → touched s f r x rest ≡ rest
  touched_none e = go f r.there e
    where
      go : (f : Option Far) (t : Bool) → touching f (record { there = t; from = r.from; upto = r.upto }) x ≡ None →
          cond t (touched_at s f (drawn r x).start rest) rest ≡ rest
      go None true e = refl
      go None false e = refl
      go (Some f) false e = refl
      go (Some f) true e = at (eqb f.end (drawn r x).start) e
        where
          at : (b : Bool) → ◌≡◌ {A = Option ℕ} (cond b (Some f.whose) None) None → cond b (Ruby s f.whose) rest ≡ rest
          at true e = cc
          at false e = refl
