-- Who walks a line names earlier elements only, whatever stands there: the element just before, and those whose rubies reach furthest.
use Rattle.std.specs.Prelude.{Bool, true, false, cond, Option, Some, None, eqb, leb, ℕ, zero, suc, ◌+◌, ◌<◌}
use Rattle.std.proofs.Common.{arith}
use Rattle.line.specs.declared.Element.{Element}
use Rattle.line.specs.declared.Reading.{Reading}
use Rattle.line.specs.declared.Side.{Side}
use Rattle.line.specs.declared.Side.TheVariants.{Right, Left}
use Rattle.line.specs.Rules.{ruby, block_of}
use Rattle.account.specs.declared.Reason.{Reason}
use Rattle.account.specs.declared.Reason.TheVariants.{Start, Block, Under, Over, Ruby, Edge, Free}
use Rattle.account.specs.declared.Far.{Far}
use Rattle.account.specs.declared.Before.{Before}
use Rattle.account.specs.Claims.{Earlier}
use Rattle.account.specs.Reasons.{drawn, touches, under, over, starts, by_side, beside}
use Rattle.account.specs.Step.{touched_at, touched, ruby_after, beside_last, reason_after, longer, further, passed, nothing}

-- the ruby that reaches furthest is that of an element before number i
abbrev pub Of : ℕ → Option Far → Type 0
Of i None = Unit {0}
Of i (Some f) = f.whose < i

pub record Behind (i : ℕ) (b : Before) : Type 0 where
  pub right : Of i b.right
  pub left : Of i b.left

pub behind-none : Behind 0 nothing
behind-none = record { right = tt; left = tt }

either : (i : ℕ) (t : Bool) (r q : Reason) → Earlier i r → Earlier i q → Earlier i (cond t r q)
either i true r q h k = h
either i false r q h k = k

by_side_lem : (i : ℕ) (t : Side → Bool) (r : Side → Reason) (rest : Reason) → ((s : Side) → Earlier i (r s)) → Earlier i rest → Earlier i (by_side t r rest)
by_side_lem i t r rest f h = either i (t Right) (r Right) _ (f Right) (either i (t Left) (r Left) rest (f Left) h)

by-far : (i : ℕ) (s : Side) (f : Option Far) (r : Reading) (x : ℕ) (rest : Reason) → Of i f → Earlier i rest → Earlier i (touched s f r x rest)
by-far i s f r x rest o h = either i r.there _ rest (go f o) h
  where
    go : (f : Option Far) → Of i f → Earlier i (touched_at s f (drawn r x).start rest)
    go None o = h
    go (Some f) o = either i (eqb f.end (drawn r x).start) (Ruby s f.whose) rest o h

module _ (i : ℕ) (b : Before) (e : Element) (x : ℕ) (behind : Behind i b) where
  by_ruby_lem : Earlier i (ruby_after b e x)
  by_ruby_lem =
      by-far i Right b.right e.right x _ behind.right
      (by-far i Left b.left e.left x _ behind.left (by_side_lem i (λ s. starts (ruby s e) x) Edge Free (λ s. tt) tt))

  by_last : (rest : Reason) → Earlier i rest → Earlier i (beside_last i b e x rest)
  unfolding beside
  by_last rest h = go i h
    where
      go : (i : ℕ) → Earlier i rest → Earlier i (beside_last i b e x rest)
      go zero h = h
      go (suc j) h =
          let p = b.last in
          let y = b.at in
          either (suc j) (touches p y e x) (Block j) _ (omega arith)
          (by_side_lem (suc j) (λ s. under (ruby s p) y e x) (λ s. Under s j e.before) _ (λ s. omega arith)
          (by_side_lem (suc j) (λ s. over p y (ruby s e) x) (λ s. Over s j p.after) rest (λ s. omega arith) h))

  pub reason-behind : Earlier i (reason_after i b e x)
  unfolding reason_after
  reason-behind = either i (eqb (block_of e x).start 0) Start _ tt (by_last (ruby_after b e x) by_ruby_lem)

of-next : (i : ℕ) (f : Option Far) (r : Reading) (x : ℕ) → Of i f → Of (i + 1) (further i f r x)
of-next i f r x o = go r.there f o
  where
    nearer : (t : Bool) (f : Far) (upto : ℕ) → f.whose < i → Of (i + 1) (cond t (Some (record { whose = i; end = upto })) (Some f))
    nearer true f upto h = omega arith
    nearer false f upto h = omega arith

    go : (t : Bool) (f : Option Far) → Of i f → Of (i + 1) (cond t (longer i f (drawn r x).end) f)
    go true None o = omega arith
    go true (Some f) o = nearer (leb f.end (drawn r x).end) f (drawn r x).end o
    go false None o = tt
    go false (Some f) o = omega arith

pub behind-next : (i : ℕ) (b : Before) (e : Element) (x : ℕ) → Behind i b → Behind (i + 1) (passed i b e x)
behind-next i b e x h = record { right = of-next i b.right e.right x h.right; left = of-next i b.left e.left x h.left }
