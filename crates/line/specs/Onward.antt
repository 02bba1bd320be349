-- Why what follows moves as one (`Exchange` has the theorem). A state that is moved on moves on all that follows it. An element with a reading decides alone what
-- follows it: no ruby from before it reaches past it on either side. The element after one without any decides so too, since ruby from before reaches no further
-- than the one without. (That is, they leave states that ask the same, `Same`.) So whatever stands before them, from the second on the same elements stand alike.
-- The theorems are in `proofs/Onward.antt`.
use Rattle.std.specs.Prelude.{◌≡◌, List, ℕ, ◌+◌, ◌<◌, length}
use Rattle.line.specs.declared.Element.{Element}
use Rattle.line.specs.declared.State.{State}
use Rattle.line.specs.Rules.{org}
use Rattle.line.specs.Setting.{settle_from}

-- The same elements after two states: from the second on all stand alike, forth by one number and back by another.
pub record Alike (es : List Element) (s s' : State) : Type 0 where
  pub forth : ℕ
  pub back : ℕ
  pub moves : (i : ℕ) → 0 < i → i < length es → org (settle_from s' es) i + back ≡ org (settle_from s es) i + forth
