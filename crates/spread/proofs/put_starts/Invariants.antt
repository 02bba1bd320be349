-- What stands on the trainee's paper is the start of character i and what is carried, and the starts up to it are written. A turn goes on by one gap.
use Rattle.std.specs.Prelude.{◌≡◌, List, ℕ, ◌+◌, ◌-◌, ◌<◌, length}
use Rattle.spread.specs.Running.{Held, Written}
use Rattle.spread.proofs.put_starts.Given as goal

pub record Inv (s at : ℕ) (ws out : List ℕ) (x carried i : ℕ) : Type 0 where
  pub along : i < length ws
  pub long : length out ≡ length ws
  pub held : Held s at ws i x carried
  pub made : Written s at ws out (i + 1)

abbrev pub invariant-loop-i : goal.invariant-loop-i
invariant-loop-i l = Inv l.within l.at l.ws l.out l.x l.carried l.i

abbrev pub decreases-loop-i : goal.decreases-loop-i
decreases-loop-i l = length l.ws - l.i
