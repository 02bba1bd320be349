use Prim.Native.Nat.{◌-◌}
use Rattle.filling.specs.Search.{Seeks}
use Rattle.filling.proofs.line_end.Given as goal

abbrev pub invariant-loop-i : goal.invariant-loop-i
invariant-loop-i l = Seeks l.limit l.t l.n l.s l.i l.st l.last

abbrev pub decreases-loop-i : goal.decreases-loop-i
decreases-loop-i l = l.n - l.i
