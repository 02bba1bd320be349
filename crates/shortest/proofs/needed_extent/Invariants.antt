use Prim.Native.Nat.{◌-◌}
use Rattle.shortest.specs.Pass.{Passes}
use Rattle.shortest.proofs.needed_extent.Given as goal

abbrev pub invariant-loop-i : goal.invariant-loop-i
invariant-loop-i l = Passes l.t l.n l.s l.i l.st l.least

abbrev pub decreases-loop-i : goal.decreases-loop-i
decreases-loop-i l = l.n - l.i
