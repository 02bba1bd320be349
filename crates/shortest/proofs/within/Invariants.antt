use mathlib.Core.Path.{◌≡◌}
use Prim.Native.Nat.{◌-◌}
use Rattle.shortest.specs.Pass.{inner_least}
use Rattle.shortest.proofs.within.Given as goal

abbrev pub invariant-loop-k : goal.invariant-loop-k
invariant-loop-k l = l.found ≡ inner_least l.t l.st l.i l.least (l.k - 1)
