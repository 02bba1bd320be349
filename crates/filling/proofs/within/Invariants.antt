use mathlib.Core.Path.{◌≡◌}
use Prim.Native.Nat.{◌-◌, ◌≤◌}
use Rattle.filling.specs.Search.{inner_break}
use Rattle.filling.proofs.within.Given as goal

abbrev pub invariant-loop-k : goal.invariant-loop-k
invariant-loop-k l = (l.k ≤ l.bases) × (inner_break l.limit l.t l.st l.i l.last (l.k - 1) ≡ inner_break l.limit l.t l.st l.i l.last (l.bases - 1))
