use mathlib.Core.Path.{◌≡◌}
use Prim.Native.Nat.{◌+◌, ◌-◌, ◌*◌, ◌≤◌}
use lib.Dec.{eqb}
use Rattle.basics.specs.Lists.{sum, any}
use Rattle.door.specs.Job.{entries}
use Rattle.door.proofs.runs_from.Given as goal

abbrev pub invariant-loop-j : goal.invariant-loop-j
invariant-loop-j l =
    (l.taken ≤ 4294967295 * l.j)
    × (any (eqb 0) (entries l.runs (l.u + l.j) (l.n - l.j)) ≡ any (eqb 0) (entries l.runs l.u l.n))
    × (l.taken + sum (entries l.runs (l.u + l.j) (l.n - l.j)) ≡ sum (entries l.runs l.u l.n))
