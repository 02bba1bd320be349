-- What is left to look at decides the whole.
use mathlib.Core.Path.{◌≡◌}
use Prim.Native.Nat.{◌-◌}
use Rattle.basics.specs.Lists.{each, count}
use Rattle.door.specs.Lent.{job_in}
use Rattle.door.specs.Refusals.{base_faults}
use Rattle.door.specs.Verdict.{verdict}
use Rattle.door.proofs.Job.check_bases.Given as goal

abbrev pub invariant-loop-i : goal.invariant-loop-i
invariant-loop-i l = let faults = base_faults (job_in l.self) in verdict (each faults (count l.i (l.n - l.i))) ≡ verdict (each faults (count 0 l.n))
