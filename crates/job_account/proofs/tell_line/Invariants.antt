use Prim.Native.Nat.{◌-◌}
use Rattle.job_account.specs.Line.{Along}
use Rattle.job_account.proofs.tell_line.Given as goal

abbrev pub invariant-loop-i : goal.invariant-loop-i
invariant-loop-i l = Along l.t l.s l.e l.from l.initial.out l.i l.st l.b l.j l.k l.out

abbrev pub decreases-loop-i : goal.decreases-loop-i
decreases-loop-i l = l.e - l.i
