use Prim.Native.Nat.{◌-◌}
use Rattle.positions.specs.Positions.{sheet}
use Rattle.positions.specs.Line.{Along}
use Rattle.positions.proofs.put_line.Given as goal

abbrev pub invariant-loop-i : goal.invariant-loop-i
invariant-loop-i l = Along (sheet l.t l.width l.rwidth l.lwidth) l.initial.i l.e l.initial.base l.initial.ruby l.initial.left l.i l.st l.base l.ruby l.left

abbrev pub decreases-loop-i : goal.decreases-loop-i
decreases-loop-i l = l.e - l.i
