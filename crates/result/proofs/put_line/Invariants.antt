-- What is written, and what the elements from here on add, is the line. A turn prints one element and goes on behind its last piece.
use Prim.Native.Nat.{◌-◌}
use Rattle.result.specs.Line.{Printing}
use Rattle.result.proofs.put_line.Given as goal

abbrev pub invariant-loop-i : goal.invariant-loop-i
invariant-loop-i l = Printing l.t l.s l.e l.base l.ruby l.left l.initial.out l.from l.i l.at l.out

abbrev pub decreases-loop-i : goal.decreases-loop-i
decreases-loop-i l = l.e - l.i
