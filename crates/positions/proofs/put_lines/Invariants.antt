use lib.ListN.{length}
use Rattle.positions.specs.Positions.{sheet}
use Rattle.positions.specs.Lines.{Going}
use Rattle.positions.proofs.put_lines.Given as goal

abbrev pub invariant-loop-end : goal.invariant-loop-end
invariant-loop-end l = Going (sheet l.t l.width l.rwidth l.lwidth) (length l.ends) l.ends l.initial.base l.initial.ruby l.initial.left l.s l.end-index l.base l.ruby l.left
