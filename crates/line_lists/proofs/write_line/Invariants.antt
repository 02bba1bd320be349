-- The origins written and those of the rest make what the whole line writes. Each is the origin that trying the line gave.
use Rattle.line_lists.proofs.Passes.{Writes}
use Rattle.line_lists.proofs.write_line.Given as goal

abbrev pub invariant-loop-i : goal.invariant-loop-i
invariant-loop-i l = Writes l.elements l.initial.out l.out l.st l.i
