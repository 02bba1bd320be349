-- The rest of the line ends in the same state as the whole. What stands is no longer than the elements passed may be, so the next one fits a number.
use Rattle.line_lists.proofs.Passes.{Walked}
use Rattle.line_lists.proofs.try_line.Given as goal

abbrev pub invariant-loop-i : goal.invariant-loop-i
invariant-loop-i l = Walked l.elements l.st l.i
