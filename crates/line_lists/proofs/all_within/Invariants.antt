-- The elements passed are all set within themselves. At the end that is all elements.
use Rattle.line_lists.proofs.Passes.{Checked}
use Rattle.line_lists.proofs.all_within.Given as goal

abbrev pub invariant-loop-i : goal.invariant-loop-i
invariant-loop-i l = Checked l.elements l.i
