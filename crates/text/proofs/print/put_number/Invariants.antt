-- The digits from here up to the end are written, and `rest` is what stands before them. A turn writes its last digit.
use Rattle.std.proofs.Common.{◌≤◌}
use Rattle.text.proofs.Steps.{Spelled}
use Rattle.text.proofs.print.put_number.Given as goal

abbrev pub invariant-loop-at : goal.invariant-loop-at
invariant-loop-at l = (l.from ≤ l.at) × Spelled l.initial.out l.out l.n l.at l.end l.rest
