-- The set has the classes below the next one that have the mark, and the place is the next one's. A turn asks the table of one class more.
use Rattle.class.specs.Marks.{says, Upto}
use Rattle.class.proofs.marked_in.Given as goal

abbrev pub invariant-loop-class : goal.invariant-loop-class
invariant-loop-class l = Upto (says l.which) l.set l.place l.class
