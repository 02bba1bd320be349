-- The ends so far are written, and those that are left complete them. A turn writes one.
use Rattle.positions.specs.Lines.{Ending}
use Rattle.positions.proofs.put_ends.Given as goal

abbrev pub invariant-loop-l : goal.invariant-loop-l
invariant-loop-l l = Ending l.n l.ends l.initial.lines l.l l.lines
