-- The numbers so far and those that are left make the line. A turn reads one number.
use Rattle.rows.specs.Reading.{FieldsLeft}
use Rattle.rows.proofs.fields_at.Given as goal

abbrev pub invariant-loop-left : goal.invariant-loop-left
invariant-loop-left l = FieldsLeft l.s l.from l.last l.k l.initial.out l.to l.step l.out l.at l.p l.left
