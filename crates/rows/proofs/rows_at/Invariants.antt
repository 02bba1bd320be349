-- The lines so far and those that are left make the section. A turn reads one line into the columns.
use Rattle.rows.specs.Reading.{RowsLeft}
use Rattle.rows.proofs.rows_at.Given as goal

abbrev pub invariant-loop-i : goal.invariant-loop-i
invariant-loop-i l = RowsLeft l.s l.k l.first.count l.first.at l.first.line l.most l.initial.out l.out l.at l.line l.i
