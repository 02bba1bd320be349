-- The lines so far and those that are left make the section, and the runs of either side are counted. A turn reads one line.
use Rattle.elements.specs.Reading.{LinesLeft}
use Rattle.elements.proofs.lines_at.Given as goal

abbrev pub invariant-loop-i : goal.invariant-loop-i
invariant-loop-i l =
    LinesLeft l.s l.form l.n l.from l.first l.initial.table l.initial.runs l.initial.lruns l.table l.runs l.lruns l.at l.line l.used l.lused l.i
