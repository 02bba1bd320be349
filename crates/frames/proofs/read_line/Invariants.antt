-- The bytes so far and the line that is still to read make up the line. LF or the end of the input ends it.
use Rattle.frames.proofs.Steps.{Line}
use Rattle.frames.proofs.read_line.Given as goal

abbrev pub invariant-loop-i : goal.invariant-loop-i
invariant-loop-i g l = Line (g.R.Read.remaining l.initial.from) (g.R.Read.remaining l.from) l.line l.one l.i
