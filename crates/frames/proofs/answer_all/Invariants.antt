-- What answers may always be called, and before each frame the calls for what is left are those for the whole input that are still to come.
use Rattle.frames.proofs.Running.{Going}
use Rattle.frames.proofs.answer_all.Given as goal

abbrev pub invariant-loop-turn : goal.invariant-loop-turn
invariant-loop-turn g l = goal.F-IsAlwaysCallable g l.answer × Going g.F.FnMut 1000000 l.initial.answer l.initial.to (g.R.Read.remaining l.initial.from) (g.R.Read.remaining l.from) l.answer l.to l._turn
