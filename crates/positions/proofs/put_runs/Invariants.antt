use Rattle.positions.specs.Runs.{Running}
use Rattle.positions.proofs.put_runs.Given as goal

abbrev pub invariant-loop-k : goal.invariant-loop-k
invariant-loop-k l = Running l.side l.t l.i l.c l.at l.ws l.initial.out l.k l.x l.out
