use Rattle.job_account.specs.Walk.{Going}
use Rattle.job_account.proofs.tell_lines.Given as goal

abbrev pub invariant-loop-l : goal.invariant-loop-l
invariant-loop-l l = Going l.t l.n l.ends l.initial.rows l.initial.told l.at l.s l.l l.rows l.told
