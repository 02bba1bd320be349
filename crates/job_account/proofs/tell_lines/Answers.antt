-- Before each line, what is told and what the lines from there on add make up the whole; a line adds its own part of each list. After the last nothing is left to do.
use Rattle.job_account.specs.Walk as lines
use native.Mathlib.Omega.{arith}
use Rattle.job_account.proofs.tell_lines.Goals as goal

pub tell_line-at-requires : goal.tell_line-at-requires
tell_line-at-requires c = lines.line-ready c.loop-l.invariant c.loop-l-test.true

pub overflow_cast-told : goal.overflow_cast-told
overflow_cast-told c = omega (arith, lines.count_small c.loop-l.invariant c.loop-l-test.true c.tell_line-at.ensures)

pub loop-l-preserved : goal.loop-l-preserved
loop-l-preserved c = lines.going_next c.loop-l.invariant c.loop-l-test.true c.tell_line-at.ensures

pub returns : goal.returns
returns c = lines.going_end c.loop-l.invariant c.loop-l-test.false
