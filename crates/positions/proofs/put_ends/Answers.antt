-- The ends copied and those left to copy make up the whole.
use Rattle.std.proofs.Common.{arith}
use Rattle.positions.specs.Lines.{ending_first, ending_next, ending_end}
use Rattle.positions.proofs.put_ends.Goals as goal

pub loop-l-init : goal.loop-l-init
loop-l-init c = ending_first c.requires.1

pub loop-l-preserved : goal.loop-l-preserved
loop-l-preserved c = ending_next c.requires.1 c.loop-l.invariant (omega (arith, c.loop-l-test.true))

pub returns : goal.returns
returns c = ending_end c.requires.1 c.loop-l.invariant c.loop-l-test.false c.requires.2
