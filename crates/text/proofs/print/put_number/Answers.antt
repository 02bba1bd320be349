-- A turn writes the last of the digits that are left. Where none is left, all are written.
use Rattle.std.proofs.Common.{refl, arith}
use Rattle.text.proofs.Steps.{spelled_next, spelled_done}
use Rattle.text.proofs.print.put_number.Goals as goal

pub loop-at-preserved : goal.loop-at-preserved
loop-at-preserved c = (omega (arith, c.loop-at-test.true), spelled_next c.loop-at.invariant.1 (omega (arith, c.loop-at-test.true)) refl)

pub returns : goal.returns
returns c = spelled_done c.loop-at.invariant.1 (omega (arith, c.loop-at-test.false, c.loop-at.invariant.0)) (omega (arith, c.width_of.ensures.value))
