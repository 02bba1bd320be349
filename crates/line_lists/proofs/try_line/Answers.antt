-- Each element that was read is placed, and the walk goes on from the state after it.
use Rattle.line_lists.proofs.Passes.{walked_next}
use Rattle.line_lists.proofs.try_line.Goals as goal

pub loop-i-preserved : goal.loop-i-preserved
loop-i-preserved c = walked_next _ _ _ c.loop-i.invariant c.loop-i-test.true _ c.element_at.ensures _ c.place.ensures
