-- Nothing is written at the start, and each turn writes the origin of the element that was read.
use Rattle.line_lists.proofs.Passes.{writes_start, writes_next}
use Rattle.line_lists.proofs.write_line.Goals as goal

pub loop-i-init : goal.loop-i-init
loop-i-init c = writes_start _ _ c.requires

pub loop-i-preserved : goal.loop-i-preserved
loop-i-preserved c =
    writes_next _ _ _ _ _ c.loop-i.invariant c.loop-i-test.true _ c.element_at.ensures _ c.place-p.ensures
