-- Each row is the next part of what is left.
use Rattle.result.specs.Rows.{going_next}
use Rattle.result.proofs.put_rows.Goals as goal

pub loop-k-preserved : goal.loop-k-preserved
loop-k-preserved c = going_next c.loop-k.invariant c.loop-k-test.true c.put_two-at.ensures
