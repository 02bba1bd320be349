-- A turn takes one of the numbers that are left.
use Rattle.std.proofs.Common.{◌∙◌, sym}
use Rattle.rows.specs.Reading.{fields-next}
use Rattle.rows.proofs.fields_at.Goals as goal

pub loop-left-preserved : goal.loop-left-preserved
loop-left-preserved c = fields-next c.loop-left.invariant c.loop-left-test.true _ c.stop_of.ensures _ _ (sym c.in_ok-v.was ∙ c.read_number.ensures)
