-- Before each line, what is written and the text of the lines from there on make up the whole. After the last nothing is left.
use mathlib.Core.Path.{◌∙◌}
use native.Mathlib.Omega.{arith}
use Rattle.text.specs.Written.{same-long}
use Rattle.result.specs.Lines as result
use Rattle.result.proofs.write_result.Goals as goal

pub overflow_cast-n : goal.overflow_cast-n
overflow_cast-n c = omega (arith, result.few c.requires)

pub put_one-at-requires : goal.put_one-at-requires
put_one-at-requires c = result.head-fits c.requires

pub loop-l-init : goal.loop-l-init
loop-l-init c = result.going_first c.requires c.put_one-at.ensures

pub offset_bounds-ends-l : goal.offset_bounds-ends-l
offset_bounds-ends-l c = omega (arith, (result.within c.loop-l.invariant c.loop-l-test.true).2)

pub bounds-ends-l : goal.bounds-ends-l
bounds-ends-l c = (result.within c.loop-l.invariant c.loop-l-test.true).0

pub overflow_cast-e : goal.overflow_cast-e
overflow_cast-e c = omega (arith, c.type_inv.ends c.loop-l.l)

pub offset_bounds-extents-l : goal.offset_bounds-extents-l
offset_bounds-extents-l c = omega (arith, (result.within c.loop-l.invariant c.loop-l-test.true).2)

pub bounds-extents-l : goal.bounds-extents-l
bounds-extents-l c = (result.within c.loop-l.invariant c.loop-l-test.true).1

pub put_one-told-requires : goal.put_one-told-requires
put_one-told-requires c = result.told-fits c.loop-l.invariant c.loop-l-test.true

pub put_line-at-requires : goal.put_line-at-requires
put_line-at-requires c =
    result.line-ready c.loop-l.invariant c.loop-l-test.true c.put_one-told.ensures

pub loop-l-preserved : goal.loop-l-preserved
loop-l-preserved c =
    result.going_next c.loop-l.invariant c.loop-l-test.true c.put_one-told.ensures c.put_line-at.ensures

pub shape_of-out : goal.shape_of-out
shape_of-out c = c.loop-l.invariant.rest.long ∙ same-long c.put_one-at.ensures

pub returns : goal.returns
returns c = result.going_end c.requires c.put_one-at.ensures c.loop-l.invariant c.loop-l-test.false
