-- A turn skips one byte more, or the input has ended.
use Rattle.std.proofs.Common.{arith, subst}
use Rattle.frames.proofs.Steps.{Skipped, skipped-next}
use Rattle.frames.proofs.skip.Goals as goal

pub loop-at-preserved : goal.loop-at-preserved
loop-at-preserved g c =
    let f = c.in_ok-fill.ensures in
    let long = c.loop-at.invariant.0 in
    (omega (arith, f.room, long), omega (arith, c.loop-at-test.true), skipped-next _ _ _ _ _ _ _ (omega (arith, c.loop-at.auto._at)) (omega (arith, f.room, long)) f.count.0 f.bytes f.end c.loop-at.invariant.2)

pub returns : goal.returns
returns g c = subst (Skipped _ _) (omega (arith, c.loop-at.invariant.1, c.loop-at-test.false)) c.loop-at.invariant.2
