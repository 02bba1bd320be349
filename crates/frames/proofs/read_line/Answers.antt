-- A turn takes one byte of the line, or finds its end.
use Rattle.frames.proofs.Steps.{line-full, line-ended, line-told, line-next}
use Rattle.frames.proofs.read_line.Goals as goal

pub returns-then-branch-eq0-clause-bytes : goal.returns-then-branch-eq0-clause-bytes
returns-then-branch-eq0-clause-bytes g c =
    let f = c.in_ok-fill.ensures in
    line-ended c.loop-i.invariant _ _ _ c.loop-i-test.true f.room f.count.0 f.bytes f.end c.if-branch-eq0.true

pub returns-then-one-eq-LF-clause-bytes : goal.returns-then-one-eq-LF-clause-bytes
returns-then-one-eq-LF-clause-bytes g c =
    let f = c.in_ok-fill.ensures in
    line-told c.loop-i.invariant _ _ _ c.loop-i-test.true f.room f.count.0 f.bytes f.end c.if-branch-eq0.false c.if-one-eq-LF.true

pub loop-i-preserved : goal.loop-i-preserved
loop-i-preserved g c =
    let f = c.in_ok-fill.ensures in
    line-next c.loop-i.invariant _ _ _ c.loop-i-test.true f.room f.count.0 f.bytes f.end c.if-branch-eq0.false c.if-one-eq-LF.false

pub returns-clause-bytes : goal.returns-clause-bytes
returns-clause-bytes g c = line-full c.loop-i.invariant c.loop-i-test.false c.loop-i.auto.i-end
