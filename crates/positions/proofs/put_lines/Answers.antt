-- Before each line, what is written and what the lines from there on add make up the whole. After the last nothing is left to do.
use Rattle.positions.specs.Lines.{going_first, going_next, going_all}
use Rattle.positions.proofs.put_lines.Goals as goal

pub loop-end-init : goal.loop-end-init
loop-end-init c = going_first c.requires

pub loop-end-preserved : goal.loop-end-preserved
loop-end-preserved c =
    going_next c.loop-end.invariant c.loop-end-test.true c.put_line.ensures

pub returns : goal.returns
returns c = going_all c.loop-end.invariant c.loop-end-test.false
