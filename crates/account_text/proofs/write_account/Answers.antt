-- The verdict comes first. Before each line, what is written and the lines from there on make up the rest; each line is the next part of what is left.
use Rattle.account_text.specs.Lists as lists
use Rattle.account_text.proofs.write_account.Goals as goal

pub put_verdict-at-requires : goal.put_verdict-at-requires
put_verdict-at-requires c = lists.verdict-fits c.requires

pub loop-l-init : goal.loop-l-init
loop-l-init c = lists.going_first c.requires c.put_verdict-at.ensures

pub put_line-at-requires : goal.put_line-at-requires
put_line-at-requires c = lists.line-ready c.loop-l.invariant c.loop-l-test.true

pub loop-l-preserved : goal.loop-l-preserved
loop-l-preserved c =
    lists.going_next c.loop-l.invariant c.loop-l-test.true c.put_line-at.ensures

pub returns : goal.returns
returns c =
    lists.written c.requires c.put_verdict-at.ensures (lists.going_end c.loop-l.invariant c.loop-l-test.false)
