-- Before each row, what is written and what its run and those behind it add make up the whole.
use mathlib.Core.Path.{◌≡◌}
use Rattle.positions.specs.Runs.{running-next, running-end}
use Rattle.positions.proofs.put_runs.Goals as goal
use Rattle.positions.proofs.put_runs.Goals.{At-loop-k, In-loop-k}

ems : (c : At-loop-k) → c.em-em.result ≡ c.args.t.now.em
ems c = c.em-em.ensures

pub loop-k-preserved : goal.loop-k-preserved
loop-k-preserved c =
    rw (c.put_string.ensures, ems (goal.at.loop-k-preserved c).At-loop-k, c.share_at-own.ensures) (running-next c.requires c.loop-k.invariant c.loop-k-test.true)

pub returns : goal.returns
returns c = running-end c.requires c.loop-k.invariant c.loop-k-test.false
