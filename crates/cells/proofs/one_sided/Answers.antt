-- Of a reading that is not there neither place nor end is asked for. So the word stands where it would with its own left reading.
use Rattle.line.specs.Setting.{origin, asks}
use Rattle.cells.proofs.one_sided.Goals as goal

pub returns : goal.returns
unfolding origin asks
returns c = rw (c.place-p.ensures, c.seen_of-right.ensures, c.requires.0)
