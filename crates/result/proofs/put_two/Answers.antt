-- Parts that are written one after the other make up the line.
use Rattle.text.specs.Written.{then}
use Rattle.result.specs.Text.{line_two}
use Rattle.result.proofs.put_two.Goals as goal

pub returns : goal.returns
unfolding line_two
returns c =
    then c.put_word-a.ensures (then c.put_byte-b.ensures (then c.put_number-c.ensures (then c.put_byte-d.ensures (then c.put_number-e.ensures c.put_byte.ensures))))
