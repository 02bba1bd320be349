-- Parts that are written one after the other make up the whole.
use Rattle.text.specs.Written.{then}
use Rattle.account_text.specs.Text.{head_text}
use Rattle.account_text.proofs.put_line.Goals as goal

pub returns : goal.returns
unfolding head_text
returns c = then (then c.put_said-a.ensures c.put_byte-b.ensures) c.put_rows.ensures
