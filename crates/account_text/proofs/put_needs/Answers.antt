-- Parts that are written one after the other make up the whole.
use Rattle.text.specs.Written.{then}
use Rattle.account_text.specs.Text.{needs_text}
use Rattle.account_text.proofs.put_needs.Goals as goal

pub returns : goal.returns
unfolding needs_text
returns c =
    then c.put_said-a.ensures (then c.put_said-b.ensures c.put_byte.ensures)
