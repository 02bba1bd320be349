-- Parts that are written one after the other make up the whole.
use Rattle.text.specs.Written.{then}
use Rattle.account_text.specs.Text.{verdict_text}
use Rattle.account_text.proofs.put_verdict.Goals as goal

pub returns : goal.returns
unfolding verdict_text
returns c =
    then c.put_said-a.ensures (then c.put_said-b.ensures (then c.put_said-c.ensures c.put_byte.ensures))
