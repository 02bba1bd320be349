-- Parts that are written one after the other make up the whole.
use Rattle.text.specs.Written.{then}
use Rattle.account_text.specs.Text.{deep}
use Rattle.account_text.proofs.put_deep.Goals as goal

pub returns : goal.returns
unfolding deep
returns c = then c.put_said-a.ensures c.put_said.ensures
