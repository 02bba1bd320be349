-- Parts that are written one after the other make up the whole.
use Rattle.text.specs.Written.{then}
use Rattle.account_text.specs.Text.{said}
use Rattle.account_text.proofs.put_said.Goals as goal

pub returns : goal.returns
unfolding said
returns c = then c.put_word-a.ensures c.put_number.ensures
