-- Parts that are written one after the other make up the whole.
use Rattle.text.specs.Written.{then}
use Rattle.account_text.specs.Text.{named}
use Rattle.account_text.proofs.put_named.Goals as goal

pub returns : goal.returns
unfolding named
returns c = then c.put_word-a.ensures c.put_word.ensures
