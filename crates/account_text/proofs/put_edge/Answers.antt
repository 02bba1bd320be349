-- Parts that are written one after the other make up the whole.
use Rattle.text.specs.Written.{then}
use Rattle.account_text.specs.Text.{edge_text}
use Rattle.account_text.proofs.put_edge.Goals as goal

pub returns : goal.returns
unfolding edge_text
returns c = then c.put_named-a.ensures c.put_word.ensures
