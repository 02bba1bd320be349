-- Parts that are written one after the other make up the whole.
use Rattle.text.specs.Written.{then}
use Rattle.account_text.specs.Text.{touch_text}
use Rattle.account_text.proofs.put_touch.Goals as goal

pub returns : goal.returns
unfolding touch_text
returns c =
    then c.put_named-a.ensures (then c.put_named-b.ensures c.put_said.ensures)
