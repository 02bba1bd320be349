-- On a kana that the profile permits both depths are the kana's. Elsewhere they are document 01's.
use Rattle.class.specs.Class.{depths_by}
use Rattle.class.proofs.depths_by.Goals as goal

pub returns-then-lies_on_kana : goal.returns-then-lies_on_kana
unfolding depths_by
returns-then-lies_on_kana c = rw (← c.lies_on_kana.ensures, c.if-lies_on_kana.true, c.depth_on-d.ensures)

pub returns : goal.returns
unfolding depths_by
returns c = rw (← c.lies_on_kana.ensures, c.if-lies_on_kana.false) c.depths_on.ensures
