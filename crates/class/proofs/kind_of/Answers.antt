-- A kind is known by three questions (`kind_law`). Each arm knows the answers so far.
use Rattle.class.specs.Laws.{kind_law}
use Rattle.class.proofs.kind_of.Goals as goal

pub returns-then-is_kana : goal.returns-then-is_kana
returns-then-is_kana c = rw (← kind_law c.args.class, ← c.is_kana.ensures, c.if-is_kana.true)

pub returns-then-is_western : goal.returns-then-is_western
returns-then-is_western c =
    rw (← kind_law c.args.class, ← c.is_kana.ensures, c.if-is_kana.false, ← c.is_western.ensures, c.if-is_western.true)

pub returns-then-is_accepted : goal.returns-then-is_accepted
returns-then-is_accepted c =
    rw (← kind_law c.args.class, ← c.is_kana.ensures, c.if-is_kana.false)
    (rw (← c.is_western.ensures, c.if-is_western.false, ← c.is_accepted.ensures, c.if-is_accepted.true))

pub returns-else-is_accepted : goal.returns-else-is_accepted
returns-else-is_accepted c =
    rw (← kind_law c.args.class, ← c.is_kana.ensures, c.if-is_kana.false)
    (rw (← c.is_western.ensures, c.if-is_western.false, ← c.is_accepted.ensures, c.if-is_accepted.false))
