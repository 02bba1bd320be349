-- What is lent of the list and written in place is that part of it.
use mathlib.Core.Path.{◌∙◌}
use Rattle.positions.specs.Lists.{lent-long, sets-lent}
use Rattle.positions.proofs.put_string.Goals as goal

pub returns : goal.returns
returns c =
    let l = c.put_starts.auto.out ∙ lent-long c.args.out.now c.args.a c.args.e c.requires.ahead c.requires.room in
    sets-lent c.args.out.now c.put_starts.new.out c.args.a c.args.e c.requires.ahead c.requires.room l ∙ rw c.put_starts.ensures
