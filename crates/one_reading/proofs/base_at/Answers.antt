-- Level one is lent the parts of the base lists. What it finds in them is what it asks of the element's base.
use mathlib.Core.Path.{◌∙◌}
use Rattle.word_rows.specs.Base.{bases_only, base-lent, base-small, base_even}
use native.Mathlib.Omega.{arith}
use Rattle.one_reading.proofs.base_at.Goals as goal

pub base_of-requires : goal.base_of-requires
base_of-requires c =
    let x = c.args in
    let job = bases_only x.em x.class.now x.width.now x.before.now x.after.now in
    let s = base-small job x.p c.requires in
    ((s.0, omega (arith, s.1)), base_even job x.p c.requires)

pub returns : goal.returns
returns c =
    let x = c.args in
    c.base_of.ensures ∙ base-lent (bases_only x.em x.class.now x.width.now x.before.now x.after.now) x.p c.requires
