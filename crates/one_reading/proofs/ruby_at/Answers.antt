-- Level one is lent the parts of the ruby lists. What it finds in them is what it asks of the element's ruby.
use mathlib.Core.Path.{◌∙◌}
use Rattle.one_reading.specs.Lay.{ruby-lent, ruby-small}
use native.Mathlib.Omega.{arith}
use Rattle.one_reading.proofs.ruby_at.Goals as goal

pub strand_of-requires : goal.strand_of-requires
strand_of-requires c =
    let x = c.args in
    let s = ruby-small x.p x.rclass.now x.rwidth.now c.requires in
    (s.0, omega (arith, s.1))

pub returns : goal.returns
returns c =
    let x = c.args in
    c.strand_of.ensures ∙ ruby-lent x.p x.rclass.now x.rwidth.now c.requires
