-- Level one is lent the parts of the lists. What it finds in them is what it asks of the reading.
use mathlib.Core.Path.{◌∙◌}
use Rattle.two_readings.specs.Left.{strand_lent, strand_small}
use native.Mathlib.Omega.{arith}
use Rattle.two_readings.proofs.strand_at.Goals as goal

pub run_strand_of-requires : goal.run_strand_of-requires
run_strand_of-requires c =
    let x = c.args in
    let s = strand_small x.em x.first x.many x.run x.taken x.cs.now x.ws.now x.runs.now c.requires in
    ((s.0, omega (arith, s.1)), s.2)

pub returns : goal.returns
returns c =
    let x = c.args in
    c.run_strand_of.ensures ∙ strand_lent x.em x.first x.many x.run x.taken x.cs.now x.ws.now x.runs.now c.requires
