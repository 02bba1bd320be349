-- Level one's questions are asked of the parts of the base lists. What is found in them is what it asks of the element's base.
use Rattle.word_rows.specs.Base.{bases_only, base-lent, base-small}
use native.Mathlib.Omega.{arith}
use Rattle.two_readings.proofs.base_beside.Goals as goal

pub str_of-string-requires : goal.str_of-string-requires
str_of-string-requires c =
    let x = c.args in
    let s = base-small (bases_only x.em x.class.now x.width.now x.before.now x.after.now) x.p c.requires in
    (s.0, omega (arith, s.1))

pub returns : goal.returns
returns c =
    let x = c.args in
    rw (c.blank_inside-blank.ensures, c.sort_of-sort.ensures, c.is_uneven-uneven.ensures, c.str_of-string.ensures)
    (base-lent (bases_only x.em x.class.now x.width.now x.before.now x.after.now) x.p c.requires)
