-- A line with a fault ends the section.
use Rattle.std.proofs.Common.{◌∙◌, sym, rules}
use Rattle.rows.specs.Section.{rows_of, on_part}
use Rattle.rows.specs.Reading.{rows-broken}
use Rattle.rows.proofs.rows_at.Goals as goal

pub returns-in_default : goal.returns-in_default
unfolding rows_of on_part
returns-in_default c =
    let e = rows-broken c.loop-i.invariant c.loop-i-test.true _ c.fields_at.ensures.1 (sym c.in_default.is ∙ c.fields_at.ensures.0) in
    search rules
