-- The base count in its range, then the runs. What the runs take is the ruby count.
use Rattle.std.proofs.Common.{sym, ◌∙◌}
use Rattle.door.specs.Values.{runs-wrong, runs-sum}
use Rattle.door.proofs.count_jukugo.Goals as goal

pub returns-in_err-taken : goal.returns-in_err-taken
returns-in_err-taken c =
    let x = c.args in
    rw (c.from_residual.ensures, ← c.is_outside.ensures, c.if-is_outside.false, runs-wrong x.runs.now x.at.run x.base (sym c.runs_from.ensures ∙ c.in_err-taken.was))

pub returns : goal.returns
returns c =
    let x = c.args in
    let told = runs-sum x.runs.now x.at.run x.base (sym c.runs_from.ensures ∙ c.in_ok-taken.was) in
    rw (c.piece_of.ensures, ← c.is_outside.ensures, c.if-is_outside.false, told.0, told.1)
