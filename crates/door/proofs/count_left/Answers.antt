-- By the kind, once it is known, and by what it has on its form: runs, one count, or nothing that is read. Each way is a law of `Elements`.
use Rattle.std.specs.Prelude.{Some}
use mathlib.Core.Path.{◌≡◌, sym, ap, ◌∙◌}
use mathlib.Core.Bool.{true}
use Rattle.door.specs.Job.{known_left}
use Rattle.door.specs.Elements.{glossed_by}
use Rattle.door.specs.Elements as elements
use Rattle.door.proofs.count_left.Goals as goal
use Rattle.door.proofs.count_left.Goals.{Else-not-is_known_left}

known : (e : Else-not-is_known_left) → known_left e.args.kind ≡ true
known e = sym e.is_known_left.ensures ∙ e.if-not-is_known_left.false

pub returns-then-not-is_known_left : goal.returns-then-not-is_known_left
unfolding glossed_by
returns-then-not-is_known_left c = rw (← c.is_known_left.ensures, c.if-not-is_known_left.true)

pub returns-in_err-taken : goal.returns-in_err-taken
returns-in_err-taken c =
    let x = c.args in
    c.from_residual.ensures
    ∙ elements.runs-out x.p x.kind x.left x.runs.now (known (goal.at.returns-in_err-taken c).Else-not-is_known_left) c.left_of-gloss.ensures (sym c.left_by_runs.ensures ∙ c.if-left_by_runs.true)
    (sym c.runs_from.ensures ∙ c.in_err-taken.was)

pub returns-then-left_by_runs : goal.returns-then-left_by_runs
returns-then-left_by_runs c =
    let x = c.args in
    ap Some c.with_left.ensures
    ∙ elements.runs_in x.p x.kind x.left x.runs.now (known (goal.at.returns-then-left_by_runs c).Else-not-is_known_left) c.left_of-gloss.ensures (sym c.left_by_runs.ensures ∙ c.if-left_by_runs.true)
    (sym c.runs_from.ensures ∙ c.in_ok-taken.was)

pub returns-then-is_outside : goal.returns-then-is_outside
returns-then-is_outside c =
    let x = c.args in
    elements.count-out x.p x.kind x.left x.runs.now (known (goal.at.returns-then-is_outside c).Else-not-is_known_left) c.left_of-gloss.ensures (sym c.left_by_runs.ensures ∙ c.if-left_by_runs.false)
    (sym c.left_by_count.ensures ∙ c.if-left_by_count.true) (sym c.is_outside.ensures ∙ c.if-is_outside.true)

pub returns-then-left_by_count : goal.returns-then-left_by_count
returns-then-left_by_count c =
    let x = c.args in
    ap Some c.with_left-then-left_by_count.ensures
    ∙ elements.count_in x.p x.kind x.left x.runs.now (known (goal.at.returns-then-left_by_count c).Else-not-is_known_left) c.left_of-gloss.ensures (sym c.left_by_runs.ensures ∙ c.if-left_by_runs.false)
    (sym c.left_by_count.ensures ∙ c.if-left_by_count.true) (sym c.is_outside.ensures ∙ c.if-is_outside.false)

pub returns : goal.returns
returns c =
    let x = c.args in
    ap Some c.with_left-2.ensures
    ∙ elements.none_in x.p x.kind x.left x.runs.now (known (goal.at.returns c).Else-not-is_known_left) c.left_of-gloss.ensures (sym c.left_by_runs.ensures ∙ c.if-left_by_runs.false)
    (sym c.left_by_count.ensures ∙ c.if-left_by_count.false)
