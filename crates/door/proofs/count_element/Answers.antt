-- The right counts, and where they are in range the left ones. Without a left reading the right ones are all.
use Rattle.std.specs.Prelude.{◌≡◌}
use Rattle.std.proofs.Common.{sym, ap, ◌∙◌}
use Rattle.door.specs.Elements.{glossed_by, and_then, counted_by, right-only, right-few}
use Rattle.door.proofs.count_element.Goals as goal
use Rattle.door.proofs.count_element.Goals.{After-count_right}

-- what the right counts say, then the left ones
by_right : (r : After-count_right) → let x = r.args in
    counted_by x.kind x.base x.ruby x.lkind x.left x.runs.now x.lruns.now x.at ≡ and_then r.count_right.result (λ p. glossed_by p x.lkind x.left x.lruns.now)
unfolding counted_by
by_right r = let x = r.args in ap (λ c. and_then c (λ p. glossed_by p x.lkind x.left x.lruns.now)) (sym r.count_right.ensures)

pub returns-then-lkind-eq-LEFT_NONE : goal.returns-then-lkind-eq-LEFT_NONE
returns-then-lkind-eq-LEFT_NONE c =
    let x = c.args in
    sym c.in_ok-p.was ∙ c.count_right.ensures ∙ right-only x.kind x.base x.ruby x.lkind x.left x.runs.now x.lruns.now x.at c.if-lkind-eq-LEFT_NONE.true

pub returns-in_err-p : goal.returns-in_err-p
returns-in_err-p c =
    let x = c.args in
    c.from_residual.ensures ∙ sym (by_right (goal.at.returns-in_err-p c).After-count_right ∙ ap (λ z. and_then z (λ p. glossed_by p x.lkind x.left x.lruns.now)) c.in_err-p.was)

pub count_left-requires : goal.count_left-requires
count_left-requires c =
    let x = c.args in
    right-few x.kind x.base x.ruby x.runs.now x.at c.requires.1 (sym c.count_right.ensures ∙ c.in_ok-p.was)

pub returns : goal.returns
returns c =
    let x = c.args in
    c.count_left.ensures ∙ sym (by_right (goal.at.returns c).After-count_right ∙ ap (λ z. and_then z (λ p. glossed_by p x.lkind x.left x.lruns.now)) c.in_ok-p.was)
