-- A turn takes one line and its runs, and a line with a fault or the last ends the section.
use Rattle.std.proofs.Common.{◌∙◌, sym, arith, rules}
use Rattle.rows.specs.Read.{some_of}
use Rattle.elements.specs.Reading.{lines-refused, used_fits, lines_next, lines-done}
use Rattle.elements.proofs.lines_at.Goals as goal

pub returns-in_err-e : goal.returns-in_err-e
returns-in_err-e c =
    let r = c.element_at.ensures in
    let e = lines-refused c.loop-i.invariant c.loop-i-test.true _ _ r.right r.left _ _ r.line (sym c.ok_or.ensures.value ∙ c.in_err-e.was) in
    search rules

pub overflow_add-used : goal.overflow_add-used
overflow_add-used c =
    let h = used_fits c.loop-i.invariant c.loop-i-test.true _ _ (some_of _ _ _ (sym c.ok_or.ensures.value ∙ c.in_ok-e.was) ∙ c.element_at.ensures.line) in
    record { fits = omega (arith, h.0) }

pub overflow_add-lused : goal.overflow_add-lused
overflow_add-lused c =
    let h = used_fits c.loop-i.invariant c.loop-i-test.true _ _ (some_of _ _ _ (sym c.ok_or.ensures.value ∙ c.in_ok-e.was) ∙ c.element_at.ensures.line) in
    record { fits = omega (arith, h.1) }

pub loop-i-preserved : goal.loop-i-preserved
loop-i-preserved c =
    let r = c.element_at.ensures in
    let line = some_of _ _ _ (sym c.ok_or.ensures.value ∙ c.in_ok-e.was) ∙ r.line in
    lines_next c.loop-i.invariant c.loop-i-test.true _ _ r.right r.left _ _ line _ c.put_element.ensures

pub returns : goal.returns
returns c = lines-done c.loop-i.invariant c.loop-i-test.false
