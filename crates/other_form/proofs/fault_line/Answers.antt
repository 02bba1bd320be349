-- The first number at fault is the first line at fault.
use Rattle.std.proofs.Common.{◌∙◌, sym}
use Rattle.other_form.specs.Fault.{by_number}
use Rattle.other_form.proofs.fault_line.Goals as goal

pub returns-in-Some : goal.returns-in-Some
returns-in-Some c = by_number _ _ _ (sym c.in-Some.is ∙ c.number_line.ensures)
