-- The numbers up to the next one are those of form one, so that the first at fault is still to come. A turn compares one number.
use Rattle.std.proofs.Common.{◌≡◌, ◌+◌, drop}
use Rattle.sheet.specs.Sheet.{plain}
use Rattle.other_form.specs.Other.{unlike, first_or}
use Rattle.other_form.proofs.number_line.Given as goal

abbrev pub invariant-loop-i : goal.invariant-loop-i
invariant-loop-i l = first_or 0 (unlike (l.i + 4) (drop (l.i + 2) l.set) (drop l.i plain)) ≡ first_or 0 (unlike 4 (drop 2 l.set) plain)
