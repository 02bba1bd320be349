-- The place past the lines that are left from here is the place past all. A turn passes one byte, and a line where that is LF.
use Rattle.std.proofs.Common.{◌≡◌, drop}
use Rattle.other_form.specs.Bytes.{past_lines}
use Rattle.other_form.proofs.lines_past.Given as goal

abbrev pub invariant-loop-at : goal.invariant-loop-at
invariant-loop-at l = past_lines l.k (drop l.at l.s) l.at ≡ past_lines l.n (drop l.from l.s) l.from
