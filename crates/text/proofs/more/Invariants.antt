-- The digits so far and those that are left make the number. A turn takes one digit.
use Rattle.std.proofs.Common.{◌≡◌, drop}
use Rattle.text.specs.Text.{more}
use Rattle.text.proofs.more.Given as goal

abbrev pub invariant-loop-at : goal.invariant-loop-at
invariant-loop-at l = more (drop l.from l.s) l.stop l.first l.from ≡ more (drop l.at l.s) l.stop l.v l.at
