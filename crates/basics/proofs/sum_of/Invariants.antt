-- The sum so far and the sum of what is left make the sum of all. A turn moves one number from the one to the other.
use Rattle.std.proofs.Common.{◌≡◌, ◌+◌, drop}
use Rattle.basics.specs.Lists.{sum}
use Rattle.basics.proofs.sum_of.Given as goal

abbrev pub invariant-loop-x : goal.invariant-loop-x
invariant-loop-x l = l.s + sum (drop l.x-index l.xs) ≡ sum l.xs
