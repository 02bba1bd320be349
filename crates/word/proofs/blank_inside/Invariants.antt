-- What is left to test decides the whole, of either field. Past the last character nothing is left.
use Rattle.std.proofs.Common.{◌≡◌, drop}
use Rattle.basics.specs.Lists.{any, other}
use Rattle.word.proofs.blank_inside.Given as goal

abbrev pub invariant-loop-i : goal.invariant-loop-i
invariant-loop-i l =
    record {
      before : any (other 0) (drop l.i l.before) ≡ any (other 0) l.before;
      after : any (other 0) (drop l.i l.after) ≡ any (other 0) l.after;
    }
