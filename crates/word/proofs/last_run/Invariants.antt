-- The runs still to come decide whether any is longer than one em, and which is the last. Each is taken off as the loop passes it, and at the end none is left.
use Rattle.std.proofs.Common.{◌≡◌, ◌+◌, drop, map}
use Rattle.basics.specs.Lists.{sum, last_or}
use Rattle.word.specs.Alone.{split, any_longer}
use Rattle.word.proofs.last_run.Given as goal

abbrev pub invariant-loop-n : goal.invariant-loop-n
invariant-loop-n l =
    record {
      taken : l.a + sum (drop l.n-index l.runs) ≡ sum l.runs;
      longer : any_longer l.em (split (drop l.n-index l.runs) (drop l.a l.ws)) ≡ any_longer l.em (split l.runs l.ws);
      last : last_or l.last (map sum (split (drop l.n-index l.runs) (drop l.a l.ws))) ≡ last_or 0 (map sum (split l.runs l.ws));
    }
