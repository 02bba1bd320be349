use Prim.Native.Nat.{◌-◌, ◌≤◌}
use Rattle.door.specs.Lent.{job_in}
use Rattle.layout.specs.Walk.{Walking}
use Rattle.layout.proofs.layout.Given as goal

-- P after P: the walk goes on from the element that the loop began with
abbrev pub invariant-text : goal.invariant-text
invariant-text l =
    (l.initial.k ≤ l.k) × Walking (job_in l.job) l.initial.rows l.rows l.k l.at

abbrev pub decreases-text : goal.decreases-text
decreases-text l = l.sizes.elements - l.k

abbrev pub invariant-loop-k : goal.invariant-loop-k
invariant-loop-k l =
    Walking (job_in l.job) l.initial.rows l.rows l.k l.at

abbrev pub decreases-loop-k : goal.decreases-loop-k
decreases-loop-k l = l.sizes.elements - l.k
