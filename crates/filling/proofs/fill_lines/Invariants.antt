use Prim.Native.Nat.{◌-◌}
use Rattle.filling.specs.Lines as lines
use Rattle.filling.proofs.fill_lines.Given as goal

abbrev pub invariant-loop-s : goal.invariant-loop-s
invariant-loop-s l = lines.Sofar l.limit l.t l.n l.initial.ends l.ends l.initial.extents l.extents l.s l.k

abbrev pub decreases-loop-s : goal.decreases-loop-s
decreases-loop-s l = l.n - l.s
