-- What is written, and the text of the lines from here on, is the whole. A turn prints one line.
use Rattle.result.specs.Lines.{Going}
use Rattle.result.proofs.write_result.Given as goal

abbrev pub invariant-loop-l : goal.invariant-loop-l
invariant-loop-l l = Going l.t l.n l.ends l.extents l.base l.ruby l.left l.initial.out l.initial.at l.s l.l l.at l.out
