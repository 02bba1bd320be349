-- What is written, and the rows of the characters from here on, is the whole. A turn prints one row.
use Rattle.std.proofs.Common.{◌+◌}
use Rattle.result.specs.Text.{rows}
use Rattle.result.specs.Rows.{Going}
use Rattle.result.proofs.put_rows.Given as goal

abbrev pub invariant-loop-k : goal.invariant-loop-k
invariant-loop-k l = Going l.initial.out l.from (rows l.word l.positions l.i l.n) l.word l.positions (l.i + l.n) l.out l.at l.k
