use Rattle.cells.specs.Cells.{beside}
use Rattle.word_rows.specs.Table.{Filled}
use Rattle.word_rows.specs.Word.{word_row}
use Rattle.word_rows.proofs.put_word.Given as goal

abbrev pub invariant-loop-i : goal.invariant-loop-i
invariant-loop-i l = Filled (λ j. beside (word_row l.fn.p l.fn.w l.ends 0 0 j) l.fn.left) l.fn.p.base l.i l.initial.rows l.rows
