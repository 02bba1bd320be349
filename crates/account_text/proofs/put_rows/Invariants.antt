-- What is written, and the rows from here on, is the whole. A turn prints one row.
use Rattle.account_text.specs.Text.{rows_text, segment}
use Rattle.account_text.specs.Rows.{Going}
use Rattle.account_text.proofs.put_rows.Given as goal

abbrev pub invariant-loop-k : goal.invariant-loop-k
invariant-loop-k l =
    Going l.initial.out l.from (rows_text (segment l.rows l.q l.e)) l.rows l.e l.out l.at l.k
