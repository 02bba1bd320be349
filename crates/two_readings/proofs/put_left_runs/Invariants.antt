use mathlib.Core.Path.{◌≡◌}
use Prim.Native.Nat.{◌-◌}
use Rattle.line.specs.declared.Side.TheVariants.{Left}
use Rattle.cells.specs.Rows.{row_in}
use Rattle.cells.specs.Cells.{beside}
use Rattle.join.specs.Rows.{first_at}
use Rattle.word_rows.specs.Table.{Filled}
use Rattle.two_readings.specs.Left.{lefts_only, left_run_row}
use Rattle.two_readings.proofs.put_left_runs.Given as goal

abbrev pub invariant-loop-i : goal.invariant-loop-i
invariant-loop-i l =
    let job = lefts_only l.lwidth l.lruns in
    (l.l ≡ first_at Left job l.p (l.i - l.p.base)) × Filled (λ j. beside (row_in l.initial.rows j) (left_run_row job l.p l.v j)) l.p.base l.i l.initial.rows l.rows
