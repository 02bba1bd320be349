use mathlib.Core.Path.{◌≡◌}
use Prim.Native.Nat.{◌-◌}
use Rattle.cells.specs.Cells.{beside}
use Rattle.word_rows.specs.Table.{Filled}
use Rattle.word_rows.specs.Runs.{runs_only, cursor_at, jukugo_row}
use Rattle.word_rows.proofs.put_runs.Given as goal

abbrev pub invariant-loop-i : goal.invariant-loop-i
invariant-loop-i l =
    let job = runs_only l.em l.rclass l.rwidth l.runs in
    (l.at ≡ cursor_at job l.p (l.i - l.p.base)) × Filled (λ j. beside (jukugo_row job l.p l.fn.w l.ends j) l.fn.left) l.p.base l.i l.initial.rows l.rows
