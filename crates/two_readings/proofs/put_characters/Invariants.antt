use mathlib.Core.Path.{◌≡◌}
use mathlib.Core.List.{[]}
use Prim.Native.Nat.{◌-◌}
use Rattle.spread.specs.Ratio.{ratios_of}
use Rattle.line.specs.declared.Side.TheVariants.{Right, Left}
use Rattle.join.specs.Rows.{first_at}
use Rattle.word_rows.specs.Table.{Filled}
use Rattle.word_rows.specs.Runs.{both_only}
use Rattle.two_readings.specs.Left.{character_both}
use Rattle.two_readings.proofs.put_characters.Given as goal

abbrev pub invariant-loop-i : goal.invariant-loop-i
invariant-loop-i l =
    let job = both_only (ratios_of l.ratios) l.em [] l.width [] [] [] [] l.rwidth l.runs [] l.lwidth l.lruns in
    (l.r ≡ first_at Right job l.p (l.i - l.p.base)) × (l.l ≡ first_at Left job l.p (l.i - l.p.base)) × Filled (character_both job l.p l.ends) l.p.base l.i l.initial.rows l.rows
