-- One run more with each turn: l is where the characters of the run begin, and what its row says of it is written from it. Past the last character these are all rows of the J.
use mathlib.Core.Path.{◌≡◌, ap₂, ◌∙◌}
use Rattle.std.proofs.Common.{inr}
use Prim.Native.Nat.{◌-◌, ◌<◌}
use native.Mathlib.Omega.{arith}
use Rattle.line.specs.declared.Side.TheVariants.{Left}
use Rattle.cells.specs.Rows.{row_in}
use Rattle.cells.specs.Cells.{beside}
use Rattle.door.specs.Job.{Job}
use Rattle.join.specs.Rows.{run_at, run_width}
use Rattle.word_rows.specs.Runs.{RunReads, reads-from, own-from, first-turn}
use Rattle.word_rows.specs.Table.{filled_more}
use Rattle.two_readings.specs.Left.{lefts_only, left_row_of, left_run_row}
use Rattle.two_readings.proofs.put_left_runs.Goals as goal
use Rattle.two_readings.proofs.put_left_runs.Goals.{After-run_width-own, In-loop-i, Start}

abbrev job : Start → Job
job a = lefts_only a.args.lwidth.now a.args.lruns.now

inside : (i : In-loop-i) → i.loop-i.i - i.args.p.base < i.args.p.bases
inside i = omega (arith, i.loop-i-test.true, i.loop-i.auto.i)

reads : (i : In-loop-i) → RunReads i.args.lwidth.now i.loop-i.l (run_at Left (job (goal.at.In-loop-i i).Start) i.args.p (i.loop-i.i - i.args.p.base))
reads i = reads-from Left (job (goal.at.In-loop-i i).Start) i.args.p i.requires.0 (i.loop-i.i - i.args.p.base) (inside i) i.loop-i.l i.loop-i.invariant.0

-- the run's width
wide : (w : After-run_width-own) →
    w.run_width-own.result ≡ run_width Left (job (goal.at.After-run_width-own w).Start) w.args.p (w.loop-i.i - w.args.p.base)
wide w =
    w.run_width-own.ensures ∙ own-from Left (job (goal.at.After-run_width-own w).Start) w.args.p w.requires.0 (w.loop-i.i - w.args.p.base) (inside (goal.at.After-run_width-own w).In-loop-i) w.loop-i.l w.loop-i.invariant.0

pub overflow_add-l : goal.overflow_add-l
overflow_add-l c = omega (arith, (reads (goal.at.overflow_add-l c).In-loop-i).few)

pub run_width-own-requires : goal.run_width-own-requires
run_width-own-requires c = let r = reads (goal.at.run_width-own-requires c).In-loop-i in (omega arith, r.few, r.width, r.narrow)

pub overflow_cast-l : goal.overflow_cast-l
overflow_cast-l c = omega (arith, (reads (goal.at.overflow_cast-l c).In-loop-i).few)

pub loop-i-preserved : goal.loop-i-preserved
loop-i-preserved c =
    let x = c.args in
    let J = job (goal.at.loop-i-preserved c).Start in
    let i = c.loop-i.i in
    let q = c.loop-i.invariant in
    let k = i - x.p.base in
    let is = ap₂ (λ z o. left_row_of x.v z (run_at Left J x.p k) o x.p.more) q.0 (wide (goal.at.loop-i-preserved c).After-run_width-own) in (
      first-turn Left J x.p i c.loop-i.l c.loop-i.auto.i q.0,
      filled_more (λ j. beside (row_in x.rows.now j) (left_run_row J x.p x.v j)) x.p.base i x.rows.now c.loop-i.rows c.with_left.result c.loop-i.auto.i (omega (arith, c.requires.1, c.loop-i-test.true)) q.1
          (c.with_left.ensures ∙ ap₂ beside (q.1.other i (inr (omega arith))) (c.left_row.ensures ∙ is)),
    )
