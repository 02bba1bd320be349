-- One run more with each turn: the cursor is where the J's ruby is laid up to the character, and its row is written from it. Past the last character these are all rows of the J.
use mathlib.Core.Path.{◌≡◌, refl, ap, ◌∙◌}
use Prim.Native.Nat.{◌-◌, ◌<◌}
use native.Mathlib.Omega.{arith}
use Rattle.cells.specs.Cells.{beside}
use Rattle.door.specs.Job.{Job}
use Rattle.line.specs.declared.Side.TheVariants.{Right}
use Rattle.join.specs.Rows.{run_at, run_width}
use Rattle.word_rows.specs.Table.{filled_more}
use Rattle.word_rows.specs.Runs.{runs_only, jukugo_row, run_row_lem, past_run_lem, RunReads, reads_at, class-at, own_at, past-ready, cursor_next}
use Rattle.word_rows.proofs.put_runs.Goals as goal
use Rattle.word_rows.proofs.put_runs.Goals.{After-run_width-own, In-loop-i, Start}

abbrev job : Start → Job
job a = runs_only a.args.em a.args.rclass.now a.args.rwidth.now a.args.runs.now

-- the run of the character that the loop is at
inside : (c : In-loop-i) → let p = c.args.p in c.loop-i.i - p.base < p.bases
inside c = omega (arith, c.loop-i-test.true, c.loop-i.auto.i)

reads : (c : In-loop-i) →
    RunReads c.args.rwidth.now c.loop-i.at.ruby (run_at Right (job (goal.at.In-loop-i c).Start) c.args.p (c.loop-i.i - c.args.p.base))
reads c =
    reads_at (job (goal.at.In-loop-i c).Start) c.args.p c.args.rows.now c.requires (c.loop-i.i - c.args.p.base) (inside c) c.loop-i.at c.loop-i.invariant.0

-- its width
wide : (c : After-run_width-own) →
    c.run_width-own.result ≡ run_width Right (job (goal.at.After-run_width-own c).Start) c.args.p (c.loop-i.i - c.args.p.base)
wide c =
    c.run_width-own.ensures ∙ own_at (job (goal.at.After-run_width-own c).Start) c.args.p c.args.rows.now c.requires (c.loop-i.i - c.args.p.base) (inside (goal.at.After-run_width-own c).In-loop-i) c.loop-i.at c.loop-i.invariant.0

pub overflow_add-r : goal.overflow_add-r
overflow_add-r c = omega (arith, (reads (goal.at.overflow_add-r c).In-loop-i).few)

pub run_width-own-requires : goal.run_width-own-requires
run_width-own-requires c = let r = reads (goal.at.run_width-own-requires c).In-loop-i in (omega arith, r.few, r.width, r.narrow)

pub offset_bounds-rclass-r : goal.offset_bounds-rclass-r
offset_bounds-rclass-r c = omega (arith, (reads (goal.at.offset_bounds-rclass-r c).In-loop-i).few)

pub bounds-rclass-r : goal.bounds-rclass-r
bounds-rclass-r c =
    class-at (job (goal.at.bounds-rclass-r c).Start) c.args.p c.args.rows.now c.requires (c.loop-i.i - c.args.p.base) (inside (goal.at.bounds-rclass-r c).In-loop-i) c.loop-i.at c.loop-i.invariant.0

pub overflow_cast-rows-in-loop-i : goal.overflow_cast-rows-in-loop-i
overflow_cast-rows-in-loop-i c = omega (arith, (reads (goal.at.overflow_cast-rows-in-loop-i c).In-loop-i).few)

pub past_run-at-requires : goal.past_run-at-requires
past_run-at-requires c =
    past-ready (job (goal.at.past_run-at-requires c).Start) c.args.p c.args.rows.now c.requires (c.loop-i.i - c.args.p.base) (inside (goal.at.past_run-at-requires c).In-loop-i) c.loop-i.at c.loop-i.invariant.0 c.run_width-own.result (wide (goal.at.past_run-at-requires c).After-run_width-own)

pub loop-i-preserved : goal.loop-i-preserved
loop-i-preserved c =
    let x = c.args in
    let J = job (goal.at.loop-i-preserved c).Start in
    let i = c.loop-i.i in
    let q = c.loop-i.invariant in
    let wide-is = wide (goal.at.loop-i-preserved c).After-run_width-own in
    let row = run_row_lem J x.p x.w x.ends i c.loop-i.at (run_at Right J x.p (i - x.p.base)) c.run_width-own.result c.is_western-western.result q.0 refl wide-is c.is_western-western.ensures in (
      c.past_run-at.ensures ∙ past_run_lem J x.p (i - x.p.base) c.loop-i.at _ c.run_width-own.result q.0 refl wide-is ∙ cursor_next J x.p i c.loop-i.auto.i,
      filled_more (λ j. beside (jukugo_row J x.p x.w x.ends j) x.left) x.p.base i x.rows.now c.loop-i.rows _ c.loop-i.auto.i (omega (arith, c.requires.held, c.loop-i-test.true)) q.1
          (rw (c.with_left-row.ensures, c.own_word.ensures) (ap (λ r. beside r x.left) row)),
    )
