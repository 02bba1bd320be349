-- What is judged before any element, the elements, the lines: each passes or has the first refusal of all.
use native.Mathlib.Omega.{arith}
use Rattle.door.specs.Lent.{job_in}
use Rattle.engine.specs.Filled.{Judged, Laid}
use Rattle.engine.specs.Filled as filled
use Rattle.engine.proofs.fill_job.Goals as goal
use Rattle.engine.proofs.fill_job.Goals.{In_ok-layout, In_ok-sizes}

judged : (c : In_ok-sizes) → let l = c.args.lengths in Judged (job_in c.args.job.now) l.base l.ruby l.left l.lines c.in_ok-sizes.sizes
judged c = filled.judged c.check.ensures c.in_ok-sizes.was

laid : (c : In_ok-layout) → let l = c.args.lengths in Laid c.layout.new.rows (job_in c.args.job.now) l.base l.ruby l.left l.lines c.in_ok-sizes.sizes
laid c = filled.laid (judged (goal.at.In_ok-layout c).In_ok-sizes) c.layout.new.rows c.layout.ensures c.in_ok-layout.was

pub layout-requires : goal.layout-requires
layout-requires c = filled.ready (judged (goal.at.layout-requires c).In_ok-sizes) c.requires

pub fill_lines-requires : goal.fill_lines-requires
fill_lines-requires c = rw c.new-t.ensures (filled.fillable (laid (goal.at.fill_lines-requires c).In_ok-layout) c.requires)

pub returns : goal.returns
returns c = filled.fills (laid (goal.at.returns c).In_ok-layout) _ _ _ _ (rw c.new-t.ensures at c.fill_lines.ensures)

pub returns-in_err-sizes : goal.returns-in_err-sizes
returns-in_err-sizes c = filled.stops _ c.from_residual.ensures.1 (filled.by-check c.check.ensures _ _ _ c.in_err-sizes.was)

pub returns-in_err-layout : goal.returns-in_err-layout
returns-in_err-layout c =
    filled.stops _ c.from_residual-in_err-layout.ensures.1 (filled.by-elements (judged (goal.at.returns-in_err-layout c).In_ok-sizes) c.layout.new.rows c.layout.ensures _ _ c.in_err-layout.was)

pub overflow_mul-job : goal.overflow_mul-job
overflow_mul-job c = omega (arith, (filled.passed (laid (goal.at.overflow_mul-job c).In_ok-layout)).measure)
