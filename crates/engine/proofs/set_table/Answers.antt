-- A refusal leaves the result lists as they were; lines that fill the job are written.
use mathlib.Core.Path.{◌≡◌, subst}
use Prim.Native.Nat.{ℕ}
use lib.ListN.{length}
use Rattle.std.specs.Prelude.{Result}
use Rattle.refusal.specs.declared.Refusal.{Refusal}
use Rattle.door.specs.Lent.{job_in}
use Rattle.engine.specs.Filled.{Fills}
use Rattle.join.specs.Rows.{table_of}
use Rattle.engine.specs.Whole as whole
use Rattle.engine.proofs.set_table.Goals as goal
use Rattle.engine.proofs.set_table.Goals.{After-fill_job}

-- what was found
told : (f : After-fill_job) {a : Result ℕ Refusal} → f.fill_job.result ≡ a →
    let x = f.args in
    let r = x.results.now in
    let l = f.fill_job.new in
    Fills (job_in x.job.now) (length r.base.now) (length r.ruby.now) (length r.left.now) (length r.lines.now) x.ends.now x.extents.now (table_of (job_in x.job.now) l.rows) l.ends l.extents a
told f e =
    let x = f.args in
    let r = x.results.now in
    let l = f.fill_job.new in
    subst (Fills (job_in x.job.now) (length r.base.now) (length r.ruby.now) (length r.left.now) (length r.lines.now) x.ends.now x.extents.now (table_of (job_in x.job.now) l.rows) l.ends l.extents) e f.fill_job.ensures

pub put_lines-requires : goal.put_lines-requires
put_lines-requires c =
    let r = c.args.results.now in
    rw c.new-t.ensures (whole.ready (job_in c.args.job.now) r.base.now r.ruby.now r.left.now r.lines.now _ _ _ _ _ _ (told (goal.at.put_lines-requires c).After-fill_job c.in-Ok.is))

pub put_ends-requires : goal.put_ends-requires
put_ends-requires c =
    let r = c.args.results.now in
    whole.room (job_in c.args.job.now) r.base.now r.ruby.now r.left.now r.lines.now _ _ _ _ _ _ (told (goal.at.put_ends-requires c).After-fill_job c.in-Ok.is)

pub returns-in-Err-clause-sets : goal.returns-in-Err-clause-sets
returns-in-Err-clause-sets c =
    let r = c.args.results.now in
    whole.refused (job_in c.args.job.now) r.base.now r.ruby.now r.left.now r.lines.now (told (goal.at.returns-in-Err-clause-sets c).After-fill_job c.in-Err.is)

pub returns-in-Ok-clause-sets : goal.returns-in-Ok-clause-sets
returns-in-Ok-clause-sets c =
    let r = c.args.results.now in
    whole.sets (job_in c.args.job.now) r.base.now r.ruby.now r.left.now r.lines.now _ _ _ _ _ _ (told (goal.at.returns-in-Ok-clause-sets c).After-fill_job c.in-Ok.is) _ _ _ _ (rw c.new-t.ensures at c.put_lines.ensures) c.put_ends.ensures
