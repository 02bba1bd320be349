-- What is found of the job is found of the tables'; the tables for rows and lines are as long as any job needs.
use mathlib.Core.Path.{subst}
use borrow.Author.Rules.{rules}
use Rattle.join.specs.Rows.{table_of}
use Rattle.engine.specs.Filled.{Fills}
use Rattle.sheet_job.proofs.fill_tables.Goals as goal

pub fill_job-requires : goal.fill_job-requires
fill_job-requires c = record { rows = λ h. search rules; ends = λ h. search rules; extents = λ h. search rules }

pub returns-clause-fact : goal.returns-clause-fact
returns-clause-fact c =
    let x = c.args in
    let l = c.fill_job.new in
    subst (λ j. Fills j 1024 2048 2048 1024 x.ends.now x.extents.now (table_of j l.rows) l.ends l.extents c.fill_job.result) c.job_at-job.ensures c.fill_job.ensures
