-- The line at fault decides first, then what the filling of the tables' job found: its refusal, or that it has none.
use Rattle.std.specs.Prelude.{◌≡◌, replicate}
use Rattle.std.proofs.Common.{◌∙◌, ap, sym, subst}
use Rattle.sheet.specs.Sheet.{tables}
use Rattle.door.specs.Job.{Job}
use Rattle.job.specs.Refusals.{fault}
use Prim.Native.Nat.{ℕ}
use Rattle.std.specs.Prelude.{Result, Ok, Err, IsErrAnd, ⊤}
use Rattle.refusal.specs.declared.Refusal.{Refusal}
use Rattle.join.specs.Rows.{table_of}
use Rattle.engine.specs.Filled.{Fills, no-fault}
use Rattle.sheet_job.specs.Tables.{tables_job}
use Rattle.converter.specs.Steps.{refused-line, own-verdict}
use Rattle.converter.proofs.judge.Goals as goal
use Rattle.converter.proofs.judge.Goals.{After-fill_tables, Start}

abbrev job : Start → Job
job a = let x = a.args in tables_job x.n (tables x.set.now x.base.now x.ruby.now x.left.now x.elem.now x.runs.now x.lruns.now)

-- what was found
told : (c : After-fill_tables) {a : Result ℕ Refusal} → c.fill_tables.result ≡ a →
    Fills (job (goal.at.After-fill_tables c).Start) 1024 2048 2048 1024 (replicate 1024 0) (replicate 1024 0) (table_of (job (goal.at.After-fill_tables c).Start) c.fill_tables.new.rows) c.fill_tables.new.ends c.fill_tables.new.extents a
told c e =
    subst
    (Fills (job (goal.at.After-fill_tables c).Start) 1024 2048 2048 1024 (replicate 1024 0) (replicate 1024 0) (table_of (job (goal.at.After-fill_tables c).Start) c.fill_tables.new.rows) c.fill_tables.new.ends c.fill_tables.new.extents) e
    c.fill_tables.ensures.fact

pub returns-in-Some : goal.returns-in-Some
returns-in-Some c =
    refused-line _ (fault (job (goal.at.returns-in-Some c).Start) 1024 2048 2048 1024) (sym c.in-Some.is ∙ c.fault_line.ensures)

-- a refusal that is passed on
passed_on : {q : Refusal} (r : Result ⊤ Refusal) → IsErrAnd r (λ e. e ≡ q) → r ≡ Err q
passed_on (Ok u) h = absurd h
passed_on (Err e) h = ap Err h

pub returns-in_err-fill_tables : goal.returns-in_err-fill_tables
returns-in_err-fill_tables c =
    passed_on _ c.from_residual.ensures.1
    ∙ own-verdict _ (sym c.in_default.is ∙ c.fault_line.ensures) (told (goal.at.returns-in_err-fill_tables c).After-fill_tables c.in_err-fill_tables.was).first

pub returns : goal.returns
returns c =
    own-verdict _ (sym c.in_default.is ∙ c.fault_line.ensures) (no-fault (told (goal.at.returns c).After-fill_tables c.in_ok-fill_tables.was))
