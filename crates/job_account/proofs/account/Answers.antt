-- What was found, by its two cases: the first refusal of all, where no list has been lent to anything yet, or a table and lines, whose account is told.
use mathlib.Core.Path.{◌≡◌, subst}
use mathlib.Core.List.{List}
use Prim.Native.Nat.{ℕ}
use Rattle.std.specs.Prelude.{Result}
use Rattle.refusal.specs.declared.Refusal.{Refusal}
use Rattle.door.specs.Job.{Job}
use Rattle.door.specs.Lent.{job_in}
use Rattle.cells.specs.Rows.{Rows}
use Rattle.join.specs.Rows.{table_of}
use Rattle.engine.specs.Filled.{Fills}
use Rattle.job_account.specs.Outcome as outcome
use Rattle.job_account.proofs.account.Goals as goal
use Rattle.job_account.proofs.account.Goals.{After-fill_job, Start}

abbrev job : Start → Job
job a = job_in a.args.job.now

-- for how many base characters the lists have room
abbrev room : After-fill_job → ℕ
room c = c.room_of.result

-- the table, and the ends and extents of its lines
abbrev table : After-fill_job → Rows
table c = table_of (job (goal.at.After-fill_job c).Start) c.fill_job.new.rows

abbrev ends : After-fill_job → List ℕ
ends c = c.fill_job.new.ends

abbrev extents : After-fill_job → List ℕ
extents c = c.fill_job.new.extents

-- what was found
told : (c : After-fill_job) {r : Result ℕ Refusal} → c.fill_job.result ≡ r →
    (was : List ℕ) × (wasFar : List ℕ) × Fills (job (goal.at.After-fill_job c).Start) 1024 2048 2048 (room c) was wasFar (table c) (ends c) (extents c) r
told c e = (_, _, subst (Fills (job (goal.at.After-fill_job c).Start) 1024 2048 2048 (room c) _ _ (table c) (ends c) (extents c)) e c.fill_job.ensures)

pub tell_lines-requires : goal.tell_lines-requires
tell_lines-requires c =
    let x = c.args in
    let w = told (goal.at.tell_lines-requires c).After-fill_job c.in-Ok.is in
    rw c.new-t.ensures
    (outcome.ready (job (goal.at.tell_lines-requires c).Start) x.rows.now x.told.now x.extents.now (room (goal.at.tell_lines-requires c).After-fill_job) c.room_of.ensures w.0 w.1
    (table (goal.at.tell_lines-requires c).After-fill_job) (ends (goal.at.tell_lines-requires c).After-fill_job) (extents (goal.at.tell_lines-requires c).After-fill_job) c.in-Ok.n w.2)

pub put_extents-requires : goal.put_extents-requires
put_extents-requires c =
    let x = c.args in
    let w = told (goal.at.put_extents-requires c).After-fill_job c.in-Ok.is in
    outcome.room-extents (job (goal.at.put_extents-requires c).Start) x.rows.now x.told.now x.extents.now (room (goal.at.put_extents-requires c).After-fill_job) c.room_of.ensures w.0 w.1
    (table (goal.at.put_extents-requires c).After-fill_job) (ends (goal.at.put_extents-requires c).After-fill_job) (extents (goal.at.put_extents-requires c).After-fill_job) c.in-Ok.n w.2

pub returns-in-Err : goal.returns-in-Err
returns-in-Err c =
    let x = c.args in
    outcome.refused (job (goal.at.returns-in-Err c).Start) x.rows.now x.told.now x.extents.now (room (goal.at.returns-in-Err c).After-fill_job) c.room_of.ensures (told (goal.at.returns-in-Err c).After-fill_job c.in-Err.is).2

pub returns-in-Ok : goal.returns-in-Ok
returns-in-Ok c =
    let x = c.args in
    let w = told (goal.at.returns-in-Ok c).After-fill_job c.in-Ok.is in
    outcome.tells (job (goal.at.returns-in-Ok c).Start) x.rows.now x.told.now x.extents.now (room (goal.at.returns-in-Ok c).After-fill_job) c.room_of.ensures w.0 w.1
    (table (goal.at.returns-in-Ok c).After-fill_job) (ends (goal.at.returns-in-Ok c).After-fill_job) (extents (goal.at.returns-in-Ok c).After-fill_job) c.in-Ok.n w.2 _ _ _ (rw c.new-t.ensures at c.tell_lines.ensures) c.put_extents.ensures
