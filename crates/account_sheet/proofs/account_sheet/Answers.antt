-- The reading's answer decides, and of a sound one what the filling found: a refusal, whose table tells what a declined line needs, or lines, from which the lists are made and the text is written.
-- The tables of a sound reading hold the sheet's job, with as many base characters and elements as they count, so what is told of the job that they hold is the account.
use mathlib.Core.Path.{◌≡◌, subst}
use native.Mathlib.Omega.{arith}
use borrow.Author.Rules.{rules}
use lib.ListN.{replicate}
use Rattle.sheet.specs.Sheet.{Tables, tables}
use Rattle.door.specs.Job.{Job}
use Prim.Native.Nat.{ℕ}
use Rattle.std.specs.Prelude.{Result}
use Rattle.refusal.specs.declared.Refusal.{Refusal}
use Rattle.join.specs.Rows.{table_of}
use Rattle.engine.specs.Filled.{Fills}
use Rattle.result.specs.Short.{refusal_short}
use Rattle.sheet_job.specs.Tables.{tables_job, Lent, TablesLong}
use Rattle.sheet_job.specs.Read.{tables-long}
use Rattle.job_account.specs.Outcome.{room}
use Rattle.job_account.specs.Outcome as outcome
use Rattle.account_sheet.specs.Needs as needs
use Rattle.account_sheet.specs.Tell as tell
use Rattle.account_sheet.specs.Whole.{fits, answered-refused, most, answered-sound}
use Rattle.account_sheet.proofs.account_sheet.Goals as goal
use Rattle.account_sheet.proofs.account_sheet.Goals.{After-fill_tables, In-Ok}

-- the tables as they were read, and the lists, which have room for as many base characters as there can be
abbrev held : In-Ok → Tables
held r = let l = r.read_sheet.new in tables l.set l.base l.ruby l.left l.elem l.runs l.lruns

full : (r : In-Ok) → let x = r.args in 1024 ≡ room x.rows.now x.told.now x.extents.now
full r =
    let x = r.args in
    most x.rows.now x.told.now x.extents.now (search rules) (search rules) (search rules)

lent : (r : In-Ok) → Lent (held r)
lent r =
    record {
      nine = search rules;
      long_base = search rules;
      long_ruby = search rules;
      rest = record { long_left = search rules; long_elem = search rules; long_runs = search rules; long_lruns = search rules };
    }

within : (r : In-Ok) → TablesLong r.in-Ok.n (held r)
within r = tables-long r.read_sheet.ensures r.in-Ok.is (lent r)

-- what was found of their job, and where it is matched
abbrev job : After-fill_tables → Job
job f = tables_job f.in-Ok.n (held (goal.at.After-fill_tables f).In-Ok)

found : (f : After-fill_tables) {a : Result ℕ Refusal} → f.fill_tables.result ≡ a →
    let l = f.fill_tables.new in Fills (job f) 1024 2048 2048 1024 (replicate 1024 0) (replicate 1024 0) (table_of (job f) l.rows) l.ends l.extents a
found f e =
    let l = f.fill_tables.new in
    subst (Fills (job f) 1024 2048 2048 1024 (replicate 1024 0) (replicate 1024 0) (table_of (job f) l.rows) l.ends l.extents) e f.fill_tables.ensures.fact

pub write_refusal-requires : goal.write_refusal-requires
write_refusal-requires c = omega (arith, refusal_short c.in-Err.why)

pub fill_tables-requires : goal.fill_tables-requires
fill_tables-requires c = within (goal.at.fill_tables-requires c).In-Ok

pub write_declined-requires : goal.write_declined-requires
write_declined-requires c =
    let a = goal.at.write_declined-requires c in
    rw c.table-t.ensures (needs.ready (found a.After-fill_tables c.in-Err-fill_tables.is) (tell.many-bases (within a.In-Ok)) (search rules))

pub put_lists-requires : goal.put_lists-requires
put_lists-requires c =
    let a = goal.at.put_lists-requires c in
    let x = c.args in
    let l = c.fill_tables.new in
    let q = found a.After-fill_tables c.in-Ok-fill_tables.is in
    record {
      lines_ready = rw c.table-t-in-Ok-fill_tables.ensures (outcome.ready (job a.After-fill_tables) x.rows.now x.told.now x.extents.now 1024 (full a.In-Ok) _ _ _ l.ends l.extents c.in-Ok-fill_tables.k q);
      n_bound = outcome.room-extents (job a.After-fill_tables) x.rows.now x.told.now x.extents.now 1024 (full a.In-Ok) _ _ _ l.ends l.extents c.in-Ok-fill_tables.k q;
    }

pub write_clear-requires : goal.write_clear-requires
write_clear-requires c =
    let a = goal.at.write_clear-requires c in
    let x = c.args in
    let l = c.fill_tables.new in
    record {
      long = (lent a.In-Ok).rest.long_elem;
      few = (within a.In-Ok).few.elements;
      lists =
          tell.account-ready (job a.After-fill_tables) x.rows.now x.told.now x.extents.now (full a.In-Ok) _ _ _ l.ends l.extents c.in-Ok-fill_tables.k (found a.After-fill_tables c.in-Ok-fill_tables.is) _ _ _
          (rw c.table-t-in-Ok-fill_tables.ensures at c.put_lists.ensures) c.in-Ok.n.elements (tell.many-elements (within a.In-Ok)) (search rules);
    }

pub returns-in-Err : goal.returns-in-Err
returns-in-Err c =
    let a = answered-refused c.read_sheet.ensures c.in-Err.is c.write_refusal.ensures in
    record { answers = a; fits = fits a (search rules) }

pub returns-in-Err-fill_tables : goal.returns-in-Err-fill_tables
returns-in-Err-fill_tables c =
    let p = goal.at.returns-in-Err-fill_tables c in
    let x = c.args in
    let q = found p.After-fill_tables c.in-Err-fill_tables.is in
    let wrote = rw (c.table-t.ensures, needs.same_text q (tell.many-bases (within p.In-Ok))) at c.write_declined.ensures in
    let t = tell.told-refused (job p.After-fill_tables) x.rows.now x.told.now x.extents.now (full p.In-Ok) q wrote in
    let a = answered-sound c.read_sheet.ensures c.in-Ok.is (lent p.In-Ok) (full p.In-Ok) t in
    record { answers = a; fits = fits a (search rules) }

pub returns-in-Ok-fill_tables : goal.returns-in-Ok-fill_tables
returns-in-Ok-fill_tables c =
    let p = goal.at.returns-in-Ok-fill_tables c in
    let x = c.args in
    let l = c.fill_tables.new in
    let t = tell.told-set (job p.After-fill_tables) x.rows.now x.told.now x.extents.now (full p.In-Ok) _ _ _ l.ends l.extents c.in-Ok-fill_tables.k (found p.After-fill_tables c.in-Ok-fill_tables.is) _ _ _
    (rw c.table-t-in-Ok-fill_tables.ensures at c.put_lists.ensures) c.in-Ok.n.elements (tell.many-elements (within p.In-Ok)) c.write_clear.ensures in
    let a = answered-sound c.read_sheet.ensures c.in-Ok.is (lent p.In-Ok) (full p.In-Ok) t in
    record { answers = a; fits = fits a (search rules) }
