-- The reading's answer decides, and of a sound one what the filling found: a refusal, which moves no list, or lines, which are written to the result lists and printed from them.
-- The tables of a sound reading hold the sheet's job, so what is told of the job that they hold is the answer.
use mathlib.Core.Path.{◌≡◌, subst}
use native.Mathlib.Omega.{arith}
use borrow.Author.Rules.{rules}
use lib.ListN.{replicate}
use Rattle.sheet.specs.Sheet.{Tables, tables}
use Rattle.door.specs.Job.{Job}
use Prim.Native.Nat.{ℕ}
use Rattle.std.specs.Prelude.{Result}
use Rattle.refusal.specs.declared.Refusal.{Refusal}
use Rattle.join.specs.Rows.{table_of}
use Rattle.engine.specs.Filled.{Fills}
use Rattle.result.specs.Short.{refusal_short}
use Rattle.sheet_job.specs.Tables.{tables_job, Lent, TablesLong, column-within}
use Rattle.sheet_job.specs.Read.{tables-long}
use Rattle.setter.specs.Answer.{Lists, lists, ListsLong}
use Rattle.setter.specs.Printed.{told-refused, lines-ready, ends-room, ready, told-set}
use Rattle.setter.specs.Whole.{fits, answered-refused, answered-sound}
use Rattle.setter.proofs.set_sheet.Goals as goal
use Rattle.setter.proofs.set_sheet.Goals.{After-fill_tables, In-Ok}

-- the tables as they were read, and the result lists, of the maximum lengths
abbrev held : In-Ok → Tables
held r = let l = r.read_sheet.new in tables l.set l.base l.ruby l.left l.elem l.runs l.lruns

abbrev given : In-Ok → Lists
given r = let x = r.args in lists x.bases.now x.rubies.now x.lefts.now x.lines.now

long : (r : In-Ok) → ListsLong (given r)
long r = record { bases = search rules; rubies = search rules; lefts = search rules; ends = search rules }

lent : (r : In-Ok) → Lent (held r)
lent r =
    record {
      nine = search rules;
      long_base = search rules;
      long_ruby = search rules;
      rest = record { long_left = search rules; long_elem = search rules; long_runs = search rules; long_lruns = search rules };
    }

within : (r : In-Ok) → TablesLong r.in-Ok.n (held r)
within r = tables-long r.read_sheet.ensures r.in-Ok.is (lent r)

-- what was found of their job, and where it is matched
abbrev job : After-fill_tables → Job
job f = tables_job f.in-Ok.n (held (goal.at.After-fill_tables f).In-Ok)

told : (f : After-fill_tables) {a : Result ℕ Refusal} → f.fill_tables.result ≡ a →
    let l = f.fill_tables.new in Fills (job f) 1024 2048 2048 1024 (replicate 1024 0) (replicate 1024 0) (table_of (job f) l.rows) l.ends l.extents a
told f e =
    let l = f.fill_tables.new in
    subst (Fills (job f) 1024 2048 2048 1024 (replicate 1024 0) (replicate 1024 0) (table_of (job f) l.rows) l.ends l.extents) e f.fill_tables.ensures.fact

pub write_refusal-requires : goal.write_refusal-requires
write_refusal-requires c = omega (arith, refusal_short c.in-Err.why)

pub fill_tables-requires : goal.fill_tables-requires
fill_tables-requires c = within (goal.at.fill_tables-requires c).In-Ok

pub write_refusal-requires-in-Err-fill_tables : goal.write_refusal-requires-in-Err-fill_tables
write_refusal-requires-in-Err-fill_tables c = omega (arith, refusal_short c.in-Err-fill_tables.why)

pub overflow_add-b : goal.overflow_add-b
overflow_add-b c = omega (arith, (within (goal.at.overflow_add-b c).In-Ok).bases)

pub overflow_add-r : goal.overflow_add-r
overflow_add-r c = omega (arith, (within (goal.at.overflow_add-r c).In-Ok).rubies)

pub overflow_add-l : goal.overflow_add-l
overflow_add-l c = omega (arith, (within (goal.at.overflow_add-l c).In-Ok).few.lefts)

pub slice_bounds-put_lines-end : goal.slice_bounds-put_lines-end
slice_bounds-put_lines-end c =
    let a = goal.at.slice_bounds-put_lines-end c in (ends-room (long a.In-Ok) (told a.After-fill_tables c.in-Ok-fill_tables.is)).1

pub slice_bounds-put_lines-end-in-Ok-fill_tables : goal.slice_bounds-put_lines-end-in-Ok-fill_tables
slice_bounds-put_lines-end-in-Ok-fill_tables c =
    let r = (goal.at.slice_bounds-put_lines-end-in-Ok-fill_tables c).In-Ok in
    column-within (held r).base 1024 c.in-Ok.n.bases (lent r).long_base (within r).bases (omega arith)

pub slice_bounds-put_lines-end-in-Ok-fill_tables-2 : goal.slice_bounds-put_lines-end-in-Ok-fill_tables-2
slice_bounds-put_lines-end-in-Ok-fill_tables-2 c =
    let r = (goal.at.slice_bounds-put_lines-end-in-Ok-fill_tables-2 c).In-Ok in
    column-within (held r).ruby 2048 c.in-Ok.n.rubies (lent r).long_ruby (within r).rubies (omega arith)

pub slice_bounds-put_lines-end-in-Ok-fill_tables-3 : goal.slice_bounds-put_lines-end-in-Ok-fill_tables-3
slice_bounds-put_lines-end-in-Ok-fill_tables-3 c =
    let r = (goal.at.slice_bounds-put_lines-end-in-Ok-fill_tables-3 c).In-Ok in
    column-within (held r).left 2048 c.in-Ok.n.lefts (lent r).rest.long_left (within r).few.lefts (omega arith)

pub put_lines-requires : goal.put_lines-requires
put_lines-requires c = let a = goal.at.put_lines-requires c in rw c.table-t.ensures (lines-ready (long a.In-Ok) (told a.After-fill_tables c.in-Ok-fill_tables.is))

pub put_ends-requires : goal.put_ends-requires
put_ends-requires c = let a = goal.at.put_ends-requires c in ends-room (long a.In-Ok) (told a.After-fill_tables c.in-Ok-fill_tables.is)

pub write_result-requires : goal.write_result-requires
write_result-requires c =
    let a = goal.at.write_result-requires c in
    rw c.table-t.ensures (ready (long a.In-Ok) (told a.After-fill_tables c.in-Ok-fill_tables.is) (rw c.table-t.ensures at c.put_lines.ensures) c.put_ends.ensures (search rules))

pub returns-in-Err : goal.returns-in-Err
returns-in-Err c =
    let a = answered-refused c.read_sheet.ensures c.in-Err.is c.write_refusal.ensures in
    record { answers = a; fits = fits a (search rules) }

pub returns-in-Err-fill_tables : goal.returns-in-Err-fill_tables
returns-in-Err-fill_tables c =
    let p = goal.at.returns-in-Err-fill_tables c in
    let t = told-refused (long p.In-Ok) (told p.After-fill_tables c.in-Err-fill_tables.is) c.write_refusal-in-Err-fill_tables.ensures in
    let a = answered-sound c.read_sheet.ensures c.in-Ok.is (lent p.In-Ok) (long p.In-Ok) t in
    record { answers = a; fits = fits a (search rules) }

pub returns-in-Ok-fill_tables : goal.returns-in-Ok-fill_tables
returns-in-Ok-fill_tables c =
    let p = goal.at.returns-in-Ok-fill_tables c in
    let t = told-set (long p.In-Ok) (told p.After-fill_tables c.in-Ok-fill_tables.is) (rw c.table-t.ensures at c.put_lines.ensures) c.put_ends.ensures (rw c.table-t.ensures at c.write_result.ensures) in
    let a = answered-sound c.read_sheet.ensures c.in-Ok.is (lent p.In-Ok) (long p.In-Ok) t in
    record { answers = a; fits = fits a (search rules) }
