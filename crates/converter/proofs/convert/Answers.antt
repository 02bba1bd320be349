-- The reading's answer decides, and of a sound sheet, whose numbers the tables hold, the verdict on these: a refusal is written, or the other sheet.
use Rattle.std.proofs.Common.{arith, rules}
use Rattle.sheet.specs.Sheet.{Tables, tables}
use Rattle.result.specs.Short.{refusal_short}
use Rattle.sheet_job.specs.Tables.{Lent}
use Rattle.converter.specs.Convert.{TablesHold}
use Rattle.converter.proofs.Steps.{judge_ready, wrote_verdict, other-ready}
use Rattle.converter.proofs.Whole.{converted_fits, converted_refused, tables_hold, converted_written}
use Rattle.converter.proofs.convert.Goals as goal
use Rattle.converter.proofs.convert.Goals.{In-Ok}

abbrev now : In-Ok → Tables
now r = let m = r.read_sheet.new in tables m.set m.base m.ruby m.left m.elem m.runs m.lruns

-- the tables are as long as they are lent, where the reading is sound
lent : (r : In-Ok) → Lent (now r)
lent r =
    record {
      nine = search rules;
      long_base = search rules;
      long_ruby = search rules;
      rest = record { long_left = search rules; long_elem = search rules; long_runs = search rules; long_lruns = search rules };
    }

hold : (r : In-Ok) → TablesHold r.args.s.now r.in-Ok.n (now r)
hold r = tables_hold r.read_sheet.ensures r.in-Ok.is (lent r)

pub write_refusal-requires : goal.write_refusal-requires
write_refusal-requires c = omega (arith, refusal_short c.in-Err.why)

pub judge-requires : goal.judge-requires
judge-requires c = judge_ready (hold (goal.at.judge-requires c).In-Ok)

pub write_refusal-requires-in-Err-judge : goal.write_refusal-requires-in-Err-judge
write_refusal-requires-in-Err-judge c = omega (arith, refusal_short c.in-Err-judge.why)

pub write_other-requires : goal.write_other-requires
write_other-requires c = other-ready (hold (goal.at.write_other-requires c).In-Ok) c.judge.ensures c.in-Ok-judge.is (search rules)

pub returns-in-Err : goal.returns-in-Err
returns-in-Err c =
    let a = converted_refused c.read_sheet.ensures c.in-Err.is c.write_refusal.ensures in
    record { converted = a; fits = converted_fits a (search rules) }

pub returns-in-Err-judge : goal.returns-in-Err-judge
returns-in-Err-judge c =
    let h = hold (goal.at.returns-in-Err-judge c).In-Ok in
    let a = converted_written c.read_sheet.ensures (wrote_verdict h c.judge.ensures c.in-Err-judge.is c.write_refusal-in-Err-judge.ensures) in
    record { converted = a; fits = converted_fits a (search rules) }

pub returns-in-Ok-judge : goal.returns-in-Ok-judge
returns-in-Ok-judge c =
    let h = hold (goal.at.returns-in-Ok-judge c).In-Ok in
    let a = converted_written c.read_sheet.ensures (wrote_verdict h c.judge.ensures c.in-Ok-judge.is c.write_other.ensures) in
    record { converted = a; fits = converted_fits a (search rules) }
