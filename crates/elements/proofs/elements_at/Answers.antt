-- A head that was read has its lines, and under one that is refused nothing is read.
use Rattle.std.proofs.Common.{rules}
use Rattle.elements.specs.Reading.{part_ready, none_read}
use Rattle.elements.proofs.elements_at.Goals as goal

pub returns-in_err-first : goal.returns-in_err-first
returns-in_err-first c = let h = none_read c.args.form c.args.s.now _ _ c.args.table.now c.args.runs.now c.args.lruns.now c.in_err-first.was in search rules

pub lines_at-requires : goal.lines_at-requires
lines_at-requires c = part_ready _ _ _ _ _ _ c.in_ok-first.was c.requires
