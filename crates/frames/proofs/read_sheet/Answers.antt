-- What fills the room is the front of the sheet, and what is skipped is the rest of it.
use Rattle.std.proofs.Common.{rules, arith}
use Rattle.frames.proofs.Steps.{sheet-read}
use Rattle.frames.proofs.read_sheet.Goals as goal

pub returns-clause-bytes : goal.returns-clause-bytes
returns-clause-bytes g c =
    let f = c.in_ok-got.ensures in
    sheet-read _ _ _ c.args.n c.min-m.result c.args.room.now c.fill.new.room c.in_ok-got.got (search rules) (omega (arith, f.room)) f.count.0 f.bytes f.end c.in_ok-skip.ensures
