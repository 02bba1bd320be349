-- A turn is one frame and one call; where no frame follows, and after the last turn, all calls were made.
use Rattle.std.proofs.Common.{of_calls}
use Rattle.frames.proofs.Running.{going-over, going-full, going-next, answered}
use Rattle.frames.proofs.answer_all.Goals as goal

pub returns-in_default : goal.returns-in_default
returns-in_default g c = going-over g.F.FnMut 1000000 _ _ _ _ _ _ _ _ c.loop-turn-test.true c.loop-turn.invariant.1 _ c.in_default.is c.in_ok-n.ensures

pub loop-turn-preserved : goal.loop-turn-preserved
loop-turn-preserved g c = (
  search of_calls,
  going-next g.F.FnMut 1000000 _ _ _ _ _ _ _ _ _ _ c.in_ok-got.got c.read_sheet.new.room _ _ c.loop-turn-test.true c.loop-turn.invariant.1 _ c.in-Some.is c.in_ok-n.ensures c.in_ok-got.ensures.bytes
      (answered g.F.FnMut c.answer.ensures c.in_ok-answer.was),
)

pub returns : goal.returns
returns g c = going-full g.F.FnMut 1000000 _ _ _ _ _ _ _ c.loop-turn-test.false c.loop-turn.invariant.1
