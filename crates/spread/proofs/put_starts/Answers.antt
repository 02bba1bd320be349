-- The loop holds what stands on the trainee's paper (`Held`), and that is document 01's start of the character it writes. Nothing passes the string's end.
use Rattle.std.proofs.Common.{mod-lt, arith, length-set}
use Rattle.std.specs.Prelude.{refl, ◌+◌, ◌-◌, ◌*◌, ◌/◌, ◌<◌, length, get_or}
use Rattle.spread.specs.Running.{held_start, held_below, held_next, held_more, held_le, held-room, written-first, written_next, written_all}
use Rattle.spread.proofs.put_starts.Goals as goal
use Rattle.spread.proofs.put_starts.Goals.{At-loop-i, In-loop-i}

-- two characters or more
many : (c : At-loop-i) → 1 < length c.args.ws.now
many c = omega arith

gaps : (c : At-loop-i) → 0 < length c.args.ws.now - 1
gaps c = omega (arith, many c)

-- what is added at a gap stays within the string
room : (c : In-loop-i) →
    c.loop-i.x
    + (2 * get_or c.args.ws.now c.loop-i.i 0
    + c.args.within / (length c.args.ws.now - 1))
    < 4294967296
room c = omega (arith, held-room c.loop-i.invariant.held c.loop-i-test.true)

pub returns-then-n-eq0 : goal.returns-then-n-eq0
returns-then-n-eq0 c = written_all {k = 0} (omega arith) (omega arith) (record { each = λ j b. absurd (omega arith) })

pub shape_of-out-then-n-eq1 : goal.shape_of-out-then-n-eq1
shape_of-out-then-n-eq1 c = simp length-set (omega arith)

pub returns-then-n-eq1 : goal.returns-then-n-eq1
returns-then-n-eq1 c = written_all (simp length-set (omega arith)) (omega arith) (written-first c.args.out.now (omega arith))

pub loop-i-init : goal.loop-i-init
loop-i-init c = record {
  along = omega arith;
  long = simp length-set (omega arith);
  held = record { here = omega arith; kept = refl };
  made = written-first c.args.out.now (omega arith);
}

pub overflow_add-left : goal.overflow_add-left
overflow_add-left c = omega (arith, held_below c.loop-i.invariant.held (many (goal.at.overflow_add-left c).At-loop-i), mod-lt c.args.within (gaps (goal.at.overflow_add-left c).At-loop-i))

pub overflow_mul-x : goal.overflow_mul-x
overflow_mul-x c = omega (arith, room (goal.at.overflow_mul-x c).In-loop-i)

pub overflow_add-x : goal.overflow_add-x
overflow_add-x c = omega (arith, room (goal.at.overflow_add-x c).In-loop-i)

pub overflow_add-x-in-loop-i : goal.overflow_add-x-in-loop-i
overflow_add-x-in-loop-i c = omega (arith, room (goal.at.overflow_add-x-in-loop-i c).In-loop-i)

pub loop-i-preserved-then-left-gaps : goal.loop-i-preserved-then-left-gaps
loop-i-preserved-then-left-gaps c =
    let h = held_next c.loop-i.invariant.held (omega arith) c.if-left-gaps.true in
    record {
      along = omega arith;
      long = simp length-set (omega arith);
      held = h;
      made = written_next _ (omega arith) (held_start h (many (goal.at.loop-i-preserved-then-left-gaps c).At-loop-i)) c.loop-i.invariant.made;
    }

pub overflow_add-x-else-left-gaps : goal.overflow_add-x-else-left-gaps
overflow_add-x-else-left-gaps c =
    omega (arith, held_le (held_more c.loop-i.invariant.held (omega arith) c.if-left-gaps.false) (many (goal.at.overflow_add-x-else-left-gaps c).At-loop-i) (omega arith))

pub loop-i-preserved : goal.loop-i-preserved
loop-i-preserved c =
    let h = held_more c.loop-i.invariant.held (omega arith) c.if-left-gaps.false in
    record {
      along = omega arith;
      long = simp length-set (omega arith);
      held = h;
      made = written_next _ (omega arith) (held_start h (many (goal.at.loop-i-preserved c).At-loop-i)) c.loop-i.invariant.made;
    }

pub returns : goal.returns
returns c = written_all c.loop-i.invariant.long (omega arith) c.loop-i.invariant.made
