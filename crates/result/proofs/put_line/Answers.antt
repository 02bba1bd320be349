-- Before each element, what is written and what the elements from there on add make up the whole line.
use mathlib.Core.Path.{refl}
use native.Mathlib.Omega.{arith}
use Rattle.result.specs.Line.{printing_first, printing_end, line-table, last-held, ahead, base-ready, right-ready, left-ready, printing_next}
use Rattle.result.proofs.put_line.Goals as goal

pub loop-i-init : goal.loop-i-init
loop-i-init c = printing_first c.requires

pub last_piece-z-requires : goal.last_piece-z-requires
last_piece-z-requires c = (c.loop-i-test.true, line-table c.loop-i.invariant.ready)

pub piece_end-c-requires : goal.piece_end-c-requires
piece_end-c-requires c =
    let v = c.loop-i.invariant in
    last-held v.ready c.loop-i-test.true (v.begins c.loop-i-test.true) c.last_piece-z.ensures refl

pub overflow_sub-c : goal.overflow_sub-c
overflow_sub-c c =
    omega (arith, (ahead c.loop-i.invariant c.loop-i-test.true c.last_piece-z.ensures c.piece_end-c.ensures).0)

pub put_rows-over-requires : goal.put_rows-over-requires
put_rows-over-requires c =
    base-ready c.loop-i.invariant c.loop-i-test.true c.last_piece-z.ensures c.piece_end-c.ensures

pub put_side-beside-requires : goal.put_side-beside-requires
put_side-beside-requires c =
    right-ready c.loop-i.invariant c.loop-i-test.true c.last_piece-z.ensures c.piece_end-c.ensures c.put_rows-over.ensures

pub put_side-at-requires : goal.put_side-at-requires
put_side-at-requires c =
    left-ready c.loop-i.invariant c.loop-i-test.true c.last_piece-z.ensures c.piece_end-c.ensures c.put_rows-over.ensures c.put_side-beside.ensures

pub loop-i-smaller : goal.loop-i-smaller
loop-i-smaller c =
    omega (arith, ahead c.loop-i.invariant c.loop-i-test.true c.last_piece-z.ensures c.piece_end-c.ensures, c.loop-i-test.true)

pub loop-i-preserved : goal.loop-i-preserved
loop-i-preserved c =
    printing_next c.loop-i.invariant c.loop-i-test.true c.last_piece-z.ensures c.piece_end-c.ensures c.put_rows-over.ensures c.put_side-beside.ensures c.put_side-at.ensures

pub shape_of-out : goal.shape_of-out
shape_of-out c = c.loop-i.invariant.rest.long

pub returns : goal.returns
returns c = printing_end c.loop-i.invariant c.loop-i-test.false
