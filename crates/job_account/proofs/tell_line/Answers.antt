-- Before each piece, what is written and what the pieces from there on add make up the whole line; a piece writes its row, and the element behind it is the next unless it goes
-- on there or the line's end cuts it. Behind the line's end nothing is left to write.
use mathlib.Core.Path.{◌≡◌, ap, ◌∙◌}
use mathlib.Core.Bool.{cond}
use Prim.Native.Nat.{◌+◌}
use lib.Dec.{leb}
use Rattle.cells.specs.declared.Cell.{Cell}
use Rattle.cells.specs.Cells.{cell_at, stop}
use Rattle.job_account.specs.Table.{told_at}
use Rattle.job_account.specs.Line as one
use Rattle.job_account.proofs.tell_line.Goals as goal
use Rattle.job_account.proofs.tell_line.Goals.{After-row-a, After-min, After-tell_piece-told}

-- the piece's row, where it ends, and what is told of it
cell-is : (c : After-row-a) → c.loop-i.i + c.row-a.result.now.bases ≡ c.loop-i.i + (cell_at c.args.t.now c.loop-i.i).bases
cell-is c = ap (λ (z : Cell). c.loop-i.i + z.bases) c.row-a.ensures

end_is : (c : After-min) → c.min.result ≡ stop c.args.t.now c.loop-i.i c.args.e
end_is c = c.min.ensures ∙ rw c.row-a.ensures

told_is : (c : After-tell_piece-told) → let a = c.args in
    c.tell_piece-told.result ≡ told_at a.t.now c.loop-i.i (stop a.t.now c.loop-i.i a.e) c.loop-i.st c.loop-i.j c.loop-i.b
told_is c = c.tell_piece-told.ensures ∙ rw (end_is (goal.at.After-tell_piece-told c).After-min)

pub loop-i-init : goal.loop-i-init
loop-i-init c = one.along-first c.requires

pub tell_piece-told-requires : goal.tell_piece-told-requires
tell_piece-told-requires c =
    rw (end_is c) (one.can_advance c.requires c.loop-i.invariant c.loop-i-test.true)

pub put_row-requires : goal.put_row-requires
put_row-requires c =
    rw (told_is (goal.at.put_row-requires c).After-tell_piece-told) (one.row-ready c.requires c.loop-i.invariant c.loop-i-test.true)

pub loop-i-preserved : goal.loop-i-preserved
loop-i-preserved c =
    let a = c.args in
    one.along-next c.requires c.loop-i.invariant c.loop-i-test.true (cell-is (goal.at.loop-i-preserved c).After-row-a) (told_is (goal.at.loop-i-preserved c).After-tell_piece-told)
    (c.next_index-k.ensures ∙ ap (λ (z : Cell). c.loop-i.k + cond z.more 0 (cond (leb (c.loop-i.i + z.bases) a.e) 1 0)) c.row-a.ensures) c.put_row.ensures

pub returns : goal.returns
returns c = (
  one.at-end c.requires c.loop-i.invariant c.loop-i-test.false,
  one.told-all c.requires c.loop-i.invariant c.loop-i-test.false,
)
