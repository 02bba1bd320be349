-- The first row says where the side's characters begin and the last piece where they end; on either side their rows are those from there on.
use mathlib.Core.Path.{sym, ap, ◌∙◌}
use native.Mathlib.Omega.{arith}
use Rattle.result.specs.Text.{letter}
use Rattle.result.specs.Element.{rows-ready, no_rows, side-written}
use Rattle.result.proofs.put_side.Goals as goal

pub share_at-own-requires : goal.share_at-own-requires
share_at-own-requires c = let p = c.requires in omega (arith, p.low, p.ahead, p.held)

pub returns-then-own-eq0 : goal.returns-then-own-eq0
returns-then-own-eq0 c =
    no_rows c.requires c.if-z-i.true (sym (ap (λ z. z.many) c.share_at-own.ensures) ∙ c.if-own-eq0.true)

pub reading_upto-requires : goal.reading_upto-requires
reading_upto-requires c = let p = c.requires in (p.ahead, p.few, p.held)

pub overflow_sub-n : goal.overflow_sub-n
overflow_sub-n c =
    omega (arith, c.reading_upto.ensures, ap (λ z. z.first) c.share_at-own.ensures, c.requires.onward)

pub put_rows-requires : goal.put_rows-requires
put_rows-requires c =
    rows-ready c.requires (ap letter (sym c.in-Right.is)) (ap (λ z. z.first) c.share_at-own.ensures) c.reading_upto.ensures

pub put_rows-requires-in-Left : goal.put_rows-requires-in-Left
put_rows-requires-in-Left c =
    rows-ready c.requires (ap letter (sym c.in-Left.is)) (ap (λ z. z.first) c.share_at-own.ensures) c.reading_upto.ensures

pub returns-in-Right : goal.returns-in-Right
returns-in-Right c =
    side-written c.requires (ap letter (sym c.in-Right.is)) (ap (λ z. z.first) c.share_at-own.ensures) c.reading_upto.ensures c.put_rows.ensures

pub returns-in-Left : goal.returns-in-Left
returns-in-Left c =
    side-written c.requires (ap letter (sym c.in-Left.is)) (ap (λ z. z.first) c.share_at-own.ensures) c.reading_upto.ensures c.put_rows-in-Left.ensures
