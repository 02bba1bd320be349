-- The word of a piece that is not cut stands in its row.
use mathlib.Core.Path.{◌≡◌, sym, ap, ◌∙◌, subst}
use Rattle.word.specs.declared.Word.{Word}
use Rattle.cells.specs.Sound.{whole_word}
use Rattle.positions.specs.Word.{WordReady, WordPut}
use Rattle.positions.proofs.put_piece.Goals as goal
use Rattle.positions.proofs.put_piece.Goals.{Else-a}

same : (c : Else-a) → c.args.w ≡ c.row-a.result.now.word
same c =
    let x = c.args in
    c.requires.1 ∙ whole_word x.t.now x.l.first x.l.upto (sym (ap (λ z. z.cut) c.row-a.ensures) ∙ c.if-a.false) ∙ sym (ap (λ z. z.word) c.row-a.ensures)

pub put_word-requires-else-a : goal.put_word-requires-else-a
put_word-requires-else-a c =
    let x = c.args in
    subst (λ (w : Word). WordReady x.t.now x.l.first x.l.upto w x.at x.widths.now.base.now x.widths.now.ruby.now x.widths.now.left.now x.base.now x.ruby.now x.left.now) (same (goal.at.put_word-requires-else-a c).Else-a) c.requires.2

pub returns-else-a : goal.returns-else-a
returns-else-a c =
    let x = c.args in
    let n = c.put_word-else-a.new in
    subst (λ (w : Word). WordPut x.t.now x.l.first x.l.upto w x.at x.widths.now.base.now x.widths.now.ruby.now x.widths.now.left.now x.base.now x.ruby.now x.left.now n.base n.ruby n.left) (sym (same (goal.at.returns-else-a c).Else-a)) c.put_word-else-a.ensures
