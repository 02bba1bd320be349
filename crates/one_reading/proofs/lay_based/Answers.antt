-- By its form, and a J by whether it is cut. What each way promises of its form is what is promised of the element's.
use Rattle.std.specs.Prelude.{Result}
use mathlib.Core.Path.{sym, subst}
use mathlib.Core.Bool.{Bool, cond}
use borrow.Author.Tests.{eq-eqb, ne_eqb}
use Rattle.refusal.specs.declared.Refusal.{Refusal}
use Rattle.door.specs.declared.Piece.{Piece}
use Rattle.word.specs.declared.Form.{Form}
use Rattle.word.specs.declared.Form.TheVariants.{J}
use Rattle.word.specs.Given.{is_j}
use Rattle.word.specs.Summed.{group_by, single_by, jukugo_judged, answered_by}
use Rattle.spread.specs.Ratio.{ratios_of}
use Rattle.cells.specs.declared.Cell.{Cell}
use Rattle.join.specs.Rows.{none}
use Rattle.word_rows.specs.Runs.{runs_only, jukugo_row}
use Rattle.word_rows.specs.Word.{word_row}
use Rattle.one_reading.specs.Lay.{ruby_of, FilledBy}
use mathlib.Core.List.{List}
use lib.Dec.{eqb}
use Rattle.one_reading.proofs.lay_based.Goals as goal
use Rattle.one_reading.proofs.lay_based.Goals.{Start}

-- what is promised of a form, and of a J by whether it has one character
abbrev Told : (a : Start) → List Cell → Result Piece Refusal → Form → Bool → Type 0
Told a t s f one =
    let x = a.args in
    let p = x.p in
    let h = ratios_of x.ratios in
    let r = ruby_of p x.readings.now.class.now x.readings.now.width.now in
    let job = runs_only x.em x.readings.now.class.now x.readings.now.width.now x.runs.now in
    FilledBy
    (cond (is_j f) (cond one (single_by x.place h x.em x.base r) (answered_by (jukugo_judged x.place x.base r.sort) none)) (group_by x.place h x.em x.base r))
    (λ w i. cond (is_j f) (jukugo_row job p w x.ends i) (word_row p w x.ends 0 0 i)) x.left p x.rows.now t s

pub returns-in-G : goal.returns-in-G
returns-in-G c =
    subst (λ z. Told (goal.at.returns-in-G c).Start c.lay_group.new.rows c.lay_group.result z (eqb c.args.p.bases 1)) (sym c.in-G.is) c.lay_group.ensures

pub returns-then-p-eq1 : goal.returns-then-p-eq1
returns-then-p-eq1 c =
    subst (λ z. Told (goal.at.returns-then-p-eq1 c).Start c.lay_single.new.rows c.lay_single.result z (eqb c.args.p.bases 1)) (sym c.in-J.is)
    (subst (Told (goal.at.returns-then-p-eq1 c).Start c.lay_single.new.rows c.lay_single.result J) (sym (eq-eqb c.args.p.bases 1 c.if-p-eq1.true)) c.lay_single.ensures)

pub returns-else-p-eq1 : goal.returns-else-p-eq1
returns-else-p-eq1 c =
    subst (λ z. Told (goal.at.returns-else-p-eq1 c).Start c.lay_cut.new.rows c.lay_cut.result z (eqb c.args.p.bases 1)) (sym c.in-J.is)
    (subst (Told (goal.at.returns-else-p-eq1 c).Start c.lay_cut.new.rows c.lay_cut.result J) (sym (ne_eqb c.args.p.bases 1 c.if-p-eq1.false)) c.lay_cut.ensures)
