-- Level one is asked by the sums of an M's strings, and its answer is that to the element. It is taken apart: the one row is written, or the refusal is handed up.
use mathlib.Core.Path.{◌≡◌, sym, ap, ap₂, ◌∙◌, subst}
use lib.ListN.{get_or}
use Prim.Native.Nat.{◌+◌}
use Rattle.word.specs.declared.Form.TheVariants.{M}
use Rattle.word.specs.Answer.{answer}
use Rattle.word.specs.Summed.{mono_by}
use Rattle.door.specs.Job.{Job, given}
use Rattle.cells.specs.Cells.{beside}
use Rattle.word_rows.specs.Table.{Filled, bare_row}
use Rattle.word_rows.specs.Word.{word_row, judged-stops, judged-goes, stop_by}
use Rattle.one_reading.specs.Lay.{mono-lent, mono-small}
use Rattle.one_reading.specs.Seen.{mono_only}
use native.Mathlib.Omega.{arith}
use Rattle.one_reading.proofs.lay_mono.Goals as goal
use Rattle.one_reading.proofs.lay_mono.Goals.{After-mono_answer-answer, Start}

abbrev job : Start → Job
job a = let x = a.args in mono_only x.width.now x.before.now x.after.now x.flag.now x.rwidth.now

told : (m : After-mono_answer-answer) → m.mono_answer-answer.result ≡ answer M m.args.place (given (job (goal.at.After-mono_answer-answer m).Start) m.args.p)
told m =
    let x = m.args in
    m.mono_answer-answer.ensures
    ∙ ap₂ (λ z r. mono_by x.place z (get_or x.width.now x.p.base 0) r) m.blank_inside-blank.ensures m.sum_of-ruby.ensures
    ∙ mono-lent x.place (job (goal.at.After-mono_answer-answer m).Start) x.p m.requires.1 m.requires.0

pub sum_of-ruby-requires : goal.sum_of-ruby-requires
sum_of-ruby-requires c =
    let x = c.args in
    omega (arith, (mono-small x.place (job (goal.at.sum_of-ruby-requires c).Start) x.p c.requires.1 c.requires.0).1)

pub mono_answer-answer-requires : goal.mono_answer-answer-requires
mono_answer-answer-requires c =
    let x = c.args in
    let s = mono-small x.place (job (goal.at.mono_answer-answer-requires c).Start) x.p c.requires.1 c.requires.0 in
    (s.0, omega (arith, c.sum_of-ruby.ensures, s.1))

pub returns-in_default : goal.returns-in_default
returns-in_default c =
    let e = c.in_default.is in
    judged-stops (sym (told (goal.at.returns-in_default c).After-mono_answer-answer) ∙ e) (c.refused.ensures ∙ ap (stop_by _) e)

pub returns : goal.returns
returns c =
    let x = c.args in
    judged-goes (sym (told (goal.at.returns c).After-mono_answer-answer) ∙ c.in-Set.is) c.put_word.ensures.long
    (subst (λ z. Filled (λ i. beside (word_row x.p c.in-Set.w z 0 0 i) (bare_row x.left)) x.p.base (x.p.base + x.p.bases) x.rows.now c.put_word.new.rows) c.ends_behind-ends.ensures
    (subst (λ l. Filled (λ i. beside (word_row x.p c.in-Set.w c.ends_behind-ends.result 0 0 i) l) x.p.base (x.p.base + x.p.bases) x.rows.now c.put_word.new.rows) c.bare.ensures
    c.put_word.ensures))
