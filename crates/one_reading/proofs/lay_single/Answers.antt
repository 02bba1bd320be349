-- Level one is asked by what it wants to know of the strings, of which the only run is all of the ruby. Its answer is taken apart: the one row is written, or the refusal is handed up.
use mathlib.Core.Path.{◌≡◌, sym, ap, ◌∙◌}
use Prim.Native.Nat.{◌+◌}
use Rattle.spread.specs.Ratio.{ratios_of}
use Rattle.word.specs.Summed.{single_by}
use Rattle.cells.specs.Cells.{beside}
use Rattle.word_rows.specs.Table.{filled-one, filled_as, bare_row}
use Rattle.word_rows.specs.Runs.{runs_only, jukugo_row}
use Rattle.word_rows.specs.Word.{judged-goes}
use Rattle.one_reading.specs.Single.{single_row, single_row_lem}
use Rattle.one_reading.specs.Lay.{measured, ruby_of}
use native.Mathlib.Omega.{arith}
use Rattle.one_reading.proofs.lay_single.Goals as goal
use Rattle.one_reading.proofs.lay_single.Goals.{After-single_answer-answer}

told : (m : After-single_answer-answer) →
    let x = m.args in
    single_by x.place (ratios_of x.ratios) x.em x.base (ruby_of x.p x.readings.now.class.now x.readings.now.width.now) ≡ m.single_answer-answer.result
told m =
    let x = m.args in
    sym (m.single_answer-answer.ensures ∙ ap (single_by x.place (ratios_of x.ratios) x.em x.base) m.ruby_at-ruby.ensures)

pub single_answer-answer-requires : goal.single_answer-answer-requires
single_answer-answer-requires c =
    (measured c.requires.1 c.ruby_at-ruby.ensures, c.requires.1.house, c.requires.2.ems)

pub returns : goal.returns
returns c =
    let x = c.args in
    let p = x.p in
    let w = c.in-Set.w in
    let one = c.requires.0 in
    let row = single_row p w x.ends x.readings.now.class.now x.readings.now.width.now x.runs.now in
    let job = runs_only x.em x.readings.now.class.now x.readings.now.width.now x.runs.now in
    let f =
    filled-one (beside row (bare_row x.left)) p.base (p.base + p.bases) x.rows.now c.put_single.new.rows (omega (arith, one)) (omega (arith, one, c.requires.1.room)) c.put_single.ensures in
    judged-goes (told (goal.at.returns c).After-single_answer-answer ∙ c.in-Set.is) f.long
    (filled_as (λ i. beside row (bare_row x.left)) (λ i. beside (jukugo_row job p w x.ends i) (bare_row x.left)) p.base (p.base + p.bases) x.rows.now c.put_single.new.rows
    (λ i l h. ap (λ r. beside r (bare_row x.left)) (single_row_lem x.em x.readings.now.class.now x.readings.now.width.now x.runs.now p w x.ends i one (omega (arith, one)))) f)
