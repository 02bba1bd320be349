-- Its record says whether its runs stand over their own characters, and so whether it is cut. Each way has its rows.
use mathlib.Core.Path.{ap₂, ◌∙◌, subst}
use Prim.Native.Nat.{◌+◌}
use Rattle.cells.specs.Cells.{beside}
use Rattle.door.specs.Job.{Job}
use Rattle.job.specs.Line.{cuts}
use Rattle.word_rows.specs.Runs.{own_word, jukugo_row}
use Rattle.word_rows.specs.Word.{word_row, word_row_lem, jukugo_row_lem}
use Rattle.word_rows.specs.Table.{Filled, filled_as}
use Rattle.two_readings.specs.Left.{left_row, left_run_row, left_word, left_run_lem, own_row, cut-j}
use Rattle.two_readings.specs.Seen.{whole_only}
use Rattle.two_readings.proofs.put_whole.Goals as goal
use Rattle.two_readings.proofs.put_whole.Goals.{Start}

abbrev job : Start → Job
job a = let x = a.args in whole_only x.em x.rclass.now x.rwidth.now x.runs.now x.lwidth.now x.lruns.now

pub put_cut-requires : goal.put_cut-requires
put_cut-requires c =
    let h = c.requires in
    let j = cut-j (job (goal.at.put_cut-requires c).Start) c.args.p h.here (h.parted ∙ c.if-right.true) in
    (h.jukugo j.0, h.lefts j.1)

pub returns-then-right : goal.returns-then-right
unfolding cuts
returns-then-right c =
    let x = c.args in
    let p = x.p in
    let yes = c.requires.parted ∙ c.if-right.true in
    filled_as (λ i. beside (jukugo_row (job (goal.at.returns-then-right c).Start) p x.w x.ends i) (left_run_row (job (goal.at.returns-then-right c).Start) p (own_word p x.w).left i)) (own_row (job (goal.at.returns-then-right c).Start) p x.w x.ends) p.base (p.base + p.bases)
    x.rows.now c.put_cut.new.rows
    (λ i l m. ap₂ beside (jukugo_row_lem (job (goal.at.returns-then-right c).Start) p x.w x.ends i yes) (left_run_lem (job (goal.at.returns-then-right c).Start) p x.w i yes c.requires.here)) c.put_cut.ensures

pub returns-else-right : goal.returns-else-right
returns-else-right c =
    let x = c.args in
    let p = x.p in
    let no = c.requires.parted ∙ c.if-right.false in
    filled_as (λ i. beside (word_row p x.w x.ends 0 0 i) (left_row p x.w.left)) (own_row (job (goal.at.returns-else-right c).Start) p x.w x.ends) p.base (p.base + p.bases) x.rows.now c.put_word.new.rows
    (λ i l m. ap₂ beside (word_row_lem (job (goal.at.returns-else-right c).Start) p x.w x.ends 0 0 i no) (left_word (job (goal.at.returns-else-right c).Start) p x.w i no))
    (subst (λ l. Filled (λ i. beside (word_row p x.w x.ends 0 0 i) l) p.base (p.base + p.bases) x.rows.now c.put_word.new.rows) c.left_row-left.ensures c.put_word.ensures)
