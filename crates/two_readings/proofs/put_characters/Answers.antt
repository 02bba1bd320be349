-- One character more with each turn: r and l are where the characters of its runs begin, and its row is written from them. Past the last these are the rows of all.
use mathlib.Core.Path.{◌≡◌, sym, ap, ap₂, ◌∙◌, subst}
use mathlib.Core.Bool.{◌||◌}
use mathlib.Core.List.{[]}
use Prim.Native.Nat.{ℕ, ◌-◌, ◌<◌}
use lib.ListN.{get_or}
use native.Mathlib.Omega.{arith}
use borrow.Author.Tests.{lt-ltb, le-ltb}
use Rattle.spread.specs.Ratio.{ratios_of}
use Rattle.word.specs.declared.Word.{Word}
use Rattle.word.specs.Sides.{monos_word, Strings}
use Rattle.line.specs.declared.Side.TheVariants.{Right, Left}
use Rattle.cells.specs.Cells.{beside}
use Rattle.door.specs.Job.{Job}
use Rattle.join.specs.Rows.{run_at, run_width}
use Rattle.word_rows.specs.Runs.{both_only, RunReads, reads-from, own-from, first-turn}
use Rattle.word_rows.specs.Table.{filled_more}
use Rattle.two_readings.specs.Left.{left_row_of, cell_of, character_word, character_more, character_both, character_strings}
use Rattle.two_readings.proofs.put_characters.Goals as goal
use Rattle.two_readings.proofs.put_characters.Goals.{Joined-more, then-more, else-more, After-character_word-w, After-run_width-lown, After-run_width-own, In-loop-i, Start}

abbrev job : Start → Job
job a = let x = a.args in both_only (ratios_of x.ratios) x.em [] x.width.now [] [] [] [] x.rwidth.now x.runs.now [] x.lwidth.now x.lruns.now

abbrev at : In-loop-i → ℕ
at i = i.loop-i.i - i.args.p.base

inside : (i : In-loop-i) → at i < i.args.p.bases
inside i = omega (arith, i.loop-i-test.true, i.loop-i.auto.i)

-- the runs of the character
right : (i : In-loop-i) → RunReads i.args.rwidth.now i.loop-i.r (run_at Right (job (goal.at.In-loop-i i).Start) i.args.p (at i))
right i = reads-from Right (job (goal.at.In-loop-i i).Start) i.args.p i.requires.right (at i) (inside i) i.loop-i.r i.loop-i.invariant.0

left : (i : In-loop-i) → RunReads i.args.lwidth.now i.loop-i.l (run_at Left (job (goal.at.In-loop-i i).Start) i.args.p (at i))
left i = reads-from Left (job (goal.at.In-loop-i i).Start) i.args.p i.requires.left (at i) (inside i) i.loop-i.l i.loop-i.invariant.1

own : (w : After-run_width-own) → w.run_width-own.result ≡ run_width Right (job (goal.at.After-run_width-own w).Start) w.args.p (at (goal.at.After-run_width-own w).In-loop-i)
own w =
    w.run_width-own.ensures ∙ own-from Right (job (goal.at.After-run_width-own w).Start) w.args.p w.requires.right (at (goal.at.After-run_width-own w).In-loop-i) (inside (goal.at.After-run_width-own w).In-loop-i) w.loop-i.r w.loop-i.invariant.0

lown : (w : After-run_width-lown) → w.run_width-lown.result ≡ run_width Left (job (goal.at.After-run_width-lown w).Start) w.args.p (at (goal.at.After-run_width-lown w).In-loop-i)
lown w =
    w.run_width-lown.ensures ∙ own-from Left (job (goal.at.After-run_width-lown w).Start) w.args.p w.requires.left (at (goal.at.After-run_width-lown w).In-loop-i) (inside (goal.at.After-run_width-lown w).In-loop-i) w.loop-i.l w.loop-i.invariant.1

-- its word
word : (w : After-character_word-w) → w.character_word-w.result ≡ character_word (job (goal.at.After-character_word-w w).Start) w.args.p w.loop-i.i
word w =
    let x = w.args in
    w.character_word-w.ensures
    ∙ ap₂ (λ c d. monos_word (ratios_of x.ratios) x.em (record { width = get_or x.width.now w.loop-i.i 0; count = 1 }) (record { width = c; count = run_at Right (job (goal.at.After-character_word-w w).Start) x.p (at (goal.at.After-character_word-w w).In-loop-i) })
    (record { width = d; count = run_at Left (job (goal.at.After-character_word-w w).Start) x.p (at (goal.at.After-character_word-w w).In-loop-i) })) (own (goal.at.After-character_word-w w).After-run_width-own) (lown (goal.at.After-character_word-w w).After-run_width-lown)

pub overflow_add-r : goal.overflow_add-r
overflow_add-r c = omega (arith, (right (goal.at.overflow_add-r c).In-loop-i).few)

pub run_width-own-requires : goal.run_width-own-requires
run_width-own-requires c = let r = right (goal.at.run_width-own-requires c).In-loop-i in (omega arith, r.few, r.width, r.narrow)

pub overflow_add-l : goal.overflow_add-l
overflow_add-l c = omega (arith, (left (goal.at.overflow_add-l c).In-loop-i).few)

pub run_width-lown-requires : goal.run_width-lown-requires
run_width-lown-requires c = let r = left (goal.at.run_width-lown-requires c).In-loop-i in (omega arith, r.few, r.width, r.narrow)

pub character_word-w-requires : goal.character_word-w-requires
character_word-w-requires c =
    let x = c.args in
    let s = character_strings (job (goal.at.character_word-w-requires c).Start) x.p x.rows.now c.requires c.loop-i.i c.loop-i.auto.i c.loop-i-test.true in
    let o = own (goal.at.character_word-w-requires c).After-run_width-own in
    let u = lown (goal.at.character_word-w-requires c).After-run_width-lown in
    let k = at (goal.at.character_word-w-requires c).In-loop-i in
    let n = run_at Right (job (goal.at.character_word-w-requires c).Start) x.p k in
    let m = run_at Left (job (goal.at.character_word-w-requires c).Start) x.p k in
    let word : ℕ → ℕ → Type 0 = λ r l. Strings (record { width = get_or x.width.now c.loop-i.i 0; count = 1 }) (record { width = r; count = n }) (record { width = l; count = m }) in
    (subst (λ l. word c.run_width-own.result l) (sym u) (subst (λ r. word r (run_width Left (job (goal.at.character_word-w-requires c).Start) x.p k)) (sym o) s), c.requires.house)

pub overflow_cast-r : goal.overflow_cast-r
overflow_cast-r c = omega (arith, (right (goal.at.overflow_cast-r c).In-loop-i).few)

pub overflow_cast-l : goal.overflow_cast-l
overflow_cast-l c = omega (arith, (left (goal.at.overflow_cast-l c).In-loop-i).few)

-- a line may end behind it: its element goes on, or the flag is 1
over : (c : Joined-more) → c.if-more.over ≡ (character_more c.args.p c.loop-i.i || c.args.ends)
over c =
    elim c.if-more.branch [
      | then-more w ↦ w.over-is ∙ rw (lt-ltb _ _ w.if-more.true)
      | else-more w ↦ w.over-is ∙ rw (le-ltb _ _ w.if-more.false)
    ]

pub loop-i-preserved : goal.loop-i-preserved
loop-i-preserved c =
    let x = c.args in
    let J = job (goal.at.loop-i-preserved c).Start in
    let i = c.loop-i.i in
    let q = c.loop-i.invariant in
    let k = at (goal.at.loop-i-preserved c).In-loop-i in
    let w = word (goal.at.loop-i-preserved c).After-character_word-w in
    let is-cell = c.character_cell-row.ensures ∙ ap₂ (λ v o. cell_of v o c.loop-i.r (run_at Right J x.p k)) w (over (goal.at.loop-i-preserved c).Joined-more) ∙ ap (λ z. cell_of (character_word J x.p i) (character_more x.p i || x.ends) z (run_at Right J x.p k)) q.0 in
    let is-left = c.left_row.ensures ∙ ap₂ (λ (v : Word) (z : ℕ). left_row_of v.left z (run_at Left J x.p k) 0 (character_more x.p i)) w q.1 in (
      first-turn Right J x.p i c.loop-i.r c.loop-i.auto.i q.0,
      first-turn Left J x.p i c.loop-i.l c.loop-i.auto.i q.1,
      filled_more (character_both J x.p x.ends) x.p.base i x.rows.now c.loop-i.rows c.with_left.result c.loop-i.auto.i (omega (arith, c.requires.held, c.loop-i-test.true)) q.2
          (c.with_left.ensures ∙ ap₂ beside is-cell is-left),
    )
