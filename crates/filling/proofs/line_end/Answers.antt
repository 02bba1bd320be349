-- What is known at each piece, `Seeks`, goes on from one to the next; the search stops at a whole piece that passes the measure, or behind the last. A J and any other
-- piece take the same two steps, by other functions.
use mathlib.Core.Path.{◌≡◌, sym, ap, ap₂, ◌∙◌}
use mathlib.Core.Bool.{true, false, cond}
use Prim.Native.Nat.{ℕ, ◌+◌, ◌<◌, ◌≤◌}
use lib.Dec.{leb}
use borrow.Author.Tests.{lt-leb, le-leb}
use native.Mathlib.Omega.{arith}
use Rattle.line.specs.declared.State.{State}
use Rattle.line.specs.Setting.{furthest}
use Rattle.cells.specs.Rows.{Rows}
use Rattle.cells.specs.declared.Cell.{Cell}
use Rattle.cells.specs.declared.Step.{Step}
use Rattle.cells.specs.Cells.{cell_at, piece, next, step_at, Advances}
use Rattle.filling.specs.declared.Break.{Break}
use Rattle.filling.specs.Search.{Seeks, Stands, behind, goes, row, seeks_first, seeks_end, seeks_next, stands, stops, behind-whole, behind-none}
use Rattle.filling.proofs.line_end.Goals as goal
use Rattle.filling.proofs.line_end.Goals.{After-row-a, After-extent_of-extent, After-extent_of-extent-else-a, Else-a, In-loop-i}

here : (c : In-loop-i) → let a = c.args in Stands a.t.now a.n c.loop-i.i c.loop-i.st
here c =
    let a = c.args in
    stands a.limit a.t.now a.n a.s c.loop-i.i c.loop-i.st c.loop-i.last c.loop-i.invariant c.loop-i-test.true

-- the row's own numbers
bases : (c : After-row-a) →
    (0 < c.row-a.result.now.bases) × (c.loop-i.i + c.row-a.result.now.bases ≤ c.args.n) × (c.args.n ≤ 1024)
bases c =
    let a = c.args in
    let r = row a.t.now a.n c.loop-i.i c.loop-i.st (here (goal.at.After-row-a c).In-loop-i) in
    rw c.row-a.ensures (r.some, r.inside, c.loop-i.invariant.sound.few)

can : (x : After-row-a) →
    let a = x.args in
    Advances a.t.now x.loop-i.st x.loop-i.i (x.loop-i.i + x.row-a.result.now.bases)
can x =
    let a = x.args in
    goes a.t.now a.n x.loop-i.i x.loop-i.st (here (goal.at.After-row-a x).In-loop-i) (x.loop-i.i + x.row-a.result.now.bases)
    (omega (arith, (bases x).0)) (omega (arith, ap (λ z. z.bases) x.row-a.ensures))

-- how far the line reaches at the piece's end
abbrev reach : After-row-a → ℕ
reach x =
    let a = x.args in
    furthest (next x.loop-i.st (piece a.t.now x.loop-i.i (x.loop-i.i + (cell_at a.t.now x.loop-i.i).bases)))

told : (x : After-row-a) (s : Step) (extent : ℕ) →
    let a = x.args in
    extent ≡ furthest s.st → s ≡ step_at a.t.now x.loop-i.st x.loop-i.i (x.loop-i.i + x.row-a.result.now.bases) → extent ≡ reach x
told x s extent e f =
    let a = x.args in
    e ∙ ap (λ z. furthest z.st) f
    ∙ ap (λ (z : Cell). furthest (next x.loop-i.st (piece a.t.now x.loop-i.i (x.loop-i.i + z.bases)))) x.row-a.ensures

told-cut : (c : After-extent_of-extent) → c.extent_of-extent.result ≡ reach (goal.at.After-extent_of-extent c).After-row-a
told-cut c = told (goal.at.After-extent_of-extent c).After-row-a _ _ c.extent_of-extent.ensures c.advance_cut-step.ensures

told-whole : (c : After-extent_of-extent-else-a) → c.extent_of-extent-else-a.result ≡ reach (goal.at.After-extent_of-extent-else-a c).After-row-a
told-whole c = told (goal.at.After-extent_of-extent-else-a c).After-row-a _ _ c.extent_of-extent-else-a.ensures c.advance-step.ensures

-- the state behind the piece
then : (x : After-row-a) (s : Step) →
    let a = x.args in
    s ≡ step_at a.t.now x.loop-i.st x.loop-i.i (x.loop-i.i + x.row-a.result.now.bases) →
    s.st ≡ next x.loop-i.st (piece a.t.now x.loop-i.i (x.loop-i.i + (cell_at a.t.now x.loop-i.i).bases))
then x s f =
    let a = x.args in
    ap (λ z. z.st) f ∙ ap (λ (z : Cell). next x.loop-i.st (piece a.t.now x.loop-i.i (x.loop-i.i + z.bases))) x.row-a.ensures

-- the search behind the piece, by what the functions answered
on : {limit : ℕ} {t : Rows} {n s i i' : ℕ} {st st' : State} {last last' : Break} → i ≡ i' → st ≡ st' → last ≡ last' → Seeks limit t n s i' st' last' → Seeks limit t n s i st last
on e f g q = rw (e, f, g) q

whole : (c : Else-a) → (cell_at c.args.t.now c.loop-i.i).cut ≡ false
whole c = sym (ap (λ z. z.cut) c.row-a.ensures) ∙ c.if-a.false

pub loop-i-init : goal.loop-i-init
loop-i-init c = seeks_first c.args.limit c.args.t.now c.args.n c.args.s c.requires.0 c.requires.1

pub advance_cut-step-requires : goal.advance_cut-step-requires
advance_cut-step-requires c = (sym (ap (λ z. z.cut) c.row-a.ensures) ∙ c.if-a.true, can (goal.at.advance_cut-step-requires c).After-row-a)

pub returns-then-limit-extent : goal.returns-then-limit-extent
returns-then-limit-extent c =
    let a = c.args in
    c.break_behind-found.ensures
    ∙ rw (told-cut (goal.at.returns-then-limit-extent c).After-extent_of-extent)
    (stops a.limit a.t.now a.n a.s c.loop-i.i c.loop-i.st c.loop-i.last c.loop-i.invariant c.loop-i-test.true
    (ap (λ z. leb z a.limit) (sym (told-cut (goal.at.returns-then-limit-extent c).After-extent_of-extent)) ∙ lt-leb _ _ c.if-limit-extent.true))

pub advance-step-requires : goal.advance-step-requires
advance-step-requires c = can (goal.at.advance-step-requires c).After-row-a

pub returns-then-limit-extent-2 : goal.returns-then-limit-extent-2
returns-then-limit-extent-2 c =
    let a = c.args in
    let long : leb (reach (goal.at.returns-then-limit-extent-2 c).After-row-a) a.limit ≡ false = ap (λ z. leb z a.limit) (sym (told-whole (goal.at.returns-then-limit-extent-2 c).After-extent_of-extent-else-a)) ∙ lt-leb _ _ c.if-limit-extent-2.true in
    behind-none a.limit a.t.now c.loop-i.i c.loop-i.st c.loop-i.last (reach (goal.at.returns-then-limit-extent-2 c).After-row-a) long (whole (goal.at.returns-then-limit-extent-2 c).Else-a)
    ∙ stops a.limit a.t.now a.n a.s c.loop-i.i c.loop-i.st c.loop-i.last c.loop-i.invariant c.loop-i-test.true long

pub loop-i-preserved-else-limit-extent : goal.loop-i-preserved-else-limit-extent
loop-i-preserved-else-limit-extent c =
    let a = c.args in
    on (ap (λ (z : Cell). c.loop-i.i + z.bases) c.row-a.ensures) (then (goal.at.loop-i-preserved-else-limit-extent c).After-row-a _ c.advance_cut-step.ensures)
    (c.break_behind-found.ensures ∙ ap (behind a.limit a.t.now c.loop-i.i c.loop-i.st c.loop-i.last) (told-cut (goal.at.loop-i-preserved-else-limit-extent c).After-extent_of-extent))
    (seeks_next a.limit a.t.now a.n a.s c.loop-i.i c.loop-i.st c.loop-i.last c.loop-i.invariant c.loop-i-test.true
    (ap (λ z. leb z a.limit) (sym (told-cut (goal.at.loop-i-preserved-else-limit-extent c).After-extent_of-extent)) ∙ le-leb _ _ c.if-limit-extent.false))

pub loop-i-preserved : goal.loop-i-preserved
loop-i-preserved c =
    let a = c.args in
    let fits : leb (reach (goal.at.loop-i-preserved c).After-row-a) a.limit ≡ true = ap (λ z. leb z a.limit) (sym (told-whole (goal.at.loop-i-preserved c).After-extent_of-extent-else-a)) ∙ le-leb _ _ c.if-limit-extent-2.false in
    on (ap (λ (z : Cell). c.loop-i.i + z.bases) c.row-a.ensures) (then (goal.at.loop-i-preserved c).After-row-a _ c.advance-step.ensures)
    (c.break_whole-last.ensures
    ∙ ap₂ (λ (z : Cell) (m : ℕ). cond z.ends (record { at = c.loop-i.i + z.bases; extent = m }) c.loop-i.last) c.row-a.ensures (told-whole (goal.at.loop-i-preserved c).After-extent_of-extent-else-a)
    ∙ behind-whole a.limit a.t.now c.loop-i.i c.loop-i.st c.loop-i.last (reach (goal.at.loop-i-preserved c).After-row-a) fits (whole (goal.at.loop-i-preserved c).Else-a))
    (seeks_next a.limit a.t.now a.n a.s c.loop-i.i c.loop-i.st c.loop-i.last c.loop-i.invariant c.loop-i-test.true fits)

pub returns : goal.returns
returns c =
    rw c.extent_of.ensures
    (seeks_end c.args.limit c.args.t.now c.args.n c.args.s c.loop-i.i c.loop-i.st c.loop-i.last c.loop-i.invariant c.requires.1 c.loop-i-test.false)
