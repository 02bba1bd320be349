-- The breaks within the piece are tried where it may be cut; else there are none. The one behind it counts at the job's end, or where the row says so.
use mathlib.Core.Path.{◌≡◌, sym, ap, ◌∙◌}
use mathlib.Core.Bool.{◌||◌}
use Prim.Native.Nat.{◌+◌, ◌-◌}
use borrow.Author.Tests.{eq-eqb, ne_eqb}
use lib.Dec.{eqb}
use Rattle.cells.specs.Cells.{cell_at}
use Rattle.shortest.specs.Pass.{inner_least, inner-whole, behind_may, behind-not}
use Rattle.shortest.proofs.least_behind.Goals as goal
use Rattle.shortest.proofs.least_behind.Goals.{Else-i-bases, Joined-a, then-a, else-a}

-- the breaks within the piece are tried
within_all : (c : Joined-a) →
    let a = c.args in
    c.if-a.found ≡ inner_least a.t.now a.st a.i a.least ((cell_at a.t.now a.i).bases - 1)
within_all c =
    let a = c.args in
    elim c.if-a.branch [
      | then-a w ↦ w.found-is ∙ w.within-found.ensures ∙ ap (λ z. inner_least a.t.now a.st a.i a.least (z.bases - 1)) c.row-a.ensures
      | else-a w ↦ w.found-is ∙ sym (inner-whole a.t.now a.st a.i a.least (sym (ap (λ z. z.cut) c.row-a.ensures) ∙ w.if-a.false) ((cell_at a.t.now a.i).bases - 1))
    ]

-- before the job's end the row says whether a line may end behind it
not_end : (c : Else-i-bases) →
    let a = c.args in
    (eqb (a.i + (cell_at a.t.now a.i).bases) a.n || (cell_at a.t.now a.i).ends) ≡ (cell_at a.t.now a.i).ends
not_end c =
    let a = c.args in
    rw (ne_eqb (a.i + (cell_at a.t.now a.i).bases) a.n (λ e. c.if-i-bases.false (ap (λ z. a.i + z.bases) c.row-a.ensures ∙ e)))

pub returns-then-i-bases : goal.returns-then-i-bases
returns-then-i-bases c =
    let a = c.args in
    c.lesser.ensures
    ∙ behind_may a.t.now a.n a.i a.st a.next a.least c.if-a.found (within_all (goal.at.returns-then-i-bases c).Joined-a)
    (rw (eq-eqb _ _ (ap (λ z. a.i + z.bases) (sym c.row-a.ensures) ∙ c.if-i-bases.true)))

pub returns-then-a-2 : goal.returns-then-a-2
returns-then-a-2 c =
    let a = c.args in
    c.lesser-then-a-2.ensures
    ∙ behind_may a.t.now a.n a.i a.st a.next a.least c.if-a.found (within_all (goal.at.returns-then-a-2 c).Joined-a)
    (not_end (goal.at.returns-then-a-2 c).Else-i-bases ∙ sym (ap (λ z. z.ends) c.row-a.ensures) ∙ c.if-a-2.true)

pub returns : goal.returns
returns c =
    let a = c.args in
    behind-not a.t.now a.n a.i a.st a.next a.least c.if-a.found (within_all (goal.at.returns c).Joined-a)
    (not_end (goal.at.returns c).Else-i-bases ∙ sym (ap (λ z. z.ends) c.row-a.ensures) ∙ c.if-a-2.false)
