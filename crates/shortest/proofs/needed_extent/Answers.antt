-- What is known at each piece, `Passes`, goes on from one to the next. Behind the last piece all breaks of the line have been tried.
use mathlib.Core.Path.{ap}
use Prim.Native.Nat.{◌+◌, ◌<◌, ◌≤◌}
use native.Mathlib.Omega.{arith}
use Rattle.shortest.specs.Pass.{Stands, row, goes, passes-end, passes-next, stands}
use Rattle.shortest.proofs.needed_extent.Goals as goal
use Rattle.shortest.proofs.needed_extent.Goals.{After-row-a, In-loop-i}

here : (c : In-loop-i) → let a = c.args in Stands a.t.now a.n c.loop-i.i c.loop-i.st
here c = stands c.loop-i.invariant c.loop-i-test.true

-- the row's own numbers
bases : (c : After-row-a) →
    let a = c.args in
    (0 < c.row-a.result.now.bases) × (c.loop-i.i + c.row-a.result.now.bases ≤ a.n) × (a.n ≤ 1024)
bases c = let r = row (here (goal.at.After-row-a c).In-loop-i) in rw c.row-a.ensures (r.some, r.inside, c.loop-i.invariant.sound.few)

pub advance-step-requires : goal.advance-step-requires
advance-step-requires c =
    goes (here (goal.at.advance-step-requires c).In-loop-i) (c.loop-i.i + c.row-a.result.now.bases) (omega (arith, (bases (goal.at.advance-step-requires c).After-row-a).0)) (omega (arith, ap (λ z. z.bases) c.row-a.ensures))

pub loop-i-preserved : goal.loop-i-preserved
loop-i-preserved c =
    rw (c.least_behind-least.ensures, c.advance-step.ensures, c.row-a.ensures) (passes-next c.loop-i.invariant c.loop-i-test.true)

pub returns : goal.returns
returns c = passes-end c.loop-i.invariant c.requires.1 c.loop-i-test.false
