-- From the first inner break of the J on each is a try, and the least extent goes on from break to break. Behind the last of them it is the least of all.
use mathlib.Core.Path.{refl, sym, ap, ◌∙◌}
use Prim.Native.Nat.{◌+◌, ◌-◌, ◌≤◌, ◌<◌}
use native.Mathlib.Omega.{arith}
use Rattle.shortest.specs.Pass.{inner_least, row, goes, inner-none, inner-next}
use Rattle.shortest.proofs.within.Goals as goal
use Rattle.shortest.proofs.within.Goals.{Start}

-- the J's own numbers
some : (a : Start) → (0 < a.args.bases) × (a.args.bases ≤ 32) × (a.args.i < a.args.n) × (a.args.n ≤ 1024)
some a =
    let r = row a.requires.0 in
    (omega (arith, r.some, a.requires.1), omega (arith, r.few, a.requires.1), a.requires.0.inside, a.requires.0.sound.few)

pub loop-k-init : goal.loop-k-init
loop-k-init c = let x = c.args in sym (inner-none x.t.now x.st x.i x.least 0 refl)

pub advance_cut-step-requires : goal.advance_cut-step-requires
advance_cut-step-requires c =
    (c.requires.2, goes c.requires.0 (c.args.i + c.loop-k.k) (omega (arith, c.loop-k.auto.k)) (omega (arith, c.loop-k-test.true, c.requires.1)))

pub loop-k-preserved : goal.loop-k-preserved
loop-k-preserved c =
    let x = c.args in
    let k = c.loop-k.k in
    rw (c.lesser-found.ensures, c.advance_cut-step.ensures, c.loop-k.invariant)
    (sym (inner-next x.t.now x.st x.i x.least c.requires.2 k (k - 1) (omega (arith, c.loop-k.auto.k)))
    ∙ ap (inner_least x.t.now x.st x.i x.least) (omega (arith, c.loop-k.auto.k)))

pub returns : goal.returns
returns c = let x = c.args in c.loop-k.invariant ∙ ap (λ k. inner_least x.t.now x.st x.i x.least (k - 1)) (omega (arith, c.loop-k-test.false, c.loop-k.auto.k-end, some (goal.at.returns c).Start))
