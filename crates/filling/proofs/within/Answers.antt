-- From the furthest break that there is room for down: each that fails leaves the furthest break where it was, the first that can be set is it.
use mathlib.Core.Path.{◌≡◌, sym, ap, ◌∙◌}
use Prim.Native.Nat.{◌+◌, ◌-◌, ◌≤◌, ◌<◌}
use borrow.Author.Tests.{lt-leb, le-leb}
use native.Mathlib.Omega.{arith}
use Rattle.line.specs.Setting.{furthest}
use Rattle.cells.specs.Cells.{Advances}
use Rattle.filling.specs.Search.{most_of, inner_break, extent_upto, row, goes, inner-at, inner-none}
use Rattle.filling.specs.Room.{most}
use Rattle.filling.proofs.within.Goals as goal
use Rattle.filling.proofs.within.Goals.{After-extent_of-extent, After-most_within-most, In-loop-k, Start}

-- the J's own numbers
some : (a : Start) → (0 < a.args.bases) × (a.args.bases ≤ 32) × (a.args.i < a.args.n) × (a.args.n ≤ 1024)
some a =
    let r = row a.args.t.now a.args.n a.args.i a.args.st a.requires.0 in
    (omega (arith, r.some, a.requires.1), omega (arith, r.few, a.requires.1), a.requires.0.inside, a.requires.0.sound.few)

-- how many of its first characters there is room for
room : (c : After-most_within-most) → let x = c.args in c.most_within-most.result ≡ most_of x.bases x.st.end x.t.now.em x.limit
room c = let x = c.args in c.most_within-most.ensures ∙ ap (λ m. most_of x.bases x.st.end m x.limit) c.em.ensures

inside : (c : In-loop-k) → let a = c.args in Advances a.t.now a.st a.i (a.i + (c.loop-k.k - 1))
inside c =
    goes c.args.t.now c.args.n c.args.i c.args.st c.requires.0 (c.args.i + (c.loop-k.k - 1)) (omega (arith, c.loop-k-test.true))
    (omega (arith, c.loop-k.invariant.0, c.requires.1, some (goal.at.In-loop-k c).Start))

-- the extent of the line up to a break
told : (c : After-extent_of-extent) →
    let a = c.args in
    c.extent_of-extent.result ≡ extent_upto a.t.now a.st a.i (a.i + (c.loop-k.k - 1))
told c = c.extent_of-extent.ensures ∙ ap (λ z. furthest z.st) c.advance_cut-step.ensures

pub loop-k-init : goal.loop-k-init
loop-k-init c =
    let x = c.args in
    let m = room (goal.at.loop-k-init c).After-most_within-most in
    let back : c.most_within-most.result + 1 - 1 ≡ most_of x.bases x.st.end x.t.now.em x.limit = omega (arith, m) in (
      omega (arith, m, some (goal.at.loop-k-init c).Start),
      ap (inner_break x.limit x.t.now x.st x.i x.last) back
          ∙ most x.limit x.t.now x.st x.i x.bases c.requires.2 (c.requires.0.sound.wide x.i c.requires.0.inside c.requires.2) x.last,
    )

pub advance_cut-step-requires : goal.advance_cut-step-requires
advance_cut-step-requires c = (c.requires.2, inside c)

pub returns-then-extent-limit : goal.returns-then-extent-limit
returns-then-extent-limit c =
    let a = c.args in
    sym (inner-at a.limit a.t.now a.st a.i a.last (c.loop-k.k - 1) (omega (arith, c.loop-k-test.true)) ∙ rw (← told (goal.at.returns-then-extent-limit c).After-extent_of-extent, le-leb _ _ c.if-extent-limit.true))
    ∙ c.loop-k.invariant.1

pub loop-k-preserved : goal.loop-k-preserved
loop-k-preserved c =
    let a = c.args in (
      omega (arith, c.loop-k.invariant.0),
      sym (inner-at a.limit a.t.now a.st a.i a.last (c.loop-k.k - 1) (omega (arith, c.loop-k-test.true)) ∙ rw (← told (goal.at.loop-k-preserved c).After-extent_of-extent, lt-leb _ _ c.if-extent-limit.false))
          ∙ c.loop-k.invariant.1,
    )

pub returns : goal.returns
returns c =
    let a = c.args in
    inner-none a.limit a.t.now a.st a.i a.last (c.loop-k.k - 1) (omega (arith, c.loop-k-test.false)) ∙ c.loop-k.invariant.1
