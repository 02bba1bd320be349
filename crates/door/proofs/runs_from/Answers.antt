-- What is left to read decides whether some run is 0, and makes up the sum with what was taken. A run that is 0 ends it.
use mathlib.Core.Path.{◌≡◌, sym, ap, ◌∙◌}
use mathlib.Core.List.{List, [], ◌∷◌}
use Prim.Native.Nat.{ℕ, ◌+◌, ◌-◌}
use borrow.Author.Tests.{eq-eqb, ne_eqb, lt-ltb, le-ltb}
use mathlib.Core.Bool.{false}
use lib.Dec.{eqb}
use lib.ListN.{get_or}
use Rattle.basics.specs.Lists.{sum, any}
use Rattle.door.specs.Job.{entries}
use Rattle.door.specs.Entries.{entries_next, entries_none}
use Rattle.door.specs.Values.{runs_from}
use native.Mathlib.Omega.{arith}
use Rattle.door.proofs.runs_from.Goals as goal
use Rattle.door.proofs.runs_from.Goals.{After-loop-j, In-loop-j, Start}

-- the runs that are read
abbrev own : Start → List ℕ
own a = let x = a.args in entries x.runs.now x.u x.n

past_all : (c : After-loop-j) → let x = c.args in entries x.runs.now (x.u + c.loop-j.j) (x.n - c.loop-j.j) ≡ []
past_all c = let x = c.args in entries_none x.runs.now x.u x.n c.loop-j.j c.loop-j-test.false

none : (c : After-loop-j) → any (eqb 0) (own (goal.at.After-loop-j c).Start) ≡ false
none c = sym c.loop-j.invariant.1 ∙ ap (any (eqb 0)) (past_all c)

all : (c : After-loop-j) → sum (own (goal.at.After-loop-j c).Start) ≡ c.loop-j.taken
all c = omega (arith, c.loop-j.invariant.2, ap sum (past_all c))

-- one run more
one_more : (i : In-loop-j) →
    let x = i.args in
    entries x.runs.now (x.u + i.loop-j.j) (x.n - i.loop-j.j) ≡ get_or x.runs.now (x.u + i.loop-j.j) 0 ∷ entries x.runs.now (x.u + (i.loop-j.j + 1)) (x.n - (i.loop-j.j + 1))
one_more i = let x = i.args in entries_next x.runs.now x.u x.n i.loop-j.j i.loop-j-test.true

pub returns-then-run-eq0 : goal.returns-then-run-eq0
unfolding runs_from
returns-then-run-eq0 c =
    rw (← c.loop-j.invariant.1, one_more (goal.at.returns-then-run-eq0 c).In-loop-j, ← c.run_at-run.ensures, eq-eqb 0 _ (sym c.if-run-eq0.true))

pub loop-j-preserved : goal.loop-j-preserved
loop-j-preserved c =
    let inv = c.loop-j.invariant in (
      omega arith,
      sym (rw (one_more (goal.at.loop-j-preserved c).In-loop-j, ← c.run_at-run.ensures, ne_eqb 0 c.run_at-run.result (λ e. c.if-run-eq0.false (sym e)))) ∙ inv.1,
      omega (arith, ap sum (one_more (goal.at.loop-j-preserved c).In-loop-j), c.run_at-run.ensures, inv.2),
    )

pub returns-then-taken : goal.returns-then-taken
unfolding runs_from
returns-then-taken c = rw (none (goal.at.returns-then-taken c).After-loop-j, all (goal.at.returns-then-taken c).After-loop-j, lt-ltb 64 _ c.if-taken.true)

pub returns : goal.returns
unfolding runs_from
returns c = rw (none (goal.at.returns c).After-loop-j, all (goal.at.returns c).After-loop-j, le-ltb 64 _ c.if-taken.false)
