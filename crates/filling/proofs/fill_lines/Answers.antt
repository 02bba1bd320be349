-- The lines so far, `Sofar`, go on by one with each turn, until one is stuck or the last ends the job.
use mathlib.Core.Path.{◌≡◌, refl, sym, ap, ◌∙◌, subst}
use Prim.Native.Nat.{ℕ, ◌+◌, ◌<◌, ◌≤◌}
use lib.ListN.{length, set}
use native.Mathlib.Omega.{arith}
use Rattle.line.specs.Setting.{furthest}
use Rattle.cells.specs.Rows.{Rows}
use Rattle.cells.specs.Cells.{state_at, end_of}
use Rattle.filling.specs.Search.{end_break}
use Rattle.filling.specs.Lines as lines
use Rattle.filling.proofs.fill_lines.Goals as goal
use Rattle.filling.proofs.fill_lines.Goals.{After-line_end-found, Else-e-eq0}

-- the line's end, and its extent
end-at : (limit : ℕ) (t : Rows) (n s : ℕ) → (end_break limit t n s).at ≡ end_of limit t n s
unfolding end_break
end-at limit t n s = refl

end-far : (limit : ℕ) (t : Rows) (n s : ℕ) → (end_break limit t n s).extent ≡ furthest (state_at t s (end_break limit t n s).at)
unfolding end_break
end-far limit t n s = refl

found : (c : After-line_end-found) →
    let a = c.args in
    c.line_end-found.result.at ≡ end_of a.limit a.t.now a.n c.loop-s.s
found c =
    let a = c.args in
    ap (λ z. z.at) c.line_end-found.ensures ∙ end-at a.limit a.t.now a.n c.loop-s.s

far : (c : After-line_end-found) →
    let a = c.args in
    c.line_end-found.result.extent ≡ furthest (state_at a.t.now c.loop-s.s c.line_end-found.result.at)
far c =
    let a = c.args in
    rw c.line_end-found.ensures (end-far a.limit a.t.now a.n c.loop-s.s)

more : (c : Else-e-eq0) →
    let a = c.args in
    (c.loop-s.s < c.line_end-found.result.at) × (c.line_end-found.result.at ≤ a.n) × (a.n ≤ 1024) × (c.loop-s.k < length c.loop-s.ends) × (c.loop-s.k < length c.loop-s.extents) ×
    (c.loop-s.s < a.n) × (c.loop-s.k < 1024)
more c =
    let a = c.args in
    let q = c.loop-s.invariant in
    let h = c.loop-s-test.true in
    let e = c.line_end-found.result.at in
    let f = lines.further a.limit a.t.now a.n a.ends.now c.loop-s.ends a.extents.now c.loop-s.extents c.loop-s.s c.loop-s.k q h e (found (goal.at.Else-e-eq0 c).After-line_end-found)
    c.if-e-eq0.false in
    let long = lines.long a.limit a.t.now a.n a.ends.now c.loop-s.ends a.extents.now c.loop-s.extents c.loop-s.s c.loop-s.k q in
    let longFar = lines.long-far a.limit a.t.now a.n a.ends.now c.loop-s.ends a.extents.now c.loop-s.extents c.loop-s.s c.loop-s.k q in
    (f.0, f.1, q.sound.few, omega (arith, long, q.room, q.few), omega (arith, longFar, q.room_far, q.few), h, omega (arith, q.few, q.sound.few))

pub loop-s-init : goal.loop-s-init
loop-s-init c =
    lines.sofar-first c.args.limit c.args.t.now c.args.n c.args.ends.now c.args.extents.now c.requires.0 c.requires.1 c.requires.2

pub returns-then-e-eq0 : goal.returns-then-e-eq0
returns-then-e-eq0 c =
    let a = c.args in
    lines.stuck a.limit a.t.now a.n a.ends.now c.loop-s.ends a.extents.now c.loop-s.extents c.loop-s.s c.loop-s.k c.loop-s.invariant c.loop-s-test.true
    (sym (found (goal.at.returns-then-e-eq0 c).After-line_end-found) ∙ c.if-e-eq0.true)

pub overflow_cast-ends : goal.overflow_cast-ends
overflow_cast-ends c = omega (arith, more c)

pub loop-s-smaller : goal.loop-s-smaller
loop-s-smaller c = omega (arith, more c)

pub loop-s-preserved : goal.loop-s-preserved
loop-s-preserved c =
    let a = c.args in
    let e = c.line_end-found.result.at in
    subst (λ z. lines.Sofar a.limit a.t.now a.n a.ends.now (set c.loop-s.ends c.loop-s.k e) a.extents.now (set c.loop-s.extents c.loop-s.k z) e
    (c.loop-s.k + 1)) (sym (far (goal.at.loop-s-preserved c).After-line_end-found))
    (lines.sofar-next a.limit a.t.now a.n a.ends.now c.loop-s.ends a.extents.now c.loop-s.extents c.loop-s.s c.loop-s.k c.loop-s.invariant
    c.loop-s-test.true e (found (goal.at.loop-s-preserved c).After-line_end-found) c.if-e-eq0.false)

pub returns : goal.returns
returns c =
    let a = c.args in
    lines.full a.limit a.t.now a.n a.ends.now c.loop-s.ends a.extents.now c.loop-s.extents c.loop-s.s c.loop-s.k c.loop-s.invariant c.loop-s-test.false
