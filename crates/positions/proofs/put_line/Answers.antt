-- Before each piece, what is written and what the pieces from there on add make up the whole line; a piece writes its base and its readings, or its one character.
use mathlib.Core.Path.{◌≡◌, refl, ap, ◌∙◌}
use Prim.Native.Nat.{ℕ}
use lib.ListN.{set}
use lib.Seq.{sets}
use Rattle.line.specs.declared.Side.TheVariants.{Right, Left}
use Rattle.line.specs.Setting.{origin}
use Rattle.cells.specs.declared.Step.{Step}
use Rattle.cells.specs.Cells.{step_at, stop}
use Rattle.positions.specs.Positions.{Sheet, sheet, first, piece_of, base_put, side_put}
use Rattle.positions.specs.Line as one
use native.Mathlib.Omega.{arith}
use Rattle.positions.proofs.put_line.Goals as goal
use Rattle.positions.proofs.put_line.Goals.{After-advance-step, After-min-c, At-loop-i, Joined-over, then-over, else-over}

abbrev g : At-loop-i → Sheet
g c = let a = c.args in sheet a.t.now a.width.now a.rwidth.now a.lwidth.now

-- where the piece ends, and its origin
abbrev end : At-loop-i → ℕ
end c = stop c.args.t.now c.loop-i.i c.args.l.upto

abbrev spot : At-loop-i → ℕ
spot c = origin c.loop-i.st (piece_of (g c) c.loop-i.i (end c))

end_is : (c : After-min-c) → c.min-c.result ≡ end (goal.at.After-min-c c).At-loop-i
end_is c = c.min-c.ensures ∙ rw c.row-a.ensures

step_is : (c : After-advance-step) → c.advance-step.result ≡ step_at c.args.t.now c.loop-i.st c.loop-i.i (end (goal.at.After-advance-step c).At-loop-i)
step_is c =
    c.advance-step.ensures ∙ ap (step_at c.args.t.now c.loop-i.st c.loop-i.i) (end_is (goal.at.After-advance-step c).After-min-c)

pub loop-i-init : goal.loop-i-init
loop-i-init c = one.along-first c.requires

pub advance-step-requires : goal.advance-step-requires
advance-step-requires c =
    rw (end_is c) (one.can_advance c.requires c.loop-i.invariant c.loop-i-test.true)

pub put_piece-requires : goal.put_piece-requires
put_piece-requires c =
    let there = rw (step_is (goal.at.put_piece-requires c).After-advance-step) at c.if-over.true in
    rw (step_is (goal.at.put_piece-requires c).After-advance-step, end_is (goal.at.put_piece-requires c).After-min-c) (
      (one.can_advance c.requires c.loop-i.invariant c.loop-i-test.true).held,
      refl,
      record {
        base = one.asks-base c.requires c.loop-i.invariant c.loop-i-test.true there;
        ruby = one.asks-ruby c.requires c.loop-i.invariant c.loop-i-test.true;
        left = one.asks-left c.requires c.loop-i.invariant c.loop-i-test.true;
      },
    )

-- what the piece leaves, by its two cases
leaves : (c : Joined-over) → (c.if-over.base ≡ sets c.loop-i.base c.loop-i.i (base_put (g (goal.at.Joined-over c).At-loop-i) c.loop-i.i (end (goal.at.Joined-over c).At-loop-i) (spot (goal.at.Joined-over c).At-loop-i)))
    × (c.if-over.ruby ≡ sets c.loop-i.ruby (first Right c.args.t.now c.loop-i.i) (side_put Right (g (goal.at.Joined-over c).At-loop-i) c.loop-i.i (end (goal.at.Joined-over c).At-loop-i) (spot (goal.at.Joined-over c).At-loop-i)))
    × (c.if-over.left ≡ sets c.loop-i.left (first Left c.args.t.now c.loop-i.i) (side_put Left (g (goal.at.Joined-over c).At-loop-i) c.loop-i.i (end (goal.at.Joined-over c).At-loop-i) (spot (goal.at.Joined-over c).At-loop-i)))
leaves c =
    let a = c.requires in
    let q = c.loop-i in
    let l = c.loop-i-test.true in
    elim c.if-over.branch [
      | then-over w ↦ (
        one.wrote_base a q.invariant l (rw (step_is (goal.at.Joined-over c).After-advance-step) at w.if-over.true) (w.base-is ∙ w.put_piece.ensures.base ∙ rw (step_is (goal.at.Joined-over c).After-advance-step, end_is (goal.at.Joined-over c).After-min-c)),
        one.wrote_side a q.invariant l Right q.ruby c.if-over.ruby (w.ruby-is ∙ w.put_piece.ensures.ruby ∙ rw (step_is (goal.at.Joined-over c).After-advance-step, end_is (goal.at.Joined-over c).After-min-c)),
        one.wrote_side a q.invariant l Left q.left c.if-over.left (w.left-is ∙ w.put_piece.ensures.left ∙ rw (step_is (goal.at.Joined-over c).After-advance-step, end_is (goal.at.Joined-over c).After-min-c)),
      )
      | else-over w ↦ let none = rw (step_is (goal.at.Joined-over c).After-advance-step) at w.if-over.false in
          (w.base-is ∙ ap (λ (z : Step). set q.base q.i z.at) (step_is (goal.at.Joined-over c).After-advance-step) ∙ one.wrote_plain a q.invariant l none, w.ruby-is ∙ one.no_ruby a q.invariant l none, w.left-is ∙ one.no_left_lem a q.invariant l none)
    ]

pub loop-i-smaller : goal.loop-i-smaller
loop-i-smaller c =
    rw c.row-a.ensures (omega (arith, (one.few c.requires c.loop-i.invariant c.loop-i-test.true).1, c.loop-i-test.true))

pub loop-i-preserved : goal.loop-i-preserved
loop-i-preserved c =
    rw ((leaves (goal.at.loop-i-preserved c).Joined-over).0, (leaves (goal.at.loop-i-preserved c).Joined-over).1, (leaves (goal.at.loop-i-preserved c).Joined-over).2, step_is (goal.at.loop-i-preserved c).After-advance-step, c.row-a.ensures)
    (one.along-next c.requires c.loop-i.invariant c.loop-i-test.true)

pub returns : goal.returns
returns c = one.along-end c.requires c.loop-i.invariant c.loop-i-test.false
