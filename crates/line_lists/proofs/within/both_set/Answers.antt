-- The right reading is judged by the left one, and the left by the right. What is said of each side is said of both.
use Rattle.std.proofs.Common.{◌≡◌, false}
use Rattle.line.specs.declared.Element.{Element}
use Rattle.line.specs.declared.Side.{Side}
use Rattle.line.specs.declared.Side.TheVariants.{Right, Left}
use Rattle.line.specs.Rules.{other, ruby, HasRuby, Fits}
use Rattle.line_lists.proofs.within.both_set.Goals as goal

both : (e : Element) → (HasRuby Right e → Fits e e.left e.right) → (HasRuby Left e → Fits e e.right e.left) →
    (s : Side) → HasRuby s e → Fits e (ruby (other s) e) (ruby s e)
both e r l Right = r
both e r l Left = l

pub returns-then-well_set : goal.returns-then-well_set
returns-then-well_set c =
    let r = c.well_set.ensures.0 c.if-well_set.true in
    (λ t. both c.args.e r (c.well_set-then-well_set.ensures.0 t), λ w. c.well_set-then-well_set.ensures.1 (w Left))

pub returns-else-well_set : goal.returns-else-well_set
returns-else-well_set c = (λ t. absurd (let f : ◌≡◌ c.well_set.result false = c.if-well_set.false in cc), λ w. c.well_set.ensures.1 (w Right))
