-- The refusal comes first. Where its number is 11, what the line needs follows it, as the table's rows tell it.
use mathlib.Core.Path.{◌≡◌, sym, ◌∙◌}
use Rattle.text.specs.Written.{then}
use Rattle.refusal.specs.Refusal.{number_of, place_of}
use Rattle.result.specs.Short.{refusal_short}
use Rattle.shortest.specs.Shortest.{needed_of}
use Rattle.account_sheet.specs.Tell as tell
use native.Mathlib.Omega.{arith}
use Rattle.account_sheet.proofs.write_declined.Goals as goal
use Rattle.account_sheet.proofs.write_declined.Goals.{After-needed_extent-needed, Else-number-ne11}

eleven : (c : Else-number-ne11) → number_of c.args.why ≡ 11
eleven c = sym c.number.ensures ∙ c.if-number-ne11.false

-- what the line needs
told : (c : After-needed_extent-needed) →
    let a = c.args in
    c.needed_extent-needed.result ≡ needed_of a.t.now a.n (place_of a.why)
told c = rw c.place.ensures at c.needed_extent-needed.ensures

pub write_refusal-at-requires : goal.write_refusal-at-requires
write_refusal-at-requires c = omega (arith, refusal_short c.args.why, c.requires.room)

pub returns-then-number-ne11 : goal.returns-then-number-ne11
returns-then-number-ne11 c =
    rw (tell.other_text c.args.why _ _ (λ e. c.if-number-ne11.true (c.number.ensures ∙ e))) c.write_refusal-at.ensures

pub needed_extent-needed-requires : goal.needed_extent-needed-requires
needed_extent-needed-requires c = rw c.place.ensures (c.requires.line (eleven (goal.at.needed_extent-needed-requires c).Else-number-ne11)).0

pub put_needs-requires : goal.put_needs-requires
put_needs-requires c =
    (tell.needs-fit c.args.why _ _ c.requires.room c.write_refusal-at.ensures, (c.requires.line (eleven (goal.at.put_needs-requires c).Else-number-ne11)).1)

pub returns : goal.returns
returns c =
    rw (tell.line_text_lem c.args.why _ _ (eleven (goal.at.returns c).Else-number-ne11)) (then c.write_refusal-at.ensures (rw (told (goal.at.returns c).After-needed_extent-needed) at c.put_needs.ensures))
