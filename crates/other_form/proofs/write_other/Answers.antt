-- The fifth byte tells the form, and each form is written by its own function.
use Rattle.std.proofs.Common.{◌∙◌, sym}
use Rattle.other_form.specs.Joined.{is_one, is_two_lem}
use Rattle.other_form.proofs.write_other.Goals as goal

pub to_one-requires : goal.to_one-requires
to_one-requires c =
    is_two_lem c.requires (sym c.byte_at.ensures ∙ c.if-byte_at-eq57.true)

pub to_two-requires : goal.to_two-requires
to_two-requires c =
    is_one c.requires (λ e. c.if-byte_at-eq57.false (c.byte_at.ensures ∙ e))
