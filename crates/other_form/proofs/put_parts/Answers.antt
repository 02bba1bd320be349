-- Each write begins where the one before it ended, so together they are the text.
use Rattle.std.proofs.Common.{append_assoc}
use Rattle.text.specs.Written.{then}
use Rattle.other_form.specs.Parts.{parts_text}
use Rattle.other_form.proofs.put_parts.Goals as goal

pub returns : goal.returns
unfolding parts_text
returns c =
    simp append_assoc at
    (then (then (then (then (then c.put_word-p1.ensures c.put_part-p2.ensures) c.put_word-p3.ensures) c.put_part-p4.ensures) c.put_word-p5.ensures) c.put_part.ensures)
