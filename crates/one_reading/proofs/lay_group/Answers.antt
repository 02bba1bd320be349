-- Level one is asked by what it wants to know of the strings. Its answer is taken apart: the rows are written, or the refusal is handed up.
use Rattle.one_reading.specs.Lay.{measured}
use Rattle.one_reading.proofs.lay_group.Goals as goal

pub group_answer-answer-requires : goal.group_answer-answer-requires
group_answer-answer-requires c =
    (measured c.requires c.ruby_at-ruby.ensures, c.requires.house)
