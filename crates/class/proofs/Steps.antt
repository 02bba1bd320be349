-- The laws that the code's proofs use.
use Rattle.std.proofs.lemmas.Bool.Decides.{nat_tests}
use Rattle.class.specs.Laws.{kind_law, on_none, on-space, on_sides}
use Rattle.class.specs.Marks.{read_back}

pub ruleset class_steps = (nat_tests, kind_law, on_none, on-space, on_sides, read_back)
