-- The laws that the code's proofs use.
use Rattle.std.proofs.Common.{mul-le-mul}
use Rattle.std.proofs.lemmas.Bool.Decides.{nat_tests}
use Rattle.spread.specs.Ratio.{housed}
use Rattle.spread.specs.Laws.{share_le, middle-small, whole-some}
use Rattle.spread.proofs.Laws.{ends-fit}

pub ruleset spread_steps = (nat_tests, middle-small, whole-some, ends-fit)

pub ruleset share_steps = (share_le, mul-le-mul)

pub ruleset way_steps = (nat_tests, housed)
