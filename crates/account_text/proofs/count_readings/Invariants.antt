-- The readings of the elements so far are counted. A turn counts those of one element.
use mathlib.Core.Path.{◌≡◌}
use Rattle.account_text.specs.Text.{readings_of}
use Rattle.account_text.proofs.count_readings.Given as goal

abbrev pub invariant-loop-k : goal.invariant-loop-k
invariant-loop-k l = l.readings ≡ readings_of l.kind l.lkind l.k
