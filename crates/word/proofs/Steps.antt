-- The steps that the proofs of this crate repeat: a search through a list, a string's kinds one by one, a J's runs one by one, the space that a string shares out, and what a judgement that passes leaves.
use Rattle.std.proofs.Common.{ne_eqb, eq-eqb}
use Rattle.basics.specs.Laws.{any_pass, any-stop, any-end, sum_step, sum-part, sum-split}
use Rattle.spread.proofs.Laws.{all-space}
use Rattle.word.specs.Kinds.{mix_step, mix_end, all-kana-sort}
use Rattle.word.specs.Runs.{run-longer, run_fits, run-last, first-none, first_some}
use Rattle.word.specs.Summed.{judged_even, rows_even}

pub ruleset kind_steps = (mix_step, mix_end, all-kana-sort)

pub ruleset run_steps = (sum_step, sum-part, sum-split, run-longer, run_fits, run-last, first-none, first_some)

pub ruleset search_steps = (any_pass, any-stop, any-end, ne_eqb, eq-eqb)

pub ruleset space_steps = (all-space)

pub ruleset judged_steps = (judged_even, rows_even)
