-- The steps that the proofs of this crate repeat: which reason an element's number leaves to be looked for, and what the ruby that reaches furthest says of one behind it.
use Rattle.account.specs.Step.{reason-first, reason-next, touched_one, touched_none}

pub ruleset reason_steps = (reason-first, reason-next)

pub ruleset ruby_steps = (touched_one, touched_none)
