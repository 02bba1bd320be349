-- What a function that writes some parts one after the other needs.
use Rattle.std.proofs.Common.{length-append}
use Rattle.text.specs.Written.{same-long}

pub ruleset put_steps = (length-append, same-long)
