-- The case that was matched is the answer's own; the number of lines fits, as there are few.
use mathlib.Core.Path.{sym, ap}
use Rattle.exports.specs.Told.{told}
use native.Mathlib.Omega.{arith}
use Rattle.exports.proofs.answer_of.Goals as goal

pub overflow_cast-result : goal.overflow_cast-result
overflow_cast-result c = omega (arith, rw c.in-Set.is at c.requires)

pub returns-in-Set : goal.returns-in-Set
returns-in-Set c = sym (ap told c.in-Set.is)

pub returns-in-Refused : goal.returns-in-Refused
returns-in-Refused c = rw (c.number.ensures, c.place.ensures) (sym (ap told c.in-Refused.is))
