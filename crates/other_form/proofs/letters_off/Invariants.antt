-- What is written, and what the bytes from here on become, is the whole. A turn takes one byte and knows the one after it.
use Rattle.std.proofs.Common.{drop}
use Rattle.other_form.specs.Bytes.{letters_off}
use Rattle.other_form.specs.Steps.{ToWrite}
use Rattle.other_form.proofs.letters_off.Given as goal

abbrev pub invariant-loop-at : goal.invariant-loop-at
invariant-loop-at l = ToWrite l.initial.out l.to (letters_off (drop l.from l.s)) l.out l.p (letters_off (drop l.at l.s))
