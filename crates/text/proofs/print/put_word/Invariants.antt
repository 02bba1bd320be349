-- What is to be written at the end is, at each step, what stands there and the rest of the word from the next place on. A step takes one byte off the rest.
use Rattle.std.proofs.Common.{◌≡◌, ◌≤◌, ◌+◌, length, drop}
use Rattle.std.proofs.lemmas.List.Edits.{sets}
use Rattle.text.proofs.print.put_word.Given as goal

abbrev pub invariant-loop-i : goal.invariant-loop-i
invariant-loop-i l =
    (length l.out ≡ length l.initial.out) × (l.from + length l.w ≤ length l.initial.out) × (sets l.initial.out l.from l.w ≡ sets l.out (l.from + l.i) (drop l.i l.w))
