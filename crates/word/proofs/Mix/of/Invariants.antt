-- What was found and what is still to be found make up what the string has. At the end nothing is left to be found.
use Rattle.std.proofs.Common.{◌≡◌, drop}
use Rattle.word.specs.Kinds.{mix_of, join}
use Rattle.word.proofs.Mix.of.Given as goal

abbrev pub invariant-loop-c : goal.invariant-loop-c
invariant-loop-c l = join l.m (mix_of (drop l.c-index l.cs)) ≡ mix_of l.cs
