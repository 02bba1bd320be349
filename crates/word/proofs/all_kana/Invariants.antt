-- What is left to test decides the whole. Past the last character nothing is left.
use Rattle.std.proofs.Common.{◌≡◌, not, drop}
use Rattle.basics.specs.Lists.{any}
use Rattle.class.specs.Class.{kana_like}
use Rattle.word.proofs.all_kana.Given as goal

abbrev pub invariant-loop-i : goal.invariant-loop-i
invariant-loop-i l = any (λ c. not (kana_like c)) (drop l.i l.cs) ≡ any (λ c. not (kana_like c)) l.cs
