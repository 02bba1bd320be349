-- The section as it was read: the counts of elements, runs and left runs, the place past them and the number of the line there.
use Rattle.std.specs.Prelude.{ℕ, Result, Ok}
use Rattle.refusal.specs.declared.Refusal.{Refusal}
use Rattle.elements.specs.declared.Elements.{Elements}

abbrev pub Read : ℕ → ℕ → ℕ → ℕ → ℕ → Result Elements Refusal
Read n runs lruns at line = Ok (record { count = n; runs = runs; lruns = lruns; at = at; line = line })
