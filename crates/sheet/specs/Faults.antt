-- "The first fault met, 13 or a count over its maximum (2)": the reading of a sheet gives no other number.
-- The theorem is in `proofs/Faults.antt`.
use Rattle.std.specs.Prelude.{Bool, ◌||◌, eqb}
use Rattle.refusal.specs.Refusal.{number_of}
use Rattle.refusal.specs.declared.Refusal.{Refusal}

-- 13 or 2
abbrev pub ours : Refusal → Bool
ours r = eqb (number_of r) 13 || eqb (number_of r) 2
