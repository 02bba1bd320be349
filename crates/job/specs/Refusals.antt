-- The refusal list, whole: the rows of the lines, and the order of all (document 01, "Refusal list"). The rows before them are in `Refusals` of `door`.
use Rattle.std.specs.Prelude.{Bool, ℕ, eqb, ltb, List, ◌∷◌, ◌++◌}
use mathlib.Core.List.{head?}
use Rattle.std.proofs.Math.Option.{Option}
use Rattle.basics.specs.Lists.{each, keep}
use Rattle.refusal.specs.declared.Refusal.{Refusal}
use Rattle.refusal.specs.declared.Refusal.TheVariants.{NoBreak}
use Rattle.door.specs.Job.{Job, base_count}
use Rattle.door.specs.Refusals.{◌when◌, own_faults}
use Rattle.job.specs.Line.{furthest, ends}

-- 11: "no permitted break gives a line that can be set"
unfoldable pub no_break : Job → ℕ → Bool
unfolding furthest
no_break job s = eqb (furthest job s) 0

-- its place is the "first base character of the line"
abbrev pub line_faults : Job → ℕ → List Refusal
line_faults job s = NoBreak s when no_break job s

-- "then lines in turn": a line begins at the first base character, and at the end of each line "so far"
unfoldable pub lines_faults : Job → List Refusal
unfolding no_break ends base_count
lines_faults job = each (line_faults job) (keep (λ s. ltb s (base_count job)) (0 ∷ ends job))

-- "Order: 1, 2 and 12, ..; then base characters and then ruby characters in turn, ..; then elements in turn, ..; then leftover characters; then lines in
-- turn"; base, ruby, left and lines are the lengths of the result lists
unfoldable pub faults : Job → ℕ → ℕ → ℕ → ℕ → List Refusal
unfolding own_faults lines_faults
faults job base ruby left lines = own_faults job base ruby left lines ++ lines_faults job

-- the first of them, if there is any
unfoldable pub fault : Job → ℕ → ℕ → ℕ → ℕ → Option Refusal
unfolding faults
fault job base ruby left lines = head? (faults job base ruby left lines)
