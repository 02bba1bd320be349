-- By how much a declined line is too long: the extent that the shortest permitted line from a base character has (document 01, "Level two" and refusal 11: "no
-- permitted break gives a line that can be set").
use Rattle.std.specs.Prelude.{List, [], ◌∷◌, map, ℕ, min}
use Rattle.door.specs.Job.{Job, base_count}
use Rattle.job.specs.Line.{extent_of, tries}

-- the least of d and some numbers
abbrev pub least : ℕ → List ℕ → ℕ
least d [] = d
least d (x ∷ xs) = min x (least d xs)

-- "Every permitted break ahead is a try": the least extent that the line from s has at any of them. The job's end is always one, so its extent is what the
-- others are held against.
unfoldable pub needed : Job → ℕ → ℕ
unfolding extent_of tries base_count
needed job s = least (extent_of job s (base_count job)) (map (extent_of job s) (tries job s))
