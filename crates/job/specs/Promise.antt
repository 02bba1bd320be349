-- What the demands say of a job, in their own terms: no search and no loop. `Placed` speaks of the line's origins as the engine finds them (`origins`); `lines-stand`
-- says that they stand as demand 3 has it, and there is only one such setting. `proofs/Demands.antt` has the theorems.
use Rattle.std.specs.Prelude.{◌≡◌, true, false, List, [], ◌∷◌, ◌⊎◌, ℕ, ◌+◌, ◌≤◌, ◌<◌, length, get_or}
use Rattle.word.specs.declared.Form.TheVariants.{P}
use Rattle.word.specs.declared.Left.TheVariants as left
use Rattle.line.specs.Rules.{Clear, Least, org}
use Rattle.line.specs.declared.Side.{Side}
use Rattle.door.specs.declared.Piece.{Piece}
use Rattle.door.specs.Job.{Job, base_count}
use Rattle.job.specs.Line.{line_of, permitted, pieces, origins, first_of, many_of, on_side, alone}

-- the line from s up to e "can be set": some setting of it keeps document 01's four rules
abbrev pub CanSet : Job → ℕ → ℕ → Type 0
CanSet job s e = (xs : List ℕ) × Clear job.measure (line_of job s e) xs

-- "Every permitted break ahead is a try"
pub record Break (job : Job) (s e : ℕ) : Type 0 where
  pub ahead : s < e
  pub within : e ≤ base_count job
  pub permits : permitted job e ≡ true

-- the line from s ends at e: "each ends at the furthest permitted break whose line can be set"
pub record Ends (job : Job) (s e : ℕ) : Type 0 where
  pub at : Break job s e
  pub set : CanSet job s e
  pub furthest : (d : ℕ) → Break job s d → CanSet job s d → d ≤ e

-- lines with these ends, one after the other, from s up to d
abbrev pub Chain : Job → ℕ → List ℕ → ℕ → Type 0
Chain job s [] d = s ≡ d
Chain job s (e ∷ es) d = Ends job s e × Chain job e es d

-- "Lines are filled from the first": they take all base characters
abbrev pub Filled : Job → List ℕ → Type 0
Filled job es = Chain job 0 es (base_count job)

-- 11: "after the lines so far, no permitted break gives a line that can be set"; s is the "first base character of the line"
pub record Stuck (job : Job) (s : ℕ) : Type 0 where
  pub sofar : List ℕ
  pub lines : Chain job 0 sofar s
  pub more : s < base_count job
  pub none : (e : ℕ) → Break job s e → CanSet job s e → ⊥

-- the setting of the line: it keeps the four rules, and no other that keeps them puts any piece nearer the line's start
abbrev pub Stands : Job → ℕ → ℕ → List ℕ → Type 0
Stands job s e xs = Least job.measure (line_of job s e) xs

-- one of the lines with these ends from s on is the one from a up to b
abbrev pub IsLine : ℕ → List ℕ → ℕ → ℕ → Type 0
IsLine s [] a b = ⊥
IsLine s (e ∷ es) a b = ((a ≡ s) × (b ≡ e)) ⊎ IsLine e es a b

-- where there is no piece
abbrev pub nobody : Piece
nobody = record { form = P; base = 0; bases = 0; ruby = 0; rubies = 0; run = 0; gloss = left.N; left = 0; lefts = 0; leftrun = 0; more = false }

abbrev pub piece_of : Job → ℕ → ℕ → ℕ → Piece
piece_of job s e k = get_or (pieces job s e) k nobody

-- Character i of the job stands at `position`: it is the `own`-th character of a piece of a line, and stands at the piece's origin in the line's setting and
-- its place in the word alone. `first` is a piece's first character and `many` how many it has; `alone` are their places in the word alone.
pub record Placed (first many : Piece → ℕ) (alone : Piece → List ℕ) (job : Job) (ends : List ℕ) (i position : ℕ) : Type 0 where
  pub from : ℕ
  pub upto : ℕ
  pub line : IsLine 0 ends from upto
  pub piece : ℕ
  pub there : piece < length (pieces job from upto)
  pub own : ℕ
  pub within : own < many (piece_of job from upto piece)
  pub is : i ≡ first (piece_of job from upto piece) + own
  pub stands : position ≡ org (origins job from upto) piece + get_or (alone (piece_of job from upto piece)) own 0

abbrev pub BasePlaced : Job → List ℕ → ℕ → ℕ → Type 0
BasePlaced job = Placed (λ p. p.base) (λ p. p.bases) (λ p. (alone job p).base) job

-- of ruby characters, and of left ones
abbrev pub ReadingPlaced : Side → Job → List ℕ → ℕ → ℕ → Type 0
ReadingPlaced side job = Placed (first_of side) (many_of side) (λ p. on_side side (alone job p)) job
