-- "if one element is exchanged for another and the line's breaks are kept" (document 02, R-9), of jobs: two jobs that differ in one element, and in both the line that has it. The
-- theorem is `one-element` in `proofs/Exchanged.antt`.
use Rattle.std.specs.Prelude.{◌≡◌, List, ℕ, ◌+◌, ◌≤◌, ◌<◌, length, get_or}
use Rattle.door.specs.declared.Piece.{Piece}
use Rattle.door.specs.Job.{Job, elements}
use Rattle.job.specs.Line.{words_in}
use Rattle.job.specs.Promise.{nobody}
use Rattle.job.specs.Correction.{Line, SameElement, PartExchanged, from, upto, piece}

-- element k of the job
abbrev pub element_of : Job → ℕ → Piece
element_of job k = get_or (elements job) k nobody

-- "one element is exchanged for another": the two jobs have the same elements but for element j
pub record ElementExchanged (j : ℕ) (job job' : Job) : Type 0 where
  pub there : j < length (elements job)
  pub each : length (elements job') ≡ length (elements job)
  pub others : (k : ℕ) → k < length (elements job) → (k ≡ j → ⊥) → SameElement job (element_of job k) job' (element_of job' k)

-- "and the line's breaks are kept": of line l of the one job and line l' of the other
pub record BreaksKept (j : ℕ) (l l' : Line) : Type 0 where
  -- as many lines stand before it
  pub number : l'.number ≡ l.number
  -- it begins at the same base character,
  pub begins : from l' ≡ from l
  -- has the whole of element j,
  pub ahead : from l ≤ (element_of l.job j).base
  pub behind : (element_of l.job j).base + (element_of l.job j).bases ≤ upto l
  -- and ends as many base characters after it as before.
  pub ends : upto l' + (element_of l.job j).bases ≡ upto l + (element_of l'.job j).bases

-- the words of element j in a line's job
abbrev pub words_of : Line → ℕ → List Piece
words_of l j = words_in l.job (element_of l.job j)

-- The words of element j stand in the line from piece n on: itself, or one for each character of a J with a mono left reading.
abbrev pub StandsFrom : ℕ → ℕ → Line → Type 0
StandsFrom n j l = (i : ℕ) → i < length (words_of l j) → piece l (n + i) ≡ get_or (words_of l j) i nobody

-- The exchanged element stands from piece n on in both lines, and all other pieces of the lines are the same.
pub record Exchanges (j : ℕ) (l l' : Line) : Type 0 where
  pub n : ℕ
  pub old : StandsFrom n j l
  pub new : StandsFrom n j l'
  pub part : PartExchanged n (length (words_of l j)) (length (words_of l' j)) l l'
