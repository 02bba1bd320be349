-- "Show that every reading stands clear of its neighbours": what that means of a line of a job, by the positions of its characters in the result lists, their
-- widths, and nothing else. `proofs/Characters.antt` has the theorem: it holds of every line that is set.
use Rattle.std.specs.Prelude.{◌≡◌, List, ◌⊎◌, ℕ, suc, ◌+◌, ◌*◌, ◌≤◌, ◌<◌, length, get_or}
use Rattle.word.specs.declared.Form.TheVariants.{P}
use Rattle.line.specs.declared.Side.{Side}
use Rattle.door.specs.declared.Piece.{Piece}
use Rattle.door.specs.Job.{Job}
use Rattle.job.specs.Line.{pieces, depths_at, first_of, many_of, widths_of}
use Rattle.job.specs.Promise.{piece_of}

-- Character i is one of piece k of the line from s up to e. A piece is an element of the job, or what of a J stands in the line (`pieces`); `first` is its first
-- character and `many` how many it has.
pub record Of (first many : Piece → ℕ) (job : Job) (s e k i : ℕ) : Type 0 where
  pub there : k < length (pieces job s e)
  pub low : first (piece_of job s e k) ≤ i
  pub high : i < first (piece_of job s e k) + many (piece_of job s e k)

abbrev pub BaseOf : Job → ℕ → ℕ → ℕ → ℕ → Type 0
BaseOf = Of (λ p. p.base) (λ p. p.bases)

-- a ruby character, and a left one
abbrev pub ReadingOf : Side → Job → ℕ → ℕ → ℕ → ℕ → Type 0
ReadingOf side = Of (first_of side) (many_of side)

-- where character i starts, and where it ends, by a list of positions and one of widths: positions are in half units, widths in units
abbrev pub start : List ℕ → ℕ → ℕ
start positions i = get_or positions i 0

abbrev pub end : List ℕ → List ℕ → ℕ → ℕ
end positions widths i = get_or positions i 0 + 2 * get_or widths i 0

-- how deep ruby may lie on base character j: from its start and from its end
abbrev pub on_start : Job → ℕ → ℕ
on_start job j = (depths_at job j).before

abbrev pub on_end : Job → ℕ → ℕ
on_end job j = (depths_at job j).after

-- The line from s up to e, by the positions of all base characters of the job and of all characters of either side: `reading` has those of its side.
pub record StandsClear (job : Job) (base : List ℕ) (reading : Side → List ℕ) (s e : ℕ) : Type 0 where
  -- The base characters of the line stand in the order of the text, and none reaches a later one: be they of one string or of two elements.
  pub bases : (i j : ℕ) → s ≤ i → i < j → j < e → end base job.width i ≤ start base j
  -- Nor does a character of one side reach a later one. "No two rubies overlap. Touching is allowed"; R-5: "rule 3 for rubies of one side".
  pub readings : (side : Side) (k m i j : ℕ) → ReadingOf side job s e k i → ReadingOf side job s e m j → i < j → end (reading side) (widths_of side job) i ≤ start (reading side) j
  -- "Ruby keeps off every other element's block", R-5: "rule 2 holds for each ruby": a character of either side ends before every base character of a later element starts, except
  -- that it may reach past the start of "the P element just after it", as deep as is permitted;
  pub ahead : (side : Side) (k m i j : ℕ) → ReadingOf side job s e k i → BaseOf job s e m j → k < m →
      (end (reading side) (widths_of side job) i ≤ start base j)
      ⊎ ((m ≡ suc k) × ((piece_of job s e m).form ≡ P) × (end (reading side) (widths_of side job) i ≤ start base j + on_start job j))
  -- and starts after every base character of an earlier element ends, except that it may lie on the end of "the P element just before it".
  pub behind : (side : Side) (k m i j : ℕ) → ReadingOf side job s e k i → BaseOf job s e m j → m < k →
      (end base job.width j ≤ start (reading side) i) ⊎ ((k ≡ suc m) × ((piece_of job s e m).form ≡ P) × (end base job.width j ≤ start (reading side) i + on_end job j))
  -- "Nothing starts before the line's start", which is 0, "or ends after the measure."
  pub bases_fit : (i : ℕ) → s ≤ i → i < e → end base job.width i ≤ 2 * job.measure
  pub readings_fit : (side : Side) (k i : ℕ) → ReadingOf side job s e k i → end (reading side) (widths_of side job) i ≤ 2 * job.measure
