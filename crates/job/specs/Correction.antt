-- "What one correction may disturb" (document 02, R-9), of jobs, by the positions of the characters in the result lists: two jobs that are answered with lines, and a line of each;
-- the lines have the same pieces but for a part. The theorem is `correction` in `proofs/Correction.antt`. Nothing is asked of the jobs outside of these lines; `Exchanged` has the two
-- jobs that differ in one element.
use Rattle.std.specs.Prelude.{◌≡◌, List, ◌∷◌, ◌↔◌, ℕ, ◌+◌, ◌≤◌, ◌<◌, length, get_or}
use Rattle.readings.specs.Alike.{AlikeBoth}
use Rattle.line.specs.declared.Side.{Side}
use Rattle.line.specs.Exchange.{Stayed, Moved}
use Rattle.door.specs.declared.Piece.{Piece}
use Rattle.door.specs.Job.{Job, given, gloss_of}
use Rattle.job.specs.declared.Answer.TheVariants.{Set}
use Rattle.job.specs.Line.{pieces, first_of, many_of}
use Rattle.job.specs.Outcome.{Outcome, readings, outcome}
use Rattle.job.specs.Promise.{piece_of}
use Rattle.job.specs.Clear.{start}

-- a job, the result lists that are lent with it, and the number of one of its lines
pub record Line : Type 0 where
  pub job : Job
  pub base : List ℕ
  pub ruby : List ℕ
  pub left : List ℕ
  pub lines : List ℕ
  pub number : ℕ

-- the answer to the job, and the result lists after it
abbrev pub result : Line → Outcome
result l = outcome l.job l.base l.ruby l.left l.lines

-- "Both lines must be settable": the answer is so many lines, and this is one of them
pub record IsSet (l : Line) : Type 0 where
  pub count : ℕ
  pub answer : (result l).answer ≡ Set count
  pub there : l.number < count

-- the line goes from the end of the line before it up to its own
abbrev pub from : Line → ℕ
from l = get_or (0 ∷ (result l).lines) l.number 0

abbrev pub upto : Line → ℕ
upto l = get_or (result l).lines l.number 0

-- How many pieces it has, and its piece k, each an element to the clearance rules: an element of the job, what of a J stands in the line, or a character of a J with a mono left reading.
abbrev pub many : Line → ℕ
many l = length (pieces l.job (from l) (upto l))

abbrev pub piece : Line → ℕ → Piece
piece l k = piece_of l.job (from l) (upto l) k

-- One element in two jobs: one form; alike in em, in the classes and widths of its base characters and of either reading's, in its left kind and, as far as they are read, in its runs
-- (`AlikeBoth`); and with the same blanks. Where its characters stand in the job's lists is no matter.
pub record SameElement (job : Job) (p : Piece) (job' : Job) (q : Piece) : Type 0 where
  pub profile : job.profile ≡ job'.profile
  pub form : p.form ≡ q.form
  pub alike : AlikeBoth p.form (given job p) (gloss_of job p) (given job' q) (gloss_of job' q)
  pub before : (given job p).before ≡ (given job' q).before
  pub after : (given job p).after ≡ (given job' q).after

-- "one element is exchanged for another and the line's breaks are kept": the two lines have the same pieces but for those that the element makes up, m from the n-th on in the one line
-- and m' in the other. Most elements make up one.
pub record PartExchanged (n m m' : ℕ) (l l' : Line) : Type 0 where
  pub some : 0 < m
  pub some' : 0 < m'
  pub there : n + m ≤ many l
  pub each : many l' + m ≡ many l + m'
  pub before : (k : ℕ) → k < n → SameElement l.job (piece l k) l'.job (piece l' k)
  pub after : (i : ℕ) → n + m + i < many l → SameElement l.job (piece l (n + m + i)) l'.job (piece l' (n + m' + i))
  -- Both are their job's first line or neither is: "a class 14 character that is the job's first element takes no ruby at all" (R-1), and elsewhere it does.
  pub first : (l.number ≡ 0) ↔ (l'.number ≡ 0)

-- H holds of where each character of piece k stands in the one result and where the same character of piece k' stands in the other: of base characters and of those of either side.
pub record Throughout (H : (was now : ℕ) → Type 0) (l l' : Line) (k k' : ℕ) : Type 0 where
  pub bases : (i : ℕ) → i < (piece l k).bases → H (start (result l).base ((piece l k).base + i)) (start (result l').base ((piece l' k').base + i))
  pub readings : (side : Side) (i : ℕ) → i < many_of side (piece l k) →
      H (start (readings (result l) side) (first_of side (piece l k) + i)) (start (readings (result l') side) (first_of side (piece l' k') + i))

-- "every element before it stays where it was, and all elements from the second after it onward move by one and the same amount": on by one number and back by
-- another (`Stayed` and `Moved` of `line/specs/Exchange.antt`). The first piece after it is the one with i = 0, the second the one with i = 1.
pub record Corrected (n m m' : ℕ) (l l' : Line) : Type 0 where
  pub stays : (k : ℕ) → k < n → Throughout Stayed l l' k k
  pub forth : ℕ
  pub back : ℕ
  pub moves : (i : ℕ) → 1 ≤ i → n + m + i < many l → Throughout (Moved forth back) l l' (n + m + i) (n + m' + i)

-- A line that has all its pieces as they were stands as it was: the corrected line's neighbours need no second look.
pub record SameLine (l l' : Line) : Type 0 where
  pub each : many l' ≡ many l
  pub all : (k : ℕ) → k < many l → SameElement l.job (piece l k) l'.job (piece l' k)
  pub first : (l.number ≡ 0) ↔ (l'.number ≡ 0)
