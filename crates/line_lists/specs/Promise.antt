-- What `set_line` promises, in the rules' own terms: nothing here says how a setting is found.
use Rattle.std.specs.Prelude.{◌≡◌, List, ◌++◌, map, ◌⊎◌, ℕ, ◌+◌, ◌*◌, ◌/◌, ◌≤◌, ◌<◌, length, get_or, drop, eqb, Result, Ok, Err}
use Rattle.basics.specs.Lists.{count}
use Rattle.refusal.specs.declared.Refusal.TheVariants.{Short}
use Rattle.line.specs.declared.Element.{Element}
use Rattle.line.specs.declared.Reading.{Reading}
use Rattle.line_lists.specs.declared.Why.{Why}
use Rattle.line_lists.specs.declared.Why.TheVariants.{Refused, Unsound, Long}
use Rattle.line.specs.Rules.{Clear, Least, extent, Sound}
use Rattle.line.specs.Setting.{total}

-- A line as it is lent: a table with a row of ten numbers for each element. A rest of fewer than ten is not read.
abbrev pub row : ℕ
row = 10

abbrev pub rows : List ℕ → ℕ
rows t = length t / row

-- the number k of row i, from 0
abbrev pub entry : List ℕ → ℕ → ℕ → ℕ
entry t i k = get_or t (row * i + k) 0

-- a reading, from the number k on: whether it is there, 0 or 1, its start and its end
abbrev pub reading_at : List ℕ → ℕ → ℕ → Reading
reading_at t i k = record { there = eqb (entry t i k) 1; from = entry t i (k + 1); upto = entry t i (k + 2) }

-- a row in turn: front and length of the block, the right reading, the left one, and the depths before and after
abbrev pub element_at : List ℕ → ℕ → Element
element_at t i =
    record {
      front = get_or t (row * i) 0;
      len = entry t i 1;
      right = reading_at t i 2;
      left = reading_at t i 5;
      before = entry t i 8;
      after = entry t i 9;
    }

abbrev pub line : List ℕ → List Element
line t = map (element_at t) (count 0 (rows t))

-- The limits of a job's lines: at most 1,024 elements, and no word longer than 64 ruby characters of 4,096 units.
abbrev pub most_elements : ℕ
most_elements = 1024

abbrev pub longest_element : ℕ
longest_element = 524288

-- an element "already set within itself", its flags 0 or 1, and no longer than a word may be
pub record SetWithin (right left : ℕ) (e : Element) : Type 0 where
  pub right_flag : right ≤ 1
  pub left_flag : left ≤ 1
  pub sound : Sound e
  pub short : total e ≤ longest_element

-- of element i, by its row
abbrev pub WithinAt : List ℕ → ℕ → Type 0
WithinAt t i = SetWithin (entry t i 2) (entry t i 5) (element_at t i)

pub record AllWithin (t : List ℕ) : Type 0 where
  pub few : rows t ≤ most_elements
  pub each : (i : ℕ) → i < rows t → WithinAt t i

-- the refusal where T fails, and what follows where it holds
abbrev pub Unless : (T : Type 0) → Type 0 → Type 0 → Type 0
Unless T refused follows = ((T → ⊥) × refused) ⊎ (T × follows)

-- the lent list is left as it was
pub record Declines (why : Why) (was now : List ℕ) (r : Result ℕ Why) : Type 0 where
  pub answer : r ≡ Err why
  pub untouched : now ≡ was

-- the origins of the least setting stand at the list's front, and the rest of it is left as it was
pub record Sets (measure : ℕ) (es : List Element) (was now : List ℕ) (r : Result ℕ Why) : Type 0 where
  pub origins : List ℕ
  pub setting : Least measure es origins
  pub answer : r ≡ Ok (extent es origins)
  pub written : now ≡ origins ++ drop (length es) was

-- The answers in turn: a result list too short (12), elements that no line of a job has, too long (no setting keeps all four rules).
abbrev pub Promise : (measure : ℕ) (t was now : List ℕ) → Result ℕ Why → Type 0
Promise measure t was now r =
    Unless (rows t ≤ length was) (Declines (Refused Short) was now r)
    (Unless (AllWithin t) (Declines Unsound was now r)
    (Unless ((xs : List ℕ) × Clear measure (line t) xs) (Declines Long was now r)
    (Sets measure (line t) was now r)))
