-- A section of numbers over the bytes of a sheet (document 01, "The job sheet"): generic in its word, the numbers in a line and the greatest count. A refusal is handed on, and nothing is read past it.
use Rattle.std.specs.Prelude.{Ok, cond, List, [], ◌∷◌, ℕ, zero, suc, ◌+◌, ltb, drop, Err, None, Option, Result, Some}
use Rattle.refusal.specs.declared.Refusal.{Refusal}
use Rattle.refusal.specs.declared.Refusal.TheVariants.{Count, Form}
use Rattle.text.specs.Text.{number, word, stop_of}
use Rattle.rows.specs.declared.Part.{Part}
use Rattle.rows.specs.Read.{Read}

-- a word and a number at a place of a sheet
abbrev pub word_at : List ℕ → List ℕ → ℕ → Option ℕ
word_at w s at = word w (drop at s) at

abbrev pub number_at : List ℕ → ℕ → ℕ → Option (ℕ × ℕ)
number_at s stop at = number (drop at s) stop at

-- What follows a number, a word or a part that was read: f of it, or `off`.
module _ {A : Type 0} where
  unfoldable pub on_number : Option (ℕ × ℕ) → A → (ℕ → ℕ → A) → A
  on_number (Some read) off f = f read.0 read.1
  on_number None off f = off

  unfoldable pub on_place : Option ℕ → A → (ℕ → A) → A
  on_place (Some next) off f = f next
  on_place None off f = off

  unfoldable pub on_part : Result Part Refusal → (Refusal → A) → (ℕ → ℕ → ℕ → A) → A
  on_part (Ok p) off f = f p.count p.at p.line
  on_part (Err r) off f = off r

-- the count of a part that was read, and the number of the line past it
abbrev pub count_of : Result Part Refusal → ℕ
count_of (Ok p) = p.count
count_of (Err r) = 0

abbrev pub line_of : Result Part Refusal → ℕ
line_of (Ok p) = p.line
line_of (Err r) = 0

-- the numbers of a line that were read, and the place past the line
pub record Fields : Type 0 where
  pub values : List ℕ
  pub end : Option ℕ

-- k numbers with "single spaces", the last ended by the byte `last`
unfoldable pub fields : ℕ → ℕ → List ℕ → ℕ → Fields
unfolding on_number number
fields last zero s at = record { values = []; end = Some at }
fields last (suc k) s at =
    on_number (number_at s (stop_of last k) at)
    (record { values = []; end = None })
    (λ v next. record { values = v ∷ (fields last k s next).values; end = (fields last k s next).end })

-- The lines that were read, of a line with a fault what was read of it, and how the reading ended.
pub record Rows : Type 0 where
  pub rows : List (List ℕ)
  pub end : Result Part Refusal

-- the lines of a section of n of which some are left, k numbers each, "each line ended by LF": "the first fault met, 13 ..", with the number of its line
unfoldable pub lines : ℕ → ℕ → ℕ → List ℕ → ℕ → ℕ → Rows
unfolding on_place fields
lines k n zero s at line = record { rows = []; end = Read n at line }
lines k n (suc left) s at line =
    on_place (fields 10 k s at).end
    (record { rows = (fields 10 k s at).values ∷ []; end = Err (Form line) })
    (λ next. record { rows = (fields 10 k s at).values ∷ (lines k n left s next (line + 1)).rows; end = (lines k n left s next (line + 1)).end })

-- "Sections .. each after its count": the word, the count and LF. "Within a line form comes before count": 13 with the line, then 2 with the section's place.
unfoldable pub head_of : List ℕ → ℕ → ℕ → List ℕ → Result Part Refusal → Result Part Refusal
unfolding on_part on_place on_number word number
head_of w most which s last =
    on_part last Err
    (λ _ at line.
    on_place (word_at w s at) (Err (Form line))
    (λ p.
    on_number (number_at s 10 p) (Err (Form line))
    (λ n next.
    cond (ltb most n) (Err (Count which)) (Read n next (line + 1)))))

-- the lines under a section's first line
unfoldable pub rows_of : ℕ → List ℕ → Result Part Refusal → Rows
unfolding on_part lines
rows_of k s head = on_part head (λ r. record { rows = []; end = Err r }) (λ n at line. lines k n n s at line)

-- a section: its first line and as many lines of k numbers as that says
abbrev pub section : List ℕ → ℕ → ℕ → ℕ → List ℕ → Result Part Refusal → Rows
section w k most which s last = rows_of k s (head_of w most which s last)
