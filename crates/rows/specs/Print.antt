-- A section as text (document 01, "The job sheet"): its word and its count on a line, then a line of k numbers for each row. Generic in the word, in k and in the maximum.
use Rattle.std.specs.Prelude.{List, [], ◌∷◌, ◌++◌, ◌≡◌, ℕ, ◌≤◌, length}
use Rattle.basics.specs.Lists.{All, each}
use Rattle.text.specs.Text.{most}
use Rattle.text.specs.Print.{bytes, decimal}
use Rattle.text.specs.Stands.{Stands}

-- numbers, each after a space: "Single spaces, decimal without leading zeros"
unfoldable pub spaced : List ℕ → List ℕ
unfolding decimal
spaced [] = []
spaced (v ∷ vs) = bytes " " ++ (decimal v ++ spaced vs)

-- numbers with single spaces, ended by the byte `last`
unfoldable pub numbers_text : ℕ → List ℕ → List ℕ
unfolding decimal spaced
numbers_text last [] = []
numbers_text last (v ∷ vs) = decimal v ++ (spaced vs ++ (last ∷ []))

-- a line of numbers: "each line ended by LF"
abbrev pub line_text : List ℕ → List ℕ
line_text vs = numbers_text 10 vs

-- a section's first line: its word, its count and LF
unfoldable pub head_text : List ℕ → ℕ → List ℕ
unfolding decimal
head_text w n = w ++ (decimal n ++ bytes "\n")

-- a line for each row
unfoldable pub rows_text : List (List ℕ) → List ℕ
unfolding numbers_text
rows_text rows = each line_text rows

-- "Sections .., each after its count"
unfoldable pub section_text : List ℕ → List (List ℕ) → List ℕ
unfolding head_text rows_text
section_text w rows = head_text w (length rows) ++ rows_text rows

-- numbers "at most 4,294,967,295"
abbrev pub Small : List ℕ → Type 0
Small r = All (λ (v : ℕ). v ≤ most) r

-- rows that a section can have: at most `top`, k numbers in each, each of them small
pub record Kept (k top : ℕ) (rows : List (List ℕ)) : Type 0 where
  pub few : length rows ≤ top
  pub wide : All (λ (r : List ℕ). length r ≡ k) rows
  pub small : All Small rows

-- a section's word and a count stand at a place: within the maximum or over it
pub record Counted (w : List ℕ) (s : List ℕ) (at n next : ℕ) : Type 0 where
  pub small : n ≤ most
  pub text : Stands s at (head_text w n) next
