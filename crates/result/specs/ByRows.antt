-- The text of a result by the rows of the job's table: line by line its extent, and element by element the characters with their positions. An element may have several pieces in a
-- line, one for each character of a J with a mono left reading; its rows are printed together.
use Rattle.std.specs.Prelude.{cond, List, [], ◌∷◌, ◌++◌, ℕ, zero, suc, ◌+◌, ◌-◌, ltb, take}
use Rattle.line.specs.declared.Side.{Side}
use Rattle.line.specs.declared.Side.TheVariants.{Right, Left}
use Rattle.cells.specs.Rows.{Rows}
use Rattle.cells.specs.Cells.{cell_at, stop}
use Rattle.positions.specs.Positions.{first, reading_end}
use Rattle.result.specs.Text.{bytes, line_one, rows, letter}

-- where the element of row i goes on behind the piece there, or e where it does not
abbrev pub behind : Rows → ℕ → ℕ → ℕ
behind t i e = cond (cell_at t i).more (i + (cell_at t i).bases) e

-- where the last piece begins that it has in the line up to e, of at most k behind the first
unfoldable pub last_from : Rows → ℕ → ℕ → ℕ → ℕ
last_from t zero i e = i
last_from t (suc k) i e = cond (ltb (behind t i e) e) (last_from t k (behind t i e) e) i

unfoldable pub last_piece : Rows → ℕ → ℕ → ℕ
unfolding last_from
last_piece t i e = last_from t (e - i) i e

-- where what the line up to e has of it ends
abbrev pub closes : Rows → ℕ → ℕ → ℕ
closes t i e = stop t (last_piece t i e) e

-- the rows of one side of an element from i up to c, whose last piece begins at z
unfoldable pub side_rows : Side → Rows → List ℕ → ℕ → ℕ → ℕ → List ℕ
unfolding rows
side_rows side t positions i z c = rows (letter side) positions (first side t i) (reading_end side t z c - first side t i)

-- "base before ruby", and the left rows behind the ruby's: the element of row i in the line up to e
unfoldable pub of_rows : Rows → List ℕ → List ℕ → List ℕ → ℕ → ℕ → List ℕ
unfolding rows side_rows last_piece
of_rows t base ruby left i e =
    let z = last_piece t i e in
    let c = closes t i e in
    rows (bytes "b") base i (c - i) ++ (side_rows Right t ruby i z c ++ side_rows Left t left i z c)

-- the elements from i up to e, at most k
unfoldable pub elements_text : Rows → List ℕ → List ℕ → List ℕ → ℕ → ℕ → ℕ → List ℕ
unfolding of_rows last_piece
elements_text t base ruby left zero i e = []
elements_text t base ruby left (suc k) i e = cond (ltb i e) (of_rows t base ruby left i e ++ elements_text t base ruby left k (closes t i e) e) []

-- "`line` the extent", and the elements of the line
unfoldable pub line_text : Rows → List ℕ → List ℕ → List ℕ → ℕ → ℕ → ℕ → List ℕ
unfolding line_one elements_text
line_text t base ruby left x s e = line_one (bytes "line") x ++ elements_text t base ruby left (e - s) s e

-- lines that end at es and have these extents, the first from s on
abbrev pub lines_text : Rows → List ℕ → List ℕ → List ℕ → ℕ → List ℕ → List ℕ → List ℕ
lines_text t base ruby left s [] xs = []
lines_text t base ruby left s (e ∷ es) [] = []
lines_text t base ruby left s (e ∷ es) (x ∷ xs) = line_text t base ruby left x s e ++ lines_text t base ruby left e es xs

-- "`lines` has the number of lines", and the lines follow it
unfoldable pub rows_text : Rows → ℕ → List ℕ → List ℕ → List ℕ → List ℕ → List ℕ → List ℕ
unfolding line_one line_text
rows_text t n ends extents base ruby left = line_one (bytes "lines") n ++ lines_text t base ruby left 0 (take n ends) (take n extents)
