-- Where the characters of a line stand, by rows: piece by piece its word, its origin in the line, and its characters from there on.
use Rattle.std.specs.Prelude.{cond, List, [], ◌∷◌, ◌++◌, ℕ, zero, suc, ◌+◌, ◌-◌, ◌*◌, ltb, take, drop, length}
use Rattle.std.proofs.lemmas.List.Edits.{sets}
use Rattle.spread.specs.Gap.{starts}
use Rattle.word.specs.declared.Reading.{Reading}
use Rattle.word.specs.declared.Word.{Word}
use Rattle.word.specs.Word.{base_starts}
use Rattle.line.specs.declared.Element.{Element}
use Rattle.line.specs.declared.Side.{Side}
use Rattle.line.specs.declared.Side.TheVariants.{Right, Left}
use Rattle.line.specs.declared.State.{State}
use Rattle.line.specs.Setting.{start, origin}
use Rattle.cells.specs.Rows.{Rows}
use Rattle.cells.specs.Rows.{Rows}
use Rattle.cells.specs.Cells.{cell_at, share_of, word_at, piece, next, stop}

-- a table, and the lists that are read beside it: the widths of base characters, and of those of either side
pub record Sheet : Type 0 where
  pub t : Rows
  pub width : List ℕ
  pub ruby_width : List ℕ
  pub left_width : List ℕ

abbrev pub sheet : Rows → List ℕ → List ℕ → List ℕ → Sheet
sheet t width ruby_width left_width = record { t = t; width = width; ruby_width = ruby_width; left_width = left_width }

abbrev pub widths_of : Side → Sheet → List ℕ
widths_of Right g = g.ruby_width
widths_of Left g = g.left_width

-- a list from a up to b
abbrev pub lent : List ℕ → ℕ → ℕ → List ℕ
lent xs a b = take (b - a) (drop a xs)

-- a list written from its front on: "entries past those used stay as they were"
abbrev pub over : List ℕ → List ℕ → List ℕ
over new was = new ++ drop (length new) was

-- Of one side: the first character of row i and the end of its share; and the end of the piece from i up to c, which is its last row's where its element may be cut.
abbrev pub first : Side → Rows → ℕ → ℕ
first side t i = (share_of side (cell_at t i)).first

abbrev pub own : Side → Rows → ℕ → ℕ
own side t i = (share_of side (cell_at t i)).own

abbrev pub run_end : Side → Rows → ℕ → ℕ
run_end side t i = first side t i + (share_of side (cell_at t i)).many

abbrev pub reading_end : Side → Rows → ℕ → ℕ → ℕ
reading_end side t i c = cond (cell_at t i).cut (run_end side t (c - 1)) (run_end side t i)

-- the widths of a row's share, and of a piece's
abbrev pub run_lent : Side → Rows → List ℕ → ℕ → List ℕ
run_lent side t ws i = lent ws (first side t i) (run_end side t i)

abbrev pub reading_lent : Side → Rows → List ℕ → ℕ → ℕ → List ℕ
reading_lent side t ws i c = lent ws (first side t i) (reading_end side t i c)

-- the runs of k rows from i on, each solid over its own character of one em, the first of which starts at x
unfoldable pub runs_put : Side → Rows → List ℕ → ℕ → ℕ → ℕ → List ℕ
unfolding starts
runs_put side t ws zero i x = []
runs_put side t ws (suc k) i x = starts 0 (x + (t.em - own side t i)) (run_lent side t ws i) ++ runs_put side t ws k (i + 1) (x + 2 * t.em)

-- the reading v of the piece from i up to c, the origin of its word at x: run by run, or as one string
unfoldable pub reading_by : Side → Rows → List ℕ → Reading → ℕ → ℕ → ℕ → List ℕ
unfolding starts runs_put
reading_by side t ws v i c x = cond v.there (cond v.runs (runs_put side t ws (c - i) i x) (starts v.within (x + v.from) (reading_lent side t ws i c))) []

abbrev pub word_of : Sheet → ℕ → ℕ → Word
word_of g i c = word_at g.t i c

-- what a line sees of a piece
abbrev pub piece_of : Sheet → ℕ → ℕ → Element
piece_of g i c = piece g.t i c

-- its reading on one side
abbrev pub reading_of : Side → Sheet → ℕ → ℕ → Reading
reading_of Right g i c = (word_of g i c).right
reading_of Left g i c = (word_of g i c).left

-- where the characters of the piece from i up to c stand, its origin at x; one without ruby is a P, one character at its origin
unfoldable pub base_put : Sheet → ℕ → ℕ → ℕ → List ℕ
unfolding base_starts word_at
base_put g i c x = let w = word_of g i c in cond w.right.there (base_starts w x (lent g.width i c)) (x ∷ [])

unfoldable pub side_put : Side → Sheet → ℕ → ℕ → ℕ → List ℕ
unfolding reading_by word_at
side_put side g i c x = reading_by side g.t (widths_of side g) (reading_of side g i c) i c x

-- what f gives for each piece and its origin, of at most k pieces from i on up to e
unfoldable pub put_from : (ℕ → ℕ → ℕ → List ℕ) → Sheet → ℕ → State → ℕ → ℕ → List ℕ
unfolding word_at
put_from f g zero st i e = []
put_from f g (suc k) st i e =
    let c = stop g.t i e in
    let p = piece_of g i c in
    cond (ltb i e) (f i c (origin st p) ++ put_from f g k (next st p) (i + (cell_at g.t i).bases) e) []

-- the positions of the line from s up to e
unfoldable pub base_of : Sheet → ℕ → ℕ → List ℕ
unfolding put_from base_put
base_of g s e = put_from (base_put g) g (e - s) start s e

unfoldable pub side_of : Side → Sheet → ℕ → ℕ → List ℕ
unfolding put_from side_put
side_of side g s e = put_from (side_put side g) g (e - s) start s e

abbrev pub ruby_of : Sheet → ℕ → ℕ → List ℕ
ruby_of = side_of Right

abbrev pub left_of : Sheet → ℕ → ℕ → List ℕ
left_of = side_of Left

-- written where they belong
abbrev pub base_over : Sheet → ℕ → ℕ → List ℕ → List ℕ
base_over g s e was = sets was s (base_of g s e)

abbrev pub side_over : Side → Sheet → ℕ → ℕ → List ℕ → List ℕ
side_over side g s e was = sets was (first side g.t s) (side_of side g s e)

-- line by line, from s on
abbrev pub by_line : (ℕ → ℕ → List ℕ) → ℕ → List ℕ → List ℕ
by_line f s [] = []
by_line f s (e ∷ es) = f s e ++ by_line f e es

-- all of them, written over the front of a list
abbrev pub lines_over : (ℕ → ℕ → List ℕ) → List ℕ → List ℕ → List ℕ
lines_over f es was = over (by_line f 0 es) was
