-- A line by the rows of a table: it begins at a base character s with what the row says of its element from here on, goes on at the next element, and ends at c, where
-- that cuts a J with the part of it up to c.
use Rattle.std.specs.Prelude.{◌≡◌, Bool, true, false, cond, ◌&&◌, ◌||◌, List, [], ◌∷◌, ℕ, zero, suc, ◌+◌, ◌-◌, ◌*◌, ◌≤◌, ◌<◌, min, eqb, leb, ltb, length}
use Rattle.spread.specs.declared.Way.{Way}
use Rattle.spread.specs.declared.Way.TheVariants.{Solid, Spread, Limited}
use Rattle.spread.specs.Ratio.{Ratios, Housed}
use Rattle.word.specs.declared.Reading.{Reading}
use Rattle.word.specs.declared.Str.{Str}
use Rattle.word.specs.declared.Word.{Word}
use Rattle.word.specs.Word.{none, between}
use Rattle.word.specs.Numbers.{word_from}
use Rattle.word.specs.Sides.{sided, monos_word}
use Rattle.line.specs.declared.Element.{Element}
use Rattle.line.specs.declared.Reading as line
use Rattle.line.specs.declared.Side.{Side}
use Rattle.line.specs.declared.Side.TheVariants.{Right, Left}
use Rattle.line.specs.declared.State.{State}
use Rattle.line.specs.Setting.{start, put, origin, furthest, total}
use Rattle.cells.specs.declared.Cell.{Cell}
use Rattle.cells.specs.declared.LeftRow.{LeftRow}
use Rattle.cells.specs.declared.Share.{Share}
use Rattle.cells.specs.declared.Step.{Step}
use Rattle.cells.specs.Rows.{Rows, row_in}

-- row i
abbrev pub cell_at : Rows → ℕ → Cell
cell_at t i = row_in t.rows i

-- a left reading is there where it has characters
abbrev pub left_reading : LeftRow → Reading
left_reading l = record { there = ltb 0 l.many; from = l.from; upto = l.upto; within = l.within; runs = l.runs }

-- a row with this left reading
abbrev pub beside : Cell → LeftRow → Cell
beside c l =
    record {
      bases = c.bases;
      cut = c.cut;
      ends = c.ends;
      word = record { front = c.word.front; len = c.word.len; inbase = c.word.inbase; right = c.word.right; left = left_reading l };
      before = c.before;
      after = c.after;
      ruby = c.ruby;
      rubies = c.rubies;
      left = l.first;
      lefts = l.many;
      own = c.own;
      wide = c.wide;
      over = c.over;
      western = c.western;
      ownleft = l.own;
      more = l.more;
    }

-- what a row says of the characters of one side: the first, how many, and the width of its own run
abbrev pub share_of : Side → Cell → Share
share_of Right a = record { first = a.ruby; many = a.rubies; own = a.own }
share_of Left a = record { first = a.left; many = a.lefts; own = a.ownleft }

-- readings each over their own characters of one em
unfoldable pub each_over : ℕ → Reading → Reading → Word
each_over b right left = record { front = 0; len = 2 * b; inbase = 0; right = right; left = left }

abbrev pub ruby_way : Bool → Way
ruby_way western = cond western Solid Limited

-- n base characters of a J, each one em wide, with m ruby characters of r units, by the house ratios: "a part of one character is set as M, a part of more as J"
unfoldable pub part_by : Ratios → ℕ → ℕ → ℕ → ℕ → Bool → ℕ → ℕ → Bool → Word
unfolding each_over
part_by h em n r m same first last western =
    cond (eqb n 1) (word_from Solid Solid h em (em * n) n r m)
    (cond same (each_over (em * n) (between em (em * n) first last) none)
    (word_from (ruby_way western) Spread h em (em * n) n r m))

-- n base characters of a J with a left J, no run of which is longer than one em: their first runs on either side, and the widths of the last. A part of one
-- character is M with a mono left reading
unfoldable pub both_by : Ratios → ℕ → ℕ → Str → Str → ℕ → ℕ → Word
unfolding each_over sided
both_by h em n r l last lastLeft =
    cond (eqb n 1) (monos_word h em (record { width = em * n; count = n }) r l)
    (each_over (em * n) (between em (em * n) r.width last) (between em (em * n) l.width lastLeft))

-- how many runs of its J up to and with its own are longer than one em
abbrev pub over_with : ℕ → Cell → ℕ
over_with em z = z.over + cond (ltb em z.own) 1 0

-- the base characters i up to c of a J, by the rows of the first and the last of them: with a left reading, and without
unfoldable pub both : Rows → ℕ → ℕ → Word
unfolding both_by
both t i c =
    let a = cell_at t i in
    let z = cell_at t (c - 1) in
    both_by t.ratios t.em (c - i) (record { width = a.own; count = a.rubies }) (record { width = a.ownleft; count = a.lefts }) z.own z.ownleft

unfoldable pub part : Rows → ℕ → ℕ → Word
unfolding part_by both
part t i c =
    let a = cell_at t i in
    let z = cell_at t (c - 1) in
    cond (ltb 0 a.lefts) (both t i c)
    (part_by t.ratios t.em (c - i) (z.wide + z.own - a.wide) (z.ruby + z.rubies - a.ruby) (eqb a.over (over_with t.em z)) a.own z.own a.western)

-- the word of the piece from i up to c, its element's end or a break within it: no other element than a J is ever cut
unfoldable pub word_at : Rows → ℕ → ℕ → Word
unfolding part
word_at t i c = cond (cell_at t i).cut (part t i c) (cell_at t i).word

-- a word as a line sees it
abbrev pub seen : Reading → line.Reading
seen v = record { there = v.there; from = v.from; upto = v.upto }

abbrev pub element_of : Word → ℕ → ℕ → Element
element_of w before after = record { front = w.front; len = w.len; right = seen w.right; left = seen w.left; before = before; after = after }

abbrev pub piece : Rows → ℕ → ℕ → Element
piece t i c = element_of (word_at t i c) (cell_at t i).before (cell_at t i).after

-- one piece more
abbrev pub next : State → Element → State
next st e = put st e (origin st e)

-- a word after the line so far
abbrev pub step_of : Word → ℕ → ℕ → State → Step
step_of w before after st = let e = element_of w before after in record { word = w; at = origin st e; st = next st e }

-- the piece from i up to c after the line so far
abbrev pub step_at : Rows → State → ℕ → ℕ → Step
step_at t st i c = step_of (word_at t i c) (cell_at t i).before (cell_at t i).after st

-- the piece from i ends with its element, or where the line does
abbrev pub stop : Rows → ℕ → ℕ → ℕ
stop t i c = min c (i + (cell_at t i).bases)

-- from i on up to c, at most k pieces
unfoldable pub walk : Rows → ℕ → State → ℕ → ℕ → State
unfolding word_at
walk t zero st i c = st
walk t (suc k) st i c = cond (ltb i c) (walk t k (next st (piece t i (stop t i c))) (i + (cell_at t i).bases) c) st

abbrev pub rest : Rows → State → ℕ → ℕ → State
rest t st i c = walk t (c - i) st i c

-- the line from s up to c
abbrev pub state_at : Rows → ℕ → ℕ → State
state_at t s c = rest t start s c

-- a line may end before base character c of n: at the job's end, or by the row of the one before it
abbrev pub may_end : Rows → ℕ → ℕ → Bool
may_end t n c = let a = cell_at t (c - 1) in eqb c n || cond (eqb a.bases 1) a.ends a.cut

-- the line from s up to c ends within the limit, in half units
abbrev pub holds : ℕ → Rows → ℕ → ℕ → Bool
holds limit t s c = leb (furthest (state_at t s c)) limit

-- the last of the k numbers behind s that passes a test, or d
unfoldable pub last_of : (ℕ → Bool) → ℕ → ℕ → ℕ → ℕ
last_of p d s zero = d
last_of p d s (suc k) = cond (p (s + suc k)) (s + suc k) (last_of p d s k)

abbrev pub breaks : ℕ → Rows → ℕ → ℕ → ℕ → Bool
breaks limit t n s c = may_end t n c && holds limit t s c

-- where the line from s ends, of n base characters: the furthest permitted break whose line can be set, or 0
unfoldable pub end_of : ℕ → Rows → ℕ → ℕ → ℕ
unfolding last_of walk
end_of limit t n s = last_of (breaks limit t n s) 0 s (n - s)

-- the ends of at most k lines from s on
unfoldable pub ends_from : ℕ → Rows → ℕ → ℕ → ℕ → List ℕ
unfolding end_of
ends_from limit t n zero s = []
ends_from limit t n (suc k) s = let e = end_of limit t n s in cond (eqb e 0) [] (e ∷ ends_from limit t n k e)

-- the ends of all lines of a table of n rows
unfoldable pub lines_of : ℕ → Rows → ℕ → List ℕ
unfolding ends_from
lines_of limit t n = ends_from limit t n n 0

-- What a part is measured by: the ruby from the run of one row up to and with that of another, and the first one's left run.

pub record Ran (a z : Cell) : Type 0 where
  pub more : a.ruby < z.ruby + z.rubies
  pub narrow : z.wide + z.own ≤ 262144
  pub few : z.over ≤ 1024
  pub ends : z.ruby + z.rubies ≤ 4096
  pub few_left : a.lefts ≤ 4096
  pub narrow_left : a.ownleft ≤ 262144

pub record Cuts (t : Rows) (i c : ℕ) : Type 0 where
  pub small : t.em ≤ 4096
  pub house : Housed t.ratios
  pub ahead : i < c
  pub few : c ≤ i + 32
  pub held : c ≤ length t.rows
  pub ran : Ran (cell_at t i) (cell_at t (c - 1))

-- a piece that has ruby: a word, or a part of a J
abbrev pub has_ruby : Cell → Bool
has_ruby a = a.cut || a.word.right.there

-- a word without readings, of the length len in half units
abbrev pub bare : ℕ → Word
bare len = record { front = 0; len = len; inbase = 0; right = none; left = none }

-- of a P: its word is no more than its length, and ruby lies on it no deeper than it is long
pub record Plain (a : Cell) : Type 0 where
  pub word : a.word ≡ bare a.word.len
  pub before : a.before ≤ a.word.len

-- of any other: no ruby lies on it
pub record Flat (a : Cell) : Type 0 where
  pub before : a.before ≡ 0
  pub after : a.after ≡ 0

-- What a line asks for, to be taken on by the piece from i up to c.
pub record Advances (t : Rows) (st : State) (i c : ℕ) : Type 0 where
  pub held : i < length t.rows
  pub cuts : (cell_at t i).cut ≡ true → Cuts t i c
  pub plain : has_ruby (cell_at t i) ≡ false → Plain (cell_at t i)
  pub flat : has_ruby (cell_at t i) ≡ true → Flat (cell_at t i)
  pub short : total (piece t i c) ≤ 524288
  pub near : furthest st ≤ 536870912
