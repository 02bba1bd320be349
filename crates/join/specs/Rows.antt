-- The rows of a job's words, by the job's own definitions: a word is an element, or one character of a J with a mono left reading (`words`). What is said of runs is said of either side.
use Rattle.std.specs.Prelude.{◌≡◌, Bool, false, cond, ◌&&◌, ◌||◌, List, map, ℕ, ◌+◌, ◌-◌, ◌≤◌, ◌<◌, eqb, ltb, length, get_or}
use Rattle.basics.specs.Lists.{sum, count, keep, All}
use Rattle.class.specs.Class.{western, depths_by}
use Rattle.word.specs.declared.Word.{Word}
use Rattle.word.specs.Both.{has_left}
use Rattle.word.specs.Word as word
use Rattle.word.specs.Sides as sides
use Rattle.line.specs.declared.Side.{Side}
use Rattle.line.specs.declared.Side.TheVariants.{Right, Left}
use Rattle.cells.specs.Rows.{Rows, row_in}
use Rattle.cells.specs.declared.Cell.{Cell}
use Rattle.cells.specs.declared.LeftRow.{LeftRow}
use Rattle.cells.specs.Cells.{beside}
use Rattle.door.specs.declared.Piece.{Piece}
use Rattle.door.specs.Job.{Job, base_count, entries}
use Rattle.job.specs.Line.{part, words, cuts, word_of, on_p, depths_at, first_of, widths_of}

-- the runs of one side, and the first of a word's
abbrev pub runs_of : Side → Job → List ℕ
runs_of Right job = job.run
runs_of Left job = job.left_run

abbrev pub run_of : Side → Piece → ℕ
run_of Right x = x.run
run_of Left x = x.leftrun

-- how many characters the first k runs of a J have; the first character of its base character k, how many it has, and the width of that run
abbrev pub taken : Side → Job → Piece → ℕ → ℕ
taken side job x k = sum (entries (runs_of side job) (run_of side x) k)

abbrev pub first_at : Side → Job → Piece → ℕ → ℕ
first_at side job x k = first_of side x + taken side job x k

abbrev pub run_at : Side → Job → Piece → ℕ → ℕ
run_at side job x k = get_or (runs_of side job) (run_of side x + k) 0

abbrev pub run_width : Side → Job → Piece → ℕ → ℕ
run_width side job x k = sum (entries (widths_of side job) (first_at side job x k) (run_at side job x k))

-- the width of its first k runs of ruby, and how many of them are longer than one em
abbrev pub wide_before : Job → Piece → ℕ → ℕ
wide_before job x k = sum (entries job.ruby_width x.ruby (taken Right job x k))

abbrev pub longer : Job → Piece → ℕ → ℕ
longer job x k = length (keep (ltb job.em) (map (run_width Right job x) (count 0 k)))

-- a J of two characters or more that is cut: a line may end within it
abbrev pub is_cut : Job → Piece → Bool
is_cut job x = cuts job x && ltb 1 x.bases

-- what of a word stands in a line from its base character i up to c
abbrev pub upto : Job → Piece → ℕ → ℕ → Piece
upto job x i c = cond (cuts job x && ltb (c - i) x.bases) (part job x (i - x.base) (c - i)) x

-- the runs of a word before its base character i; only a J that is cut is laid by runs
abbrev pub runs_before : Job → Piece → ℕ → ℕ
runs_before job x i = cond (cuts job x) (i - x.base) 0

-- no word
abbrev pub none : Word
none = record { front = 0; len = 0; inbase = 0; right = word.none; left = word.none }

-- the row of base character i of word x, whose record, end and depths are these, without its left reading
abbrev pub row_by : Job → Piece → Word → Bool → ℕ → ℕ → ℕ → Cell
row_by job x w ends before after i =
    let k = runs_before job x i in
    let j = cuts job x in
    record {
      bases = x.base + x.bases - i;
      cut = is_cut job x;
      ends = ends;
      word = cond (is_cut job x) none w;
      before = before;
      after = after;
      ruby = first_at Right job x k;
      rubies = cond j (run_at Right job x k) x.rubies;
      left = 0;
      lefts = 0;
      own = cond j (run_width Right job x k) 0;
      wide = cond j (wide_before job x k) 0;
      over = cond j (longer job x k) 0;
      western = j && western (get_or job.ruby_class (first_at Right job x k) 0);
      ownleft = 0;
      more = false;
    }

-- a J that is cut is laid by its left runs too, where it has a left reading
abbrev pub left_runs : Job → Piece → Bool
left_runs job x = cuts job x && has_left x.gloss

-- and what it says of the left reading: where it stands in the word, and its characters, of a J that is cut those of its own left run. A word without a left reading has no characters
-- there, and the next ones begin where it stands.
abbrev pub left_row_by : Job → Piece → Word → ℕ → LeftRow
left_row_by job x w i =
    let j = left_runs job x in
    let k = cond j (i - x.base) 0 in
    let v = (cond (is_cut job x) none w).left in
    record {
      from = v.from;
      upto = v.upto;
      within = v.within;
      runs = v.runs;
      first = first_at Left job x k;
      many = cond j (run_at Left job x k) x.lefts;
      own = cond j (run_width Left job x k) 0;
      more = x.more;
    }

-- "A line may end after the last base character of an element whose flag is 1", and where an element goes on behind a character that is a word of its own
abbrev pub ends_behind : Job → Piece → Bool
ends_behind job x = x.more || eqb (get_or job.flag (x.base + x.bases - 1) 0) 1

-- the row of base character i of word x: its record is level one's, and ruby lies on it as deep as it may on a P
unfoldable pub row_of : Job → Piece → ℕ → Cell
unfolding western sides.word_of depths_by cuts
row_of job x i =
    beside (row_by job x (word_of job x) (ends_behind job x) (on_p x.form (depths_at job x.base).before) (on_p x.form (depths_at job x.base).after) i)
    (left_row_by job x (word_of job x) i)

abbrev pub HasRows : Job → List Cell → Piece → Type 0
HasRows job rows x = (i : ℕ) → x.base ≤ i → i < x.base + x.bases → row_in rows i ≡ row_of job x i

-- a table that has the job's ratios, its em, and the rows of all words
pub record Holds (job : Job) (t : Rows) : Type 0 where
  pub long : base_count job ≤ length t.rows
  pub ratios : t.ratios ≡ job.ratios
  pub em : t.em ≡ job.em
  pub rows : All (HasRows job t.rows) (words job)

-- a job's table, with these rows
abbrev pub table_of : Job → List Cell → Rows
table_of job rows = record { ratios = job.ratios; em = job.em; rows = rows }

pub house : {job : Job} {t : Rows} → Holds job t → t.ratios ≡ job.ratios
house h = h.ratios

pub ems : {job : Job} {t : Rows} → Holds job t → t.em ≡ job.em
ems h = h.em
