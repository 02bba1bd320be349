-- The runs of a J, of either side, as its rows are written from them: where the characters of each lie, and how far the ruby is laid.
use Rattle.std.specs.Prelude.{◌≡◌, Bool, false, cond, List, [], ℕ, zero, suc, ◌+◌, ◌-◌, ◌≤◌, ◌<◌, ltb, length, get_or}
use Rattle.std.proofs.Common.{sym, ap, ◌∙◌, subst, add-zero, arith}
use Rattle.basics.specs.Lists.{sum, All}
use Rattle.class.specs.Class.{western}
use Rattle.spread.specs.Ratio.{Ratios, usual}
use Rattle.word.specs.declared.Word.{Word}
use Rattle.line.specs.declared.Side.{Side}
use Rattle.line.specs.declared.Side.TheVariants.{Right}
use Rattle.cells.specs.declared.Cell.{Cell}
use Rattle.door.specs.declared.Piece.{Piece}
use Rattle.door.specs.Job.{Job, entries}
use Rattle.job.specs.Line.{first_of, widths_of}
use Rattle.job.specs.Laws.{entries-add}
use Rattle.join.specs.Rows.{runs_of, run_of, taken, first_at, run_at, run_width, wide_before, longer, none}
use Rattle.join.specs.Runs.{first_next, first_more, wide-next, wide-more, longer-next, longer-few}
use Rattle.word_rows.specs.declared.Cursor.{Cursor}

-- a job of which only what its words and their ends read is looked at
abbrev pub both_only : Ratios → ℕ → List ℕ → List ℕ → List ℕ → List ℕ → List ℕ → List ℕ → List ℕ → List ℕ → List ℕ → List ℕ → List ℕ → Job
both_only ratios em class width before after flag ruby_class ruby_width run left_class left_width left_run =
    record {
      em = em;
      measure = 0;
      ratios = ratios;
      profile = 0;
      class = class;
      width = width;
      before = before;
      after = after;
      flag = flag;
      ruby_class = ruby_class;
      ruby_width = ruby_width;
      left_class = left_class;
      left_width = left_width;
      kind = [];
      element_base = [];
      element_ruby = [];
      left_kind = [];
      element_left = [];
      run = run;
      left_run = left_run;
    }

-- without left readings; and of a J's rows only these lists matter
abbrev pub words_only : Ratios → ℕ → List ℕ → List ℕ → List ℕ → List ℕ → List ℕ → List ℕ → List ℕ → List ℕ → Job
words_only ratios em class width before after flag ruby_class ruby_width run = both_only ratios em class width before after flag ruby_class ruby_width run [] [] []

abbrev pub runs_only : ℕ → List ℕ → List ℕ → List ℕ → Job
runs_only em ruby_class ruby_width run = words_only usual em [] [] [] [] [] ruby_class ruby_width run

-- runs that lie within their lists
pub record Runs (side : Side) (job : Job) (x : Piece) : Type 0 where
  pub few : x.bases ≤ 32
  pub small : x.base + x.bases ≤ 4096
  pub runs : run_of side x + x.bases ≤ length (runs_of side job)
  pub few_runs : run_of side x ≤ 4096
  pub many : first_of side x + taken side job x x.bases ≤ 4096
  pub width : first_of side x + taken side job x x.bases ≤ length (widths_of side job)
  pub narrow : sum (entries (widths_of side job) (first_of side x) (taken side job x x.bases)) ≤ 262144
  pub each : All (λ n. 0 < n) (entries (runs_of side job) (run_of side x) x.bases)

-- what one run reads: m characters of the widths ws from r on
pub record RunReads (ws : List ℕ) (r m : ℕ) : Type 0 where
  pub some : 0 < m
  pub few : r + m ≤ 4096
  pub width : r + m ≤ length ws
  pub narrow : sum (entries ws r (r + m - r)) ≤ 262144
  pub own : sum (entries ws r (r + m - r)) ≡ sum (entries ws r m)

all-entry : (p : ℕ → Type 0) (xs : List ℕ) (u n k : ℕ) → All p (entries xs u n) → k < n → p (get_or xs (u + k) 0)
all-entry p xs u zero k a h = absurd (omega arith)
all-entry p xs u (suc n) zero a h = subst (λ z. p (get_or xs z 0)) (sym (add-zero u)) a.0
all-entry p xs u (suc n) (suc k) a h = subst (λ z. p (get_or xs z 0)) (move u k) (all-entry p xs (suc u) n k a.1 (omega arith))
  where
    move : (u k : ℕ) → suc u + k ≡ u + suc k
    move u k = omega arith

module _ (side : Side) (job : Job) (x : Piece) (h : Runs side job x) (k : ℕ) (l : k < x.bases) where
  back : x.bases ≡ suc k + (x.bases - suc k)
  back = omega arith

  some-run : 0 < run_at side job x k
  some-run = all-entry (λ n. 0 < n) (runs_of side job) (run_of side x) x.bases k h.each l

  pub taken-held : first_at side job x k + run_at side job x k ≤ first_of side x + taken side job x x.bases
  taken-held = omega (arith, first_next side job x k, first_more side job x (suc k) (x.bases - suc k), ap (first_at side job x) back)

  -- a run is a part of all
  run-narrow : run_width side job x k ≤ 262144
  run-narrow =
      let ws = widths_of side job in
      let f = first_of side x in
      let a = taken side job x k in
      let m = run_at side job x k in
      let n = taken side job x x.bases - (a + m) in
      let all : taken side job x x.bases ≡ a + (m + n) = omega (arith, taken-held) in
      omega (arith, h.narrow, ap (λ z. sum (entries ws f z)) all, entries-add ws f a (m + n), entries-add ws (f + a) m n)

  pub run-reads : RunReads (widths_of side job) (first_at side job x k) (run_at side job x k)
  run-reads = record { some = some-run; few = omega (arith, taken-held, h.many); width = omega (arith, taken-held, h.width); narrow = omega (arith, same, run-narrow); own = same }
    where
      less : (r m : ℕ) → r + m - r ≡ m
      less r m = omega arith

      same : sum (entries (widths_of side job) (first_at side job x k) (first_at side job x k + run_at side job x k - first_at side job x k)) ≡ run_width side job x k
      same = ap (λ m. sum (entries (widths_of side job) (first_at side job x k) m)) (less (first_at side job x k) (run_at side job x k))

  -- by where the loop is that reads it
  module _ (r : ℕ) (e : r ≡ first_at side job x k) where
    pub reads-from : RunReads (widths_of side job) r (run_at side job x k)
    reads-from = subst (λ z. RunReads (widths_of side job) z (run_at side job x k)) (sym e) run-reads

    pub own-from : sum (entries (widths_of side job) r (r + run_at side job x k - r)) ≡ run_width side job x k
    own-from = reads-from.own ∙ ap (λ z. sum (entries (widths_of side job) z (run_at side job x k))) e

-- before the first run nothing is read, and then one run more
pub first-none : (side : Side) (job : Job) (x : Piece) → first_of side x ≡ first_at side job x (x.base - x.base)
first-none side job x = go (x.base - x.base) (omega arith)
  where
    go : (k : ℕ) → k ≡ 0 → first_of side x ≡ first_at side job x k
    go k e = rw e (sym (add-zero (first_of side x)))

next : (b i : ℕ) → b ≤ i → suc (i - b) ≡ i + 1 - b
next b i h = omega arith

pub first-turn : (side : Side) (job : Job) (x : Piece) (i r : ℕ) → x.base ≤ i → r ≡ first_at side job x (i - x.base) → r + run_at side job x (i - x.base) ≡ first_at side job x (i + 1 - x.base)
first-turn side job x i r h e =
    ap (λ z. z + run_at side job x (i - x.base)) e ∙ first_next side job x (i - x.base) ∙ ap (first_at side job x) (next x.base i h)

-- A J whose runs of ruby lie within their lists, and its rows in the table.
pub record HasRuns (job : Job) (x : Piece) (t : List Cell) : Type 0 where
  pub held : x.base + x.bases ≤ length t
  pub class : x.ruby + taken Right job x x.bases ≤ length job.ruby_class
  pub own : Runs Right job x

-- the word that a row of a J has: of two characters or more none, as such a J is measured by its sums, and by parts
abbrev pub own_word : Piece → Word → Word
own_word x w = cond (ltb 1 x.bases) none w

-- the row of base character i of a J that is laid by runs
abbrev pub jukugo_row : Job → Piece → Word → Bool → ℕ → Cell
jukugo_row job x w ends i =
    let k = i - x.base in
    record {
      bases = x.base + x.bases - i;
      cut = ltb 1 x.bases;
      ends = ends;
      word = own_word x w;
      before = 0;
      after = 0;
      ruby = first_at Right job x k;
      rubies = run_at Right job x k;
      left = 0;
      lefts = 0;
      own = run_width Right job x k;
      wide = wide_before job x k;
      over = longer job x k;
      western = western (get_or job.ruby_class (first_at Right job x k) 0);
      ownleft = 0;
      more = false;
    }

-- by where its ruby is
abbrev pub run_row : Piece → Word → Bool → ℕ → Cursor → ℕ → ℕ → Bool → Cell
run_row p w ends i at run own west =
    record {
      bases = p.base + p.bases - i;
      cut = ltb 1 p.bases;
      ends = ends;
      word = own_word p w;
      before = 0;
      after = 0;
      ruby = at.ruby;
      rubies = run;
      left = 0;
      lefts = 0;
      own = own;
      wide = at.wide;
      over = at.over;
      western = west;
      ownleft = 0;
      more = false;
    }

abbrev pub past_run : Cursor → ℕ → ℕ → ℕ → Cursor
past_run at run own em = record { ruby = at.ruby + run; wide = at.wide + own; over = at.over + cond (ltb em own) 1 0 }

-- where the ruby of a J is laid up to its base character k
abbrev pub cursor_at : Job → Piece → ℕ → Cursor
cursor_at job x k = record { ruby = first_at Right job x k; wide = wide_before job x k; over = longer job x k }

pub run_row_lem : (job : Job) (x : Piece) (w : Word) (ends : Bool) (i : ℕ) (at : Cursor) (run own : ℕ) (west : Bool) → at ≡ cursor_at job x (i - x.base) →
    run ≡ run_at Right job x (i - x.base) → own ≡ run_width Right job x (i - x.base) → west ≡ western (get_or job.ruby_class at.ruby 0) →
    run_row x w ends i at run own west ≡ jukugo_row job x w ends i
run_row_lem job x w ends i at run own west a r o v = rw (v, a, r, o)

pub past_run_lem : (job : Job) (x : Piece) (k : ℕ) (at : Cursor) (run own : ℕ) → at ≡ cursor_at job x k → run ≡ run_at Right job x k → own ≡ run_width Right job x k →
    past_run at run own job.em ≡ cursor_at job x (suc k)
past_run_lem job x k at run own a r o =
    rw (a, r, o) (same _ _ _ _ _ _ (first_next Right job x k) (wide-next job x k) (longer-next job x k))
  where
    same : (a b c d e f : ℕ) → a ≡ b → c ≡ d → e ≡ f → ◌≡◌ {A = Cursor} (record { ruby = a; wide = c; over = e }) (record { ruby = b; wide = d; over = f })
    same a b c d e f p q r = cc

module _ (job : Job) (x : Piece) (t : List Cell) (h : HasRuns job x t) (k : ℕ) (l : k < x.bases) (at : Cursor) (e : at ≡ cursor_at job x k) where
  pub reads_at : RunReads job.ruby_width at.ruby (run_at Right job x k)
  reads_at = reads-from Right job x h.own k l at.ruby (ap (λ z. z.ruby) e)

  pub class-at : at.ruby < length job.ruby_class
  class-at = omega (arith, taken-held Right job x h.own k l, h.class, reads_at.some, ap (λ z. z.ruby) e)

  pub own_at : sum (entries job.ruby_width at.ruby (at.ruby + run_at Right job x k - at.ruby)) ≡ run_width Right job x k
  own_at = own-from Right job x h.own k l at.ruby (ap (λ z. z.ruby) e)

  wide-held : wide_before job x k + run_width Right job x k ≤ 262144
  wide-held = omega (arith, wide-next job x k, wide-more job x (suc k) (x.bases - suc k), ap (wide_before job x) (back Right job x h.own k l), h.own.narrow)

  pub past-ready : (own : ℕ) → own ≡ run_width Right job x k → (at.ruby ≤ 4096) × (at.wide + own ≤ 262144) × (at.over ≤ 1024)
  past-ready own o =
      let w = ap (λ z. z.wide) e in
      let v = ap (λ z. z.over) e in
      (omega (arith, reads_at.few), omega (arith, w, o, wide-held), omega (arith, v, longer-few job x k, h.own.few))

-- before the first run nothing is laid
pub cursor_first : (job : Job) (x : Piece) → ◌≡◌ {A = Cursor} (record { ruby = x.ruby; wide = 0; over = 0 }) (cursor_at job x (x.base - x.base))
cursor_first job x = go (x.base - x.base) (omega arith)
  where
    go : (k : ℕ) → k ≡ 0 → ◌≡◌ {A = Cursor} (record { ruby = x.ruby; wide = 0; over = 0 }) (cursor_at job x k)
    go k e = rw (e, add-zero x.ruby)

pub cursor_next : (job : Job) (x : Piece) (i : ℕ) → x.base ≤ i → cursor_at job x (suc (i - x.base)) ≡ cursor_at job x (i + 1 - x.base)
cursor_next job x i h = ap (cursor_at job x) (next x.base i h)
