-- A J of one character, which has one row by its only run.
use Rattle.std.specs.Prelude.{◌≡◌, Bool, false, cond, List, ℕ, ◌+◌, ◌-◌, ◌<◌, ltb, length, get_or}
use Rattle.std.proofs.Common.{subst, add-zero, arith}
use Rattle.basics.specs.Lists.{sum}
use Rattle.class.specs.Class.{western}
use Rattle.word.specs.declared.Word.{Word}
use Rattle.line.specs.declared.Side.{Side}
use Rattle.line.specs.declared.Side.TheVariants.{Right}
use Rattle.cells.specs.declared.Cell.{Cell}
use Rattle.door.specs.declared.Piece.{Piece}
use Rattle.door.specs.Job.{Job, entries}
use Rattle.job.specs.Line.{first_of, widths_of}
use Rattle.join.specs.Rows.{runs_of, run_of, first_at, run_at, run_width, wide_before, longer, none}
use Rattle.word_rows.specs.Runs.{runs_only, Runs, RunReads, taken-held, run-reads, HasRuns, jukugo_row}

-- the first run
pub first_reads : (side : Side) (job : Job) (x : Piece) → Runs side job x → 0 < x.bases → RunReads (widths_of side job) (first_of side x) (get_or (runs_of side job) (run_of side x) 0)
first_reads side job x h some =
    subst (λ r. RunReads (widths_of side job) r (get_or (runs_of side job) (run_of side x) 0)) (add-zero (first_of side x))
    (subst (λ n. RunReads (widths_of side job) (first_at side job x 0) (get_or (runs_of side job) n 0)) (add-zero (run_of side x)) (run-reads side job x h 0 some))

pub first-class : (job : Job) (x : Piece) (t : List Cell) → HasRuns job x t → 0 < x.bases → x.ruby < length job.ruby_class
first-class job x t h some = omega (arith, taken-held Right job x h.own 0 some, h.class, (run-reads Right job x h.own 0 some).some)

-- em has no part in where the runs lie
pub runs-any : {em e : ℕ} {ruby_class ruby_width run : List ℕ} {x : Piece} {t : List Cell} → HasRuns (runs_only em ruby_class ruby_width run) x t → HasRuns (runs_only e ruby_class ruby_width run) x t
runs-any h =
    let r = h.own in
    record {
      held = h.held;
      class = h.class;
      own = record { few = r.few; small = r.small; runs = r.runs; few_runs = r.few_runs; many = r.many; width = r.width; narrow = r.narrow; each = r.each };
    }

-- the row of a J of one character
abbrev pub single_row : Piece → Word → Bool → List ℕ → List ℕ → List ℕ → Cell
single_row p w ends ruby_class ruby_width run =
    record {
      bases = 1;
      cut = false;
      ends = ends;
      word = w;
      before = 0;
      after = 0;
      ruby = p.ruby;
      rubies = get_or run p.run 0;
      left = 0;
      lefts = 0;
      own = sum (entries ruby_width p.ruby (get_or run p.run 0));
      wide = 0;
      over = 0;
      western = western (get_or ruby_class p.ruby 0);
      ownleft = 0;
      more = false;
    }

-- a J of one character has one row, whatever em is
pub single_row_lem : (em : ℕ) (ruby_class ruby_width run : List ℕ) (x : Piece) (w : Word) (ends : Bool) (i : ℕ) → x.bases ≡ 1 → i ≡ x.base →
    single_row x w ends ruby_class ruby_width run ≡ jukugo_row (runs_only em ruby_class ruby_width run) x w ends i
single_row_lem em ruby_class ruby_width run x w ends i one e = go (x.base + x.bases - i) x.bases (i - x.base) (omega (arith, one)) one (omega arith)
  where
    go : (m n k : ℕ) → m ≡ 1 → n ≡ 1 → k ≡ 0 → single_row x w ends ruby_class ruby_width run
        ≡ (let job = runs_only em ruby_class ruby_width run in
        record {
          bases = m;
          cut = ltb 1 n;
          ends = ends;
          word = cond (ltb 1 n) none w;
          before = 0;
          after = 0;
          ruby = first_at Right job x k;
          rubies = run_at Right job x k;
          left = 0;
          lefts = 0;
          own = run_width Right job x k;
          wide = wide_before job x k;
          over = longer job x k;
          western = western (get_or ruby_class (first_at Right job x k) 0);
          ownleft = 0;
          more = false;
        })
    go m n k e f g = rw (e, f, g, add-zero x.ruby, add-zero x.run)
