-- The runs of a J that is cut by its rows, of either side: row by row each is the run of its own base character, so they are level one's runs, and none is longer than one em where
-- level one found none.
use Rattle.std.specs.Prelude.{◌≡◌, true, false, ◌++◌, map, ltb, length}
use Rattle.std.proofs.Math.Path.{refl, ap, ap₂}
use Rattle.std.proofs.Common.{sym, ◌∙◌, subst, ltb-false}
use Prim.Native.Nat.{ℕ, zero, suc, ◌+◌, ◌-◌, ◌*◌, ◌≤◌, ◌<◌}
use Rattle.std.proofs.Math.Nat.{add-suc}
use native.Mathlib.Omega.{arith}
use Rattle.std.proofs.Math.Decide.{dec_lt}
use Rattle.basics.specs.Lists.{sum, any, count}
use Rattle.basics.specs.Laws.{or_none}
use Rattle.spread.specs.Gap.{starts}
use Rattle.word.specs.Both.{has_left}
use Rattle.line.specs.declared.Side.{Side}
use Rattle.line.specs.declared.Side.TheVariants.{Right, Left}
use Rattle.word.specs.Alone as alone
use Rattle.word.specs.Word as word
use Rattle.cells.specs.Rows.{Rows}
use Rattle.cells.specs.Cells.{cell_at, share_of}
use Rattle.door.specs.declared.Piece.{Piece}
use Rattle.door.specs.Job.{Job, entries}
use Rattle.door.specs.Entries.{part_of}
use Rattle.door.specs.Whole.{ruby-within, left-within}
use Rattle.door.specs.Passed.{Passed}
use Rattle.job.specs.Line.{cuts, count_of, widths_of}
use Rattle.job.specs.Pieces.{IsWord}
use Rattle.job.proofs.Pieces.{cut-is}
use Rattle.job.specs.Words.{runs_of-j, ruby-fits, left-fits}
use Rattle.join.specs.Rows.{runs_of, run_of, first_at, run_at, run_width, Holds, ems}
use Rattle.join.specs.Runs.{first_next}
use Rattle.join.specs.Part.{entries-take, entries-drop, runs_from, lengths}
use Rattle.join.specs.Join as join
use Rattle.positions.specs.Positions.{lent, first, own, run_end, run_lent, runs_put}
use Rattle.positions.specs.Ready.{Run, Runs}

-- where none of the numbers f k, f (k + 1), .. is larger
none_larger : (f : ℕ → ℕ) (em k n : ℕ) → any (ltb em) (map f (count k n)) ≡ false → (j : ℕ) → k ≤ j → j < k + n → f j ≤ em
none_larger f em k zero e j h l = absurd (omega arith)
none_larger f em k (suc n) e j h l =
    let p = or_none (ltb em (f k)) (any (ltb em) (map f (count (suc k) n))) e in
    go (dec_lt k j) (λ u. none_larger f em (suc k) n p.1 j u (omega arith)) (ltb-false em (f k) p.0)
  where
    go : Dec (k < j) → (suc k ≤ j → f j ≤ em) → f k ≤ em → f j ≤ em
    go (yes u) g z = g (omega arith)
    go (no u) g z = subst (λ (i : ℕ). f i ≤ em) (same k j h (omega arith)) z
      where
        same : (k j : ℕ) → k ≤ j → j ≤ k → k ≡ j
        same k j h u = omega arith

-- the characters of a side are within its list of widths
pub reading-within : (side : Side) (job : Job) → count_of side job ≤ length (widths_of side job)
reading-within Right job = (ruby-within job).1
reading-within Left job = (left-within job).1

module _ (job : Job) (passed : Passed job) (t : Rows) (table : Holds job t) (x : Piece) (at : IsWord job x) (cut : cuts job x ≡ true) where
  back : (b k : ℕ) → b + k - b ≡ k
  back b k = omega arith

  -- What the rows of one side say: the characters of its base character k, by runs that lie within the job's list.
  pub record Shared (side : Side) : Type 0 where
    pub first : (k : ℕ) → k < x.bases → first side t (x.base + k) ≡ first_at side job x k
    pub many : (k : ℕ) → k < x.bases → (share_of side (cell_at t (x.base + k))).many ≡ run_at side job x k
    pub own : (k : ℕ) → k < x.bases → own side t (x.base + k) ≡ run_width side job x k
    pub inside : (k : ℕ) → k < x.bases → (run_at side job x k ≤ 64) × (first_at side job x k + run_at side job x k ≤ count_of side job)

  pub right-shared : Shared Right
  right-shared =
      record {
        first = λ k l. join.ruby_at job passed t table x at cut (x.base + k) (omega arith) (omega arith) ∙ ap (first_at Right job x) (back x.base k);
        many = λ k l. join.rubies-at job passed t table x at cut (x.base + k) (omega arith) (omega arith) ∙ ap (run_at Right job x) (back x.base k);
        own = λ k l. join.own_at job passed t table x at cut (x.base + k) (omega arith) (omega arith) ∙ ap (run_width Right job x) (back x.base k);
        inside = λ k l.
            let q = cut-is job x cut in
            let f = ruby-fits job passed x at.good q.0 q.1 k 1 (omega arith) (omega arith) in
            (omega (arith, f, at.good.counts.few_ruby), omega (arith, f, at.good.reads));
      }

  pub left-shared : has_left x.gloss ≡ true → Shared Left
  left-shared h =
      record {
        first = λ k l. join.left-first_at job passed t table x at (x.base + k) (omega arith) (omega arith) ∙ rw (cut, h) (ap (first_at Left job x) (back x.base k));
        many = λ k l. join.lefts-by job passed t table x at h cut (x.base + k) (omega arith) (omega arith) ∙ ap (run_at Left job x) (back x.base k);
        own = λ k l. join.own-left_by job passed t table x at h cut (x.base + k) (omega arith) (omega arith) ∙ ap (run_width Left job x) (back x.base k);
        inside = λ k l.
            let q = cut-is job x cut in
            let f = left-fits job passed x at.good q.0 q.1 k 1 (omega arith) (omega arith) (runs_of-j x.form x.gloss q.0 h q.1) in
            (omega (arith, f, at.good.gloss.few), omega (arith, f, at.good.left_reads));
      }

  module _ (side : Side) (s : Shared side) where
    pub end_is : (k : ℕ) → k < x.bases → run_end side t (x.base + k) ≡ first_at side job x (suc k)
    end_is k l = ap₂ (λ a b. a + b) (s.first k l) (s.many k l) ∙ first_next side job x k

    run_lent_lem : (k : ℕ) → k < x.bases → run_lent side t (widths_of side job) (x.base + k) ≡ entries (widths_of side job) (first_at side job x k) (run_at side job x k)
    run_lent_lem k l =
        ap₂ (λ a b. lent (widths_of side job) a (a + b)) (s.first k l) (s.many k l)
        ∙ part_of (widths_of side job) (first_at side job x k) (run_at side job x k) (omega (arith, (s.inside k l).1, reading-within side job))

    -- row by row, and as level one shares the characters out
    pub runs_put_lem : (n k y : ℕ) → k + n ≤ x.bases → runs_put side t (widths_of side job) n (x.base + k) y ≡ word.run_starts job.em y (runs_from side job x k n)
    unfolding runs_put word.run_starts
    runs_put_lem zero k y h = refl
    runs_put_lem (suc n) k y h =
        let c = run_at side job x k in
        let m = sum (entries (runs_of side job) (suc (run_of side x + k)) n) in
        let l : k < x.bases = omega arith in
        rw (entries-take (widths_of side job) (first_at side job x k) c m, entries-drop (widths_of side job) (first_at side job x k) c m, first_next side job x k, ← add-suc (run_of side x) k)
        (ap (λ m. starts 0 (y + (m - own side t (x.base + k))) (run_lent side t (widths_of side job) (x.base + k)) ++ runs_put side t (widths_of side job) n (x.base + k + 1) (y + 2 * m)) (ems table)
        ∙ ap₂ (λ a b. starts 0 (y + (job.em - a)) b ++ runs_put side t (widths_of side job) n (x.base + k + 1) (y + 2 * job.em)) (s.own k l) (run_lent_lem k l)
        ∙ ap (λ z. starts 0 (y + (job.em - run_width side job x k)) (entries (widths_of side job) (first_at side job x k) (run_at side job x k)) ++ z)
        (ap (λ (z : ℕ). runs_put side t (widths_of side job) n z (y + 2 * job.em)) (one x.base k) ∙ runs_put_lem n (suc k) (y + 2 * job.em) (omega arith)))
      where
        one : (b k : ℕ) → b + k + 1 ≡ b + suc k
        one b k = omega arith

    -- and they can be written
    pub runs_fit : (k n : ℕ) → 0 < n → k + n ≤ x.bases → alone.any_longer job.em (runs_from side job x k n) ≡ false →
        Runs side t (widths_of side job) (count_of side job) (x.base + k) (x.base + k + n)
    runs_fit k n some h none =
        record {
          each = λ j l u. subst (Run side t (widths_of side job) (count_of side job)) (there j l) (each (j - x.base) (omega arith) (omega arith));
          follows = λ j l u. subst (λ (z : ℕ). first side t (z + 1) ≡ run_end side t z) (there j l) (follows (j - x.base) (omega arith));
        }
      where
        there : (j : ℕ) → x.base + k ≤ j → x.base + (j - x.base) ≡ j
        there j l = omega arith

        short : (j : ℕ) → k ≤ j → j < k + n → run_width side job x j ≤ job.em
        short = none_larger (run_width side job x) job.em k n (ap (any (ltb job.em)) (sym (lengths side job x n k)) ∙ none)

        each : (j : ℕ) → k ≤ j → j < k + n → Run side t (widths_of side job) (count_of side job) (x.base + j)
        each j l u =
            let v : j < x.bases = omega arith in
            record {
              few = omega (arith, s.many j v, (s.inside j v).0);
              within = omega (arith, s.first j v, s.many j v, (s.inside j v).1);
              long = ap sum (run_lent_lem j v) ∙ sym (s.own j v);
              short = omega (arith, s.own j v, short j l u, ems table);
            }

        follows : (j : ℕ) → j + 1 < x.bases → first side t (x.base + j + 1) ≡ run_end side t (x.base + j)
        follows j u = ap (λ (z : ℕ). first side t z) (one x.base j) ∙ s.first (suc j) (omega arith) ∙ sym (end_is j (omega arith))
          where
            one : (b j : ℕ) → b + j + 1 ≡ b + suc j
            one b j = omega arith
