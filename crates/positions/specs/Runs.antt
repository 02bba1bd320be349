-- One side of a piece run by run: how many characters that is, and what is written so far and what is left to write make up the whole.
use Rattle.std.specs.Prelude.{◌≡◌, refl, List, [], length}
use Rattle.std.proofs.Math.Path.{sym, ap}
use Rattle.std.proofs.Common.{◌∙◌, add-zero, length-append}
use Prim.Native.Nat.{ℕ, zero, suc, ◌+◌, ◌-◌, ◌*◌, ◌≤◌, ◌<◌}
use native.Mathlib.Omega.{arith}
use Rattle.std.proofs.Math.Decide.{dec_lt}
use Rattle.std.proofs.Math.Seq.{sets, length-sets}
use Rattle.basics.specs.Laws.{sets_append}
use Rattle.spread.specs.Gap.{starts}
use Rattle.spread.specs.Laws.{length-starts}
use Rattle.line.specs.declared.Side.{Side}
use Rattle.cells.specs.Rows.{Rows}
use Rattle.cells.specs.Cells.{cell_at, share_of}
use Rattle.positions.specs.Positions.{first, own, run_end, run_lent, runs_put}
use Rattle.positions.specs.Lists.{lent-long, sets-any}
use Rattle.positions.specs.Ready.{StringReady, Run, Runs}

-- What the writing of the runs asks for: the first of their characters starts at x.
pub record RunsReady (side : Side) (t : Rows) (i c x : ℕ) (ws out : List ℕ) : Type 0 where
  pub m : ℕ
  pub runs : Runs side t ws m i c
  pub widths : m ≤ length ws
  pub room : m ≤ length out
  pub many : m ≤ 4096
  pub ahead : i < c
  pub few : c ≤ i + 32
  pub rows : c ≤ 1024
  pub held : c ≤ length t.rows
  pub small : t.em ≤ 4096
  pub near : x ≤ 1073741824

-- one run's starts
abbrev pub run_starts : Side → Rows → List ℕ → ℕ → ℕ → List ℕ
run_starts side t ws i x = starts 0 (x + (t.em - own side t i)) (run_lent side t ws i)

module _ (side : Side) (t : Rows) (ws : List ℕ) (m : ℕ) (widths : m ≤ length ws) where
  pub run_long : (i x : ℕ) → Run side t ws m i → length (run_starts side t ws i x) ≡ (share_of side (cell_at t i)).many
  run_long i x r =
      length-starts 0 (x + (t.em - own side t i)) (run_lent side t ws i)
      ∙ lent-long ws (first side t i) (run_end side t i) (omega arith) (omega (arith, r.within)) ∙ omega arith

  -- the runs end where the last row's does
  pub runs-long : (k i x : ℕ) → Runs side t ws m i (i + suc k) → first side t i + length (runs_put side t ws (suc k) i x) ≡ run_end side t (i + k)
  unfolding runs_put
  runs-long zero i x r =
      adds (length (run_starts side t ws i x)) (run_long i x (r.each i (omega arith) (omega arith)))
      (length-append (run_starts side t ws i x) []) ∙ ap (run_end side t) (sym (add-zero i))
    where
      adds : (a : ℕ) → a ≡ (share_of side (cell_at t i)).many → {b : ℕ} → b ≡ a + 0 → first side t i + b ≡ run_end side t i
      adds a e f = omega arith
  runs-long (suc k) i x r =
      adds (length (run_starts side t ws i x)) (length (runs_put side t ws (suc k) (i + 1) (x + 2 * t.em))) (run_long i x (r.each i (omega arith) (omega arith)))
      (r.follows i (omega arith) (omega arith)) (length-append (run_starts side t ws i x) (runs_put side t ws (suc k) (i + 1) (x + 2 * t.em)))
      ∙ runs-long k (i + 1) (x + 2 * t.em)
      (record { each = λ j l u. r.each j (omega arith) (omega arith); follows = λ j l u. r.follows j (omega arith) (omega arith) })
      ∙ ap (run_end side t) (one i k)
    where
      one : (i k : ℕ) → i + 1 + k ≡ i + suc k
      one i k = omega arith

      adds : (a z : ℕ) → a ≡ (share_of side (cell_at t i)).many → first side t (i + 1) ≡ run_end side t i → {b : ℕ} → b ≡ a + z → first side t i + b ≡ first side t (i + 1) + z
      adds a z e f g = omega arith

-- Before the run of row k, whose character starts at x.
pub record Running (side : Side) (t : Rows) (i c at : ℕ) (ws was : List ℕ) (k x : ℕ) (out : List ℕ) : Type 0 where
  pub from : i ≤ k
  pub upto : k ≤ c
  pub near : x ≤ at + 8192 * (k - i)
  pub made : sets out (first side t k) (runs_put side t ws (c - k) k x) ≡ sets was (first side t i) (runs_put side t ws (c - i) i at)
  pub long : length out ≡ length was

module _ {side : Side} {t : Rows} {i c at : ℕ} {ws was : List ℕ} (ready : RunsReady side t i c at ws was) where
  pub running-first : Running side t i c at ws was i at was
  running-first = record { from = omega arith; upto = omega (arith, ready.ahead); near = omega arith; made = refl; long = refl }

  module _ {k x : ℕ} {out : List ℕ} (q : Running side t i c at ws was k x out) where
    pub running-end : c ≤ k → out ≡ sets was (first side t i) (runs_put side t ws (c - i) i at)
    unfolding runs_put
    running-end h = ap (λ j. sets out (first side t k) (runs_put side t ws j k x)) (sym (none c k h)) ∙ q.made
      where
        none : (c k : ℕ) → c ≤ k → c - k ≡ 0
        none c k h = omega arith

    module _ (l : k < c) where
      run : Run side t ws ready.m k
      run = ready.runs.each k q.from l

      pub string-ready : StringReady (x + (t.em - own side t k)) 0 (first side t k) (run_end side t k) ws out
      string-ready =
          record {
            ahead = omega arith;
            few = omega (arith, run.few);
            end = omega (arith, run.within, ready.many);
            widths = omega (arith, run.within, ready.widths);
            room = omega (arith, run.within, ready.room, q.long);
            small = omega arith;
            near = omega (arith, run.long, run.short, ready.small, ready.near, q.near, ready.few, l);
          }

      pub running-next : Running side t i c at ws was (k + 1) (x + 2 * t.em) (sets out (first side t k) (run_starts side t ws k x))
      unfolding runs_put
      running-next =
          record {
            from = omega (arith, q.from);
            upto = omega arith;
            near = omega (arith, q.near, q.from, ready.small);
            made =
                place (dec_lt (k + 1) c)
                ∙ sym (sets_append out (run_starts side t ws k x) (runs_put side t ws (c - (k + 1)) (k + 1) (x + 2 * t.em)) (first side t k))
                ∙ ap (λ j. sets out (first side t k) (runs_put side t ws j k x)) (one c k l)
                ∙ q.made;
            long = length-sets out (first side t k) (run_starts side t ws k x) ∙ q.long;
          }
        where
          one : (c k : ℕ) → k < c → suc (c - (k + 1)) ≡ c - k
          one c k l = omega arith

          none : (c k : ℕ) → c ≤ k + 1 → c - (k + 1) ≡ 0
          none c k h = omega arith

          now : List ℕ
          now = sets out (first side t k) (run_starts side t ws k x)

          rest : List ℕ
          rest = runs_put side t ws (c - (k + 1)) (k + 1) (x + 2 * t.em)

          place : Dec (k + 1 < c) → sets now (first side t (k + 1)) rest ≡ sets now (first side t k + length (run_starts side t ws k x)) rest
          place (yes h) =
              ap (λ z. sets now z rest)
              (ready.runs.follows k q.from h ∙ ap (λ z. first side t k + z) (sym (run_long side t ws ready.m ready.widths k x run)))
          place (no h) = sets-any now rest (first side t (k + 1)) (first side t k + length (run_starts side t ws k x)) (ap (λ j. runs_put side t ws j (k + 1) (x + 2 * t.em)) (none c k (omega arith)))
