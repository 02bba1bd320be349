-- All lines of a job, as the writing of them by rows asks for them and as it leaves them.
use Rattle.std.specs.Prelude.{◌≡◌, refl, List, [], ◌∷◌, ℕ, ◌≤◌, ◌<◌, length, take}
use Rattle.std.proofs.Common.{sym, ap, ◌∙◌, arith, length-take}
use Rattle.line.specs.declared.Side.{Side}
use Rattle.door.specs.declared.Piece.{Piece}
use Rattle.door.specs.Job.{Job, base_count, ruby_count, left_count}
use Rattle.door.specs.Passed.{Passed, Tiled, BaseTiled}
use Rattle.job.specs.Line.{words, first_of, many_of, count_of, base_in, reading_in, ends}
use Rattle.job.specs.Line as line
use Rattle.job.specs.Refusals.{lines_faults}
use Rattle.job.specs.Outcome as outcome
use Rattle.job.proofs.Apart.{words-tiled, readings-tiled}
use Rattle.job.proofs.Pieces.{is_word}
use Rattle.job.specs.Promise.{Chain, Filled}
use Rattle.job.proofs.Filled.{chain-few}
use Rattle.job.proofs.Declined.{filled}
use Rattle.cells.specs.Rows.{Rows}
use Rattle.join.specs.Rows.{Holds}
use Rattle.join.specs.Join as join
use Rattle.positions.specs.Positions.{over, first, base_of, side_of, by_line}
use Rattle.positions.specs.Ready.{Chained, LinesReady}
use Rattle.positions.specs.Lines.{lines-front}
use Rattle.posjoin.specs.Piece.{sheet_of}
use Rattle.posjoin.specs.Ready.{first-row, writable}
use Rattle.posjoin.specs.Join.{bases-join, readings-join}

module _ (job : Job) (passed : Passed job) (t : Rows) (table : Holds job t) where
  -- the first row's characters are the job's first, on either side
  first-reading : 0 < base_count job → (side : Side) → first side t 0 ≡ 0
  first-reading some side = go (words job) refl (words-tiled job passed) (readings-tiled job passed side)
    where
      go : (xs : List Piece) → words job ≡ xs → BaseTiled 0 xs (base_count job) → Tiled (first_of side) (many_of side) 0 xs (count_of side job) → first side t 0 ≡ 0
      go [] e b r = absurd (omega arith)
      go (x ∷ xs) e b r = ap (λ (z : ℕ). first side t z) (sym b.0) ∙ first-row job passed t table side x (is_word job passed [] xs x e) ∙ r.0

  -- lines that end where the job permits it
  chained : (s : ℕ) (es : List ℕ) (d : ℕ) → Chain job s es d → Chained t (base_count job) s es
  chained s [] d c = tt
  chained s (e ∷ es) d c =
      let a = c.0.at in
      (a.ahead, a.within, join.may_join job passed t table e (omega (arith, a.ahead)) a.within ∙ a.permits, chained e es d c.1)

-- The job passes the door, the table holds it, `found` has at its front the ends of its k lines, no line is refused, and no result list is too short (12).
module _ (job : Job) (passed : Passed job) (t : Rows) (table : Holds job t) (k : ℕ) (found : List ℕ) (is : take k found ≡ ends job) (many : k ≡ length (ends job))
    (fault : lines_faults job ≡ []) where
  all : Filled job (ends job)
  all = filled job passed fault

  pub few-lines : k ≤ base_count job
  few-lines = omega (arith, many, chain-few job 0 (base_count job) (ends job) all)

  pub found-long : k ≤ length found
  found-long = omega (arith, many, ap length is, length-take k found)

  -- the lines can be written
  pub lines-ready : (base ruby left : List ℕ) → base_count job ≤ length base → ruby_count job ≤ length ruby → left_count job ≤ length left → LinesReady (sheet_of job t) k found base ruby left
  lines-ready base ruby left bases rubies lefts =
      record {
        n = base_count job;
        m = ruby_count job;
        l = left_count job;
        table = writable job passed t table;
        room = bases;
        room_ruby = rubies;
        room_left = lefts;
        held = found-long;
        few = omega (arith, few-lines, passed.few_base);
        chained = rw is (chained job passed t table 0 (ends job) (base_count job) all);
        start = first-reading job passed t table;
      }

  -- by the ends alone
  pub front-ready : (base ruby left : List ℕ) → base_count job ≤ length base → ruby_count job ≤ length ruby → left_count job ≤ length left →
      LinesReady (sheet_of job t) (length (take k found)) (take k found) base ruby left
  front-ready base ruby left bases rubies lefts =
      lines-front (lines-ready base ruby left bases rubies lefts)

  -- and what is written is what the job's meaning has
  pub base-written : (base : List ℕ) {base2 : List ℕ} → base2 ≡ over (by_line (base_of (sheet_of job t)) 0 (take k found)) base → base2 ≡ outcome.over (line.by_line (base_in job) 0 (ends job)) base
  base-written base w =
      w ∙ ap (λ l. over l base) (ap (by_line (base_of (sheet_of job t)) 0) is ∙ bases-join job passed t table (ends job) (base_count job) all)

  pub reading-written : (side : Side) (out : List ℕ) {out2 : List ℕ} → out2 ≡ over (by_line (side_of side (sheet_of job t)) 0 (take k found)) out →
      out2 ≡ outcome.over (line.by_line (reading_in side job) 0 (ends job)) out
  reading-written side out w =
      w ∙ ap (λ l. over l out) (ap (by_line (side_of side (sheet_of job t)) 0) is ∙ readings-join job passed t table side (ends job) (base_count job) all)

  pub ends-written : (lines : List ℕ) {lines2 : List ℕ} → lines2 ≡ over (take k found) lines → lines2 ≡ outcome.over (ends job) lines
  ends-written lines w = w ∙ ap (λ l. over l lines) is
