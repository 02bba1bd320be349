-- An accepted job can be printed from its table: what the entry point leaves is all that `write_result` asks for, given room for the longest text, and what is printed is the
-- job's own text. Line by line the extent is that of the job's line, and the elements by rows are what is printed of it.
use Rattle.std.specs.Prelude.{◌≡◌, refl, true, List, [], ◌∷◌, ◌++◌, ℕ, ◌≤◌, ◌<◌, length, take, drop}
use Rattle.std.proofs.Math.Path.{sym, ap₂}
use Rattle.std.proofs.Common.{ap, ◌∙◌, inl, inr, arith}
use Rattle.std.proofs.Math.Seq.{take-append_seam}
use Rattle.line.specs.Setting.{furthest}
use Rattle.cells.specs.Rows.{Rows}
use Rattle.cells.specs.Cells.{state_at}
use Rattle.door.specs.Job.{Job, base_count, ruby_count, left_count}
use Rattle.door.specs.Passed.{Passed}
use Rattle.job.specs.Line.{permitted, ends, by_line}
use Rattle.job.proofs.Walk.{extent_of_lem}
use Rattle.job.specs.Promise.{Chain}
use Rattle.job.proofs.Declined.{filled}
use Rattle.job.specs.Refusals.{lines_faults}
use Rattle.filling.specs.Lines.{over, extents_of, length-extents}
use Rattle.join.specs.Rows.{Holds}
use Rattle.join.specs.Join.{state-join}
use Rattle.posjoin.specs.Join.{Begins}
use Rattle.posjoin.specs.Lines as lines
use Rattle.result.specs.Text.{bytes, line_one, of_line, result_text}
use Rattle.result.specs.ByRows.{line_text, lines_text, rows_text}
use Rattle.result.specs.Lines.{TextReady}
use Rattle.result.specs.Shown.{line-shown}
use Rattle.result.specs.Short.{longest, result-short}

module _ (job : Job) (passed : Passed job) (t : Rows) (table : Holds job t) (base ruby left : List ℕ) where
  line_text_lem : (s e : ℕ) → Begins job s → s < e → e ≤ base_count job → permitted job e ≡ true → line_text t base ruby left (furthest (state_at t s e)) s e ≡ of_line job base ruby left s e
  unfolding line_text of_line
  line_text_lem s e b l u p =
      ap₂ (λ x ps. line_one (bytes "line") x ++ ps) (ap furthest (state-join job passed t table s e l u) ∙ sym (extent_of_lem job s e)) (line-shown job passed t table s e b u p base ruby left l)

  lines_join : (s : ℕ) (es : List ℕ) (d : ℕ) → Begins job s → Chain job s es d → lines_text t base ruby left s es (extents_of t s es) ≡ by_line (of_line job base ruby left) s es
  lines_join s [] d b c = refl
  lines_join s (e ∷ es) d b c =
      let a = c.0.at in
      ap₂ (λ x y. x ++ y) (line_text_lem s e b a.ahead a.within a.permits) (lines_join e es d (inr a.permits) c.1)

  module _ (n : ℕ) (found far wasFar : List ℕ) (is : take n found ≡ ends job) (many : n ≡ length (ends job)) (none : lines_faults job ≡ [])
      (told : far ≡ over (extents_of t 0 (ends job)) wasFar) where
    extents_are : take n far ≡ extents_of t 0 (ends job)
    extents_are =
        let xs = extents_of t 0 (ends job) in
        ap₂ take (many ∙ sym (length-extents t 0 (ends job))) told ∙ take-append_seam xs (drop (length xs) wasFar)

    -- what is printed is the job's text
    pub rows_text_lem : rows_text t n found far base ruby left ≡ result_text job base ruby left
    unfolding rows_text result_text
    rows_text_lem =
        ap₂ (λ es xs. line_one (bytes "lines") n ++ lines_text t base ruby left 0 es xs) is extents_are
        ∙ ap₂ (λ m b. line_one (bytes "lines") m ++ b) many (lines_join 0 (ends job) (base_count job) (inl refl) (filled job passed none))

    -- what the printing asks for
    pub text-ready : (out : List ℕ) → n ≤ length far → base_count job ≤ length base → ruby_count job ≤ length ruby → left_count job ≤ length left → longest ≤ length out →
        TextReady t n found far base ruby left out
    text-ready out f b r l h =
        record {
          width = job.width;
          ruby_width = job.ruby_width;
          left_width = job.left_width;
          lines = lines.lines-ready job passed t table n found is many none base ruby left b r l;
          far = f;
          room = omega (arith, ap length rows_text_lem, result-short job base ruby left passed (filled job passed none));
        }
