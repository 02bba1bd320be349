-- What a word with a left reading is laid from, as a contract sees it, its lists behind references: `.._now` as a `requires` sees it, `.._was` as an `ensures` does, at entry.
use Rattle.std.specs.Prelude.{List, [], ℕ}
use Rattle.basics.specs.Seen.{was, Ref, Seen}
use Rattle.spread.specs.Ratio.{usual}
use Rattle.door.specs.Job.{Job}
use Rattle.word_rows.specs.Runs.{both_only}
use Rattle.two_readings.specs.Left.{lefts_only}

abbrev pub lefts_now : Ref → Ref → Job
lefts_now lwidth lruns = lefts_only lwidth.now lruns.now

abbrev pub lefts_was : Seen → Seen → Job
lefts_was lwidth lruns = lefts_only (was lwidth) (was lruns)

-- of the rows of a word that is not taken apart only these lists matter
abbrev pub whole_only : ℕ → List ℕ → List ℕ → List ℕ → List ℕ → List ℕ → Job
whole_only em ruby_class ruby_width run left_width left_run = both_only usual em [] [] [] [] [] ruby_class ruby_width run [] left_width left_run

abbrev pub whole_now : ℕ → Ref → Ref → Ref → Ref → Ref → Job
whole_now em rclass rwidth runs lwidth lruns = whole_only em rclass.now rwidth.now runs.now lwidth.now lruns.now

abbrev pub whole_was : ℕ → Seen → Seen → Seen → Seen → Seen → Job
whole_was em rclass rwidth runs lwidth lruns = whole_only em (was rclass) (was rwidth) (was runs) (was lwidth) (was lruns)
