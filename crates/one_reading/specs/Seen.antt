-- What a word without a left reading is laid from, as a contract sees it, its lists behind references: `.._now` as a `requires` sees it, `.._was` as an `ensures` does, at entry.
use Rattle.std.specs.Prelude.{List, [], ℕ}
use Rattle.basics.specs.Seen.{was, Ref, Seen}
use Rattle.spread.specs.Ratio.{usual}
use Rattle.door.specs.Job.{Job}
use Rattle.word_rows.specs.Runs.{words_only}

-- of an M only these lists matter
abbrev pub mono_only : List ℕ → List ℕ → List ℕ → List ℕ → List ℕ → Job
mono_only width before after flag ruby_width = words_only usual 0 [] width before after flag [] ruby_width []

abbrev pub mono_now : Ref → Ref → Ref → Ref → Ref → Job
mono_now width before after flag rwidth = mono_only width.now before.now after.now flag.now rwidth.now

abbrev pub mono_was : Seen → Seen → Seen → Seen → Seen → Job
mono_was width before after flag rwidth = mono_only (was width) (was before) (was after) (was flag) (was rwidth)
