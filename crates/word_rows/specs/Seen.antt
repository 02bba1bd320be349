-- What the rows of a J are written from, as a contract sees it, its lists behind references: `runs_now` as a `requires` sees it, `runs_was` as an `ensures` does, at entry.
use Rattle.std.specs.Prelude.{ℕ}
use Rattle.basics.specs.Seen.{was, Ref, Seen}
use Rattle.door.specs.Job.{Job}
use Rattle.word_rows.specs.Runs.{runs_only}

abbrev pub runs_now : ℕ → Ref → Ref → Ref → Job
runs_now em rclass rwidth runs = runs_only em rclass.now rwidth.now runs.now

abbrev pub runs_was : ℕ → Seen → Seen → Seen → Job
runs_was em rclass rwidth runs = runs_only em (was rclass) (was rwidth) (was runs)
