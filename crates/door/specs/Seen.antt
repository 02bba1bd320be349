-- A job as a contract sees it, its numbers by value and its lists behind references: `job_now` as a `requires` sees it, `job_was` as an `ensures` does, at entry.
use Rattle.std.specs.Prelude.{List, ℕ}
use Rattle.basics.specs.Seen.{was, Ref, Seen}
use Rattle.door.specs.Job.{Job, job_of}

abbrev pub job_now : ℕ → ℕ → List (List ℕ) → ℕ → Ref → Ref → Ref → Ref → Ref → Ref → Ref → Ref → Ref → Ref → Ref → Ref → Ref → Ref → Ref → Ref → Job
job_now em measure ratios profile class width before after flag rclass rwidth lclass lwidth kind ebase eruby lkind eleft runs lruns =
    job_of em measure ratios profile class.now width.now before.now after.now flag.now rclass.now rwidth.now
    lclass.now lwidth.now kind.now ebase.now eruby.now lkind.now eleft.now runs.now lruns.now

abbrev pub job_was : ℕ → ℕ → List (List ℕ) → ℕ → Seen → Seen → Seen → Seen → Seen → Seen → Seen → Seen → Seen → Seen → Seen → Seen → Seen → Seen → Seen → Seen → Job
job_was em measure ratios profile class width before after flag rclass rwidth lclass lwidth kind ebase eruby lkind eleft runs lruns =
    job_of em measure ratios profile (was class) (was width) (was before) (was after) (was flag) (was rclass) (was rwidth)
    (was lclass) (was lwidth) (was kind) (was ebase) (was eruby) (was lkind) (was eleft) (was runs) (was lruns)
