-- The base of a word, as level one asks for it, within its lists.
use Rattle.std.specs.Prelude.{◌≡◌, List, [], ℕ, ◌+◌, ◌-◌, ◌≤◌, length, take, drop}
use Rattle.std.proofs.Common.{sym, ◌∙◌, arith}
use Rattle.basics.specs.Lists.{sum}
use Rattle.basics.specs.Seen.{was, Ref, Seen}
use Rattle.spread.specs.Ratio.{usual}
use Rattle.word.specs.Summed.{base_of, given_base}
use Rattle.door.specs.declared.Piece.{Piece}
use Rattle.door.specs.Job.{Job, given}
use Rattle.door.specs.Entries.{part_of, length-entries}
use Rattle.word_rows.specs.Runs.{words_only}

-- of a base only these lists matter; `.._now` as a `requires` sees them, `.._was` as an `ensures` does, at entry
abbrev pub bases_only : ℕ → List ℕ → List ℕ → List ℕ → List ℕ → Job
bases_only em class width before after = words_only usual em class width before after [] [] [] []

abbrev pub bases_now : ℕ → Ref → Ref → Ref → Ref → Job
bases_now em class width before after = bases_only em class.now width.now before.now after.now

abbrev pub bases_was : ℕ → Seen → Seen → Seen → Seen → Job
bases_was em class width before after = bases_only em (was class) (was width) (was before) (was after)

pub record BaseReady (job : Job) (x : Piece) : Type 0 where
  pub few : x.base + x.bases ≤ 1024
  pub short : x.bases ≤ 32
  pub class : x.base + x.bases ≤ length job.class
  pub width : x.base + x.bases ≤ length job.width
  pub before : x.base + x.bases ≤ length job.before
  pub after : x.base + x.bases ≤ length job.after
  pub narrow : sum (given job x).width ≤ 131072

module _ (job : Job) (x : Piece) (h : BaseReady job x) where
  pub base-lent :
      base_of x.form job.em (take (x.base + x.bases - x.base) (drop x.base job.class)) (take (x.base + x.bases - x.base) (drop x.base job.width))
      (take (x.base + x.bases - x.base) (drop x.base job.before)) (take (x.base + x.bases - x.base) (drop x.base job.after))
      ≡ given_base x.form (given job x)
  base-lent =
      rw (
        part_of job.class x.base x.bases h.class,
        part_of job.width x.base x.bases h.width,
        part_of job.before x.base x.bases h.before,
        part_of job.after x.base x.bases h.after,
      )

  pub base-small : let ws = take (x.base + x.bases - x.base) (drop x.base job.width) in (length ws ≤ 64) × (sum ws ≤ 131072)
  base-small =
      rw (part_of job.width x.base x.bases h.width) (omega (arith, length-entries job.width x.base x.bases, h.short), h.narrow)

  pub base_even : length (take (x.base + x.bases - x.base) (drop x.base job.before)) ≡ length (take (x.base + x.bases - x.base) (drop x.base job.after))
  base_even =
      rw (part_of job.before x.base x.bases h.before, part_of job.after x.base x.bases h.after)
      (length-entries job.before x.base x.bases ∙ sym (length-entries job.after x.base x.bases))
