-- What is lent are the run's own entries. Their sum is its width.
use mathlib.Core.Path.{◌≡◌, ap, ◌∙◌}
use mathlib.Core.List.{List}
use Prim.Native.Nat.{ℕ, ◌+◌, ◌-◌, ◌≤◌}
use lib.ListN.{length, take, drop}
use native.Mathlib.Omega.{arith}
use Rattle.basics.specs.Lists.{sum}
use Rattle.door.specs.Job.{entries}
use Rattle.door.specs.Entries.{part_of}
use Rattle.word_rows.proofs.run_width.Goals as goal

own : (xs : List ℕ) (r e : ℕ) → r ≤ e → e ≤ length xs → take (e - r) (drop r xs) ≡ entries xs r (e - r)
own xs r e h l = ap (λ m. take m (drop r xs)) (back r e h) ∙ part_of xs r (e - r) (omega arith)
  where
    back : (r e : ℕ) → r ≤ e → e - r ≡ r + (e - r) - r
    back r e h = omega arith

pub sum_of-requires : goal.sum_of-requires
sum_of-requires c =
    omega (arith, ap sum (own c.args.rwidth.now c.args.r c.args.e c.requires.0 c.requires.2), c.requires.3)

pub returns : goal.returns
returns c =
    c.sum_of.ensures ∙ ap sum (own c.args.rwidth.now c.args.r c.args.e c.requires.0 c.requires.2)
