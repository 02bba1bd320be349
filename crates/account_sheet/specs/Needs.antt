-- What a declined line needs, by the rows of its job's table: number 11 is given only where the job has no fault of its own, and then the table holds the job.
use Rattle.std.specs.Prelude.{Bool, ◌≡◌, ℕ, ◌≤◌, ◌<◌, ◌^◌, length}
use Rattle.std.proofs.Math.Bool.{true, false, cond}
use mathlib.Core.List.{List, [], ◌++◌, head?}
use Rattle.std.proofs.Math.Option.{Option, some}
use Rattle.std.proofs.Math.Path.{refl, ap}
use Rattle.std.proofs.Common.{◌∙◌, arith}
use borrow.Author.Tests.{eqb-true}
use Rattle.std.proofs.Math.Dec.{eqb}
use Rattle.refusal.specs.declared.Refusal.{Refusal}
use Rattle.refusal.specs.declared.Refusal.TheVariants.{NoBreak}
use Rattle.refusal.specs.Refusal.{number_of, place_of, by_paper, of_number}
use Rattle.door.specs.Job.{Job, base_count}
use Rattle.door.specs.Refusals.{own_faults}
use Rattle.door.specs.Passed.{Passed, passed}
use Rattle.job.specs.Refusals.{lines_faults}
use Rattle.job.proofs.Declined as declined
use Rattle.job.specs.Order.{lines-turn}
use Rattle.cells.specs.Sound.{Sound}
use Rattle.join.specs.Rows.{Holds}
use Rattle.join.specs.Join.{sound}
use Rattle.cells.specs.Rows.{Rows}
use Rattle.engine.specs.Filled.{Stopped}
use Rattle.result.specs.Text.{refusal_text}
use Rattle.shortest.specs.Needed.{needed}
use Rattle.shortest.specs.Shortest.{needed_of}
use Rattle.shortest.specs.Join.{needed-join}
use Rattle.account_text.specs.Text.{needs_text}
use Rattle.account_sheet.specs.Answer.{refused_text, declined_text}

-- what is asked for to write a refusal: room, and of a line that is declined a table of n rows that tells what it needs
pub record Declined (t : Rows) (n measure : ℕ) (r : Refusal) (out : List ℕ) : Type 0 where
  pub line : number_of r ≡ 11 → ((Sound t n) × (place_of r < n)) × (measure < 2 ^ 31)
  pub room : 66 ≤ length out

-- number 11 is the refusal of a line
eleven : (r : Refusal) → number_of r ≡ 11 → r ≡ NoBreak (place_of r)
unfolding by_paper
eleven r e = of_number r 11 e

-- a job is refused
module _ {job : Job} {was wasFar : List ℕ} {t : Rows} {found far : List ℕ} {q : Refusal} (stopped : Stopped job 1024 2048 2048 1024 was wasFar t found far q) where
  -- a line of it is declined
  module _ (h : number_of q ≡ 11) where
    turn : (own_faults job 1024 2048 2048 1024 ≡ []) × (head? (lines_faults job) ≡ some (NoBreak (place_of q)))
    turn = lines-turn job 1024 2048 2048 1024 (NoBreak (place_of q)) refl (stopped.first ∙ ap {B = Option Refusal} some (eleven q h))

    door : Passed job
    door = passed job 1024 2048 2048 1024 turn.0

    ahead : place_of q < base_count job
    ahead = (declined.stuck job door (place_of q) turn.1).more

    table : Holds job t
    table = stopped.holds turn.0

  -- so what it needs is asked of the table's rows, and they tell it
  module _ {n : ℕ} (many : n ≡ base_count job) where
    pub ready : {out : List ℕ} → 66 ≤ length out → Declined t n job.measure q out
    ready room = record { line = λ h. rw many ((sound job (door h) t (table h), ahead h), omega (arith, (door h).measure)); room = room }

    pub same_text : refused_text q (needed_of t n (place_of q)) job.measure ≡ declined_text job q
    unfolding declined_text
    same_text = go (eqb (number_of q) 11) refl
      where
        go : (b : Bool) → eqb (number_of q) 11 ≡ b →
            refusal_text q ++ cond b (needs_text (needed_of t n (place_of q)) job.measure) [] ≡ refusal_text q ++ cond b (needs_text (needed job (place_of q)) job.measure) []
        go true e =
            let h = eqb-true (number_of q) 11 e in
            ap (λ d. refusal_text q ++ needs_text d job.measure) (ap (λ k. needed_of t k (place_of q)) many ∙ needed-join job (door h) t (table h) (place_of q) (ahead h))
        go false e = refl
