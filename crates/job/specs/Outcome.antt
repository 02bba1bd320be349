-- The answer to a job and the result lists after it (document 01, "Refusal list").
use Rattle.std.specs.Prelude.{List, ◌++◌, ℕ, length, drop}
use Rattle.std.proofs.Math.Option.{Option, none, some}
use Rattle.refusal.specs.declared.Refusal.{Refusal}
use Rattle.line.specs.declared.Side.{Side}
use Rattle.line.specs.declared.Side.TheVariants.{Right, Left}
use Rattle.door.specs.Job.{Job}
use Rattle.job.specs.declared.Answer.{Answer}
use Rattle.job.specs.declared.Answer.TheVariants.{Set, Refused}
use Rattle.job.specs.Line.{ends, base_in, reading_in, by_line}
use Rattle.job.specs.Refusals.{fault}

-- the answer, and "a position for each base character, one for each ruby character, and for each line the count of base characters up to its end"; R-5: "left
-- positions a result list of their own"
pub record Outcome : Type 0 where
  pub answer : Answer
  pub base : List ℕ
  pub ruby : List ℕ
  pub left : List ℕ
  pub lines : List ℕ

-- the positions of one side's characters
abbrev pub readings : Outcome → Side → List ℕ
readings o Right = o.ruby
readings o Left = o.left

-- "On success, entries past those used stay as they were"
abbrev pub over : List ℕ → List ℕ → List ℕ
over new was = new ++ drop (length new) was

-- "None of them is altered by a refusal." "Success returns the number of lines."
unfoldable pub after : Job → List ℕ → List ℕ → List ℕ → List ℕ → Option Refusal → Outcome
unfolding ends base_in reading_in
after job base ruby left lines (some r) = record { answer = Refused r; base = base; ruby = ruby; left = left; lines = lines }
after job base ruby left lines none =
    let es = ends job in
    record {
      answer = Set (length es);
      base = over (by_line (base_in job) 0 es) base;
      ruby = over (by_line (reading_in Right job) 0 es) ruby;
      left = over (by_line (reading_in Left job) 0 es) left;
      lines = over es lines;
    }

-- the whole meaning of a job: what the result lists that were lent are afterwards, and the answer
unfoldable pub outcome : Job → List ℕ → List ℕ → List ℕ → List ℕ → Outcome
unfolding after fault
outcome job base ruby left lines = after job base ruby left lines (fault job (length base) (length ruby) (length left) (length lines))
