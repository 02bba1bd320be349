-- What the tables must have room for: 1,024 elements of five numbers, and the runs that a sheet of 65,535 bytes can hold, two bytes or more each.
use Rattle.std.specs.Prelude.{List, ℕ, ◌+◌, ◌*◌, ◌^◌, ◌≤◌, ◌<◌, length, Result}
use Rattle.std.proofs.Common.{arith, mul-one}
use Rattle.refusal.specs.declared.Refusal.{Refusal}
use Rattle.rows.specs.declared.Part.{Part}
use Rattle.rows.specs.Section.{count_of, line_of}
use Rattle.rows.specs.Table.{FieldsReady}
use Rattle.rows.specs.Whole.{Came}

-- `used` runs were read before the place `at`
pub record RunsReady (s : List ℕ) (at used : ℕ) (runs : List ℕ) : Type 0 where
  pub few : 2 * used ≤ at
  pub short : length s ≤ 65535
  pub room : 32768 ≤ length runs
  pub small : length runs + 1 < 2 ^ 64

pub record LineReady (s : List ℕ) (at used lused : ℕ) (runs lruns : List ℕ) : Type 0 where
  pub right : RunsReady s at used runs
  pub left : RunsReady s at lused lruns

pub record PutReady (i : ℕ) (table : List ℕ) : Type 0 where
  pub few : i < 1024
  pub room : 5120 ≤ length table

-- the lists that the runs go to
pub record Held (runs lruns : List ℕ) : Type 0 where
  pub right : 32768 ≤ length runs
  pub left : 32768 ≤ length lruns
  pub small_right : length runs + 1 < 2 ^ 64
  pub small_left : length lruns + 1 < 2 ^ 64

pub record LinesReady (s : List ℕ) (n first : ℕ) (table runs lruns : List ℕ) : Type 0 where
  pub few : n ≤ 1024
  pub lines : first + n < 2 ^ 32
  pub room : 5120 ≤ length table
  pub short : length s ≤ 65535
  pub held : Held runs lruns

pub record ElementsReady (s : List ℕ) (head : Result Part Refusal) (table runs lruns : List ℕ) : Type 0 where
  pub few : count_of head ≤ 1024
  pub lines : line_of head + count_of head < 2 ^ 32
  pub room : 5120 ≤ length table
  pub short : Came head → length s ≤ 65535
  pub held : Held runs lruns

-- runs that are read from a later place on have room
pub runs_fit : {s : List ℕ} {at used : ℕ} {runs : List ℕ} (from k : ℕ) → RunsReady s at used runs → at ≤ from → FieldsReady s from k used 1 runs
runs_fit {s} {at} {used} {runs} from k r h =
    record {
      room = λ j few fits. rw mul-one (omega (arith, r.few, r.short, r.room));
      small = r.small;
    }

pub runs-later : {s : List ℕ} {at used : ℕ} {runs : List ℕ} (from : ℕ) → RunsReady s at used runs → at ≤ from → RunsReady s from used runs
runs-later from r h = record { few = omega (arith, r.few); short = r.short; room = r.room; small = r.small }
