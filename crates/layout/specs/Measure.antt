-- No row depends on the measure, and no refusal of an element does: a table laid without it is the job's, and a job's table is that of the job with any other measure.
use Rattle.std.specs.Prelude.{◌≡◌, List, [], ◌∷◌, ℕ}
use Rattle.std.proofs.Common.{subst, sym}
use Rattle.basics.specs.Lists.{each, All}
use Rattle.door.specs.declared.Piece.{Piece}
use Rattle.door.specs.Job.{Job, with_measure, base_count}
use Rattle.door.specs.Loop.{part_faults}
use Rattle.door.specs.Measure as door
use Rattle.cells.specs.Rows.{Rows}
use Rattle.cells.specs.declared.Cell.{Cell}
use Rattle.job.specs.Line.{part, words_in, words}
use Rattle.join.specs.Rows.{row_of, HasRows, Holds}

-- the job without its measure
abbrev pub unmeasured : Job → Job
unmeasured job = with_measure 0 job

pub same-faults : (job : Job) → part_faults (unmeasured job) ≡ part_faults job
same-faults job = door.same-faults 0 job

all-rows : (job : Job) (t : List Cell) (xs : List Piece) → All (HasRows (unmeasured job) t) xs → All (HasRows job t) xs
unfolding row_of
all-rows job t [] a = tt
all-rows job t (x ∷ xs) a = (a.0, all-rows job t xs a.1)

pub measured : (job : Job) (t : Rows) → Holds (unmeasured job) t → Holds job t
unfolding base_count words words_in part
measured job t h =
    record {
      long = h.long;
      ratios = h.ratios;
      em = h.em;
      rows = subst (λ es. All (HasRows job t.rows) (each (words_in job) es)) (door.same-elements 0 job) (all-rows job t.rows (words (unmeasured job)) h.rows);
    }

other-rows : (m : ℕ) (job : Job) (t : List Cell) (xs : List Piece) → All (HasRows job t) xs → All (HasRows (with_measure m job) t) xs
unfolding row_of
other-rows m job t [] a = tt
other-rows m job t (x ∷ xs) a = (a.0, other-rows m job t xs a.1)

-- so the table that `layout` leaves serves every measure
pub any-measure : (m : ℕ) (job : Job) (t : Rows) → Holds job t → Holds (with_measure m job) t
unfolding base_count words words_in part
any-measure m job t h =
    record {
      long = h.long;
      ratios = h.ratios;
      em = h.em;
      rows = other-rows m job t.rows (words (with_measure m job)) (subst (λ es. All (HasRows job t.rows) (each (words_in job) es)) (sym (door.same-elements m job)) h.rows);
    }
