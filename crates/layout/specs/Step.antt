-- Elements in turn: where the walk over them stands, and what the step of one leaves.
use Rattle.std.specs.Prelude.{◌≡◌, ◌||◌, ◌⊎◌, List, ℕ, ◌+◌, ◌≤◌, ◌<◌, ltb, length, get_or, Result, Ok}
use Rattle.std.proofs.Common.{arith}
use Rattle.basics.specs.Lists.{All}
use Rattle.refusal.specs.declared.Refusal.{Refusal}
use Rattle.spread.specs.Ratio.{Housed}
use Rattle.cells.specs.declared.Cell.{Cell}
use Rattle.cells.specs.Rows.{row_in}
use Rattle.door.specs.declared.Piece.{Piece}
use Rattle.door.specs.declared.Taken.{Taken}
use Rattle.door.specs.declared.Sizes.{Sizes}
use Rattle.door.specs.Job.{Job, base_count, element}
use Rattle.door.specs.Refusals.{run_out}
use Rattle.door.specs.Values.{sizes_of}
use Rattle.door.specs.Whole.{element-within}
use Rattle.door.specs.Walk.{Stands, element_step}
use Rattle.job.specs.Line.{words_in}
use Rattle.join.specs.Rows.{HasRows}

-- where the walk stands: there is room for the rows
pub record Standing (job : Job) (k : ℕ) (at : Taken) (t : List Cell) : Type 0 where
  pub stands : Stands job k at
  pub house : Housed job.ratios
  pub room : base_count job ≤ length t
  pub ruby : get_or job.kind k 0 ≡ 80 → get_or job.left_kind k 0 ≡ 78 → ⊥

-- the rows of an element's words are written, and no other
pub record Laid (job : Job) (x : Piece) (was t : List Cell) : Type 0 where
  pub long : length t ≡ length was
  pub rows : All (HasRows job t) (words_in job x)
  pub other : (i : ℕ) → (i < x.base) ⊎ (x.base + x.bases ≤ i) → row_in t i ≡ row_in was i

-- one element: the walk's own step, and where it goes on the element's rows
pub record Stepped (job : Job) (k : ℕ) (at : Taken) (was t : List Cell) (s : Result Piece Refusal) : Type 0 where
  pub long : length t ≡ length was
  pub step : s ≡ element_step job k at
  pub laid : (p : Piece) → s ≡ Ok p → Laid job (element job k at) was t

-- What each way of an element asks of where the walk stands.

module _ {job : Job} {k : ℕ} {at : Taken} {t : List Cell} (h : Standing job k at t) where
  pub few : k < 1024
  few = omega (arith, h.stands.index, h.stands.clean.few_elements)

  pub few_left : at.left ≤ 2048
  few_left = omega (arith, h.stands.within.left, h.stands.clean.few_left)

  pub there : (k < length job.kind) × (k < length job.element_base) × (k < length job.element_ruby) × (k < length job.left_kind) × (k < length job.element_left)
  there =
      let i = h.stands.index in
      let e = element-within job in
      (omega (arith, i, e.0), omega (arith, i, e.1), omega (arith, i, e.2), omega (arith, i, e.3), omega (arith, i, e.4))

  pub few_runs_lem : (at.run ≤ 1024) × (at.leftrun ≤ 1024)
  few_runs_lem =
      let w = h.stands.within in
      (omega (arith, w.runs, w.base, h.stands.clean.few), omega (arith, w.left_runs, w.base, h.stands.clean.few))

-- whether a piece's characters run out, by the job's counts
pub out-is : (job : Job) (p : Piece) {n : Sizes} → n ≡ sizes_of job →
    (ltb n.bases (p.base + p.bases) || (ltb n.rubies (p.ruby + p.rubies) || ltb n.lefts (p.left + p.lefts))) ≡ run_out job p
out-is job p e = rw e
