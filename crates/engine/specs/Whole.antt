-- The answer and the lists by what was found: the first refusal of all, or the lines that are written.
use Rattle.std.specs.Prelude.{◌≡◌, List, ℕ, ◌≤◌, length, take}
use Rattle.std.proofs.Common.{sym, ap, arith}
use Rattle.std.proofs.Math.Path.{subst}
use Rattle.std.proofs.Math.Nat.{sub-zero}
use Rattle.refusal.specs.declared.Refusal.{Refusal}
use Rattle.cells.specs.Rows.{Rows}
use Rattle.door.specs.Job.{Job, base_count, ruby_count, left_count}
use Rattle.job.specs.declared.Answer.TheVariants.{Set, Refused}
use Rattle.job.specs.Outcome.{Outcome, after, outcome}
use Rattle.line.specs.declared.Side.TheVariants.{Right, Left}
use Rattle.positions.specs.Positions as rows
use Rattle.positions.specs.Ready.{LinesReady}
use Rattle.posjoin.specs.Piece.{sheet_of}
use Rattle.posjoin.specs.Lines as written
use Rattle.engine.specs.Fault.{long}
use Rattle.engine.specs.Filled.{Full, Stopped, no-fault, front-is}

-- the positions of lines that end at `es`, put into lists
abbrev pub Put : Job → Rows → List ℕ → List ℕ → List ℕ → List ℕ → List ℕ → List ℕ → List ℕ → Type 0
Put job t es base ruby left b r g =
    let rs = sheet_of job t in
    (b ≡ rows.lines_over (rows.base_of rs) es base) × (r ≡ rows.lines_over (rows.ruby_of rs) es ruby) × (g ≡ rows.lines_over (rows.left_of rs) es left)

module _ (job : Job) (base ruby left lines : List ℕ) where
  pub refused : {was wasFar : List ℕ} {t : Rows} {found far : List ℕ} {q : Refusal} → Stopped job (length base) (length ruby) (length left) (length lines) was wasFar t found far q →
      ◌≡◌ {A = Outcome} (record { answer = Refused q; base = base; ruby = ruby; left = left; lines = lines }) (outcome job base ruby left lines)
  unfolding outcome after
  refused s = rw s.first

  module _ (was wasFar : List ℕ) (t : Rows) (found far : List ℕ) (n : ℕ) (full : Full job (length base) (length ruby) (length left) (length lines) was wasFar t found far n) where
    -- no result list is too short
    room_for : (base_count job ≤ length base) × (base_count job ≤ length lines) × (ruby_count job ≤ length ruby) × (left_count job ≤ length left)
    room_for = long job (length base) (length ruby) (length left) (length lines) full.own

    -- the lines' ends, as they are lent
    front : rows.lent found 0 n ≡ take n found
    front = ap (λ z. take z found) (sub-zero n)

    pub ready : let es = rows.lent found 0 n in LinesReady (sheet_of job t) (length es) es base ruby left
    ready =
        subst (λ es. LinesReady (sheet_of job t) (length es) es base ruby left) (sym front)
        (written.front-ready job full.passed t full.holds n found (front-is full) full.many full.none base ruby left room_for.0 room_for.2 room_for.3)

    pub room : (n ≤ 1024) × (n ≤ length found) × (n ≤ length lines)
    room =
        let few = written.few-lines job full.passed t full.holds n found (front-is full) full.many full.none in
        (omega (arith, few, full.passed.few_base), written.found-long job full.passed t full.holds n found (front-is full) full.many full.none, omega (arith, few, room_for.1))

    -- the lines are written
    pub sets : (b r g l : List ℕ) →
        Put job t (rows.lent found 0 n) base ruby left b r g →
        l ≡ rows.over (take n found) lines →
        ◌≡◌ {A = Outcome} (record { answer = Set n; base = b; ruby = r; left = g; lines = l }) (outcome job base ruby left lines)
    unfolding outcome after
    sets b r g l put v =
        let w = subst (λ es. Put job t es base ruby left b r g) front put in
        let p = written.base-written job full.passed t full.holds n found (front-is full) full.many full.none base w.0 in
        let q = written.reading-written job full.passed t full.holds n found (front-is full) full.many full.none Right ruby w.1 in
        let u = written.reading-written job full.passed t full.holds n found (front-is full) full.many full.none Left left w.2 in
        rw (p, q, u, written.ends-written job full.passed t full.holds n found (front-is full) full.many full.none lines v, full.many, no-fault full)
