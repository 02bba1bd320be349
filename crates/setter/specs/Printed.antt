-- A job that was filled is told: a refusal by its text; its lines by the positions that are put into the result lists, and by the text that is printed of these.
use Rattle.std.specs.Prelude.{◌≡◌, refl, List, ℕ, ◌≤◌, length, take, drop}
use Rattle.std.proofs.Common.{sym, ap, subst, arith, length-append}
use Rattle.text.specs.Print.{Wrote}
use Rattle.refusal.specs.declared.Refusal.{Refusal}
use Rattle.line.specs.declared.Side.TheVariants.{Right, Left}
use Rattle.cells.specs.Rows.{Rows}
use Rattle.door.specs.Job.{Job, base_count, ruby_count, left_count}
use Rattle.job.specs.declared.Answer.TheVariants.{Set}
use Rattle.job.specs.Line.{ends}
use Rattle.job.specs.Outcome.{Outcome, outcome}
use Rattle.job.proofs.Demands.{lengths-kept}
use Rattle.filling.specs.Lines.{extents_of, length-extents}
use Rattle.positions.specs.Positions.{lent, over}
use Rattle.positions.specs.Ready.{LinesReady}
use Rattle.posjoin.specs.Piece.{sheet_of}
use Rattle.engine.specs.Fault.{long}
use Rattle.engine.specs.Filled.{Full, Stopped, front-is}
use Rattle.engine.specs.Whole as whole
use Rattle.result.specs.Text.{refusal_text}
use Rattle.result.specs.ByRows.{rows_text}
use Rattle.result.specs.Lines.{TextReady}
use Rattle.result.specs.Short.{longest}
use Rattle.result.specs.Set.{accepted}
use Rattle.result.specs.Accepted.{rows_text_lem, text-ready}
use Rattle.setter.specs.Answer.{lists, ListsLong, Told}
use Rattle.setter.specs.Tell as tell

module _ {job : Job} {base ruby left lines was wasFar : List ℕ} {t : Rows} {found far : List ℕ} (most : ListsLong (lists base ruby left lines)) where
  pub told-refused : {q : Refusal} → Stopped job 1024 2048 2048 1024 was wasFar t found far q → {out now : List ℕ} {r : ℕ} → Wrote out 0 (refusal_text q) r now →
      Told job (lists base ruby left lines) out r (lists base ruby left lines) now
  told-refused {q} s =
      let here : Stopped job (length base) (length ruby) (length left) (length lines) was wasFar t found far q = rw (most.bases, most.rubies, most.lefts, most.ends) s in
      tell.told-refused (whole.refused job base ruby left lines here) refl

  module _ {n : ℕ} (filled : Full job 1024 2048 2048 1024 was wasFar t found far n) where
    full : Full job (length base) (length ruby) (length left) (length lines) was wasFar t found far n
    full = rw (most.bases, most.rubies, most.lefts, most.ends) filled

    -- there is room for the positions, and for the ends of the lines
    pub lines-ready : let es = lent found 0 n in LinesReady (sheet_of job t) (length es) es base ruby left
    lines-ready = whole.ready job base ruby left lines was wasFar t found far n full

    pub ends-room : (n ≤ 1024) × (n ≤ length found) × (n ≤ length lines)
    ends-room = whole.room job base ruby left lines was wasFar t found far n full

    -- once they are put, the lists are the outcome's
    module _ {b r g l : List ℕ}
        (put : whole.Put job t (lent found 0 n) base ruby left b r g)
        (ended : l ≡ over (take n found) lines) where
      abbrev o : Outcome
      o = record { answer = Set n; base = b; ruby = r; left = g; lines = l }

      set : o ≡ outcome job base ruby left lines
      set = whole.sets job base ruby left lines was wasFar t found far n full b r g l put ended

      far-long : n ≤ length far
      far-long =
          let xs = extents_of t 0 (ends job) in
          omega (arith, full.many, ap length full.told, length-append xs (drop (length xs) wasFar), length-extents t 0 (ends job))

      room : (base_count job ≤ length b) × (ruby_count job ≤ length r) × (left_count job ≤ length g)
      room =
          let kept = lengths-kept job base ruby left lines (accepted job base ruby left lines (ap (λ (x : Outcome). x.answer) (sym set))) in
          let few = long job (length base) (length ruby) (length left) (length lines) full.own in (
            omega (arith, ap (λ (x : Outcome). length x.base) set, kept.0, few.0),
            omega (arith, ap (λ (x : Outcome). length x.ruby) set, kept.1 Right, few.2),
            omega (arith, ap (λ (x : Outcome). length x.left) set, kept.1 Left, few.3),
          )

      -- so they can be printed, and what is printed is the job's text
      pub ready : {out : List ℕ} → longest ≤ length out → TextReady t n found far b r g out
      ready {out} h =
          text-ready job full.passed t full.holds b r g n found far wasFar (front-is full) full.many full.none full.told out far-long room.0 room.1 room.2 h

      pub told-set : {out now : List ℕ} {k : ℕ} → Wrote out 0 (rows_text t n found far b r g) k now → Told job (lists base ruby left lines) out k (lists b r g l) now
      told-set {out} {now} {k} w =
          tell.told-set set refl
          (subst (λ xs. Wrote out 0 xs k now) (rows_text_lem job full.passed t full.holds b r g n found far wasFar (front-is full) full.many full.none full.told) w)
