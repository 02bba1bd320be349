-- What the door, the layout and the filling found, one after the other: the first refusal of all, or a table that holds the job and the ends of its lines.
use Rattle.std.specs.Prelude.{◌≡◌, refl, Bool, true, false, cond, List, [], ◌∷◌, ◌++◌, ℕ, ◌*◌, ◌≤◌, eqb, length, take, drop, Result, Ok, Err, OnOk, IsErrAnd, ⊤}
use Rattle.std.proofs.Common.{sym, ap, ◌∙◌, subst, append_assoc, arith}
use Rattle.std.proofs.Math.Option.{some, none}
use Rattle.std.proofs.Math.Seq.{take-append_seam}
use Rattle.basics.specs.Lists.{last_or}
use Rattle.refusal.specs.declared.Refusal.{Refusal}
use Rattle.refusal.specs.declared.Refusal.TheVariants.{NoBreak}
use Rattle.door.specs.declared.Sizes.{Sizes}
use Rattle.door.specs.Job.{Job, base_count, ruby_count, left_count, element_count}
use Rattle.door.specs.Refusals.{job_faults, char_faults, own_faults}
use Rattle.door.specs.Verdict.{unless_refused, verdict, told_refused, told_passed, passed_none, append_none, front-refused, front-passed}
use Rattle.door.specs.Passed.{Passed, limits, base-good, ruby-good, left-good}
use Rattle.door.specs.Loop.{part_faults}
use Rattle.door.specs.Values.{sizes_of}
use Rattle.door.specs.Whole.{ahead}
use Rattle.job.specs.Line.{ends}
use Rattle.job.specs.Refusals.{lines_faults, faults, fault}
use Rattle.join.specs.Rows.{table_of, Holds}
use Rattle.join.specs.Join.{sound, lines_join, faults-join}
use Rattle.layout.specs.Walk.{Ready}
use Rattle.cells.specs.declared.Cell.{Cell}
use Rattle.cells.specs.Rows.{Rows}
use Rattle.cells.specs.Cells.{lines_of}
use Rattle.cells.specs.Sound.{Sound}
use Rattle.filling.specs.Lines.{over, told_of, extents_of}
use Rattle.engine.specs.Fault as fault

-- tables with room for the rows and the lines of a job that is not too large
pub record Room (job : Job) (t : List Cell) (found far : List ℕ) : Type 0 where
  pub rows : base_count job ≤ 1024 → base_count job ≤ length t
  pub ends : base_count job ≤ 1024 → base_count job ≤ length found
  pub extents : base_count job ≤ 1024 → base_count job ≤ length far

-- The lines that are found: those of the job, up to where they are stuck, and none where its characters or elements are refused.
abbrev unless : List Refusal → List ℕ → List ℕ
unless [] es = es
unless (q ∷ qs) es = []

abbrev pub found_of : Job → ℕ → ℕ → ℕ → ℕ → List ℕ
found_of job base ruby left lines = unless (own_faults job base ruby left lines) (ends job)

-- the job has the refusal q, and the lists have the lines that were found before it; all other entries are as they were. Where neither characters nor elements are refused the table is laid.
pub record Stopped (job : Job) (base ruby left lines : ℕ) (was wasFar : List ℕ) (t : Rows) (found far : List ℕ) (q : Refusal) : Type 0 where
  pub first : fault job base ruby left lines ≡ some q
  pub is : found ≡ over (found_of job base ruby left lines) was
  pub told : far ≡ over (extents_of t 0 (found_of job base ruby left lines)) wasFar
  pub holds : own_faults job base ruby left lines ≡ [] → Holds job t

-- the job has no fault, its table is laid, and the lists have its k lines with their extents; all other entries are as they were
pub record Full (job : Job) (base ruby left lines : ℕ) (was wasFar : List ℕ) (t : Rows) (found far : List ℕ) (k : ℕ) : Type 0 where
  pub own : own_faults job base ruby left lines ≡ []
  pub passed : Passed job
  pub holds : Holds job t
  pub none : lines_faults job ≡ []
  pub many : k ≡ length (ends job)
  pub is : found ≡ over (ends job) was
  pub told : far ≡ over (extents_of t 0 (ends job)) wasFar

abbrev pub Fills : Job → ℕ → ℕ → ℕ → ℕ → List ℕ → List ℕ → Rows → List ℕ → List ℕ → Result ℕ Refusal → Type 0
Fills job base ruby left lines was wasFar t found far (Err q) = Stopped job base ruby left lines was wasFar t found far q
Fills job base ruby left lines was wasFar t found far (Ok k) = Full job base ruby left lines was wasFar t found far k

-- a refusal that is passed on
pub stops : {job : Job} {base ruby left lines : ℕ} {was wasFar : List ℕ} {t : Rows} {found far : List ℕ} {q : Refusal} (r : Result ℕ Refusal) → IsErrAnd r (λ e. e ≡ q) →
    Stopped job base ruby left lines was wasFar t found far q → Fills job base ruby left lines was wasFar t found far r
stops (Ok k) h s = absurd h
stops {job} {base} {ruby} {left} {lines} {was} {wasFar} {t} {found} {far} (Err e) h s = subst (Stopped job base ruby left lines was wasFar t found far) (sym h) s

-- a job that is filled has no fault
pub no-fault : {job : Job} {base ruby left lines : ℕ} {was wasFar : List ℕ} {t : Rows} {found far : List ℕ} {k : ℕ} → Full job base ruby left lines was wasFar t found far k → fault job base ruby left lines ≡ none
unfolding fault faults
no-fault f = rw (f.own, f.none)

-- the first k entries are the job's lines
pub front-is : {job : Job} {base ruby left lines : ℕ} {was wasFar : List ℕ} {t : Rows} {found far : List ℕ} {k : ℕ} → Full job base ruby left lines was wasFar t found far k → take k found ≡ ends job
front-is {job} {was = was} f = rw (f.many, f.is) (take-append_seam (ends job) (drop (length (ends job)) was))

some-refused : (qs : List Refusal) {q : Refusal} → verdict qs ≡ Err q → qs ≡ [] → ⊥
some-refused [] e empty = let z : ◌≡◌ {A = ℕ} 0 1 = cc in omega arith
some-refused (x ∷ qs) e empty = let z : ◌≡◌ {A = ℕ} 0 1 = cc in omega arith

none-refused : (qs : List Refusal) (es : List ℕ) {q : Refusal} → verdict qs ≡ Err q → unless qs es ≡ []
none-refused [] es e = absurd (let z : ◌≡◌ {A = ℕ} 0 1 = cc in omega arith)
none-refused (x ∷ qs) es e = refl

-- what is judged before any element, where the result lists have these lengths
abbrev front : Job → ℕ → ℕ → ℕ → ℕ → List Refusal
front job base ruby left lines = ahead job (record { base = base; ruby = ruby; left = left; lines = lines })

-- How far a job has come, by counts that were worked out: its settings and characters pass; its elements do, and the table t has their rows.
pub record Judged (job : Job) (base ruby left lines : ℕ) (sizes : Sizes) : Type 0 where
  pub counted : sizes ≡ sizes_of job
  pub passes : front job base ruby left lines ≡ []

pub record Laid (t : List Cell) (job : Job) (base ruby left lines : ℕ) (sizes : Sizes) : Type 0 where
  pub judged : Judged job base ruby left lines sizes
  pub passes : verdict (part_faults job) ≡ Ok tt
  pub rows : Holds job (table_of job t)

-- what the filling's answer says of it
is-filled : (b : Bool) (k z n : ℕ) → Ok n ≡ cond {A = Result ℕ Refusal} b (Ok k) (Err (NoBreak z)) → (n ≡ k) × (b ≡ true)
is-filled true k z n e = (cc, refl)
is-filled false k z n e = absurd (let y : ◌≡◌ {A = ℕ} 0 1 = cc in omega arith)

is_stuck : (b : Bool) (k z : ℕ) (q : Refusal) → Err q ≡ cond {A = Result ℕ Refusal} b (Ok k) (Err (NoBreak z)) → (q ≡ NoBreak z) × (b ≡ false)
is_stuck true k z q e = absurd (let y : ◌≡◌ {A = ℕ} 0 1 = cc in omega arith)
is_stuck false k z q e = (cc, refl)

own-groups : (job : Job) (base ruby left lines : ℕ) → own_faults job base ruby left lines ≡ (job_faults job base ruby left lines ++ char_faults job) ++ part_faults job
unfolding own_faults
own-groups job base ruby left lines = sym (append_assoc (job_faults job base ruby left lines) (char_faults job) (part_faults job))

module _ {job : Job} {base ruby left lines : ℕ} where
  -- a refusal before any line is looked for
  by-door : (was wasFar : List ℕ) (t : Rows) {q : Refusal} → verdict (own_faults job base ruby left lines) ≡ Err q → Stopped job base ruby left lines was wasFar t was wasFar q
  by-door was wasFar t e =
      let empty = none-refused (own_faults job base ruby left lines) (ends job) e in
      record {
        first = fault.by-door job base ruby left lines e;
        is = ap (λ es. over es was) (sym empty);
        told = ap (λ es. over (extents_of t 0 es) wasFar) (sym empty);
        holds = λ own. absurd (some-refused (own_faults job base ruby left lines) e own);
      }

  -- what `check` told: a refusal, or that it goes on
  module _ {c : Result Sizes Refusal} (told : c ≡ unless_refused (front job base ruby left lines) (sizes_of job)) where
    pub by-check : (was wasFar : List ℕ) (t : Rows) {q : Refusal} → c ≡ Err q → Stopped job base ruby left lines was wasFar t was wasFar q
    by-check was wasFar t e =
        by-door was wasFar t (ap verdict (own-groups job base ruby left lines) ∙ front-refused (front job base ruby left lines) (part_faults job) (told_refused (front job base ruby left lines) (sizes_of job) (sym told ∙ e)))

    pub judged : {sizes : Sizes} → c ≡ Ok sizes → Judged job base ruby left lines sizes
    judged e = let p = told_passed (front job base ruby left lines) (sizes_of job) (sym told ∙ e) in record { counted = p.1; passes = p.0 }

  module _ {sizes : Sizes} where
    module _ (judged : Judged job base ruby left lines sizes) where
      -- what `layout` asks for
      pub ready : {t : List Cell} {found far : List ℕ} → Room job t found far → Ready job t
      unfolding base_count ruby_count left_count element_count
      ready room =
          let first = append_none (job_faults job base ruby left lines) (char_faults job) judged.passes in
          let l = limits job base ruby left lines first.0 in
          record {
            house = l.house;
            few = l.bases;
            few_ruby = l.rubies;
            few_left = l.lefts;
            few_elements = l.elements;
            some = λ i k. (base-good job first.1 i k).some;
            narrow = λ i k. (base-good job first.1 i k).narrow;
            narrow_ruby = λ i k. (ruby-good job first.1 i k).narrow;
            narrow_left = λ i k. (left-good job first.1 i k).narrow;
            room = room.rows l.bases;
          }

      -- and what it told
      own-told : {s : Result ⊤ Refusal} → verdict (part_faults job) ≡ s → verdict (own_faults job base ruby left lines) ≡ s
      own-told e = ap verdict (own-groups job base ruby left lines) ∙ front-passed (front job base ruby left lines) (part_faults job) (ap verdict judged.passes) ∙ e

      module _ (t : List Cell) {s : Result ⊤ Refusal} (told : (s ≡ verdict (part_faults job)) × OnOk s (Holds job (table_of job t))) where
        pub by-elements : (was wasFar : List ℕ) {q : Refusal} → s ≡ Err q → Stopped job base ruby left lines was wasFar (table_of job t) was wasFar q
        by-elements was wasFar e = by-door was wasFar (table_of job t) (own-told (sym told.0 ∙ e))

        pub laid : s ≡ Ok tt → Laid t job base ruby left lines sizes
        laid e = record { judged = judged; passes = sym told.0 ∙ e; rows = subst (λ r. OnOk r (Holds job (table_of job t))) e told.1 }

    module _ {rows : List Cell} (laid : Laid rows job base ruby left lines sizes) where
      abbrev t : Rows
      t = table_of job rows

      own-passes : verdict (own_faults job base ruby left lines) ≡ Ok tt
      own-passes = own-told laid.judged laid.passes

      pub passed : Passed job
      passed = fault.goes_on job base ruby left lines own-passes

      table : Holds job t
      table = laid.rows

      bases : sizes.bases ≡ base_count job
      bases = ap (λ (n : Sizes). n.bases) laid.judged.counted

      -- what `fill_lines` asks for
      pub fillable : {first : List Cell} {found far : List ℕ} → Room job first found far → (Sound t sizes.bases) × (sizes.bases ≤ length found) × (sizes.bases ≤ length far)
      fillable {found = found} {far = far} room =
          subst (λ n. (Sound t n) × (n ≤ length found) × (n ≤ length far)) (sym bases)
          (sound job passed t table, room.ends passed.few_base, room.extents passed.few_base)

      -- and what it told
      module _ (was found wasFar far : List ℕ) where
        go : (a : Result ℕ Refusal) → a ≡ told_of (base_count job) (ends job) → found ≡ over (ends job) was → far ≡ over (extents_of t 0 (ends job)) wasFar →
            Fills job base ruby left lines was wasFar t found far a
        go (Err q) e f g =
            let b = is_stuck (eqb (last_or 0 (ends job)) (base_count job)) (length (ends job)) (last_or 0 (ends job)) q e in
            let own = passed_none (own_faults job base ruby left lines) own-passes in
            record {
              first = fault.by_line job base ruby left lines own-passes (faults-join job passed t table ∙ rw (b.1, b.0));
              is = f ∙ rw own;
              told = g ∙ rw own;
              holds = λ _. table;
            }
        go (Ok k) e f g =
            let b = is-filled (eqb (last_or 0 (ends job)) (base_count job)) (length (ends job)) (last_or 0 (ends job)) k e in
            record {
              own = passed_none (own_faults job base ruby left lines) own-passes;
              passed = passed;
              holds = table;
              none = faults-join job passed t table ∙ rw b.1;
              many = b.0;
              is = f;
              told = g;
            }

        abbrev pub Told : Result ℕ Refusal → ℕ → Type 0
        Told a n =
            let es = lines_of (2 * job.measure) t n in
            (a ≡ told_of n es) × (found ≡ over es was) × (far ≡ over (extents_of t 0 es) wasFar)

        pub fills : {a : Result ℕ Refusal} → Told a sizes.bases → Fills job base ruby left lines was wasFar t found far a
        fills {a} told =
            let w : Told a (base_count job) = subst (Told a) bases told in
            let e = lines_join job passed t table in
            go a (w.0 ∙ ap (told_of (base_count job)) e) (w.1 ∙ ap (λ es. over es was) e) (w.2 ∙ ap (λ es. over (extents_of t 0 es) wasFar) e)
