-- The account of a job in lists: the answer, and the lists after it. The checks and the refusals are those of the setting.
use Rattle.std.proofs.Math.Path.{◌≡◌, sym, ap}
use Rattle.std.specs.Prelude.{refl, List, [], ◌∷◌, ◌++◌, ℕ, ◌*◌, ◌/◌, ◌≤◌, min, take, drop}
use Rattle.std.proofs.Common.{◌∙◌, arith, length-take, length-append}
use Rattle.std.proofs.Math.Option.{Option, none, some}
use Rattle.std.proofs.Math.ListN.{length}
use Rattle.std.proofs.lemmas.List.Edits.{sets}
use Rattle.std.proofs.Math.Seq.{take-append_seam}
use Rattle.refusal.specs.declared.Refusal.{Refusal}
use Rattle.door.specs.Job.{Job, base_count}
use Rattle.door.specs.Refusals.{own_faults}
use Rattle.door.specs.Verdict.{append_none}
use Rattle.door.specs.Passed.{passed}
use Rattle.job.specs.declared.Answer.{Answer}
use Rattle.job.specs.declared.Answer.TheVariants.{Set, Refused}
use Rattle.job.specs.Line.{ends}
use Rattle.job.specs.Refusals.{lines_faults, faults, fault}
use Rattle.job.specs.Laws.{head-none}
use Rattle.job.specs.Promise.{Chain, Filled}
use Rattle.job.proofs.Filled.{chain-few}
use Rattle.job.proofs.Declined.{filled}
use Rattle.filling.specs.Lines.{extents_of, length-extents}
use Rattle.join.specs.Join.{sound}
use Rattle.cells.specs.Rows.{Rows}
use Rattle.engine.specs.Fault as fault
use Rattle.engine.specs.Filled.{Full, Stopped, no-fault, front-is}
use Rattle.job_account.specs.First.{first-none}
use Rattle.job_account.specs.Table.{first, rows_by, counts_by}
use Rattle.job_account.specs.Lines.{accounts, counts, extents, LinesTold}
use Rattle.job_account.specs.Walk.{Chained, LinesReady}
use Rattle.job_account.specs.Join as join

pub record Telling : Type 0 where
  pub answer : Answer
  pub rows : List ℕ
  pub told : List ℕ
  pub extents : List ℕ

-- for how many base characters the lists have room: a piece takes six numbers, a line one and one, and each has a base character of its own
abbrev pub room : List ℕ → List ℕ → List ℕ → ℕ
room rows told wide = min (length rows / 6) (min (length told) (length wide))

pub room-long : (rows told wide : List ℕ) (n : ℕ) → n ≤ room rows told wide → (6 * n ≤ length rows) × (n ≤ length told) × (n ≤ length wide)
room-long rows told wide n h = many (length rows) (length told) (length wide) h
  where
    many : (a b c : ℕ) → n ≤ min (a / 6) (min b c) → (6 * n ≤ a) × (n ≤ b) × (n ≤ c)
    many a b c h = (omega arith, omega arith, omega arith)

-- "None of them is altered by a refusal"; on success entries past those used stay as they were
unfoldable pub telling_by : Job → List ℕ → List ℕ → List ℕ → Option Refusal → Telling
unfolding ends accounts counts extents
telling_by job rows told wide (some r) = record { answer = Refused r; rows = rows; told = told; extents = wide }
telling_by job rows told wide none =
    record { answer = Set (length (ends job)); rows = sets rows 0 (accounts job); told = sets told 0 (counts job); extents = sets wide 0 (extents job) }

-- "a result list too short" is number 12 here too, in its turn; positions are not asked for, so those lists are as long as can be
unfoldable pub telling : Job → List ℕ → List ℕ → List ℕ → Telling
unfolding telling_by fault
telling job rows told wide = telling_by job rows told wide (fault job 1024 2048 2048 (room rows told wide))

-- lines of the job are lines of its table
chained : (job : Job) (s : ℕ) (es : List ℕ) (d : ℕ) → Chain job s es d → Chained (base_count job) s es
chained job s [] d c = tt
chained job s (e ∷ es) d c = let a = c.0.at in (a.ahead, a.within, chained job e es d c.1)

module _ (job : Job) (rows told wide : List ℕ) (m : ℕ) (is : m ≡ room rows told wide) where
  -- the first refusal of all
  pub refused : {was wasFar : List ℕ} {t : Rows} {found far : List ℕ} {q : Refusal} → Stopped job 1024 2048 2048 m was wasFar t found far q →
      ◌≡◌ {A = Telling} (record { answer = Refused q; rows = rows; told = told; extents = wide }) (telling job rows told wide)
  unfolding telling telling_by
  refused s = rw (← is, s.first)

  -- a table that holds the job, and its n lines
  module _ (was wasFar : List ℕ) (t : Rows) (found far : List ℕ) (n : ℕ) (full : Full job 1024 2048 2048 m was wasFar t found far n) where
    all : Filled job (ends job)
    all = filled job full.passed full.none

    few : n ≤ base_count job
    few = omega (arith, full.many, chain-few job 0 (base_count job) (ends job) all)

    -- the lists have room
    long : (6 * base_count job ≤ length rows) × (base_count job ≤ length told) × (base_count job ≤ length wide)
    long = room-long rows told wide (base_count job) (omega (arith, is, (fault.long job 1024 2048 2048 m full.own).1))

    pub ready : LinesReady t n found rows told
    ready =
        record {
          m = base_count job;
          sound = sound job full.passed t full.holds;
          held = omega (arith, full.many, ap length (front-is full), length-take n found);
          few = omega (arith, few, full.passed.few_base);
          lines = rw (front-is full) (chained job 0 (ends job) (base_count job) all);
          room = long.0;
          room_told = omega (arith, few, long.1);
        }

    -- the extents that the filling found
    abbrev lengths : List ℕ
    lengths = extents_of t 0 (ends job)

    many-lengths : n ≡ length (extents_of t 0 (ends job))
    many-lengths = full.many ∙ sym (length-extents t 0 (ends job))

    pub room-extents : (n ≤ 1024) × (n ≤ length far) × (n ≤ length wide)
    room-extents = (
      omega (arith, few, full.passed.few_base),
      omega (arith, many-lengths, ap length full.told, length-append lengths (drop (length lengths) wasFar)),
      omega (arith, few, long.2),
    )

    front : take n far ≡ extents_of t 0 (ends job)
    front = rw (many-lengths, full.told) (take-append_seam lengths (drop (length lengths) wasFar))

    -- all is told as the job's meaning has it
    module _ (rows2 told2 wide2 : List ℕ)
        (lines : (rows2 ≡ sets rows 0 (rows_by t first 0 (take n found))) × (told2 ≡ sets told 0 (counts_by t first 0 (take n found))))
        (extent : wide2 ≡ sets wide 0 (take n far)) where
      pub lines-told : LinesTold job rows told wide rows2 told2 wide2
      unfolding accounts counts extents
      lines-told =
          record {
            rows =
                lines.0
                ∙ ap (sets rows 0) (ap (rows_by t first 0) (front-is full)
                ∙ join.rows_join job full.passed t full.holds first 0 (ends job) (base_count job) (first-none job full.passed) all);
            counts = lines.1 ∙ ap (sets told 0) (ap (counts_by t first 0) (front-is full) ∙ join.counts-join job full.passed t full.holds first 0 (ends job) (base_count job) all);
            extents = extent ∙ ap (sets wide 0) (front ∙ join.extents-join job full.passed t full.holds 0 (ends job) (base_count job) all);
          }

      pub tells : ◌≡◌ {A = Telling} (record { answer = Set n; rows = rows2; told = told2; extents = wide2 }) (telling job rows told wide)
      unfolding telling telling_by
      tells = rw (← is, no-fault full, full.many, lines-told.rows, lines-told.counts, lines-told.extents)

-- a job that is accepted has no more lines than base characters
module _ (job : Job) (rows told wide : List ℕ) {k : ℕ} (set : (telling job rows told wide).answer ≡ Set k) where
  abbrev given : Option Refusal
  given = fault job 1024 2048 2048 (room rows told wide)

  abbrev own : List Refusal
  own = own_faults job 1024 2048 2048 (room rows told wide)

  clear : (given ≡ none) × (k ≡ length (ends job))
  unfolding telling telling_by
  clear = go given set
    where
      go : (f : Option Refusal) → (telling_by job rows told wide f).answer ≡ Set k → (f ≡ none) × (k ≡ length (ends job))
      go none e = let h : length (ends job) ≡ k = cc in (refl, sym h)
      go (some q) e = absurd (let z : ◌≡◌ {A = ℕ} 0 1 = cc in omega arith)

  no-faults : (own ≡ []) × (lines_faults job ≡ [])
  unfolding fault faults
  no-faults = append_none own (lines_faults job) (head-none (own ++ lines_faults job) clear.0)

  pub few-lines : k ≤ 1024
  few-lines =
      let door = passed job 1024 2048 2048 (room rows told wide) no-faults.0 in
      omega (arith, clear.1, chain-few job 0 (base_count job) (ends job) (filled job door no-faults.1), door.few_base)
