-- The text that was written is the job's: the refusal that it was given, with what a declined line needs, or its account.
use Rattle.std.specs.Prelude.{Bool, true, false, cond, List, [], ◌++◌, ◌≡◌, ℕ, ◌+◌, ◌-◌, ◌*◌, ◌≤◌, min, eqb, length, take}
use Rattle.std.proofs.Common.{append-nil, sym, ap, subst, ◌∙◌, arith, eq-eqb, ne_eqb, length-append, length-take, length-drop}
use Rattle.std.proofs.lemmas.List.Edits.{sets}
use Rattle.text.specs.Print.{Wrote}
use Rattle.text.specs.Written.{same-long}
use Rattle.refusal.specs.declared.Refusal.{Refusal}
use Rattle.refusal.specs.Refusal.{number_of, place_of}
use Rattle.sheet.specs.declared.Counts.{Counts}
use Rattle.sheet.specs.Sheet.{Tables}
use Rattle.door.specs.Job.{Job, base_count, element_count}
use Rattle.job.specs.Line.{ends}
use Rattle.job.specs.Promise.{Filled}
use Rattle.job.proofs.Declined.{filled}
use Rattle.cells.specs.Rows.{Rows}
use Rattle.engine.specs.Fault as fault
use Rattle.engine.specs.Filled.{Stopped, Full, no-fault}
use Rattle.result.specs.Text.{refusal_text}
use Rattle.result.specs.Short.{refusal_short}
use Rattle.sheet_job.specs.Tables.{part, tables_job, TablesLong}
use Rattle.shortest.specs.Needed.{needed}
use Rattle.job_account.specs.Table.{first, rows_by, counts_by}
use Rattle.job_account.specs.Lines.{LinesTold}
use Rattle.job_account.specs.Outcome.{Telling, room, room-long}
use Rattle.job_account.specs.Outcome as outcome
use Rattle.account_text.specs.Text.{readings_of, account_text, lists_text, needs_text}
use Rattle.account_text.specs.Lists.{ListsReady}
use Rattle.account_text.specs.Job.{text-is, lists-ready}
use Rattle.account_text.specs.Short.{longest, account-short, declined-short}
use Rattle.account_sheet.specs.Answer.{refused_text, declined_text, telling_text, job_account, Lists, lists, Told}

-- A refusal, as it is written.
module _ (why : Refusal) (needs measure : ℕ) where
  pub other_text : (number_of why ≡ 11 → ⊥) → refused_text why needs measure ≡ refusal_text why
  other_text h = rw (ne_eqb (number_of why) 11 h) (append-nil (refusal_text why))

  pub line_text_lem : number_of why ≡ 11 → refused_text why needs measure ≡ refusal_text why ++ needs_text needs measure
  line_text_lem h = rw (eq-eqb (number_of why) 11 h)

  -- room for all of it is room for each part
  pub needs-fit : {out : List ℕ} → 66 ≤ length out → {at : ℕ} {u : List ℕ} → Wrote out 0 (refusal_text why) at u → at + length (needs_text needs measure) ≤ length u
  needs-fit h w = omega (arith, w.next, same-long w, declined-short why needs measure, length-append (refusal_text why) (needs_text needs measure))

  refused-most : length (refused_text why needs measure) ≤ longest
  refused-most = go (eqb (number_of why) 11)
    where
      go : (b : Bool) → length (refusal_text why ++ cond b (needs_text needs measure) []) ≤ longest
      go true = omega (arith, declined-short why needs measure)
      go false = omega (arith, length-append (refusal_text why) [], refusal_short why)

-- The lists of n lines, as a table and the lines' ends and extents tell them; entries that are not used stay.
pub record Listed (t : Rows) (n : ℕ) (found far : List ℕ) (was now : Lists) : Type 0 where
  pub lines : (now.rows ≡ sets was.rows 0 (rows_by t first 0 (take n found))) × (now.told ≡ sets was.told 0 (counts_by t first 0 (take n found)))
  pub extent : now.wide ≡ sets was.wide 0 (take n far)

-- An account is written from its lists and the table of its elements: their kinds are its first column, their left kinds its fourth.
abbrev pub clear_text : ℕ → ℕ → List ℕ → List ℕ → List ℕ → List ℕ → List ℕ
clear_text n e elem rows told wide = lists_text n e (readings_of (part 0 e elem) (part 3072 (3072 + e) elem) e) rows told wide

pub record ClearReady (n e : ℕ) (elem rows told wide out : List ℕ) : Type 0 where
  pub long : length elem ≡ 5120
  pub few : e ≤ 1024
  pub lists : ListsReady n e (readings_of (part 0 e elem) (part 3072 (3072 + e) elem) e) rows told wide out

-- The job that the tables hold has as many base characters and elements as they count.
length_part : (a e : ℕ) (xs : List ℕ) → e ≤ length xs → length (part a e xs) ≡ e - a
length_part a e xs h = simp (length-take, length-drop) (omega arith)

five : (n a b c d e : ℕ) → a ≡ n → b ≡ n → c ≡ n → d ≡ n → e ≡ n → n ≡ min a (min b (min c (min d e)))
five n a b c d e f g h i j = rw (f, g, h, i, j) (omega arith)

columns : (n : ℕ) (xs : List ℕ) → n ≤ 1024 → length xs ≡ 5120 →
    n ≡ min (length (part 0 n xs)) (min (length (part 1024 (1024 + n) xs)) (min (length (part 2048 (2048 + n) xs)) (min (length (part 3072 (3072 + n) xs)) (length (part 4096 (4096 + n) xs)))))
columns n xs h l =
    five n _ _ _ _ _
    (length_part 0 n xs (omega arith) ∙ omega arith)
    (length_part 1024 (1024 + n) xs (omega arith) ∙ omega arith)
    (length_part 2048 (2048 + n) xs (omega arith) ∙ omega arith)
    (length_part 3072 (3072 + n) xs (omega arith) ∙ omega arith)
    (length_part 4096 (4096 + n) xs (omega arith) ∙ omega arith)

module _ {n : Counts} {t : Tables} (long : TablesLong n t) where
  pub many-bases : n.bases ≡ base_count (tables_job n t)
  unfolding base_count
  many-bases = columns n.bases t.base long.bases long.lent.long_base

  pub many-elements : n.elements ≡ element_count (tables_job n t)
  unfolding element_count
  many-elements = columns n.elements t.elem long.few.elements long.lent.rest.long_elem

-- A job whose lists have the maximum lengths.
module _ (job : Job) (rows told wide : List ℕ) (is : 1024 ≡ room rows told wide) where
  -- what the account leaves, and a text after it
  tells : {o : Telling} → o ≡ outcome.telling job rows told wide → {out xs : List ℕ} {r : ℕ} {now : List ℕ} → job_account job 1024 ≡ xs → length xs ≤ longest → Wrote out 0 xs r now →
      Told job (lists rows told wide) out r (lists o.rows o.told o.extents) now
  tells e {out} {xs} {r} {now} same few wrote =
      record {
        holds = ap (λ (x : Telling). lists x.rows x.told x.extents) e;
        text = subst (λ xs. Wrote out 0 xs r now) (sym same ∙ ap (job_account job) is) wrote;
        short = omega (arith, wrote.next);
      }

  -- it is refused
  module _ {was wasFar : List ℕ} {t : Rows} {found far : List ℕ} {q : Refusal} (stopped : Stopped job 1024 2048 2048 1024 was wasFar t found far q) where
    refused_text_lem : job_account job 1024 ≡ declined_text job q
    unfolding job_account telling_text
    refused_text_lem = rw stopped.first

    declined-most : length (declined_text job q) ≤ longest
    unfolding declined_text
    declined-most = refused-most q (needed job (place_of q)) job.measure

    pub told-refused : {out : List ℕ} {r : ℕ} {now : List ℕ} → Wrote out 0 (declined_text job q) r now → Told job (lists rows told wide) out r (lists rows told wide) now
    told-refused wrote = tells (outcome.refused job rows told wide 1024 is stopped) refused_text_lem declined-most wrote

  -- it is accepted, and its n lines are told
  module _ (was wasFar : List ℕ) (t : Rows) (found far : List ℕ) (n : ℕ) (full : Full job 1024 2048 2048 1024 was wasFar t found far n) (rows2 told2 wide2 : List ℕ)
      (listed : Listed t n found far (lists rows told wide) (lists rows2 told2 wide2)) where
    kept : LinesTold job rows told wide rows2 told2 wide2
    kept = outcome.lines-told job rows told wide 1024 is was wasFar t found far n full rows2 told2 wide2 listed.lines listed.extent

    fill : Filled job (ends job)
    fill = filled job full.passed full.none

    long : (6 * base_count job ≤ length rows) × (base_count job ≤ length told) × (base_count job ≤ length wide)
    long = room-long rows told wide (base_count job) (omega (arith, is, (fault.long job 1024 2048 2048 1024 full.own).1))

    set_is : job_account job 1024 ≡ account_text job
    unfolding job_account telling_text
    set_is = rw (no-fault full)

    set-short : length (account_text job) ≤ longest
    set-short = account-short job full.passed fill

    -- its text, from its lists and its e elements
    module _ (e : ℕ) (many : e ≡ element_count job) where
      pub account-ready : {out : List ℕ} → longest ≤ length out → ListsReady n e (readings_of job.kind job.left_kind e) rows2 told2 wide2 out
      account-ready h =
          rw (kept.rows, kept.counts, kept.extents, full.many, many)
          (lists-ready job full.passed fill rows told wide long.0 long.1 long.2 (omega (arith, set-short)))

      set_text_lem : lists_text n e (readings_of job.kind job.left_kind e) rows2 told2 wide2 ≡ account_text job
      set_text_lem = rw (kept.rows, kept.counts, kept.extents, full.many, many) (text-is job full.passed fill rows told wide long.0 long.1 long.2)

      pub told-set : {out : List ℕ} {r : ℕ} {now : List ℕ} → Wrote out 0 (lists_text n e (readings_of job.kind job.left_kind e) rows2 told2 wide2) r now →
          Told job (lists rows told wide) out r (lists rows2 told2 wide2) now
      told-set {out} {r} {now} wrote =
          tells (outcome.tells job rows told wide 1024 is was wasFar t found far n full rows2 told2 wide2 listed.lines listed.extent) set_is set-short (subst (λ xs. Wrote out 0 xs r now) set_text_lem wrote)
