-- The text from an accepted job's lists is the job's own account: each line's rows stand where the counts say.
use Rattle.std.specs.Prelude.{◌≡◌, take, drop}
use Rattle.std.proofs.Math.Path.{refl, ap, ap₂}
use Rattle.std.proofs.Common.{sym, ◌∙◌, drop-drop}
use mathlib.Core.List.{List, [], ◌∷◌, ◌++◌, append_assoc}
use Prim.Native.Nat.{ℕ, ◌+◌, ◌-◌, ◌*◌, ◌≤◌, zero-le}
use native.Mathlib.Omega.{arith}
use Rattle.std.proofs.Math.ListN.{length, length-append, length-map}
use Rattle.std.proofs.lemmas.List.Edits.{sets}
use Rattle.std.proofs.Math.Seq.{length-sets, take_at, drop-append_seam}
use Rattle.basics.specs.Lists.{All}
use Rattle.door.specs.declared.Piece.{Piece}
use Rattle.door.specs.Job.{Job, base_count, element_count}
use Rattle.door.specs.Passed.{Passed}
use Rattle.job.specs.Line.{pieces, seen, line_of, origins, extent_of, ends, along, alone, base_at, base_in, by_line}
use Rattle.job.proofs.Walk.{length-origins}
use Rattle.job.specs.Words.{GoodPiece}
use Rattle.job.proofs.Pieces.{good-pieces}
use Rattle.job.specs.Promise.{Filled}
use Rattle.job.proofs.Filled.{chain-few}
use Rattle.job.proofs.Placed.{base-counted, base-long}
use Rattle.positions.specs.Lists.{sets_over}
use Rattle.job_account.specs.Rows.{rows_in, length-rows}
use Rattle.job_account.specs.Lines.{accounts, counts_from, counts, extents_from, extents}
use Rattle.account_text.specs.Text.{head_text, rows_text, segment, verdict_text, readings_of, line_text, lines_text, account_text, lists_text}
use Rattle.account_text.specs.Lists.{Rising, ListsReady}
use Rattle.account_text.specs.Readings.{readings-few}

-- how many pieces the lines from s on have
abbrev pub pieces_from : Job → ℕ → List ℕ → ℕ
pieces_from job s [] = 0
pieces_from job s (e ∷ es) = length (line_of job s e) + pieces_from job e es

module _ (job : Job) where
  -- every piece has a base character of its own
  base-many : (p : Piece) (o : ℕ) → GoodPiece job p → length (base_at job p o) ≡ p.bases
  unfolding base_at
  base-many p o g = length-map (alone job p).base (λ y. o + y) ∙ base-counted job p g

  along-few : (ps : List Piece) (xs : List ℕ) → length xs ≡ length ps → All (GoodPiece job) ps → length ps ≤ length (along (base_at job) ps xs)
  along-few [] xs h a = zero-le
  along-few (p ∷ ps) [] h a = absurd (omega arith)
  along-few (p ∷ ps) (x ∷ xs) h a = omega (arith, length-append (base_at job p x) (along (base_at job) ps xs), base-many p x a.0, a.0.some, along-few ps xs (omega arith) a.1)

  pieces-few : Passed job → (s : ℕ) (es : List ℕ) → pieces_from job s es ≤ length (by_line (base_in job) s es)
  unfolding line_of base_in
  pieces-few passed s [] = zero-le
  pieces-few passed s (e ∷ es) =
      omega (
        arith,
        length-append (base_in job s e) (by_line (base_in job) e es),
        length-map (pieces job s e) (seen job),
        along-few (pieces job s e) (origins job s e) (length-origins job s e) (good-pieces job passed s e),
        pieces-few passed e es,
      )

  -- so there are no more of them than base characters
  pub all-few : Passed job → Filled job (ends job) → pieces_from job 0 (ends job) ≤ base_count job
  all-few passed fill = omega (arith, pieces-few passed 0 (ends job), base-long job passed (ends job) fill)

  length-accounts : (s : ℕ) (es : List ℕ) → length (by_line (rows_in job) s es) ≡ 6 * pieces_from job s es
  length-accounts s [] = refl
  length-accounts s (e ∷ es) = omega (arith, length-append (rows_in job s e) (by_line (rows_in job) e es), length-rows job s e, length-accounts e es)

  length-counts : (q s : ℕ) (es : List ℕ) → length (counts_from job q s es) ≡ length es
  length-counts q s [] = refl
  length-counts q s (e ∷ es) = omega (arith, length-counts (q + length (line_of job s e)) e es)

  length-extents : (s : ℕ) (es : List ℕ) → length (extents_from job s es) ≡ length es
  length-extents s [] = refl
  length-extents s (e ∷ es) = omega (arith, length-extents e es)

  rising : (most q s : ℕ) (es : List ℕ) → 6 * (q + pieces_from job s es) ≤ most → q + pieces_from job s es ≤ 4096 → Rising most q (counts_from job q s es)
  rising most q s [] h k = tt
  rising most q s (e ∷ es) h k =
      let n = length (line_of job s e) in
      (omega arith, omega arith, omega arith, rising most (q + n) e es (omega arith) (omega arith))

  -- from row q on the list has the rows of the lines from s on
  lines_same : (rows rest : List ℕ) (q s : ℕ) (es : List ℕ) → drop (6 * q) rows ≡ by_line (rows_in job) s es ++ rest →
      lines_text rows q (counts_from job q s es) (extents_from job s es) ≡ by_line (line_text job) s es
  unfolding lines_text line_text
  lines_same rows rest q s [] h = refl
  lines_same rows rest q s (e ∷ es) h =
      let n = length (line_of job s e) in
      ap₂ (λ xs ys. (head_text (extent_of job s e) ++ rows_text xs) ++ ys)
      (here n (length-rows job s e))
      (lines_same rows rest (q + n) e es (later n (length-rows job s e)))
    where
      this : List ℕ
      this = rows_in job s e

      more : List ℕ
      more = by_line (rows_in job) e es ++ rest

      parts : drop (6 * q) rows ≡ this ++ more
      parts = h ∙ append_assoc this (by_line (rows_in job) e es) rest

      here : (n : ℕ) → length this ≡ 6 * n → segment rows q (q + n) ≡ this
      here n l = ap (take (6 * (q + n - q))) parts ∙ take_at this more (6 * (q + n - q)) (omega arith)

      later : (n : ℕ) → length this ≡ 6 * n → drop (6 * (q + n)) rows ≡ more
      later n l =
          ap (λ (k : ℕ). drop k rows) {x = 6 * (q + n)} {y = 6 * q + length this} (omega arith)
          ∙ sym (drop-drop (length this) (6 * q) rows)
          ∙ ap (drop (length this)) parts
          ∙ drop-append_seam this more

-- the lists after a job is told
module _ (job : Job) (passed : Passed job) (fill : Filled job (ends job)) (rows told wide : List ℕ) (room : 6 * base_count job ≤ length rows) (long : base_count job ≤ length told)
    (longWide : base_count job ≤ length wide) where
  abbrev n : ℕ
  n = length (ends job)

  few : n ≤ base_count job
  few = omega (arith, chain-few job 0 (base_count job) (ends job) fill)

  rows_are : sets rows 0 (accounts job) ≡ accounts job ++ drop (length (accounts job)) rows
  unfolding accounts
  rows_are = sets_over rows (accounts job) (omega (arith, length-accounts job 0 (ends job), all-few job passed fill))

  told_are : take n (sets told 0 (counts job)) ≡ counts job
  unfolding counts
  told_are =
      let same = length-counts job 0 0 (ends job) in
      ap (take n) (sets_over told (counts job) (omega (arith, same, few))) ∙ take_at (counts job) (drop (length (counts job)) told) n (omega (arith, same))

  wide_are : take n (sets wide 0 (extents job)) ≡ extents job
  unfolding extents
  wide_are =
      let same = length-extents job 0 (ends job) in
      ap (take n) (sets_over wide (extents job) (omega (arith, same, few))) ∙ take_at (extents job) (drop (length (extents job)) wide) n (omega (arith, same))

  -- The text from the lists is the account of the job.
  pub text-is : lists_text n (element_count job) (readings_of job.kind job.left_kind (element_count job)) (sets rows 0 (accounts job)) (sets told 0 (counts job)) (sets wide 0 (extents job)) ≡ account_text job
  unfolding lists_text account_text accounts counts extents
  text-is =
      ap (λ xs. verdict_text n (element_count job) (readings_of job.kind job.left_kind (element_count job)) ++ xs)
      (ap₂ (lines_text (sets rows 0 (accounts job)) 0) told_are wide_are
      ∙ lines_same job (sets rows 0 (accounts job)) (drop (length (accounts job)) rows) 0 0 (ends job) rows_are)

  rises : Rising (length (sets rows 0 (accounts job))) 0 (take n (sets told 0 (counts job)))
  unfolding counts
  rises =
      rw (told_are, length-sets rows 0 (accounts job))
      (rising job (length rows) 0 0 (ends job) (omega (arith, all-few job passed fill)) (omega (arith, all-few job passed fill, passed.few_base)))

  -- and all that the printing asks for holds, given the room.
  pub lists-ready : {out : List ℕ} → length (account_text job) ≤ length out →
      ListsReady n (element_count job) (readings_of job.kind job.left_kind (element_count job)) (sets rows 0 (accounts job)) (sets told 0 (counts job)) (sets wide 0 (extents job)) out
  lists-ready fits =
      record {
        counts = omega (arith, few, length-sets told 0 (counts job));
        extents = omega (arith, few, length-sets wide 0 (extents job));
        rising = rises;
        few = omega (arith, few, passed.few_base);
        small = (omega (arith, passed.few_elements), omega (arith, passed.few_elements, readings-few job.kind job.left_kind (element_count job)));
        room = rw text-is fits;
      }
