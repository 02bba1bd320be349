-- A line of a job with one piece more: its account is that of the step from what stands before it, and its rows are one row more.
use Rattle.std.specs.Prelude.{◌≡◌, refl, ℕ, zero, suc, ◌+◌, ◌≤◌, ◌<◌, get_or}
use Rattle.std.proofs.Math.Path.{sym, ap}
use Rattle.std.proofs.Common.{ap₂, subst, ◌∙◌, arith, length-append}
use mathlib.Core.List.{List, [], ◌∷◌, ◌++◌, map, map-append}
use Rattle.std.proofs.Math.Numerals.{add-one}
use Rattle.std.proofs.Math.ListN.{length, get_or-append}
use Rattle.std.proofs.lemmas.List.{length-map}
use Rattle.line.specs.declared.Element.{Element}
use Rattle.line.specs.Rules.{block_of, block_at, Apart, Sounds}
use Rattle.line.specs.Setting.{origin}
use Rattle.door.specs.declared.Piece.{Piece}
use Rattle.door.specs.Job.{Job}
use Rattle.door.specs.Passed.{Passed}
use Rattle.job.specs.Line.{pieces, seen, line_of, origins}
use Rattle.job.specs.Walk.{state_of}
use Rattle.job.proofs.Walk.{origins-more, length-origins}
use Rattle.job.specs.Promise.{nobody}
use Rattle.job.proofs.Stretches.{length-line}
use Rattle.job.proofs.Sound.{sounds}
use Rattle.account.specs.declared.Before.{Before}
use Rattle.account.specs.Reasons.{account_of}
use Rattle.account.specs.Step.{account_after, passed, nothing, standing}
use Rattle.account.proofs.Theorems.{earlier}
use Rattle.account.specs.More as more
use Rattle.job_account.specs.Theorems.{account_in, apart}
use Rattle.job_account.specs.First.{first_in}
use Rattle.job_account.specs.Rows.{row, row_by, start_in, index_in, row_in, rows_upto, rows_in}

-- how many pieces the line from s up to e has, and what stands behind the last of them
abbrev pub count_in : Job → ℕ → ℕ → ℕ
count_in job s e = length (line_of job s e)

abbrev pub standing_in : Job → ℕ → ℕ → Before
standing_in job s e = standing (line_of job s e) (origins job s e) (count_in job s e)

-- a line that has not begun
module _ (job : Job) (s e : ℕ) (none : pieces job s e ≡ []) where
  pub count_none : count_in job s e ≡ 0
  unfolding line_of
  count_none = ap (λ ps. length (map (seen job) ps)) none

  pub stands-none : standing_in job s e ≡ nothing
  unfolding standing
  stands-none = ap (standing (line_of job s e) (origins job s e)) count_none

  pub rows_none : rows_in job s e ≡ []
  unfolding rows_in
  rows_none = ap (rows_upto job s e) count_none

module _ (job : Job) (door : Passed job) (s b c : ℕ) (p : Piece) (one : pieces job s c ≡ pieces job s b ++ (p ∷ [])) where
  abbrev es : List Element
  es = line_of job s b

  abbrev xs : List ℕ
  xs = origins job s b

  abbrev el : Element
  el = seen job p

  abbrev at : ℕ
  at = origin (state_of job s b) (seen job p)

  abbrev n : ℕ
  n = length (line_of job s b)

  line-is : line_of job s c ≡ es ++ (el ∷ [])
  unfolding line_of
  line-is = ap (map (seen job)) one ∙ map-append (seen job) (pieces job s b) (p ∷ [])

  origins-is : origins job s c ≡ xs ++ (at ∷ [])
  origins-is = origins-more job s b c p one

  each : length xs ≡ length es
  unfolding line_of
  each = length-origins job s b ∙ sym (length-map (pieces job s b) (seen job))

  pub account-is : account_after n (standing_in job s b) el at ≡ account_in job s c n
  account-is =
      more.account-new es xs el at each (subst Sounds line-is (sounds job door s c))
      (subst (λ os. Apart (es ++ (el ∷ [])) os) origins-is (subst (λ ls. Apart ls (origins job s c)) line-is (apart job door s c)))
      ∙ ap₂ (λ ls os. account_of ls os n) (sym line-is) (sym origins-is)

  pub start_is : (block_of el at).start ≡ start_in job s c n
  start_is =
      sym (ap₂ (λ e x. (block_of e x).start) (more.el-new es xs el at each) (more.org-new es xs el at each))
      ∙ ap₂ (λ ls os. (block_at ls os n).start) (sym line-is) (sym origins-is)

  pub one_more : count_in job s c ≡ n + 1
  one_more = ap length line-is ∙ length-append es (el ∷ [])

  pub stands-is : passed n (standing_in job s b) el at ≡ standing_in job s c
  stands-is =
      sym (more.standing-new es xs el at each) ∙ ap₂ (λ ls os. standing ls os (suc n)) (sym line-is) (sym origins-is)
      ∙ ap (standing (line_of job s c) (origins job s c)) (sym (one_more ∙ add-one n))

  -- the index of each piece so far is as it was, and that of the new one is its own
  many : length es ≡ length (pieces job s b)
  many = length-line job s b

  pub index-old : (m : ℕ) → m < length es → index_in job s c m ≡ index_in job s b m
  index-old m h =
      ap (λ ps. first_in job (get_or ps m nobody).base) one ∙ ap (λ (q : Piece). first_in job q.base) (get_or-append (pieces job s b) (p ∷ []) nobody m (omega (arith, many)))

  pub index-new : index_in job s c n ≡ first_in job p.base
  index-new = ap₂ (λ ps (m : ℕ). first_in job (get_or ps m nobody).base) one many ∙ ap (λ (q : Piece). first_in job q.base) (last (pieces job s b))
    where
      last : (ps : List Piece) → get_or (ps ++ (p ∷ [])) (length ps) nobody ≡ p
      last [] = refl
      last (q ∷ ps) = last ps

  old : (m : ℕ) → m < length es → row_in job s c m ≡ row_in job s b m
  old m h =
      ap₂ (λ ls os. row (index_in job s c) (index_in job s c m) (block_at ls os m).start (account_of ls os m)) line-is origins-is
      ∙ ap₂ (λ y a. row (index_in job s c) (index_in job s c m) y a)
      (ap₂ (λ p o. (block_of p o).start) (more.el-old es xs el at each m h) (more.org-old es xs el at each m h))
      (more.account-old es xs el at each m h)
      ∙ row_by (index_in job s c) (index_in job s b) m (index_in job s c m) (start_in job s b m) (account_in job s b m) (earlier es xs m) (λ j l. index-old j (omega arith))
      ∙ ap (λ k. row (index_in job s b) k (start_in job s b m) (account_in job s b m)) (index-old m h)

  rows-old : (m : ℕ) → m ≤ length es → rows_upto job s c m ≡ rows_upto job s b m
  rows-old zero h = refl
  rows-old (suc m) h = ap₂ (λ rs r. rs ++ r) (rows-old m (omega arith)) (old m h)

  pub rows_more : rows_in job s c ≡ rows_in job s b ++ row_in job s c n
  unfolding rows_in
  rows_more = ap (rows_upto job s c) (one_more ∙ add-one n) ∙ ap (λ rs. rs ++ row_in job s c n) (rows-old n (omega arith))
