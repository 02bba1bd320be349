-- How long an account can be. An index takes at most four digits and any number at most ten, so an element's line at most 101 bytes, a line's head at most 16 and the verdict at
-- most 63; and there are at most 1,024 lines and 1,024 pieces.
use Rattle.std.specs.Prelude.{◌≡◌, Bool, true, false, cond, eqb, leb}
use Rattle.std.proofs.Common.{sym, ◌∙◌}
use Rattle.std.proofs.Math.Path.{ap}
use mathlib.Core.List.{List, [], ◌∷◌, ◌++◌, append-nil, append_assoc}
use Prim.Native.Nat.{ℕ, zero, suc, ◌+◌, ◌-◌, ◌*◌, ◌≤◌, zero-le}
use native.Mathlib.Omega.{arith}
use Rattle.std.proofs.Math.ListN.{length, length-append}
use Rattle.text.specs.Print.{decimal}
use Rattle.text.specs.Written.{decimal_le, decimal-below}
use Rattle.refusal.specs.declared.Refusal.{Refusal}
use Rattle.door.specs.Job.{Job, base_count, element_count}
use Rattle.door.specs.Passed.{Passed}
use Rattle.job.specs.Line.{line_of, extent_of, ends, by_line}
use Rattle.job.specs.Promise.{piece_of, Filled}
use Rattle.job.proofs.Filled.{chain-few}
use Rattle.result.specs.Text.{bytes, refusal_text}
use Rattle.result.specs.Short.{refusal_short}
use Rattle.account.specs.Claims.{number, depth}
use Rattle.job_account.specs.Theorems.{account_in}
use Rattle.job_account.specs.First.{first-few}
use Rattle.job_account.specs.Rows.{other_by, other-few, start_in, index_in, rows_upto, length-upto, rows_in}
use Rattle.account_text.specs.Text.{said, deep, named, under_text, over_text, touch_text, edge_text, ruby_text, reason_text, row_text}
use Rattle.account_text.specs.Text.{rows_text, head_text, verdict_text, readings_of, line_text, account_text, needs_text}
use Rattle.account_text.specs.Job.{pieces_from, all-few}

-- 63 + 1,024 * 16 + 1,024 * 101
abbrev pub longest : ℕ
longest = 119871

said-short : (phrase : List ℕ) (n : ℕ) → length (said phrase n) ≤ length phrase + 10
unfolding said
said-short phrase n = omega (arith, length-append phrase (decimal n), decimal_le n)

-- an index
index_short : (phrase : List ℕ) (k : ℕ) → k ≤ 1024 → length (said phrase k) ≤ length phrase + 4
unfolding said
index_short phrase k h = omega (arith, length-append phrase (decimal k), decimal-below 4 k (omega arith) (omega arith))

deep-short : (phrase : List ℕ) (o d : ℕ) → o ≤ 1024 → length (deep phrase o d) ≤ length phrase + 24
unfolding deep
deep-short phrase o d h = omega (arith, length-append (said phrase o) (said (bytes " at depth ") d), index_short phrase o h, said-short (bytes " at depth ") d)

-- a reason, whose ruby's name has at most nine bytes
module _ (name : List ℕ) (short : length name ≤ 9) where
  named-short : (phrase : List ℕ) → length (named phrase name) ≤ length phrase + 9
  unfolding named
  named-short phrase = omega (arith, length-append phrase name)

  under-short : (o d : ℕ) → o ≤ 1024 → length (under_text name o d) ≤ 59
  unfolding under_text
  under-short o d h =
      let a = bytes " rule 2 block touches " in omega (arith, length-append (named a name) (deep (bytes " of ") o d), named-short a, deep-short (bytes " of ") o d h)

  over-short : (o d : ℕ) → o ≤ 1024 → length (over_text name o d) ≤ 59
  unfolding over_text
  over-short o d h =
      let a = bytes " rule 2 " in
      let b = bytes " touches block of " in
      omega (arith, length-append (named a name) (deep b o d), named-short a, deep-short b o d h)

  touch_short : (o : ℕ) → o ≤ 1024 → length (touch_text name o) ≤ 59
  unfolding touch_text
  touch_short o h =
      let a = bytes " rule 3 " in
      let b = bytes " touches " in
      let c = said (bytes " of ") o in
      omega (arith, length-append (named a name) (named b name ++ c), length-append (named b name) c, named-short a, named-short b, index_short (bytes " of ") o h)

  edge-short : length (edge_text name) ≤ 59
  unfolding edge_text
  edge-short = let a = bytes " rule 4 " in omega (arith, length-append (named a name) (bytes " touches start"), named-short a)

pick : (b : Bool) (xs ys : List ℕ) → length xs ≤ 59 → length ys ≤ 59 → length (cond b xs ys) ≤ 59
pick true xs ys h k = h
pick false xs ys h k = k

ruby-short : (name : List ℕ) → length name ≤ 9 → (r o d : ℕ) → o ≤ 1024 → length (ruby_text name r o d) ≤ 59
unfolding ruby_text
ruby-short name l r o d h =
    pick (eqb r 3) _ _ (under-short name l o d h)
    (pick (eqb r 4) _ _ (over-short name l o d h) (pick (eqb r 5) _ _ (touch_short name l o h) (edge-short name l)))

reason-short : (r o d : ℕ) → o ≤ 1024 → length (reason_text r o d) ≤ 59
unfolding reason_text
reason-short r o d h =
    pick (eqb r 1) _ _ (omega arith) (pick (eqb r 2) _ _ (omega (arith, index_short (bytes " rule 1 block touches block of ") o h))
    (pick (leb r 6) _ _ (ruby-short (bytes "ruby") (omega arith) r o d h) (ruby-short (bytes "left ruby") (omega arith) (r - 4) o d h)))

row-short : (k x g n o d : ℕ) → k ≤ 1024 → o ≤ 1024 → length (row_text k x g n o d) ≤ 101
unfolding row_text
row-short k x g n o d h l =
    let a = said (bytes "element ") k in
    let b = said (bytes " at ") x in
    let c = said (bytes " gap ") g in
    let e = reason_text n o d in
    omega (
      arith,
      length-append a (b ++ (c ++ (e ++ (10 ∷ [])))),
      length-append b (c ++ (e ++ (10 ∷ []))),
      length-append c (e ++ (10 ∷ [])),
      length-append e (10 ∷ []),
      index_short (bytes "element ") k h,
      said-short (bytes " at ") x,
      said-short (bytes " gap ") g,
      reason-short n o d l,
    )

-- rows, and one more
rows_more : (n : ℕ) (xs : List ℕ) (k x g r o d : ℕ) → length xs ≡ 6 * n → rows_text (xs ++ (k ∷ x ∷ g ∷ r ∷ o ∷ d ∷ [])) ≡ rows_text xs ++ row_text k x g r o d
unfolding rows_text
rows_more zero [] k x g r o d h = append-nil (row_text k x g r o d)
rows_more (suc n) (a ∷ b ∷ c ∷ e ∷ f ∷ i ∷ xs) k x g r o d h =
    ap (λ ys. row_text a b c e f i ++ ys) (rows_more n xs k x g r o d (omega arith)) ∙ sym (append_assoc (row_text a b c e f i) (rows_text xs) (row_text k x g r o d))
rows_more zero (a ∷ xs) k x g r o d h = absurd (omega arith)
rows_more (suc n) [] k x g r o d h = absurd (omega arith)
rows_more (suc n) (a ∷ []) k x g r o d h = absurd (omega arith)
rows_more (suc n) (a ∷ b ∷ []) k x g r o d h = absurd (omega arith)
rows_more (suc n) (a ∷ b ∷ c ∷ []) k x g r o d h = absurd (omega arith)
rows_more (suc n) (a ∷ b ∷ c ∷ e ∷ []) k x g r o d h = absurd (omega arith)
rows_more (suc n) (a ∷ b ∷ c ∷ e ∷ f ∷ []) k x g r o d h = absurd (omega arith)

head-short : (x : ℕ) → length (head_text x) ≤ 16
unfolding head_text
head-short x = omega (arith, length-append (said (bytes "line ") x) (10 ∷ []), said-short (bytes "line ") x)

verdict-short : (l e r : ℕ) → length (verdict_text l e r) ≤ 63
unfolding verdict_text
verdict-short l e r =
    let a = said (bytes "clear lines ") l in
    let b = said (bytes " elements ") e in
    let c = said (bytes " readings ") r in
    omega (
      arith,
      length-append a (b ++ (c ++ (10 ∷ []))),
      length-append b (c ++ (10 ∷ [])),
      length-append c (10 ∷ []),
      said-short (bytes "clear lines ") l,
      said-short (bytes " elements ") e,
      said-short (bytes " readings ") r,
    )

module _ (job : Job) (passed : Passed job) where
  upto-short : (s e n : ℕ) → length (rows_text (rows_upto job s e n)) ≤ 101 * n
  unfolding rows_text
  upto-short s e zero = zero-le
  upto-short s e (suc n) =
      let a = account_in job s e n in
      let k = index_in job s e n in
      let o = other_by (index_in job s e) a.reason in
      let row = row_text k (start_in job s e n) a.gap (number a.reason) o (depth a.reason) in
      let few : (j : ℕ) → index_in job s e j ≤ 1024 = λ j. first-few job passed (piece_of job s e j).base in
      omega (
        arith,
        ap length (rows_more n (rows_upto job s e n) k (start_in job s e n) a.gap (number a.reason) o (depth a.reason) (length-upto job s e n)),
        length-append (rows_text (rows_upto job s e n)) row,
        upto-short s e n,
        row-short k (start_in job s e n) a.gap (number a.reason) o (depth a.reason) (few n) (other-few (index_in job s e) 1024 a.reason few),
      )

  rows_short : (s e : ℕ) → length (rows_text (rows_in job s e)) ≤ 101 * length (line_of job s e)
  unfolding rows_in
  rows_short s e = upto-short s e (length (line_of job s e))

  lines-short : (s : ℕ) (es : List ℕ) → length (by_line (line_text job) s es) ≤ 16 * length es + 101 * pieces_from job s es
  unfolding line_text
  lines-short s [] = zero-le
  lines-short s (e ∷ es) =
      let head = head_text (extent_of job s e) in
      let rows = rows_text (rows_in job s e) in
      omega (
        arith,
        length-append (head ++ rows) (by_line (line_text job) e es),
        length-append head rows,
        head-short (extent_of job s e),
        rows_short s e,
        lines-short e es,
      )

  pub account-short : Filled job (ends job) → length (account_text job) ≤ longest
  unfolding account_text
  account-short fill =
      let v = verdict_text (length (ends job)) (element_count job) (readings_of job.kind job.left_kind (element_count job)) in
      omega (
        arith,
        length-append v (by_line (line_text job) 0 (ends job)),
        verdict-short (length (ends job)) (element_count job) (readings_of job.kind job.left_kind (element_count job)),
        lines-short 0 (ends job),
        all-few job passed fill,
        chain-few job 0 (base_count job) (ends job) fill,
        passed.few_base,
      )

needs-short : (n m : ℕ) → length (needs_text n m) ≤ 36
unfolding needs_text
needs-short n m =
    let a = said (bytes "needs ") n in
    let b = said (bytes " measure ") (2 * m) in
    omega (arith, length-append a (b ++ (10 ∷ [])), length-append b (10 ∷ []), said-short (bytes "needs ") n, said-short (bytes " measure ") (2 * m))

-- a refusal, and what a declined line needs
pub declined-short : (r : Refusal) (n m : ℕ) → length (refusal_text r ++ needs_text n m) ≤ 66
declined-short r n m = omega (arith, length-append (refusal_text r) (needs_text n m), refusal_short r, needs-short n m)
