-- A line with one element more: what stands before each element so far is as it was, and so is each account; the new one is that of the step.
use Rattle.std.specs.Prelude.{◌≡◌, List, [], ◌∷◌, ◌++◌, get_or, eqb, refl, cond, ℕ, zero, suc, ◌≤◌, ◌<◌, length}
use Rattle.std.proofs.Common.{sym, ◌∙◌, arith, length-append, ap, ap₂}
use Rattle.std.proofs.Math.ListN.{get_or-append}
use Rattle.line.specs.declared.Element.{Element}
use Rattle.line.specs.declared.Side.{Side}
use Rattle.line.specs.declared.Side.TheVariants.{Right, Left}
use Rattle.line.specs.Rules.{ruby, block_of, ruby_of, el, org, Apart, Sounds}
use Rattle.account.specs.declared.Reason.{Reason}
use Rattle.account.specs.declared.Reason.TheVariants.{Start, Ruby, Edge, Free}
use Rattle.account.specs.Reasons.{meets, starts, by_side, beside, neighbour, rubies, rubies_of, by_ruby, reason, back, account_of}
use Rattle.account.specs.Step.{account_after, passed, standing}
use Rattle.account.specs.Law.{step}

module _ (es : List Element) (xs : List ℕ) (e : Element) (x : ℕ) (each : length xs ≡ length es) where
  abbrev es' : List Element
  es' = es ++ (e ∷ [])

  abbrev xs' : List ℕ
  xs' = xs ++ (x ∷ [])

  pub el-old : (k : ℕ) → k < length es → el es' k ≡ el es k
  el-old k h = get_or-append es (e ∷ []) _ k h

  pub org-old : (k : ℕ) → k < length es → org xs' k ≡ org xs k
  org-old k h = get_or-append xs (x ∷ []) 0 k (omega arith)

  last-at : {A : Type 0} (d v : A) (ys : List A) → get_or (ys ++ (v ∷ [])) (length ys) d ≡ v
  last-at d v [] = refl
  last-at d v (y ∷ ys) = last-at d v ys

  pub el-new : el es' (length es) ≡ e
  el-new = last-at _ e es

  pub org-new : org xs' (length es) ≡ x
  org-new = ap (λ n. get_or xs' n 0) (sym each) ∙ last-at 0 x xs

  pub standing-old : (n : ℕ) → n ≤ length es → standing es' xs' n ≡ standing es xs n
  unfolding standing
  standing-old zero h = refl
  standing-old (suc n) h =
      ap (λ b. passed n b (el es' n) (org xs' n)) (standing-old n (omega arith))
      ∙ ap₂ (λ p y. passed n (standing es xs n) p y) (el-old n h) (org-old n h)

  pub standing-new : standing es' xs' (suc (length es)) ≡ passed (length es) (standing es xs (length es)) e x
  unfolding standing
  standing-new =
      ap (λ b. passed (length es) b (el es' (length es)) (org xs' (length es))) (standing-old (length es) (omega arith))
      ∙ ap₂ (λ p y. passed (length es) (standing es xs (length es)) p y) el-new org-new

  pub account-new : Sounds es' → Apart es' xs' → account_after (length es) (standing es xs (length es)) e x ≡ account_of es' xs' (length es)
  account-new s a =
      ap (λ b. account_after (length es) b e x) (sym (standing-old (length es) (omega arith)))
      ∙ ap₂ (λ p y. account_after (length es) (standing es' xs' (length es)) p y) (sym el-new) (sym org-new)
      ∙ step es' xs' s a (length es) (simp length-append (omega arith))

  rubies-old : (s : Side) (z n : ℕ) (rest : Reason) → n ≤ length es → rubies s es' xs' z n rest ≡ rubies s es xs z n rest
  unfolding rubies
  rubies-old s z zero rest h = refl
  rubies-old s z (suc k) rest h =
      ap₂ (λ p y. cond (meets (ruby s p) y z) (Ruby s k) (rubies s es' xs' z k rest)) (el-old k h) (org-old k h)
      ∙ ap (λ o. cond (meets (ruby s (el es k)) (org xs k) z) (Ruby s k) o) (rubies-old s z k rest (omega arith))

  module _ (i : ℕ) (h : i < length es) where
    of-old : (s : Side) (rest : Reason) → rubies_of s es' xs' i rest ≡ rubies_of s es xs i rest
    of-old s rest =
        ap₂ (λ p y. cond (ruby s p).there (rubies s es' xs' (ruby_of s p y).start i rest) rest) (el-old i h) (org-old i h)
        ∙ ap (λ o. cond (ruby s (el es i)).there o rest) (rubies-old s _ i rest (omega arith))

    ruby-old : by_ruby es' xs' i ≡ by_ruby es xs i
    ruby-old =
        of-old Right _
        ∙ ap (λ o. rubies_of Right es xs i o)
        (of-old Left _ ∙ ap₂ (λ p y. rubies_of Left es xs i (by_side (λ s. starts (ruby s p) y) Edge Free)) (el-old i h) (org-old i h))

    neighbour-old : (rest : Reason) → neighbour es' xs' i rest ≡ neighbour es xs i rest
    unfolding neighbour
    neighbour-old rest = go i h
      where
        go : (i : ℕ) → i < length es → neighbour es' xs' i rest ≡ neighbour es xs i rest
        go zero h = refl
        go (suc j) h =
            ap₂ (λ p y. beside j p y (el es' (suc j)) (org xs' (suc j)) rest) (el-old j (omega arith)) (org-old j (omega arith))
            ∙ ap₂ (λ p y. beside j (el es j) (org xs j) p y rest) (el-old (suc j) h) (org-old (suc j) h)

    back-old : back es' xs' i ≡ back es xs i
    back-old = go i h
      where
        go : (i : ℕ) → i < length es → back es' xs' i ≡ back es xs i
        go zero h = refl
        go (suc j) h = ap₂ (λ p y. (block_of p y).end) (el-old j (omega arith)) (org-old j (omega arith))

    reason-old : reason es' xs' i ≡ reason es xs i
    unfolding reason
    reason-old =
        ap₂ (λ p y. cond (eqb (block_of p y).start 0) Start (neighbour es' xs' i (by_ruby es' xs' i))) (el-old i h) (org-old i h)
        ∙ ap (λ o. cond (eqb (block_of (el es i) (org xs i)).start 0) Start o) (ap (neighbour es' xs' i) ruby-old ∙ neighbour-old (by_ruby es xs i))

    pub account-old : account_of es' xs' i ≡ account_of es xs i
    account-old = rw (reason-old, back-old, el-old i h, org-old i h)
