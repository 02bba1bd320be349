-- The promise of `set_line` determines its answer and the lent list. A condition can't both hold and fail, so two that meet the promise meet
-- the same case of it; a declined line leaves one list, and there is one least setting.
use Rattle.std.specs.Prelude.{◌≡◌, List, ◌++◌, ◌↔◌, ℕ, ◌≤◌, length, drop, Result, Ok, Err}
use Rattle.std.proofs.Common.{sym, ap, ◌∙◌, inl, inr}
use Rattle.line.specs.declared.Element.{Element}
use Rattle.line_lists.specs.declared.Why.{Why}
use Rattle.line_lists.specs.declared.Why.TheVariants.{Long}
use Rattle.line.specs.Rules.{Clear, extent}
use Rattle.line.proofs.Theorems.{unique}
use Rattle.line_lists.specs.Promise.{rows, line, AllWithin, Unless, Declines, Sets, Promise}

-- one answer and one list
pub record Same (r r' : Result ℕ Why) (now now' : List ℕ) : Type 0 where
  pub answer : r ≡ r'
  pub list : now ≡ now'

both : {T A B A' B' C : Type 0} → (A → A' → C) → (B → B' → C) → Unless T A B → Unless T A' B' → C
both f g (inl p) (inl q) = f p.1 q.1
both f g (inl p) (inr q) = absurd (p.0 q.0)
both f g (inr p) (inl q) = absurd (q.0 p.0)
both f g (inr p) (inr q) = g p.1 q.1

module _ (was : List ℕ) (r r' : Result ℕ Why) (now now' : List ℕ) where
  declined : (why : Why) → Declines why was now r → Declines why was now' r' → Same r r' now now'
  declined why p q = record { answer = p.answer ∙ sym q.answer; list = p.untouched ∙ sym q.untouched }

  set : (m : ℕ) (es : List Element) → Sets m es was now r → Sets m es was now' r' → Same r r' now now'
  set m es p q =
      let same = unique m es p.origins q.origins p.setting q.setting in
      record {
        answer = p.answer ∙ ap {B = Result ℕ Why} (λ xs. Ok (extent es xs)) same ∙ sym q.answer;
        list = p.written ∙ ap (λ xs. xs ++ drop (length es) was) same ∙ sym q.written;
      }

  pub determined : (m : ℕ) (t : List ℕ) → Promise m t was now r → Promise m t was now' r' → Same r r' now now'
  determined m t = both (declined _) (both (declined _) (both (declined _) (set _ _)))

-- A line of elements that are set within themselves is declined as too long exactly when no setting keeps the four rules.
pub too_long : (m : ℕ) (t was now : List ℕ) (r : Result ℕ Why) → rows t ≤ length was → AllWithin t → Promise m t was now r →
    (r ≡ Err Long) ↔ (((xs : List ℕ) × Clear m (line t) xs) → ⊥)
too_long m t was now r room w (inl p) = absurd (p.0 room)
too_long m t was now r room w (inr (_, inl p)) = absurd (p.0 w)
too_long m t was now r room w (inr (_, inr (_, inl p))) = (λ _. p.0, λ _. p.1.answer)
too_long m t was now r room w (inr (_, inr (_, inr (c, p)))) = (λ d. (let a = p.answer in absurd cc), λ n. absurd (n c))
