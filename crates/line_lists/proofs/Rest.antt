-- A pass over the table: what is left of the line from a row on. It loses its first element with each turn and is none at the end.
use Rattle.std.proofs.Common.{sym, ap, ◌∙◌, arith, zero-add, add-zero}
use Rattle.std.specs.Prelude.{◌≡◌, refl, List, [], ◌∷◌, map, ℕ, zero, suc, ◌+◌, ◌-◌, ◌≤◌, ◌<◌, length}
use native.Mathlib.Nat.{sub-zero}
use native.Mathlib.Numerals.{add-one}
use Rattle.basics.specs.Lists.{count}
use Rattle.line.specs.declared.Element.{Element}
use Rattle.line.specs.Rules.{el}
use Rattle.line_lists.specs.Promise.{rows, element_at, line}

unfoldable pub rest : List ℕ → ℕ → List Element
rest t i = map (element_at t) (count i (rows t - i))

pub rest-start : (t : List ℕ) → rest t 0 ≡ line t
unfolding rest
rest-start t = ap (λ n. map (element_at t) (count 0 n)) (sub-zero (rows t))

pub rest-step : (t : List ℕ) (i : ℕ) → i < rows t → rest t i ≡ element_at t i ∷ rest t (i + 1)
unfolding rest
rest-step t i h = ap (λ n. map (element_at t) (count i n)) more ∙ rw (add-one i)
  where
    more : rows t - i ≡ suc (rows t - (i + 1))
    more = omega arith

pub rest_end : (t : List ℕ) (i : ℕ) → rows t ≤ i → rest t i ≡ []
unfolding rest
rest_end t i h = ap (λ n. map (element_at t) (count i n)) none
  where
    none : rows t - i ≡ 0
    none = omega arith

pub line-length : (t : List ℕ) → length (line t) ≡ rows t
line-length t = go 0 (rows t)
  where
    go : (a n : ℕ) → length (map (element_at t) (count a n)) ≡ n
    go a zero = refl
    go a (suc n) = ap suc (go (suc a) n)

pub line_at : (t : List ℕ) (i : ℕ) → i < rows t → el (line t) i ≡ element_at t i
line_at t i h = go 0 (rows t) i h ∙ ap (element_at t) (zero-add i)
  where
    go : (a n i : ℕ) → i < n → el (map (element_at t) (count a n)) i ≡ element_at t (a + i)
    go a zero i h = absurd (omega arith)
    go a (suc n) zero h = ap (element_at t) (sym (add-zero a))
    go a (suc n) (suc i) h = go (suc a) n i (omega arith) ∙ ap (element_at t) (suc-add a i)
      where
        suc-add : (a i : ℕ) → suc a + i ≡ a + suc i
        suc-add a i = omega arith
