-- The first refusal of a list that is in order, and how a walk along such a list finds it.
use Rattle.std.specs.Prelude.{◌≡◌, refl, Bool, true, false, List, [], ◌∷◌, ◌++◌, ℕ, suc, Result, Ok, Err, ⊤, ◌+◌, ◌-◌, ◌≤◌, ◌<◌}
use Rattle.std.proofs.Common.{sym, ap, ◌∙◌, append_assoc, append-nil, add-one, arith}
use Rattle.std.proofs.Math.Nat.{sub-zero}
use Rattle.basics.specs.Lists.{count, each, All}
use Rattle.refusal.specs.declared.Refusal.{Refusal}
use Rattle.door.specs.Refusals.{◌when◌, held_after, held}

-- the first of the refusals, or this where there is none
abbrev pub unless_refused : {A : Type 0} → List Refusal → A → Result A Refusal
unless_refused [] a = Ok a
unless_refused (r ∷ rs) a = Err r

abbrev pub verdict : List Refusal → Result ⊤ Refusal
verdict rs = unless_refused rs tt

pub passed_none : (xs : List Refusal) → verdict xs ≡ Ok tt → xs ≡ []
passed_none [] e = refl
passed_none (x ∷ xs) e = absurd (let z : ◌≡◌ {A = ℕ} 0 1 = cc in omega arith)

-- what refuses at the front refuses the whole; what passes at the front leaves the rest
pub front-refused : (xs ys : List Refusal) {r : Refusal} → verdict xs ≡ Err r → verdict (xs ++ ys) ≡ Err r
front-refused [] ys e = absurd (let z : ◌≡◌ {A = ℕ} 0 1 = cc in omega arith)
front-refused (x ∷ xs) ys e = e

pub front-passed : (xs ys : List Refusal) → verdict xs ≡ Ok tt → verdict (xs ++ ys) ≡ verdict ys
front-passed xs ys e = rw (passed_none xs e)

-- a verdict, and where it passes what comes next
abbrev pub and_so : {A : Type 0} → Result ⊤ Refusal → Result A Refusal → Result A Refusal
and_so (Ok u) b = b
and_so (Err r) b = Err r

pub verdict_append : (xs ys : List Refusal) → verdict (xs ++ ys) ≡ and_so (verdict xs) (verdict ys)
verdict_append [] ys = refl
verdict_append (x ∷ xs) ys = refl

pub told_append : {A : Type 0} (xs ys : List Refusal) (a : A) → unless_refused (xs ++ ys) a ≡ and_so (verdict xs) (and_so (verdict ys) (Ok a))
told_append [] [] a = refl
told_append [] (y ∷ ys) a = refl
told_append (x ∷ xs) ys a = refl

pub told_refused : {A : Type 0} (xs : List Refusal) (a : A) {q : Refusal} → unless_refused xs a ≡ Err q → verdict xs ≡ Err q
told_refused [] a e = absurd (let z : ◌≡◌ {A = ℕ} 0 1 = cc in omega arith)
told_refused (x ∷ xs) a {q} e = let h : x ≡ q = cc in ap Err h

pub told_passed : {A : Type 0} (xs : List Refusal) (a : A) {b : A} → unless_refused xs a ≡ Ok b → (xs ≡ []) × (b ≡ a)
told_passed [] a e = (refl, cc)
told_passed (x ∷ xs) a e = absurd (let z : ◌≡◌ {A = ℕ} 0 1 = cc in omega arith)

pub append_none : (xs ys : List Refusal) → xs ++ ys ≡ [] → (xs ≡ []) × (ys ≡ [])
append_none [] ys e = (refl, e)
append_none (x ∷ xs) ys e = absurd (let z : ◌≡◌ {A = ℕ} 0 1 = cc in omega arith)

pub when_none : (r : Refusal) (t : Bool) → r when t ≡ [] → t ≡ false
when_none r true e = absurd (let z : ◌≡◌ {A = ℕ} 0 1 = cc in omega arith)
when_none r false e = refl

pub each_none : {A : Type 0} (f : A → List Refusal) (xs : List A) → each f xs ≡ [] → All (λ x. f x ≡ []) xs
each_none f [] e = tt
each_none f (x ∷ xs) e = let p = append_none (f x) (each f xs) e in (p.0, each_none f xs p.1)

-- A list of rows, row by row.

abbrev pub one : Refusal × Bool → List Refusal
one r = r.0 when r.1

held_after_lem : (found : List Refusal) (rs : List (Refusal × Bool)) → held_after found rs ≡ found ++ each one rs
held_after_lem found [] = sym (append-nil found)
held_after_lem found (r ∷ rs) = held_after_lem (found ++ one r) rs ∙ append_assoc found (one r) (each one rs)

pub held-is : (rs : List (Refusal × Bool)) → held rs ≡ each one rs
held-is [] = refl
held-is (r ∷ rs) = held_after_lem (one r) rs

-- where no row holds, no condition does
pub held_none : (rs : List (Refusal × Bool)) → held rs ≡ [] → All (λ r. r.1 ≡ false) rs
held_none rs e = go rs (each_none one rs (sym (held-is rs) ∙ e))
  where
    go : (rs : List (Refusal × Bool)) → All (λ r. one r ≡ []) rs → All (λ r. r.1 ≡ false) rs
    go [] a = tt
    go (r ∷ rs) a = (when_none r.0 r.1 a.0, go rs a.1)

-- a walk over 0, 1, .. n - 1: what is left of it decides
module _ (f : ℕ → List Refusal) (n i : ℕ) (h : i < n) where
  turn : each f (count i (n - i)) ≡ f i ++ each f (count (i + 1) (n - (i + 1)))
  turn = ap (λ (m : ℕ). each f (count i m)) {x = n - i} {y = suc (n - (i + 1))} (omega arith) ∙ rw (add-one i)

  pub verdict_turn : verdict (each f (count i (n - i))) ≡ and_so (verdict (f i)) (verdict (each f (count (i + 1) (n - (i + 1)))))
  verdict_turn = ap verdict turn ∙ verdict_append (f i) (each f (count (i + 1) (n - (i + 1))))

pub walk_starts : (f : ℕ → List Refusal) (n : ℕ) → verdict (each f (count 0 (n - 0))) ≡ verdict (each f (count 0 n))
walk_starts f n = rw (sub-zero n)

pub walk_ends : (f : ℕ → List Refusal) (n i : ℕ) → n ≤ i → Ok tt ≡ verdict (each f (count i (n - i)))
walk_ends f n i h = ap (λ (m : ℕ). verdict (each f (count i m))) {x = 0} {y = n - i} (omega arith)
