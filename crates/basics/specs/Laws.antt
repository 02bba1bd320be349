-- Laws of `Lists`: of sums, of searches and tests, of counts, and of a list that is written from the front.
use Rattle.std.specs.Prelude.{◌≡◌, refl, Bool, true, false, ◌||◌, List, [], ◌∷◌, ◌++◌, map, ℕ, zero, suc, ◌+◌, ◌-◌, ◌≤◌, ◌<◌, eqb, length, take, drop, get_or, set}
use Rattle.std.proofs.Common.{ap, ap₂, ◌∙◌, sym, subst, true≢false, append_assoc, add-one, add-zero, add-suc, suc-add, le_of_suc-le-suc, not-suc-le-zero, arith, eqb-true, drop_of_length-le, length-append, length-take, length-drop, drop-cons, take-suc-set, take_at, length-take-le, zero-add, add_assoc, take-append-drop}
use Rattle.std.proofs.Math.Nat.{add-sub_cancel_left}
use Rattle.std.proofs.Math.Decide.{dec_lt}
use Rattle.std.proofs.lemmas.Bool.{not-false}
use Rattle.std.proofs.lemmas.List.Edits.{sets}
use Rattle.std.proofs.Math.Seq.{append_snoc}
use Rattle.std.specs.List.{sum as library}
use Rattle.std.proofs.lemmas.List.Sums.{sum_by-cons}
use Rattle.basics.specs.Lists.{sum, count, any, other, All}

-- Sums.

-- the library's word for them
pub library_sum : (xs : List ℕ) → library xs ≡ sum xs
library_sum [] = refl
library_sum (x ∷ xs) = sum_by-cons (λ x. x) x xs ∙ ap (λ (n : ℕ). x + n) (library_sum xs)

pub sum_step : (xs : List ℕ) (i : ℕ) → i < length xs → sum (drop i xs) ≡ get_or xs i 0 + sum (drop (i + 1) xs)
sum_step xs i h = rw (add-one, drop-cons xs i 0)

pub sum_append : (xs ys : List ℕ) → sum (xs ++ ys) ≡ sum xs + sum ys
sum_append [] ys = sym (zero-add (sum ys))
sum_append (x ∷ xs) ys = ap (λ (n : ℕ). x + n) (sum_append xs ys) ∙ sym (add_assoc x (sum xs) (sum ys))

pub sum-split : (n : ℕ) (xs : List ℕ) → sum xs ≡ sum (take n xs) + sum (drop n xs)
sum-split n xs = ap sum (sym (take-append-drop n xs)) ∙ sum_append (take n xs) (drop n xs)

-- a part's sum is at most the whole's
pub sum-part : (a n : ℕ) (xs : List ℕ) → sum (take n (drop a xs)) ≤ sum xs
sum-part a n xs = omega (arith, sum-split a xs, sum-split n (drop a xs))

-- the first so many, one more
pub take_step : (xs : List ℕ) (i : ℕ) → i < length xs → sum (take (i + 1) xs) ≡ sum (take i xs) + get_or xs i 0
take_step xs i h = omega (arith, sum-split i xs, sum-split (i + 1) xs, sum_step xs i h)

-- a sum over 0 has a number in it
pub sum-some : (xs : List ℕ) → 0 < sum xs → 0 < length xs
sum-some [] h = h
sum-some (x ∷ xs) h = omega arith

-- A search that goes on while a test fails: what is left to test decides.

module _ (p : ℕ → Bool) (xs : List ℕ) (i : ℕ) (left : any p (drop i xs) ≡ any p xs) where
  pub any_pass : i < length xs → p (get_or xs i 0) ≡ false → any p (drop (i + 1) xs) ≡ any p xs
  any_pass h t = sym (rw (add-one, drop-cons xs i 0, t)) ∙ left

  pub any-stop : i < length xs → p (get_or xs i 0) ≡ true → true ≡ any p xs
  any-stop h t = sym (rw (drop-cons xs i 0, t)) ∙ left

  pub any-end : length xs ≤ i → false ≡ any p xs
  any-end h = sym (rw (drop_of_length-le xs h)) ∙ left

-- Lists that are f at a, a + 1, ..

pub length-count : (a n : ℕ) → length (count a n) ≡ n
length-count a zero = refl
length-count a (suc n) = ap suc (length-count (suc a) n)

module _ {A : Type 0} where
  pub count_at : (f : ℕ → A) (d : A) (a n i : ℕ) → i < n → get_or (map f (count a n)) i d ≡ f (a + i)
  count_at f d a zero i h = absurd (not-suc-le-zero h)
  count_at f d a (suc n) zero h = ap f (sym (add-zero a))
  count_at f d a (suc n) (suc i) h = count_at f d (suc a) n i (le_of_suc-le-suc h) ∙ ap f (suc-add a i ∙ sym (add-suc a i))

  pub count_same : (f g : ℕ → A) (a n : ℕ) → ((i : ℕ) → a ≤ i → i < a + n → f i ≡ g i) → map f (count a n) ≡ map g (count a n)
  count_same f g a zero h = refl
  count_same f g a (suc n) h = ap₂ {C = List A} (λ x xs. x ∷ xs) (h a (omega arith) (omega arith)) (count_same f g (suc a) n (λ i l u. h i (omega arith) (omega arith)))

-- P of each number of a count
pub all-count : (P : ℕ → Type 0) (a n : ℕ) → All P (count a n) → (i : ℕ) → a ≤ i → i < a + n → P i
all-count P a zero h i l u = absurd (omega arith)
all-count P a (suc n) h i l u =
    elim (dec_lt a i) [
      | yes g ↦ all-count P (suc a) n h.1 i g (omega arith)
      | no g ↦ subst P (same g) h.0
    ]
  where
    same : (a < i → ⊥) → a ≡ i
    same g = omega arith

-- A list written from the front: what is done and what is to do make up the same list.

pub written : {A : Type 0} (out : List A) (i : ℕ) (v : A) (rest all : List A) → i < length out → take i out ++ (v ∷ rest) ≡ all → take (i + 1) (set out i v) ++ rest ≡ all
written out i v rest all h e = rw (add-one, take-suc-set, append_snoc) e

-- a part of a list, from a to a + n as the code has it
pub length_part : (a n : ℕ) (xs : List ℕ) → a + n ≤ length xs → length (take (a + n - a) (drop a xs)) ≡ n
length_part a n xs h = rw add-sub_cancel_left (simp (length-take, length-drop) (omega arith))

-- one part written: what is done and what is to do make up the same list
pub part-written : (out ys rest all : List ℕ) (a n : ℕ) → a ≤ length out → length ys ≡ n
    → take a out ++ (ys ++ rest) ≡ all → take (a + n) (take a out ++ (ys ++ drop (a + n - a) (drop a out))) ++ rest ≡ all
part-written out ys rest all a n h l e =
    ap (λ (t : List ℕ). t ++ rest)
    (ap (λ (t : List ℕ). take (a + n) t) (sym (append_assoc (take a out) ys (drop (a + n - a) (drop a out))))
    ∙ take_at (take a out ++ ys) (drop (a + n - a) (drop a out)) (a + n) (length-append (take a out) ys ∙ rw (length-take-le, l)))
    ∙ append_assoc (take a out) ys rest ∙ e

pub length-written : (out ys : List ℕ) (a n : ℕ) → a + n ≤ length out → length ys ≡ n → length (take a out ++ (ys ++ drop (a + n - a) (drop a out))) ≡ length out
length-written out ys a n h l =
    simp (add-sub_cancel_left, length-append, length-drop, l)
    (omega (arith, length-take-le a out (omega arith)))

-- Tests.

pub or_none : (a b : Bool) → (a || b) ≡ false → (a ≡ false) × (b ≡ false)
or_none true b e = absurd (true≢false e)
or_none false b e = (refl, e)

pub any_none : {A : Type 0} (p : A → Bool) (xs : List A) → any p xs ≡ false → All (λ x. p x ≡ false) xs
any_none p [] e = tt
any_none p (x ∷ xs) e = let q = or_none (p x) (any p xs) e in (q.0, any_none p xs q.1)

pub none_any : {A : Type 0} (p : A → Bool) (xs : List A) → All (λ x. p x ≡ false) xs → any p xs ≡ false
none_any p [] a = refl
none_any p (x ∷ xs) a = rw a.0 (none_any p xs a.1)

pub all_map : {A : Type 0} (P Q : A → Type 0) (xs : List A) → ((x : A) → P x → Q x) → All P xs → All Q xs
all_map P Q [] f a = tt
all_map P Q (x ∷ xs) f a = (f x a.0, all_map P Q xs f a.1)

-- what holds of each holds of each of a part
pub all_take : {A : Type 0} (P : A → Type 0) (n : ℕ) (xs : List A) → All P xs → All P (take n xs)
all_take P zero xs a = tt
all_take P (suc n) [] a = tt
all_take P (suc n) (x ∷ xs) a = (a.0, all_take P n xs a.1)

pub all_drop : {A : Type 0} (P : A → Type 0) (n : ℕ) (xs : List A) → All P xs → All P (drop n xs)
all_drop P zero xs a = a
all_drop P (suc n) [] a = tt
all_drop P (suc n) (x ∷ xs) a = all_drop P n xs a.1

-- a list with a number in it, of which each is v, sums to at least v
pub all-least : (v : ℕ) (xs : List ℕ) → 0 < length xs → any (other v) xs ≡ false → v ≤ sum xs
all-least v [] h e = absurd (not-suc-le-zero h)
all-least v (x ∷ xs) h e = omega (arith, eqb-true v x (not-false (eqb v x) (or_none (other v x) (any (other v) xs) e).0))

-- Determinacy: any two results that meet a contract of the form r ≡ d are equal. Every public contract of the house has that form unless docs/CONTRACTS.md says otherwise.
pub determined : {A : Type 0} (d p q : A) → p ≡ d → q ≡ d → p ≡ q
determined d p q e f = e ∙ sym f

-- one part written after the other
pub sets_append : (was xs ys : List ℕ) (a : ℕ) → sets was a (xs ++ ys) ≡ sets (sets was a xs) (a + length xs) ys
sets_append was [] ys a = ap (λ (k : ℕ). sets was k ys) (sym (add-zero a))
sets_append was (x ∷ xs) ys a = sets_append (set was a x) xs ys (suc a) ∙ ap (λ (k : ℕ). sets (sets (set was a x) (suc a) xs) k ys) (step a (length xs))
  where
    step : (a n : ℕ) → suc a + n ≡ a + suc n
    step a n = omega arith

pub ruleset sum_steps = (sum_step, drop_of_length-le)
