-- Laws of the lists that jobs and lines are made of: no refusal at all, entries of a list, joined counts, and what is kept of a list. They know nothing of
-- jobs.
use Rattle.std.specs.Prelude.{◌≡◌, refl, Bool, true, false, cond, ◌&&◌, ◌||◌, ◌⊎◌, ℕ, zero, suc, ◌+◌, ◌≤◌, ◌<◌, length, take, drop, get_or, List, [], ◌∷◌, ◌++◌}
use Rattle.std.proofs.Common.{sym, ap, ap₂, ◌∙◌, inl, inr, zero-add, add-zero, add-suc, suc-add, arith, length-drop, ext_get_or, get_or-take, get_or-drop, length-take-le, append_assoc}
use Rattle.std.proofs.lemmas.Bool.{false≢true}
use mathlib.Core.List.{head?}
use Rattle.std.proofs.Math.Option.{none}
use Rattle.basics.specs.Lists.{sum, count, any, keep, each, All, last_or}
use Rattle.basics.specs.Laws.{count_at}
use Rattle.door.specs.Job.{entries}
use Rattle.door.specs.Entries.{length-entries}

-- No refusal.

pub head-none : {A : Type 0} (xs : List A) → head? xs ≡ none → xs ≡ []
head-none [] e = refl
head-none (x ∷ xs) e = absurd cc

-- What holds of each.

pub all_append : {A : Type 0} (P : A → Type 0) (xs ys : List A) → All P xs → All P ys → All P (xs ++ ys)
all_append P [] ys a b = b
all_append P (x ∷ xs) ys a b = (a.0, all_append P xs ys a.1 b)

pub all_split : {A : Type 0} (P : A → Type 0) (xs ys : List A) → All P (xs ++ ys) → All P xs × All P ys
all_split P [] ys a = (tt, a)
all_split P (x ∷ xs) ys a = let q = all_split P xs ys a.1 in ((a.0, q.0), q.1)

pub all-each : {A B : Type 0} (P : A → Type 0) (Q : B → Type 0) (f : A → List B) (xs : List A) → ((x : A) → P x → All Q (f x)) → All P xs → All Q (each f xs)
all-each P Q f [] h a = tt
all-each P Q f (x ∷ xs) h a = all_append Q (f x) (each f xs) (h x a.0) (all-each P Q f xs h a.1)

pub each_append : {A B : Type 0} (f : A → List B) (xs ys : List A) → each f (xs ++ ys) ≡ each f xs ++ each f ys
each_append f [] ys = refl
each_append f (x ∷ xs) ys = ap (λ zs. f x ++ zs) (each_append f xs ys) ∙ sym (append_assoc (f x) (each f xs) (each f ys))

pub any_append : {A : Type 0} (p : A → Bool) (xs ys : List A) → any p (xs ++ ys) ≡ (any p xs || any p ys)
any_append p [] ys = refl
any_append p (x ∷ xs) ys = go (p x) (any_append p xs ys)
  where
    go : (t : Bool) → any p (xs ++ ys) ≡ (any p xs || any p ys) → (t || any p (xs ++ ys)) ≡ ((t || any p xs) || any p ys)
    go true e = refl
    go false e = e

-- Entries of a list.

pub entries_at : (xs : List ℕ) (a n i : ℕ) → i < n → get_or (entries xs a n) i 0 ≡ get_or xs (a + i) 0
entries_at xs a n i h = count_at (λ j. get_or xs j 0) 0 a n i h

-- a part of the entries, as a word's part has it
pub entries-cut : (xs : List ℕ) (a m i n : ℕ) → i + n ≤ m → take n (drop i (entries xs a m)) ≡ entries xs (a + i) n
entries-cut xs a m i n h =
    ext_get_or 0 _ _ (long ∙ sym (length-entries xs (a + i) n))
    (λ j l. let k : j < n = omega (arith, long) in
    get_or-take n (drop i (entries xs a m)) j 0 k ∙ get_or-drop i (entries xs a m) j 0 ∙ entries_at xs a m (i + j) (omega arith) ∙ ap (λ (q : ℕ). get_or xs q 0) (move a i j)
    ∙ sym (entries_at xs (a + i) n j k))
  where
    long : length (take n (drop i (entries xs a m))) ≡ n
    long = length-take-le n (drop i (entries xs a m)) (simp length-drop (omega (arith, length-entries xs a m)))

    move : (a i j : ℕ) → a + (i + j) ≡ a + i + j
    move a i j = omega arith

pub entries-add : (xs : List ℕ) (u i n : ℕ) → sum (entries xs u (i + n)) ≡ sum (entries xs u i) + sum (entries xs (u + i) n)
entries-add xs u zero n = rw (zero-add n, add-zero) (sym (zero-add (sum (entries xs u n))))
entries-add xs u (suc i) n = rw (suc-add, add-suc) (omega (arith, rw suc-add at (entries-add xs (suc u) i n)))

-- Counts that are the same, empty, or joined.

pub count_gone : (a m : ℕ) → m ≡ 0 → [] ≡ count a m
count_gone a m h = ap (count a) (sym h)

pub count-join : (a b m n k : ℕ) → b ≡ a + m → k ≡ m + n → count a m ++ count b n ≡ count a k
count-join a b zero n k h q = ap₂ count (h ∙ add-zero a) (sym (q ∙ zero-add n))
count-join a b (suc m) n k h q = ap {B = List ℕ} (λ xs. a ∷ xs) (count-join (suc a) b m n (m + n) (omega arith) refl) ∙ ap (count a) (sym (q ∙ suc-add m n))

-- What is kept.

module _ {A : Type 0} (p : A → Bool) where
  pub keep_append : (xs ys : List A) → keep p (xs ++ ys) ≡ keep p xs ++ keep p ys
  keep_append [] ys = refl
  keep_append (x ∷ xs) ys = go (p x) (keep_append xs ys)
    where
      go : (t : Bool) → keep p (xs ++ ys) ≡ keep p xs ++ keep p ys → cond t (x ∷ keep p (xs ++ ys)) (keep p (xs ++ ys)) ≡ cond t (x ∷ keep p xs) (keep p xs) ++ keep p ys
      go true e = ap {B = List A} (λ zs. x ∷ zs) e
      go false e = e

pub keep-keep : {A : Type 0} (p q : A → Bool) (xs : List A) → keep q (keep p xs) ≡ keep (λ x. p x && q x) xs
keep-keep p q [] = refl
keep-keep {A} p q (x ∷ xs) = go (p x) (q x) refl refl (keep-keep p q xs)
  where
    go : (s t : Bool) → p x ≡ s → q x ≡ t → keep q (keep p xs) ≡ keep (λ x. p x && q x) xs →
        keep q (cond s (x ∷ keep p xs) (keep p xs)) ≡ cond (s && t) (x ∷ keep (λ x. p x && q x) xs) (keep (λ x. p x && q x) xs)
    go true true a b h = rw b (ap {B = List A} (λ zs. x ∷ zs) h)
    go true false a b h = rw b h
    go false t a b h = h

pub last_append : {A : Type 0} (d : A) (xs : List A) (y : A) → last_or d (xs ++ (y ∷ [])) ≡ y
last_append d [] y = refl
last_append d (x ∷ xs) y = last_append x xs y

-- Two tests.

pub both : (a b : Bool) → (a && b) ≡ true → (a ≡ true) × (b ≡ true)
both true b e = (refl, e)
both false b e = absurd (false≢true e)

pub either : (a b : Bool) → (a || b) ≡ true → (a ≡ true) ⊎ (b ≡ true)
either true b e = inl refl
either false b e = inr e
