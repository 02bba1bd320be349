-- Lists of rows, refusals with their conditions: which of them hold, where one is found, and which comes first. What has to be true of a group's rows is a
-- test that computes, so that a new row asks nothing here.
use Rattle.std.specs.Prelude.{◌≡◌, refl, Bool, true, false, cond, ◌&&◌, ◌||◌, List, [], ◌∷◌, ◌++◌, map, ◌⊎◌, ℕ, zero, suc, ◌+◌, ◌≤◌, ◌<◌, ltb, eqb}
use Rattle.std.proofs.Common.{sym, ◌∙◌, subst, inl, inr, zero-le, arith, ltb-true, eqb-true}
use Rattle.std.proofs.lemmas.Bool.{false≢true}
use Rattle.std.proofs.Math.Decide.{dec_lt}
use Rattle.basics.specs.Lists.{count, keep, each, All}
use Rattle.refusal.specs.declared.Refusal.{Refusal}
use Rattle.refusal.specs.Refusal.{number_of, place_of, same_refusal}
use Rattle.door.specs.Refusals.{◌when◌, held}
use Rattle.door.specs.Verdict.{one, held-is}
use Rattle.job.specs.Laws.{all_append, all-each, both, either}
use Rattle.job.specs.Table.{Member, stage, line, Before}

abbrev pub Rows : Type 0
Rows = List (Refusal × Bool)

-- Of all, and of one among them.

module _ {A : Type 0} where
  pub map-all : (P Q : A → Type 0) (xs : List A) → ((x : A) → P x → Q x) → All P xs → All Q xs
  map-all P Q [] f a = tt
  map-all P Q (x ∷ xs) f a = (f x a.0, map-all P Q xs f a.1)

  pub of-all : (P : A → Type 0) → ((x : A) → P x) → (xs : List A) → All P xs
  of-all P f [] = tt
  of-all P f (x ∷ xs) = (f x, of-all P f xs)

  -- what a list of known entries computes to, said of each
  pub all_same : {B : Type 0} (f g : A → B) (xs : List A) → map f xs ≡ map g xs → All (λ x. f x ≡ g x) xs
  all_same f g [] e = tt
  all_same f g (x ∷ xs) e = (cc, all_same f g xs (cc))

  pub all_member : (P : A → Type 0) (xs : List A) → All P xs → (x : A) → Member x xs → P x
  all_member P [] a x m = absurd m
  all_member P (y ∷ ys) a x (inl e) = subst P (sym e) a.0
  all_member P (y ∷ ys) a x (inr m) = all_member P ys a.1 x m

  pub all-kept : (p : A → Bool) (P : A → Type 0) (xs : List A) → ((x : A) → Member x xs → p x ≡ true → P x) → All P (keep p xs)
  all-kept p P [] h = tt
  all-kept p P (x ∷ xs) h = go (p x) refl (all-kept p P xs (λ y m. h y (inr m)))
    where
      go : (t : Bool) → p x ≡ t → All P (keep p xs) → All P (cond t (x ∷ keep p xs) (keep p xs))
      go true e a = (h x (inl refl) e, a)
      go false e a = a

  pub in_left : (x : A) (xs ys : List A) → Member x xs → Member x (xs ++ ys)
  in_left x [] ys m = absurd m
  in_left x (z ∷ xs) ys (inl e) = inl e
  in_left x (z ∷ xs) ys (inr m) = inr (in_left x xs ys m)

  pub in_right : (x : A) (xs ys : List A) → Member x ys → Member x (xs ++ ys)
  in_right x [] ys m = m
  in_right x (z ∷ xs) ys m = inr (in_right x xs ys m)

  pub in_keep : (p : A → Bool) (x : A) (xs : List A) → Member x xs → p x ≡ true → Member x (keep p xs)
  in_keep p x [] m t = absurd m
  in_keep p x (y ∷ xs) (inl e) t = subst (λ u. Member x (cond u (y ∷ keep p xs) (keep p xs))) (ap-test (sym t)) (inl e)
    where
      ap-test : true ≡ p x → true ≡ p y
      ap-test h = cc
  in_keep p x (y ∷ xs) (inr m) t = go (p y) (in_keep p x xs m t)
    where
      go : (u : Bool) → Member x (keep p xs) → Member x (cond u (y ∷ keep p xs) (keep p xs))
      go true k = inr k
      go false k = k

pub in_each : {A : Type 0} (f : A → List Refusal) (x : A) (q : Refusal) (xs : List A) → Member x xs → Member q (f x) → Member q (each f xs)
in_each f x q [] m k = absurd m
in_each f x q (y ∷ xs) (inl e) k = in_left q (f y) (each f xs) (subst (λ z. Member q (f z)) e k)
in_each f x q (y ∷ xs) (inr m) k = in_right q (f y) (each f xs) (in_each f x q xs m k)

-- Rows that hold.

pub all_when : (P : Refusal → Type 0) (r : Refusal) (t : Bool) → (t ≡ true → P r) → All P (r when t)
all_when P r true h = (h refl, tt)
all_when P r false h = tt

pub all_held : (P : Refusal → Type 0) (rs : Rows) → All (λ r. r.1 ≡ true → P r.0) rs → All P (held rs)
all_held P rs a = rw (held-is rs) (all-each (λ r. r.1 ≡ true → P r.0) P one rs (λ r h. all_when P r.0 r.1 h) a)

pub in_when : (r : Refusal) (t : Bool) → t ≡ true → Member r (r when t)
in_when r true e = inl refl
in_when r false e = absurd (false≢true e)

-- the condition of the first row whose refusal passes a test
abbrev pub find : (Refusal → Bool) → Rows → Bool
find p [] = false
find p (r ∷ rs) = cond (p r.0) r.1 (find p rs)

found : (p : Refusal → Bool) (q : Refusal) (rs : Rows) → All (λ r. p r.0 ≡ true → r.0 ≡ q) rs → find p rs ≡ true → Member q (each one rs)
found p q [] a t = absurd (false≢true t)
found p q (r ∷ rs) a t = go (p r.0) refl t (found p q rs a.1)
  where
    go : (u : Bool) → p r.0 ≡ u → cond u r.1 (find p rs) ≡ true → (find p rs ≡ true → Member q (each one rs)) → Member q (one r ++ each one rs)
    go true e t more = in_left q (one r) (each one rs) (subst (λ x. Member x (one r)) (a.0 e) (in_when r.0 r.1 t))
    go false e t more = in_right q (one r) (each one rs) (more t)

-- a number and a place among rows whose places are numerals, a number among rows of one place
abbrev pub exact : Refusal → Refusal → Bool
exact q x = eqb (number_of x) (number_of q) && eqb (place_of x) (place_of q)

abbrev pub numbered : Refusal → Refusal → Bool
numbered q x = eqb (number_of x) (number_of q)

pub in_exact : (q : Refusal) (rs : Rows) → find (exact q) rs ≡ true → Member q (held rs)
in_exact q rs t = rw (held-is rs) (found (exact q) q rs (of-all (λ r. exact q r.0 ≡ true → r.0 ≡ q) same rs) t)
  where
    same : (r : Refusal × Bool) → exact q r.0 ≡ true → r.0 ≡ q
    same r e = let h = both (numbered q r.0) (eqb (place_of r.0) (place_of q)) e in same_refusal r.0 q (eqb-true _ _ h.0) (eqb-true _ _ h.1)

pub in_numbered : (q : Refusal) (rs : Rows) → map (λ r. place_of r.0) rs ≡ map (λ r. place_of q) rs → find (numbered q) rs ≡ true → Member q (held rs)
in_numbered q rs e t =
    rw (held-is rs) (found (numbered q) q rs
    (map-all (λ r. place_of r.0 ≡ place_of q) (λ r. numbered q r.0 ≡ true → r.0 ≡ q) rs (λ r p n. same_refusal r.0 q (eqb-true _ _ n) p)
    (all_same (λ r. place_of r.0) (λ r. place_of q) rs e)) t)

-- What stands first comes before all others.

abbrev pub Leads : List Refusal → Type 0
Leads [] = Unit {0}
Leads (x ∷ xs) = All (Before x) xs

pub joined : (P Q : Refusal → Type 0) → ((x y : Refusal) → P x → Q y → Before x y) → (xs ys : List Refusal) → All P xs → All Q ys → Leads xs → (xs ≡ [] → Leads ys) → Leads (xs ++ ys)
joined P Q f [] ys a b k l = l refl
joined P Q f (x ∷ xs) ys a b k l = all_append (Before x) xs ys k (map-all Q (Before x) ys (λ y. f x y a.0) b)

-- each row passes a test with all rows after it
abbrev every : (Refusal → Bool) → Rows → Bool
every t [] = true
every t (r ∷ rs) = t r.0 && every t rs

abbrev pub rising : (Refusal → Refusal → Bool) → Rows → Bool
rising t [] = true
rising t (r ∷ rs) = every (t r.0) rs && rising t rs

module _ (P : Refusal → Type 0) (t : Refusal → Refusal → Bool) (tells : (x y : Refusal) → P x → P y → t x y ≡ true → Before x y) where
  after-all : (x : Refusal) → P x → (rs : Rows) → All (λ r. P r.0) rs → every (t x) rs ≡ true → All (Before x) (each one rs)
  after-all x p [] a e = tt
  after-all x p (r ∷ rs) a e =
      let h = both (t x r.0) (every (t x) rs) e in
      all_append (Before x) (one r) (each one rs) (all_when (Before x) r.0 r.1 (λ _. tells x r.0 p a.0 h.0)) (after-all x p rs a.1 h.1)

  leads : (rs : Rows) → All (λ r. P r.0) rs → rising t rs ≡ true → Leads (each one rs)
  leads [] a e = tt
  leads (r ∷ rs) a e = let h = both (every (t r.0) rs) (rising t rs) e in go r.1 (after-all r.0 a.0 rs a.1 h.0) (leads rs a.1 h.1)
    where
      go : (u : Bool) → All (Before r.0) (each one rs) → Leads (each one rs) → Leads (r.0 when u ++ each one rs)
      go true h k = h
      go false h k = k

-- rows whose stages and places are numerals
abbrev pub sooner : Refusal → Refusal → Bool
sooner x y = ltb (stage x) (stage y) || (eqb (stage x) (stage y) && ltb (place_of x) (place_of y))

pub known-lead : (rs : Rows) → rising sooner rs ≡ true → Leads (held rs)
known-lead rs e = rw (held-is rs) (leads (λ x. x ≡ x) sooner tells rs (of-all (λ r. r.0 ≡ r.0) (λ r. refl) rs) e)
  where
    tells : (x y : Refusal) → x ≡ x → y ≡ y → sooner x y ≡ true → Before x y
    tells x y _ _ t = go (either (ltb (stage x) (stage y)) (eqb (stage x) (stage y) && ltb (place_of x) (place_of y)) t)
      where
        go : (ltb (stage x) (stage y) ≡ true) ⊎ ((eqb (stage x) (stage y) && ltb (place_of x) (place_of y)) ≡ true) → Before x y
        go (inl h) = inl (ltb-true _ _ h)
        go (inr h) = let k = both (eqb (stage x) (stage y)) (ltb (place_of x) (place_of y)) h in inr (eqb-true _ _ k.0, inl (ltb-true _ _ k.1))

-- Refusals of one stage, from one place on and before another.

pub record In (s a b : ℕ) (x : Refusal) : Type 0 where
  pub stage : stage x ≡ s
  pub low : a ≤ place_of x
  pub high : place_of x < b

pub record Within (s a b : ℕ) (xs : List Refusal) : Type 0 where
  pub all : All (In s a b) xs
  pub leads : Leads xs

pub join : (s a b c d e : ℕ) → a ≤ c → b ≤ c → b ≤ e → d ≤ e → (xs ys : List Refusal) → Within s a b xs → Within s c d ys → Within s a e (xs ++ ys)
join s a b c d e ac bc be de xs ys p q =
    record {
      all =
          all_append (In s a e) xs ys (map-all (In s a b) (In s a e) xs (λ x h. record { stage = h.stage; low = h.low; high = omega (arith, h.high) }) p.all)
          (map-all (In s c d) (In s a e) ys (λ y h. record { stage = h.stage; low = omega (arith, h.low); high = omega (arith, h.high) }) q.all);
      leads = joined (In s a b) (In s c d) (λ x y h k. inr (h.stage ∙ sym k.stage, inl (omega (arith, h.high, k.low)))) xs ys p.all q.all p.leads (λ _. q.leads);
    }

abbrev At : ℕ → ℕ → Refusal → Type 0
At s k x = (stage x ≡ s) × (place_of x ≡ k)

abbrev pub higher : Refusal → Refusal → Bool
higher x y = ltb (line x) (line y)

-- rows of one stage at one place, whose lines rise
pub here : (s k : ℕ) (rs : Rows) → map (λ r. stage r.0) rs ≡ map (λ r. s) rs → map (λ r. place_of r.0) rs ≡ map (λ r. k) rs → rising higher rs ≡ true → Within s k (suc k) (held rs)
here s k rs e f g =
    let at = pair rs (all_same (λ r. stage r.0) (λ r. s) rs e) (all_same (λ r. place_of r.0) (λ r. k) rs f) in
    record {
      all =
          all_held (In s k (suc k)) rs
          (map-all (λ r. At s k r.0) (λ r. r.1 ≡ true → In s k (suc k) r.0) rs (λ r h _. record { stage = h.0; low = omega (arith, h.1); high = omega (arith, h.1) }) at);
      leads = rw (held-is rs) (leads (At s k) higher (λ x y h i t. inr (h.0 ∙ sym i.0, inr (h.1 ∙ sym i.1, ltb-true _ _ t))) rs at g);
    }
  where
    pair : (xs : Rows) → All (λ r. stage r.0 ≡ s) xs → All (λ r. place_of r.0 ≡ k) xs → All (λ r. At s k r.0) xs
    pair [] a b = tt
    pair (x ∷ xs) a b = ((a.0, b.0), pair xs a.1 b.1)

-- Walks over 0, 1, .. n - 1.

module _ (f : ℕ → List Refusal) where
  -- in turn, with an offset to the places
  walk_from : (s o : ℕ) → ((i : ℕ) → Within s (o + i) (suc (o + i)) (f i)) → (a n : ℕ) → Within s (o + a) (o + (a + n)) (each f (count a n))
  walk_from s o h a zero = record { all = tt; leads = tt }
  walk_from s o h a (suc n) =
      join s (o + a) (suc (o + a)) (o + suc a) (o + (suc a + n)) (o + (a + suc n)) (omega arith) (omega arith) (omega arith) (omega arith) (f a) (each f (count (suc a) n)) (h a)
      (walk_from s o h (suc a) n)

  pub walk : (s o n : ℕ) → ((i : ℕ) → Within s (o + i) (suc (o + i)) (f i)) → Within s (o + 0) (o + (0 + n)) (each f (count 0 n))
  walk s o n h = walk_from s o h 0 n

  all_from : (P : Refusal → Type 0) (a n : ℕ) → ((i : ℕ) → a ≤ i → i < a + n → All P (f i)) → All P (each f (count a n))
  all_from P a zero h = tt
  all_from P a (suc n) h = all_append P (f a) (each f (count (suc a) n)) (h a (omega arith) (omega arith)) (all_from P (suc a) n (λ i l u. h i (omega arith) (omega arith)))

  pub all-walk : (P : Refusal → Type 0) (n : ℕ) → ((i : ℕ) → i < n → All P (f i)) → All P (each f (count 0 n))
  all-walk P n h = all_from P 0 n (λ i _ u. h i (omega arith))

  in_count : (a n i : ℕ) → a ≤ i → i < a + n → Member i (count a n)
  in_count a zero i l u = absurd (omega arith)
  in_count a (suc n) i l u =
      elim (dec_lt a i) [
        | yes g ↦ inr (in_count (suc a) n i g (omega arith))
        | no g ↦ inl (same g)
      ]
    where
      same : (a < i → ⊥) → i ≡ a
      same g = omega arith

  pub in_walk : (n i : ℕ) (q : Refusal) → i < n → Member q (f i) → Member q (each f (count 0 n))
  in_walk n i q h m = in_each f i q (count 0 n) (in_count 0 n i zero-le (omega arith)) m
