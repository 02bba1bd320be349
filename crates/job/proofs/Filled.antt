-- The furthest break and the chain of lines: what the search finds is what the demands ask for, and it finds nothing only where there is nothing. There is
-- one such chain, so a job either fills its lines or is stuck at one place.
use Rattle.std.specs.Prelude.{◌≡◌, refl, Bool, true, false, cond, ◌&&◌, List, [], ◌∷◌, ◌⊎◌, ℕ, zero, suc, ◌+◌, ◌-◌, ◌≤◌, ◌<◌, length}
use Rattle.std.proofs.Common.{sym, ap, ◌∙◌, subst, true≢false, inl, inr, arith, le_antisymm, leb-true, le-leb, eqb-true}
use Rattle.std.proofs.Math.Decide.{dec_lt}
use borrow.Author.Tests.{eqb-false}
use Rattle.basics.specs.Lists.{count, keep, last_or}
use Rattle.line.proofs.Theorems.{exact, settled, unique}
use Rattle.door.specs.Job.{Job, base_count}
use Rattle.door.specs.Passed.{Passed}
use Rattle.job.specs.Line.{line_of, origins, extent_of, can_set, permitted, tries, furthest, ends_from}
use Rattle.job.specs.Refusals.{no_break}
use Rattle.job.specs.Laws.{keep-keep, both}
use Rattle.job.proofs.Sound.{sounds}
use Rattle.job.specs.Promise.{CanSet, Break, Ends, Chain, Stands, IsLine}

-- The last of n numbers from a on that passes a test.

record Last (p : ℕ → Bool) (a n r : ℕ) : Type 0 where
  pub low : a ≤ r
  pub high : r < a + n
  pub holds : p r ≡ true
  pub none : (i : ℕ) → r < i → i < a + n → p i ≡ false

abbrev None : (ℕ → Bool) → ℕ → ℕ → Type 0
None p a n = (i : ℕ) → a ≤ i → i < a + n → p i ≡ false

more-none : (p : ℕ → Bool) (a n : ℕ) → p a ≡ false → None p (suc a) n → None p a (suc n)
more-none p a n e f i l u =
    elim (dec_lt a i) [
      | yes g ↦ f i g (omega arith)
      | no g ↦ subst (λ j. p j ≡ false) (same g) e
    ]
  where
    same : (a < i → ⊥) → a ≡ i
    same g = omega arith

found : (p : ℕ → Bool) (a n d : ℕ) → ((last_or d (keep p (count a n)) ≡ d) × None p a n) ⊎ Last p a n (last_or d (keep p (count a n)))
found p a zero d = inl (refl, λ i l u. absurd (empty i l u))
  where
    empty : (i : ℕ) → a ≤ i → i < a + 0 → ⊥
    empty i l u = omega arith
found p a (suc n) d = go (p a) refl (λ d. found p (suc a) n d)
  where
    rest : List ℕ
    rest = keep p (count (suc a) n)

    here : p a ≡ true → ((last_or a rest ≡ a) × None p (suc a) n) ⊎ Last p (suc a) n (last_or a rest) → Last p a (suc n) (last_or a rest)
    here h (inl (q, f)) =
        record { low = omega arith; high = omega arith; holds = subst (λ r. p r ≡ true) (sym q) h; none = λ i l u. f i (omega arith) (omega arith) }
    here h (inr l) = record { low = omega (arith, l.low); high = omega (arith, l.high); holds = l.holds; none = λ i g u. l.none i g (omega arith) }

    later : p a ≡ false → ((last_or d rest ≡ d) × None p (suc a) n) ⊎ Last p (suc a) n (last_or d rest) → ((last_or d rest ≡ d) × None p a (suc n)) ⊎ Last p a (suc n) (last_or d rest)
    later h (inl (q, f)) = inl (q, more-none p a n h f)
    later h (inr l) = inr (record { low = omega (arith, l.low); high = omega (arith, l.high); holds = l.holds; none = λ i g u. l.none i g (omega arith) })

    go : (t : Bool) → p a ≡ t → ((d : ℕ) → ((last_or d rest ≡ d) × None p (suc a) n) ⊎ Last p (suc a) n (last_or d rest)) →
        ((last_or d (cond t (a ∷ rest) rest) ≡ d) × None p a (suc n)) ⊎ Last p a (suc n) (last_or d (cond t (a ∷ rest) rest))
    go true h f = inr (here h (f a))
    go false h f = later h (f d)

abbrev test : Job → ℕ → ℕ → Bool
test job s e = permitted job e && can_set job s e

abbrev break_or_none : Job → ℕ → Type 0
break_or_none job s = ((furthest job s ≡ 0) × None (test job s) (suc s) (base_count job - s)) ⊎ Last (test job s) (suc s) (base_count job - s) (furthest job s)

break_found : (job : Job) (s : ℕ) → break_or_none job s
unfolding furthest tries
break_found job s = rw (keep-keep (permitted job) (can_set job s) (count (suc s) (base_count job - s))) (found (test job s) (suc s) (base_count job - s) 0)

-- a line that is found ends ahead of its start, within the job
pub found-ahead : (job : Job) (s : ℕ) → (furthest job s ≡ 0) ⊎ ((s < furthest job s) × (furthest job s ≤ base_count job))
found-ahead job s = go (break_found job s)
  where
    go : break_or_none job s → (furthest job s ≡ 0) ⊎ ((s < furthest job s) × (furthest job s ≤ base_count job))
    go (inl q) = inl q.0
    go (inr l) = inr (l.low, omega (arith, l.low, l.high))

-- at the job's end there is no line
pub end_none : (job : Job) (n s : ℕ) → base_count job ≤ s → ends_from job n s ≡ []
unfolding ends_from
end_none job zero s h = refl
end_none job (suc n) s h = go (found-ahead job s)
  where
    go : (furthest job s ≡ 0) ⊎ ((s < furthest job s) × (furthest job s ≤ base_count job)) → ends_from job (suc n) s ≡ []
    go (inl e) = rw e
    go (inr l) = absurd (omega arith)

-- One such end only, and one such chain.

pub ends-unique : (job : Job) (s d e : ℕ) → Ends job s d → Ends job s e → d ≡ e
ends-unique job s d e p q = le_antisymm (q.furthest d p.at p.set) (p.furthest e q.at q.set)

pub filled-unique : (job : Job) (s : ℕ) (xs ys : List ℕ) → Chain job s xs (base_count job) → Chain job s ys (base_count job) → xs ≡ ys
filled-unique job s [] [] p q = refl
filled-unique job s [] (y ∷ ys) p q = absurd (omega (arith, q.0.at.ahead, q.0.at.within))
filled-unique job s (x ∷ xs) [] p q = absurd (omega (arith, p.0.at.ahead, p.0.at.within))
filled-unique job s (x ∷ xs) (y ∷ ys) p q =
    let e = ends-unique job s x y p.0 q.0 in
    ap {B = List ℕ} (λ xs. x ∷ xs) (filled-unique job x xs ys p.1 (subst (λ z. Chain job z ys (base_count job)) (sym e) q.1)) ∙ ap {B = List ℕ} (λ z. z ∷ ys) e

-- a line has at least one base character
pub chain-few : (job : Job) (s d : ℕ) (es : List ℕ) → Chain job s es d → s + length es ≤ d
chain-few job s d [] c = omega arith
chain-few job s d (e ∷ es) c = omega (arith, c.0.at.ahead, chain-few job e d es c.1)

-- each line of a chain can be set
pub chain-sets : (job : Job) (s d : ℕ) (es : List ℕ) → Chain job s es d → (a b : ℕ) → IsLine s es a b → CanSet job a b
chain-sets job s d [] c a b l = absurd l
chain-sets job s d (e ∷ es) c a b (inl l) = subst (λ x. CanSet job x b) (sym l.0) (subst (CanSet job s) (sym l.1) c.0.set)
chain-sets job s d (e ∷ es) c a b (inr l) = chain-sets job e d es c.1 a b l

-- a chain that can't go on is the beginning of every other
pub stuck-chain : (job : Job) (s c d : ℕ) (xs ys : List ℕ) → Chain job s xs c → Chain job s ys d → ((e : ℕ) → Ends job c e → ⊥) → ((e : ℕ) → Ends job d e → ⊥) → c ≡ d
stuck-chain job s c d [] [] p q f g = sym p ∙ q
stuck-chain job s c d [] (y ∷ ys) p q f g = absurd (f y (subst (λ z. Ends job z y) p q.0))
stuck-chain job s c d (x ∷ xs) [] p q f g = absurd (g x (subst (λ z. Ends job z x) q p.0))
stuck-chain job s c d (x ∷ xs) (y ∷ ys) p q f g =
    stuck-chain job x c d xs ys p.1 (subst (λ z. Chain job z ys d) (sym (ends-unique job s x y p.0 q.0)) q.1) f g

module _ (job : Job) (passed : Passed job) where
  -- "can be set" as it is worked out and as it is meant
  pub can_set_lem : (s e : ℕ) → CanSet job s e → can_set job s e ≡ true
  unfolding can_set extent_of origins
  can_set_lem s e c = le-leb _ _ ((exact job.measure (line_of job s e) (sounds job passed s e)).1 c)

  pub set_can : (s e : ℕ) → can_set job s e ≡ true → CanSet job s e
  unfolding can_set extent_of origins
  set_can s e c = (exact job.measure (line_of job s e) (sounds job passed s e)).0 (leb-true _ _ c)

  -- the setting of a line that can be set
  pub stands : (s e : ℕ) → CanSet job s e → Stands job s e (origins job s e)
  unfolding can_set extent_of origins
  stands s e c = settled job.measure (line_of job s e) (sounds job passed s e) (leb-true _ _ (can_set_lem s e c))

  -- the break that is found is the furthest, and none is found only where there is none
  tried : (s : ℕ) → ((furthest job s ≡ 0) × ((e : ℕ) → Break job s e → CanSet job s e → ⊥)) ⊎ Ends job s (furthest job s)
  tried s = go (break_found job s)
    where
      passes : (e : ℕ) → Break job s e → CanSet job s e → test job s e ≡ true
      passes e b c = rw (b.permits, can_set_lem s e c)

      go : break_or_none job s → ((furthest job s ≡ 0) × ((e : ℕ) → Break job s e → CanSet job s e → ⊥)) ⊎ Ends job s (furthest job s)
      go (inl q) = inl (q.0, λ e b c. true≢false (sym (passes e b c) ∙ q.1 e b.ahead (omega (arith, b.ahead, b.within))))
      go (inr l) =
          let r = furthest job s in
          let w = both (permitted job r) (can_set job s r) l.holds in
          inr (record {
            at = record { ahead = l.low; within = omega (arith, l.low, l.high); permits = w.0 };
            set = set_can s r w.1;
            furthest = λ d b c.
                elim (dec_lt r d) [
                  | yes g ↦ absurd (true≢false (sym (passes d b c) ∙ l.none d g (omega (arith, b.ahead, b.within))))
                  | no g ↦ other d g
                ];
          })
        where
          other : (d : ℕ) → (furthest job s < d → ⊥) → d ≤ furthest job s
          other d g = omega arith

  -- number 11's row, and a line that ends
  pub no_break_lem : (s : ℕ) → no_break job s ≡ true → (e : ℕ) → Break job s e → CanSet job s e → ⊥
  unfolding no_break
  no_break_lem s h = go (tried s)
    where
      go : ((furthest job s ≡ 0) × ((e : ℕ) → Break job s e → CanSet job s e → ⊥)) ⊎ Ends job s (furthest job s) → (e : ℕ) → Break job s e → CanSet job s e → ⊥
      go (inl q) = q.1
      go (inr l) = λ e b c. omega (arith, l.at.ahead, eqb-true (furthest job s) 0 h)

  pub line-ends : (s : ℕ) → no_break job s ≡ false → Ends job s (furthest job s)
  unfolding no_break
  line-ends s h = go (tried s)
    where
      go : ((furthest job s ≡ 0) × ((e : ℕ) → Break job s e → CanSet job s e → ⊥)) ⊎ Ends job s (furthest job s) → Ends job s (furthest job s)
      go (inl q) = absurd (eqb-false (furthest job s) 0 h q.0)
      go (inr l) = l

-- one setting only
pub stands-unique : (job : Job) (s e : ℕ) (xs ys : List ℕ) → Stands job s e xs → Stands job s e ys → xs ≡ ys
stands-unique job s e xs ys p q = unique job.measure (line_of job s e) xs ys p q
