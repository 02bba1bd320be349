-- What the needed extent is: some permitted line has it, none has less, and so a measure is too small for every permitted line just where twice the measure, in half units, is less.
use Rattle.std.specs.Prelude.{◌≡◌, refl, Bool, true, false, cond, List, ◌∷◌, map, ◌⊎◌, ◌↔◌, ℕ, zero, suc, ◌+◌, ◌-◌, ◌*◌, ◌≤◌, ◌<◌, min, length}
use Rattle.std.proofs.Common.{sym, ap, ◌∙◌, subst, inl, inr}
use Rattle.std.proofs.lemmas.Bool.{false≢true}
use native.Mathlib.Omega.{arith}
use Rattle.std.proofs.Math.Decide.{dec_le, dec_lt}
use borrow.Author.Tests.{le-leb, leb-true, eq-eqb}
use Rattle.basics.specs.Lists.{count, keep}
use Rattle.refusal.specs.declared.Refusal.TheVariants.{NoBreak}
use Rattle.door.specs.Job.{Job, base_count}
use Rattle.door.specs.Passed.{Passed, passed}
use Rattle.job.specs.declared.Answer.TheVariants.{Refused}
use Rattle.job.specs.Line.{extent_of, can_set, permitted, tries}
use Rattle.job.specs.Promise.{Break, Chain, Stuck}
use Rattle.job.proofs.Filled.{can_set_lem, set_can}
use Rattle.job.specs.Outcome.{outcome}
use Rattle.job.proofs.Demands.{stuck-exactly}
use Rattle.shortest.specs.Needed.{least, needed}

-- The least over the numbers from a on that pass a test.

record Among (f : ℕ → ℕ) (p : ℕ → Bool) (a n r : ℕ) : Type 0 where
  pub at : ℕ
  pub low : a ≤ at
  pub high : at < a + n
  pub passes : p at ≡ true
  pub is : f at ≡ r

abbrev least_of : (ℕ → ℕ) → (ℕ → Bool) → ℕ → ℕ → ℕ → ℕ
least_of f p a n d = least d (map f (keep p (count a n)))

-- it is d, or one of theirs
one_of : (f : ℕ → ℕ) (p : ℕ → Bool) (a n d : ℕ) → (least_of f p a n d ≡ d) ⊎ Among f p a n (least_of f p a n d)
one_of f p a zero d = inl refl
one_of f p a (suc n) d = go (p a) refl (one_of f p (suc a) n d)
  where
    rest : ℕ
    rest = least_of f p (suc a) n d

    later : Among f p (suc a) n rest → Among f p a (suc n) rest
    later m = record { at = m.at; low = omega (arith, m.low); high = omega (arith, m.high); passes = m.passes; is = m.is }

    here : (r : ℕ) → p a ≡ true → f a ≡ r → Among f p a (suc n) r
    here r h e = record { at = a; low = omega arith; high = omega arith; passes = h; is = e }

    both : p a ≡ true → (rest ≡ d) ⊎ Among f p (suc a) n rest → (min (f a) rest ≡ d) ⊎ Among f p a (suc n) (min (f a) rest)
    both h w =
        elim (dec_le (f a) rest) [
          | yes l ↦ inr (here (min (f a) rest) h (small (f a) rest l))
          | no l ↦ large (other l) w
        ]
      where
        small : (a b : ℕ) → a ≤ b → a ≡ min a b
        small a b h = omega arith

        other : {a b : ℕ} → (a ≤ b → ⊥) → b ≡ min a b
        other h = omega arith

        large : rest ≡ min (f a) rest → (rest ≡ d) ⊎ Among f p (suc a) n rest → (min (f a) rest ≡ d) ⊎ Among f p a (suc n) (min (f a) rest)
        large e (inl q) = inl (sym e ∙ q)
        large e (inr m) = inr (subst (Among f p a (suc n)) e (later m))

    go : (t : Bool) → p a ≡ t → (rest ≡ d) ⊎ Among f p (suc a) n rest →
        (least d (map f (cond t (a ∷ keep p (count (suc a) n)) (keep p (count (suc a) n)))) ≡ d)
        ⊎ Among f p a (suc n) (least d (map f (cond t (a ∷ keep p (count (suc a) n)) (keep p (count (suc a) n)))))
    go true h w = both h w
    go false h (inl q) = inl q
    go false h (inr m) = inr (later m)

-- and none of theirs is less
none-less : (f : ℕ → ℕ) (p : ℕ → Bool) (a n d e : ℕ) → a ≤ e → e < a + n → p e ≡ true → least_of f p a n d ≤ f e
none-less f p a zero d e l u h = absurd (omega arith)
none-less f p a (suc n) d e l u h = go (p a) refl (dec_lt a e) (λ g. none-less f p (suc a) n d e g (omega arith) h)
  where
    rest : ℕ
    rest = least_of f p (suc a) n d

    same : (a < e → ⊥) → a ≡ e
    same g = omega arith

    less : (x r y : ℕ) → r ≤ y → min x r ≤ y
    less x r y h = omega arith

    first : (x r y : ℕ) → x ≡ y → min x r ≤ y
    first x r y h = omega arith

    go : (t : Bool) → p a ≡ t → Dec (a < e) → (suc a ≤ e → rest ≤ f e) → least d (map f (cond t (a ∷ keep p (count (suc a) n)) (keep p (count (suc a) n)))) ≤ f e
    go true q (yes g) w = less (f a) rest (f e) (w g)
    go true q (no g) w = first (f a) rest (f e) (ap f (same g))
    go false q (yes g) w = w g
    go false q (no g) w = absurd (false≢true (sym q ∙ ap p (same g) ∙ h))

-- the job's end is a break
end-permitted : (job : Job) → permitted job (base_count job) ≡ true
unfolding permitted
end-permitted job = rw (eq-eqb (base_count job) (base_count job) refl)

-- a permitted break ahead whose line has this extent
abbrev pub Attains : Job → ℕ → ℕ → Type 0
Attains job s n = (e : ℕ) × Break job s e × (extent_of job s e ≡ n)

-- The needed extent is that of a permitted line from s: the job's end is always a break, so there is one.
pub attained : (job : Job) (s : ℕ) → s < base_count job → Attains job s (needed job s)
unfolding needed tries
attained job s h = go (one_of (extent_of job s) (permitted job) (suc s) (base_count job - s) (extent_of job s (base_count job)))
  where
    r : ℕ
    r = least_of (extent_of job s) (permitted job) (suc s) (base_count job - s) (extent_of job s (base_count job))

    go : (r ≡ extent_of job s (base_count job)) ⊎ Among (extent_of job s) (permitted job) (suc s) (base_count job - s) r → Attains job s r
    go (inl e) = (base_count job, record { ahead = h; within = omega arith; permits = end-permitted job }, sym e)
    go (inr m) = (m.at, record { ahead = m.low; within = omega (arith, m.high); permits = m.passes }, m.is)

-- No permitted line from s has a lesser extent.
pub least-needed : (job : Job) (s e : ℕ) → Break job s e → needed job s ≤ extent_of job s e
unfolding needed tries
least-needed job s e b =
    none-less (extent_of job s) (permitted job) (suc s) (base_count job - s) (extent_of job s (base_count job)) e b.ahead (omega (arith, b.ahead, b.within)) b.permits

-- For any measure m: some permitted line from s ends within it exactly when the needed extent does. Extents are in half units, the measure in units.
pub exactly : (job : Job) (s : ℕ) → s < base_count job → (m : ℕ) → ((e : ℕ) × Break job s e × (extent_of job s e ≤ 2 * m)) ↔ (needed job s ≤ 2 * m)
exactly job s h m = (to, from)
  where
    to : ((e : ℕ) × Break job s e × (extent_of job s e ≤ 2 * m)) → needed job s ≤ 2 * m
    to (e, b, l) = omega (arith, least-needed job s e b)

    from : needed job s ≤ 2 * m → (e : ℕ) × Break job s e × (extent_of job s e ≤ 2 * m)
    from l = let a = attained job s h in (a.0, a.1, omega (arith, a.2))

-- What the lines of a job are stuck at.

module _ (job : Job) (good : Passed job) (s : ℕ) where
  stuck-long : Stuck job s → 2 * job.measure < needed job s
  unfolding can_set
  stuck-long k = go (dec_le (needed job s) (2 * job.measure))
    where
      go : Dec (needed job s ≤ 2 * job.measure) → 2 * job.measure < needed job s
      go (yes l) = let a = (exactly job s k.more job.measure).1 l in absurd (k.none a.0 a.1 (set_can job good s a.0 (le-leb _ _ a.2)))
      go (no l) = omega arith

  long_stuck : (es : List ℕ) → Chain job 0 es s → s < base_count job → 2 * job.measure < needed job s → Stuck job s
  unfolding can_set
  long_stuck es c h l = record { sofar = es; lines = c; more = h; none = λ e b w. omega (arith, leb-true (extent_of job s e) (2 * job.measure) (can_set_lem job good s e w), least-needed job s e b) }

  -- The lines of a job that passes the door are stuck at s exactly when they come to s, short of the job's end, and the extent that is needed there passes the measure.
  pub stuck-needs : Stuck job s ↔ ((es : List ℕ) × Chain job 0 es s × (s < base_count job) × (2 * job.measure < needed job s))
  stuck-needs = (λ k. (k.sofar, k.lines, k.more, stuck-long k), λ (es, c, h, l). long_stuck es c h l)

-- Of a job that is refused with number 11 at s,
module _ (job : Job) (base ruby left line : List ℕ) (s : ℕ) (refused : (outcome job base ruby left line).answer ≡ Refused (NoBreak s)) where
  pub entered : Passed job
  entered = passed job (length base) (length ruby) (length left) (length line) ((stuck-exactly job base ruby left line s).0 refused).0

  -- the extent that is needed there passes the measure,
  pub too_long : 2 * job.measure < needed job s
  too_long = stuck-long job entered s ((stuck-exactly job base ruby left line s).0 refused).1

  -- and there is a line from there.
  pub refused-ahead : s < base_count job
  refused-ahead = ((stuck-exactly job base ruby left line s).0 refused).1.more
