-- The definition picks the first reason that holds: its tests are the reasons' own equalities, asked in the order of `rank`. And there is one first
-- reason only.
use Rattle.std.specs.Prelude.{◌≡◌, Bool, true, false, cond, ◌&&◌, List, T, eqb, refl, ℕ, zero, suc, ◌+◌, ◌≤◌, ◌<◌}
use Rattle.std.proofs.Common.{subst, ◌∙◌, le_antisymm, sym, ap, ap₂, arith, eq-eqb, eqb-true}
use Rattle.std.proofs.lemmas.Bool.{false≢true}
use Rattle.std.proofs.Math.Decide.{dec_lt}
use Rattle.line.specs.declared.Element.{Element}
use Rattle.line.specs.declared.Side.{Side}
use Rattle.line.specs.declared.Side.TheVariants.{Right, Left}
use Rattle.line.specs.Rules.{ruby, el, org, block_at, ruby_at}
use Rattle.account.specs.declared.Reason.{Reason}
use Rattle.account.specs.declared.Reason.TheVariants.{Start, Block, Under, Over, Ruby, Edge, Free}
use Rattle.account.specs.Reasons.{touches, under, over, meets, starts, by_side, beside, neighbour, rubies, rubies_of, by_ruby, reason}
use Rattle.account.specs.Claims.{in_order, rank, other, depth, Holds, First}

-- a test that picks one of two
by : (P : Reason → Type 0) (t : Bool) (a b : Reason) → (t ≡ true → P a) → P b → P (cond t a b)
by P true a b f g = f refl
by P false a b f g = g

pick : (P : Reason → Type 0) (t : Bool) (a b : Reason) → t ≡ true → P a → P (cond t a b)
pick P true a b e h = h
pick P false a b e h = absurd (false≢true e)

-- and one for each side
by_side_lem : (P : Reason → Type 0) (t : Side → Bool) (r : Side → Reason) (rest : Reason) → ((s : Side) → t s ≡ true → P (r s)) → P rest → P (by_side t r rest)
by_side_lem P t r rest f g = by P (t Right) (r Right) _ (f Right) (by P (t Left) (r Left) rest (f Left) g)

-- the right side is before the left
at_least : (s : Side) (n : ℕ) → n ≤ in_order s n
at_least Right n = omega arith
at_least Left n = omega arith

at_most : (s : Side) (n : ℕ) → in_order s n ≤ n + 1
at_most Right n = omega arith
at_most Left n = omega arith

last : (r : Reason) → rank r ≤ 11
last Start = omega arith
last (Block j) = omega arith
last (Under s j d) = omega (arith, at_most s 3)
last (Over s j d) = omega (arith, at_most s 5)
last (Ruby s j) = omega (arith, at_most s 7)
last (Edge s) = omega (arith, at_most s 9)
last Free = omega arith

down : {j i : ℕ} → suc j ≡ suc i → j ≡ i
down e = omega arith

flagged : (b : Bool) → b ≡ true → T b
flagged true e = tt
flagged false e = false≢true e

flag_true : (b : Bool) → T b → b ≡ true
flag_true true t = refl
flag_true false t = absurd t

both : (a b : Bool) → (a && b) ≡ true → T a × (b ≡ true)
both true b e = (tt, e)
both false b e = absurd (false≢true e)

and-true : (a b : Bool) → T a → b ≡ true → (a && b) ≡ true
and-true true b t e = e
and-true false b t e = absurd t

beside-by : (P : Reason → Type 0) (j : ℕ) (p : Element) (y : ℕ) (e : Element) (x : ℕ) (rest : Reason) → (touches p y e x ≡ true → P (Block j)) →
    ((s : Side) → under (ruby s p) y e x ≡ true → P (Under s j e.before)) → ((s : Side) → over p y (ruby s e) x ≡ true → P (Over s j p.after)) → P rest →
    P (beside j p y e x rest)
unfolding beside
beside-by P j p y e x rest a b c r =
    by P (touches p y e x) (Block j) _ a
    (by_side_lem P (λ s. under (ruby s p) y e x) (λ s. Under s j e.before) _ b (by_side_lem P (λ s. over p y (ruby s e) x) (λ s. Over s j p.after) rest c r))

-- not past the rank n
abbrev UpTo : ℕ → Reason → Type 0
UpTo n r = rank r ≤ n

-- of two sides whose reasons follow each other, a test that holds of one
side-upto : (n : ℕ) (t : Side → Bool) (r : Side → Reason) (rest : Reason) → ((s : Side) → rank (r s) ≡ in_order s n) → (s : Side) → t s ≡ true →
    UpTo (in_order s n) (by_side t r rest)
side-upto n t r rest e Right h = pick (UpTo n) (t Right) (r Right) _ h (omega (arith, e Right))
side-upto n t r rest e Left h =
    by (UpTo (n + 1)) (t Right) (r Right) _ (λ q. omega (arith, e Right)) (pick (UpTo (n + 1)) (t Left) (r Left) rest h (omega (arith, e Left)))

module _ (j : ℕ) (p : Element) (y : ℕ) (e : Element) (x : ℕ) (rest : Reason) where
  block-upto : touches p y e x ≡ true → UpTo 2 (beside j p y e x rest)
  unfolding beside
  block-upto m = pick (UpTo 2) (touches p y e x) (Block j) _ m (omega arith)

  under-upto : (s : Side) → under (ruby s p) y e x ≡ true → UpTo (in_order s 3) (beside j p y e x rest)
  unfolding beside
  under-upto s m =
      by (UpTo (in_order s 3)) (touches p y e x) (Block j) _ (λ q. omega (arith, at_least s 3))
      (side-upto 3 (λ s. under (ruby s p) y e x) (λ s. Under s j e.before) _ (λ s. refl) s m)

  over-upto : (s : Side) → over p y (ruby s e) x ≡ true → UpTo (in_order s 5) (beside j p y e x rest)
  unfolding beside
  over-upto s m =
      by (UpTo (in_order s 5)) (touches p y e x) (Block j) _ (λ q. omega (arith, at_least s 5))
      (by_side_lem (UpTo (in_order s 5)) (λ s. under (ruby s p) y e x) (λ s. Under s j e.before) _ (λ o q. omega (arith, at_most o 3, at_least s 5))
      (side-upto 5 (λ s. over p y (ruby s e) x) (λ s. Over s j p.after) rest (λ s. refl) s m))

module _ (es : List Element) (xs : List ℕ) where
  -- the ruby of a side, and the nearest that it touches
  rubies-by : (P : Reason → Type 0) (s : Side) (z n : ℕ) (rest : Reason) →
      ((k : ℕ) → k < n → meets (ruby s (el es k)) (org xs k) z ≡ true → P (Ruby s k)) → P rest → P (rubies s es xs z n rest)
  unfolding rubies
  rubies-by P s z zero rest f r = r
  rubies-by P s z (suc k) rest f r =
      by P (meets (ruby s (el es k)) (org xs k) z) (Ruby s k) (rubies s es xs z k rest) (f k (omega arith)) (rubies-by P s z k rest (λ j h. f j (omega arith)) r)

  rubies_of_lem : (P : Reason → Type 0) (s : Side) (i : ℕ) (rest : Reason) → ((k : ℕ) → Holds es xs i (Ruby s k) → P (Ruby s k)) → P rest → P (rubies_of s es xs i rest)
  rubies_of_lem P s i rest f r =
      by P (ruby s (el es i)).there _ rest
      (λ e. rubies-by P s (ruby_at s es xs i).start i rest
      (λ k h m. let q = both (ruby s (el es k)).there _ m in f k (h, q.0, flagged (ruby s (el es i)).there e, eqb-true _ _ q.1)) r) r

  -- both sides, and the line's start
  abbrev at_start : ℕ → Reason
  at_start i = by_side (λ s. starts (ruby s (el es i)) (org xs i)) Edge Free

  by_ruby_lem : (P : Reason → Type 0) (i : ℕ) → ((s : Side) (k : ℕ) → Holds es xs i (Ruby s k) → P (Ruby s k)) → P (at_start i) → P (by_ruby es xs i)
  by_ruby_lem P i f r = rubies_of_lem P Right i _ (f Right) (rubies_of_lem P Left i _ (f Left) r)

  -- What is picked holds.
  holds-ruby : (i : ℕ) → Holds es xs i (by_ruby es xs i)
  holds-ruby i =
      by_ruby_lem (Holds es xs i) i (λ s k h. h)
      (by_side_lem (Holds es xs i) (λ s. starts (ruby s (el es i)) (org xs i)) Edge Free
      (λ s m. let q = both (ruby s (el es i)).there _ m in (q.0, eqb-true _ _ q.1)) tt)

  holds-neighbour : (i : ℕ) (rest : Reason) → Holds es xs i rest → Holds es xs i (neighbour es xs i rest)
  unfolding neighbour
  holds-neighbour zero rest r = r
  holds-neighbour (suc j) rest r =
      beside-by (Holds es xs (suc j)) j (el es j) (org xs j) (el es (suc j)) (org xs (suc j)) rest
      (λ m. (refl, eqb-true _ _ m))
      (λ s m. let q = both (ruby s (el es j)).there _ m in (refl, q.0, refl, eqb-true _ _ q.1))
      (λ s m. let q = both (ruby s (el es (suc j))).there _ m in (refl, q.0, refl, eqb-true _ _ q.1))
      r

  holds-reason : (i : ℕ) → Holds es xs i (reason es xs i)
  unfolding reason
  holds-reason i =
      by (Holds es xs i) (eqb (block_at es xs i).start 0) Start (neighbour es xs i (by_ruby es xs i))
      (λ m. eqb-true _ _ m) (holds-neighbour i (by_ruby es xs i) (holds-ruby i))

  -- Nothing that holds comes before it.
  neighbour-upto : (n i : ℕ) (rest : Reason) → 6 ≤ n → UpTo n rest → UpTo n (neighbour es xs i rest)
  unfolding neighbour
  neighbour-upto n zero rest h r = r
  neighbour-upto n (suc j) rest h r =
      beside-by (UpTo n) j (el es j) (org xs j) _ (org xs (suc j)) rest (λ m. omega arith) (λ s m. omega (arith, at_most s 3)) (λ s m. omega (arith, at_most s 5)) r

  reason-upto : (n i : ℕ) → 1 ≤ n → UpTo n (neighbour es xs i (by_ruby es xs i)) → UpTo n (reason es xs i)
  unfolding reason
  reason-upto n i h r = by (UpTo n) (eqb (block_at es xs i).start 0) Start (neighbour es xs i (by_ruby es xs i)) (λ m. h) r

  -- ruby that touches that of k: the pick is k's or a nearer one
  found : (P : Reason → Type 0) (s : Side) (z n : ℕ) (rest : Reason) (k : ℕ) → k < n → meets (ruby s (el es k)) (org xs k) z ≡ true →
      ((j : ℕ) → k ≤ j → P (Ruby s j)) → P (rubies s es xs z n rest)
  unfolding rubies
  found P s z zero rest k h m f = absurd (omega arith)
  found P s z (suc n) rest k h m f =
      elim (dec_lt k n) [
        | yes l ↦ by P (meets (ruby s (el es n)) (org xs n) z) (Ruby s n) (rubies s es xs z n rest) (λ q. f n (omega arith)) (found P s z n rest k l m f)
        | no l ↦ here (same l)
      ]
    where
      same : (k < n → ⊥) → k ≡ n
      same l = omega arith

      here : k ≡ n → P (rubies s es xs z (suc n) rest)
      here q =
          subst P (sym (ap (λ t. cond t (Ruby s n) (rubies s es xs z n rest)) (subst (λ a. meets (ruby s (el es a)) (org xs a) z ≡ true) q m)))
          (f n (omega arith))

  found_of : (P : Reason → Type 0) (s : Side) (i : ℕ) (rest : Reason) (k : ℕ) → Holds es xs i (Ruby s k) → ((j : ℕ) → k ≤ j → P (Ruby s j)) → P (rubies_of s es xs i rest)
  found_of P s i rest k (h, t, w, m) f =
      pick P (ruby s (el es i)).there _ rest (flag_true _ w)
      (found P s (ruby_at s es xs i).start i rest k h (and-true (ruby s (el es k)).there _ t (eq-eqb _ _ m)) f)

  -- on either side; a right one that is picked where a left one was looked for comes first
  found-reason : (P : Reason → Type 0) (s : Side) (i k : ℕ) → Holds es xs i (Ruby s k) → ((j : ℕ) → k ≤ j → P (Ruby s j)) →
      ((j : ℕ) → in_order s 7 ≡ 8 → P (Ruby Right j)) → P (by_ruby es xs i)
  found-reason P Right i k h f g = found_of P Right i _ k h f
  found-reason P Left i k h f g = rubies_of_lem P Right i _ (λ j q. g j refl) (found_of P Left i _ k h f)

  edge-upto : (s : Side) (i : ℕ) → Holds es xs i (Edge s) → UpTo (in_order s 9) (by_ruby es xs i)
  edge-upto s i (t, m) =
      by_ruby_lem (UpTo (in_order s 9)) i (λ o k h. omega (arith, at_most o 7, at_least s 9))
      (side-upto 9 (λ s. starts (ruby s (el es i)) (org xs i)) Edge Free (λ s. refl) s (and-true (ruby s (el es i)).there _ t (eq-eqb _ _ m)))

  -- rules 1 and 2
  module _ (i : ℕ) (rest : Reason) where
    neighbour-block : (j : ℕ) → Holds es xs i (Block j) → UpTo 2 (neighbour es xs i rest)
    unfolding neighbour
    neighbour-block j = go i
      where
        go : (i : ℕ) → Holds es xs i (Block j) → UpTo 2 (neighbour es xs i rest)
        go zero (e, m) = absurd (omega arith)
        go (suc i) (e, m) =
            block-upto i (el es i) (org xs i) (el es (suc i)) (org xs (suc i)) rest
            (subst (λ a. touches (el es a) (org xs a) (el es (suc i)) (org xs (suc i)) ≡ true) (down e) (eq-eqb _ _ m))

    neighbour-under : (s : Side) (j d : ℕ) → Holds es xs i (Under s j d) → UpTo (in_order s 3) (neighbour es xs i rest)
    unfolding neighbour
    neighbour-under s j d = go i
      where
        go : (i : ℕ) → Holds es xs i (Under s j d) → UpTo (in_order s 3) (neighbour es xs i rest)
        go zero (e, t, v, m) = absurd (omega arith)
        go (suc i) (e, t, v, m) =
            under-upto i (el es i) (org xs i) (el es (suc i)) (org xs (suc i)) rest s
            (subst (λ a. under (ruby s (el es a)) (org xs a) (el es (suc i)) (org xs (suc i)) ≡ true) (down e)
            (and-true (ruby s (el es j)).there _ t (eq-eqb _ _ (m ∙ ap (λ a. (block_at es xs (suc i)).start + a) v))))

    neighbour-over : (s : Side) (j d : ℕ) → Holds es xs i (Over s j d) → UpTo (in_order s 5) (neighbour es xs i rest)
    unfolding neighbour
    neighbour-over s j d = go i
      where
        go : (i : ℕ) → Holds es xs i (Over s j d) → UpTo (in_order s 5) (neighbour es xs i rest)
        go zero (e, t, v, m) = absurd (omega arith)
        go (suc i) (e, t, v, m) =
            over-upto i (el es i) (org xs i) (el es (suc i)) (org xs (suc i)) rest s
            (subst (λ a. over (el es a) (org xs a) (ruby s (el es (suc i))) (org xs (suc i)) ≡ true) (down e)
            (and-true (ruby s (el es (suc i))).there _ t (eq-eqb _ _ (m ∙ ap (λ a. (ruby_at s es xs (suc i)).start + a) v))))

  first-reason : (i : ℕ) (q : Reason) → Holds es xs i q → UpTo (rank q) (reason es xs i)
  unfolding reason
  first-reason i Start h = pick (UpTo 1) (eqb (block_at es xs i).start 0) Start _ (eq-eqb _ _ h) (omega arith)
  first-reason i (Block j) h = reason-upto 2 i (omega arith) (neighbour-block i _ j h)
  first-reason i (Under s j d) h = reason-upto (in_order s 3) i (omega (arith, at_least s 3)) (neighbour-under i _ s j d h)
  first-reason i (Over s j d) h = reason-upto (in_order s 5) i (omega (arith, at_least s 5)) (neighbour-over i _ s j d h)
  first-reason i (Ruby s k) h =
      let n = at_least s 7 in
      reason-upto (in_order s 7) i (omega arith)
      (neighbour-upto (in_order s 7) i _ (omega arith) (found-reason (UpTo (in_order s 7)) s i k h (λ j l. omega arith) (λ j e. omega arith)))
  first-reason i (Edge s) h = let n = at_least s 9 in reason-upto (in_order s 9) i (omega arith) (neighbour-upto (in_order s 9) i _ (omega arith) (edge-upto s i h))
  first-reason i Free h = last (reason es xs i)

  -- Of the rubies that it touches it names the nearest.
  abbrev Past : Side → ℕ → Reason → Type 0
  Past s k r = rank r ≡ in_order s 7 → k ≤ other r

  neighbour-past : (s : Side) (k i : ℕ) (rest : Reason) → Past s k rest → Past s k (neighbour es xs i rest)
  unfolding neighbour
  neighbour-past s k zero rest r = r
  neighbour-past s k (suc j) rest r =
      let n = at_least s 7 in
      beside-by (Past s k) j (el es j) (org xs j) (el es (suc j)) (org xs (suc j)) rest (λ m e. absurd (omega arith))
      (λ o m e. absurd (omega (arith, at_most o 3))) (λ o m e. absurd (omega (arith, at_most o 5))) r

  nearest-reason : (s : Side) (i k : ℕ) → Holds es xs i (Ruby s k) → Past s k (reason es xs i)
  unfolding reason
  nearest-reason s i k h =
      by (Past s k) (eqb (block_at es xs i).start 0) Start (neighbour es xs i (by_ruby es xs i)) (λ m e. absurd (omega (arith, at_least s 7)))
      (neighbour-past s k i (by_ruby es xs i) (found-reason (Past s k) s i k h (λ j l e. l) (λ j q e. absurd (omega arith))))

  pub right : (i : ℕ) → First es xs i (reason es xs i)
  right i =
      record {
        holds = holds-reason i;
        first = first-reason i;
        nearest = λ s j k e h. omega (arith, nearest-reason s i k h (ap rank e), ap other e);
      }

-- One first reason: rank, other element and depth make it up, and each is settled.

made : ℕ → ℕ → ℕ → Reason
made n j d =
    cond (eqb n 1) Start (cond (eqb n 2) (Block j)
    (cond (eqb n 3) (Under Right j d) (cond (eqb n 4) (Under Left j d)
    (cond (eqb n 5) (Over Right j d) (cond (eqb n 6) (Over Left j d)
    (cond (eqb n 7) (Ruby Right j) (cond (eqb n 8) (Ruby Left j)
    (cond (eqb n 9) (Edge Right) (cond (eqb n 10) (Edge Left) Free)))))))))

made-under : (s : Side) (j d : ℕ) → made (in_order s 3) j d ≡ Under s j d
unfolding made
made-under Right j d = refl
made-under Left j d = refl

made-over : (s : Side) (j d : ℕ) → made (in_order s 5) j d ≡ Over s j d
unfolding made
made-over Right j d = refl
made-over Left j d = refl

made-ruby : (s : Side) (j d : ℕ) → made (in_order s 7) j d ≡ Ruby s j
unfolding made
made-ruby Right j d = refl
made-ruby Left j d = refl

made-edge : (s : Side) (j d : ℕ) → made (in_order s 9) j d ≡ Edge s
unfolding made
made-edge Right j d = refl
made-edge Left j d = refl

remade : (r : Reason) → made (rank r) (other r) (depth r) ≡ r
unfolding made
remade Start = refl
remade (Block j) = refl
remade (Under s j d) = made-under s j d
remade (Over s j d) = made-over s j d
remade (Ruby s j) = made-ruby s j 0
remade (Edge s) = made-edge s 0 0
remade Free = refl

as_made : (n : ℕ) (r : Reason) → rank r ≡ n → r ≡ made n (other r) (depth r)
as_made n r e = sym (remade r) ∙ ap (λ m. made m (other r) (depth r)) e

module _ (es : List Element) (xs : List ℕ) (i : ℕ) (q : Reason) (g : First es xs i q) where
  -- what q is, by its rank, and that it holds
  again : (r : Reason) → q ≡ r → Holds es xs i r
  again r e = subst (Holds es xs i) e g.holds

  is-under : (s : Side) → rank q ≡ in_order s 3 → q ≡ Under s (other q) (depth q)
  is-under s e = as_made (in_order s 3) q e ∙ made-under s (other q) (depth q)

  is-over : (s : Side) → rank q ≡ in_order s 5 → q ≡ Over s (other q) (depth q)
  is-over s e = as_made (in_order s 5) q e ∙ made-over s (other q) (depth q)

  is-ruby : (s : Side) → rank q ≡ in_order s 7 → q ≡ Ruby s (other q)
  is-ruby s e = as_made (in_order s 7) q e ∙ made-ruby s (other q) (depth q)

  is-edge : (s : Side) → rank q ≡ in_order s 9 → q ≡ Edge s
  is-edge s e = as_made (in_order s 9) q e ∙ made-edge s (other q) (depth q)

  ranked : (r : Reason) → First es xs i r → rank q ≡ rank r → r ≡ q
  unfolding made
  ranked Start f e = sym (as_made 1 q e)
  ranked (Block j) f e =
      let k = as_made 2 q e in
      ap (λ k. Block k) (omega (arith, f.holds.0, (again (Block (other q)) k).0)) ∙ sym k
  ranked (Under s j d) f e =
      let k = is-under s e in
      let a = again (Under s (other q) (depth q)) k in
      ap₂ (λ k b. Under s k b) (omega (arith, f.holds.0, a.0)) (f.holds.2 ∙ sym a.2) ∙ sym k
  ranked (Over s j d) f e =
      let k = is-over s e in
      let a = again (Over s (other q) (depth q)) k in
      let o : j ≡ other q = omega (arith, f.holds.0, a.0) in
      ap₂ (λ k b. Over s k b) o (f.holds.2 ∙ ap (λ k. (el es k).after) o ∙ sym a.2) ∙ sym k
  ranked (Ruby s j) f e =
      let k = is-ruby s e in
      ap (λ k. Ruby s k) (le_antisymm (g.nearest s (other q) j k f.holds) (f.nearest s j (other q) refl (again (Ruby s (other q)) k))) ∙ sym k
  ranked (Edge s) f e = sym (is-edge s e)
  ranked Free f e = sym (as_made 11 q e)

  pub only : (r : Reason) → First es xs i r → r ≡ q
  only r f = ranked r f (le_antisymm (g.first r f.holds) (f.first q g.holds))
