-- What a walk over the elements needs to know to fill lines, for a job that passes the door: one element more in the line, one break more among the tries,
-- and where the search may stop. Nothing here says what a line is; `Line` does.
use Rattle.std.specs.Prelude.{◌≡◌, refl, Bool, true, false, cond, ◌&&◌, ◌||◌, ◌⊎◌, ℕ, zero, suc, ◌+◌, ◌-◌, ◌*◌, ◌≤◌, ◌<◌, min, max, leb, ltb, length, get_or, List, [], ◌∷◌, ◌++◌, map}
use Rattle.std.proofs.Common.{sym, ◌∙◌, subst, true≢false, inl, inr, add-zero, arith, lt-ltb, le-ltb, eq-eqb, ne_eqb, ltb-true, ltb-false, ap, ap₂, append-nil, append_assoc}
use mathlib.Core.List.{map-append}
use Rattle.std.proofs.lemmas.Bool.{lt-leb}
use Rattle.std.proofs.Math.Dec.{eqb}
use Rattle.std.proofs.lemmas.List.{length-map}
use Rattle.basics.specs.Lists.{count, any, keep, each, All, last_or}
use Rattle.basics.specs.Laws.{none_any}
use Rattle.word.specs.Both.{apart}
use Rattle.line.specs.declared.Element.{Element}
use Rattle.line.specs.declared.State.{State}
use Rattle.line.specs.Setting.{start, put, origin, settle_from, settle, run}
use Rattle.line.specs.declared.Side.{Side}
use Rattle.line.specs.Setting as setting
use Rattle.line.specs.Least.{run_append}
use Rattle.line.proofs.Extent.{run-grows}
use Rattle.line.proofs.Theorems.{prefix, extent-state}
use Rattle.door.specs.declared.Piece.{Piece}
use Rattle.door.specs.Job.{Job, base_count}
use Rattle.job.specs.Line.{part, cuts, in_line, pieces, seen, line_of, origins, extent_of, can_set, ends_in, permitted, tries, furthest, along, base_at, reading_at, base_in, reading_in}
use Rattle.job.specs.Laws.{any_append, count-join, keep_append, keep-keep, last_append}
use Rattle.job.specs.Pieces.{IsElement, Single, IsWord}
use Rattle.job.proofs.Pieces.{in_whole, in_cut, into, none_before, beyond}
use Rattle.job.proofs.Apart.{apart-is}
use Rattle.job.specs.Walk.{state_of, next, best}

-- One word more in the line.

module _ (job : Job) (x : Piece) (at : IsWord job x) where
  -- the whole word
  pub whole : (s : ℕ) → s ≤ x.base → pieces job s (x.base + x.bases) ≡ pieces job s x.base ++ (x ∷ [])
  whole s h =
      into job x at s (x.base + x.bases) (omega arith) (omega arith)
      ∙ ap (λ ps. pieces job s x.base ++ ps) (in_whole job s (x.base + x.bases) x at.good.counts.some h (omega arith))

  module _ (jukugo : cuts job x ≡ true) where
    -- the first j base characters of a J that is cut
    pub cut : (s j : ℕ) → s ≤ x.base → 0 < j → j < x.bases → pieces job s (x.base + j) ≡ pieces job s x.base ++ (part job x 0 j ∷ [])
    cut s j h some less =
        into job x at s (x.base + j) (omega arith) (omega arith)
        ∙ ap (λ ps. pieces job s x.base ++ ps) (in_cut job s (x.base + j) x jukugo 0 j (first s x.base h) (last x.base x.bases less) some less)
      where
        first : (s b : ℕ) → s ≤ b → max s b ≡ b + 0
        first s b h = omega arith

        last : (b n : ℕ) → j < n → min (b + j) (b + n) ≡ b + 0 + j
        last b n h = omega arith

    -- a line that begins in a J
    pub inside : (s e : ℕ) → x.base < s → s < e → e ≤ x.base + x.bases → pieces job s e ≡ part job x (s - x.base) (e - s) ∷ []
    inside s e l h k =
        into job x at s e (omega arith) k
        ∙ rw (none_before job x at s (omega arith)) (in_cut job s e x jukugo (s - x.base) (e - s) (first s x.base l) (last x.base x.bases l k) (omega arith) (omega arith))
      where
        first : (s b : ℕ) → b < s → max s b ≡ b + (s - b)
        first s b h = omega arith

        last : (b n : ℕ) → b < s → e ≤ b + n → min e (b + n) ≡ b + (s - b) + (e - s)
        last b n l k = omega arith

pub extent_of_lem : (job : Job) (s e : ℕ) → extent_of job s e ≡ setting.furthest (state_of job s e)
unfolding extent_of origins
extent_of_lem job s e = extent-state (line_of job s e)

pub can_set_lem : (job : Job) (s e : ℕ) → can_set job s e ≡ leb (setting.furthest (state_of job s e)) (2 * job.measure)
unfolding can_set
can_set_lem job s e = ap (λ n. leb n (2 * job.measure)) (extent_of_lem job s e)

-- a line with one piece more
module _ (job : Job) (s d e : ℕ) (p : Piece) (more : pieces job s e ≡ pieces job s d ++ (p ∷ [])) where
  line-more : line_of job s e ≡ line_of job s d ++ (seen job p ∷ [])
  unfolding line_of
  line-more = ap (map (seen job)) more ∙ map-append (seen job) (pieces job s d) (p ∷ [])

  pub state-more : state_of job s e ≡ next (state_of job s d) (seen job p)
  unfolding run
  state-more = ap (run start) line-more ∙ run_append start (line_of job s d) (seen job p ∷ [])

  pub origins-more : origins job s e ≡ origins job s d ++ (origin (state_of job s d) (seen job p) ∷ [])
  unfolding origins settle_from
  origins-more = ap settle line-more ∙ prefix (line_of job s d) (seen job p ∷ [])

-- an origin for each piece
length-settle : (st : State) (es : List Element) → length (settle_from st es) ≡ length es
unfolding settle_from
length-settle st [] = refl
length-settle st (e ∷ es) = ap suc (length-settle (put st e (origin st e)) es)

pub length-origins : (job : Job) (s e : ℕ) → length (origins job s e) ≡ length (pieces job s e)
unfolding origins line_of
length-origins job s e = length-settle start (map (seen job) (pieces job s e)) ∙ length-map (pieces job s e) (seen job)

along-more : (f : Piece → ℕ → List ℕ) (ps : List Piece) (xs : List ℕ) (p : Piece) (x : ℕ) → length xs ≡ length ps → along f (ps ++ (p ∷ [])) (xs ++ (x ∷ [])) ≡ along f ps xs ++ f p x
along-more f [] [] p x h = append-nil (f p x)
along-more f [] (y ∷ ys) p x h = absurd (omega arith)
along-more f (q ∷ qs) [] p x h = absurd (omega arith)
along-more f (q ∷ qs) (y ∷ ys) p x h = ap (λ zs. f q y ++ zs) (along-more f qs ys p x (omega arith)) ∙ sym (append_assoc (f q y) (along f qs ys) (f p x))

-- and the positions of its characters, for the pass that writes
module _ (job : Job) (s d e : ℕ) (p : Piece) (more : pieces job s e ≡ pieces job s d ++ (p ∷ [])) where
  pub base_more : base_in job s e ≡ base_in job s d ++ base_at job p (origin (state_of job s d) (seen job p))
  unfolding base_in
  base_more = ap₂ (along (base_at job)) more (origins-more job s d e p more) ∙ along-more (base_at job) (pieces job s d) (origins job s d) p _ (length-origins job s d)

  pub reading-more : (side : Side) → reading_in side job s e ≡ reading_in side job s d ++ reading_at side job p (origin (state_of job s d) (seen job p))
  unfolding reading_in
  reading-more side =
      ap₂ (along (reading_at side job)) more (origins-more job s d e p more) ∙ along-more (reading_at side job) (pieces job s d) (origins job s d) p _ (length-origins job s d)

-- a line that has not begun
module _ (job : Job) (s e : ℕ) (none : pieces job s e ≡ []) where
  pub state-none : state_of job s e ≡ start
  unfolding run line_of
  state-none = rw none

  pub base-none : base_in job s e ≡ []
  unfolding base_in
  base-none = ap (λ ps. along (base_at job) ps (origins job s e)) none

  pub reading-none : (side : Side) → reading_in side job s e ≡ []
  unfolding reading_in
  reading-none side = ap (λ ps. along (reading_at side job) ps (origins job s e)) none

-- Where a line may end.

-- an element that ends before e, or begins at or after it, has no break there
ends_behind : (job : Job) (e : ℕ) (x : Piece) → x.base + x.bases < e → ends_in job e x ≡ false
ends_behind job e x h = rw (ne_eqb e (x.base + x.bases) (λ z. omega arith), le-ltb e (x.base + x.bases) (omega arith)) (go (cuts job x) (ltb x.base e))
  where
    go : (a b : Bool) → (a && (b && false)) ≡ false
    go true true = refl
    go true false = refl
    go false b = refl

ends-ahead : (job : Job) (e : ℕ) (x : Piece) → 0 < x.bases → e ≤ x.base → ends_in job e x ≡ false
ends-ahead job e x some h = rw (ne_eqb e (x.base + x.bases) (λ z. omega arith), le-ltb x.base e h) (go (cuts job x))
  where
    go : (a : Bool) → (a && false) ≡ false
    go true = refl
    go false = refl

module _ (job : Job) (x : Piece) (at : IsElement job x) where
  -- only the element itself has a break past its first base character and up to its end
  permitted_in : (e : ℕ) → x.base < e → e ≤ x.base + x.bases → permitted job e ≡ (eqb e (base_count job) || ends_in job e x)
  unfolding permitted
  permitted_in e l h =
      ap (λ t. eqb e (base_count job) || t)
      (ap (any (ends_in job e)) at.place.split ∙ any_append (ends_in job e) at.place.front (x ∷ at.place.rest)
      ∙ rw (none_any (ends_in job e) at.place.front (fronts at.place.front at.place.behind), none_any (ends_in job e) at.place.rest (rests at.place.rest at.place.ahead at.place.some)) (last (ends_in job e x)))
    where
      fronts : (xs : List Piece) → All (λ y. y.base + y.bases ≤ x.base) xs → All (λ y. ends_in job e y ≡ false) xs
      fronts [] a = tt
      fronts (y ∷ ys) a = (ends_behind job e y (omega (arith, a.0)), fronts ys a.1)

      rests : (xs : List Piece) → All (λ y. x.base + x.bases ≤ y.base) xs → All (λ y. 0 < y.bases) xs → All (λ y. ends_in job e y ≡ false) xs
      rests [] a b = tt
      rests (y ∷ ys) a b = (ends-ahead job e y b.0 (omega (arith, a.0)), rests ys a.1 b.1)

      last : (t : Bool) → (t || false) ≡ t
      last true = refl
      last false = refl

  -- at its end: where the flag is 1, or at the job's end
  element-end : permitted job (x.base + x.bases) ≡ (eqb (x.base + x.bases) (base_count job) || eqb (get_or job.flag (x.base + x.bases - 1) 0) 1)
  element-end =
      permitted_in (x.base + x.bases) (omega (arith, at.good.counts.some)) (omega arith)
      ∙ rw (eq-eqb (x.base + x.bases) (x.base + x.bases) refl, le-ltb (x.base + x.bases) (x.base + x.bases) (omega arith))
      (ap (λ t. eqb (x.base + x.bases) (base_count job) || t) (go (eqb (get_or job.flag (x.base + x.bases - 1) 0) 1) (cuts job x) (ltb x.base (x.base + x.bases))))
    where
      go : (f a b : Bool) → (f || (a && (b && false))) ≡ f
      go true a b = refl
      go false true true = refl
      go false true false = refl
      go false false b = refl

  -- within it: where it is cut
  pub element-within : (e : ℕ) → x.base < e → e < x.base + x.bases → permitted job e ≡ cuts job x
  element-within e l h =
      permitted_in e l (omega arith)
      ∙ rw (ne_eqb e (base_count job) (λ z. omega (arith, at.good.inside)), ne_eqb e (x.base + x.bases) (λ z. omega arith), lt-ltb x.base e l, lt-ltb e (x.base + x.bases) h)
      (go (cuts job x))
    where
      go : (a : Bool) → (a && true) ≡ a
      go true = refl
      go false = refl

-- a J with a mono left reading is cut
pub apart-cuts : (job : Job) (y : Piece) → apart y.form y.gloss ≡ true → cuts job y ≡ true
unfolding cuts
apart-cuts job y e = let q = apart-is y.form y.gloss e in rw (q.0, q.1)

part-one : (job : Job) (y : Piece) (i : ℕ) → (part job y i 1).bases ≡ 1
unfolding part
part-one job y i = refl

-- at the end of each of its characters a line may end, at the last one's by the flag
single-end : (job : Job) (y : Piece) → IsElement job y → apart y.form y.gloss ≡ true → (i : ℕ) → i < y.bases → let x = part job y i 1 in
    permitted job (x.base + x.bases) ≡ (eqb (x.base + x.bases) (base_count job) || (x.more || eqb (get_or job.flag (x.base + x.bases - 1) 0) 1))
unfolding part
single-end job y at separate i h = rw separate (go (ltb (i + 1) y.bases) refl)
  where
    or-true : (a : Bool) → (a || true) ≡ true
    or-true true = refl
    or-true false = refl

    last : (b i n : ℕ) → n ≤ i + 1 → i < n → b + i + 1 ≡ b + n
    last b i n h l = omega arith

    go : (t : Bool) → ltb (i + 1) y.bases ≡ t →
        permitted job (y.base + i + 1) ≡ (eqb (y.base + i + 1) (base_count job) || (t || eqb (get_or job.flag (y.base + i + 1 - 1) 0) 1))
    go true e = element-within job y at (y.base + i + 1) (omega arith) (omega (arith, ltb-true (i + 1) y.bases e)) ∙ apart-cuts job y separate ∙ sym (or-true (eqb (y.base + i + 1) (base_count job)))
    go false e = rw (last y.base i y.bases (ltb-false (i + 1) y.bases e) h) (element-end job y at)

-- Of a word: at its end a line may end where its element goes on behind it, where the flag is 1, or at the job's end; and within it where it is cut.
module _ (job : Job) (x : Piece) (at : IsWord job x) where
  pub permitted-end : permitted job (x.base + x.bases) ≡ (eqb (x.base + x.bases) (base_count job) || (x.more || eqb (get_or job.flag (x.base + x.bases - 1) 0) 1))
  permitted-end = go at.of.word
    where
      y : Piece
      y = at.of.element

      Claim : Piece → Type 0
      Claim p = permitted job (p.base + p.bases) ≡ (eqb (p.base + p.bases) (base_count job) || (p.more || eqb (get_or job.flag (p.base + p.bases - 1) 0) 1))

      go : (x ≡ y) ⊎ Single job y x → Claim x
      go (inl e) = subst Claim (sym e) (element-end job y at.of.good
          ∙ ap (λ (t : Bool). eqb (y.base + y.bases) (base_count job) || (t || eqb (get_or job.flag (y.base + y.bases - 1) 0) 1)) (sym at.of.good.last))
      go (inr s) = subst Claim (sym s.is) (single-end job y at.of.good s.separate s.at s.there)

  pub permitted-within : (e : ℕ) → x.base < e → e < x.base + x.bases → permitted job e ≡ cuts job x
  permitted-within e l h = go at.of.word
    where
      go : (x ≡ at.of.element) ⊎ Single job at.of.element x → permitted job e ≡ cuts job x
      go (inl q) = element-within job at.of.element at.of.good e (omega (arith, ap (λ (p : Piece). p.base) q)) (omega (arith, ap (λ (p : Piece). p.base) q, ap (λ (p : Piece). p.bases) q)) ∙ ap (cuts job) (sym q)
      go (inr s) = absurd (omega (arith, ap (λ (p : Piece). p.bases) s.is, part-one job at.of.element s.at))

-- up to the job's end it is where the line ends
pub best-all : (job : Job) (s : ℕ) → furthest job s ≡ best job s (base_count job)
unfolding best furthest tries
best-all job s = refl

-- none yet
pub best_none : (job : Job) (s c : ℕ) → c ≤ s → best job s c ≡ 0
unfolding best
best_none job s c h = rw (none s c h)
  where
    none : (s c : ℕ) → c ≤ s → c - s ≡ 0
    none s c h = omega arith

-- one try more
pub best-step : (job : Job) (s c : ℕ) → s ≤ c → best job s (c + 1) ≡ cond (permitted job (c + 1) && can_set job s (c + 1)) (c + 1) (best job s c)
unfolding best
best-step job s c h =
    ap (last_or 0) (keep-keep (permitted job) (can_set job s) (count (suc s) (c + 1 - s)) ∙ ap (keep p) more ∙ keep_append p (count (suc s) (c - s)) ((c + 1) ∷ []))
    ∙ go (p (c + 1)) (keep p (count (suc s) (c - s))) (sym (keep-keep (permitted job) (can_set job s) (count (suc s) (c - s))))
  where
    p : ℕ → Bool
    p c = permitted job c && can_set job s c

    next-is : (s c : ℕ) → s ≤ c → c + 1 ≡ suc s + (c - s)
    next-is s c h = omega arith

    more : count (suc s) (c + 1 - s) ≡ count (suc s) (c - s) ++ ((c + 1) ∷ [])
    more = sym (count-join (suc s) (c + 1) (c - s) 1 (c + 1 - s) (next-is s c h) (omega arith))

    go : (t : Bool) (xs : List ℕ) {ys : List ℕ} → xs ≡ ys → last_or 0 (xs ++ cond t ((c + 1) ∷ []) []) ≡ cond t (c + 1) (last_or 0 ys)
    go true xs e = last_append 0 xs (c + 1)
    go false xs e = ap (last_or 0) (append-nil xs ∙ e)

-- tries that fail, or are none, leave it
pub best-stays : (job : Job) (s c n : ℕ) → s ≤ c → ((d : ℕ) → c < d → d ≤ c + n → (permitted job d && can_set job s d) ≡ false) → best job s (c + n) ≡ best job s c
best-stays job s c zero h f = ap (best job s) (add-zero c)
best-stays job s c (suc n) h f =
    ap (best job s) (step c n) ∙ best-step job s (c + n) (omega arith) ∙ rw (f (c + n + 1) (omega arith) (omega arith)) (best-stays job s c n h (λ d l u. f d l (omega arith)))
  where
    step : (c n : ℕ) → c + suc n ≡ c + n + 1
    step c n = omega arith

no_and : (a b : Bool) → a ≡ false → (a && b) ≡ false
no_and true b e = absurd (true≢false e)
no_and false b e = refl

and_no : (a b : Bool) → b ≡ false → (a && b) ≡ false
and_no true b e = e
and_no false b e = refl

module _ (job : Job) (x : Piece) (at : IsWord job x) where
  -- a word that is not cut has one try, at its end
  pub best-over : (s : ℕ) → cuts job x ≡ false → s ≤ x.base →
      best job s (x.base + x.bases) ≡ cond (permitted job (x.base + x.bases) && can_set job s (x.base + x.bases)) (x.base + x.bases) (best job s x.base)
  best-over s j h = go (x.bases - 1) (omega (arith, at.good.counts.some))
    where
      go : (n : ℕ) → x.bases ≡ n + 1 →
          best job s (x.base + x.bases) ≡ cond (permitted job (x.base + x.bases) && can_set job s (x.base + x.bases)) (x.base + x.bases) (best job s x.base)
      go n e =
          subst (λ c. best job s c ≡ cond (permitted job c && can_set job s c) c (best job s x.base)) (last x.base x.bases e)
          (best-step job s (x.base + n) (omega arith)
          ∙ ap (cond (permitted job (x.base + n + 1) && can_set job s (x.base + n + 1)) (x.base + n + 1))
          (best-stays job s x.base n h (λ d l u. no_and (permitted job d) (can_set job s d) (permitted-within job x at d l (omega arith) ∙ j))))
        where
          last : (b m : ℕ) → m ≡ n + 1 → b + n + 1 ≡ b + m
          last b m e = omega arith

  -- a longer line reaches at least as far
  pub grows : (s e : ℕ) → x.base + x.bases ≤ e → setting.furthest (state_of job s (x.base + x.bases)) ≤ setting.furthest (state_of job s e)
  unfolding line_of
  grows s e h =
      let old = line_of job s (x.base + x.bases) in
      let new = map (seen job) (each (in_line job s e) at.rest) in
      let same : line_of job s e ≡ old ++ new = ap (map (seen job)) (beyond job x at s e h) ∙ map-append (seen job) (pieces job s (x.base + x.bases)) (each (in_line job s e) at.rest) in
      rw (same, run_append start old new) (run-grows (run start old) new)

  -- so once the elements up to its end pass the measure, no break from there on can be set,
  pub too_long : (s e : ℕ) → 2 * job.measure < setting.furthest (state_of job s (x.base + x.bases)) → x.base + x.bases ≤ e → can_set job s e ≡ false
  too_long s e h k = can_set_lem job s e ∙ lt-leb (setting.furthest (state_of job s e)) (2 * job.measure) (omega (arith, grows s e k))

  -- and the search may stop
  pub stop : (s : ℕ) → s < x.base + x.bases → 2 * job.measure < setting.furthest (state_of job s (x.base + x.bases)) → furthest job s ≡ best job s (x.base + x.bases - 1)
  stop s l h = best-all job s ∙ go (x.base + x.bases - 1) (omega arith)
    where
      rest : (c n : ℕ) → c + 1 ≤ n → n ≡ c + (n - c)
      rest c n h = omega arith

      go : (c : ℕ) → c + 1 ≡ x.base + x.bases → best job s (base_count job) ≡ best job s c
      go c e =
          ap (best job s) (rest c (base_count job) (omega (arith, at.good.inside)))
          ∙ best-stays job s c (base_count job - c) (omega arith) (λ d u v. and_no (permitted job d) (can_set job s d) (too_long s d h (omega arith)))
