-- The index of an element in the job, by a base character of it: so the account names elements. Elements stand one after the other, so those that have ended are those before it;
-- within a word the index stays, and behind a word it is the next one unless the word's element goes on.
use Rattle.std.specs.Prelude.{◌≡◌, refl, Bool, true, false, cond, List, [], ◌∷◌, ◌++◌, ◌⊎◌, ℕ, suc, ◌+◌, ◌≤◌, ◌<◌, leb, ltb, length}
use Rattle.std.proofs.Common.{sym, ap, ap₂, ◌∙◌, subst, append-nil, inl, inr, zero-le, arith, le-leb, lt-ltb, le-ltb, length-append}
use Rattle.std.proofs.Math.Decide.{dec_lt}
use Rattle.std.proofs.lemmas.Bool.{lt-leb}
use Rattle.std.proofs.Math.Seq.{append_snoc}
use Rattle.basics.specs.Lists.{keep, All}
use Rattle.basics.specs.Laws.{all_map}
use Rattle.door.specs.declared.Piece.{Piece}
use Rattle.door.specs.Job.{Job, elements}
use Rattle.door.specs.Passed.{GoodElement, Passed}
use Rattle.job.specs.Line.{part}
use Rattle.job.specs.Laws.{keep_append}
use Rattle.job.specs.Pieces.{IsElement, Single, IsWord}
use Rattle.job.specs.Walk.{length-elements}

abbrev ends_by : ℕ → Piece → Bool
ends_by s x = leb (x.base + x.bases) s

-- the elements before the one that has base character s: those that end at or before it
unfoldable pub first_in : Job → ℕ → ℕ
unfolding elements
first_in job s = length (keep (ends_by s) (elements job))

keeps-all : (s : ℕ) (xs : List Piece) → All (λ x. x.base + x.bases ≤ s) xs → keep (ends_by s) xs ≡ xs
keeps-all s [] a = refl
keeps-all s (x ∷ xs) a = rw (le-leb (x.base + x.bases) s a.0) (ap {B = List Piece} (λ ys. x ∷ ys) (keeps-all s xs a.1))

keeps-none : (s : ℕ) (xs : List Piece) → All (λ x. s < x.base + x.bases) xs → keep (ends_by s) xs ≡ []
keeps-none s [] a = refl
keeps-none s (x ∷ xs) a = rw (lt-leb (x.base + x.bases) s a.0) (keeps-none s xs a.1)

-- as many as have ended, where the others have not
counted : (job : Job) (front rest : List Piece) → elements job ≡ front ++ rest →
    (s : ℕ) → All (λ y. y.base + y.bases ≤ s) front → All (λ y. s < y.base + y.bases) rest → first_in job s ≡ length front
unfolding first_in
counted job front rest split s past later =
    ap length (ap (keep (ends_by s)) split ∙ keep_append (ends_by s) front rest
    ∙ ap₂ {C = List Piece} (λ ys zs. ys ++ zs) (keeps-all s front past) (keeps-none s rest later)
    ∙ append-nil front)

-- the elements ahead of y, which have some characters
ahead_of : (y : Piece) (xs : List Piece) → All (λ z. y.base + y.bases ≤ z.base) xs → All (λ z. 0 < z.bases) xs →
    (s : ℕ) → s ≤ y.base + y.bases → All (λ z. s < z.base + z.bases) xs
ahead_of y [] a b s h = tt
ahead_of y (z ∷ zs) a b s h = (omega (arith, a.0, b.0), ahead_of y zs a.1 b.1 s h)

-- within an element those before it have ended, and at its end it has ended too
module _ (job : Job) (y : Piece) (at : IsElement job y) where
  within-element : (s : ℕ) → y.base ≤ s → s < y.base + y.bases → first_in job s ≡ length at.place.front
  within-element s from before =
      let m = at.place in
      counted job m.front (y ∷ m.rest) m.split s
      (all_map (λ z. z.base + z.bases ≤ y.base) (λ z. z.base + z.bases ≤ s) m.front (λ z h. omega arith) m.behind)
      (before, ahead_of y m.rest m.ahead m.some s (omega arith))

  past-element : first_in job (y.base + y.bases) ≡ length at.place.front + 1
  past-element =
      let m = at.place in
      counted job (m.front ++ (y ∷ [])) m.rest (m.split ∙ sym (append_snoc m.front y m.rest)) (y.base + y.bases)
      (ends_of m.front m.behind)
      (ahead_of y m.rest m.ahead m.some (y.base + y.bases) (omega arith))
      ∙ length-append m.front (y ∷ [])
    where
      ends_of : (xs : List Piece) → All (λ z. z.base + z.bases ≤ y.base) xs → All (λ z. z.base + z.bases ≤ y.base + y.bases) (xs ++ (y ∷ []))
      ends_of [] a = (omega arith, tt)
      ends_of (x ∷ xs) a = (omega (arith, a.0), ends_of xs a.1)

-- a word lies in one element, which goes on behind it unless it ends with it
record Inside (y x : Piece) : Type 0 where
  pub from : y.base ≤ x.base
  pub ends : x.base + x.bases ≤ y.base + y.bases
  pub more : x.more ≡ ltb (x.base + x.bases) (y.base + y.bases)

inside : (job : Job) (y x : Piece) → IsElement job y → (x ≡ y) ⊎ Single job y x → Inside y x
unfolding part
inside job y x at (inl e) =
    subst (λ z. Inside y z) (sym e) (record { from = omega arith; ends = omega arith; more = at.last ∙ sym (le-ltb (y.base + y.bases) (y.base + y.bases) (omega arith)) })
inside job y x at (inr w) =
    subst (λ z. Inside y z) (sym w.is) (record { from = omega arith; ends = omega (arith, w.there); more = rw w.separate (shift y.base w.at y.bases) })
  where
    shift : (b i n : ℕ) → ltb (i + 1) n ≡ ltb (b + i + 1) (b + n)
    shift b i n =
        elim (dec_lt (i + 1) n) [
          | yes h ↦ lt-ltb (i + 1) n h ∙ sym (lt-ltb (b + i + 1) (b + n) (omega arith))
          | no h ↦ le-ltb (i + 1) n (omega arith) ∙ sym (le-ltb (b + i + 1) (b + n) (omega arith))
        ]

-- of a word: the index stays within it, and behind it
module _ (job : Job) (x : Piece) (at : IsWord job x) where
  abbrev y : Piece
  y = at.of.element

  lies : Inside at.of.element x
  lies = inside job at.of.element x at.of.good at.of.word

  pub within_word : (s : ℕ) → x.base ≤ s → s < x.base + x.bases → first_in job s ≡ first_in job x.base
  within_word s from before =
      within-element job y at.of.good s (omega (arith, lies.from)) (omega (arith, lies.ends))
      ∙ sym (within-element job y at.of.good x.base lies.from (omega (arith, lies.ends)))

  pub behind-word : first_in job (x.base + x.bases) ≡ first_in job x.base + cond x.more 0 1
  behind-word =
      elim (dec_lt (x.base + x.bases) (y.base + y.bases)) [
        | yes h ↦
            rw (lies.more, lt-ltb (x.base + x.bases) (y.base + y.bases) h)
            (omega (arith, within-element job y at.of.good (x.base + x.bases) (omega (arith, lies.from)) h, here))
        | no h ↦
            rw (lies.more, le-ltb (x.base + x.bases) (y.base + y.bases) (omega arith))
            (omega (arith, ap (first_in job) (same (omega arith)), past-element job y at.of.good, here))
      ]
    where
      here : first_in job x.base ≡ length at.of.good.place.front
      here = within-element job y at.of.good x.base lies.from (omega (arith, lies.ends, at.good.counts.some))

      same : y.base + y.bases ≤ x.base + x.bases → x.base + x.bases ≡ y.base + y.bases
      same h = omega (arith, lies.ends)

-- before the first character no element has ended
pub first-none : (job : Job) → Passed job → 0 ≡ first_in job 0
unfolding first_in
first-none job door = ap length (sym (keeps-none 0 (elements job) (all_map (GoodElement job) (λ y. 0 < y.base + y.bases) (elements job) (λ y g. omega (arith, g.counts.some)) door.each)))

-- it is an index of at most 1,024 elements
pub first-few : (job : Job) → Passed job → (s : ℕ) → first_in job s ≤ 1024
unfolding first_in
first-few job door s = omega (arith, kept (elements job), length-elements job, door.few_elements)
  where
    kept : (xs : List Piece) → length (keep (ends_by s) xs) ≤ length xs
    kept [] = zero-le
    kept (x ∷ xs) = go (ends_by s x) (kept xs)
      where
        go : (b : Bool) → length (keep (ends_by s) xs) ≤ length xs → length (cond b (x ∷ keep (ends_by s) xs) (keep (ends_by s) xs)) ≤ suc (length xs)
        go true h = omega arith
        go false h = omega arith
