-- The readings, element by element; and the verdict, part by part.
use Rattle.std.specs.Prelude.{◌≡◌, Bool, true, false, cond, List, [], ◌∷◌, ◌++◌, ℕ, zero, suc, ◌+◌, ◌*◌, ◌≤◌, length, get_or}
use Rattle.std.proofs.Math.Path.{refl}
use Rattle.std.proofs.Common.{sym, ap, ◌∙◌, zero-le, arith, length-append}
use Rattle.basics.specs.Lists.{count, keep}
use Rattle.word.specs.Given.{has_ruby}
use Rattle.word.specs.Both.{has_left}
use Rattle.door.specs.Job.{form_of, left_of}
use Rattle.job.specs.Laws.{count-join, keep_append}
use Rattle.result.specs.Text.{bytes}
use Rattle.result.specs.Left.{Left, left-first}
use Rattle.account_text.specs.Text.{said, verdict_text, needs_text, many, readings_of}

-- how many pass a test, one element more, and no more than there are
module _ (test : ℕ → Bool) where
  many_more : (k : ℕ) → many test (k + 1) ≡ many test k + cond (test k) 1 0
  many_more k =
      ap length (ap (keep test) (sym (count-join 0 k k 1 (k + 1) (omega arith) refl)) ∙ keep_append test (count 0 k) (k ∷ []))
      ∙ length-append (keep test (count 0 k)) (keep test (k ∷ []))
      ∙ ap (λ n. length (keep test (count 0 k)) + n) (go (test k))
    where
      go : (b : Bool) → length (cond b (k ∷ []) []) ≡ cond b 1 0
      go true = refl
      go false = refl

  many-few : (n : ℕ) → many test n ≤ n
  many-few n = go 0 n
    where
      go : (a n : ℕ) → length (keep test (count a n)) ≤ n
      go a zero = zero-le
      go a (suc n) = pick (test a) (go (suc a) n)
        where
          pick : (b : Bool) → length (keep test (count (suc a) n)) ≤ n → length (cond b (a ∷ keep test (count (suc a) n)) (keep test (count (suc a) n))) ≤ suc n
          pick true h = omega arith
          pick false h = omega arith

-- the readings of either side
module _ (kinds glosses : List ℕ) where
  abbrev right : ℕ → Bool
  right k = has_ruby (form_of (get_or kinds k 0))

  abbrev left : ℕ → Bool
  left k = has_left (left_of (get_or glosses k 0))

  pub readings-none : readings_of kinds glosses 0 ≡ 0
  unfolding readings_of
  readings-none = refl

  pub readings-more : (k : ℕ) → readings_of kinds glosses (k + 1) ≡ readings_of kinds glosses k + (cond (right k) 1 0 + cond (left k) 1 0)
  unfolding readings_of
  readings-more k = omega (arith, many_more right k, many_more left k)

  pub readings-few : (n : ℕ) → readings_of kinds glosses n ≤ 2 * n
  unfolding readings_of
  readings-few n = omega (arith, many-few right n, many-few left n)

abbrev pub lines : ℕ → List ℕ
lines n = said (bytes "clear lines ") n

abbrev pub elements : ℕ → List ℕ
elements n = said (bytes " elements ") n

abbrev pub readings : ℕ → List ℕ
readings n = said (bytes " readings ") n

room : {t : List ℕ} (xs : List ℕ) → length xs ≤ length t → Left t 0 xs t 0 xs
room {t} xs h = left-first (zero h)
  where
    zero : length xs ≤ length t → 0 + length xs ≤ length t
    zero h = omega arith

pub verdict-left : {t : List ℕ} (l e r : ℕ) → length (verdict_text l e r) ≤ length t → Left t 0 (verdict_text l e r) t 0 (lines l ++ (elements e ++ (readings r ++ (10 ∷ []))))
unfolding verdict_text
verdict-left l e r h = room (verdict_text l e r) h

-- what a declined line needs, part by part
abbrev pub needs : ℕ → List ℕ
needs n = said (bytes "needs ") n

abbrev pub measure : ℕ → List ℕ
measure m = said (bytes " measure ") (2 * m)

pub needs-left : {t : List ℕ} {from : ℕ} (n m : ℕ) → from + length (needs_text n m) ≤ length t → Left t from (needs_text n m) t from (needs n ++ (measure m ++ (10 ∷ [])))
unfolding needs_text
needs-left n m h = left-first h

pub ruleset reading_steps = (readings-none, readings-more, readings-few)
