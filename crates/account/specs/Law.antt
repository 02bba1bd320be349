-- The account of one step is that of the line: where no ruby of a side before an element ends past the start of its ruby there, the one that it touches is
-- the one that reaches furthest.
use Rattle.std.specs.Prelude.{◌≡◌, Bool, true, false, ◌&&◌, List, Option, Some, None, length, T, eqb, leb, refl, cond, ℕ, zero, suc, ◌≤◌, ◌<◌}
use Rattle.std.proofs.Common.{◌∙◌, arith, ne_eqb, leb-true, leb-false, eqb-true, ap}
use Rattle.std.proofs.lemmas.Bool.{eqb-false}
use Rattle.line.specs.declared.Element.{Element}
use Rattle.line.specs.declared.Reading.{Reading}
use Rattle.line.specs.declared.Side.{Side}
use Rattle.line.specs.declared.Side.TheVariants.{Right, Left}
use Rattle.line.specs.Rules.{ruby, el, org, block_at, ruby_at, HasRuby, Apart, Sounds}
use Rattle.line.proofs.Pairs.{rubies-order}
use Rattle.account.specs.declared.Reason.{Reason}
use Rattle.account.specs.declared.Reason.TheVariants.{Start, Ruby, Edge, Free}
use Rattle.account.specs.declared.Far.{Far}
use Rattle.account.specs.declared.Before.{Before}
use Rattle.account.specs.Reasons.{drawn, meets, starts, by_side, neighbour, rubies, rubies_of, by_ruby, reason, back, account_of}
use Rattle.account.specs.Step.{far, touched_at, touched_on, ruby_after, beside_last, reason_after, end_before, account_after, longer, further, passed, standing}

-- the furthest ruby ends at or before z
abbrev Below : ℕ → Option Far → Type 0
Below z None = Unit {0}
Below z (Some f) = f.end ≤ z

-- one element more, with the number k and the reading p at y, before ruby that starts at z
module _ (s : Side) (z : ℕ) (rest : Reason) (k : ℕ) (p : Reading) (y : ℕ) where
  abbrev u : ℕ
  u = (drawn p y).end

  abbrev one : Option Far
  one = Some (record { whose = k; end = u })

  below_more : (f : Option Far) → Below z f → (T p.there → u ≤ z) → Below z (further k f p y)
  below_more f b h = go p.there h
    where
      pick : (c : Bool) (g : Far) → u ≤ z → g.end ≤ z → Below z (cond c one (Some g))
      pick true g h l = h
      pick false g h l = l

      last : (f : Option Far) → Below z f → u ≤ z → Below z (longer k f u)
      last None b h = h
      last (Some g) b h = pick (leb g.end u) g h b

      go : (q : Bool) → (T q → u ≤ z) → Below z (cond q (longer k f u) f)
      go false h = b
      go true h = last f b (h tt)

  touched-more : (f : Option Far) → Below z f → (T p.there → u ≤ z) → touched_at s (further k f p y) z rest ≡ cond (meets p y z) (Ruby s k) (touched_at s f z rest)
  touched-more f b h = go p.there h
    where
      pick : (c d : Bool) (g : Far) → u ≤ z → g.end ≤ z → leb g.end u ≡ c → eqb u z ≡ d →
          touched_at s (cond c one (Some g)) z rest ≡ cond d (Ruby s k) (touched_at s (Some g) z rest)
      pick true true g h l q m = rw m
      pick true false g h l q m = rw (m, ne_eqb g.end z (λ w. eqb-false u z m (omega (arith, leb-true g.end u q))))
      pick false false g h l q m = refl
      pick false true g h l q m = absurd (omega (arith, leb-false g.end u q, eqb-true u z m))

      last : (f : Option Far) → Below z f → u ≤ z → touched_at s (longer k f u) z rest ≡ cond (eqb u z) (Ruby s k) (touched_at s f z rest)
      last None b h = refl
      last (Some g) b h = pick (leb g.end u) (eqb u z) g h b refl refl

      go : (q : Bool) → (T q → u ≤ z) → touched_at s (cond q (longer k f u) f) z rest ≡ cond (q && eqb u z) (Ruby s k) (touched_at s f z rest)
      go false h = refl
      go true h = last f b (h tt)

-- what a side keeps
far-passed : (s : Side) (i : ℕ) (b : Before) (e : Element) (x : ℕ) → far s (passed i b e x) ≡ further i (far s b) (ruby s e) x
far-passed Right i b e x = refl
far-passed Left i b e x = refl

far_none : (s : Side) (es : List Element) (xs : List ℕ) → far s (standing es xs 0) ≡ None
unfolding standing
far_none Right es xs = refl
far_none Left es xs = refl

far-more : (s : Side) (es : List Element) (xs : List ℕ) (n : ℕ) →
    far s (standing es xs (suc n)) ≡ further n (far s (standing es xs n)) (ruby s (el es n)) (org xs n)
unfolding standing
far-more s es xs n = far-passed s n (standing es xs n) (el es n) (org xs n)

-- all elements before it
module _ (s : Side) (es : List Element) (xs : List ℕ) (z : ℕ) (rest : Reason) where
  abbrev Past : ℕ → Type 0
  Past n = (k : ℕ) → k < n → HasRuby s (el es k) → (ruby_at s es xs k).end ≤ z

  fewer : (n : ℕ) → Past (suc n) → Past n
  fewer n h k l = h k (omega arith)

  standing-below : (n : ℕ) → Past n → Below z (far s (standing es xs n))
  standing-below zero h = rw (far_none s es xs) tt
  standing-below (suc n) h =
      rw (far-more s es xs n)
      (below_more s z rest n (ruby s (el es n)) (org xs n) (far s (standing es xs n)) (standing-below n (fewer n h)) (h n (omega arith)))

  touched-rubies : (n : ℕ) → Past n → touched_at s (far s (standing es xs n)) z rest ≡ rubies s es xs z n rest
  unfolding rubies
  touched-rubies zero h = rw (far_none s es xs)
  touched-rubies (suc n) h =
      rw (far-more s es xs n)
      (touched-more s z rest n (ruby s (el es n)) (org xs n) (far s (standing es xs n)) (standing-below n (fewer n h)) (h n (omega arith))
      ∙ ap (λ o. cond (meets (ruby s (el es n)) (org xs n) z) (Ruby s n) o) (touched-rubies n (fewer n h)))

same_flag : (b : Bool) (r q o : Reason) → (T b → r ≡ q) → cond b r o ≡ cond b q o
same_flag true r q o h = h tt
same_flag false r q o h = refl

module _ (es : List Element) (xs : List ℕ) (s : Sounds es) (a : Apart es xs) (i : ℕ) (h : i < length es) where
  step-side : (o : Side) (rest : Reason) → touched_on o (standing es xs i) (el es i) (org xs i) rest ≡ rubies_of o es xs i rest
  step-side o rest =
      same_flag (ruby o (el es i)).there _ _ _ (λ t. touched-rubies o es xs (ruby_at o es xs i).start rest i (λ k l w. rubies-order es xs s a k i l h o w t))

  step-ruby : ruby_after (standing es xs i) (el es i) (org xs i) ≡ by_ruby es xs i
  step-ruby = step-side Right _ ∙ ap (λ o. rubies_of Right es xs i o) (step-side Left (by_side (λ o. starts (ruby o (el es i)) (org xs i)) Edge Free))

  step-reason : reason_after i (standing es xs i) (el es i) (org xs i) ≡ reason es xs i
  unfolding reason_after reason standing neighbour
  step-reason =
      ap (λ o. cond (eqb (block_at es xs i).start 0) Start o) (ap (λ o. beside_last i (standing es xs i) (el es i) (org xs i) o) step-ruby ∙ go i (by_ruby es xs i))
    where
      go : (i : ℕ) (rest : Reason) → beside_last i (standing es xs i) (el es i) (org xs i) rest ≡ neighbour es xs i rest
      go zero rest = refl
      go (suc j) rest = refl

  step-gap : end_before i (standing es xs i) ≡ back es xs i
  unfolding standing
  step-gap = go i
    where
      go : (i : ℕ) → end_before i (standing es xs i) ≡ back es xs i
      go zero = refl
      go (suc j) = refl

  -- The account that a walk gives is that of the line.
  pub step : account_after i (standing es xs i) (el es i) (org xs i) ≡ account_of es xs i
  step = rw (step-reason, step-gap)
