-- In a line that is set something holds each element: its origin is the largest of a few lower bounds, four for each side, and so one of them is met.
use Rattle.std.specs.Prelude.{◌≡◌, refl, Bool, true, false, cond, List, ◌⊎◌, ℕ, zero, suc, ◌+◌, ◌-◌, ◌≤◌, ◌<◌, max, length, T}
use Rattle.std.proofs.Common.{sym, ◌∙◌, inl, inr, arith}
use Rattle.std.proofs.Math.Decide.{dec_lt}
use Rattle.line.specs.declared.Element.{Element}
use Rattle.line.specs.declared.Side.{Side}
use Rattle.line.specs.declared.Side.TheVariants.{Right, Left}
use Rattle.line.specs.declared.State.{State}
use Rattle.line.specs.Rules.{ruby, HasRuby, el, org, block_at, ruby_at, ruby_end, Flush, Sounds}
use Rattle.line.specs.Setting.{ruby_from, start, reach, Near, asks, asked, origin, settle, after}
use Rattle.line.specs.Least.{reach-put, settle-origin, settle-follows}
use Rattle.line.proofs.Theorems.{keeps}
use Rattle.account.specs.declared.Reason.{Reason}
use Rattle.account.specs.declared.Reason.TheVariants.{Start, Block, Under, Over, Ruby, Edge}
use Rattle.account.specs.Claims.{in_order, rank, Holds}

-- a lower bound that is met: none but the line's start, or one of those that the state asks for a side
data Met (st : State) (e : Element) (x : ℕ) : Type 0 where
  free : x ≡ 0 → Met st e x
  block : st.end ≡ x + e.front → Met st e x
  under : (s : Side) → reach s st ≡ x + e.front + e.before → Met st e x
  clear : (s : Side) → reach s st ≡ x + ruby_from s e → Met st e x
  over : (s : Side) → st.end ≡ x + ruby_from s e + st.room → Met st e x

half : (x a b : ℕ) → x ≡ max a b → (x ≡ a) ⊎ (x ≡ b)
half x a b e = elim (dec_lt a b) [ yes h ↦ inr (omega arith) | no h ↦ inl (omega arith) ]

lower : (x a b : ℕ) → x ≡ a - b → (x ≡ 0) ⊎ (a ≡ x + b)
lower x a b e = elim (dec_lt a b) [ yes h ↦ inl (omega arith) | no h ↦ inr (omega arith) ]

met-side : (s : Side) (st : State) (e : Element) (x : ℕ) → x ≡ asked s st e → Met st e x
unfolding asks
met-side s st e x q = all (half x _ _ q)
  where
    one : (a b : ℕ) → (a ≡ x + b → Met st e x) → x ≡ a - b → Met st e x
    one a b f h = go (lower x a b h)
      where
        go : (x ≡ 0) ⊎ (a ≡ x + b) → Met st e x
        go (inl z) = free z
        go (inr m) = f m

    blocks : (x ≡ st.end - e.front) ⊎ (x ≡ reach s st - (e.front + e.before)) → Met st e x
    blocks (inl h) = one _ _ block h
    blocks (inr h) = one _ _ (λ m. under s (omega arith)) h

    rubies : (x ≡ reach s st - ruby_from s e) ⊎ (x ≡ st.end - (ruby_from s e + st.room)) → Met st e x
    rubies (inl h) = one _ _ (clear s) h
    rubies (inr h) = one _ _ (λ m. over s (omega arith)) h

    all : (x ≡ max (st.end - e.front) (reach s st - (e.front + e.before))) ⊎ (x ≡ max (reach s st - ruby_from s e) (st.end - (ruby_from s e + st.room))) → Met st e x
    all (inl h) = blocks (half x _ _ h)
    all (inr h) = rubies (half x _ _ h)

met : (st : State) (e : Element) (x : ℕ) → x ≡ origin st e → Met st e x
unfolding origin
met st e x q = go (half x (asked Right st e) (asked Left st e) q)
  where
    go : (x ≡ asked Right st e) ⊎ (x ≡ asked Left st e) → Met st e x
    go (inl h) = met-side Right st e x h
    go (inr h) = met-side Left st e x h

-- with ruby, and without
data Flag (b : Bool) : Type 0 where
  with : T b → ((u v : ℕ) → cond b u v ≡ u) → Flag b
  without : ((u v : ℕ) → cond b u v ≡ v) → Flag b

flag : (b : Bool) → Flag b
flag true = with tt (λ u v. refl)
flag false = without (λ u v. refl)

-- the furthest end of a side, and of one element more
abbrev furthest : Side → List Element → List ℕ → ℕ → ℕ
furthest s es xs n = reach s (after start es xs n)

nowhere : (s : Side) → reach s start ≡ 0
nowhere Right = refl
nowhere Left = refl

one_more : (s : Side) (es : List Element) (xs : List ℕ) (n : ℕ) → furthest s es xs (suc n) ≡ max (furthest s es xs n) (ruby_end s (el es n) (org xs n))
unfolding after
one_more s es xs n = reach-put s (after start es xs n) (el es n) (org xs n)

-- it is that of one of the rubies there
abbrev Attained : Side → List Element → List ℕ → ℕ → ℕ → Type 0
Attained s es xs n z = (z ≡ 0) ⊎ ((k : ℕ) × (k < n) × HasRuby s (el es k) × ((ruby_at s es xs k).end ≡ z))

attained : (s : Side) (es : List Element) (xs : List ℕ) (n : ℕ) → Attained s es xs n (furthest s es xs n)
unfolding after
attained s es xs zero = inl (nowhere s)
attained s es xs (suc n) = go (half _ _ _ (one_more s es xs n)) (attained s es xs n) (flag (ruby s (el es n)).there)
  where
    z : ℕ
    z = furthest s es xs (suc n)

    go : (z ≡ furthest s es xs n) ⊎ (z ≡ ruby_end s (el es n) (org xs n)) → Attained s es xs n (furthest s es xs n) → Flag (ruby s (el es n)).there → Attained s es xs (suc n) z
    go (inl h) (inl q) f = inl (h ∙ q)
    go (inl h) (inr (k, l, t, q)) f = inr (k, omega arith, t, q ∙ sym h)
    go (inr h) q (with t c) = inr (n, omega arith, t, sym (h ∙ c (ruby_at s es xs n).end 0))
    go (inr h) q (without c) = inl (h ∙ c (ruby_at s es xs n).end 0)

-- some reason holds of the element with the number i
abbrev pub Held : List Element → List ℕ → ℕ → Type 0
Held es xs i = (r : Reason) × Holds es xs i r × (rank r < 11)

named : (s : Side) (n : ℕ) → n < 10 → in_order s n < 11
named Right n h = omega arith
named Left n h = omega arith

module _ (es : List Element) (sound : Sounds es) where
  abbrev xs : List ℕ
  xs = settle es

  at_start : (i : ℕ) → i < length es → org xs i ≡ 0 → Held es xs i
  at_start i h z = go (sound i h).flush
    where
      go : Flush (el es i) → Held es xs i
      go (inl f) = (Start, omega arith, omega arith)
      go (inr (s, t, f)) = (Edge s, (t, omega arith), named s 9 (omega arith))

  module _ (j : ℕ) (h : suc j < length es) where
    abbrev i : ℕ
    i = suc j

    abbrev e : Element
    e = el es i

    abbrev x : ℕ
    x = org xs i

    past : (block_at es xs j).end ≤ (block_at es xs i).start
    past = (keeps es sound).blocks j h

    module _ (s : Side) where
      near : Near s (after start es xs i) e x
      near = (settle-follows es).near i h s

      -- the ruby of j reaches as deep into the block as it may; no earlier ruby passes j's block
      by-under : furthest s es xs i ≡ x + e.front + e.before → Held es xs i
      by-under q = go (flag (ruby s (el es j)).there) (half _ _ _ (one_more s es xs j))
        where
          go : Flag (ruby s (el es j)).there → (furthest s es xs i ≡ furthest s es xs j) ⊎ (furthest s es xs i ≡ ruby_end s (el es j) (org xs j)) → Held es xs i
          go f (inl m) = (Block j, (refl, omega (arith, past, ((settle-follows es).near j (omega arith) s).under, (sound j (omega arith)).before)), omega arith)
          go (with t c) (inr m) = (Under s j e.before, (refl, t, refl, omega (arith, c (ruby_at s es xs j).end 0)), named s 3 (omega arith))
          go (without c) (inr m) = absurd (omega (arith, c (ruby_at s es xs j).end 0, past, (sound j (omega arith)).some))

      by_over : (block_at es xs j).end ≡ x + ruby_from s e + (el es j).after → Held es xs i
      by_over q = go (flag (ruby s e).there)
        where
          go : Flag (ruby s e).there → Held es xs i
          go (with t c) = (Over s j (el es j).after, (refl, t, refl, omega (arith, c (ruby s e).from (e.front + e.len))), named s 5 (omega arith))
          go (without c) = absurd (omega (arith, c (ruby s e).from (e.front + e.len), past, (sound i h).some))

      -- its ruby starts where the furthest ends
      by-clear : furthest s es xs i ≡ x + ruby_from s e → Held es xs i
      by-clear q = go (flag (ruby s e).there) (attained s es xs i)
        where
          go : Flag (ruby s e).there → Attained s es xs i (furthest s es xs i) → Held es xs i
          go (without c) a = by-under (omega (arith, c (ruby s e).from (e.front + e.len), near.under, (sound i h).before))
          go (with t c) (inl z) = (Edge s, (t, omega (arith, c (ruby s e).from (e.front + e.len))), named s 9 (omega arith))
          go (with t c) (inr (k, l, w, m)) = (Ruby s k, (l, w, t, omega (arith, c (ruby s e).from (e.front + e.len))), named s 7 (omega arith))

    next : Held es xs i
    unfolding after
    next = go (met (after start es xs i) e x (settle-origin start es i h))
      where
        go : Met (after start es xs i) e x → Held es xs i
        go (free z) = at_start i h z
        go (block m) = (Block j, (refl, m), omega arith)
        go (under s m) = by-under s m
        go (clear s m) = by-clear s m
        go (over s m) = by_over s m

  first : (h : 0 < length es) → org xs 0 ≡ 0
  unfolding after
  first h = go (met start (el es 0) (org xs 0) (settle-origin start es 0 h))
    where
      go : Met start (el es 0) (org xs 0) → org xs 0 ≡ 0
      go (free z) = z
      go (block m) = omega arith
      go (under s m) = omega (arith, nowhere s)
      go (clear s m) = omega (arith, nowhere s)
      go (over s m) = omega arith

  pub held : (i : ℕ) → i < length es → Held es xs i
  held zero h = at_start 0 h (first h)
  held (suc j) h = next j h
