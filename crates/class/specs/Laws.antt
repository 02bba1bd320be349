-- What those above may use of the classes: a class has the kind that its entry names, and a depth lies within the character.
use Rattle.std.specs.Prelude.{◌≡◌, refl, Bool, true, false, cond, ◌&&◌, ◌||◌, List, [], ◌∷◌, ℕ, zero, suc, ◌+◌, ◌*◌, ◌<◌, ◌≤◌, min, eqb, get_or}
use Rattle.std.proofs.Common.{◌∙◌, ap, sym, true≢false, suc-le-suc, add-zero, zero-add, add-suc, suc-add, lt_of_not-le, le_of_suc-le-suc, not-suc-le-zero, arith, le-leb, ne_eqb, lit≤}
use Rattle.std.proofs.Math.Decide.{dec_lt}
use Rattle.std.proofs.lemmas.Bool.{lt-leb}
use Rattle.class.specs.declared.Kind.{Kind}
use Rattle.class.specs.declared.Kind.TheVariants.{KanaLike, Western, Space, Outside}
use Rattle.class.specs.declared.Depths.{Depths}
use Rattle.class.specs.Class.{accepted, western, kana_like, kind_of, blank_before, blank_after, blank_whole, deepest, depth_before, depth_after, opening, depths_on, kana, on_kana, may_lie, depths_by}

-- f at i, i + 1, .., n of them
abbrev pub tabled {ℓ} : {A : Type ℓ} → (ℕ → A) → ℕ → ℕ → List A
tabled f i zero = []
tabled f i (suc n) = f i ∷ tabled f (suc i) n

from {ℓ} : {A : Type ℓ} (f : ℕ → A) (d : A) (n i k : ℕ) → k < n → get_or (tabled f i n) k d ≡ f (i + k)
from f d zero i k h = absurd (not-suc-le-zero h)
from f d (suc n) i zero h = ap f (sym (add-zero i))
from f d (suc n) i (suc k) h = from f d n (suc i) k (le_of_suc-le-suc h) ∙ ap f (suc-add i k ∙ sym (add-suc i k))

-- a list that is f at 0, 1, .. has f k at k
pub tabled-at {ℓ} : {A : Type ℓ} (f : ℕ → A) (d : A) (n : ℕ) (xs : List A) → xs ≡ tabled f 0 n → (k : ℕ) → k < n → get_or xs k d ≡ f k
tabled-at f d n xs e k h = ap (λ (l : List _). get_or l k d) e ∙ from f d n 0 k h ∙ ap f (zero-add k)

-- two rules that agree at 0 to 30, which antt computes, and past 30, agree
pub agree {ℓ} : {A : Type ℓ} (f g : ℕ → A) → tabled f 0 31 ≡ tabled g 0 31 → ((c : ℕ) → 30 < c → f c ≡ g c) → (c : ℕ) → f c ≡ g c
agree f g e h c = go (dec_lt c 31)
  where
    go : Dec (c < 31) → f c ≡ g c
    go (yes l) = sym (tabled-at f (f 0) 31 _ refl c l) ∙ tabled-at g (f 0) 31 _ e c l
    go (no n) = h c (lt_of_not-le (λ (l : c ≤ 30). n (suc-le-suc l)))

-- past the table a class is outside, and has no blank
far : (c d : ℕ) → 30 < c → d ≤ 30 → eqb c d ≡ false
far c d h l = ne_eqb c d (λ e. omega arith)

pub accepted-past : (c : ℕ) → 30 < c → accepted c ≡ false
unfolding accepted
accepted-past c h = simp (le-leb 1 c (omega arith), lt-leb c 19 (omega arith), le-leb 24 c (omega arith), lt-leb c 27 (omega arith))

pub kana-past : (c : ℕ) → 30 < c → kana_like c ≡ false
unfolding kana_like
kana-past c h = rw (accepted-past c h)

pub western-past : (c : ℕ) → 30 < c → western c ≡ false
unfolding western
western-past c h = simp (far c 24 h (lit≤ tt), far c 25 h (lit≤ tt), far c 27 h (lit≤ tt))

pub kind-past : (c : ℕ) → 30 < c → kind_of c ≡ Outside
unfolding kind_of
kind-past c h = simp (western-past c h, kana-past c h, far c 26 h (lit≤ tt))

pub before-past : (c : ℕ) → 30 < c → blank_before c ≡ false
unfolding blank_before
before-past c h = simp (far c 1 h (lit≤ tt), far c 5 h (lit≤ tt))

pub after-past : (c : ℕ) → 30 < c → blank_after c ≡ false
unfolding blank_after
after-past c h = simp (far c 2 h (lit≤ tt), far c 6 h (lit≤ tt), far c 7 h (lit≤ tt), far c 5 h (lit≤ tt))

pub whole-past : (c : ℕ) → 30 < c → blank_whole c ≡ false
unfolding blank_whole
whole-past c h = far c 14 h (lit≤ tt)

-- Kinds.

abbrev pub is_kana : Kind → Bool
is_kana KanaLike = true
is_kana Western = false
is_kana Space = false
is_kana Outside = false

abbrev pub is_western : Kind → Bool
is_western KanaLike = false
is_western Western = true
is_western Space = false
is_western Outside = false

abbrev pub is_space : Kind → Bool
is_space KanaLike = false
is_space Western = false
is_space Space = true
is_space Outside = false

pub kana_law : (c : ℕ) → kana_like c ≡ is_kana (kind_of c)
unfolding accepted western kana_like kind_of
kana_law = agree kana_like (λ (c : ℕ). is_kana (kind_of c)) refl (λ c h. kana-past c h ∙ sym (ap is_kana (kind-past c h)))

pub western_law : (c : ℕ) → western c ≡ is_western (kind_of c)
unfolding accepted western kana_like kind_of
western_law = agree western (λ (c : ℕ). is_western (kind_of c)) refl (λ c h. western-past c h ∙ sym (ap is_western (kind-past c h)))

pub space_law : (c : ℕ) → eqb 26 c ≡ is_space (kind_of c)
unfolding accepted western kana_like kind_of
space_law = agree (eqb 26) (λ (c : ℕ). is_space (kind_of c)) refl (λ c h. ne_eqb 26 c (λ e. omega arith) ∙ sym (ap is_space (kind-past c h)))

-- a kind by three questions
abbrev pub kind_by : Bool → Bool → Bool → Kind
kind_by kana western accepted = cond kana KanaLike (cond western Western (cond accepted Space Outside))

by-past : (c : ℕ) → 30 < c → kind_by (kana_like c) (western c) (accepted c) ≡ kind_of c
by-past c h = rw (kana-past c h, western-past c h, accepted-past c h, kind-past c h)

pub kind_law : (c : ℕ) → kind_by (kana_like c) (western c) (accepted c) ≡ kind_of c
unfolding accepted western kana_like kind_of
kind_law = agree (λ (c : ℕ). kind_by (kana_like c) (western c) (accepted c)) kind_of refl by-past

-- Depths.

-- a depth lies within the character: what lines ask of a neighbour
on-width : (whole side : Bool) (width blank most : ℕ) → blank ≤ width → min (2 * cond whole width (cond side blank 0)) most ≤ 2 * width
on-width true side width blank most h = omega arith
on-width false true width blank most h = omega arith
on-width false false width blank most h = omega arith

unless : (t : Bool) (depth n : ℕ) → depth ≤ n → cond t 0 depth ≤ n
unless true depth n h = omega arith
unless false depth n h = h

before_on : (first : Bool) (c width before after em : ℕ) → before ≤ width → (depths_on first c width before after em).before ≤ 2 * width
unfolding depths_on depth_before
before_on first c width before after em h = unless (opening first c) _ _ (on-width (blank_whole c) (blank_before c) width before (deepest c em) h)

after_on : (first : Bool) (c width before after em : ℕ) → after ≤ width → (depths_on first c width before after em).after ≤ 2 * width
unfolding depths_on depth_after
after_on first c width before after em h = unless (opening first c) _ _ (on-width (blank_whole c) (blank_after c) width after (deepest c em) h)

-- so it does by every profile: each has a table of permitted depths within a neighbour's width
pub before-within : (profile : ℕ) (first : Bool) (c width before after em : ℕ) → before ≤ width → (depths_by profile first c width before after em).before ≤ 2 * width
unfolding depths_by
before-within profile first c width before after em h = go (eqb profile 1 && kana c)
  where
    go : (t : Bool) → (cond t (record { before = on_kana width em; after = on_kana width em }) (depths_on first c width before after em)).before ≤ 2 * width
    go true = omega arith
    go false = before_on first c width before after em h

pub after-within : (profile : ℕ) (first : Bool) (c width before after em : ℕ) → after ≤ width → (depths_by profile first c width before after em).after ≤ 2 * width
unfolding depths_by
after-within profile first c width before after em h = go (eqb profile 1 && kana c)
  where
    go : (t : Bool) → (cond t (record { before = on_kana width em; after = on_kana width em }) (depths_on first c width before after em)).after ≤ 2 * width
    go true = omega arith
    go false = after_on first c width before after em h

-- profile 0 is document 01 with R-1
pub by_first : (first : Bool) (c width before after em : ℕ) → depths_by 0 first c width before after em ≡ depths_on first c width before after em
unfolding depths_by
by_first first c width before after em = refl

-- the depths by the questions that are asked of the class: none where it has no blank
pub on_none : (first : Bool) (c width before after em : ℕ) → (blank_before c || (blank_after c || blank_whole c)) ≡ false →
    record { before = 0; after = 0 } ≡ depths_on first c width before after em
unfolding depths_on depth_before depth_after
on_none first c width before after em e =
    let (b, a, w) = by (blank_before c) (blank_after c) (blank_whole c) e in
    rw (w, a, b, none (deepest c em)) (go (first && false))
  where
    by : (b a w : Bool) → (b || (a || w)) ≡ false → (b ≡ false) × (a ≡ false) × (w ≡ false)
    by false false false e = (refl, refl, refl)
    by true a w e = absurd (true≢false e)
    by false true w e = absurd (true≢false e)
    by false false true e = absurd (true≢false e)

    none : (n : ℕ) → min (2 * 0) n ≡ 0
    none n = omega arith

    go : (t : Bool) → ◌≡◌ {A = Depths} (record { before = 0; after = 0 }) (record { before = cond t 0 0; after = cond t 0 0 })
    go true = refl
    go false = refl

-- on a class whose whole width is blank, none if it is the job's first, and one depth on both sides if not
pub on-space : (first : Bool) (c width before after em : ℕ) → blank_whole c ≡ true →
    record { before = cond first 0 (min (2 * width) (deepest c em)); after = cond first 0 (min (2 * width) (deepest c em)) } ≡ depths_on first c width before after em
unfolding depths_on depth_before depth_after
on-space true c width before after em e = rw e
on-space false c width before after em e = rw e

-- on all others by the sides
pub on_sides : (first : Bool) (c width before after em : ℕ) → blank_whole c ≡ false →
    record { before = min (2 * cond (blank_before c) before 0) (deepest c em); after = min (2 * cond (blank_after c) after 0) (deepest c em) }
    ≡ depths_on first c width before after em
unfolding depths_on depth_before depth_after
on_sides true c width before after em e = rw e
on_sides false c width before after em e = rw e

-- where no ruby may lie both depths are 0, whatever the blanks are
pub no_depths : (profile : ℕ) (first : Bool) (c w b a em : ℕ) → may_lie profile c ≡ false → record { before = 0; after = 0 } ≡ depths_by profile first c w b a em
unfolding depths_by
no_depths profile first c w b a em e = go (eqb profile 1 && kana c) (blank_before c || (blank_after c || blank_whole c)) refl e
  where
    go : (k d : Bool) → (blank_before c || (blank_after c || blank_whole c)) ≡ d → (k || d) ≡ false →
        record { before = 0; after = 0 } ≡ cond k (record { before = on_kana w em; after = on_kana w em }) (depths_on first c w b a em)
    go true d f e = absurd (true≢false e)
    go false d f e = on_none first c w b a em (f ∙ e)
