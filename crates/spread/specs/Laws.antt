-- Laws of the gap rule and of the starts: they are the sentences of `Worded`, all space sums to 2D, 1:2:1 is today's rule, a string ends where
-- its space and widths say, and moving its start moves each character alike.
-- Those that rest on the sentences of `Worded` are in `proofs/Laws.antt`.
use Rattle.std.specs.Prelude.{◌≡◌, refl, Bool, true, false, cond, List, map, ℕ, zero, suc, ◌+◌, ◌-◌, ◌*◌, ◌/◌, ◌≤◌, ◌<◌, min, eqb, length, take, get_or}
use Rattle.std.proofs.Common.{ap, ◌∙◌, sym, zero-le, zero-add, le_refl, le_of_mul-le-mul_right, div-mul-le_self, zero-mul, mul-zero, mul-one, mul-add, add-mul, mul_assoc, mul_comm, mul-le-mul, mul-le-mul_left, mul-div_cancel, arith, eq-eqb, ne_eqb, take_all}
use Rattle.std.proofs.lemmas.Simd.{map-map}
use Rattle.std.proofs.Math.Nat.{min-le_left, div-zero, zero-div, div-le_of_le-mul, mul-div-mul_left}
use Rattle.std.proofs.lemmas.List.{length-map}
use Rattle.basics.specs.Lists.{sum, count}
use Rattle.basics.specs.Laws.{take_step, length-count, count_at, count_same}
use Rattle.spread.specs.declared.Way.{Way}
use Rattle.spread.specs.declared.Way.TheVariants.{Solid, Spread, Limited}
use Rattle.spread.specs.declared.Ratio.{Ratio}
use Rattle.spread.specs.declared.Gaps.{Gaps}
use Rattle.spread.specs.Worded.{solid, whole, front, rear, held, along}
use Rattle.spread.specs.Ratio.{one_two_one}
use Rattle.spread.specs.Gap.{centred, gaps_by, gaps, start, starts}

pub by_cond : (t : Bool) (Q : Gaps → Type 0) {a b : Gaps} → (t ≡ true → Q a) → (t ≡ false → Q b) → Q (cond t a b)
by_cond true Q f g = f refl
by_cond false Q f g = g refl

-- one part of all the space is at most all of it, and so are two
pub share_le : (D a s : ℕ) → a ≤ s → 2 * D * a / s ≤ 2 * D
share_le D a s h = div-le_of_le-mul s (rw (mul_comm s (2 * D)) (mul-le-mul_left (2 * D) h))

pub shares_le : (D a c s : ℕ) → a + c ≤ s → 2 * D * a / s + 2 * D * c / s ≤ 2 * D
shares_le D a c zero h = rw (div-zero, div-zero) zero-le
shares_le D a c (suc s) h =
    let x = div-mul-le_self (2 * D * a) (suc s) in
    let y = div-mul-le_self (2 * D * c) (suc s) in
    let z = mul-le-mul_left (2 * D) h in
    le_of_mul-le-mul_right {k = suc s} (rw (add-mul (2 * D * a / suc s) (2 * D * c / suc s) (suc s)) (omega (arith, x, y, rw (mul-add (2 * D) a c) at z))) (omega arith)

pub held_le : (l : Bool) (em g : ℕ) → held l em g ≤ g
held_le true em g = min-le_left g em
held_le false em g = le_refl g

-- S is small, and not 0 from two characters on
pub middle-small : (m n : ℕ) → m ≤ 7 → n ≤ 4096 → m * (n - 1) ≤ 28665
middle-small m n p q = mul-le-mul {n₁ = m} {m₁ = n - 1} {n₂ = 7} {m₂ = 4095} p (omega arith)

pub whole-some : (r : Ratio) (n : ℕ) → 0 < r.a + r.m + r.c → 0 < n → (n ≡ 1 → ⊥) → 0 < whole r n
whole-some r n h l e = go r.m refl
  where
    go : (m : ℕ) → r.m ≡ m → 0 < whole r n
    go zero z = omega arith
    go (suc m) z = let y = mul-le-mul {n₁ = 1} {m₁ = 1} {n₂ = r.m} {m₂ = n - 1} (omega arith) (omega arith) in omega arith

-- "all space sums to 2D": in front, within and behind
pub record Sums (D : ℕ) (g : Gaps) : Type 0 where
  pub all : g.front + g.within + g.rear ≡ 2 * D

-- "half an em at each end, the rest inside": the limit holds from two characters on, at either end, "only if m is not 0"
pub limit : (r : Ratio) (em D n : ℕ) → 2 ≤ n → 0 < r.m → ((gaps Limited r em D n).front ≤ em) × ((gaps Limited r em D n).rear ≤ em)
unfolding gaps gaps_by
limit r em D n h k = rw (ne_eqb n 1 (λ e. absurd (omega arith)), ne_eqb r.m 0 (λ e. absurd (omega arith))) (least (front r D n) em, least (rear r D n) em)
  where
    least : (a b : ℕ) → min a b ≤ b
    least a b = omega arith

-- a single character has no space within, however it is set
pub within-one : (w : Way) (r : Ratio) (em D n : ℕ) → n ≡ 1 → (gaps w r em D n).within ≡ 0
unfolding gaps gaps_by
within-one Solid r em D n e = refl
within-one Spread r em D n e = rw (eq-eqb n 1 e) (by_cond (eqb (r.a + r.c) 0) (λ (g : Gaps). g.within ≡ 0) (λ z. refl) (λ z. refl))
within-one Limited r em D n e = rw (eq-eqb n 1 e) (by_cond (eqb (r.a + r.c) 0) (λ (g : Gaps). g.within ≡ 0) (λ z. refl) (λ z. refl))

pub record Even (r : Ratio) : Type 0 where
  pub same : r.a ≡ r.c
  pub some : 0 < r.a + r.m

pub even_today : Even one_two_one
even_today = record { same = refl; some = omega arith }

-- two equal parts that are the whole
pub half : (D a : ℕ) → 0 < a → 2 * D * a / (a + a) ≡ D
half D a h =
    let p : 2 * D * a ≡ D * (a + a) = rw (mul-add D a a) (omega (arith, mul_assoc 2 D a)) in
    rw p (mul-div_cancel D (omega arith))

-- solid has equal end gaps whatever the ratio
pub solid-ends : (r : Ratio) (em D n : ℕ) → gaps Solid r em D n ≡ centred D
unfolding gaps
solid-ends r em D n = refl

pub along-same : (f g : ℕ → ℕ) (ws : List ℕ) → ((i : ℕ) → i < length ws → f i ≡ g i) → along f ws ≡ along g ws
along-same f g ws h = count_same f g 0 (length ws) (λ i l u. h i (omega arith))

pub no-space : (f : ℕ) (ws : List ℕ) (i : ℕ) → solid f ws i ≡ start 0 f ws i
no-space f ws i = rw (zero-mul i, zero-div (length ws - 1)) (omega arith)

pub alone : (f : ℕ) (ws : List ℕ) (i : ℕ) → i < length ws → length ws ≡ 1 → f ≡ start 0 f ws i
alone f ws zero l e = rw (zero-mul 0, zero-div (length ws - 1)) (omega arith)
alone f ws (suc i) l e = absurd (omega arith)

pub share-today : (D n : ℕ) → 0 < n → 2 * D * 1 / (1 + 2 * (n - 1) + 1) ≡ D / n
share-today D n h =
    let e : 1 + 2 * (n - 1) + 1 ≡ 2 * n = omega arith in
    rw (e, mul-one (2 * D)) (mul-div-mul_left D n (omega arith))

-- a solid string has no space within it; nor has the longer one, which starts at 0
pub solid-starts : (D : ℕ) (ws : List ℕ) → along (solid D ws) ws ≡ starts 0 D ws
unfolding starts
solid-starts D ws = along-same _ _ ws (λ i l. no-space D ws i)

pub longer-starts : (ws : List ℕ) → along (solid 0 ws) ws ≡ starts 0 0 ws
longer-starts ws = solid-starts 0 ws

pub length-along : (f : ℕ → ℕ) (ws : List ℕ) → length (along f ws) ≡ length ws
length-along f ws = length-map (count 0 (length ws)) f ∙ length-count 0 (length ws)

pub along-at : (f : ℕ → ℕ) (ws : List ℕ) (i : ℕ) → i < length ws → get_or (along f ws) i 0 ≡ f i
along-at f ws i h = count_at f 0 0 (length ws) i h ∙ ap f (zero-add i)

pub length-starts : (within at : ℕ) (ws : List ℕ) → length (starts within at ws) ≡ length ws
unfolding starts
length-starts within at ws = length-along _ ws

pub starts-at : (within at : ℕ) (ws : List ℕ) (i : ℕ) → i < length ws → get_or (starts within at ws) i 0 ≡ start within at ws i
unfolding starts
starts-at within at ws i h = along-at _ ws i h

-- character 0 stands where the string starts
pub start_first : (s at : ℕ) (ws : List ℕ) → start s at ws 0 ≡ at
start_first s at ws = rw (mul-zero s, zero-div (length ws - 1)) (omega arith)

-- the first character stands at the string's start
pub starts_first : (within at : ℕ) (ws : List ℕ) → 0 < length ws → get_or (starts within at ws) 0 0 ≡ at
starts_first within at ws h = starts-at within at ws 0 h ∙ start_first within at ws

-- and the last ends where the widths and the space within end
pub starts-last : (within at : ℕ) (ws : List ℕ) → 0 < length ws → (length ws ≡ 1 → within ≡ 0) →
    get_or (starts within at ws) (length ws - 1) 0 + 2 * get_or ws (length ws - 1) 0 ≡ at + 2 * sum ws + within
starts-last within at ws h one =
    rw (starts-at within at ws (length ws - 1) (omega arith), whole (length ws - 1) refl)
    (omega (arith, take_step ws (length ws - 1) (omega arith), ap sum (take_all (length ws - 1 + 1) ws (omega arith))))
  where
    whole : (p : ℕ) → length ws - 1 ≡ p → within * p / p ≡ within
    whole zero e = rw (one (omega arith), div-zero)
    whole (suc p) e = mul-div_cancel within (omega arith)

-- moving a string's start moves each character alike
pub starts-moved : (x within at : ℕ) (ws : List ℕ) → starts within (x + at) ws ≡ map (λ y. x + y) (starts within at ws)
unfolding starts
starts-moved x within at ws =
    along-same _ (λ i. x + start within at ws i) ws (λ i h. go (2 * sum (take i ws)) (within * i / (length ws - 1)))
    ∙ sym (map-map (λ y. x + y) (start within at ws) (count 0 (length ws)))
  where
    go : (a b : ℕ) → x + at + a + b ≡ x + (at + a + b)
    go a b = omega arith

-- a part is at most the whole
pub part_le : (s i p : ℕ) → i ≤ p → s * i / p ≤ s
part_le s i p h = div-le_of_le-mul p (rw (mul_comm p s) (mul-le-mul_left s h))
