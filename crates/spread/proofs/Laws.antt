-- Laws of the gap rule and of the starts: they are the sentences of `Worded`, all space sums to 2D, 1:2:1 is today's rule, a string ends where
-- its space and widths say, and moving its start moves each character alike.
use Rattle.std.specs.Prelude.{◌≡◌, refl, Bool, true, false, cond, List, ℕ, ◌+◌, ◌-◌, ◌*◌, ◌/◌, ◌≤◌, ◌<◌, eqb, length, take}
use Rattle.std.proofs.Common.{ap, ◌∙◌, sym, div-one, zero-mul, mul-zero, arith, eqb-true}
use Rattle.std.proofs.lemmas.Bool.{eqb-false}
use Rattle.basics.specs.Lists.{sum}
use Rattle.spread.specs.declared.Way.{Way}
use Rattle.spread.specs.declared.Way.TheVariants.{Solid, Spread, Limited}
use Rattle.spread.specs.declared.Ratio.{Ratio}
use Rattle.spread.specs.declared.Gaps.{Gaps}
use Rattle.spread.specs.Worded.{solid, whole, front, rear, held, shared, spread, shorter, along}
use Rattle.spread.specs.Ratio.{one_two_one}
use Rattle.spread.specs.Today as today
use Rattle.spread.specs.Gap.{centred, rest, ends, gaps_by, gaps, start, starts}
use Rattle.spread.specs.Laws.{by_cond, share_le, shares_le, held_le, Sums, within-one, Even, even_today, half, along-same, no-space, alone, share-today, solid-starts}

-- The gap rule.

pub front_fits : (r : Ratio) (D n : ℕ) → front r D n ≤ 2 * D
front_fits r D n = share_le D r.a (whole r n) (omega arith)

pub ends-fit : (l : Bool) (r : Ratio) (em D n : ℕ) → held l em (front r D n) + held l em (rear r D n) ≤ 2 * D
ends-fit l r em D n = omega (arith, shares_le D r.a r.c (whole r n) (omega arith), held_le l em (front r D n), held_le l em (rear r D n))

sums_by : (l : Bool) (r : Ratio) (em D n : ℕ) → Sums D (gaps_by l r em D n)
unfolding gaps_by
sums_by l r em D n =
    by_cond (eqb n 1) (Sums D)
    (λ e. by_cond (eqb (r.a + r.c) 0) (Sums D) (λ z. record { all = omega arith }) (λ z. left))
    (λ e. by_cond (eqb r.m 0) (Sums D) (λ z. left) (λ z. record { all = both _ _ (ends-fit l r em D n) }))
  where
    one : (f : ℕ) → f ≤ 2 * D → f + 0 + (2 * D - f) ≡ 2 * D
    one f h = omega arith

    left : Sums D (rest (front r D n) D)
    left = record { all = one (front r D n) (front_fits r D n) }

    both : (f c : ℕ) → f + c ≤ 2 * D → f + (2 * D - (f + c)) + c ≡ 2 * D
    both f c h = omega arith

pub sums : (w : Way) (r : Ratio) (em D n : ℕ) → Sums D (gaps w r em D n)
unfolding gaps
sums Solid r em D n = record { all = omega arith }
sums Spread r em D n = sums_by false r em D n
sums Limited r em D n = sums_by true r em D n

pub all-space : (w : Way) (r : Ratio) (em D n : ℕ) → (gaps w r em D n).front + (gaps w r em D n).within + (gaps w r em D n).rear ≡ 2 * D
all-space w r em D n = (sums w r em D n).all

-- Equal end gaps: solid, and every ratio whose a is its c, as 1:2:1.

even_by : (l : Bool) (r : Ratio) (em D n : ℕ) → Even r → (gaps_by l r em D n).front ≡ (gaps_by l r em D n).rear
unfolding gaps_by
even_by l r em D n v =
    by_cond (eqb n 1) Same
    (λ e. by_cond (eqb (r.a + r.c) 0) Same (λ z. refl) (λ z. middle (single (eqb-true n 1 e)) (some (eqb-false (r.a + r.c) 0 z) v.same)))
    (λ e. by_cond (eqb r.m 0) Same (λ z. middle (none (eqb-true r.m 0 z)) (omega (arith, v.some, eqb-true r.m 0 z)))
    (λ z. ap (λ (a : ℕ). held l em (2 * D * a / whole r n)) v.same))
  where
    Same : Gaps → Type 0
    Same g = g.front ≡ g.rear

    some : (r.a + r.c ≡ 0 → ⊥) → r.a ≡ r.c → 0 < r.a
    some k e = omega arith

    single : n ≡ 1 → whole r n ≡ r.a + r.a
    single e = rw (e, mul-zero r.m) (omega (arith, v.same))

    none : r.m ≡ 0 → whole r n ≡ r.a + r.a
    none e = rw (e, zero-mul (n - 1)) (omega (arith, v.same))

    middle : whole r n ≡ r.a + r.a → 0 < r.a → front r D n ≡ 2 * D - front r D n
    middle e h = rw (e, half D r.a h) (omega arith)

pub even_ends : (w : Way) (r : Ratio) (em D n : ℕ) → Even r → (gaps w r em D n).front ≡ (gaps w r em D n).rear
unfolding gaps
even_ends Solid r em D n v = refl
even_ends Spread r em D n v = even_by false r em D n v
even_ends Limited r em D n v = even_by true r em D n v

-- then a gap in front is at most the difference, as document 01 has it; of any other ratio it is at most twice that, and so are both ends together
pub even_le : (w : Way) (r : Ratio) (em D n : ℕ) → Even r → (gaps w r em D n).front ≤ D
even_le w r em D n v = omega (arith, even_ends w r em D n v, all-space w r em D n)

pub ends_le : (w : Way) (r : Ratio) (em D n : ℕ) → (gaps w r em D n).front + (gaps w r em D n).rear ≤ 2 * D
ends_le w r em D n = omega (arith, all-space w r em D n)

-- the three numbers of 1:2:1 are today's: g, 2D - 2g, g
pub today-gaps : (w : Way) (em D n : ℕ) → (gaps w one_two_one em D n).within ≡ 2 * D - 2 * (gaps w one_two_one em D n).front
today-gaps w em D n = omega (arith, even_ends w one_two_one em D n even_today, all-space w one_two_one em D n)

-- The sentences of `Worded`: character i of the shorter string stands where the three numbers put it.

worded-by : (t : Bool) (r : Ratio) (em D : ℕ) (ws : List ℕ) (i : ℕ) → i < length ws → spread t r em D ws i ≡ start (gaps_by t r em D (length ws)).within (gaps_by t r em D (length ws)).front ws i
unfolding gaps_by
worded-by t r em D ws i l = go (eqb (length ws) 1) (eqb (r.a + r.c) 0) (eqb r.m 0) refl
  where
    f : ℕ
    f = front r D (length ws)

    h : ℕ
    h = held t em (front r D (length ws))

    k : ℕ
    k = held t em (rear r D (length ws))

    go : (x y z : Bool) → eqb (length ws) 1 ≡ x → cond x (cond y D f) (cond z (solid f ws i) (shared h k D ws i))
        ≡ start (cond x (cond y (centred D) (rest f D)) (cond z (rest f D) (ends h k D))).within (cond x (cond y (centred D) (rest f D)) (cond z (rest f D) (ends h k D))).front ws i
    go true true z e = alone D ws i l (eqb-true (length ws) 1 e)
    go true false z e = alone f ws i l (eqb-true (length ws) 1 e)
    go false y true e = no-space f ws i
    go false y false e = refl

pub worded : (w : Way) (r : Ratio) (em D : ℕ) (ws : List ℕ) (i : ℕ) → i < length ws → shorter w r em D ws i ≡ start (gaps w r em D (length ws)).within (gaps w r em D (length ws)).front ws i
unfolding gaps
worded Solid r em D ws i l = no-space D ws i
worded Spread r em D ws i l = worded-by false r em D ws i l
worded Limited r em D ws i l = worded-by true r em D ws i l

-- "1:2:1 must give today's positions": each character stands where document 01 puts it.

today-by : (t : Bool) (em D : ℕ) (ws : List ℕ) (i : ℕ) → i < length ws → spread t one_two_one em D ws i ≡ today.spread (held t em (D / length ws)) D ws i
today-by t em D ws i l = rw (share-today D (length ws) (omega arith)) (go (eqb (length ws) 1) refl)
  where
    g : ℕ
    g = held t em (D / length ws)

    go : (x : Bool) → eqb (length ws) 1 ≡ x → cond x (D / length ws) (shared g g D ws i) ≡ cond x D (g + 2 * sum (take i ws) + (2 * D - 2 * g) * i / (length ws - 1))
    go true e = rw (eqb-true (length ws) 1 e) (div-one D)
    go false e = ap (λ (s : ℕ). g + 2 * sum (take i ws) + (2 * D - s) * i / (length ws - 1)) (omega arith)

pub as_today : (w : Way) (em D : ℕ) (ws : List ℕ) (i : ℕ) → i < length ws → shorter w one_two_one em D ws i ≡ today.shorter w em D ws i
as_today Solid em D ws i l = refl
as_today Spread em D ws i l = today-by false em D ws i l
as_today Limited em D ws i l = today-by true em D ws i l

pub as_today-all : (w : Way) (em D : ℕ) (ws : List ℕ) → along (shorter w one_two_one em D ws) ws ≡ along (today.shorter w em D ws) ws
as_today-all w em D ws = along-same _ _ ws (as_today w em D ws)

-- The starts by the gaps.

pub worded-starts : (w : Way) (r : Ratio) (em D : ℕ) (ws : List ℕ) → along (shorter w r em D ws) ws ≡ starts (gaps w r em D (length ws)).within (gaps w r em D (length ws)).front ws
unfolding starts
worded-starts w r em D ws = along-same _ _ ws (worded w r em D ws)

-- where there is no space within and all the difference in front, the string is solid
as_solid : (w : Way) (r : Ratio) (em D : ℕ) (ws : List ℕ) → (gaps w r em D (length ws)).within ≡ 0 → (gaps w r em D (length ws)).front ≡ D → along (shorter w r em D ws) ws ≡ along (solid D ws) ws
as_solid w r em D ws e f = worded-starts w r em D ws ∙ rw (e, f) (sym (solid-starts D ws))

-- a single character of an even ratio is centred
pub even_one : (w : Way) (r : Ratio) (em D : ℕ) (ws : List ℕ) → Even r → length ws ≡ 1 → along (shorter w r em D ws) ws ≡ along (solid D ws) ws
even_one w r em D ws v e =
    let n = within-one w r em D (length ws) e in
    as_solid w r em D ws n (omega (arith, n, even_ends w r em D (length ws) v, all-space w r em D (length ws)))

-- with no difference every way is solid: "G, equal sums: solid"
pub no_difference : (w : Way) (r : Ratio) (em D : ℕ) (ws : List ℕ) → D ≡ 0 → along (shorter w r em D ws) ws ≡ along (solid D ws) ws
no_difference w r em D ws e = as_solid w r em D ws (omega (arith, all-space w r em D (length ws))) (omega (arith, all-space w r em D (length ws)))

-- The starts of a string.
