-- A sound table: the rows of an element go on to its end, a line sees no more than level one may make, and a J can be cut.
use Rattle.std.specs.Prelude.{◌≡◌, Bool, cond, ◌||◌, ℕ, ◌+◌, ◌-◌, ◌*◌, ◌≤◌, ◌<◌, max, eqb, leb, ltb, length}
use Rattle.std.proofs.Math.Path.{refl}
use Rattle.std.proofs.Common.{sym, ap, ap₂, ◌∙◌, subst, true≢false, zero-le, mul-le-mul, arith, le-leb, lt-ltb, le-ltb, eq-eqb, ne_eqb, eqb-true}
use Rattle.std.proofs.Math.Bool.{true, false}
use Rattle.std.proofs.lemmas.Bool.{lt-leb}
use Rattle.std.proofs.Math.Decide.{dec_lt}
use Rattle.spread.specs.declared.Way.{Way}
use Rattle.spread.specs.declared.Way.TheVariants.{Solid, Spread}
use Rattle.spread.specs.Ratio.{Ratios, Housed}
use Rattle.spread.proofs.Laws.{all-space}
use Rattle.spread.specs.declared.Ratio.{Ratio}
use Rattle.spread.specs.Gap.{gaps}
use Rattle.word.specs.declared.Str.{Str}
use Rattle.word.specs.declared.Reading.{Reading}
use Rattle.word.specs.declared.Word.{Word}
use Rattle.word.specs.Word.{none, between, short_ruby, short_base}
use Rattle.word.specs.Numbers.{word_from}
use Rattle.word.specs.Both.{longest}
use Rattle.word.specs.Sides.{reading_over, sided, monos_word}
use Rattle.line.specs.declared.State.{State}
use Rattle.line.specs.Setting.{furthest, total}
use Rattle.cells.specs.declared.Cell.{Cell}
use Rattle.cells.specs.Rows.{Rows}
use Rattle.cells.specs.Cells.{cell_at, each_over, ruby_way, part_by, both_by, over_with, both, part, word_at, element_of, piece, step_of, step_at, Ran, Cuts, has_ruby, Plain, Flat, Advances}

-- the row behind a, in the same element
pub record Follows (a b : Cell) : Type 0 where
  pub bases : a.bases ≡ b.bases + 1
  pub cut : a.cut ≡ b.cut
  pub ends : a.ends ≡ b.ends

pub record Row (t : Rows) (n i : ℕ) : Type 0 where
  pub some : 0 < (cell_at t i).bases
  pub few : (cell_at t i).bases ≤ 32
  pub inside : i + (cell_at t i).bases ≤ n
  pub total : total (element_of (cell_at t i).word (cell_at t i).before (cell_at t i).after) ≤ 524288
  pub plain : has_ruby (cell_at t i) ≡ false → Plain (cell_at t i)
  pub flat : has_ruby (cell_at t i) ≡ true → Flat (cell_at t i)
  pub follows : 1 < (cell_at t i).bases → Follows (cell_at t i) (cell_at t (i + 1))
  pub runs : (cell_at t i).cut ≡ true → (c : ℕ) → i < c → c ≤ i + (cell_at t i).bases → Ran (cell_at t i) (cell_at t (c - 1))

pub record Sound (t : Rows) (n : ℕ) : Type 0 where
  pub small : t.em ≤ 4096
  pub house : Housed t.ratios
  pub few : n ≤ 1024
  pub long : n ≤ length t.rows
  pub row : (i : ℕ) → i < n → Row t n i
  pub wide : (i : ℕ) → i < n → (cell_at t i).cut ≡ true → 0 < t.em

-- how long a line sees a word, whatever the depths
abbrev length_of : Word → ℕ
length_of w = total (element_of w 0 0)

-- a part is no longer than a word
way-total : (ruby base : Way) (h : Ratios) (em b n r m : ℕ) → b ≤ 131072 → r ≤ 262144 → length_of (word_from ruby base h em b n r m) ≤ 524288
unfolding word_from short_ruby short_base
way-total ruby base h em b n r m p k = go (dec_lt b r)
  where
    go : Dec (b < r) → length_of (word_from ruby base h em b n r m) ≤ 524288
    go (yes l) = rw (lt-leb r b l) (omega (arith, all-space base h.base em (r - b) n))
    go (no l) = rw (le-leb r b (omega arith)) (omega (arith, all-space ruby h.ruby em (b - r) m))

each-total : (em b first last : ℕ) (left : Reading) → b ≤ 131072 → left.upto ≤ 262144 → length_of (each_over b (between em b first last) left) ≤ 524288
unfolding each_over
each-total em b first last left h k = go left.there
  where
    go : (t : Bool) → max (0 + 2 * b) (max (2 * b - (em - last)) (cond t left.upto 0)) ≤ 524288
    go true = omega arith
    go false = omega arith

by_total : (h : Ratios) (em n r m : ℕ) (same : Bool) (first last : ℕ) (western : Bool) → em * n ≤ 131072 → r ≤ 262144 → length_of (part_by h em n r m same first last western) ≤ 524288
unfolding part_by
by_total h em n r m same first last western p k = go (eqb n 1) same
  where
    go : (x y : Bool) →
        length_of (cond x (word_from Solid Solid h em (em * n) n r m)
        (cond y (each_over (em * n) (between em (em * n) first last) none) (word_from (ruby_way western) Spread h em (em * n) n r m))) ≤ 524288
    go true y = way-total Solid Solid h em (em * n) n r m p k
    go false true = each-total em (em * n) first last none p zero-le
    go false false = way-total (ruby_way western) Spread h em (em * n) n r m p k

-- nor is one with a left reading: each string ends within the longest
sided-total : (r l b : Way) (h : Ratios) (em : ℕ) (bs rs ls : Str) → bs.width ≤ 131072 → rs.width ≤ 262144 → ls.width ≤ 262144 → length_of (sided r l b h em bs rs ls) ≤ 524288
unfolding sided reading_over
sided-total r l b h em bs rs ls p q u =
    let T = longest bs.width rs.width ls.width in
    let x = within T b h.base bs (base_le bs.width rs.width ls.width) in
    let y = within T r h.ruby rs (right_le bs.width rs.width ls.width) in
    let z = within T l h.ruby ls (left_le bs.width rs.width ls.width) in
    most T _ _ _ (most-long bs.width rs.width ls.width p q u) (omega (arith, x)) y z
  where
    within : (T : ℕ) (way : Way) (ratio : Ratio) (s : Str) → s.width ≤ T → let g = gaps way ratio em (T - s.width) s.count in g.front + 2 * s.width + g.within ≤ 2 * T
    within T way ratio s k = omega (arith, all-space way ratio em (T - s.width) s.count)

    base_le : (B R L : ℕ) → B ≤ longest B R L
    base_le B R L = omega arith

    right_le : (B R L : ℕ) → R ≤ longest B R L
    right_le B R L = omega arith

    left_le : (B R L : ℕ) → L ≤ longest B R L
    left_le B R L = omega arith

    most-long : (B R L : ℕ) → B ≤ 131072 → R ≤ 262144 → L ≤ 262144 → longest B R L ≤ 262144
    most-long B R L p q u = omega arith

    most : (T x y z : ℕ) → T ≤ 262144 → x ≤ 2 * T → y ≤ 2 * T → z ≤ 2 * T → max x (max y z) ≤ 524288
    most T x y z k p q u = omega arith

both_by-total : (h : Ratios) (em n : ℕ) (r l : Str) (last lastLeft : ℕ) → em * n ≤ 131072 → (n ≡ 1 → r.width ≤ 262144) → l.width ≤ 262144 →
    length_of (both_by h em n r l last lastLeft) ≤ 524288
unfolding both_by
both_by-total h em n r l last lastLeft p q u = go (eqb n 1) refl
  where
    go : (x : Bool) → eqb n 1 ≡ x →
        length_of (cond x (monos_word h em (record { width = em * n; count = n }) r l)
        (each_over (em * n) (between em (em * n) r.width last) (between em (em * n) l.width lastLeft))) ≤ 524288
    go true e = sided-total Solid Solid Solid h em (record { width = em * n; count = n }) r l p (q (eqb-true n 1 e)) u
    go false e = each-total em (em * n) r.width last (between em (em * n) l.width lastLeft) p (omega arith)

-- the rows of a part of one character are one
pub record Lone (a : Cell) : Type 0 where
  pub own : a.own ≤ 262144
  pub some : 0 < a.rubies
  pub few : a.rubies ≤ 4096

pub lone : (t : Rows) (i c : ℕ) → Cuts t i c → c - i ≡ 1 → Lone (cell_at t i)
lone t i c h e =
    let r : Ran (cell_at t i) (cell_at t i) = subst (λ (k : ℕ). Ran (cell_at t i) (cell_at t k)) (omega arith) h.ran in
    record { own = omega (arith, r.narrow); some = omega (arith, r.more); few = omega (arith, r.ends) }

pub part-total : (t : Rows) (i c : ℕ) → Cuts t i c → length_of (part t i c) ≤ 524288
unfolding part both
part-total t i c h = go (ltb 0 (cell_at t i).lefts)
  where
    a : Cell
    a = cell_at t i

    z : Cell
    z = cell_at t (c - 1)

    block : t.em * (c - i) ≤ 131072
    block = mul-le-mul {n₁ = t.em} {m₁ = c - i} {n₂ = 4096} {m₂ = 32} h.small (omega (arith, h.few))

    go : (x : Bool) →
        length_of (cond x (both t i c)
        (part_by t.ratios t.em (c - i) (z.wide + z.own - a.wide) (z.ruby + z.rubies - a.ruby) (eqb a.over (over_with t.em z)) a.own z.own a.western)) ≤ 524288
    go true =
        both_by-total t.ratios t.em (c - i) (record { width = a.own; count = a.rubies }) (record { width = a.ownleft; count = a.lefts }) z.own z.ownleft
        block (λ e. (lone t i c h e).own) h.ran.narrow_left
    go false =
        by_total t.ratios t.em (c - i) (z.wide + z.own - a.wide) (z.ruby + z.rubies - a.ruby) (eqb a.over (over_with t.em z)) a.own z.own a.western
        block (omega (arith, h.ran.narrow))

-- Every line of a sound table can be taken on by the piece at its end.

module _ (t : Rows) (n : ℕ) (sound : Sound t n) (i c : ℕ) (l : i < c) (u : c ≤ i + (cell_at t i).bases) (h : i < n) where
  pub cuts : (cell_at t i).cut ≡ true → Cuts t i c
  cuts j =
      let r = sound.row i h in
      record { small = sound.small; house = sound.house; ahead = l; few = omega (arith, r.few); held = omega (arith, sound.long, r.inside); ran = r.runs j c l u }

  pub piece-total : total (piece t i c) ≤ 524288
  unfolding word_at
  piece-total = go (cell_at t i).cut refl
    where
      go : (b : Bool) → (cell_at t i).cut ≡ b → total (element_of (cond b (part t i c) (cell_at t i).word) (cell_at t i).before (cell_at t i).after) ≤ 524288
      go true j = part-total t i c (cuts j)
      go false j = (sound.row i h).total

  pub advances : (st : State) → furthest st ≤ 524288 * i → Advances t st i c
  advances st f =
      let r = sound.row i h in
      record {
        held = omega (arith, sound.long);
        cuts = cuts;
        plain = r.plain;
        flat = r.flat;
        short = piece-total;
        near = omega (arith, sound.few);
      }

-- the word of a row that is cut, and of one that is not
pub cut_word : (t : Rows) (i c : ℕ) → (cell_at t i).cut ≡ true → word_at t i c ≡ part t i c
unfolding word_at
cut_word t i c e = rw e

pub whole_word : (t : Rows) (i c : ℕ) → (cell_at t i).cut ≡ false → word_at t i c ≡ (cell_at t i).word
unfolding word_at
whole_word t i c e = rw e

-- a step fits a number
pub fits : (t : Rows) (st : State) (i c : ℕ) → Advances t st i c → furthest st + total (piece t i c) ≤ 4294967295
fits t st i c a = omega (arith, a.short, a.near)

-- a piece that has ruby, on which none lies
module _ (t : Rows) (st : State) (i c : ℕ) (a : Advances t st i c) (ruby : has_ruby (cell_at t i) ≡ true) where
  pub flat-fits : furthest st + total (element_of (word_at t i c) 0 0) ≤ 4294967295
  flat-fits = fits t st i c a

  pub row_fits : (cell_at t i).cut ≡ false → furthest st + total (element_of (cell_at t i).word 0 0) ≤ 4294967295
  row_fits e = subst (λ w. furthest st + total (element_of w 0 0) ≤ 4294967295) (whole_word t i c e) flat-fits

  pub flat_step : step_of (word_at t i c) 0 0 st ≡ step_at t st i c
  flat_step = let f = a.flat ruby in ap₂ (λ x y. step_of (word_at t i c) x y st) (sym f.before) (sym f.after)

  pub row_step : (cell_at t i).cut ≡ false → step_of (cell_at t i).word 0 0 st ≡ step_at t st i c
  row_step e = ap (λ w. step_of w 0 0 st) (sym (whole_word t i c e)) ∙ flat_step

-- and one that has none
module _ (t : Rows) (st : State) (i c : ℕ) (a : Advances t st i c) (ruby : has_ruby (cell_at t i) ≡ false) where
  uncut : (cell_at t i).cut ≡ false
  uncut = go (cell_at t i).cut ruby
    where
      go : (x : Bool) → (x || (cell_at t i).word.right.there) ≡ false → x ≡ false
      go true e = absurd (true≢false e)
      go false e = refl

  pub plain_fits : furthest st + (cell_at t i).word.len ≤ 4294967295
  plain_fits = go (subst (λ w. furthest st + total (element_of w 0 0) ≤ 4294967295) (whole_word t i c uncut) (fits t st i c a))
    where
      go : furthest st + total (element_of (cell_at t i).word 0 0) ≤ 4294967295 → furthest st + (cell_at t i).word.len ≤ 4294967295
      go h = omega arith

  pub plain_word : (cell_at t i).word ≡ word_at t i c
  plain_word = sym (whole_word t i c uncut)

-- A part of a J is at least as long as its characters of one em.

way_long : (ruby base : Way) (h : Ratios) (em b n r m : ℕ) → 2 * b ≤ (word_from ruby base h em b n r m).len
unfolding word_from short_ruby short_base
way_long ruby base h em b n r m = go (dec_lt b r)
  where
    go : Dec (b < r) → 2 * b ≤ (word_from ruby base h em b n r m).len
    go (yes l) = rw (lt-leb r b l) (omega arith)
    go (no l) = rw (le-leb r b (omega arith)) (omega arith)

by-long : (h : Ratios) (em n r m : ℕ) (same : Bool) (first last : ℕ) (western : Bool) → 2 * (em * n) ≤ (part_by h em n r m same first last western).len
unfolding part_by each_over
by-long h em n r m same first last western = go (eqb n 1) same
  where
    go : (x y : Bool) →
        2 * (em * n) ≤ (cond x (word_from Solid Solid h em (em * n) n r m)
        (cond y (each_over (em * n) (between em (em * n) first last) none) (word_from (ruby_way western) Spread h em (em * n) n r m))).len
    go true y = way_long Solid Solid h em (em * n) n r m
    go false true = omega arith
    go false false = way_long (ruby_way western) Spread h em (em * n) n r m

both_long : (h : Ratios) (em n : ℕ) (r l : Str) (last lastLeft : ℕ) → 2 * (em * n) ≤ (both_by h em n r l last lastLeft).len
unfolding both_by each_over sided
both_long h em n r l last lastLeft = go (eqb n 1)
  where
    go : (x : Bool) →
        2 * (em * n) ≤ (cond x (monos_word h em (record { width = em * n; count = n }) r l)
        (each_over (em * n) (between em (em * n) r.width last) (between em (em * n) l.width lastLeft))).len
    go true = omega arith
    go false = omega arith

pub part-long : (t : Rows) (i c : ℕ) → 2 * (t.em * (c - i)) ≤ (part t i c).len
unfolding part both
part-long t i c = go (ltb 0 (cell_at t i).lefts)
  where
    a : Cell
    a = cell_at t i

    z : Cell
    z = cell_at t (c - 1)

    go : (x : Bool) →
        2 * (t.em * (c - i)) ≤ (cond x (both t i c)
        (part_by t.ratios t.em (c - i) (z.wide + z.own - a.wide) (z.ruby + z.rubies - a.ruby) (eqb a.over (over_with t.em z)) a.own z.own a.western)).len
    go true = both_long t.ratios t.em (c - i) (record { width = a.own; count = a.rubies }) (record { width = a.ownleft; count = a.lefts }) z.own z.ownleft
    go false =
        by-long t.ratios t.em (c - i) (z.wide + z.own - a.wide) (z.ruby + z.rubies - a.ruby) (eqb a.over (over_with t.em z)) a.own z.own a.western

-- A part without a left reading.

pub both_one : (t : Rows) (i c : ℕ) → c - i ≡ 1 →
    let a = cell_at t i in
    both t i c ≡ monos_word t.ratios t.em (record { width = t.em * (c - i); count = c - i }) (record { width = a.own; count = a.rubies }) (record { width = a.ownleft; count = a.lefts })
unfolding both both_by
both_one t i c h = rw (eq-eqb (c - i) 1 h)

pub both-more : (t : Rows) (i c : ℕ) → (c - i ≡ 1 → ⊥) →
    let a = cell_at t i in
    let z = cell_at t (c - 1) in
    let b = t.em * (c - i) in
    both t i c ≡ each_over b (between t.em b a.own z.own) (between t.em b a.ownleft z.ownleft)
unfolding both both_by
both-more t i c h = rw (ne_eqb (c - i) 1 h)

pub part-both : (t : Rows) (i c : ℕ) → 0 < (cell_at t i).lefts → part t i c ≡ both t i c
unfolding part
part-both t i c h = rw (lt-ltb 0 (cell_at t i).lefts h)

pub part-one : (t : Rows) (i c : ℕ) → (cell_at t i).lefts ≡ 0 →
    let a = cell_at t i in
    let z = cell_at t (c - 1) in
    part t i c
    ≡ part_by t.ratios t.em (c - i) (z.wide + z.own - a.wide) (z.ruby + z.rubies - a.ruby) (eqb a.over (over_with t.em z)) a.own z.own a.western
unfolding part
part-one t i c h = rw (le-ltb 0 (cell_at t i).lefts (omega arith))

-- a part of a J without left characters has no left reading

way-bare : (ruby base : Way) (h : Ratios) (em b n r m : ℕ) → (word_from ruby base h em b n r m).left.there ≡ false
unfolding word_from short_ruby short_base
way-bare ruby base h em b n r m = go (leb r b)
  where
    go : (x : Bool) → (cond x (short_ruby b r (gaps ruby h.ruby em (b - r) m)) (short_base b r (gaps base h.base em (r - b) n))).left.there ≡ false
    go true = refl
    go false = refl

by_bare : (h : Ratios) (em n r m : ℕ) (same : Bool) (first last : ℕ) (western : Bool) → (part_by h em n r m same first last western).left.there ≡ false
unfolding part_by each_over
by_bare h em n r m same first last western = go (eqb n 1) same
  where
    go : (x y : Bool) →
        (cond x (word_from Solid Solid h em (em * n) n r m)
        (cond y (each_over (em * n) (between em (em * n) first last) none) (word_from (ruby_way western) Spread h em (em * n) n r m))).left.there ≡ false
    go true y = way-bare Solid Solid h em (em * n) n r m
    go false true = refl
    go false false = way-bare (ruby_way western) Spread h em (em * n) n r m

pub part-bare : (t : Rows) (i c : ℕ) → (cell_at t i).lefts ≡ 0 → (part t i c).left.there ≡ false
part-bare t i c h =
    let a = cell_at t i in
    let z = cell_at t (c - 1) in
    ap (λ w. w.left.there) (part-one t i c h)
    ∙ by_bare t.ratios t.em (c - i) (z.wide + z.own - a.wide) (z.ruby + z.rubies - a.ruby) (eqb a.over (over_with t.em z)) a.own z.own a.western
