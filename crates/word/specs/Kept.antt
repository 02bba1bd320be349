-- What level one promises of every word to those above, with a left reading or without: lengths, limits, and which string is the longest. What is said of a reading is said
-- once, of either side.
use Rattle.std.specs.Prelude.{◌≡◌, Bool, true, false, cond, ◌||◌, List, [], map, ◌⊎◌, ℕ, ◌+◌, ◌-◌, ◌*◌, ◌≤◌, ◌<◌, max, leb, ltb, length, get_or, refl}
use Rattle.std.proofs.Common.{ap, ◌∙◌, true≢false, inl, inr, zero-le, leb-true, leb-false, sym, le_trans, arith}
use Rattle.std.proofs.lemmas.Bool.{false≢true}
use Rattle.basics.specs.Lists.{sum, any, last_or}
use Rattle.basics.specs.Laws.{or_none}
use Rattle.spread.specs.declared.Way.{Way}
use Rattle.spread.specs.declared.Way.TheVariants.{Solid}
use Rattle.spread.specs.declared.Gaps.{Gaps}
use Rattle.spread.specs.Gap.{gaps}
use Rattle.spread.specs.Laws.{Sums, within-one}
use Rattle.spread.proofs.Laws.{sums}
use Rattle.word.specs.declared.Script.TheVariants.{Kana}
use Rattle.word.specs.declared.Form.{Form}
use Rattle.word.specs.declared.Form.TheVariants as form
use Rattle.word.specs.declared.Left.{Left}
use Rattle.word.specs.declared.Left.TheVariants as left
use Rattle.word.specs.declared.Reading.{Reading}
use Rattle.word.specs.declared.Word.{Word}
use Rattle.word.specs.Given.{Given, has_ruby, is_j}
use Rattle.word.specs.Alone.{script, ruby_way, base_way, split, any_longer}
use Rattle.word.specs.Word.{none, by_runs, over_each, jukugo_word, total}
use Rattle.word.specs.Word as one
use Rattle.word.specs.Promise.{Promise}
use Rattle.word.specs.Promise as promise
use Rattle.word.specs.Sized.{Small, Sized, small}
use Rattle.word.specs.Runs.{first_fits, last_fits}
use Rattle.word.specs.Both.{Gloss, has_left, takes, apart, is_group, longest}
use Rattle.word.specs.Sides.{str_of, reading_over, sided, groups_word, jukugos_by, jukugos_word, two_by, word_two, word_of}

-- a reading that lies within the block of its word, or around it; or within another reading
pub record Inside (v : Word) (u : Reading) : Type 0 where
  pub enters : v.front ≤ u.from
  pub runs : u.from ≤ u.upto
  pub leaves : u.upto ≤ v.front + v.len

pub record Around (v : Word) (u : Reading) : Type 0 where
  pub leads : u.from ≤ v.front
  pub trails : v.front + v.len ≤ u.upto

pub record Held (o u : Reading) : Type 0 where
  pub enters : o.from ≤ u.from
  pub runs : u.from ≤ u.upto
  pub leaves : u.upto ≤ o.upto

-- The longest string of a word starts at its origin and holds the others: the base, or the reading u, the other being o.
pub record BaseLongest (v : Word) : Type 0 where
  pub flush : v.front ≡ 0
  pub right : v.right.there ≡ true → Inside v v.right
  pub left : v.left.there ≡ true → Inside v v.left

pub record ReadingLongest (v : Word) (u o : Reading) : Type 0 where
  pub there : u.there ≡ true
  pub flush : u.from ≡ 0
  pub around : Around v u
  pub other : o.there ≡ true → Held u o

abbrev pub Longest : Word → Type 0
Longest v = BaseLongest v ⊎ (ReadingLongest v v.right v.left ⊎ ReadingLongest v v.left v.right)

-- A reading of these widths: one string, or runs each over its own character of one em, over a base of the width B.
pub record Reads (u : Reading) (there : Bool) (em B : ℕ) (runs ws : List ℕ) : Type 0 where
  pub is : u.there ≡ there
  pub string : u.runs ≡ false → there ≡ true → u.upto ≡ u.from + 2 * sum ws + u.within
  pub each : u.runs ≡ true → (any_longer em (split runs ws) ≡ false) × (u ≡ by_runs em B (map sum (split runs ws)))
  pub single : length ws ≡ 1 → u.within ≡ 0

pub record Kept (form : Form) (w : Given) (g : Gloss) (v : Word) : Type 0 where
  pub some : 0 < v.len
  pub longest : Longest v
  pub limit : total v ≤ 524288
  pub sums : total v ≤ 2 * (sum w.width + sum w.ruby_width + sum g.width)
  pub block : v.len ≡ 2 * sum w.width + v.inbase
  pub single : length w.width ≡ 1 → v.inbase ≡ 0
  pub right : Reads v.right (has_ruby form) w.em (sum w.width) w.run w.ruby_width
  pub left : Reads v.left (has_left g.kind) w.em (sum w.width) g.run g.width

-- What the callers have made sure of: a left reading has characters, few and narrow enough, in runs where it stands over a J; and its element is one word.
pub record LeftSized (form : Form) (g : Gloss) : Type 0 where
  pub whole : apart form g.kind ≡ false
  pub takes : takes form g.kind ≡ true
  pub reads : has_left g.kind ≡ true → 0 < length g.width
  pub few : length g.width ≤ 64
  pub narrow : sum g.width ≤ 262144
  pub none : has_left g.kind ≡ false → g.width ≡ []

-- A word without a left reading.

no_left_lem : (kind : Left) → has_left kind ≡ false → kind ≡ left.N
no_left_lem left.N e = refl
no_left_lem left.M e = absurd (true≢false e)
no_left_lem left.G e = absurd (true≢false e)
no_left_lem left.J e = absurd (true≢false e)

module _ (form : Form) (w : Given) (v : Word) (k : Promise form w v) where
  off : v.left.there ≡ true → ⊥
  off q = false≢true (sym (ap (λ (u : Reading). u.there) k.one) ∙ q)

  one-longest : (t : Bool) → has_ruby form ≡ t → Longest v
  one-longest true h = go (k.shape (k.reads ∙ h)) k.edge
    where
      go : promise.Inside v ⊎ promise.Around v → (v.front ≡ 0) ⊎ (v.right.from ≡ 0) → Longest v
      go (inl i) (inl f) = inl (record { flush = f; right = λ q. record { enters = i.enters; runs = i.runs; leaves = i.leaves }; left = λ q. absurd (off q) })
      go (inl i) (inr f) = inl (record { flush = omega (arith, i.enters); right = λ q. record { enters = i.enters; runs = i.runs; leaves = i.leaves }; left = λ q. absurd (off q) })
      go (inr a) (inl f) = inr (inl (record { there = k.reads ∙ h; flush = omega (arith, a.leads); around = record { leads = a.leads; trails = a.trails }; other = λ q. absurd (off q) }))
      go (inr a) (inr f) = inr (inl (record { there = k.reads ∙ h; flush = f; around = record { leads = a.leads; trails = a.trails }; other = λ q. absurd (off q) }))
  one-longest false h = inl (record { flush = k.plain h; right = λ q. absurd (false≢true (sym (k.reads ∙ h) ∙ q)); left = λ q. absurd (off q) })

  one_kept : (g : Gloss) → has_left g.kind ≡ false → Kept form w g v
  one_kept g e =
      record {
        some = k.some;
        longest = one-longest (has_ruby form) refl;
        limit = k.limit;
        sums = omega (arith, k.sums);
        block = k.block;
        single = k.single;
        right = record { is = k.reads; string = k.string; each = k.each; single = k.single_ruby };
        left =
            rw (k.one, e)
            (record { is = refl; string = λ q t. absurd (false≢true t); each = λ q. absurd (false≢true q); single = λ q. refl });
      }

-- A word of three strings, each over the longest.

-- the space of a string over the length T
abbrev Spread : ℕ → ℕ → Gaps → Type 0
Spread T W g = Sums (T - W) g

-- it ends within T
ends-within : (T W : ℕ) (g : Gaps) → W ≤ T → Spread T W g → g.front + 2 * W + g.within ≤ 2 * T
ends-within T W g h s = omega (arith, s.all)

abbrev three : ℕ → ℕ → ℕ → Gaps → Gaps → Gaps → Word
three B R L b r l =
    record {
      front = b.front;
      len = 2 * B + b.within;
      inbase = b.within;
      right = one.string r.front (r.front + 2 * R + r.within) r.within;
      left = one.string l.front (l.front + 2 * L + l.within) l.within;
    }

module _ (T B R L : ℕ) (b r l : Gaps) (long : T ≡ longest B R L) (sb : Spread T B b) (sr : Spread T R r) (sl : Spread T L l) where
  three-longest : Longest (three B R L b r l)
  three-longest = go (leb R B) (leb L B) (leb L R) refl refl refl
    where
      inside : (W : ℕ) (g : Gaps) → T ≡ B → W ≤ B → Spread T W g → Inside (three B R L b r l) (one.string g.front (g.front + 2 * W + g.within) g.within)
      inside W g e h s = record { enters = omega (arith, sb.all); runs = omega arith; leaves = omega (arith, sb.all, s.all) }

      base : T ≡ B → R ≤ B → L ≤ B → BaseLongest (three B R L b r l)
      base e h k = record { flush = omega (arith, sb.all); right = λ _. inside R r e h sr; left = λ _. inside L l e k sl }

      reading : (W O : ℕ) (g o : Gaps) → T ≡ W → B ≤ W → O ≤ W → Spread T W g → Spread T O o →
          ReadingLongest (three B R L b r l) (one.string g.front (g.front + 2 * W + g.within) g.within) (one.string o.front (o.front + 2 * O + o.within) o.within)
      reading W O g o e h k s t =
          record {
            there = refl;
            flush = omega (arith, s.all);
            around = record { leads = omega (arith, s.all); trails = omega (arith, s.all, sb.all) };
            other = λ _. record { enters = omega (arith, s.all); runs = omega arith; leaves = omega (arith, s.all, t.all) };
          }

      go : (x y z : Bool) → leb R B ≡ x → leb L B ≡ y → leb L R ≡ z → Longest (three B R L b r l)
      go true true z p q t = let h = leb-true R B p in let k = leb-true L B q in inl (base (omega (arith, h, k)) h k)
      go true false z p q t = let h = leb-true R B p in let k = leb-false L B q in inr (inr (reading L R l r (omega (arith, h, k)) (omega (arith, k)) (omega (arith, h, k)) sl sr))
      go false y true p q t = let h = leb-false R B p in let k = leb-true L R t in inr (inl (reading R L r l (omega (arith, h, k)) (omega (arith, h)) k sr sl))
      go false y false p q t = let h = leb-false R B p in let k = leb-false L R t in inr (inr (reading L R l r (omega (arith, h, k)) (omega (arith, h, k)) (omega (arith, k)) sl sr))

  three-total : total (three B R L b r l) ≤ 2 * T
  three-total =
      let p = ends-within T B b (rw long (base_le B R L)) sb in
      let q = ends-within T R r (rw long (right_le B R L)) sr in
      let u = ends-within T L l (rw long (left_le B R L)) sl in
      most b.front (2 * B + b.within) (r.front + 2 * R + r.within) (l.front + 2 * L + l.within) (omega (arith, p)) q u
    where
      base_le : (B R L : ℕ) → B ≤ longest B R L
      base_le B R L = omega arith

      right_le : (B R L : ℕ) → R ≤ longest B R L
      right_le B R L = omega arith

      left_le : (B R L : ℕ) → L ≤ longest B R L
      left_le B R L = omega arith

      most : (f n x y : ℕ) → f + n ≤ 2 * T → x ≤ 2 * T → y ≤ 2 * T → max (f + n) (max x y) ≤ 2 * T
      most f n x y p q u = omega arith

-- Runs on both sides, each over its own character of one em.

abbrev each_side : ℕ → ℕ → List ℕ → List ℕ → Word
each_side em B rights lefts = record { front = 0; len = 2 * B; inbase = 0; right = by_runs em B rights; left = by_runs em B lefts }

runs-inside : (em B : ℕ) (rights lefts ls : List ℕ) → em ≤ B → any (ltb em) ls ≡ false → Inside (each_side em B rights lefts) (by_runs em B ls)
runs-inside em B rights lefts ls h e =
    let f : get_or ls 0 0 ≤ em = first_fits em ls e in
    let k : last_or 0 ls ≤ em = last_fits em 0 ls zero-le e in
    record { enters = zero-le; runs = omega arith; leaves = omega arith }

runs-total : (em B : ℕ) (rights lefts : List ℕ) → total (each_side em B rights lefts) ≤ 2 * B
runs-total em B rights lefts = go (em - last_or 0 rights) (em - last_or 0 lefts)
  where
    go : (x y : ℕ) → max (0 + 2 * B) (max (2 * B - x) (2 * B - y)) ≤ 2 * B
    go x y = omega arith

-- A word with a left reading.

module _ (form : Form) (w : Given) (g : Gloss) (ruby : has_ruby form ≡ true) (s : Small w.width w.ruby_width) (z : LeftSized form g) (here : has_left g.kind ≡ true) where
  by-sides : (r l b : Way) → Kept form w g (sided r l b w.ratios w.em (str_of w.width) (str_of w.ruby_width) (str_of g.width))
  unfolding sided reading_over
  by-sides r l b =
      let T = longest (sum w.width) (sum w.ruby_width) (sum g.width) in
      let gb = gaps b w.ratios.base w.em (T - sum w.width) (length w.width) in
      let gr = gaps r w.ratios.ruby w.em (T - sum w.ruby_width) (length w.ruby_width) in
      let gl = gaps l w.ratios.ruby w.em (T - sum g.width) (length g.width) in
      let sb = sums b w.ratios.base w.em (T - sum w.width) (length w.width) in
      let sr = sums r w.ratios.ruby w.em (T - sum w.ruby_width) (length w.ruby_width) in
      let sl = sums l w.ratios.ruby w.em (T - sum g.width) (length g.width) in
      let t = three-total T (sum w.width) (sum w.ruby_width) (sum g.width) gb gr gl refl sb sr sl in
      record {
        some = omega (arith, s.some);
        longest = three-longest T (sum w.width) (sum w.ruby_width) (sum g.width) gb gr gl refl sb sr sl;
        limit = le_trans t (twice (sum w.width) (sum w.ruby_width) (sum g.width) s.narrow s.narrow_ruby z.narrow);
        sums = le_trans t (all (sum w.width) (sum w.ruby_width) (sum g.width));
        block = refl;
        single = λ q. within-one b w.ratios.base w.em _ (length w.width) q;
        right = record { is = sym ruby; string = λ q k. refl; each = λ q. absurd (false≢true q); single = λ q. within-one r w.ratios.ruby w.em _ (length w.ruby_width) q };
        left = record { is = sym here; string = λ q k. refl; each = λ q. absurd (false≢true q); single = λ q. within-one l w.ratios.ruby w.em _ (length g.width) q };
      }
    where
      twice : (B R L : ℕ) → B ≤ 131072 → R ≤ 262144 → L ≤ 262144 → 2 * longest B R L ≤ 524288
      twice B R L p q u = omega arith

      all : (B R L : ℕ) → 2 * longest B R L ≤ 2 * (B + R + L)
      all B R L = omega arith

  -- its runs on both sides each over their own characters
  both_runs : w.em ≤ sum w.width → any_longer w.em (split w.run w.ruby_width) ≡ false → any_longer w.em (split g.run g.width) ≡ false →
      Kept form w g (each_side w.em (sum w.width) (map sum (split w.run w.ruby_width)) (map sum (split g.run g.width)))
  both_runs h e f =
      let rights = map sum (split w.run w.ruby_width) in
      let lefts = map sum (split g.run g.width) in
      let t = runs-total w.em (sum w.width) rights lefts in
      let inside : (ls : List ℕ) → any (ltb w.em) ls ≡ false → Inside (each_side w.em (sum w.width) rights lefts) (by_runs w.em (sum w.width) ls)
      = λ ls none. runs-inside w.em (sum w.width) rights lefts ls h none in
      record {
        some = omega (arith, s.some);
        longest = inl (record { flush = refl; right = λ _. inside rights e; left = λ _. inside lefts f });
        limit = le_trans t (omega (arith, s.narrow));
        sums = le_trans t (omega arith);
        block = omega arith;
        single = λ q. refl;
        right = record { is = sym ruby; string = λ q k. absurd (true≢false q); each = λ q. (e, refl); single = λ q. refl };
        left = record { is = sym here; string = λ q k. absurd (true≢false q); each = λ q. (f, refl); single = λ q. refl };
      }

-- Every word that is one.

by_cond : (t : Bool) (Q : Word → Type 0) {a b : Word} → (t ≡ true → Q a) → (t ≡ false → Q b) → Q (cond t a b)
by_cond true Q f g = f refl
by_cond false Q f g = g refl

two-kept : (form : Form) (w : Given) (g : Gloss) → Sized form w.width w.ruby_width w.run → LeftSized form g → (is_j form ≡ true → w.em ≤ sum w.width) → has_left g.kind ≡ true →
    Kept form w g (word_two form w g)
unfolding word_two two_by jukugos_by jukugos_word
two-kept form.P w g s z j here = absurd (none g.kind z.takes here)
  where
    none : (k : Left) → takes form.P k ≡ true → has_left k ≡ true → ⊥
    none left.N t h = false≢true h
    none left.M t h = false≢true t
    none left.G t h = false≢true t
    none left.J t h = false≢true t
two-kept form.M w g s z j here = by-sides form.M w g refl (small form.M _ _ _ refl s) z here Solid Solid Solid
two-kept form.G w g s z j here =
    let r = script w.ruby_class in
    let l = script g.class in
    let b = script w.class in
    by-sides form.G w g refl (small form.G _ _ _ refl s) z here (ruby_way r b) (ruby_way l b) (cond (leb (sum g.width) (sum w.ruby_width)) (base_way r b) (base_way l b))
two-kept form.J w g s z j here =
    by_cond (is_group g.kind) (Kept form.J w g) (λ _. group)
    (λ _. by_cond (any_longer w.em (split w.run w.ruby_width) || any_longer w.em (split g.run g.width)) (Kept form.J w g) (λ _. group)
    (λ e.
    let q = or_none (any_longer w.em (split w.run w.ruby_width)) (any_longer w.em (split g.run g.width)) e in
    both_runs form.J w g refl (small form.J _ _ _ refl s) z here (j refl) q.0 q.1))
  where
    group : Kept form.J w g (groups_word (script w.ruby_class) (script g.class) Kana w.ratios w.em (str_of w.width) (str_of w.ruby_width) (str_of g.width))
    group =
        let r = script w.ruby_class in
        let l = script g.class in
        by-sides form.J w g refl (small form.J _ _ _ refl s) z here (ruby_way r Kana) (ruby_way l Kana) (cond (leb (sum g.width) (sum w.ruby_width)) (base_way r Kana) (base_way l Kana))

pub all-kept : (form : Form) (w : Given) (g : Gloss) → Sized form w.width w.ruby_width w.run → LeftSized form g → (is_j form ≡ true → w.em ≤ sum w.width) → Kept form w g (word_of form w g)
unfolding word_of
all-kept form w g s z j =
    by_cond (has_left g.kind) (Kept form w g) (two-kept form w g s z j) (one_kept form w (one.word_of form w) (promise.word_kept form w s j) g)
