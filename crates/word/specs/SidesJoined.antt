-- The numbers of a word with two readings are document 02's places (`Both`), character by character; and with a left reading of no width the base and the right reading
-- are those of the word with one reading.
use Rattle.std.specs.Prelude.{◌≡◌, Bool, true, false, cond, ◌&&◌, ◌||◌, List, [], ◌∷◌, map, ℕ, ◌-◌, ◌*◌, ◌≤◌, ◌<◌, max, length}
use Rattle.std.proofs.Math.Path.{refl}
use Rattle.std.proofs.Common.{ap, ◌∙◌, true≢false, add-zero, arith, leb-true, leb-false, le-leb}
use Rattle.std.proofs.lemmas.Bool.{false≢true, lt-leb}
use Rattle.std.proofs.Math.Nat.{zero-add}
use Rattle.std.proofs.Math.Dec.{leb}
use Rattle.basics.specs.Lists.{sum}
use Rattle.basics.specs.Laws.{or_none}
use Rattle.spread.specs.declared.Way.{Way}
use Rattle.spread.specs.declared.Way.TheVariants.{Solid}
use Rattle.spread.specs.declared.Ratio.{Ratio}
use Rattle.spread.specs.Worded.{solid, shorter, along}
use Rattle.spread.specs.Gap.{gaps}
use Rattle.spread.specs.Laws.{longer-starts}
use Rattle.spread.proofs.Laws.{worded-starts, no_difference}
use Rattle.spread.specs.Ratio.{Ratios}
use Rattle.word.specs.declared.Script.{Script}
use Rattle.word.specs.declared.Script.TheVariants.{Kana}
use Rattle.word.specs.declared.Word.{Word}
use Rattle.word.specs.Alone.{Places, by_way, group, ruby_way, base_way, split, any_longer, over_own}
use Rattle.word.specs.Word.{by_runs}
use Rattle.word.specs.Joined.{group-is, over_own_lem}
use Rattle.word.specs.Both.{Both, longest, monos, other, groups, jukugos}
use Rattle.word.specs.Sides.{str_of, reading_over, sided, monos_word, groups_word, jukugos_word, block_starts, reading_starts}

-- a string over the length T of the longest, by its way and ratio
abbrev pub over : Way → Ratio → ℕ → ℕ → List ℕ → List ℕ
over way ratio em T ws = along (shorter way ratio em (T - sum ws) ws) ws

-- the longest stands solid at 0
over-longest : (way : Way) (ratio : Ratio) (em : ℕ) {T : ℕ} (ws : List ℕ) → T ≡ sum ws → over way ratio em T ws ≡ along (solid 0 ws) ws
over-longest way ratio em {T} ws e =
    let none : T - sum ws ≡ 0 = omega arith in
    no_difference way ratio em (T - sum ws) ws none ∙ ap (λ (D : ℕ). along (solid D ws) ws) none

-- the strings that a word's numbers describe, its origin at x: runs and widths of either side
abbrev pub both_at : Word → ℕ → ℕ → List ℕ → List ℕ → List ℕ → List ℕ → List ℕ → Both
both_at v em x bs runs rs lruns ls = record { base = block_starts v x bs; right = reading_starts v.right em x runs rs; left = reading_starts v.left em x lruns ls }

-- Three strings, each over the longest.

module _ (r l b : Way) (h : Ratios) (em : ℕ) (bs rs ls : List ℕ) where
  pub sided-is : (runs lruns : List ℕ) → let T = longest (sum bs) (sum rs) (sum ls) in
      both_at (sided r l b h em (str_of bs) (str_of rs) (str_of ls)) em 0 bs runs rs lruns ls
      ≡ record { base = over b h.base em T bs; right = over r h.ruby em T rs; left = over l h.ruby em T ls }
  unfolding sided reading_over block_starts reading_starts
  sided-is runs lruns =
      let T = longest (sum bs) (sum rs) (sum ls) in
      rw (worded-starts b h.base em (T - sum bs) bs, worded-starts r h.ruby em (T - sum rs) rs, worded-starts l h.ruby em (T - sum ls) ls)
      (rw (zero-add (gaps b h.base em (T - sum bs) (length bs)).front, zero-add (gaps r h.ruby em (T - sum rs) (length rs)).front, zero-add (gaps l h.ruby em (T - sum ls) (length ls)).front))

-- "Mono with mono"
pub monos_are : (h : Ratios) (em : ℕ) (bs rs ls runs lruns : List ℕ) → both_at (monos_word h em (str_of bs) (str_of rs) (str_of ls)) em 0 bs runs rs lruns ls ≡ monos bs rs ls
unfolding monos
monos_are h em bs rs ls runs lruns = sided-is Solid Solid Solid h em bs rs ls runs lruns

-- A group alone, by which string is the longer.

module _ (r b : Script) (h : Ratios) (em : ℕ) (bs rs : List ℕ) where
  short-reading : sum rs ≤ sum bs → group r b h em bs rs ≡ record { base = along (solid 0 bs) bs; ruby = over (ruby_way r b) h.ruby em (sum bs) rs }
  unfolding by_way
  short-reading l = group-is r b h em bs rs ∙ rw (le-leb _ _ l)

  long-reading : sum bs < sum rs → group r b h em bs rs ≡ record { base = over (base_way r b) h.base em (sum rs) bs; ruby = along (solid 0 rs) rs }
  unfolding by_way
  long-reading l = group-is r b h em bs rs ∙ rw (lt-leb _ _ l)

other-is : (o b : Script) (h : Ratios) (em T : ℕ) (os : List ℕ) → sum os ≤ T → other o b h em T os ≡ over (ruby_way o b) h.ruby em T os
unfolding other
other-is o b h em T os l = ap (λ (p : Places). p.ruby) (short-reading o b h em (T ∷ []) os (omega arith)) ∙ rw (add-zero T)

-- neither reading is longer than the base, or the longer one is
none-past : (B R L : ℕ) → (leb R B && leb L B) ≡ true → (R ≤ B) × (L ≤ B)
none-past B R L e = go (leb R B) (leb L B) refl refl e
  where
    go : (x y : Bool) → leb R B ≡ x → leb L B ≡ y → (x && y) ≡ true → (R ≤ B) × (L ≤ B)
    go true true p q e = (leb-true _ _ p, leb-true _ _ q)
    go true false p q e = absurd (false≢true e)
    go false y p q e = absurd (false≢true e)

past : (B R L : ℕ) → (leb R B && leb L B) ≡ false → B < max R L
past B R L e = go (leb R B) (leb L B) refl refl e
  where
    go : (x y : Bool) → leb R B ≡ x → leb L B ≡ y → (x && y) ≡ false → B < max R L
    go true true p q e = absurd (true≢false e)
    go true false p q e = omega (arith, leb-false L B q)
    go false y p q e = omega (arith, leb-false R B p)

-- "Two groups, or jukugo taken as group with either"
module _ (r l b : Script) (h : Ratios) (em : ℕ) (bs rs ls : List ℕ) where
  by-longer : (t u : Bool) → leb (sum ls) (sum rs) ≡ t → (leb (sum rs) (sum bs) && leb (sum ls) (sum bs)) ≡ u → let T = longest (sum bs) (sum rs) (sum ls) in
      ◌≡◌ {A = Both}
      (record { base = over (cond t (base_way r b) (base_way l b)) h.base em T bs; right = over (ruby_way r b) h.ruby em T rs; left = over (ruby_way l b) h.ruby em T ls })
      (cond u
      (record { base = (group r b h em bs rs).base; right = (group r b h em bs rs).ruby; left = (group l b h em bs ls).ruby })
      (cond t
      (record { base = (group r b h em bs rs).base; right = (group r b h em bs rs).ruby; left = other l b h em (sum rs) ls })
      (record { base = (group l b h em bs ls).base; right = other r b h em (sum ls) rs; left = (group l b h em bs ls).ruby })))
  by-longer t true e f =
      let p = none-past (sum bs) (sum rs) (sum ls) f in
      let T : longest (sum bs) (sum rs) (sum ls) ≡ sum bs = omega arith in
      rw (short-reading r b h em bs rs p.0, short-reading l b h em bs ls p.1, T, over-longest (cond t (base_way r b) (base_way l b)) h.base em bs refl)
  by-longer true false e f =
      let right : sum ls ≤ sum rs = leb-true _ _ e in
      let long = past (sum bs) (sum rs) (sum ls) f in
      let T : longest (sum bs) (sum rs) (sum ls) ≡ sum rs = omega arith in
      rw (long-reading r b h em bs rs (omega arith), other-is l b h em (sum rs) ls right, T, over-longest (ruby_way r b) h.ruby em rs refl)
  by-longer false false e f =
      let left : sum rs < sum ls = leb-false _ _ e in
      let long = past (sum bs) (sum rs) (sum ls) f in
      let T : longest (sum bs) (sum rs) (sum ls) ≡ sum ls = omega arith in
      rw (long-reading l b h em bs ls (omega arith), other-is r b h em (sum ls) rs (omega arith), T, over-longest (ruby_way l b) h.ruby em ls refl)

  pub groups_are : (runs lruns : List ℕ) → both_at (groups_word r l b h em (str_of bs) (str_of rs) (str_of ls)) em 0 bs runs rs lruns ls ≡ groups r l b h em bs rs ls
  unfolding groups
  groups_are runs lruns =
      sided-is (ruby_way r b) (ruby_way l b) (cond (leb (sum ls) (sum rs)) (base_way r b) (base_way l b)) h em bs rs ls runs lruns
      ∙ by-longer (leb (sum ls) (sum rs)) (leb (sum rs) (sum bs) && leb (sum ls) (sum bs)) refl refl

-- "with a left J": as group on both sides, or each run over its own character on both
pub jukugos_are : (r l : Script) (h : Ratios) (em : ℕ) (bs runs rs lruns ls : List ℕ) → both_at (jukugos_word r l h em bs runs rs lruns ls) em 0 bs runs rs lruns ls ≡ jukugos r l h em bs runs rs lruns ls
unfolding jukugos jukugos_word block_starts reading_starts
jukugos_are r l h em bs runs rs lruns ls = go (any_longer em (split runs rs) || any_longer em (split lruns ls)) refl
  where
    each : Word
    each = record { front = 0; len = 2 * sum bs; inbase = 0; right = by_runs em (sum bs) (map sum (split runs rs)); left = by_runs em (sum bs) (map sum (split lruns ls)) }

    go : (t : Bool) → (any_longer em (split runs rs) || any_longer em (split lruns ls)) ≡ t →
        both_at (cond t (groups_word r l Kana h em (str_of bs) (str_of rs) (str_of ls)) each) em 0 bs runs rs lruns ls
        ≡ cond t (groups r l Kana h em bs rs ls) (record { base = along (solid 0 bs) bs; right = over_own em 0 (split runs rs); left = over_own em 0 (split lruns ls) })
    go true e = groups_are r l Kana h em bs rs ls runs lruns
    go false e =
        let q = or_none (any_longer em (split runs rs)) (any_longer em (split lruns ls)) e in
        rw (over_own_lem em 0 (split runs rs) q.0, over_own_lem em 0 (split lruns ls) q.1, longer-starts bs)
