-- The numbers of a word are document 01's places: the strings that they describe are those of `Alone`, character by character.
use Rattle.std.specs.Prelude.{◌≡◌, refl, Bool, cond, List, [], ◌∷◌, ◌++◌, map, ℕ, ◌+◌, ◌-◌, ◌*◌, ◌≤◌, leb, eqb, ltb, length}
use Rattle.std.proofs.Math.Path.{sym, ap}
use Rattle.std.proofs.Common.{ap₂, ◌∙◌, add-zero, add_assoc, arith, le-leb, eqb-true, ltb-false}
use Rattle.std.proofs.Math.Bool.{true, false}
use Rattle.std.proofs.lemmas.Bool.{false≢true}
use Rattle.std.proofs.lemmas.List.{map-append}
use Rattle.basics.specs.Lists.{sum}
use Rattle.basics.specs.Laws.{or_none}
use Rattle.spread.specs.declared.Way.{Way}
use Rattle.spread.specs.declared.Way.TheVariants.{Solid}
use Rattle.spread.specs.Worded.{solid, shorter, along}
use Rattle.spread.specs.Gap.{gaps, starts}
use Rattle.spread.specs.Laws.{solid-starts, longer-starts, starts-moved}
use Rattle.spread.proofs.Laws.{worded-starts, no_difference, as_today-all}
use Rattle.spread.specs.Ratio.{one_two_one}
use Rattle.spread.specs.Today as today
use Rattle.spread.specs.Ratio.{Ratios}
use Rattle.word.specs.declared.Script.{Script}
use Rattle.word.specs.declared.Script.TheVariants.{Kana}
use Rattle.word.specs.declared.Form.{Form}
use Rattle.word.specs.declared.Form.TheVariants.{P, M, G, J}
use Rattle.word.specs.declared.Word.{Word}
use Rattle.word.specs.Given.{Given, has_ruby}
use Rattle.word.specs.Alone.{Places, by_way, mono, group, jukugo, places, script, ruby_way, base_way, split, any_longer, over_own}
use Rattle.word.specs.Word.{short_ruby, short_base, word_by, plain, group_word, over_each, jukugo_word, word_of, run_starts, base_starts, ruby_starts}

-- the strings that a word's numbers describe, its origin at 0
abbrev pub base_alone : Word → List ℕ → List ℕ
base_alone v bs = starts v.inbase v.front bs

abbrev pub ruby_alone : Word → ℕ → List ℕ → List ℕ → List ℕ
ruby_alone v em runs rs = cond v.right.runs (run_starts em 0 (split runs rs)) (starts v.right.within v.right.from rs)

-- Two strings, each by its way where it is the shorter.

module _ (r b : Way) (h : Ratios) (em : ℕ) (bs rs : List ℕ) where
  pub by-base : base_alone (word_by r b h em bs rs) bs ≡ (by_way (shorter r h.ruby em) (shorter b h.base em) bs rs).base
  unfolding word_by short_ruby short_base by_way
  by-base = go (leb (sum rs) (sum bs))
    where
      go : (t : Bool) →
          base_alone (cond t (short_ruby (sum bs) (sum rs) (gaps r h.ruby em (sum bs - sum rs) (length rs))) (short_base (sum bs) (sum rs) (gaps b h.base em (sum rs - sum bs) (length bs)))) bs
          ≡ (cond {A = Places} t (record { base = along (solid 0 bs) bs; ruby = along (shorter r h.ruby em (sum bs - sum rs) rs) rs }) (record { base = along (shorter b h.base em (sum rs - sum bs) bs) bs; ruby = along (solid 0 rs) rs })).base
      go true = sym (longer-starts bs)
      go false = sym (worded-starts b h.base em (sum rs - sum bs) bs)

  pub by_ruby_lem : (runs : List ℕ) → ruby_alone (word_by r b h em bs rs) em runs rs ≡ (by_way (shorter r h.ruby em) (shorter b h.base em) bs rs).ruby
  unfolding word_by short_ruby short_base by_way
  by_ruby_lem runs = go (leb (sum rs) (sum bs))
    where
      go : (t : Bool) →
          ruby_alone (cond t (short_ruby (sum bs) (sum rs) (gaps r h.ruby em (sum bs - sum rs) (length rs))) (short_base (sum bs) (sum rs) (gaps b h.base em (sum rs - sum bs) (length bs)))) em runs rs
          ≡ (cond {A = Places} t (record { base = along (solid 0 bs) bs; ruby = along (shorter r h.ruby em (sum bs - sum rs) rs) rs }) (record { base = along (shorter b h.base em (sum rs - sum bs) bs) bs; ruby = along (solid 0 rs) rs })).ruby
      go true = sym (worded-starts r h.ruby em (sum bs - sum rs) rs)
      go false = sym (longer-starts rs)

-- with equal sums every way is solid
equal-sums : (r b : Way) (h : Ratios) (em : ℕ) (bs rs : List ℕ) → sum bs ≡ sum rs → by_way (shorter r h.ruby em) (shorter b h.base em) bs rs ≡ by_way solid solid bs rs
unfolding by_way
equal-sums r b h em bs rs e =
    rw (le-leb (sum rs) (sum bs) (omega arith))
    (ap {B = Places} (λ (l : List ℕ). record { base = along (solid 0 bs) bs; ruby = l }) (no_difference r h.ruby em (sum bs - sum rs) rs (omega arith)))

-- G

pub group-is : (r b : Script) (h : Ratios) (em : ℕ) (bs rs : List ℕ) → group r b h em bs rs ≡ by_way (shorter (ruby_way r b) h.ruby em) (shorter (base_way r b) h.base em) bs rs
unfolding group
group-is r b h em bs rs = go (eqb (sum bs) (sum rs)) refl
  where
    spread : Places
    spread = by_way (shorter (ruby_way r b) h.ruby em) (shorter (base_way r b) h.base em) bs rs

    go : (t : Bool) → eqb (sum bs) (sum rs) ≡ t → cond t (by_way solid solid bs rs) spread ≡ spread
    go true e = sym (equal-sums (ruby_way r b) (base_way r b) h em bs rs (eqb-true (sum bs) (sum rs) e))
    go false e = refl

module _ (r b : Script) (h : Ratios) (em : ℕ) (bs rs : List ℕ) where
  group-base : base_alone (group_word r b h em bs rs) bs ≡ (group r b h em bs rs).base
  unfolding group_word
  group-base = by-base (ruby_way r b) (base_way r b) h em bs rs ∙ ap (λ (p : Places). p.base) (sym (group-is r b h em bs rs))

  group-ruby : (runs : List ℕ) → ruby_alone (group_word r b h em bs rs) em runs rs ≡ (group r b h em bs rs).ruby
  unfolding group_word
  group-ruby runs = by_ruby_lem (ruby_way r b) (base_way r b) h em bs rs runs ∙ ap (λ (p : Places). p.ruby) (sym (group-is r b h em bs rs))

-- 1:2:1: what is spread stands where document 01's sentences put it, before R-4
pub by-today : (r b : Way) (em : ℕ) (bs rs : List ℕ) → by_way (shorter r one_two_one em) (shorter b one_two_one em) bs rs ≡ by_way (today.shorter r em) (today.shorter b em) bs rs
unfolding by_way
by-today r b em bs rs = go (leb (sum rs) (sum bs))
  where
    go : (t : Bool) →
        cond {A = Places} t (record { base = along (solid 0 bs) bs; ruby = along (shorter r one_two_one em (sum bs - sum rs) rs) rs }) (record { base = along (shorter b one_two_one em (sum rs - sum bs) bs) bs; ruby = along (solid 0 rs) rs })
        ≡ cond t (record { base = along (solid 0 bs) bs; ruby = along (today.shorter r em (sum bs - sum rs) rs) rs }) (record { base = along (today.shorter b em (sum rs - sum bs) bs) bs; ruby = along (solid 0 rs) rs })
    go true = ap {B = Places} (λ (l : List ℕ). record { base = along (solid 0 bs) bs; ruby = l }) (as_today-all r em (sum bs - sum rs) rs)
    go false = ap {B = Places} (λ (l : List ℕ). record { base = l; ruby = along (solid 0 rs) rs }) (as_today-all b em (sum rs - sum bs) bs)

-- J, each run over its own character

-- a run of at most one em is solid over its character
own-run : (em : ℕ) (run : List ℕ) → sum run ≤ em → (mono (em ∷ []) run).ruby ≡ starts 0 (em - sum run) run
unfolding mono by_way
own-run em run h = rw (le-leb (sum run) (em + 0) (omega arith)) (solid-starts (em + 0 - sum run) run ∙ rw (add-zero em))

pub over_own_lem : (em at : ℕ) (runs : List (List ℕ)) → any_longer em runs ≡ false → run_starts em at runs ≡ over_own em at runs
unfolding run_starts over_own
over_own_lem em at [] e = refl
over_own_lem em at (run ∷ runs) e =
    let q = or_none (ltb em (sum run)) (any_longer em runs) e in
    ap₂ {C = List ℕ} (λ a b. a ++ b)
    (starts-moved at 0 (em - sum run) run ∙ ap (map (λ x. at + x)) (sym (own-run em run (ltb-false _ _ q.0))))
    (over_own_lem em (at + 2 * em) runs q.1)

-- Each form: the record's strings are document 01's places.

pub base_alone_lem : (form : Form) (w : Given) → base_alone (word_of form w) w.width ≡ (places form w).base
unfolding word_of places mono plain group_word jukugo_word jukugo over_each
base_alone_lem P w = sym (longer-starts w.width)
base_alone_lem M w = by-base Solid Solid w.ratios w.em w.width w.ruby_width
base_alone_lem G w = group-base (script w.ruby_class) (script w.class) w.ratios w.em w.width w.ruby_width
base_alone_lem J w = go (any_longer w.em (split w.run w.ruby_width))
  where
    r : Script
    r = script w.ruby_class

    go : (t : Bool) →
        base_alone (cond t (group_word r Kana w.ratios w.em w.width w.ruby_width) (over_each w.em (sum w.width) (map sum (split w.run w.ruby_width)))) w.width
        ≡ (cond {A = Places} t (group r Kana w.ratios w.em w.width w.ruby_width) (record { base = along (solid 0 w.width) w.width; ruby = over_own w.em 0 (split w.run w.ruby_width) })).base
    go true = group-base r Kana w.ratios w.em w.width w.ruby_width
    go false = sym (longer-starts w.width)

pub ruby_alone_lem : (form : Form) (w : Given) → has_ruby form ≡ true → ruby_alone (word_of form w) w.em w.run w.ruby_width ≡ (places form w).ruby
unfolding word_of places mono plain group_word jukugo_word jukugo over_each
ruby_alone_lem P w h = absurd (false≢true h)
ruby_alone_lem M w h = by_ruby_lem Solid Solid w.ratios w.em w.width w.ruby_width w.run
ruby_alone_lem G w h = group-ruby (script w.ruby_class) (script w.class) w.ratios w.em w.width w.ruby_width w.run
ruby_alone_lem J w h = go (any_longer w.em (split w.run w.ruby_width)) refl
  where
    r : Script
    r = script w.ruby_class

    go : (t : Bool) → any_longer w.em (split w.run w.ruby_width) ≡ t →
        ruby_alone (cond t (group_word r Kana w.ratios w.em w.width w.ruby_width) (over_each w.em (sum w.width) (map sum (split w.run w.ruby_width)))) w.em w.run w.ruby_width
        ≡ (cond {A = Places} t (group r Kana w.ratios w.em w.width w.ruby_width) (record { base = along (solid 0 w.width) w.width; ruby = over_own w.em 0 (split w.run w.ruby_width) })).ruby
    go true e = group-ruby r Kana w.ratios w.em w.width w.ruby_width w.run
    go false e = over_own_lem w.em 0 (split w.run w.ruby_width) e

-- An origin moves each character alike.

pub base-moved : (v : Word) (x : ℕ) (bs : List ℕ) → base_starts v x bs ≡ map (λ y. x + y) (base_alone v bs)
unfolding base_starts
base-moved v x bs = starts-moved x v.inbase v.front bs

runs_moved : (x em at : ℕ) (runs : List (List ℕ)) → run_starts em (x + at) runs ≡ map (λ y. x + y) (run_starts em at runs)
unfolding run_starts
runs_moved x em at [] = refl
runs_moved x em at (run ∷ runs) =
    ap₂ {C = List ℕ} (λ a b. a ++ b)
    (ap (λ (n : ℕ). starts 0 n run) (add_assoc x at (em - sum run)) ∙ starts-moved x 0 (at + (em - sum run)) run)
    (ap (λ (n : ℕ). run_starts em n runs) (add_assoc x at (2 * em)) ∙ runs_moved x em (at + 2 * em) runs)
    ∙ sym (map-append (λ y. x + y) (starts 0 (at + (em - sum run)) run) (run_starts em (at + 2 * em) runs))

pub ruby-moved : (v : Word) (em x : ℕ) (runs rs : List ℕ) → ruby_starts v em x runs rs ≡ map (λ y. x + y) (ruby_alone v em runs rs)
unfolding ruby_starts
ruby-moved v em x runs rs = go v.right.runs
  where
    go : (t : Bool) → cond t (run_starts em x (split runs rs)) (starts v.right.within (x + v.right.from) rs) ≡ map (λ y. x + y) (cond t (run_starts em 0 (split runs rs)) (starts v.right.within v.right.from rs))
    go true = ap (λ (n : ℕ). run_starts em n (split runs rs)) (sym (add-zero x)) ∙ runs_moved x em 0 (split runs rs)
    go false = starts-moved x v.right.within v.right.from rs
