-- A J cut by a line end (document 01, "Level one"): "A J cut by a line end is two words: a part of one character is set as M, a part of more as J."
-- A part of a J that is set is set, and a part of one character is centred; a J of one character that is not cut is no part.
use Rattle.std.specs.Prelude.{◌≡◌, refl, Bool, true, false, cond, not, ◌&&◌, List, [], ◌∷◌, ◌++◌, map, ℕ, zero, suc, ◌+◌, ◌-◌, ◌≤◌, ◌<◌, eqb, ltb, length, take, drop}
use Rattle.std.proofs.Common.{sym, ap, ◌∙◌, true≢false, map-id, append-nil, zero-add, arith, length-drop, length-take-le, le-leb, lt-ltb, le-ltb, ltb-true, ltb-false, eqb-true, take_all}
use borrow.Author.Tests.{lt-leb, not-false}
use Rattle.basics.specs.Lists.{sum, any, other, All}
use Rattle.basics.specs.Laws.{or_none, any_none, none_any, all_take, all_drop, all-least, sum-part, sum-split}
use Rattle.class.specs.Class.{western, kana_like}
use Rattle.word.specs.declared.Form.{Form}
use Rattle.word.specs.declared.Form.TheVariants.{M, G, J}
use Rattle.word.specs.declared.Word.{Word}
use Rattle.word.specs.declared.Answer.TheVariants.{Set}
use Rattle.word.specs.Given.{Given}
use Rattle.spread.specs.Worded.{solid, shorter, along}
use Rattle.spread.specs.Laws.{Even}
use Rattle.spread.proofs.Laws.{even_one}
use Rattle.spread.specs.Ratio.{Ratios}
use Rattle.word.specs.declared.Script.{Script}
use Rattle.word.specs.declared.Script.TheVariants.{Kana}
use Rattle.word.specs.Alone.{Places, by_way, mono, group, jukugo, places, script, ruby_way, base_way, over_own}
use Rattle.word.specs.Word.{word_of}
use Rattle.word.specs.Answer.{blank_inside, jukugo_base, mixed, mixed_in, answer}
use Rattle.word.specs.Sized.{Sized}
use Rattle.word.specs.Joined.{group-is}
use Rattle.word.specs.Promise.{passed, set}

-- the n entries from the i-th on
abbrev pub within : ℕ → ℕ → List ℕ → List ℕ
within i n xs = take n (drop i xs)

-- the n base characters of a J from the i-th on, with their runs and the ruby of these
unfoldable pub part : Given → ℕ → ℕ → Given
part w i n =
    let r = sum (take i w.run) in
    let m = sum (within i n w.run) in
    record {
      em = w.em;
      ratios = w.ratios;
      class = within i n w.class;
      width = within i n w.width;
      before = within i n w.before;
      after = within i n w.after;
      ruby_class = within r m w.ruby_class;
      ruby_width = within r m w.ruby_width;
      run = within i n w.run;
    }

-- "a part of one character is set as M, a part of more as J"
abbrev pub form_of_part : ℕ → Form
form_of_part n = cond (eqb n 1) M J

-- what no entry is, no entry of a part is
pub any-within : (p : ℕ → Bool) (i n : ℕ) (xs : List ℕ) → any p xs ≡ false → any p (within i n xs) ≡ false
any-within p i n xs e = none_any p (within i n xs) (all_take _ n (drop i xs) (all_drop _ i xs (any_none p xs e)))

pub mixed-within : (i n : ℕ) (cs : List ℕ) → mixed cs ≡ false → mixed (within i n cs) ≡ false
mixed-within i n cs e =
    let q = or_none (any (eqb 26) cs) (any western cs && any kana_like cs) e in
    rw (any-within (eqb 26) i n cs q.0) (go (any western cs) (any kana_like cs) refl refl q.1)
  where
    both : (a b : Bool) → b ≡ false → (a && b) ≡ false
    both true b e = e
    both false b e = refl

    go : (a b : Bool) → any western cs ≡ a → any kana_like cs ≡ b → (a && b) ≡ false → (any western (within i n cs) && any kana_like (within i n cs)) ≡ false
    go true true f g h = absurd (true≢false h)
    go true false f g h = both (any western (within i n cs)) (any kana_like (within i n cs)) (any-within kana_like i n cs g)
    go false b f g h = rw (any-within western i n cs f)

-- a part of a J that is set is set, in its own form
pub part-set : (place : ℕ) (w : Given) {v : Word} → answer J place w ≡ Set v → (i n : ℕ) → answer (form_of_part n) place (part w i n) ≡ Set (word_of (form_of_part n) (part w i n))
unfolding part
part-set place w e i n =
    let p = passed J place w e in
    let blanks = or_none (any (other 0) w.before) (any (other 0) w.after) p.seven in
    let ems = or_none (any (λ c. not (kana_like c)) w.class) (any (other w.em) w.width) p.eight in
    let kinds = or_none (mixed w.class) (mixed w.ruby_class) p.nine in
    go (eqb n 1)
    (rw (any-within (other 0) i n w.before blanks.0) (any-within (other 0) i n w.after blanks.1))
    (rw (any-within (λ c. not (kana_like c)) i n w.class ems.0) (any-within (other w.em) i n w.width ems.1))
    (rw (mixed-within i n w.class kinds.0) (mixed-within (sum (take i w.run)) (sum (within i n w.run)) w.ruby_class kinds.1))
  where
    go : (t : Bool) → blank_inside J (part w i n) ≡ false → jukugo_base J (part w i n) ≡ false → mixed_in J (part w i n) ≡ false →
        answer (cond t M J) place (part w i n) ≡ Set (word_of (cond t M J) (part w i n))
    go true seven eight nine = set M place (part w i n) seven refl refl refl
    go false seven eight nine = set J place (part w i n) seven eight nine refl

-- a part keeps the limits: it has a character of one em, and each of its runs at least one ruby character
pub runs-some : (runs : List ℕ) → 0 < length runs → All (λ r. 0 < r) runs → 0 < sum runs
runs-some [] h a = h
runs-some (r ∷ rs) h a = omega (arith, a.0)

pub part-sized : (place : ℕ) (w : Given) {v : Word} → answer J place w ≡ Set v → Sized J w.width w.ruby_width w.run → length w.run ≡ length w.width → All (λ r. 0 < r) w.run →
    (i n : ℕ) → 0 < n → i + n ≤ length w.width → Sized (form_of_part n) (part w i n).width (part w i n).ruby_width (part w i n).run
unfolding part
part-sized place w e s same some i n h k =
    let p = passed J place w e in
    let ems = (or_none (any (λ c. not (kana_like c)) w.class) (any (other w.em) w.width) p.eight).1 in
    let chars : length (within i n w.width) ≡ n = long i n w.width k in
    let runs : length (within i n w.run) ≡ n = long i n w.run (omega arith) in
    let ruby : length (part w i n).ruby_width ≡ sum (within i n w.run)
    = long (sum (take i w.run)) (sum (within i n w.run)) w.ruby_width (omega (arith, s.whole refl, sum-split i w.run, sum-split n (drop i w.run))) in
    let em : w.em ≤ sum (within i n w.width) = all-least w.em (within i n w.width) (omega arith) (any-within (other w.em) i n w.width ems) in
    record {
      some = omega (arith, em-some w.em w.width ems s.some);
      few = omega (arith, s.few);
      narrow = omega (arith, sum-part i n w.width, s.narrow);
      reads = λ _. omega (arith, runs-some (within i n w.run) (omega arith) (all_take _ n (drop i w.run) (all_drop _ i w.run some)));
      few_ruby = omega (arith, sum-part i n w.run, s.whole refl, s.few_ruby);
      narrow_ruby = omega (arith, sum-part (sum (take i w.run)) (sum (within i n w.run)) w.ruby_width, s.narrow_ruby);
      whole = λ _. sym ruby;
    }
  where
    long : (a m : ℕ) (xs : List ℕ) → a + m ≤ length xs → length (within a m xs) ≡ m
    long a m xs h = length-take-le m (drop a xs) (simp length-drop (omega arith))

    em-some : (v : ℕ) (xs : List ℕ) → any (other v) xs ≡ false → 0 < sum xs → 0 < v
    em-some zero [] e h = h
    em-some zero (x ∷ xs) e h =
        let q = or_none (other 0 x) (any (other 0) xs) e in
        em-some zero xs q.1 (omega (arith, eqb-true 0 x (not-false (eqb 0 x) q.0)))
    em-some (suc v) xs e h = omega arith

-- A part of one character is M: solid, whatever the ratios.
pub part-centred : (w : Given) (i : ℕ) → places (form_of_part 1) (part w i 1) ≡ mono (part w i 1).width (part w i 1).ruby_width
unfolding places
part-centred w i = refl

-- a longer ruby over one character: with an even base ratio its one character has all the difference in front, spread or solid
single : (r : Script) (h : Ratios) (em : ℕ) (rs : List ℕ) → Even h.base → em < sum rs →
    by_way (shorter (ruby_way r Kana) h.ruby em) (shorter (base_way r Kana) h.base em) (em ∷ []) rs ≡ by_way solid solid (em ∷ []) rs
unfolding by_way
single r h em rs v l =
    rw (lt-leb (sum rs) (em + 0) (omega arith))
    (ap {B = Places} (λ (p : List ℕ). record { base = p; ruby = along (solid 0 rs) rs }) (even_one (base_way r Kana) h.base em (sum rs - (em + 0)) (em ∷ []) v refl))

-- a ruby no longer than its one character is solid over it
under : (em : ℕ) (rs : List ℕ) → sum rs ≤ em →
    ◌≡◌ {A = Places} (record { base = along (solid 0 (em ∷ [])) (em ∷ []); ruby = map (λ x. 0 + x) (by_way solid solid (em ∷ []) rs).ruby ++ [] }) (by_way solid solid (em ∷ []) rs)
unfolding by_way
under em rs h = rw (le-leb (sum rs) (em + 0) (omega arith)) (simp (append-nil, zero-add, map-id))

as_mono : (w : Given) {p : Places} → p ≡ by_way solid solid w.width w.ruby_width → p ≡ places M w
unfolding places mono
as_mono w h = h

-- A J of one character: as M where its run is no longer than one em; else "the whole is set as G", so the base ratio decides.
module _ (w : Given) (n : ℕ) (e : w.width ≡ w.em ∷ []) (f : w.run ≡ n ∷ []) (g : n ≡ length w.ruby_width) where
  pub one-fits : sum w.ruby_width ≤ w.em → places J w ≡ places M w
  unfolding places jukugo mono over_own
  one-fits h = rw (e, f, take_all n w.ruby_width (omega arith), le-ltb _ _ h) (under w.em w.ruby_width h)

  pub one-longer : w.em < sum w.ruby_width → places J w ≡ group (script w.ruby_class) Kana w.ratios w.em w.width w.ruby_width
  unfolding places jukugo
  one-longer h = rw (f, take_all n w.ruby_width (omega arith), lt-ltb _ _ h)

  pub one_as_group : w.em < sum w.ruby_width → any western w.class ≡ false → places J w ≡ places G w
  unfolding places
  one_as_group h k = one-longer h ∙ rw k

  -- with an even base ratio, as 1:2:1, the two stand alike
  pub one_alike : Even w.ratios.base → places J w ≡ places M w
  one_alike v = go (ltb w.em (sum w.ruby_width)) refl
    where
      r : Script
      r = script w.ruby_class

      solidly : w.em < sum w.ruby_width →
          by_way (shorter (ruby_way r Kana) w.ratios.ruby w.em) (shorter (base_way r Kana) w.ratios.base w.em) w.width w.ruby_width ≡ places M w
      solidly h = as_mono w (rw e (single (script w.ruby_class) w.ratios w.em w.ruby_width v h))

      longer : w.em < sum w.ruby_width → group (script w.ruby_class) Kana w.ratios w.em w.width w.ruby_width ≡ places M w
      longer h = group-is (script w.ruby_class) Kana w.ratios w.em w.width w.ruby_width ∙ solidly h

      go : (t : Bool) → ltb w.em (sum w.ruby_width) ≡ t → places J w ≡ places M w
      go true h = one-longer (ltb-true _ _ h) ∙ longer (ltb-true _ _ h)
      go false h = one-fits (ltb-false _ _ h)
