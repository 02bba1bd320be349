-- A J, a left kind and a line whole, by what was read on the way: the word, the count, the test of the count. What comes later stands further on.
use Rattle.std.specs.Prelude.{List, [], ◌∷◌, true, false, ◌≡◌, refl, ℕ, ◌≤◌, ◌<◌, None, Some}
use Rattle.std.proofs.Common.{ap, sym, arith}
use borrow.Author.Tests.{lt-ltb, le-ltb}
use Rattle.text.specs.Text.{stop_of}
use Rattle.text.specs.Print.{bytes}
use Rattle.text.specs.Stands.{word_stands, number_past}
use Rattle.std.proofs.lemmas.Bool.Decides.{nat_tests}
use Rattle.rows.specs.Table.{strided-one}
use Rattle.elements.specs.Ready.{runs_fit, runs-later}
use Rattle.elements.specs.Printed.{right-past}
use Rattle.rows.specs.Section as rows
use Rattle.rows.specs.Section.{number_at, fields}
use Rattle.elements.specs.declared.Element.{Element}
use Rattle.elements.specs.declared.SheetForm.{SheetForm}
use Rattle.elements.specs.declared.SheetForm.TheVariants.{One, Two}
use Rattle.elements.specs.Element.{bare, with_left, Got, nothing, held, on_line, jukugo_at, right_at, byte_at, is_counted, is_listed, counts_of, counted_at, listed_at, left_by, left_at, stop_by, end_by, Taken, word_at}

-- a word that was read ends no earlier than it begins
pub word-past : (w s : List ℕ) (at p : ℕ) → Some p ≡ rows.word_at w s at → at ≤ p
word-past w s at p e = omega (arith, (word_stands w s at p (sym e)).past)

module _ (stop : ℕ) (s : List ℕ) (at : ℕ) where
  pub jukugo-no-word : None ≡ rows.word_at (bytes "J ") s at → jukugo_at stop s at ≡ nothing
  unfolding jukugo_at
  jukugo-no-word e = rw (← e)

  module _ {p : ℕ} (e : Some p ≡ rows.word_at (bytes "J ") s at) where
    pub jukugo-no-count : None ≡ number_at s 32 p → jukugo_at stop s at ≡ nothing
    unfolding jukugo_at
    jukugo-no-count f = rw (← e, ← f)

    module _ {b q : ℕ} (f : Some (b, q) ≡ number_at s 32 p) where
      pub jukugo-none : b < 1 → jukugo_at stop s at ≡ nothing
      unfolding jukugo_at
      jukugo-none h = rw (← e, ← f, lt-ltb b 1 h)

      pub jukugo-many : 1 ≤ b → 32 < b → jukugo_at stop s at ≡ nothing
      unfolding jukugo_at
      jukugo-many h k = rw (← e, ← f, le-ltb b 1 h, lt-ltb 32 b k)

      pub jukugo-runs : 1 ≤ b → b ≤ 32 → jukugo_at stop s at ≡ held (bare 74 b 0 b) (fields stop b s q)
      unfolding jukugo_at
      jukugo-runs h k = rw (← e, ← f, le-ltb b 1 h, le-ltb 32 b k)

      pub runs_past : at ≤ q
      runs_past = omega (arith, word-past (bytes "J ") s at p e, (number_past s p b 32 q (sym f)).0)

module _ (c : ℕ) (e : Element) (s : List ℕ) (at n : ℕ) (counts : n ≡ counts_of e.kind e.base c) where
  pub listed-no-word : None ≡ rows.word_at (c ∷ (stop_of 10 n ∷ [])) s at → listed_at c e s at ≡ nothing
  unfolding listed_at
  listed-no-word h = rw (← counts, ← h)

  pub listed-runs : {p : ℕ} → Some p ≡ rows.word_at (c ∷ (stop_of 10 n ∷ [])) s at → listed_at c e s at ≡ held (with_left e c 0 n) (fields 10 n s p)
  unfolding listed_at
  listed-runs h = rw (← counts, ← h)

module _ (letter : ℕ) (e : Element) (s : List ℕ) (at : ℕ) (is : letter ≡ byte_at s at) where
  pub left-counted : is_counted e.kind letter ≡ true → left_at e s at ≡ record { runs = []; line = counted_at letter e s at }
  unfolding left_at left_by
  left-counted h = rw (← is, h)

  pub left-listed : is_counted e.kind letter ≡ false → is_listed letter ≡ true → left_at e s at ≡ listed_at letter e s at
  unfolding left_at left_by
  left-listed h k = rw (← is, h, k)

  pub left-neither : is_counted e.kind letter ≡ false → is_listed letter ≡ false → left_at e s at ≡ nothing
  unfolding left_at left_by
  left-neither h k = rw (← is, h, k)

-- what the line shows in both forms is broken; it is the line, of form one; the left kind follows, in form two
end-broken : (f : SheetForm) (s : List ℕ) (g : Got) → None ≡ g.line → end_by f s g ≡ nothing
unfolding end_by on_line
end-broken One s g e = rw (← e)
end-broken Two s g e = rw (← e)

end-two : (s : List ℕ) (g : Got) (e : Element) (p : ℕ) → Some (e, p) ≡ g.line → end_by Two s g ≡ left_at e s p
unfolding end_by on_line
end-two s g e p h = rw (← h)

abbrev ended : List ℕ → Got → Taken
ended runs x = record { runs = runs; lruns = x.runs; line = x.line }

pub word-broken : (f : SheetForm) (s : List ℕ) (at : ℕ) → let g = right_at (stop_by f) s at in None ≡ g.line → word_at f s at ≡ ended g.runs nothing
unfolding word_at
word-broken f s at e = ap (ended (right_at (stop_by f) s at).runs) (end-broken f s (right_at (stop_by f) s at) e)

pub word-one : (f : SheetForm) (s : List ℕ) (at : ℕ) → f ≡ One → let g = right_at (stop_by f) s at in word_at f s at ≡ record { runs = g.runs; lruns = []; line = g.line }
unfolding word_at end_by
word-one One s at i = refl
word-one Two s at i = absurd (let z : ◌≡◌ {A = ℕ} 0 1 = cc in omega arith)

pub word_two : (f : SheetForm) (s : List ℕ) (at : ℕ) → f ≡ Two → (e : Element) (p : ℕ) → let g = right_at (stop_by f) s at in Some (e, p) ≡ g.line → word_at f s at ≡ ended g.runs (left_at e s p)
unfolding word_at
word_two One s at i e p h = absurd (let z : ◌≡◌ {A = ℕ} 0 1 = cc in omega arith)
word_two Two s at i e p h = ap (ended (right_at (stop_by Two) s at).runs) (end-two s (right_at (stop_by Two) s at) e p h)

pub ruleset jukugo_steps = (nat_tests, strided-one, runs_fit, runs_past)

pub ruleset listed_steps = (nat_tests, strided-one, runs_fit, word-past)

pub ruleset left_steps = (left-counted, left-listed, left-neither)

pub ruleset word_steps = (word-broken, word-one, word_two, runs-later, right-past)
