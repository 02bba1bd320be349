-- Theorems, for each form: a line of the section `elem` is read exactly where an element's text stands (`element-is`, `element-back`), and the section exactly where its count and its elements
-- stand (`section-is`, `stands-section`). What is stored of the elements says them (`entries-back`).
use Rattle.std.specs.Prelude.{Bool, cond, ◌≡◌, ℕ, zero, suc, ◌+◌, ◌*◌, ◌≤◌, ◌<◌, eqb, ltb, get_or, take, drop, None, Option, Result, Some, Err}
use Rattle.std.proofs.Math.Bool.{true, false}
use mathlib.Core.List.{List, [], ◌∷◌, ◌++◌, append_assoc}
use Rattle.std.proofs.Math.Path.{refl}
use Rattle.std.proofs.lemmas.Option.{some_pair_parts}
use Rattle.std.proofs.Common.{◌∙◌, ap, ap₂, sym, add-zero, arith, ltb-false, lt-ltb, le-ltb, eqb-true, length-append, get_or-drop}
use Rattle.std.proofs.Math.Dec.{eqb-suc-zero}
use Rattle.std.proofs.Math.ListN.{length}
use Rattle.std.proofs.Math.Seq.{take-append_seam, drop-append_seam}
use Rattle.basics.specs.Lists.{All}
use Rattle.refusal.specs.declared.Refusal.TheVariants.{Form, Count}
use Rattle.text.specs.Text.{most, stop_of}
use Rattle.text.specs.Text as text
use Rattle.text.specs.Print.{bytes}
use Rattle.text.specs.Unique.{ended}
use Rattle.text.specs.Stands.{Stands, stands-none, stands-then, stands-cut, stands-number, stands_word}
use Rattle.refusal.specs.declared.Refusal.{Refusal}
use Rattle.rows.specs.declared.Part.{Part}
use Rattle.rows.specs.Read.{Read as PartRead}
use Rattle.rows.specs.Section as rows
use Rattle.rows.specs.Section.{on_number, on_place, on_part, fields, head_of}
use Rattle.rows.specs.Whole.{fields-count}
use Rattle.rows.specs.Print.{spaced, numbers_text, head_text, Small, Counted}
use Rattle.rows.specs.Printed.{on_word, on_number_lem, spaced-numbers, numbers-cons, spaced-long, fields-stands, stands-fields, HeadIs, head-is, head-back}
use Rattle.elements.specs.declared.Element.{Element}
use Rattle.elements.specs.declared.SheetForm.{SheetForm}
use Rattle.elements.specs.declared.SheetForm.TheVariants.{One, Two}
use Rattle.elements.specs.Read.{Read}
use Rattle.elements.specs.Element.{bare, with_left, on_line, plain_at, mono_at, group_at, Got, nothing, held, jukugo_at, either, or_runs, right_at, byte_at, counts_of, counted_at, listed_at, left_by, left_at}
use Rattle.elements.specs.Element.{stop_by, end_by, Taken, word_at, or_word, element}
use Rattle.elements.specs.Elements.{Listed, broke, joined, lines, elements}
use Rattle.elements.specs.Print.{Right, M, G, J, Left, none, mono, group, jukugo, Entry, P, word, right_text, left_text, element_text, RightFit, bases_of, LeftFit, Fit, right_of, right_runs, letter_of}
use Rattle.elements.specs.Print.{left_count, left_runs, word_of, element_of, runs_of, lruns_of, taken_of, elements_text, elem_text, KeptElements, rows_of, all_runs, all_left, listed_of}
use Rattle.elements.specs.Print.{right_from, left_from, lruns_from, entries_of}

-- What both forms show of an M, a G or a J, ended by the byte `stop`.

-- a letter and numbers, ended by the byte `last`: a letter, the byte after it, and the numbers
letter-text : (c last : ℕ) (vs : List ℕ) → (c ∷ spaced vs) ++ (last ∷ []) ≡ c ∷ (stop_of last (length vs) ∷ numbers_text last vs)
letter-text c last vs = ap {B = List ℕ} (λ l. c ∷ l) (spaced-numbers last vs)

mono-text : (stop r : ℕ) → right_text (M r) ++ (stop ∷ []) ≡ bytes "M " ++ ended r stop
unfolding right_text numbers_text
mono-text stop r = letter-text 77 stop (r ∷ [])

group-text : (stop b r : ℕ) → right_text (G b r) ++ (stop ∷ []) ≡ bytes "G " ++ (ended b 32 ++ ended r stop)
unfolding right_text numbers_text
group-text stop b r = letter-text 71 stop (b ∷ (r ∷ [])) ∙ ap (λ l. bytes "G " ++ l) (numbers-cons stop b (r ∷ []))

some-stop : (stop : ℕ) (l : List ℕ) → 1 ≤ length l → stop_of stop (length l) ≡ 32
some-stop stop [] h = absurd (omega arith)
some-stop stop (x ∷ l) h = rw (eqb-suc-zero (length l))

jukugo-text : (stop : ℕ) (runs : List ℕ) → 1 ≤ length runs → right_text (J runs) ++ (stop ∷ []) ≡ bytes "J " ++ (ended (length runs) 32 ++ numbers_text stop runs)
unfolding right_text
jukugo-text stop runs h =
    letter-text 74 stop (length runs ∷ runs)
    ∙ rw (eqb-suc-zero (length runs)) (ap (λ l. bytes "J " ++ l) (numbers-cons stop (length runs) runs ∙ ap (λ k. ended (length runs) k ++ numbers_text stop runs) (some-stop stop runs h)))

abbrev right_got : Right → ℕ → Got
right_got r next = record { runs = right_runs r; line = Some (right_of r, next) }

-- as it was read: broken, or one of the three stands there
data RightIs (stop : ℕ) (s : List ℕ) (at : ℕ) (g : Got) : Type 0 where
  broken : g.line ≡ None → RightIs stop s at g
  stands : (r : Right) (next : ℕ) → RightFit r → Stands s at (right_text r ++ (stop ∷ [])) next → g ≡ right_got r next → RightIs stop s at g

-- a kind without runs
abbrev alone : Option (Element × ℕ) → Got
alone l = record { runs = []; line = l }

abbrev ShortIs : ℕ → List ℕ → ℕ → Option (Element × ℕ) → Type 0
ShortIs stop s at l = RightIs stop s at (alone l)

short-broken : (stop : ℕ) (s : List ℕ) (at : ℕ) → ShortIs stop s at None
short-broken stop s at = broken refl

mono-is : (stop : ℕ) (s : List ℕ) (at : ℕ) → ShortIs stop s at (mono_at stop s at)
unfolding mono_at RightFit right_of right_runs
mono-is stop s at =
    on_word (ShortIs stop s at) None (short-broken stop s at) s at (bytes "M ") _
    (λ p t. on_number_lem (ShortIs stop s at) None (short-broken stop s at) s p stop _ (λ r q h u. stands (M r) q h (rw (mono-text stop r) (stands-then t u)) refl))

group-is : (stop : ℕ) (s : List ℕ) (at : ℕ) → ShortIs stop s at (group_at stop s at)
unfolding group_at RightFit right_of right_runs
group-is stop s at =
    on_word (ShortIs stop s at) None (short-broken stop s at) s at (bytes "G ") _
    (λ p t.
    on_number_lem (ShortIs stop s at) None (short-broken stop s at) s p 32 _
    (λ b q h u.
    on_number_lem (ShortIs stop s at) None (short-broken stop s at) s q stop _
    (λ r n g v. stands (G b r) n (h, g) (rw (group-text stop b r) (stands-then t (stands-then u v))) refl)))

-- runs that were read: broken, or they stand there
held-is : (Q : Got → Type 0) (e : Element) (last k : ℕ) (s : List ℕ) (at : ℕ) → ((g : Got) → g.line ≡ None → Q g) →
    ((vs : List ℕ) (next : ℕ) → length vs ≡ k → Small vs → Stands s at (numbers_text last vs) next → Q (record { runs = vs; line = Some (e, next) })) → Q (held e (fields last k s at))
unfolding on_place
held-is Q e last k s at off on = go (fields last k s at).end refl
  where
    go : (x : Option ℕ) → (fields last k s at).end ≡ x → Q (record { runs = (fields last k s at).values; line = on_place x None (λ next. Some (e, next)) })
    go (Some next) h =
        let t = fields-stands last k s at next h in
        on (fields last k s at).values next (fields-count last k s at next h) t.small t.text
    go None h = off _ refl

runs-is : (stop : ℕ) (s : List ℕ) (at p b q : ℕ) → Stands s at (bytes "J ") p → Stands s p (ended b 32) q → 1 ≤ b → b ≤ 32 → RightIs stop s at (held (bare 74 b 0 b) (fields stop b s q))
unfolding RightFit right_of right_runs
runs-is stop s at p b q t u lo hi =
    held-is (RightIs stop s at) (bare 74 b 0 b) stop b s q (λ g h. broken h)
    (λ vs next c small x.
    stands (J vs) next (omega arith, omega arith, small) (rw (jukugo-text stop vs (omega arith), c) (stands-then t (stands-then u x))) (rw c))

count-is : (stop : ℕ) (s : List ℕ) (at p b q : ℕ) → Stands s at (bytes "J ") p → Stands s p (ended b 32) q → (x y : Bool) → ltb b 1 ≡ x → ltb 32 b ≡ y →
    RightIs stop s at (cond x nothing (cond y nothing (held (bare 74 b 0 b) (fields stop b s q))))
count-is stop s at p b q t u true y e f = broken refl
count-is stop s at p b q t u false true e f = broken refl
count-is stop s at p b q t u false false e f = runs-is stop s at p b q t u (ltb-false b 1 e) (ltb-false 32 b f)

jukugo-is : (stop : ℕ) (s : List ℕ) (at : ℕ) → RightIs stop s at (jukugo_at stop s at)
unfolding jukugo_at
jukugo-is stop s at =
    on_word (RightIs stop s at) nothing (broken refl) s at (bytes "J ") _
    (λ p t. on_number_lem (RightIs stop s at) nothing (broken refl) s p 32 _ (λ b q h u. count-is stop s at p b q t u (ltb b 1) (ltb 32 b) refl refl))

either_is : (stop : ℕ) (s : List ℕ) (at : ℕ) (a b : Option (Element × ℕ)) → ShortIs stop s at a → ShortIs stop s at b → ShortIs stop s at (either a b)
either_is stop s at (Some read) b x y = x
either_is stop s at None b x y = y

or_is : (stop : ℕ) (s : List ℕ) (at : ℕ) (l : Option (Element × ℕ)) (j : Got) → ShortIs stop s at l → RightIs stop s at j → RightIs stop s at (or_runs l j)
unfolding or_runs
or_is stop s at (Some read) j x y = x
or_is stop s at None j x y = y

right_is : (stop : ℕ) (s : List ℕ) (at : ℕ) → RightIs stop s at (right_at stop s at)
unfolding right_at
right_is stop s at =
    or_is stop s at (either (mono_at stop s at) (group_at stop s at)) (jukugo_at stop s at) (either_is stop s at (mono_at stop s at) (group_at stop s at) (mono-is stop s at) (group-is stop s at))
    (jukugo-is stop s at)

-- and its text is read as it
other_word : (s : List ℕ) (at d : ℕ) (w : List ℕ) {c : ℕ} {t : List ℕ} {next : ℕ} → Stands s at (c ∷ t) next → eqb d c ≡ false → rows.word_at (d ∷ w) s at ≡ None
unfolding text.word
other_word s at d w x h = rw (x.text, h)

right-back : (stop : ℕ) (r : Right) (s : List ℕ) (at next : ℕ) → stop < 48 → RightFit r → Stands s at (right_text r ++ (stop ∷ [])) next → right_at stop s at ≡ right_got r next
unfolding right_at mono_at group_at jukugo_at or_runs on_place on_number RightFit right_of right_runs
right-back stop (M r) s at next st h x =
    let c = stands-cut (bytes "M ") (ended r stop) (rw (mono-text stop r) at x) in
    rw (stands_word (bytes "M ") s at c.mid c.first, stands-number s c.mid r stop next st h c.second)
right-back stop (G b r) s at next st h x =
    let y = rw (group-text stop b r) at x in
    let c = stands-cut (bytes "G ") (ended b 32 ++ ended r stop) y in
    let d = stands-cut (ended b 32) (ended r stop) c.second in
    rw (
      other_word s at 77 (bytes " ") y refl,
      stands_word (bytes "G ") s at c.mid c.first,
      stands-number s c.mid b 32 d.mid (omega arith) h.0 d.first,
      stands-number s d.mid r stop next st h.1 d.second,
    )
right-back stop (J runs) s at next st h x =
    let y = rw (jukugo-text stop runs h.0) at x in
    let c = stands-cut (bytes "J ") (ended (length runs) 32 ++ numbers_text stop runs) y in
    let d = stands-cut (ended (length runs) 32) (numbers_text stop runs) c.second in
    rw (
      other_word s at 77 (bytes " ") y refl,
      other_word s at 71 (bytes " ") y refl,
      stands_word (bytes "J ") s at c.mid c.first,
      stands-number s c.mid (length runs) 32 d.mid (omega arith) (omega (arith, h.1)) d.first,
      le-ltb (length runs) 1 h.0,
      le-ltb 32 (length runs) h.1,
      stands-fields stop runs s d.mid next st h.2 d.second,
    )

-- it ends no earlier than it begins
right-past-by : (stop : ℕ) (s : List ℕ) (at : ℕ) (g : Got) (e : Element) (next : ℕ) → g.line ≡ Some (e, next) → RightIs stop s at g → at ≤ next
right-past-by stop s at g e next h (broken b) = absurd (let z : ◌≡◌ {A = ℕ} 0 1 = cc in omega arith)
right-past-by stop s at g e next h (stands r p fit x same) =
    let l = sym h ∙ ap (λ (u : Got). u.line) same in
    let j = (some_pair_parts _ _ _ _ l).1 in
    omega (arith, x.past)

pub right-past : (stop : ℕ) (s : List ℕ) (at : ℕ) (e : Element) (next : ℕ) → Some (e, next) ≡ (right_at stop s at).line → at ≤ next
right-past stop s at e next h = right-past-by stop s at (right_at stop s at) e next (sym h) (right_is stop s at)

-- The left kind and its counts, to the end of the line.

abbrev left_got : Right → Left → ℕ → Got
left_got r l next = record { runs = left_runs r l; line = Some (word_of r l, next) }

data LeftIs (r : Right) (s : List ℕ) (at : ℕ) (g : Got) : Type 0 where
  broken : g.line ≡ None → LeftIs r s at g
  stands : (l : Left) (next : ℕ) → LeftFit (bases_of r) l → Stands s at (left_text l ++ bytes "\n") next → g ≡ left_got r l next → LeftIs r s at g

module _ (c : ℕ) (e : Element) (s : List ℕ) (at : ℕ) where
  counted_is : (Q : Option (Element × ℕ) → Type 0) → Q None → ((n next : ℕ) → n ≤ most → Stands s at ((c ∷ spaced (n ∷ [])) ++ (10 ∷ [])) next → Q (Some (with_left e c n 0, next))) → Q (counted_at c e s at)
  unfolding counted_at numbers_text
  counted_is Q off on =
      on_word Q None off s at (c ∷ (32 ∷ [])) _ (λ p t. on_number_lem Q None off s p 10 _ (λ n q h u. on n q h (rw (letter-text c 10 (n ∷ [])) (stands-then t u))))

  listed-is : (Q : Got → Type 0) → ((g : Got) → g.line ≡ None → Q g) →
      ((vs : List ℕ) (next : ℕ) → length vs ≡ counts_of e.kind e.base c → Small vs → Stands s at ((c ∷ spaced vs) ++ (10 ∷ [])) next →
      Q (record { runs = vs; line = Some (with_left e c 0 (counts_of e.kind e.base c), next) })) → Q (listed_at c e s at)
  unfolding listed_at
  listed-is Q off on =
      let n = counts_of e.kind e.base c in
      on_word Q nothing (off nothing refl) s at (c ∷ (stop_of 10 n ∷ [])) _
      (λ p t. held-is Q (with_left e c 0 n) 10 n s p off (λ vs next k small x. on vs next k small (rw (letter-text c 10 vs, k) (stands-then t x))))

module _ (s : List ℕ) (at : ℕ) where
  group-left : (r : Right) → LeftIs r s at (left_by 71 (right_of r) s at)
  unfolding left_by left_text LeftFit left_runs left_count letter_of
  group-left r = counted_is 71 (right_of r) s at (λ l. LeftIs r s at (alone l)) (broken refl) (λ n next h x. stands (group n) next h x refl)

  mono_left : (r : Right) → LeftIs r s at (left_by 77 (right_of r) s at)
  unfolding left_by left_text LeftFit left_runs left_count letter_of right_of bases_of
  mono_left (M n) = counted_is 77 (bare 77 0 n 0) s at (λ l. LeftIs (M n) s at (alone l)) (broken refl) (λ v next h x. stands (mono (v ∷ [])) next (refl, (h, tt)) x refl)
  mono_left (G b n) = listed-is 77 (bare 71 b n 0) s at (LeftIs (G b n) s at) (λ g h. broken h) (λ vs next k small x. stands (mono vs) next (k, small) x (rw k))
  mono_left (J runs) =
      listed-is 77 (bare 74 (length runs) 0 (length runs)) s at (LeftIs (J runs) s at) (λ g h. broken h) (λ vs next k small x. stands (mono vs) next (k, small) x (rw k))

  jukugo-left : (r : Right) → LeftIs r s at (left_by 74 (right_of r) s at)
  unfolding left_by left_text LeftFit left_runs left_count letter_of right_of bases_of
  jukugo-left (M n) = listed-is 74 (bare 77 0 n 0) s at (LeftIs (M n) s at) (λ g h. broken h) (λ vs next k small x. stands (jukugo vs) next (k, small) x (rw k))
  jukugo-left (G b n) = listed-is 74 (bare 71 b n 0) s at (LeftIs (G b n) s at) (λ g h. broken h) (λ vs next k small x. stands (jukugo vs) next (k, small) x (rw k))
  jukugo-left (J runs) =
      listed-is 74 (bare 74 (length runs) 0 (length runs)) s at (LeftIs (J runs) s at) (λ g h. broken h) (λ vs next k small x. stands (jukugo vs) next (k, small) x (rw k))

  none_left : (r : Right) → LeftIs r s at (left_by 78 (right_of r) s at)
  unfolding left_by left_text LeftFit left_runs left_count letter_of spaced
  none_left r = listed-is 78 (right_of r) s at (LeftIs r s at) (λ g h. broken h) go
    where
      go : (vs : List ℕ) (next : ℕ) → length vs ≡ 0 → Small vs → Stands s at ((78 ∷ spaced vs) ++ (10 ∷ [])) next → LeftIs r s at (record { runs = vs; line = Some (with_left (right_of r) 78 0 0, next) })
      go [] next k small x = stands none next tt x refl
      go (v ∷ vs) next k small x = absurd (omega arith)

  left-case : (r : Right) (c : ℕ) (x y z w : Bool) → eqb c 71 ≡ x → eqb c 77 ≡ y → eqb c 78 ≡ z → eqb c 74 ≡ w → LeftIs r s at (left_by c (right_of r) s at)
  unfolding left_by
  left-case r c true y z w hx hy hz hw = rw (eqb-true c 71 hx) (group-left r)
  left-case r c false true z w hx hy hz hw = rw (eqb-true c 77 hy) (mono_left r)
  left-case r c false false true w hx hy hz hw = rw (eqb-true c 78 hz) (none_left r)
  left-case r c false false false true hx hy hz hw = rw (eqb-true c 74 hw) (jukugo-left r)
  left-case r c false false false false hx hy hz hw = rw (hx, hy, hz, hw) (broken refl)

  left_is : (r : Right) → LeftIs r s at (left_at (right_of r) s at)
  unfolding left_at
  left_is r = let c = byte_at s at in left-case r c (eqb c 71) (eqb c 77) (eqb c 78) (eqb c 74) refl refl refl refl

-- and its text is read as it
module _ (s : List ℕ) (at next : ℕ) where
  first_byte : (c : ℕ) (t : List ℕ) → Stands s at (c ∷ t) next → byte_at s at ≡ c
  first_byte c t x =
      let head : get_or (drop at s) 0 0 ≡ c = rw x.text in
      ap (byte_at s) (sym (add-zero at)) ∙ sym (get_or-drop at s 0 0) ∙ head

  counted_back : (c : ℕ) (e : Element) (n : ℕ) → n ≤ most → Stands s at ((c ∷ spaced (n ∷ [])) ++ (10 ∷ [])) next → counted_at c e s at ≡ Some (with_left e c n 0, next)
  unfolding counted_at on_place on_number numbers_text
  counted_back c e n h x =
      let y = stands-cut (c ∷ (32 ∷ [])) (ended n 10) (rw (letter-text c 10 (n ∷ [])) at x) in
      rw (stands_word (c ∷ (32 ∷ [])) s at y.mid y.first, stands-number s y.mid n 10 next (omega arith) h y.second)

  listed_back : (c : ℕ) (e : Element) (vs : List ℕ) → length vs ≡ counts_of e.kind e.base c → Small vs → Stands s at ((c ∷ spaced vs) ++ (10 ∷ [])) next →
      listed_at c e s at ≡ record { runs = vs; line = Some (with_left e c 0 (length vs), next) }
  unfolding listed_at on_place
  listed_back c e vs k small x =
      let y = stands-cut (c ∷ (stop_of 10 (length vs) ∷ [])) (numbers_text 10 vs) (rw (letter-text c 10 vs) at x) in
      rw (← k, stands_word (c ∷ (stop_of 10 (length vs) ∷ [])) s at y.mid y.first, stands-fields 10 vs s y.mid next (omega arith) small y.second)

  left_back : (r : Right) (l : Left) → LeftFit (bases_of r) l → Stands s at (left_text l ++ bytes "\n") next → left_at (right_of r) s at ≡ left_got r l next
  unfolding left_at left_by LeftFit left_text left_runs left_count letter_of right_of bases_of spaced
  left_back r none h x = rw (first_byte 78 _ x) (listed_back 78 (right_of r) [] refl tt x)
  left_back r (group n) h x = rw (first_byte 71 _ x) (ap (λ l. record { runs = []; line = l }) (counted_back 71 (right_of r) n h x))
  left_back (M n) (mono []) h x = absurd (omega (arith, h.0))
  left_back (M n) (mono (v ∷ [])) h x = rw (first_byte 77 _ x) (ap (λ l. record { runs = []; line = l }) (counted_back 77 (bare 77 0 n 0) v h.1.0 x))
  left_back (M n) (mono (v ∷ (w ∷ vs))) h x = absurd (omega (arith, h.0))
  left_back (G b n) (mono vs) h x = rw (first_byte 77 _ x) (listed_back 77 (bare 71 b n 0) vs h.0 h.1 x)
  left_back (J runs) (mono vs) h x = rw (first_byte 77 _ x) (listed_back 77 (bare 74 (length runs) 0 (length runs)) vs h.0 h.1 x)
  left_back (M n) (jukugo vs) h x = rw (first_byte 74 _ x) (listed_back 74 (bare 77 0 n 0) vs h.0 h.1 x)
  left_back (G b n) (jukugo vs) h x = rw (first_byte 74 _ x) (listed_back 74 (bare 71 b n 0) vs h.0 h.1 x)
  left_back (J runs) (jukugo vs) h x = rw (first_byte 74 _ x) (listed_back 74 (bare 74 (length runs) 0 (length runs)) vs h.0 h.1 x)

-- The line whole.

pub data ElementIs (f : SheetForm) (s : List ℕ) (at : ℕ) (t : Taken) : Type 0 where
  broken : t.line ≡ None → ElementIs f s at t
  stands : (e : Entry) (next : ℕ) → Fit f e → Stands s at (element_text f e) next → t ≡ taken_of e next → ElementIs f s at t

-- without a left kind
bare-word : (r : Right) → right_of r ≡ word_of r none
unfolding right_of letter_of left_count left_runs
bare-word (M n) = refl
bare-word (G b n) = refl
bare-word (J runs) = refl

-- the end of a line of form two behind its first part
two-text : (r : Right) (l : Left) → element_text Two (word r l) ≡ (right_text r ++ (32 ∷ [])) ++ (left_text l ++ bytes "\n")
unfolding element_text
two-text r l = sym (append_assoc (right_text r) (32 ∷ []) (left_text l ++ bytes "\n"))

abbrev end_got : SheetForm → List ℕ → Got → Taken
end_got f s g = record { runs = g.runs; lruns = (end_by f s g).runs; line = (end_by f s g).line }

left_end : (s : List ℕ) (at p : ℕ) (r : Right) → RightFit r → Stands s at (right_text r ++ (32 ∷ [])) p → (g : Got) → LeftIs r s p g →
    ElementIs Two s at (record { runs = right_runs r; lruns = g.runs; line = g.line })
unfolding Fit taken_of
left_end s at p r h x g (broken e) = ElementIs.broken e
left_end s at p r h x g (stands l next k y e) = ElementIs.stands (word r l) next (h, k) (rw (two-text r l) (stands-then x y)) (rw e)

word_end : (f : SheetForm) (s : List ℕ) (at : ℕ) (g : Got) → RightIs (stop_by f) s at g → ElementIs f s at (end_got f s g)
unfolding end_by on_line stop_by Fit taken_of element_text
word_end One s at g (broken e) = ElementIs.broken e
word_end One s at g (stands r next h x e) = ElementIs.stands (word r none) next (h, refl) x (rw e (ap (λ i. record { runs = right_runs r; lruns = []; line = Some (i, next) }) (bare-word r)))
word_end Two s at g (broken e) = rw e (ElementIs.broken refl)
word_end Two s at g (stands r p h x e) = rw e (left_end s at p r h x (left_at (right_of r) s p) (left_is s p r))

or_word-is : (f : SheetForm) (s : List ℕ) (at : ℕ) (l : Option (Element × ℕ)) (t : Taken) → ElementIs f s at (record { runs = []; lruns = []; line = l }) → ElementIs f s at t → ElementIs f s at (or_word l t)
unfolding or_word
or_word-is f s at (Some read) t x y = x
or_word-is f s at None t x y = y

plain-is : (f : SheetForm) (s : List ℕ) (at : ℕ) → ElementIs f s at (record { runs = []; lruns = []; line = plain_at s at })
unfolding plain_at element_text Fit taken_of
plain-is f s at =
    on_word (λ l. ElementIs f s at (record { runs = []; lruns = []; line = l })) None (ElementIs.broken refl) s at (bytes "P\n") _ (λ p t. ElementIs.stands P p tt t refl)

pub element-is : (f : SheetForm) (s : List ℕ) (at : ℕ) → ElementIs f s at (element f s at)
unfolding element word_at
element-is f s at = or_word-is f s at (plain_at s at) (end_got f s (right_at (stop_by f) s at)) (plain-is f s at) (word_end f s at (right_at (stop_by f) s at) (right_is (stop_by f) s at))

-- The text of an element is read as that element.

first-letter : (r : Right) (t : List ℕ) (s : List ℕ) (at next : ℕ) → Stands s at (right_text r ++ t) next → plain_at s at ≡ None
unfolding plain_at right_text on_place
first-letter (M r) t s at next x = rw (other_word s at 80 (bytes "\n") x refl)
first-letter (G b r) t s at next x = rw (other_word s at 80 (bytes "\n") x refl)
first-letter (J runs) t s at next x = rw (other_word s at 80 (bytes "\n") x refl)

pub element-back : (f : SheetForm) (e : Entry) (s : List ℕ) (at next : ℕ) → Fit f e → Stands s at (element_text f e) next → element f s at ≡ taken_of e next
unfolding element word_at stop_by end_by or_word on_line on_place plain_at element_text Fit taken_of
element-back One P s at next h x = rw (stands_word (bytes "P\n") s at next x)
element-back Two P s at next h x = rw (stands_word (bytes "P\n") s at next x)
element-back One (word r l) s at next h x =
    rw (first-letter r (10 ∷ []) s at next x, right-back 10 r s at next (omega arith) h.0 x, h.1)
    (ap (λ i. record { runs = right_runs r; lruns = []; line = Some (i, next) }) (bare-word r))
element-back Two (word r l) s at next h x =
    let c = stands-cut (right_text r ++ (32 ∷ [])) (left_text l ++ bytes "\n") (rw (two-text r l) at x) in
    rw (first-letter r (32 ∷ []) s at c.mid c.first, right-back 32 r s at c.mid (omega arith) h.0 c.first, left_back s c.mid next r l h.1 c.second)

-- A line takes two bytes at least for each of its runs, and for each of its left runs.
right-long : (r : Right) → RightFit r → 2 * length (right_runs r) ≤ length (right_text r)
unfolding RightFit right_runs right_text
right-long (M r) h = omega arith
right-long (G b r) h = omega arith
right-long (J runs) h = omega (arith, spaced-long (length runs ∷ runs) (omega (arith, h.1), h.2))

left-long : (r : Right) (l : Left) → LeftFit (bases_of r) l → 2 * length (left_runs r l) ≤ length (left_text l)
unfolding LeftFit left_runs left_text
left-long r none h = omega arith
left-long (M n) (mono vs) h = omega arith
left-long (G b n) (mono vs) h = omega (arith, spaced-long vs h.1)
left-long (J runs) (mono vs) h = omega (arith, spaced-long vs h.1)
left-long r (group n) h = omega arith
left-long r (jukugo vs) h = omega (arith, spaced-long vs h.1)

pub element-long : (f : SheetForm) (e : Entry) → Fit f e → (2 * length (runs_of e) ≤ length (element_text f e)) × (2 * length (lruns_of e) ≤ length (element_text f e))
unfolding Fit runs_of lruns_of element_text
element-long One P h = (omega arith, omega arith)
element-long Two P h = (omega arith, omega arith)
element-long One (word r l) h =
    let a = right-long r h.0 in
    let b = length-append (right_text r) (bytes "\n") in
    let c : length (left_runs r l) ≡ 0 = rw h.1 in
    (omega arith, omega arith)
element-long Two (word r l) h =
    let a = right-long r h.0 in
    let b = left-long r l h.1 in
    let c = length-append (right_text r) (32 ∷ (left_text l ++ bytes "\n")) in
    let d = length-append (left_text l) (bytes "\n") in
    (omega arith, omega arith)

-- The lines of the section.

pub record ElementsStand (f : SheetForm) (s : List ℕ) (at : ℕ) (es : List Entry) (next : ℕ) : Type 0 where
  pub fit : All (Fit f) es
  pub text : Stands s at (elements_text f es) next

pub data ListedIs (f : SheetForm) (n left : ℕ) (s : List ℕ) (at used lused : ℕ) (t : Listed) : Type 0 where
  broken : (l : ℕ) → t.end ≡ Err (Form l) → ListedIs f n left s at used lused t
  whole : (es : List Entry) (next l : ℕ) → length es ≡ left → ElementsStand f s at es next → t ≡ listed_of es n used lused next l → ListedIs f n left s at used lused t

pub runs-counted : (e : Entry) → ((element_of e).runs ≡ length (runs_of e)) × ((element_of e).lruns ≡ length (lruns_of e))
unfolding element_of runs_of lruns_of right_of right_runs
runs-counted P = (refl, refl)
runs-counted (word (M r) l) = (refl, refl)
runs-counted (word (G b r) l) = (refl, refl)
runs-counted (word (J runs) l) = (refl, refl)

-- no element
listed-none : (n used lused at line : ℕ) → record { rows = []; runs = []; lruns = []; end = Read n used lused at line } ≡ listed_of [] n used lused at line
unfolding listed_of
listed-none n used lused at line = rw (add-zero used, add-zero lused)

-- one more element and those after it
listed_more : (e : Entry) (es : List Entry) (n used lused p next l : ℕ) (t : Listed) → t ≡ listed_of es n (used + (element_of e).runs) (lused + (element_of e).lruns) next l →
    joined (taken_of e p) (element_of e) t ≡ listed_of (e ∷ es) n used lused next l
unfolding listed_of taken_of
listed_more e es n used lused p next l t h =
    let k = runs-counted e in
    let c : used + (element_of e).runs + length (all_runs es) ≡ used + length (runs_of e ++ all_runs es) = omega (arith, k.0, length-append (runs_of e) (all_runs es)) in
    let d : lused + (element_of e).lruns + length (all_left es) ≡ lused + length (lruns_of e ++ all_left es) = omega (arith, k.1, length-append (lruns_of e) (all_left es)) in
    rw (h, c, d)

line-is : (f : SheetForm) (n left : ℕ) (s : List ℕ) (at line used lused : ℕ) (g : Taken) → ElementIs f s at g → (k : Element → ℕ → Listed) →
    ((e : Element) (p : ℕ) → ListedIs f n left s p (used + e.runs) (lused + e.lruns) (k e p)) →
    ListedIs f n (suc left) s at used lused (on_line g.line (broke g line) (λ e p. joined g e (k e p)))
unfolding on_line taken_of elements_text
line-is f n left s at line used lused g (broken e) k on = rw e (ListedIs.broken line refl)
line-is f n left s at line used lused g (stands e p fit took same) k on = rw same (go (on (element_of e) p))
  where
    go : ListedIs f n left s p (used + (element_of e).runs) (lused + (element_of e).lruns) (k (element_of e) p) →
        ListedIs f n (suc left) s at used lused (joined (taken_of e p) (element_of e) (k (element_of e) p))
    go (ListedIs.broken l h) = ListedIs.broken l h
    go (whole es next l count took2 h) =
        whole (e ∷ es) next l (ap suc count) (record { fit = (fit, took2.fit); text = stands-then took took2.text }) (listed_more e es n used lused p next l (k (element_of e) p) h)

pub lines-is : (f : SheetForm) (n left : ℕ) (s : List ℕ) (at line used lused : ℕ) → ListedIs f n left s at used lused (lines f n left s at line used lused)
unfolding lines elements_text
lines-is f n zero s at line used lused = whole [] at line refl (record { fit = tt; text = stands-none s at }) (listed-none n used lused at line)
lines-is f n (suc left) s at line used lused =
    line-is f n left s at line used lused (element f s at) (element-is f s at) (λ e p. lines f n left s p (line + 1) (used + e.runs) (lused + e.lruns))
    (λ e p. lines-is f n left s p (line + 1) (used + e.runs) (lused + e.lruns))

-- the text of some elements is read as them
pub stands-elements : (f : SheetForm) (n : ℕ) (es : List Entry) (s : List ℕ) (at line used lused next : ℕ) → ElementsStand f s at es next →
    lines f n (length es) s at line used lused ≡ listed_of es n used lused next (line + length es)
unfolding lines elements_text on_line taken_of
stands-elements f n [] s at line used lused next x =
    listed-none n used lused at line ∙ ap₂ (λ q l. listed_of [] n used lused q l) (sym (x.text.past ∙ add-zero at)) (sym (add-zero line))
stands-elements f n (e ∷ es) s at line used lused next x =
    let c = stands-cut (element_text f e) (elements_text f es) x.text in
    let b = element-back f e s at c.mid x.fit.0 c.first in
    let g : line + 1 + length es ≡ line + suc (length es) = omega arith in
    let r = stands-elements f n es s c.mid (line + 1) (used + (element_of e).runs) (lused + (element_of e).lruns) next (record { fit = x.fit.1; text = c.second }) in
    ap (λ (t : Taken). on_line t.line (broke t line) (λ i p. joined t i (lines f n (length es) s p (line + 1) (used + i.runs) (lused + i.lruns)))) b
    ∙ listed_more e es n used lused c.mid next (line + suc (length es)) (lines f n (length es) s c.mid (line + 1) (used + (element_of e).runs) (lused + (element_of e).lruns))
    (r ∙ ap (λ l. listed_of es n (used + (element_of e).runs) (lused + (element_of e).lruns) next l) g)

-- each takes two bytes at least for a run
pub elements-long : (f : SheetForm) (es : List Entry) → All (Fit f) es → (2 * length (all_runs es) ≤ length (elements_text f es)) × (2 * length (all_left es) ≤ length (elements_text f es))
unfolding all_runs all_left elements_text
elements-long f [] a = (omega arith, omega arith)
elements-long f (e ∷ es) a =
    let h = element-long f e a.0 in
    let k = elements-long f es a.1 in
    let l = length-append (element_text f e) (elements_text f es) in
    (omega (arith, length-append (runs_of e) (all_runs es)), omega (arith, length-append (lruns_of e) (all_left es)))

-- The section.

-- the section as it was read: its form is broken, or its count is over the maximum, or it stands there
pub data SectionIs (f : SheetForm) (w : List ℕ) (top which : ℕ) (s : List ℕ) (at : ℕ) (t : Listed) : Type 0 where
  broken : (l : ℕ) → t.end ≡ Err (Form l) → SectionIs f w top which s at t
  over : (n next : ℕ) → Counted w s at n next → top < n → t.end ≡ Err (Count which) → SectionIs f w top which s at t
  stands : (es : List Entry) (next l : ℕ) → KeptElements f top es → Stands s at (elem_text f w es) next → t ≡ listed_of es (length es) 0 0 next l → SectionIs f w top which s at t

section-lines-is : (f : SheetForm) (w : List ℕ) (top which : ℕ) (s : List ℕ) (at n p : ℕ) → Counted w s at n p → n ≤ top → (t : Listed) → ListedIs f n n s p 0 0 t → SectionIs f w top which s at t
unfolding elem_text
section-lines-is f w top which s at n p c h t (ListedIs.broken l e) = SectionIs.broken l e
section-lines-is f w top which s at n p c h t (whole es next l count took e) =
    SectionIs.stands es next l (record { few = omega arith; fit = took.fit }) (rw count (stands-then c.text took.text)) (e ∙ ap (λ i. listed_of es i 0 0 next l) (sym count))

section-head-is : (f : SheetForm) (w : List ℕ) (top which : ℕ) (s : List ℕ) (at line : ℕ) (h : Result Part Refusal) → HeadIs w top which s at line h → SectionIs f w top which s at (elements f s h)
unfolding elements on_part
section-head-is f w top which s at line h HeadIs.broken = SectionIs.broken line refl
section-head-is f w top which s at line h (HeadIs.over n next c g) = SectionIs.over n next c g refl
section-head-is f w top which s at line h (HeadIs.within n next c g) =
    section-lines-is f w top which s at n next c g (lines f n n s next (line + 1) 0 0) (lines-is f n n s next (line + 1) 0 0)

pub section-is : (f : SheetForm) (w : List ℕ) (top which : ℕ) (s : List ℕ) (m at line : ℕ) → SectionIs f w top which s at (elements f s (head_of w top which s (PartRead m at line)))
section-is f w top which s m at line = section-head-is f w top which s at line (head_of w top which s (PartRead m at line)) (head-is w top which s m at line)

-- the text of the section is read as its elements
pub stands-section : (f : SheetForm) (w : List ℕ) (top which : ℕ) (s : List ℕ) (m at line next : ℕ) (es : List Entry) → top ≤ most → KeptElements f top es → Stands s at (elem_text f w es) next →
    elements f s (head_of w top which s (PartRead m at line)) ≡ listed_of es (length es) 0 0 next (line + 1 + length es)
unfolding elem_text elements on_part
stands-section f w top which s m at line next es h a x =
    let c = stands-cut (head_text w (length es)) (elements_text f es) x in
    let e = head-back w top which s m at line (length es) c.mid (record { small = omega (arith, a.few); text = c.first }) in
    rw (e, le-ltb top (length es) a.few) (stands-elements f (length es) es s c.mid (line + 1) 0 0 next (record { fit = a.fit; text = c.second }))

-- and a count over the maximum is refused
pub over-section : (f : SheetForm) (w : List ℕ) (top which : ℕ) (s : List ℕ) (m at line n next : ℕ) → Counted w s at n next → top < n →
    (elements f s (head_of w top which s (PartRead m at line))).end ≡ Err (Count which)
unfolding elements on_part
over-section f w top which s m at line n next c h = rw (head-back w top which s m at line n next c, lt-ltb top n h)

-- What is stored of the elements says them.

right-again : (r : Right) (rest : List ℕ) → right_from (right_of r).kind (right_of r).base (right_of r).ruby (right_runs r ++ rest) ≡ r
unfolding right_from right_of right_runs
right-again (M n) rest = refl
right-again (G b n) rest = refl
right-again (J runs) rest = ap J (take-append_seam runs rest)

runs-again : (r : Right) (rest : List ℕ) → cond (eqb (right_of r).kind 74) (drop (right_of r).base (right_runs r ++ rest)) (right_runs r ++ rest) ≡ rest
unfolding right_of right_runs
runs-again (M n) rest = refl
runs-again (G b n) rest = refl
runs-again (J runs) rest = drop-append_seam runs rest

abbrev left_again : Right → Left → List ℕ → Left
left_again r l rest = left_from (right_of r).kind (right_of r).base (letter_of l) (left_count r l) (left_runs r l ++ rest)

left_again_lem : (r : Right) (l : Left) (rest : List ℕ) → LeftFit (bases_of r) l → left_again r l rest ≡ l
unfolding left_from right_of letter_of left_count left_runs LeftFit bases_of
left_again_lem r none rest h = refl
left_again_lem r (group n) rest h = refl
left_again_lem (M n) (mono []) rest h = absurd (omega (arith, h.0))
left_again_lem (M n) (mono (v ∷ [])) rest h = refl
left_again_lem (M n) (mono (v ∷ (w ∷ vs))) rest h = absurd (omega (arith, h.0))
left_again_lem (G b n) (mono vs) rest h = ap mono (ap (λ k. take k (vs ++ rest)) (sym h.0) ∙ take-append_seam vs rest)
left_again_lem (J runs) (mono vs) rest h = ap mono (ap (λ k. take k (vs ++ rest)) (sym h.0) ∙ take-append_seam vs rest)
left_again_lem (M n) (jukugo vs) rest h = ap jukugo (ap (λ k. take k (vs ++ rest)) (sym h.0) ∙ take-append_seam vs rest)
left_again_lem (G b n) (jukugo vs) rest h = ap jukugo (ap (λ k. take k (vs ++ rest)) (sym h.0) ∙ take-append_seam vs rest)
left_again_lem (J runs) (jukugo vs) rest h = ap jukugo (ap (λ k. take k (vs ++ rest)) (sym h.0) ∙ take-append_seam vs rest)

lruns-again : (r : Right) (l : Left) (rest : List ℕ) → LeftFit (bases_of r) l → drop (lruns_from (right_of r).kind (right_of r).base (letter_of l)) (left_runs r l ++ rest) ≡ rest
unfolding right_of letter_of left_runs LeftFit bases_of
lruns-again r none rest h = refl
lruns-again r (group n) rest h = refl
lruns-again (M n) (mono vs) rest h = refl
lruns-again (G b n) (mono vs) rest h = ap (λ k. drop k (vs ++ rest)) (sym h.0) ∙ drop-append_seam vs rest
lruns-again (J runs) (mono vs) rest h = ap (λ k. drop k (vs ++ rest)) (sym h.0) ∙ drop-append_seam vs rest
lruns-again (M n) (jukugo vs) rest h = ap (λ k. drop k (vs ++ rest)) (sym h.0) ∙ drop-append_seam vs rest
lruns-again (G b n) (jukugo vs) rest h = ap (λ k. drop k (vs ++ rest)) (sym h.0) ∙ drop-append_seam vs rest
lruns-again (J runs) (jukugo vs) rest h = ap (λ k. drop k (vs ++ rest)) (sym h.0) ∙ drop-append_seam vs rest

no_plain : (r : Right) → eqb (right_of r).kind 80 ≡ false
unfolding right_of
no_plain (M n) = refl
no_plain (G b n) = refl
no_plain (J runs) = refl

-- a line of either form has counts as form two asks for them
left-fit : (f : SheetForm) (r : Right) (l : Left) → Fit f (word r l) → LeftFit (bases_of r) l
unfolding Fit LeftFit
left-fit One r l h = rw h.1 tt
left-fit Two r l h = h.1

pub entries-back : (f : SheetForm) (es : List Entry) → All (Fit f) es → entries_of (rows_of es) (all_runs es) (all_left es) ≡ es
unfolding entries_of rows_of all_runs all_left element_of runs_of lruns_of
entries-back f [] a = refl
entries-back f (P ∷ es) a = ap {B = List Entry} (λ l. P ∷ l) (entries-back f es a.1)
entries-back f (word r l ∷ es) a =
    let h = left-fit f r l a.0 in
    rw (no_plain r, right-again r (all_runs es), left_again_lem r l (all_left es) h, runs-again r (all_runs es), lruns-again r l (all_left es) h, entries-back f es a.1)
