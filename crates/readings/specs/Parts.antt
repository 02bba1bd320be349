-- A part of a J with its left reading (R-5): "every other J is cut as in document 01", so a part of one character is M with a mono left reading, and a part of more is J with
-- its left runs; and of a J with a mono left reading each character is such a part. A part of a J that is set is set, and ready to be.
use Rattle.std.specs.Prelude.{◌≡◌, Bool, cond, List, [], ℕ, zero, suc, ◌+◌, ◌≤◌, ◌<◌, eqb, length, take, drop}
use Rattle.std.proofs.Math.Path.{refl, sym}
use Rattle.std.proofs.Common.{◌∙◌, true≢false, arith, eq-eqb, length-take, length-take-le}
use Rattle.std.proofs.Math.Bool.{true, false, not}
use Rattle.std.proofs.lemmas.Bool.{false≢true}
use Rattle.std.proofs.Math.Nat.{le_trans}
use Rattle.std.proofs.Math.ListN.{length-drop}
use Rattle.basics.specs.Lists.{sum, any, other, All}
use Rattle.basics.specs.Laws.{or_none, all_take, all_drop, sum-part, sum-split}
use Rattle.class.specs.Class.{kana_like}
use Rattle.word.specs.declared.Form.TheVariants as form
use Rattle.word.specs.declared.Left.{Left}
use Rattle.word.specs.declared.Left.TheVariants as left
use Rattle.word.specs.declared.Answer.TheVariants.{Set}
use Rattle.word.specs.declared.Word.{Word}
use Rattle.word.specs.Given.{Given, has_ruby}
use Rattle.word.specs.Sized.{Sized}
use Rattle.word.specs.Answer.{blank_inside, jukugo_base, mixed, mixed_in}
use Rattle.word.specs.Promise as promise
use Rattle.word.specs.Part.{within, part, form_of_part, any-within, mixed-within, runs-some, part-sized}
use Rattle.word.specs.Both.{Gloss, has_left, takes, apart, is_group, is_jukugo}
use Rattle.word.specs.Sides.{word_of}
use Rattle.word.specs.Kept.{LeftSized}
use Rattle.word.specs.Answered.{mixed_both, answer_both, passed, set}
use Rattle.readings.specs.Standing.{Ready}

-- the left reading of the n base characters of a J from the i-th on, with their left runs: on one character it is mono
abbrev pub left_by : Left → Bool → Left
left_by left.N one = left.N
left_by left.M one = left.M
left_by left.G one = left.G
left_by left.J one = cond one left.M left.J

abbrev pub left_of_part : Left → ℕ → Left
left_of_part kind n = left_by kind (eqb n 1)

unfoldable pub gloss_part : Gloss → ℕ → ℕ → Gloss
gloss_part g i n =
    let l = sum (take i g.run) in
    let m = sum (within i n g.run) in
    record { kind = left_of_part g.kind n; class = within l m g.class; width = within l m g.width; run = within i n g.run }

-- A J that has parts, of which its runs share out the characters on either side: one that is cut, or one with a mono left reading, whose parts have one character.
pub record Parted (w : Given) (g : Gloss) : Type 0 where
  pub sized : Sized form.J w.width w.ruby_width w.run
  pub runs : (length w.run ≡ length w.width) × All (λ n. 0 < n) w.run
  pub group : is_group g.kind ≡ false
  pub few : length g.width ≤ 64
  pub narrow : sum g.width ≤ 262144
  pub none : has_left g.kind ≡ false → g.width ≡ []
  pub left_runs : has_left g.kind ≡ true → (sum g.run ≡ length g.width) × (length g.run ≡ length w.width) × All (λ n. 0 < n) g.run

-- its parts by their kinds
part-whole : (k : Left) (one : Bool) → is_group k ≡ false → (apart form.J k ≡ true → one ≡ true) → apart (cond one form.M form.J) (left_by k one) ≡ false
part-whole left.N true e f = refl
part-whole left.N false e f = refl
part-whole left.M true e f = refl
part-whole left.M false e f = absurd (false≢true (f refl))
part-whole left.G one e f = absurd (true≢false e)
part-whole left.J true e f = refl
part-whole left.J false e f = refl

part-takes : (k : Left) (one : Bool) → is_group k ≡ false → (apart form.J k ≡ true → one ≡ true) → takes (cond one form.M form.J) (left_by k one) ≡ true
part-takes left.N true e f = refl
part-takes left.N false e f = refl
part-takes left.M true e f = refl
part-takes left.M false e f = refl
part-takes left.G one e f = absurd (true≢false e)
part-takes left.J true e f = refl
part-takes left.J false e f = refl

pub part-has : (k : Left) (one : Bool) → has_left (left_by k one) ≡ has_left k
part-has left.N one = refl
part-has left.M one = refl
part-has left.G one = refl
part-has left.J true = refl
part-has left.J false = refl

has-jukugo : (k : Left) → is_jukugo k ≡ true → has_left k ≡ true
has-jukugo left.N e = absurd (false≢true e)
has-jukugo left.M e = refl
has-jukugo left.G e = refl
has-jukugo left.J e = refl

length-take-most : (m : ℕ) (xs : List ℕ) → length (take m xs) ≤ length xs
length-take-most m xs = omega (arith, length-take m xs)

part-ruby : (one : Bool) → has_ruby (cond one form.M form.J) ≡ true
part-ruby true = refl
part-ruby false = refl

within-long : (a m : ℕ) (xs : List ℕ) → a + m ≤ length xs → length (within a m xs) ≡ m
within-long a m xs h = length-take-le m (drop a xs) (simp length-drop (omega arith))

pub within_none : (a m : ℕ) (xs : List ℕ) → xs ≡ [] → within a m xs ≡ []
within_none a m xs e = rw (e, dropped a) (taken m)
  where
    dropped : (a : ℕ) → ◌≡◌ {A = List ℕ} (drop a []) []
    dropped zero = refl
    dropped (suc a) = refl

    taken : (m : ℕ) → ◌≡◌ {A = List ℕ} (take m []) []
    taken zero = refl
    taken (suc m) = refl

module _ (place : ℕ) (w : Given) (g : Gloss) {v : Word} (answered : answer_both form.J place w g ≡ Set v) (ready : Parted w g)
    (i n : ℕ) (some : 0 < n) (fits : i + n ≤ length w.width) (mono : apart form.J g.kind ≡ true → n ≡ 1) where
  -- it is set
  pub both-set : (place' : ℕ) → answer_both (form_of_part n) place' (part w i n) (gloss_part g i n) ≡ Set (word_of (form_of_part n) (part w i n) (gloss_part g i n))
  unfolding part gloss_part
  both-set place' =
      let p = passed form.J place w g answered in
      let blanks = or_none (any (other 0) w.before) (any (other 0) w.after) p.seven in
      let ems = or_none (any (λ c. not (kana_like c)) w.class) (any (other w.em) w.width) p.eight in
      let sides = or_none (mixed_in form.J w) (mixed g.class) p.nine in
      let kinds = or_none (mixed w.class) (mixed w.ruby_class) sides.0 in
      go (eqb n 1)
      (rw (any-within (other 0) i n w.before blanks.0) (any-within (other 0) i n w.after blanks.1))
      (rw (any-within (λ c. not (kana_like c)) i n w.class ems.0) (any-within (other w.em) i n w.width ems.1))
      (rw (mixed-within i n w.class kinds.0, mixed-within (sum (take i w.run)) (sum (within i n w.run)) w.ruby_class kinds.1)
      (mixed-within (sum (take i g.run)) (sum (within i n g.run)) g.class sides.1))
    where
      go : (t : Bool) → blank_inside form.J (part w i n) ≡ false → jukugo_base form.J (part w i n) ≡ false → mixed_both form.J (part w i n) (gloss_part g i n) ≡ false →
          answer_both (cond t form.M form.J) place' (part w i n) (gloss_part g i n) ≡ Set (word_of (cond t form.M form.J) (part w i n) (gloss_part g i n))
      go true seven eight nine = set form.M place' (part w i n) (gloss_part g i n) seven refl refl refl
      go false seven eight nine = set form.J place' (part w i n) (gloss_part g i n) seven eight nine refl

  -- and it keeps the limits
  right-sized : Sized (form_of_part n) (part w i n).width (part w i n).ruby_width (part w i n).run
  right-sized =
      let p = passed form.J place w g answered in
      let r = ready.runs in
      part-sized place w (promise.set form.J place w p.seven p.eight (or_none (mixed_in form.J w) (mixed g.class) p.nine).0 refl) ready.sized r.0 r.1 i n some fits

  right_runs : (length (part w i n).run ≡ length (part w i n).width) × All (λ r. 0 < r) (part w i n).run
  unfolding part
  right_runs =
      let r = ready.runs in
      (within-long i n w.run (omega (arith, r.0)) ∙ sym (within-long i n w.width fits), all_take _ n (drop i w.run) (all_drop _ i w.run r.1))

  -- the left characters of a part are those of its left runs
  left-long : has_left g.kind ≡ true → length (gloss_part g i n).width ≡ sum (gloss_part g i n).run
  unfolding gloss_part
  left-long h =
      let q = ready.left_runs h in
      within-long (sum (take i g.run)) (sum (within i n g.run)) g.width (omega (arith, q.0, sum-split i g.run, sum-split n (drop i g.run)))

  left-some : has_left g.kind ≡ true → (length (gloss_part g i n).run ≡ n) × All (λ r. 0 < r) (gloss_part g i n).run
  unfolding gloss_part
  left-some h =
      let q = ready.left_runs h in
      (within-long i n g.run (omega (arith, q.1)), all_take _ n (drop i g.run) (all_drop _ i g.run q.2))

  one : apart form.J g.kind ≡ true → eqb n 1 ≡ true
  one a = eq-eqb n 1 (mono a)

  left-sized : LeftSized (form_of_part n) (gloss_part g i n)
  unfolding gloss_part
  left-sized =
      record {
        whole = part-whole g.kind (eqb n 1) ready.group one;
        takes = part-takes g.kind (eqb n 1) ready.group one;
        reads = λ h. let k = sym (part-has g.kind (eqb n 1)) ∙ h in omega (arith, left-long k, runs-some (gloss_part g i n).run (omega (arith, (left-some k).0)) (left-some k).1);
        few = le_trans (length-take-most (sum (within i n g.run)) (drop (sum (take i g.run)) g.width)) (omega (arith, length-drop (sum (take i g.run)) g.width, ready.few));
        narrow = omega (arith, sum-part (sum (take i g.run)) (sum (within i n g.run)) g.width, ready.narrow);
        none = λ h. within_none (sum (take i g.run)) (sum (within i n g.run)) g.width (ready.none (sym (part-has g.kind (eqb n 1)) ∙ h));
      }

  wide : length (part w i n).width ≡ n
  unfolding part
  wide = within-long i n w.width fits

  left-has : is_jukugo (gloss_part g i n).kind ≡ true → has_left g.kind ≡ true
  unfolding gloss_part
  left-has j = sym (part-has g.kind (eqb n 1)) ∙ has-jukugo (left_of_part g.kind n) j

  pub both-ready : Ready (form_of_part n) (part w i n) (gloss_part g i n)
  both-ready =
      record {
        sized = right-sized;
        plain = λ h. absurd (true≢false (sym (part-ruby (eqb n 1)) ∙ h));
        left = left-sized;
        runs = λ _. right_runs;
        left_runs = λ _ j. let k = left-has j in (sym (left-long k), (left-some k).0 ∙ sym wide, (left-some k).1);
      }
