-- A part of a J, by the rows of its first and its last character.
use Rattle.std.specs.Prelude.{◌≡◌, ◌&&◌, ◌||◌, List, [], ◌∷◌, map, ltb, length, take, drop}
use Rattle.std.proofs.Math.Path.{refl, sym, ap, ap₂}
use Rattle.std.proofs.Common.{◌∙◌, subst, add-zero, add-suc, mul-zero, mul-suc, arith, length-drop, take_all}
use Rattle.std.proofs.Math.Bool.{Bool, true, false, cond, not}
use Rattle.std.proofs.lemmas.Bool.{false≢true}
use Prim.Native.Nat.{ℕ, zero, suc, ◌+◌, ◌-◌, ◌*◌, ◌≤◌, ◌<◌, zero-le}
use Rattle.std.proofs.Math.Decide.{dec_lt}
use borrow.Author.Tests.{eq-eqb, ne_eqb, eqb-true, not-false}
use Rattle.std.proofs.Math.Dec.{eqb}
use Rattle.std.proofs.Math.ListN.{get_or}
use Rattle.basics.specs.Lists.{sum, count, any, keep, other, All, last_or}
use Rattle.basics.specs.Laws.{or_none, any_none, none_any, all_take, all_drop}
use Rattle.class.specs.Class.{accepted, western, kana_like}
use Rattle.spread.specs.declared.Way.TheVariants.{Solid, Spread, Limited}
use Rattle.word.specs.declared.Form.TheVariants.{M, J}
use Rattle.word.specs.declared.Word.{Word}
use Rattle.word.specs.declared.Script.{Script}
use Rattle.word.specs.declared.Script.TheVariants.{Kana, Western}
use Rattle.word.specs.declared.Str.{Str}
use Rattle.word.specs.declared.Reading.{Reading}
use Rattle.spread.specs.Ratio.{Ratios}
use Rattle.word.specs.Given.{has_ruby, is_j}
use Rattle.word.specs.Alone as alone
use Rattle.word.specs.Word as word
use Rattle.word.specs.Numbers.{word_from, word_from_lem}
use Rattle.word.specs.declared.Answer.TheVariants.{Set}
use Rattle.word.specs.Answer.{mixed_in, answer}
use Rattle.word.specs.declared.Left.{Left as LeftKind}
use Rattle.word.specs.declared.Left.TheVariants as left
use Rattle.word.specs.Both.{has_left, is_jukugo}
use Rattle.word.specs.Sides as sides
use Rattle.word.specs.Answered.{answer_both}
use Rattle.word.specs.Answered as answered
use Rattle.readings.specs.Parts.{part-has}
use Rattle.line.specs.declared.Side.{Side}
use Rattle.line.specs.declared.Side.TheVariants.{Right, Left}
use Rattle.word.specs.First.{Speaks, judged}
use Rattle.word.specs.Promise as promise
use Rattle.cells.specs.Cells.{each_over, ruby_way, part_by, both_by}
use Rattle.door.specs.declared.Piece.{Piece}
use Rattle.door.specs.Job.{Job, base_count, ruby_count, entries, left_by_runs, given, gloss_of}
use Rattle.door.specs.Entries.{length-entries}
use Rattle.door.specs.Passed.{Passed}
use Rattle.job.specs.Line.{part, cuts, word_of, first_of, widths_of}
use Rattle.job.specs.Laws.{entries_at, entries-cut, both}
use Rattle.job.specs.Pieces.{IsWord}
use Rattle.job.proofs.Pieces.{cut-is, cut-piece}
use Rattle.job.specs.Words.{GoodPiece, runs_of-j}
use Rattle.join.specs.Runs.{first_next, first_more, wide-more, longer-more}
use Rattle.join.specs.Rows.{runs_of, run_of, first_at, run_at, run_width, wide_before, longer}

-- entries in two pieces
pub entries-take : (xs : List ℕ) (a c n : ℕ) → take c (entries xs a (c + n)) ≡ entries xs a c
entries-take xs a c n = entries-cut xs a (c + n) 0 c (omega arith) ∙ ap (λ (z : ℕ). entries xs z c) (add-zero a)

pub entries-drop : (xs : List ℕ) (a c n : ℕ) → drop c (entries xs a (c + n)) ≡ entries xs (a + c) n
entries-drop xs a c n =
    sym (take_all n (drop c (entries xs a (c + n))) (omega (arith, length-drop c (entries xs a (c + n)), length-entries xs a (c + n)))) ∙ entries-cut xs a (c + n) c n (omega arith)

-- numbers in a row
map_first : (f : ℕ → ℕ) (k n : ℕ) → 0 < n → get_or (map f (count k n)) 0 0 ≡ f k
map_first f k zero h = absurd (omega arith)
map_first f k (suc n) h = refl

map_last : (f : ℕ → ℕ) (d k n : ℕ) → last_or d (map f (count k (suc n))) ≡ f (k + n)
map_last f d k zero = ap f (sym (add-zero k))
map_last f d k (suc n) = map_last f (f k) (suc k) n ∙ ap f (move k n)
  where
    move : (k n : ℕ) → suc k + n ≡ k + suc n
    move k n = omega arith

-- a count that stays where none is longer
stays : (p : ℕ → Bool) (xs : List ℕ) (a : ℕ) → eqb a (a + length (keep p xs)) ≡ not (any p xs)
stays p [] a = eq-eqb a (a + 0) (omega arith)
stays p (x ∷ xs) a = go (p x) (stays p xs a)
  where
    go : (t : Bool) → eqb a (a + length (keep p xs)) ≡ not (any p xs) → eqb a (a + length (cond t (x ∷ keep p xs) (keep p xs))) ≡ not (t || any p xs)
    go true e = ne_eqb a (a + suc (length (keep p xs))) (λ z. omega arith)
    go false e = e

-- numbers of which each is v
ems-sum : (v : ℕ) (xs : List ℕ) → All (λ x. other v x ≡ false) xs → sum xs ≡ v * length xs
ems-sum v [] a = sym (mul-zero v)
ems-sum v (x ∷ xs) a = rw (mul-suc v (length xs)) (omega (arith, eqb-true v x (not-false (eqb v x) a.0), ems-sum v xs a.1))

and_none : (a b : Bool) → (a && b) ≡ false → a ≡ true → b ≡ false
and_none true b e h = e
and_none false b e h = absurd (false≢true h)

not-not : (t : Bool) → not (not t) ≡ t
not-not true = refl
not-not false = refl

-- The runs of one side.
module _ (side : Side) (job : Job) (x : Piece) where
  -- the runs of the base characters from k on, and their widths
  abbrev pub runs_from : ℕ → ℕ → List (List ℕ)
  runs_from k n =
      alone.split (entries (runs_of side job) (run_of side x + k) n) (entries (widths_of side job) (first_at side job x k) (sum (entries (runs_of side job) (run_of side x + k) n)))

  pub lengths : (n k : ℕ) → map sum (runs_from k n) ≡ map (run_width side job x) (count k n)
  lengths zero k = refl
  lengths (suc n) k =
      let c = get_or (runs_of side job) (run_of side x + k) 0 in
      let m = sum (entries (runs_of side job) (suc (run_of side x + k)) n) in
      rw (entries-take (widths_of side job) (first_at side job x k) c m, entries-drop (widths_of side job) (first_at side job x k) c m, first_next side job x k, ← add-suc (run_of side x) k)
      (ap (λ (l : List ℕ). run_width side job x k ∷ l) (lengths n (suc k)))

  pub first-length : (k n : ℕ) → 0 < n → get_or (map sum (runs_from k n)) 0 0 ≡ run_width side job x k
  first-length k n some = ap (λ l. get_or l 0 0) (lengths n k) ∙ map_first (run_width side job x) k n some

  pub last-length : (k n : ℕ) → 0 < n → last_or 0 (map sum (runs_from k n)) ≡ run_width side job x (k + n - 1)
  last-length k n some = ap (last_or 0) (lengths n k) ∙ go n some
    where
      less : (k m : ℕ) → k + m ≡ k + suc m - 1
      less k m = omega arith

      go : (n : ℕ) → 0 < n → last_or 0 (map (run_width side job x) (count k n)) ≡ run_width side job x (k + n - 1)
      go zero h = absurd (omega arith)
      go (suc m) h = map_last (run_width side job x) 0 k m ∙ ap (run_width side job x) (less k m)

  -- where no run of all is longer than one em, none of a part is
  pub none-longer : (m : ℕ) → alone.any_longer job.em (runs_from 0 m) ≡ false → (k n : ℕ) → k + n ≤ m → alone.any_longer job.em (runs_from k n) ≡ false
  none-longer m e k n h =
      ap (any (ltb job.em)) (lengths n k)
      ∙ none_any (ltb job.em) (map (run_width side job x) (count k n)) (some_of k n (λ i l u. all i (omega arith)))
    where
      all_of : (a n : ℕ) → All (λ w. ltb job.em w ≡ false) (map (run_width side job x) (count a n)) → (i : ℕ) → a ≤ i → i < a + n → ltb job.em (run_width side job x i) ≡ false
      all_of a zero q i l u = absurd (omega arith)
      all_of a (suc n) q i l u = elim (dec_lt a i) [
        | yes g ↦ all_of (suc a) n q.1 i g (omega arith)
        | no g ↦ subst (λ (z : ℕ). ltb job.em (run_width side job x z) ≡ false) (same g) q.0
      ]
        where
          same : (a < i → ⊥) → a ≡ i
          same g = omega arith

      all : (i : ℕ) → i < m → ltb job.em (run_width side job x i) ≡ false
      all i u = all_of 0 m (any_none (ltb job.em) (map (run_width side job x) (count 0 m)) (sym (ap (any (ltb job.em)) (lengths m 0)) ∙ e)) i zero-le (omega arith)

      some_of : (a n : ℕ) → ((i : ℕ) → a ≤ i → i < a + n → ltb job.em (run_width side job x i) ≡ false) → All (λ w. ltb job.em w ≡ false) (map (run_width side job x) (count a n))
      some_of a zero f = tt
      some_of a (suc n) f = (f a (omega arith) (omega arith), some_of (suc a) n (λ i l u. f i (omega arith) (omega arith)))

  -- all runs of a J
  pub whole-runs : (m : ℕ) → m ≡ sum (entries (runs_of side job) (run_of side x) x.bases) →
      alone.split (entries (runs_of side job) (run_of side x) x.bases) (entries (widths_of side job) (first_of side x) m) ≡ runs_from 0 x.bases
  whole-runs m e = rw (e, add-zero (run_of side x), add-zero (first_of side x))

-- runs that are not longer than one em, on either side
runs-each : (r l : Script) (h : Ratios) (em : ℕ) (bs runs rs lruns ls : List ℕ) → alone.any_longer em (alone.split runs rs) ≡ false → alone.any_longer em (alone.split lruns ls) ≡ false →
    sides.jukugos_word r l h em bs runs rs lruns ls
    ≡ record { front = 0; len = 2 * sum bs; inbase = 0; right = word.by_runs em (sum bs) (map sum (alone.split runs rs)); left = word.by_runs em (sum bs) (map sum (alone.split lruns ls)) }
unfolding sides.jukugos_word
runs-each r l h em bs runs rs lruns ls e f = rw (e, f)

module _ (job : Job) (x : Piece) where
  -- A part of a J that is cut: it is not taken as group, and its left reading is none or a left J.
  module _ (passed : Passed job) (at : IsWord job x) (cut : cuts job x ≡ true) (k n : ℕ) (some : 0 < n) (fits : k + n ≤ x.bases) where
    jukugo : is_j x.form ≡ true
    jukugo = (cut-is job x cut).0

    pub good : GoodPiece job (part job x k n)
    good = cut-piece job passed x (record { good = at.good; whole = at.whole }) cut k n some fits

    -- number 8 is not given
    pub ems : All (λ c. other job.em c ≡ false) (entries job.width x.base x.bases)
    ems =
        any_none (other job.em) (entries job.width x.base x.bases)
        (or_none (any (λ c. not (kana_like c)) (given job x).class) (any (other job.em) (given job x).width) (and_none (is_j x.form) _ at.good.eight jukugo)).1

    pub widths : sum (given job (part job x k n)).width ≡ job.em * n
    unfolding part
    widths =
        ems-sum job.em (entries job.width (x.base + k) n)
        (subst (All (λ c. other job.em c ≡ false)) (entries-cut job.width x.base x.bases k n fits) (all_take _ n _ (all_drop _ k _ ems)))
        ∙ ap (λ z. job.em * z) (length-entries job.width (x.base + k) n)

    pub many : length (given job (part job x k n)).width ≡ n
    unfolding part
    many = length-entries job.width (x.base + k) n

    pub rubies : length (given job (part job x k n)).ruby_width ≡ first_at Right job x (k + n) - first_at Right job x k
    unfolding part
    rubies = length-entries job.ruby_width (first_at Right job x k) (sum (entries job.run (x.run + k) n)) ∙ sym (omega (arith, first_more Right job x k n))

    pub wide : sum (given job (part job x k n)).ruby_width ≡ wide_before job x (k + n) - wide_before job x k
    unfolding part
    wide = omega (arith, wide-more job x k n)

    abbrev runs : List (List ℕ)
    runs = alone.split (given job (part job x k n)).run (given job (part job x k n)).ruby_width

    runs_are : runs ≡ runs_from Right job x k n
    unfolding part
    runs_are = refl

    pub same : eqb (longer job x k) (longer job x (k + n)) ≡ not (alone.any_longer job.em runs)
    same =
        ap (λ z. eqb (longer job x k) z) (longer-more job x k n) ∙ stays (ltb job.em) (map (run_width Right job x) (count k n)) (longer job x k)
        ∙ ap (λ l. not (any (ltb job.em) l)) (sym (lengths Right job x n k)) ∙ ap (λ r. not (alone.any_longer job.em r)) (sym runs_are)

    first : get_or (map sum runs) 0 0 ≡ run_width Right job x k
    first = ap (λ r. get_or (map sum r) 0 0) runs_are ∙ first-length Right job x k n some

    last : last_or 0 (map sum runs) ≡ run_width Right job x (k + n - 1)
    last = ap (λ r. last_or 0 (map sum r)) runs_are ∙ last-length Right job x k n some

    -- its runs have ruby characters
    pub reads : 0 < sum (entries job.run (x.run + k) n)
    unfolding part
    reads = omega (arith, good.ready.sized.reads (ruby_of (eqb n 1)), length-entries job.ruby_width (first_at Right job x k) (sum (entries job.run (x.run + k) n)))
      where
        ruby_of : (t : Bool) → has_ruby (cond t M J) ≡ true
        ruby_of true = refl
        ruby_of false = refl

    pub within : (first_at Right job x k + sum (entries job.run (x.run + k) n) ≤ ruby_count job) × (x.base + k + n ≤ base_count job)
    unfolding part
    within = (good.reads Right, good.inside)

    abbrev bs : List ℕ
    bs = (given job (part job x k n)).width

    abbrev rs : List ℕ
    rs = (given job (part job x k n)).ruby_width

    -- Without a left reading.
    module _ (none : has_left x.gloss ≡ false) where
      head : get_or (given job (part job x k n)).ruby_class 0 0 ≡ get_or job.ruby_class (first_at Right job x k) 0
      unfolding part
      head = entries_at job.ruby_class (first_at Right job x k) (sum (entries job.run (x.run + k) n)) 0 reads ∙ ap (λ z. get_or job.ruby_class z 0) (add-zero (first_at Right job x k))

      -- number 9 has let its ruby pass, so the first character speaks for all
      alone-set : eqb n 1 ≡ false → answer J 0 (given job (part job x k n)) ≡ Set (word.word_of J (given job (part job x k n)))
      unfolding part
      alone-set e =
          let w = given job (part job x k n) in
          let q = answered.passed J 0 w (gloss_of job (part job x k n)) (subst (λ t. answer_both (cond t M J) 0 w (gloss_of job (part job x k n)) ≡ Set (sides.word_of (cond t M J) w (gloss_of job (part job x k n)))) e (good.set 0)) in
          promise.set J 0 w q.seven q.eight (or_none (mixed_in J w) _ q.nine).0 refl

      speaks : eqb n 1 ≡ false → Speaks (given job (part job x k n)).ruby_class
      unfolding part
      speaks e =
          let m = sum (entries job.run (x.run + k) n) in
          let bases = length-entries job.class (x.base + k) n in
          let rubies = length-entries job.ruby_class (first_at Right job x k) m in
          (judged J 0 (given job (part job x k n)) (alone-set e)
          (omega arith) (bases ∙ sym (length-entries job.width (x.base + k) n))
          (ap accepted (entries_at job.class (x.base + k) n 0 some ∙ ap (λ z. get_or job.class z 0) (add-zero (x.base + k))) ∙ (passed.base (x.base + k) (omega (arith, within.1))).class)
          (λ _. (omega (arith, reads), ap accepted head ∙ (passed.ruby (first_at Right job x k) (omega (arith, within.0, reads))).class))
          ).0

      script : eqb n 1 ≡ false → alone.script (given job (part job x k n)).ruby_class ≡ cond (western (get_or job.ruby_class (first_at Right job x k) 0)) Western Kana
      script e = ap (λ z. cond z Western Kana) ((speaks e).first ∙ ap western head)

      group : (t : Bool) (bs rs : List ℕ) →
          word_from (ruby_way t) Spread job.ratios job.em (sum bs) (length bs) (sum rs) (length rs) ≡ word.group_word (cond t Western Kana) Kana job.ratios job.em bs rs
      unfolding word.group_word
      group true bs rs = sym (word_from_lem Solid Spread job.ratios job.em bs rs)
      group false bs rs = sym (word_from_lem Limited Spread job.ratios job.em bs rs)

      word_of_lem : (t : Bool) → eqb n 1 ≡ t → word_of job (part job x k n) ≡ word.word_of (cond t M J) (given job (part job x k n))
      unfolding part sides.word_of
      word_of_lem t e = rw (part-has x.gloss (eqb n 1) ∙ none) (ap (λ z. word.word_of (cond z M J) (given job (part job x k n))) e)

      over_each_lem : each_over (sum bs) (word.between job.em (sum bs) (get_or (map sum runs) 0 0) (last_or 0 (map sum runs))) word.none ≡ word.over_each job.em (sum bs) (map sum runs)
      unfolding each_over word.over_each
      over_each_lem = refl

      -- the numbers of the two rows are those of the part's own strings
      abbrev by_rows : Bool → Bool → Word
      by_rows one none =
          cond one (word_from Solid Solid job.ratios job.em (sum bs) (length bs) (sum rs) (length rs))
          (cond none (each_over (sum bs) (word.between job.em (sum bs) (get_or (map sum runs) 0 0) (last_or 0 (map sum runs))) word.none)
          (word_from (ruby_way (western (get_or job.ruby_class (first_at Right job x k) 0))) Spread job.ratios job.em (sum bs) (length bs) (sum rs) (length rs)))

      by_rows_lem : (one : Bool) → eqb n 1 ≡ one → (long : Bool) → alone.any_longer job.em runs ≡ long → by_rows one (not long) ≡ word_of job (part job x k n)
      unfolding word.word_of word.jukugo_word
      by_rows_lem true e long f = sym (word_from_lem Solid Solid job.ratios job.em bs rs) ∙ sym (word_of_lem true e)
      by_rows_lem false e true f =
          group (western (get_or job.ruby_class (first_at Right job x k) 0)) bs rs
          ∙ ap (λ z. word.group_word z Kana job.ratios job.em bs rs) (sym (script e))
          ∙ sym (word_of_lem false e ∙ rw f)
      by_rows_lem false e false f = over_each_lem ∙ sym (word_of_lem false e ∙ rw f)

      -- so the part is the word that level one makes of it
      abbrev W : Bool
      W = western (get_or job.ruby_class (first_at Right job x k) 0)

      pub part-word :
          part_by job.ratios job.em n (wide_before job x (k + n) - wide_before job x k) (first_at Right job x (k + n) - first_at Right job x k) (eqb (longer job x k) (longer job x (k + n)))
          (run_width Right job x k) (run_width Right job x (k + n - 1)) (western (get_or job.ruby_class (first_at Right job x k) 0))
          ≡ word_of job (part job x k n)
      unfolding part_by
      part-word =
          ap₂ (λ R m. part_by job.ratios job.em n R m (eqb (longer job x k) (longer job x (k + n))) (run_width Right job x k) (run_width Right job x (k + n - 1)) W) (sym wide) (sym rubies)
          ∙ ap₂ (λ a z. part_by job.ratios job.em n (sum rs) (length rs) (eqb (longer job x k) (longer job x (k + n))) a z W) (sym first) (sym last)
          ∙ ap (λ t. part_by job.ratios job.em n (sum rs) (length rs) t (get_or (map sum runs) 0 0) (last_or 0 (map sum runs)) W) same
          ∙ numbers (eqb n 1) (not (alone.any_longer job.em runs))
          ∙ by_rows_lem (eqb n 1) refl (alone.any_longer job.em runs) refl
        where
          by_count : Bool → Bool → ℕ → ℕ → Word
          by_count one none b m =
              cond one (word_from Solid Solid job.ratios job.em b m (sum rs) (length rs))
              (cond none (each_over b (word.between job.em b (get_or (map sum runs) 0 0) (last_or 0 (map sum runs))) word.none) (word_from (ruby_way W) Spread job.ratios job.em b m (sum rs) (length rs)))

          numbers : (one none : Bool) → by_count one none (job.em * n) n ≡ by_rows one none
          numbers one none = ap₂ (by_count one none) (sym widths) (sym many)

    -- With a left J, no run of which is longer than one em, on either side.
    module _ (jukugos : is_jukugo x.gloss ≡ true) where
      is_jukugo_lem : x.gloss ≡ left.J
      is_jukugo_lem = go x.gloss jukugos
        where
          go : (g : LeftKind) → is_jukugo g ≡ true → g ≡ left.J
          go left.N e = absurd (false≢true e)
          go left.M e = absurd (false≢true e)
          go left.G e = absurd (false≢true e)
          go left.J e = refl

      has-runs : left_by_runs x.form x.gloss ≡ true
      has-runs = runs_of-j x.form x.gloss jukugo (rw is_jukugo_lem) (rw is_jukugo_lem)

      -- none of the J's runs is longer
      whole-fits : (alone.any_longer job.em (alone.split (given job x).run (given job x).ruby_width) ≡ false) × (alone.any_longer job.em (alone.split (gloss_of job x).run (gloss_of job x).width) ≡ false)
      unfolding cuts
      whole-fits = or_none _ _ (not-true _ (sym (rw is_jukugo_lem) ∙ (both (is_j x.form) _ cut).1))
        where
          not-true : (t : Bool) → not t ≡ true → t ≡ false
          not-true true e = absurd (false≢true e)
          not-true false e = refl

      abbrev ls : List ℕ
      ls = (gloss_of job (part job x k n)).width

      abbrev left_runs : List (List ℕ)
      left_runs = alone.split (gloss_of job (part job x k n)).run (gloss_of job (part job x k n)).width

      left_are : left_runs ≡ runs_from Left job x k n
      unfolding part
      left_are = rw has-runs

      -- so none of the part's is
      part-fits : (alone.any_longer job.em runs ≡ false) × (alone.any_longer job.em left_runs ≡ false)
      part-fits = (
        ap (alone.any_longer job.em) runs_are ∙ none-longer Right job x x.bases (sym (ap (alone.any_longer job.em) (whole-right)) ∙ whole-fits.0) k n fits,
        ap (alone.any_longer job.em) left_are ∙ none-longer Left job x x.bases (sym (ap (alone.any_longer job.em) (whole-left)) ∙ whole-fits.1) k n fits,
      )
        where
          whole-right : alone.split (given job x).run (given job x).ruby_width ≡ runs_from Right job x 0 x.bases
          whole-right = whole-runs Right job x x.rubies (at.good.counts.whole jukugo)

          whole-left : alone.split (gloss_of job x).run (gloss_of job x).width ≡ runs_from Left job x 0 x.bases
          whole-left = whole-runs Left job x x.lefts (at.good.gloss.whole has-runs)

      -- the part as level one has it: one character with a mono left reading, or more with a left J
      abbrev each : Word
      each =
          record {
            front = 0;
            len = 2 * sum bs;
            inbase = 0;
            right = word.by_runs job.em (sum bs) (map sum runs);
            left = word.by_runs job.em (sum bs) (map sum left_runs);
          }

      as_jukugos : eqb n 1 ≡ false → word_of job (part job x k n)
          ≡ sides.jukugos_word (alone.script (given job (part job x k n)).ruby_class) (alone.script (gloss_of job (part job x k n)).class) job.ratios job.em bs (given job (part job x k n)).run rs
          (gloss_of job (part job x k n)).run ls
      unfolding part sides.word_of sides.word_two sides.two_by sides.jukugos_by
      as_jukugos e = rw (is_jukugo_lem, e)

      two-word : (t : Bool) → eqb n 1 ≡ t → word_of job (part job x k n) ≡ cond t (sides.monos_word job.ratios job.em (sides.str_of bs) (sides.str_of rs) (sides.str_of ls)) each
      unfolding part sides.word_of sides.word_two sides.two_by sides.jukugos_by
      two-word true e = rw (is_jukugo_lem, e)
      two-word false e =
          as_jukugos e ∙ runs-each (alone.script (given job (part job x k n)).ruby_class) (alone.script (gloss_of job (part job x k n)).class) job.ratios job.em bs
          (given job (part job x k n)).run rs (gloss_of job (part job x k n)).run ls part-fits.0 part-fits.1

      left-first : get_or (map sum left_runs) 0 0 ≡ run_width Left job x k
      left-first = ap (λ r. get_or (map sum r) 0 0) left_are ∙ first-length Left job x k n some

      left-last : last_or 0 (map sum left_runs) ≡ run_width Left job x (k + n - 1)
      left-last = ap (λ r. last_or 0 (map sum r)) left_are ∙ last-length Left job x k n some

      base_str : ◌≡◌ {A = Str} (record { width = job.em * n; count = n }) (sides.str_of bs)
      base_str = ap₂ (λ (w c : ℕ). record { width = w; count = c }) (sym widths) (sym many)

      -- of one character the runs are one run
      one-run : (side : Side) → n ≡ 1 → sum (entries (runs_of side job) (run_of side x + k) n) ≡ run_at side job x k
      one-run side e = rw e (add-zero (run_at side job x k))

      str_of_lem : (side : Side) (ws : List ℕ) → n ≡ 1 → ws ≡ entries (widths_of side job) (first_at side job x k) (sum (entries (runs_of side job) (run_of side x + k) n)) →
          ◌≡◌ {A = Str} (record { width = run_width side job x k; count = run_at side job x k }) (sides.str_of ws)
      str_of_lem side ws e f =
          let g : ws ≡ entries (widths_of side job) (first_at side job x k) (run_at side job x k) = f ∙ ap (entries (widths_of side job) (first_at side job x k)) (one-run side e) in
          ap₂ (λ (w c : ℕ). record { width = w; count = c }) (sym (ap sum g)) (sym (ap length g ∙ length-entries (widths_of side job) (first_at side job x k) (run_at side job x k)))

      right_str : n ≡ 1 → ◌≡◌ {A = Str} (record { width = run_width Right job x k; count = run_at Right job x k }) (sides.str_of rs)
      unfolding part
      right_str e = str_of_lem Right rs e refl

      left_str : n ≡ 1 → ◌≡◌ {A = Str} (record { width = run_width Left job x k; count = run_at Left job x k }) (sides.str_of ls)
      unfolding part
      left_str e = str_of_lem Left ls e (rw has-runs)

      pub both_word :
          both_by job.ratios job.em n (record { width = run_width Right job x k; count = run_at Right job x k }) (record { width = run_width Left job x k; count = run_at Left job x k })
          (run_width Right job x (k + n - 1)) (run_width Left job x (k + n - 1))
          ≡ word_of job (part job x k n)
      unfolding both_by each_over
      both_word = go (eqb n 1) refl
        where
          go : (t : Bool) → eqb n 1 ≡ t →
              cond t
              (sides.monos_word job.ratios job.em (record { width = job.em * n; count = n }) (record { width = run_width Right job x k; count = run_at Right job x k })
              (record { width = run_width Left job x k; count = run_at Left job x k }))
              (each_over (job.em * n) (word.between job.em (job.em * n) (run_width Right job x k) (run_width Right job x (k + n - 1)))
              (word.between job.em (job.em * n) (run_width Left job x k) (run_width Left job x (k + n - 1))))
              ≡ word_of job (part job x k n)
          go true e =
              let n1 = eqb-true n 1 e in
              ap₂ (λ (b : Str) (r : Str). sides.monos_word job.ratios job.em b r (record { width = run_width Left job x k; count = run_at Left job x k })) base_str (right_str n1)
              ∙ ap (λ (l : Str). sides.monos_word job.ratios job.em (sides.str_of bs) (sides.str_of rs) l) (left_str n1)
              ∙ sym (two-word true e)
          go false e =
              ap (λ (b : ℕ). record { front = 0; len = 2 * b; inbase = 0; right = word.between job.em b (run_width Right job x k) (run_width Right job x (k + n - 1)); left = word.between job.em b (run_width Left job x k) (run_width Left job x (k + n - 1)) }) (sym widths)
              ∙ ap₂ (λ (r l : Reading). record { front = 0; len = 2 * sum bs; inbase = 0; right = r; left = l })
              (ap₂ (word.between job.em (sum bs)) (sym first) (sym last)) (ap₂ (word.between job.em (sum bs)) (sym left-first) (sym left-last))
              ∙ sym (two-word false e)
