-- The words that the lines are made of: "a J with a mono left reading is set as one such M for each character", and every other element is one word. Each of them is as good as an
-- element, and like the elements they take all characters of the job, one after the other.
use Rattle.std.specs.Prelude.{◌≡◌, Bool, true, false, cond, List, [], ◌∷◌, ◌++◌, map, ℕ, zero, suc, ◌+◌, ◌≤◌, ◌<◌, length}
use Rattle.std.proofs.Math.Path.{refl}
use Rattle.std.proofs.Common.{sym, ap, ◌∙◌, subst, true≢false, add-zero, zero-add, arith}
use Rattle.std.proofs.lemmas.Bool.{false≢true}
use Rattle.basics.specs.Lists.{sum, count, each, All}
use Rattle.word.specs.declared.Form.{Form}
use Rattle.word.specs.declared.Form.TheVariants.{P, M, G, J}
use Rattle.word.specs.declared.Left.{Left as LeftKind}
use Rattle.word.specs.declared.Left.TheVariants as left
use Rattle.word.specs.Given.{is_j}
use Rattle.word.specs.Both.{takes, apart, is_group}
use Rattle.word.specs.Answered.{passed}
use Rattle.line.specs.declared.Side.{Side}
use Rattle.line.specs.declared.Side.TheVariants.{Right, Left}
use Rattle.door.specs.declared.Piece.{Piece}
use Rattle.door.specs.Job.{Job, base_count, entries, left_by_runs, elements, given, gloss_of}
use Rattle.door.specs.Entries.{length-entries}
use Rattle.door.specs.Passed.{GoodElement, Tiled, BaseTiled, Passed}
use Rattle.job.specs.Line.{part, words_in, words, first_of, many_of, count_of}
use Rattle.job.specs.Laws.{all-each, entries-add}
use Rattle.job.specs.Words.{GoodPiece, runs_of-j, part-piece}
use Rattle.job.specs.Apart.{GoodWord, one_by_one}

-- which elements are taken apart
pub apart-is : (form : Form) (k : LeftKind) → apart form k ≡ true → (is_j form ≡ true) × (k ≡ left.M)
apart-is P left.N e = absurd (false≢true e)
apart-is P left.M e = absurd (false≢true e)
apart-is P left.G e = absurd (false≢true e)
apart-is P left.J e = absurd (false≢true e)
apart-is M left.N e = absurd (false≢true e)
apart-is M left.M e = absurd (false≢true e)
apart-is M left.G e = absurd (false≢true e)
apart-is M left.J e = absurd (false≢true e)
apart-is G left.N e = absurd (false≢true e)
apart-is G left.M e = absurd (false≢true e)
apart-is G left.G e = absurd (false≢true e)
apart-is G left.J e = absurd (false≢true e)
apart-is J left.N e = absurd (false≢true e)
apart-is J left.M e = (refl, refl)
apart-is J left.G e = absurd (false≢true e)
apart-is J left.J e = absurd (false≢true e)

-- A piece that is no J is as good as an element.

runs_are_j : (form : Form) (k : LeftKind) → takes form k ≡ true → left_by_runs form k ≡ true → is_j form ≡ true
runs_are_j form left.N t e = absurd (false≢true e)
runs_are_j form left.G t e = absurd (false≢true e)
runs_are_j P left.M t e = absurd (false≢true e)
runs_are_j M left.M t e = absurd (false≢true e)
runs_are_j G left.M t e = absurd (false≢true t)
runs_are_j J left.M t e = refl
runs_are_j P left.J t e = absurd (false≢true e)
runs_are_j M left.J t e = absurd (false≢true t)
runs_are_j G left.J t e = absurd (false≢true t)
runs_are_j J left.J t e = refl

piece-word : (job : Job) (p : Piece) → GoodPiece job p → is_j p.form ≡ false → GoodWord job p
piece-word job p g n =
    let rubies = length-entries job.ruby_width p.ruby p.rubies in
    let lefts = length-entries job.left_width p.left p.lefts in
    let w = passed p.form 0 (given job p) (gloss_of job p) (g.set 0) in
    let z = g.ready.left in
    record {
      good =
          record {
            counts =
                record {
                  some = g.some;
                  few = g.few;
                  reads = λ h. omega (arith, g.ready.sized.reads h);
                  plain = λ h. sym rubies ∙ ap length (g.ready.plain h);
                  few_ruby = omega (arith, g.ready.sized.few_ruby);
                  whole = λ h. absurd (true≢false (sym h ∙ n));
                  each = λ h. absurd (true≢false (sym h ∙ n));
                };
            gloss =
                record {
                  reads = λ h t. omega (arith, z.reads h);
                  none = λ h. sym lefts ∙ ap length (z.none h);
                  few = omega (arith, z.few);
                  whole = λ h. absurd (true≢false (sym (runs_are_j p.form p.gloss z.takes h) ∙ n));
                  each = λ h. absurd (true≢false (sym (runs_are_j p.form p.gloss z.takes h) ∙ n));
                };
            takes = z.takes;
            inside = g.inside;
            reads = g.reads Right;
            left_reads = g.reads Left;
            seven = w.seven;
            eight = w.eight;
            nine = w.nine;
            ten = w.ten;
            set = g.set;
          };
      whole = z.whole;
    }

module _ (job : Job) (pass : Passed job) (x : Piece) (good : GoodElement job x) (separate : apart x.form x.gloss ≡ true) where
  mono_left : x.gloss ≡ left.M
  mono_left = (apart-is x.form x.gloss separate).1

  pub single-piece : (i : ℕ) → i < x.bases → GoodPiece job (part job x i 1)
  single-piece i h =
      part-piece job pass x good (apart-is x.form x.gloss separate).0 (subst (λ k. is_group k ≡ false) (sym mono_left) refl) i 1 (omega arith) (omega arith) (λ _. refl)

  single-form : (i : ℕ) → is_j (part job x i 1).form ≡ false
  unfolding part
  single-form i = refl

  singles : (a n : ℕ) → a + n ≤ x.bases → All (GoodWord job) (map (λ i. part job x i 1) (count a n))
  singles a zero h = tt
  singles a (suc n) h = (piece-word job (part job x a 1) (single-piece a (omega arith)) (single-form a), singles (suc a) n (omega arith))

  -- they take the element's characters: `sofar i` have the first i of them
  module _ (first many : Piece → ℕ) (sofar : ℕ → ℕ)
      (begins : (i : ℕ) → first (part job x i 1) ≡ first x + sofar i) (takes : (i : ℕ) → sofar (suc i) ≡ sofar i + many (part job x i 1)) where
    tiled-from : (a n : ℕ) → Tiled first many (first x + sofar a) (map (λ i. part job x i 1) (count a n)) (first x + sofar (a + n))
    tiled-from a zero = ap (λ k. first x + sofar k) (sym (add-zero a))
    tiled-from a (suc n) = (
      begins a,
      subst (λ (b : ℕ). Tiled first many b (map (λ i. part job x i 1) (count (suc a) n)) (first x + sofar (a + suc n))) (omega (arith, takes a))
          (subst (λ (k : ℕ). Tiled first many (first x + sofar (suc a)) (map (λ i. part job x i 1) (count (suc a) n)) (first x + sofar k)) (step a n) (tiled-from (suc a) n)),
    )
      where
        step : (a n : ℕ) → suc a + n ≡ a + suc n
        step a n = omega arith

    single-tiled : sofar 0 ≡ 0 → sofar x.bases ≡ many x → Tiled first many (first x) (one_by_one job x) (first x + many x)
    single-tiled none all =
        subst (λ (b : ℕ). Tiled first many b (one_by_one job x) (first x + many x)) (ap (λ k. first x + k) none ∙ add-zero (first x))
        (subst (λ (d : ℕ). Tiled first many (first x + sofar 0) (one_by_one job x) (first x + d)) (ap sofar (zero-add x.bases) ∙ all) (tiled-from 0 x.bases))

  base-single : Tiled (λ p. p.base) (λ p. p.bases) x.base (one_by_one job x) (x.base + x.bases)
  unfolding part
  base-single = single-tiled (λ p. p.base) (λ p. p.bases) (λ i. i) (λ i. refl) (λ i. omega arith) refl refl

  sum-next : (runs : List ℕ) (u i : ℕ) → sum (entries runs u (suc i)) ≡ sum (entries runs u i) + sum (entries runs (u + i) 1)
  sum-next runs u i = ap (λ k. sum (entries runs u k)) (more i) ∙ entries-add runs u i 1
    where
      more : (i : ℕ) → suc i ≡ i + 1
      more i = omega arith

  ruby-single : Tiled (λ p. p.ruby) (λ p. p.rubies) x.ruby (one_by_one job x) (x.ruby + x.rubies)
  unfolding part
  ruby-single =
      single-tiled (λ p. p.ruby) (λ p. p.rubies) (λ i. sum (entries job.run x.run i)) (λ i. refl) (sum-next job.run x.run) refl
      (sym (good.counts.whole (apart-is x.form x.gloss separate).0))

  has-runs : left_by_runs x.form x.gloss ≡ true
  has-runs = let q = apart-is x.form x.gloss separate in runs_of-j x.form x.gloss q.0 (rw q.1) (rw q.1)

  left-single : Tiled (λ p. p.left) (λ p. p.lefts) x.left (one_by_one job x) (x.left + x.lefts)
  unfolding part
  left-single =
      single-tiled (λ p. p.left) (λ p. p.lefts) (λ i. sum (entries job.left_run x.leftrun i)) (λ i. rw has-runs) (λ i. rw has-runs (sum-next job.left_run x.leftrun i)) refl
      (sym (good.gloss.whole has-runs))

-- The words of all elements.

module _ (first many : Piece → ℕ) where
  tiled_append : (b c d : ℕ) (xs ys : List Piece) → Tiled first many b xs c → Tiled first many c ys d → Tiled first many b (xs ++ ys) d
  tiled_append b c d [] ys t w = subst (λ (k : ℕ). Tiled first many k ys d) (sym t) w
  tiled_append b c d (x ∷ xs) ys t w = (t.0, tiled_append (b + many x) c d xs ys t.1 w)

  tiled-each : (f : Piece → List Piece) (b d : ℕ) (xs : List Piece) → Tiled first many b xs d → All (λ x. Tiled first many (first x) (f x) (first x + many x)) xs → Tiled first many b (each f xs) d
  tiled-each f b d [] t a = t
  tiled-each f b d (x ∷ xs) t a =
      tiled_append b (b + many x) d (f x) (each f xs) (subst (λ (k : ℕ). Tiled first many k (f x) (k + many x)) t.0 a.0) (tiled-each f (b + many x) d xs t.1 a.1)

pub by_apart : (job : Job) (Q : List Piece → Type 0) (x : Piece) → (apart x.form x.gloss ≡ true → Q (one_by_one job x)) → (apart x.form x.gloss ≡ false → Q (x ∷ [])) → Q (words_in job x)
unfolding words_in
by_apart job Q x f g = go (apart x.form x.gloss) refl
  where
    go : (t : Bool) → apart x.form x.gloss ≡ t → Q (cond t (one_by_one job x) (x ∷ []))
    go true e = f e
    go false e = g e

module _ (job : Job) (pass : Passed job) where
  -- the words of elements that stand one after the other
  pub good-words_of : (xs : List Piece) → All (GoodElement job) xs → All (GoodWord job) (each (words_in job) xs)
  good-words_of xs =
      all-each (GoodElement job) (GoodWord job) (words_in job) xs
      (λ x g. by_apart job (All (GoodWord job)) x (λ e. singles job pass x g e 0 x.bases (omega arith)) (λ e. (record { good = g; whole = e }, tt)))

  module _ (first many : Piece → ℕ) (single : (x : Piece) → GoodElement job x → apart x.form x.gloss ≡ true → Tiled first many (first x) (one_by_one job x) (first x + many x)) where
    tiles : (xs : List Piece) → All (GoodElement job) xs → All (λ x. Tiled first many (first x) (words_in job x) (first x + many x)) xs
    tiles [] a = tt
    tiles (x ∷ xs) a = (by_apart job (λ ps. Tiled first many (first x) ps (first x + many x)) x (single x a.0) (λ _. (refl, refl)), tiles xs a.1)

    tiled-words : (b d : ℕ) (xs : List Piece) → Tiled first many b xs d → All (GoodElement job) xs → Tiled first many b (each (words_in job) xs) d
    tiled-words b d xs t a = tiled-each first many (words_in job) b d xs t (tiles xs a)

  pub words-tiled-of : (b d : ℕ) (xs : List Piece) → BaseTiled b xs d → All (GoodElement job) xs → BaseTiled b (each (words_in job) xs) d
  words-tiled-of = tiled-words (λ p. p.base) (λ p. p.bases) (base-single job pass)

  -- the words of the job
  pub good-words : All (GoodWord job) (words job)
  unfolding words
  good-words = good-words_of (elements job) pass.each

  -- they take all base characters, and all characters of either side
  pub words-tiled : BaseTiled 0 (words job) (base_count job)
  unfolding words
  words-tiled = words-tiled-of 0 (base_count job) (elements job) pass.tiled pass.each

  pub readings-tiled : (side : Side) → Tiled (first_of side) (many_of side) 0 (words job) (count_of side job)
  unfolding words
  readings-tiled Right = tiled-words (first_of Right) (many_of Right) (ruby-single job pass) 0 (count_of Right job) (elements job) pass.rubies pass.each
  readings-tiled Left = tiled-words (first_of Left) (many_of Left) (left-single job pass) 0 (count_of Left job) (elements job) pass.lefts pass.each
