-- How far a line reaches (document 02, R-3): "By the limits on counts and widths, no position in a line passes 25,165,824 half units"; R-5: "With left characters counted, R-3's
-- limit is 41,943,040." A line's extent is at most the sum of its elements' lengths, an element is at most as long as its characters together, and the elements of a line have
-- characters of their own.
use Rattle.std.specs.Prelude.{◌≡◌, refl, Bool, true, false, cond, ◌&&◌, List, [], ◌∷◌, map, ℕ, ◌+◌, ◌-◌, ◌*◌, ◌≤◌, ◌<◌, min, max, eqb, ltb}
use Rattle.std.proofs.Common.{sym, ap, ◌∙◌, zero-le, add-zero, add_assoc, arith}
use Rattle.std.proofs.lemmas.List.{map-append}
use Rattle.std.proofs.lemmas.Bool.{eqb-false}
use Rattle.basics.specs.Lists.{sum, each, All}
use Rattle.basics.specs.Laws.{sum_append}
use Rattle.line.specs.declared.Side.TheVariants.{Right, Left}
use Rattle.line.specs.Setting as setting
use Rattle.line.proofs.Bound as bound
use Rattle.word.specs.Word as word
use Rattle.door.specs.declared.Piece.{Piece}
use Rattle.door.specs.Job.{Job, base_count, ruby_count, left_count, entries, left_by_runs}
use Rattle.door.specs.Passed.{Tiled, Passed}
use Rattle.job.specs.Line.{part, words, cuts, in_line, pieces, word_of, seen, line_of, origins, extent_of}
use Rattle.job.specs.Walk.{state_of}
use Rattle.job.proofs.Walk.{extent_of_lem}
use Rattle.job.specs.Words.{GoodPiece, promise, bases-narrow, readings-narrow, ruby-fits, left-fits}
use Rattle.job.specs.Apart.{GoodWord}
use Rattle.job.proofs.Apart.{good-words, words-tiled, readings-tiled}
use Rattle.job.proofs.Pieces.{cut-is, good-pieces}

-- No piece is longer than a word may be, nor than its characters together.

piece-within : (job : Job) (p : Piece) (m : ℕ) → word.total (word_of job p) ≤ m → setting.total (seen job p) ≤ m
unfolding seen
piece-within job p m = go (word_of job p).right.there (word_of job p).left.there ((word_of job p).front + (word_of job p).len) (word_of job p).right.upto (word_of job p).left.upto
  where
    go : (t u : Bool) (a b c : ℕ) → max a (max b c) ≤ m → max a (max (cond t b 0) (cond u c 0)) ≤ m
    go true true a b c h = omega arith
    go true false a b c h = omega arith
    go false true a b c h = omega arith
    go false false a b c h = omega arith

pub piece-short : (job : Job) (p : Piece) → GoodPiece job p → setting.total (seen job p) ≤ 524288
piece-short job p g = piece-within job p 524288 (promise job p g).limit

-- how many characters a piece has
abbrev many : Piece → ℕ
many p = p.bases + p.rubies + p.lefts

-- a word's piece has no more characters than the word
left_part_lem : (job : Job) → Passed job → (x : Piece) → GoodWord job x → cuts job x ≡ true → (i n : ℕ) → 0 < n → i + n ≤ x.bases → (part job x i n).lefts ≤ x.lefts
unfolding part
left_part_lem job passed x g b i n some fits = go (left_by_runs x.form x.gloss) refl
  where
    go : (t : Bool) → left_by_runs x.form x.gloss ≡ t → cond t (sum (entries job.left_run (x.leftrun + i) n)) 0 ≤ x.lefts
    go true e = let q = cut-is job x b in omega (arith, left-fits job passed x g.good q.0 q.1 i n some fits e)
    go false e = zero-le

in_many : (job : Job) → Passed job → (s e : ℕ) (x : Piece) → GoodWord job x → sum (map many (in_line job s e x)) ≤ many x
unfolding in_line part
in_many job passed s e x g = go (eqb n 0) (cuts job x) (ltb n x.bases) refl refl
  where
    i : ℕ
    i = max s x.base - x.base

    n : ℕ
    n = min e (x.base + x.bases) - (x.base + i)

    fits : (s e a b : ℕ) → (min e (a + b) - (a + (max s a - a)) ≡ 0 → ⊥) → (max s a - a) + (min e (a + b) - (a + (max s a - a))) ≤ b
    fits s e a b h = omega arith

    positive : (k : ℕ) → (k ≡ 0 → ⊥) → 0 < k
    positive k h = omega arith

    go : (z j w : Bool) → eqb n 0 ≡ z → cuts job x ≡ j → sum (map many (cond z [] (cond (j && w) (part job x i n) x ∷ []))) ≤ many x
    go true j w a b = zero-le
    go false false w a b = omega arith
    go false true false a b = omega arith
    go false true true a b =
        let h = eqb-false n 0 a in
        let l = fits s e x.base x.bases h in
        let q = cut-is job x b in
        omega (arith, ruby-fits job passed x g.good q.0 q.1 i n (positive n h) l, left_part_lem job passed x g b i n (positive n h) l)

each-many : (job : Job) → Passed job → (s e : ℕ) (xs : List Piece) → All (GoodWord job) xs → sum (map many (each (in_line job s e) xs)) ≤ sum (map many xs)
each-many job passed s e [] a = zero-le
each-many job passed s e (x ∷ xs) a =
    let here = in_line job s e x in
    let later = each (in_line job s e) xs in
    omega (arith, in_many job passed s e x a.0, each-many job passed s e xs a.1, ap sum (map-append many here later), sum_append (map many here) (map many later))

-- "Elements take base and ruby characters in order", and all of them
pub tiled-sum : (first count : Piece → ℕ) (b : ℕ) (xs : List Piece) (d : ℕ) → Tiled first count b xs d → b + sum (map count xs) ≡ d
tiled-sum first count b [] d t = add-zero b ∙ t
tiled-sum first count b (x ∷ xs) d t = sym (add_assoc b (count x) (sum (map count xs))) ∙ tiled-sum first count (b + count x) xs d t.1

sum-all : (xs : List Piece) → sum (map many xs) ≡ sum (map (λ p. p.bases) xs) + sum (map (λ p. p.rubies) xs) + sum (map (λ p. p.lefts) xs)
sum-all [] = refl
sum-all (x ∷ xs) = omega (arith, sum-all xs)

module _ (job : Job) (passed : Passed job) where
  piece-long : (p : Piece) → GoodPiece job p → setting.total (seen job p) ≤ 8192 * many p
  piece-long p g =
      piece-within job p (8192 * many p)
      (omega (
        arith,
        (promise job p g).sums,
        bases-narrow job passed p.base p.bases g.inside,
        readings-narrow job passed Right p.ruby p.rubies (g.reads Right),
        readings-narrow job passed Left p.left p.lefts (g.reads Left),
      ))

  totals : (ps : List Piece) → All (GoodPiece job) ps → sum (map setting.total (map (seen job) ps)) ≤ 8192 * sum (map many ps)
  totals [] a = zero-le
  totals (p ∷ ps) a = omega (arith, piece-long p a.0, totals ps a.1)

  -- the characters of a line are characters of the job
  line-many : (s e : ℕ) → sum (map many (pieces job s e)) ≤ base_count job + ruby_count job + left_count job
  unfolding pieces
  line-many s e =
      omega (
        arith,
        each-many job passed s e (words job) (good-words job passed),
        sum-all (words job),
        tiled-sum (λ p. p.base) (λ p. p.bases) 0 (words job) (base_count job) (words-tiled job passed),
        tiled-sum (λ p. p.ruby) (λ p. p.rubies) 0 (words job) (ruby_count job) (readings-tiled job passed Right),
        tiled-sum (λ p. p.left) (λ p. p.lefts) 0 (words job) (left_count job) (readings-tiled job passed Left),
      )

  -- No block and no ruby of any line ends past 41,943,040: 1,024 base characters, 2,048 ruby characters and 2,048 left ones of 4,096 units each.
  pub extent-bounded : (s e : ℕ) → extent_of job s e ≤ 41943040
  unfolding extent_of origins line_of
  extent-bounded s e =
      omega (arith, bound.bounded (line_of job s e), totals (pieces job s e) (good-pieces job passed s e), line-many s e, passed.few_base, passed.few_ruby, passed.few_left)

  -- the state that the next element is set by
  pub state-bounded : (s e : ℕ) → setting.furthest (state_of job s e) ≤ 41943040
  state-bounded s e = omega (arith, extent_of_lem job s e, extent-bounded s e)

  -- so any piece can be placed after it in numbers of 32 bits
  pub place-fits : (s c : ℕ) (p : Piece) → GoodPiece job p → setting.furthest (state_of job s c) + setting.total (seen job p) ≤ 4294967295
  place-fits s c p g = omega (arith, state-bounded s c, piece-short job p g)
