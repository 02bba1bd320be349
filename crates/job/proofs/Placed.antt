-- Where each character stands: in some line of the chain, at its piece's origin and its place in the word alone. The position lists are made piece by piece
-- like the lists of the characters' numbers, which `Tiles` shows to be 0, 1, ..
use Rattle.std.specs.Prelude.{◌≡◌, refl, Bool, true, false, List, [], ◌∷◌, ◌++◌, map, ℕ, zero, suc, ◌+◌, ◌-◌, ◌<◌, get_or}
use Rattle.std.proofs.Common.{sym, ap₂, ◌∙◌, subst, inl, inr, arith, zero-add, length-append, get_or-append-add}
use Rattle.std.proofs.Math.Path.{ap}
use Rattle.std.proofs.Math.Decide.{dec_lt}
use Rattle.std.proofs.Math.ListN.{length, get_or-append}
use Rattle.std.proofs.lemmas.List.{length-map}
use Rattle.basics.specs.Lists.{count, each, All}
use Rattle.basics.specs.Laws.{length-count}
use Rattle.word.specs.Given.{has_ruby}
use Rattle.word.specs.Both.{has_left}
use Rattle.readings.specs.Standing.{Standing, stand}
use Rattle.line.specs.declared.Side.{Side}
use Rattle.line.specs.declared.Side.TheVariants.{Right, Left}
use Rattle.door.specs.declared.Piece.{Piece}
use Rattle.door.specs.Job.{Job, base_count, given, gloss_of}
use Rattle.door.specs.Entries.{length-entries}
use Rattle.door.specs.Passed.{Passed}
use Rattle.job.specs.Line.{pieces, word_of, origins, along, first_of, many_of, count_of, on_side, alone, base_at, reading_at, base_in, reading_in, by_line}
use Rattle.job.proofs.Walk.{length-origins}
use Rattle.job.specs.Words.{GoodPiece}
use Rattle.job.proofs.Pieces.{good-pieces}
use Rattle.job.proofs.Tiles.{base-numbers, reading-numbers}
use Rattle.job.specs.Promise.{Filled, IsLine, nobody, Placed, BasePlaced, ReadingPlaced}

count_at : (a n k : ℕ) → k < n → get_or (count a n) k 0 ≡ a + k
count_at a zero k h = absurd (omega arith)
count_at a (suc n) zero h = omega arith
count_at a (suc n) (suc k) h = count_at (suc a) n k (omega arith) ∙ step a k
  where
    step : (a k : ℕ) → suc a + k ≡ a + suc k
    step a k = omega arith

map_at : (x : ℕ) (ys : List ℕ) (k : ℕ) → k < length ys → get_or (map (λ y. x + y) ys) k 0 ≡ x + get_or ys k 0
map_at x [] k h = absurd (omega arith)
map_at x (y ∷ ys) zero h = refl
map_at x (y ∷ ys) (suc k) h = map_at x ys k (omega arith)

-- Two lists that are made piece by piece alike: the numbers of a piece's characters, and where they stand.
module _ (first many : Piece → ℕ) (places : Piece → List ℕ) where
  abbrev at : Piece → ℕ → List ℕ
  at p x = map (λ y. x + y) (places p)

  -- an entry of both
  record Spot (ps : List Piece) (xs : List ℕ) (number position : ℕ) : Type 0 where
    pub piece : ℕ
    pub there : piece < length ps
    pub own : ℕ
    pub within : own < many (get_or ps piece nobody)
    pub is : number ≡ first (get_or ps piece nobody) + own
    pub stands : position ≡ get_or xs piece 0 + get_or (places (get_or ps piece nobody)) own 0

  abbrev Counted : Piece → Type 0
  Counted p = length (places p) ≡ many p

  abbrev numbers_of : List Piece → List ℕ
  numbers_of ps = each (λ p. count (first p) (many p)) ps

  along-length : (ps : List Piece) (xs : List ℕ) → length xs ≡ length ps → All Counted ps → length (along at ps xs) ≡ length (numbers_of ps)
  along-length [] xs h a = refl
  along-length (p ∷ ps) [] h a = absurd (omega arith)
  along-length (p ∷ ps) (x ∷ xs) h a =
      length-append (at p x) (along at ps xs)
      ∙ omega (arith, a.0, length-map (places p) (λ y. x + y), length-count (first p) (many p), along-length ps xs (omega arith) a.1, length-append (count (first p) (many p)) (numbers_of ps))

  spot : (ps : List Piece) (xs : List ℕ) → length xs ≡ length ps → All Counted ps → (k : ℕ) → k < length (numbers_of ps) → Spot ps xs (get_or (numbers_of ps) k 0) (get_or (along at ps xs) k 0)
  spot [] xs h a k l = absurd (omega arith)
  spot (p ∷ ps) [] h a k l = absurd (omega arith)
  spot (p ∷ ps) (x ∷ xs) h a k l =
      elim (dec_lt k (many p)) [
        | yes g ↦ record {
          piece = 0;
          there = omega arith;
          own = k;
          within = g;
          is = get_or-append (count (first p) (many p)) (numbers_of ps) 0 k (omega (arith, length-count (first p) (many p))) ∙ count_at (first p) (many p) k g;
          stands = get_or-append (at p x) (along at ps xs) 0 k (omega (arith, a.0, length-map (places p) (λ y. x + y))) ∙ map_at x (places p) k (omega (arith, a.0));
        }
        | no g ↦ next (back g) (spot ps xs (omega arith) a.1 (k - many p) (omega (arith, length-append (count (first p) (many p)) (numbers_of ps), length-count (first p) (many p))))
      ]
    where
      back : (k < many p → ⊥) → k ≡ many p + (k - many p)
      back g = omega arith

      next : k ≡ many p + (k - many p) → Spot ps xs (get_or (numbers_of ps) (k - many p) 0) (get_or (along at ps xs) (k - many p) 0) →
          Spot (p ∷ ps) (x ∷ xs) (get_or (count (first p) (many p) ++ numbers_of ps) k 0) (get_or (at p x ++ along at ps xs) k 0)
      next e q =
          record {
            piece = suc q.piece;
            there = omega (arith, q.there);
            own = q.own;
            within = q.within;
            is =
                ap (λ k. get_or (count (first p) (many p) ++ numbers_of ps) k 0) (e ∙ ap (λ m. m + (k - many p)) (sym (length-count (first p) (many p))))
                ∙ get_or-append-add (count (first p) (many p)) (numbers_of ps) (k - many p) 0
                ∙ q.is;
            stands =
                ap (λ k. get_or (at p x ++ along at ps xs) k 0) (e ∙ ap (λ m. m + (k - many p)) (sym (length-map (places p) (λ y. x + y) ∙ a.0)))
                ∙ get_or-append-add (at p x) (along at ps xs) (k - many p) 0
                ∙ q.stands;
          }

  -- and every such entry is found again
  record Entry (ns ps : List ℕ) (n p : ℕ) : Type 0 where
    pub at : ℕ
    pub there : at < length ns
    pub number : get_or ns at 0 ≡ n
    pub position : get_or ps at 0 ≡ p

  entry : (ps : List Piece) (xs : List ℕ) → length xs ≡ length ps → All Counted ps → (k own : ℕ) → k < length ps → own < many (get_or ps k nobody) →
      Entry (numbers_of ps) (along at ps xs) (first (get_or ps k nobody) + own) (get_or xs k 0 + get_or (places (get_or ps k nobody)) own 0)
  entry [] xs h a k own l u = absurd (omega arith)
  entry (p ∷ ps) [] h a k own l u = absurd (omega arith)
  entry (p ∷ ps) (x ∷ xs) h a zero own l u =
      record {
        at = own;
        there = omega (arith, length-append (count (first p) (many p)) (numbers_of ps), length-count (first p) (many p));
        number = get_or-append (count (first p) (many p)) (numbers_of ps) 0 own (omega (arith, length-count (first p) (many p))) ∙ count_at (first p) (many p) own u;
        position = get_or-append (at p x) (along at ps xs) 0 own (omega (arith, a.0, length-map (places p) (λ y. x + y))) ∙ map_at x (places p) own (omega (arith, a.0));
      }
  entry (p ∷ ps) (x ∷ xs) h a (suc k) own l u = next (entry ps xs (omega arith) a.1 k own (omega arith) u)
    where
      next : Entry (numbers_of ps) (along at ps xs) (first (get_or ps k nobody) + own) (get_or xs k 0 + get_or (places (get_or ps k nobody)) own 0) →
          Entry (count (first p) (many p) ++ numbers_of ps) (at p x ++ along at ps xs) (first (get_or ps k nobody) + own) (get_or xs k 0 + get_or (places (get_or ps k nobody)) own 0)
      next q =
          record {
            at = many p + q.at;
            there = omega (arith, q.there, length-append (count (first p) (many p)) (numbers_of ps), length-count (first p) (many p));
            number =
                ap (λ m. get_or (count (first p) (many p) ++ numbers_of ps) (m + q.at) 0) (sym (length-count (first p) (many p)))
                ∙ get_or-append-add (count (first p) (many p)) (numbers_of ps) q.at 0
                ∙ q.number;
            position =
                ap (λ m. get_or (at p x ++ along at ps xs) (m + q.at) 0) (sym (length-map (places p) (λ y. x + y) ∙ a.0)) ∙ get_or-append-add (at p x) (along at ps xs) q.at 0 ∙ q.position;
          }

  -- and line by line
  module _ (job : Job) (counted : (s e : ℕ) → All Counted (pieces job s e)) where
    abbrev numbers : ℕ → ℕ → List ℕ
    numbers s e = numbers_of (pieces job s e)

    abbrev positions : ℕ → ℕ → List ℕ
    positions s e = along at (pieces job s e) (origins job s e)

    record InLine (s : ℕ) (es : List ℕ) (number position : ℕ) : Type 0 where
      pub from : ℕ
      pub upto : ℕ
      pub line : IsLine s es from upto
      pub spot : Spot (pieces job from upto) (origins job from upto) number position

    as_long : (s e : ℕ) → length (positions s e) ≡ length (numbers s e)
    as_long s e = along-length (pieces job s e) (origins job s e) (length-origins job s e) (counted s e)

    pub lines_long : (s : ℕ) (es : List ℕ) → length (by_line positions s es) ≡ length (by_line numbers s es)
    lines_long s [] = refl
    lines_long s (e ∷ es) =
        length-append (positions s e) (by_line positions e es) ∙ ap₂ (λ a b. a + b) (as_long s e) (lines_long e es) ∙ sym (length-append (numbers s e) (by_line numbers e es))

    in_line_lem : (s : ℕ) (es : List ℕ) (k : ℕ) → k < length (by_line numbers s es) → InLine s es (get_or (by_line numbers s es) k 0) (get_or (by_line positions s es) k 0)
    in_line_lem s [] k h = absurd (omega arith)
    in_line_lem s (e ∷ es) k h =
        elim (dec_lt k (length (numbers s e))) [
          | yes g ↦ record { from = s; upto = e; line = inl (refl, refl); spot = here g (spot (pieces job s e) (origins job s e) (length-origins job s e) (counted s e) k g) }
          | no g ↦ next (back g) (in_line_lem e es (k - length (numbers s e)) (omega (arith, length-append (numbers s e) (by_line numbers e es))))
        ]
      where
        back : (k < length (numbers s e) → ⊥) → k ≡ length (numbers s e) + (k - length (numbers s e))
        back g = omega arith

        here : k < length (numbers s e) → Spot (pieces job s e) (origins job s e) (get_or (numbers s e) k 0) (get_or (positions s e) k 0) →
            Spot (pieces job s e) (origins job s e) (get_or (numbers s e ++ by_line numbers e es) k 0) (get_or (positions s e ++ by_line positions e es) k 0)
        here g q =
            record {
              piece = q.piece;
              there = q.there;
              own = q.own;
              within = q.within;
              is = get_or-append (numbers s e) (by_line numbers e es) 0 k g ∙ q.is;
              stands = get_or-append (positions s e) (by_line positions e es) 0 k (omega (arith, as_long s e)) ∙ q.stands;
            }

        next : k ≡ length (numbers s e) + (k - length (numbers s e)) →
            InLine e es (get_or (by_line numbers e es) (k - length (numbers s e)) 0) (get_or (by_line positions e es) (k - length (numbers s e)) 0) →
            InLine s (e ∷ es) (get_or (numbers s e ++ by_line numbers e es) k 0) (get_or (positions s e ++ by_line positions e es) k 0)
        next b q =
            record {
              from = q.from;
              upto = q.upto;
              line = inr q.line;
              spot =
                  record {
                    piece = q.spot.piece;
                    there = q.spot.there;
                    own = q.spot.own;
                    within = q.spot.within;
                    is = ap (λ k. get_or (numbers s e ++ by_line numbers e es) k 0) b ∙ get_or-append-add (numbers s e) (by_line numbers e es) (k - length (numbers s e)) 0 ∙ q.spot.is;
                    stands =
                        ap (λ k. get_or (positions s e ++ by_line positions e es) k 0) (b ∙ ap (λ m. m + (k - length (numbers s e))) (sym (as_long s e)))
                        ∙ get_or-append-add (positions s e) (by_line positions e es) (k - length (numbers s e)) 0
                        ∙ q.spot.stands;
                  };
            }

    -- where the numbers are 0, 1, ..
    pub placed : (n : ℕ) (es : List ℕ) → by_line numbers 0 es ≡ count 0 n → (i : ℕ) → i < n → Placed first many places job es i (get_or (by_line positions 0 es) i 0)
    placed n es all i h = go (in_line_lem 0 es i (omega (arith, ap length all, length-count 0 n)))
      where
        number : get_or (by_line numbers 0 es) i 0 ≡ i
        number = ap (λ xs. get_or xs i 0) all ∙ count_at 0 n i h ∙ zero-add i

        go : InLine 0 es (get_or (by_line numbers 0 es) i 0) (get_or (by_line positions 0 es) i 0) → Placed first many places job es i (get_or (by_line positions 0 es) i 0)
        go q =
            record {
              from = q.from;
              upto = q.upto;
              line = q.line;
              piece = q.spot.piece;
              there = q.spot.there;
              own = q.spot.own;
              within = q.spot.within;
              is = sym number ∙ q.spot.is;
              stands = q.spot.stands;
            }

    -- and there is no other place for character i
    in_lines : (s : ℕ) (es : List ℕ) (a b number position : ℕ) → IsLine s es a b → Entry (numbers a b) (positions a b) number position → Entry (by_line numbers s es) (by_line positions s es) number position
    in_lines s [] a b number position l q = absurd l
    in_lines s (e ∷ es) a b number position (inl l) q =
        here (subst (λ a. Entry (numbers a e) (positions a e) number position) l.0 (subst (λ b. Entry (numbers a b) (positions a b) number position) l.1 q))
      where
        here : Entry (numbers s e) (positions s e) number position → Entry (numbers s e ++ by_line numbers e es) (positions s e ++ by_line positions e es) number position
        here q =
            record {
              at = q.at;
              there = omega (arith, q.there, length-append (numbers s e) (by_line numbers e es));
              number = get_or-append (numbers s e) (by_line numbers e es) 0 q.at q.there ∙ q.number;
              position = get_or-append (positions s e) (by_line positions e es) 0 q.at (omega (arith, q.there, as_long s e)) ∙ q.position;
            }
    in_lines s (e ∷ es) a b number position (inr l) q = next (in_lines e es a b number position l q)
      where
        next : Entry (by_line numbers e es) (by_line positions e es) number position → Entry (numbers s e ++ by_line numbers e es) (positions s e ++ by_line positions e es) number position
        next q =
            record {
              at = length (numbers s e) + q.at;
              there = omega (arith, q.there, length-append (numbers s e) (by_line numbers e es));
              number = get_or-append-add (numbers s e) (by_line numbers e es) q.at 0 ∙ q.number;
              position = ap (λ m. get_or (positions s e ++ by_line positions e es) (m + q.at) 0) (sym (as_long s e)) ∙ get_or-append-add (positions s e) (by_line positions e es) q.at 0 ∙ q.position;
            }

    pub placed-once : (n : ℕ) (es : List ℕ) → by_line numbers 0 es ≡ count 0 n → (i position : ℕ) → Placed first many places job es i position → position ≡ get_or (by_line positions 0 es) i 0
    placed-once n es all i position q =
        go (in_lines 0 es q.from q.upto _ _ q.line
        (entry (pieces job q.from q.upto) (origins job q.from q.upto) (length-origins job q.from q.upto) (counted q.from q.upto) q.piece q.own q.there q.within))
      where
        p : Piece
        p = get_or (pieces job q.from q.upto) q.piece nobody

        go : Entry (by_line numbers 0 es) (by_line positions 0 es) (first p + q.own) (get_or (origins job q.from q.upto) q.piece 0 + get_or (places p) q.own 0) → position ≡ get_or (by_line positions 0 es) i 0
        go k =
            let h : k.at < n = omega (arith, k.there, ap length all, length-count 0 n) in
            let e : k.at ≡ i = sym (ap (λ xs. get_or xs k.at 0) all ∙ count_at 0 n k.at h ∙ zero-add k.at) ∙ k.number ∙ sym q.is in
            q.stands ∙ sym k.position ∙ ap (λ m. get_or (by_line positions 0 es) m 0) e

-- Base characters, and those of either side.

pub stands : (job : Job) (p : Piece) → GoodPiece job p → Standing p.form (given job p) (gloss_of job p) (word_of job p)
stands job p g = stand p.form 0 (given job p) (gloss_of job p) (word_of job p) (g.set 0) g.ready

pub base-counted : (job : Job) (p : Piece) → GoodPiece job p → length (alone job p).base ≡ p.bases
base-counted job p g = (stands job p g).base.count ∙ length-entries job.width p.base p.bases

pub reading-counted : (side : Side) (job : Job) (p : Piece) → GoodPiece job p → length (on_side side (alone job p)) ≡ many_of side p
reading-counted Right job p g = go (has_ruby p.form) refl
  where
    rubies : length (given job p).ruby_width ≡ p.rubies
    rubies = length-entries job.ruby_width p.ruby p.rubies

    go : (t : Bool) → has_ruby p.form ≡ t → length (alone job p).right ≡ p.rubies
    go true e = ((stands job p g).right e).count ∙ rubies
    go false e = ap length ((stands job p g).no_right e) ∙ sym (ap length (g.ready.plain e)) ∙ rubies
reading-counted Left job p g = go (has_left p.gloss) refl
  where
    lefts : length (gloss_of job p).width ≡ p.lefts
    lefts = length-entries job.left_width p.left p.lefts

    go : (t : Bool) → has_left p.gloss ≡ t → length (alone job p).left ≡ p.lefts
    go true e = ((stands job p g).left e).count ∙ lefts
    go false e = ap length ((stands job p g).no_left e) ∙ sym (ap length (g.ready.left.none e)) ∙ lefts

all-base : (job : Job) (ps : List Piece) → All (GoodPiece job) ps → All (λ p. length (alone job p).base ≡ p.bases) ps
all-base job [] a = tt
all-base job (p ∷ ps) a = (base-counted job p a.0, all-base job ps a.1)

all-readings : (side : Side) (job : Job) (ps : List Piece) → All (GoodPiece job) ps → All (λ p. length (on_side side (alone job p)) ≡ many_of side p) ps
all-readings side job [] a = tt
all-readings side job (p ∷ ps) a = (reading-counted side job p a.0, all-readings side job ps a.1)

module _ (job : Job) (passed : Passed job) (es : List ℕ) (fill : Filled job es) where
  bases : (s e : ℕ) → All (λ p. length (alone job p).base ≡ p.bases) (pieces job s e)
  bases s e = all-base job (pieces job s e) (good-pieces job passed s e)

  pub base-placed : (i : ℕ) → i < base_count job → BasePlaced job es i (get_or (by_line (base_in job) 0 es) i 0)
  unfolding base_in base_at
  base-placed = placed (λ p. p.base) (λ p. p.bases) (λ p. (alone job p).base) job bases (base_count job) es (base-numbers job passed es fill)

  pub base-once : (i position : ℕ) → BasePlaced job es i position → position ≡ get_or (by_line (base_in job) 0 es) i 0
  unfolding base_in base_at
  base-once = placed-once (λ p. p.base) (λ p. p.bases) (λ p. (alone job p).base) job bases (base_count job) es (base-numbers job passed es fill)

  -- the list has a position for each character, and no more
  pub base-long : length (by_line (base_in job) 0 es) ≡ base_count job
  unfolding base_in base_at
  base-long =
      lines_long (λ p. p.base) (λ p. p.bases) (λ p. (alone job p).base) job bases 0 es ∙ ap length (base-numbers job passed es fill) ∙ length-count 0 (base_count job)

  module _ (side : Side) where
    readings : (s e : ℕ) → All (λ p. length (on_side side (alone job p)) ≡ many_of side p) (pieces job s e)
    readings s e = all-readings side job (pieces job s e) (good-pieces job passed s e)

    pub reading-placed : (i : ℕ) → i < count_of side job → ReadingPlaced side job es i (get_or (by_line (reading_in side job) 0 es) i 0)
    unfolding reading_in reading_at
    reading-placed = placed (first_of side) (many_of side) (λ p. on_side side (alone job p)) job readings (count_of side job) es (reading-numbers job passed side es fill)

    pub reading-once : (i position : ℕ) → ReadingPlaced side job es i position → position ≡ get_or (by_line (reading_in side job) 0 es) i 0
    unfolding reading_in reading_at
    reading-once = placed-once (first_of side) (many_of side) (λ p. on_side side (alone job p)) job readings (count_of side job) es (reading-numbers job passed side es fill)

    pub reading-long : length (by_line (reading_in side job) 0 es) ≡ count_of side job
    unfolding reading_in reading_at
    reading-long =
        lines_long (first_of side) (many_of side) (λ p. on_side side (alone job p)) job readings 0 es ∙ ap length (reading-numbers job passed side es fill) ∙ length-count 0 (count_of side job)
