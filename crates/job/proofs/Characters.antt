-- Every reading stands clear of its neighbours (`Clear` has the words): the theorem is `every-line` at the end. A piece's characters lie within the block and
-- the readings that the line sees of it, and the line's setting keeps the four rules (`lines-stand`).
use Rattle.std.specs.Prelude.{◌≡◌, refl, Bool, true, false, cond, List, ◌∷◌, ◌⊎◌, ℕ, suc, ◌+◌, ◌-◌, ◌*◌, ◌≤◌, ◌<◌, eqb, length, get_or, drop}
use Rattle.std.proofs.Common.{sym, ap, ◌∙◌, subst, inl, inr, arith, eqb-true}
use Rattle.std.proofs.Math.Decide.{dec_lt}
use Rattle.std.proofs.Math.ListN.{get_or-append}
use Rattle.word.specs.declared.Form.TheVariants.{P}
use Rattle.readings.specs.Standing.{between}
use Rattle.line.specs.declared.Element.{Element}
use Rattle.line.specs.declared.Side.{Side}
use Rattle.line.specs.Rules.{el, org, block_at, ruby_at, HasRuby, Sounds}
use Rattle.line.proofs.Pairs as pairs
use Rattle.door.specs.declared.Piece.{Piece}
use Rattle.door.specs.Job.{Job, base_count, given}
use Rattle.door.specs.Entries.{length-entries}
use Rattle.door.specs.Passed.{Passed}
use Rattle.job.specs.declared.Answer.TheVariants.{Set}
use Rattle.job.specs.Line.{pieces, on_p, line_of, origins, ends, first_of, many_of, widths_of, count_of, has_reading, widths_in, on_side, alone}
use Rattle.job.specs.Outcome.{readings, over}
use Rattle.job.specs.Words.{GoodPiece}
use Rattle.job.proofs.Pieces.{good-pieces}
use Rattle.job.proofs.Sound.{sounds}
use Rattle.job.specs.Promise.{IsLine, piece_of, Stands, BasePlaced}
use Rattle.job.specs.Clear.{Of, BaseOf, ReadingOf, start, end, on_start, on_end, StandsClear}
use Rattle.job.proofs.Stretches.{entry_of, base-stands, reading-stands, some_of, has_reading_lem, flagged, before-is, after_is, el-seen, length-line, nth_line, nth_of, on_p_lem}
use Rattle.job.proofs.Tiles.{reading-numbers}
use Rattle.job.proofs.Belong as belong
use Rattle.job.specs.Once as once
use Rattle.job.specs.Demands as demands
use Rattle.job.proofs.Demands as demands_proofs
use Rattle.job.specs.Characters as characters

-- Pieces in order: a later character is of the same piece or of a later one, and no character is of two.

neither : {a b : ℕ} → (a < b → ⊥) → (b < a → ⊥) → a ≡ b
neither u v = omega arith

abbrev InOrder : (Piece → ℕ) → (Piece → ℕ) → Job → ℕ → ℕ → Type 0
InOrder first many job s e = (k m : ℕ) → k < m → m < length (pieces job s e) → first (piece_of job s e k) + many (piece_of job s e k) ≤ first (piece_of job s e m)

module _ (first many : Piece → ℕ) (job : Job) (s e : ℕ) (sorted : InOrder first many job s e) where
  by-piece : (Q : Type 0) (k m i j : ℕ) → Of first many job s e k i → Of first many job s e m j → i < j → (k < m → Q) → (Of first many job s e m i → Q) → Q
  by-piece Q k m i j b c h other own =
      elim (dec_lt k m) [
        | yes u ↦ other u
        | no u ↦ elim (dec_lt m k) [
          | yes v ↦ absurd (omega (arith, b.low, c.high, sorted m k v b.there))
          | no v ↦ own (subst (λ (z : ℕ). Of first many job s e z i) (neither u v) b)
        ]
      ]

  one_piece : (k m i : ℕ) → Of first many job s e k i → Of first many job s e m i → k ≡ m
  one_piece k m i b c =
      elim (dec_lt k m) [
        | yes u ↦ absurd (omega (arith, b.high, c.low, sorted k m u c.there))
        | no u ↦ elim (dec_lt m k) [
          | yes v ↦ absurd (omega (arith, c.high, b.low, sorted m k v b.there))
          | no v ↦ neither u v
        ]
      ]

module _ (job : Job) (base ruby left line : List ℕ) (ok : demands.Accepted job base ruby left line) where
  abbrev base_start : ℕ → ℕ
  base_start i = start (demands.result job base ruby left line).base i

  abbrev base_end : ℕ → ℕ
  base_end i = end (demands.result job base ruby left line).base job.width i

  abbrev reading_start : Side → ℕ → ℕ
  reading_start side i = start (readings (demands.result job base ruby left line) side) i

  abbrev reading_end : Side → ℕ → ℕ
  reading_end side i = end (readings (demands.result job base ruby left line) side) (widths_of side job) i

  passed : Passed job
  passed = demands_proofs.good job base ruby left line ok

  module _ (s e : ℕ) (l : IsLine 0 (ends job) s e) where
    pub piece-good : (k : ℕ) → k < length (pieces job s e) → GoodPiece job (piece_of job s e k)
    piece-good = belong.all-at (GoodPiece job) (pieces job s e) (good-pieces job passed s e)

    -- Where a piece's characters stand.

    base_at : (k i : ℕ) → BaseOf job s e k i →
        base_start i ≡ org (origins job s e) k + get_or (alone job (piece_of job s e k)).base (i - (piece_of job s e k).base) 0
    base_at k i b =
        let g = piece-good k b.there in
        sym (demands_proofs.base-only job base ruby left line ok i (omega (arith, b.high, g.inside)) _
        (record { from = s; upto = e; line = l; piece = k; there = b.there; own = i - (piece_of job s e k).base; within = omega (arith, b.low, b.high); is = omega (arith, b.low); stands = refl }))

    reading_at : (side : Side) (k i : ℕ) → ReadingOf side job s e k i → let p = piece_of job s e k in
        reading_start side i ≡ org (origins job s e) k + get_or (on_side side (alone job p)) (i - first_of side p) 0
    reading_at side k i b =
        let g = piece-good k b.there in
        sym (demands_proofs.reading-only job base ruby left line ok side i (omega (arith, b.high, g.reads side)) _
        (record { from = s; upto = e; line = l; piece = k; there = b.there; own = i - first_of side (piece_of job s e k); within = omega (arith, b.low, b.high); is = omega (arith, b.low); stands = refl }))

    -- character i of piece k itself
    own : (a i : ℕ) → a + i - a ≡ i
    own a i = omega arith

    pub base-own : (k i : ℕ) → k < length (pieces job s e) → i < (piece_of job s e k).bases → let p = piece_of job s e k in
        base_start (p.base + i) ≡ org (origins job s e) k + get_or (alone job p).base i 0
    base-own k i h m =
        let p = piece_of job s e k in
        base_at k (p.base + i) (record { there = h; low = omega arith; high = omega arith })
        ∙ ap (λ n. org (origins job s e) k + get_or (alone job p).base n 0) (own p.base i)

    pub reading-own : (side : Side) (k i : ℕ) → k < length (pieces job s e) → i < many_of side (piece_of job s e k) → let p = piece_of job s e k in
        reading_start side (first_of side p + i) ≡ org (origins job s e) k + get_or (on_side side (alone job p)) i 0
    reading-own side k i h m =
        let p = piece_of job s e k in
        reading_at side k (first_of side p + i) (record { there = h; low = omega arith; high = omega arith })
        ∙ ap (λ n. org (origins job s e) k + get_or (on_side side (alone job p)) n 0) (own (first_of side p) i)

    base-width : (k i : ℕ) → BaseOf job s e k i → get_or (given job (piece_of job s e k)).width (i - (piece_of job s e k).base) 0 ≡ get_or job.width i 0
    base-width k i b = entry_of job.width (piece_of job s e k).base (piece_of job s e k).bases i b.low b.high

    reading-width : (side : Side) (k i : ℕ) → ReadingOf side job s e k i → let p = piece_of job s e k in get_or (widths_in side job p) (i - first_of side p) 0 ≡ get_or (widths_of side job) i 0
    reading-width side k i b = entry_of (widths_of side job) (first_of side (piece_of job s e k)) (many_of side (piece_of job s e k)) i b.low b.high

    reads : (side : Side) (k i : ℕ) → ReadingOf side job s e k i → has_reading side (piece_of job s e k) ≡ true
    reads side k i b = has_reading_lem job (piece_of job s e k) (piece-good k b.there) side (omega (arith, b.low, b.high))

    abbrev es : List Element
    es = line_of job s e

    abbrev xs : List ℕ
    xs = origins job s e

    in_block : (k i : ℕ) → BaseOf job s e k i → ((block_at es xs k).start ≤ base_start i) × (base_end i ≤ (block_at es xs k).end)
    in_block k i b =
        let p = piece_of job s e k in
        let w = rw (← el-seen job s e k b.there) at (between (base-stands job p (piece-good k b.there))) in
        let n : i - p.base < length (given job p).width = omega (arith, b.low, b.high, length-entries job.width p.base p.bases) in
        (omega (arith, base_at k i b, w.low (i - p.base) n), omega (arith, base_at k i b, base-width k i b, w.high (i - p.base) n))

    in_reading : (side : Side) (k i : ℕ) → ReadingOf side job s e k i → ((ruby_at side es xs k).start ≤ reading_start side i) × (reading_end side i ≤ (ruby_at side es xs k).end)
    in_reading side k i b =
        let p = piece_of job s e k in
        let w = rw (← el-seen job s e k b.there) at (between (reading-stands job p (piece-good k b.there) side (reads side k i b))) in
        let n : i - first_of side p < length (widths_in side job p) = omega (arith, b.low, b.high, length-entries (widths_of side job) (first_of side p) (many_of side p)) in
        (omega (arith, reading_at side k i b, w.low (i - first_of side p) n), omega (arith, reading_at side k i b, reading-width side k i b, w.high (i - first_of side p) n))

    flag : (side : Side) (k i : ℕ) → ReadingOf side job s e k i → HasRuby side (el es k)
    flag side k i b = rw (el-seen job s e k b.there) (flagged job (piece_of job s e k) (piece-good k b.there) side (reads side k i b))

    -- The blocks and rubies of which demand 3 speaks are the characters' own.

    pub block-is : (k : ℕ) → k < length (pieces job s e) → let p = piece_of job s e k in
        ((block_at es xs k).start ≡ base_start p.base) × ((block_at es xs k).end ≡ base_end (p.base + (p.bases - 1)))
    block-is k h =
        let g = piece-good k h in
        let w = rw (← el-seen job s e k h) at (base-stands job p g).spans in
        let n = length-entries job.width p.base p.bases in
        let b : BaseOf job s e k p.base = record { there = h; low = omega arith; high = omega (arith, g.some) } in
        let c : BaseOf job s e k (p.base + (p.bases - 1)) = record { there = h; low = omega arith; high = omega (arith, g.some) } in
        let i : p.base - p.base ≡ 0 = omega arith in
        let j : p.base + (p.bases - 1) - p.base ≡ length (given job p).width - 1 = omega arith in (
          omega (arith, base_at k p.base b, w.first, ap (λ m. get_or (alone job p).base m 0) i),
          omega (
            arith,
            base_at k (p.base + (p.bases - 1)) c,
            base-width k (p.base + (p.bases - 1)) c,
            w.last,
            ap (λ m. get_or (alone job p).base m 0) j,
            ap (λ m. get_or (given job p).width m 0) j,
          ),
        )
      where
        p : Piece
        p = piece_of job s e k

    pub reading-is : (side : Side) (k : ℕ) → k < length (pieces job s e) → has_reading side (piece_of job s e k) ≡ true → let p = piece_of job s e k in
        ((ruby_at side es xs k).start ≡ reading_start side (first_of side p)) × ((ruby_at side es xs k).end ≡ reading_end side (first_of side p + (many_of side p - 1)))
    reading-is side k h r =
        let g = piece-good k h in
        let w = rw (← el-seen job s e k h) at (reading-stands job p g side r).spans in
        let n = length-entries (widths_of side job) (first_of side p) (many_of side p) in
        let some : 0 < many_of side p = some_of job p g side r in
        let b : ReadingOf side job s e k (first_of side p) = record { there = h; low = omega arith; high = omega arith } in
        let c : ReadingOf side job s e k (first_of side p + (many_of side p - 1)) = record { there = h; low = omega arith; high = omega arith } in
        let i : first_of side p - first_of side p ≡ 0 = omega arith in
        let j : first_of side p + (many_of side p - 1) - first_of side p ≡ length (widths_in side job p) - 1 = omega arith in (
          omega (arith, reading_at side k (first_of side p) b, w.first, ap (λ m. get_or (on_side side (alone job p)) m 0) i),
          omega (
            arith,
            reading_at side k (first_of side p + (many_of side p - 1)) c,
            reading-width side k (first_of side p + (many_of side p - 1)) c,
            w.last,
            ap (λ m. get_or (on_side side (alone job p)) m 0) j,
            ap (λ m. get_or (widths_in side job p) m 0) j,
          ),
        )
      where
        p : Piece
        p = piece_of job s e k

    -- The line's setting keeps the rules.

    stands : Stands job s e xs
    stands = demands_proofs.lines-stand job base ruby left line ok s e l

    sound : Sounds es
    sound = sounds job passed s e

    in_line_lem : (k : ℕ) → k < length (pieces job s e) → k < length es
    in_line_lem k h = omega (arith, length-line job s e)

    -- The line's base characters are those from s up to e.

    pub base_of : (i : ℕ) → s ≤ i → i < e → (k : ℕ) × BaseOf job s e k i
    base_of i h m = (q.piece, move same.0 same.1 (record { there = q.there; low = omega (arith, q.is); high = omega (arith, q.is, q.within) }))
      where
        q : BasePlaced job (ends job) i (base_start i)
        q = demands_proofs.base-placed job base ruby left line ok i (omega (arith, (belong.line_after job 0 (base_count job) (ends job) (demands_proofs.lines-filled job base ruby left line ok) s e l).2))

        inside : belong.Between q.from q.upto (piece_of job q.from q.upto q.piece)
        inside =
            belong.all-at (belong.Between q.from q.upto) (pieces job q.from q.upto)
            (belong.between job passed (base_count job) (ends job) (demands_proofs.lines-filled job base ruby left line ok) q.from q.upto q.line) q.piece q.there

        same : (q.from ≡ s) × (q.upto ≡ e)
        same =
            belong.line-once job 0 (base_count job) (ends job) (demands_proofs.lines-filled job base ruby left line ok) q.from q.upto s e i q.line l
            (omega (arith, inside.0, q.is)) (omega (arith, inside.1, q.is, q.within)) h m

        move : q.from ≡ s → q.upto ≡ e → BaseOf job q.from q.upto q.piece i → BaseOf job s e q.piece i
        move a b o = subst (λ (z : ℕ). BaseOf job z e q.piece i) a (subst (λ (z : ℕ). BaseOf job q.from z q.piece i) b o)

    pub base_in : (k i : ℕ) → BaseOf job s e k i → (s ≤ i) × (i < e)
    base_in k i b =
        let w = belong.all-at (belong.Between s e) (pieces job s e) (belong.between job passed (base_count job) (ends job) (demands_proofs.lines-filled job base ruby left line ok) s e l) k b.there in
        (omega (arith, w.0, b.low), omega (arith, w.1, b.high))

    -- Two characters of one string, and of two pieces.

    follow-base : (k i j : ℕ) → BaseOf job s e k i → BaseOf job s e k j → i < j → base_end i ≤ base_start j
    follow-base k i j b c h =
        let p = piece_of job s e k in
        let n = length-entries job.width p.base p.bases in
        omega (
          arith,
          base_at k i b,
          base_at k j c,
          base-width k i b,
          (base-stands job p (piece-good k b.there)).rises (i - p.base) (j - p.base) (omega (arith, b.low)) (omega (arith, c.low, c.high)),
        )

    follow-reading : (side : Side) (k i j : ℕ) → ReadingOf side job s e k i → ReadingOf side job s e k j → i < j → reading_end side i ≤ reading_start side j
    follow-reading side k i j b c h =
        let p = piece_of job s e k in
        let n = length-entries (widths_of side job) (first_of side p) (many_of side p) in
        omega (
          arith,
          reading_at side k i b,
          reading_at side k j c,
          reading-width side k i b,
          (reading-stands job p (piece-good k b.there) side (reads side k i b)).rises (i - first_of side p) (j - first_of side p) (omega (arith, b.low)) (omega (arith, c.low, c.high)),
        )

    other-base : (k m i j : ℕ) → BaseOf job s e k i → BaseOf job s e m j → k < m → base_end i ≤ base_start j
    other-base k m i j b c h =
        omega (arith, (in_block k i b).1, (in_block m j c).0, pairs.blocks-order es xs sound stands.clear.apart k m h (in_line_lem m c.there))

    other-reading : (side : Side) (k m i j : ℕ) → ReadingOf side job s e k i → ReadingOf side job s e m j → k < m → reading_end side i ≤ reading_start side j
    other-reading side k m i j b c h =
        omega (
          arith,
          (in_reading side k i b).1,
          (in_reading side m j c).0,
          pairs.rubies-order es xs sound stands.clear.apart k m h (in_line_lem m c.there) side (flag side k i b) (flag side m j c),
        )

    -- Any two of the line.

    base-follows : (i j : ℕ) → s ≤ i → i < j → j < e → base_end i ≤ base_start j
    base-follows i j h m n = go (base_of i h (omega arith)) (base_of j (omega arith) n)
      where
        go : (k : ℕ) × BaseOf job s e k i → (k : ℕ) × BaseOf job s e k j → base_end i ≤ base_start j
        go (k, b) (q, c) =
            by-piece (λ p. p.base) (λ p. p.bases) job s e (belong.bases-sorted job passed s e) (base_end i ≤ base_start j) k q i j b c m (other-base k q i j b c) (λ d. follow-base q i j d c m)

    reading-follows : (side : Side) (k q i j : ℕ) → ReadingOf side job s e k i → ReadingOf side job s e q j → i < j → reading_end side i ≤ reading_start side j
    reading-follows side k q i j b c m =
        by-piece (first_of side) (many_of side) job s e (belong.readings-sorted job passed side s e) (reading_end side i ≤ reading_start side j) k q i j b c m (other-reading side k q i j b c)
        (λ d. follow-reading side q i j d c m)

    reading-ahead : (side : Side) (k q i j : ℕ) → ReadingOf side job s e k i → BaseOf job s e q j → k < q →
        (reading_end side i ≤ base_start j) ⊎ ((q ≡ suc k) × ((piece_of job s e q).form ≡ P) × (reading_end side i ≤ base_start j + on_start job j))
    reading-ahead side k q i j b c h = go (eqb q (suc k)) refl (pairs.ruby-ahead es xs sound stands.clear.apart k q h (in_line_lem q c.there) side (flag side k i b))
      where
        p : Piece
        p = piece_of job s e q

        depth : (el es q).before ≡ on_p p.form (on_start job p.base)
        depth = ap (λ (x : Element). x.before) (el-seen job s e q c.there) ∙ before-is job p (piece-good q c.there)

        at : p.form ≡ P → p.base ≡ j
        at f = omega (arith, belong.all-at _ (pieces job s e) (belong.singles job s e) q c.there f, c.low, c.high)

        go : (t : Bool) → eqb q (suc k) ≡ t → (ruby_at side es xs k).end ≤ (block_at es xs q).start + cond t (el es q).before 0 →
            (reading_end side i ≤ base_start j) ⊎ ((q ≡ suc k) × ((piece_of job s e q).form ≡ P) × (reading_end side i ≤ base_start j + on_start job j))
        go false t m = inl (omega (arith, (in_reading side k i b).1, (in_block q j c).0))
        go true t m = by (on_p_lem p.form (on_start job p.base))
          where
            by : (on_p p.form (on_start job p.base) ≡ 0) ⊎ ((p.form ≡ P) × (on_p p.form (on_start job p.base) ≡ on_start job p.base)) →
                (reading_end side i ≤ base_start j) ⊎ ((q ≡ suc k) × ((piece_of job s e q).form ≡ P) × (reading_end side i ≤ base_start j + on_start job j))
            by (inl z) = inl (omega (arith, (in_reading side k i b).1, (in_block q j c).0, depth, z))
            by (inr (f, z)) = inr (eqb-true q (suc k) t, f, omega (arith, (in_reading side k i b).1, (in_block q j c).0, depth, z, ap (on_start job) (at f)))

    reading-behind : (side : Side) (k q i j : ℕ) → ReadingOf side job s e k i → BaseOf job s e q j → q < k →
        (base_end j ≤ reading_start side i) ⊎ ((k ≡ suc q) × ((piece_of job s e q).form ≡ P) × (base_end j ≤ reading_start side i + on_end job j))
    reading-behind side k q i j b c h = go (eqb k (suc q)) refl (pairs.ruby-behind es xs sound stands.clear.apart q k h (in_line_lem k b.there) side (flag side k i b))
      where
        p : Piece
        p = piece_of job s e q

        depth : (el es q).after ≡ on_p p.form (on_end job p.base)
        depth = ap (λ (x : Element). x.after) (el-seen job s e q c.there) ∙ after_is job p (piece-good q c.there)

        at : p.form ≡ P → p.base ≡ j
        at f = omega (arith, belong.all-at _ (pieces job s e) (belong.singles job s e) q c.there f, c.low, c.high)

        go : (t : Bool) → eqb k (suc q) ≡ t → (block_at es xs q).end ≤ (ruby_at side es xs k).start + cond t (el es q).after 0 →
            (base_end j ≤ reading_start side i) ⊎ ((k ≡ suc q) × ((piece_of job s e q).form ≡ P) × (base_end j ≤ reading_start side i + on_end job j))
        go false t m = inl (omega (arith, (in_reading side k i b).0, (in_block q j c).1))
        go true t m = by (on_p_lem p.form (on_end job p.base))
          where
            by : (on_p p.form (on_end job p.base) ≡ 0) ⊎ ((p.form ≡ P) × (on_p p.form (on_end job p.base) ≡ on_end job p.base)) →
                (base_end j ≤ reading_start side i) ⊎ ((k ≡ suc q) × ((piece_of job s e q).form ≡ P) × (base_end j ≤ reading_start side i + on_end job j))
            by (inl z) = inl (omega (arith, (in_reading side k i b).0, (in_block q j c).1, depth, z))
            by (inr (f, z)) = inr (eqb-true k (suc q) t, f, omega (arith, (in_reading side k i b).0, (in_block q j c).1, depth, z, ap (on_end job) (at f)))

    base-within : (i : ℕ) → s ≤ i → i < e → base_end i ≤ 2 * job.measure
    base-within i h m = go (base_of i h m)
      where
        go : (k : ℕ) × BaseOf job s e k i → base_end i ≤ 2 * job.measure
        go (k, b) = omega (arith, (in_block k i b).1, (stands.clear.fit.blocks k (in_line_lem k b.there)).1)

    reading-within : (side : Side) (k i : ℕ) → ReadingOf side job s e k i → reading_end side i ≤ 2 * job.measure
    reading-within side k i b = omega (arith, (in_reading side k i b).1, (stands.clear.fit.rubies side k (in_line_lem k b.there) (flag side k i b)).1)

    pub line_clear : StandsClear job (demands.result job base ruby left line).base (readings (demands.result job base ruby left line)) s e
    line_clear =
        record { bases = base-follows; readings = reading-follows; ahead = reading-ahead; behind = reading-behind; bases_fit = base-within; readings_fit = reading-within }

  -- Every character of either side is one of a line, and a character is in one piece of one line only.

  pub reading_of : (side : Side) (i : ℕ) → i < count_of side job → (s e k : ℕ) × IsLine 0 (ends job) s e × ReadingOf side job s e k i
  reading_of side i h =
      let q = demands_proofs.reading-placed job base ruby left line ok side i h in
      (q.from, q.upto, q.piece, q.line, record { there = q.there; low = omega (arith, q.is); high = omega (arith, q.is, q.within) })

  pub reading-once : (side : Side) (a b c d k m i : ℕ) → IsLine 0 (ends job) a b → IsLine 0 (ends job) c d → ReadingOf side job a b k i → ReadingOf side job c d m i → (a ≡ c) × (b ≡ d)
  reading-once side a b c d k m i l n p q =
      once.once (first_of side) (many_of side) (pieces job) (ends job) (count_of side job) (reading-numbers job passed side (ends job) (demands_proofs.lines-filled job base ruby left line ok)) a b c d k m
      (i - first_of side (piece_of job a b k)) (i - first_of side (piece_of job c d m)) i l n p.there q.there
      (omega (arith, p.low, p.high)) (omega (arith, q.low, q.high)) (omega (arith, p.low)) (omega (arith, q.low))

  pub reading-piece : (side : Side) (s e k m i : ℕ) → ReadingOf side job s e k i → ReadingOf side job s e m i → k ≡ m
  reading-piece side s e = one_piece (first_of side) (many_of side) job s e (belong.readings-sorted job passed side s e)

  pub base-piece : (s e k m i : ℕ) → BaseOf job s e k i → BaseOf job s e m i → k ≡ m
  base-piece s e = one_piece (λ p. p.base) (λ p. p.bases) job s e (belong.bases-sorted job passed s e)

-- An answer that sets n lines: the job is accepted, and the line list has them.
module _ (job : Job) (base ruby left line : List ℕ) (n : ℕ) (set : (demands.result job base ruby left line).answer ≡ Set n) where
  accepted : demands.Accepted job base ruby left line
  accepted = demands_proofs.set-accepted job base ruby left line n set

  -- line m, from the end of the line before it up to its own, as `specs/Characters.antt` has it
  abbrev from : ℕ → ℕ
  from = characters.from job base ruby left line n set

  abbrev upto : ℕ → ℕ
  upto = characters.upto job base ruby left line n set

  told : (n ≡ length (ends job)) × ((demands.result job base ruby left line).lines ≡ over (ends job) line)
  told =
      let q = demands_proofs.lines-told job base ruby left line accepted in
      let r : Set n ≡ Set (length (ends job)) = sym set ∙ q.0 in
      (cc, q.1)

  same_from : (m : ℕ) → m < n → from m ≡ get_or (0 ∷ ends job) m 0
  same_from m h = rw told.1 (get_or-append (0 ∷ ends job) (drop (length (ends job)) line) 0 m (omega (arith, told.0)))

  same-upto : (m : ℕ) → m < n → upto m ≡ get_or (ends job) m 0
  same-upto m h = rw told.1 (get_or-append (ends job) (drop (length (ends job)) line) 0 m (omega (arith, told.0)))

  pub is-line : (m : ℕ) → m < n → IsLine 0 (ends job) (from m) (upto m)
  is-line m h = rw (same_from m h, same-upto m h) (nth_line 0 (ends job) m (omega (arith, told.0)))

  -- "Show that every reading stands clear of its neighbours": in every line that is set.
  pub every-line : (m : ℕ) → m < n → StandsClear job (demands.result job base ruby left line).base (readings (demands.result job base ruby left line)) (from m) (upto m)
  every-line m h = line_clear job base ruby left line accepted (from m) (upto m) (is-line m h)

  -- No character is left out: each base character and each character of either side is in a line.
  line_of_lem : (s e : ℕ) → IsLine 0 (ends job) s e → (m : ℕ) × (m < n) × (from m ≡ s) × (upto m ≡ e)
  line_of_lem s e l =
      let q = nth_of 0 (ends job) s e l in
      let h : q.0 < n = omega (arith, told.0, q.1) in
      (q.0, h, same_from q.0 h ∙ q.2, same-upto q.0 h ∙ q.3)

  pub every-base : (i : ℕ) → i < base_count job → (m k : ℕ) × (m < n) × BaseOf job (from m) (upto m) k i
  every-base i h = go (demands_proofs.base-placed job base ruby left line accepted i h)
    where
      go : BasePlaced job (ends job) i (get_or (demands.result job base ruby left line).base i 0) → (m k : ℕ) × (m < n) × BaseOf job (from m) (upto m) k i
      go q =
          let w = line_of_lem q.from q.upto q.line in
          let b : BaseOf job q.from q.upto q.piece i = record { there = q.there; low = omega (arith, q.is); high = omega (arith, q.is, q.within) } in
          (w.0, q.piece, w.1, rw (w.2, w.3) b)

  pub every-reading : (side : Side) (i : ℕ) → i < count_of side job → (m k : ℕ) × (m < n) × ReadingOf side job (from m) (upto m) k i
  every-reading side i h = go (reading_of job base ruby left line accepted side i h)
    where
      go : (s e k : ℕ) × IsLine 0 (ends job) s e × ReadingOf side job s e k i → (m k : ℕ) × (m < n) × ReadingOf side job (from m) (upto m) k i
      go (s, e, k, l, b) = let w = line_of_lem s e l in (w.0, k, w.1, rw (w.2, w.3) b)

  -- No character ends past 41,943,040 half units: a line that is set ends at the measure, which is at most 4,000,000 units.
  pub base-bounded : (i : ℕ) → i < base_count job → end (demands.result job base ruby left line).base job.width i ≤ 41943040
  base-bounded i h = go (every-base i h)
    where
      go : (m k : ℕ) × (m < n) × BaseOf job (from m) (upto m) k i → end (demands.result job base ruby left line).base job.width i ≤ 41943040
      go (m, k, l, b) =
          let at = base_in job base ruby left line accepted (from m) (upto m) (is-line m l) k i b in
          omega (arith, (every-line m l).bases_fit i at.0 at.1, (demands_proofs.good job base ruby left line accepted).measure)

  pub reading-bounded : (side : Side) (i : ℕ) → i < count_of side job → end (readings (demands.result job base ruby left line) side) (widths_of side job) i ≤ 41943040
  reading-bounded side i h = go (every-reading side i h)
    where
      go : (m k : ℕ) × (m < n) × ReadingOf side job (from m) (upto m) k i → end (readings (demands.result job base ruby left line) side) (widths_of side job) i ≤ 41943040
      go (m, k, l, b) = omega (arith, (every-line m l).readings_fit side k i b, (demands_proofs.good job base ruby left line accepted).measure)
