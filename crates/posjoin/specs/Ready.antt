-- A table that holds a job that passed the door can be written: each piece that a line may have by its rows is one of the job's.
use Rattle.std.specs.Prelude.{◌≡◌, refl, Bool, true, false, cond, List, [], ◌∷◌, ◌++◌, ℕ, ◌+◌, ◌-◌, ◌*◌, ◌≤◌, ◌<◌, ltb, length}
use Rattle.std.proofs.Common.{sym, ap, ◌∙◌, subst, true≢false, inl, inr, add-zero, arith, ltb-true}
use Rattle.std.proofs.Math.Decide.{dec_lt}
use Rattle.std.proofs.Math.Seq.{append_snoc}
use Rattle.basics.specs.Lists.{sum}
use Rattle.word.specs.declared.Reading.{Reading}
use Rattle.word.specs.declared.Word.{Word}
use Rattle.word.specs.Given.{has_ruby}
use Rattle.word.specs.Kept.{Kept}
use Rattle.line.specs.declared.Side.{Side}
use Rattle.line.specs.declared.Side.TheVariants.{Right, Left}
use Rattle.cells.specs.Rows.{Rows}
use Rattle.cells.specs.Cells.{cell_at, word_at}
use Rattle.door.specs.declared.Piece.{Piece}
use Rattle.door.specs.Job.{Job, base_count, ruby_count, left_count, given, gloss_of}
use Rattle.door.specs.Entries.{length-entries}
use Rattle.door.specs.Whole.{base-within}
use Rattle.door.specs.Passed.{Passed, Tiled, BaseTiled}
use Rattle.job.specs.Line.{part, words, cuts, word_of, first_of, many_of, count_of, has_reading, widths_in}
use Rattle.job.specs.Laws.{both}
use Rattle.job.proofs.Apart.{words-tiled, readings-tiled}
use Rattle.job.specs.Pieces.{IsWord}
use Rattle.job.proofs.Pieces.{is_word, tiled-split}
use Rattle.job.specs.Words.{promise}
use Rattle.job.proofs.Sound.{plain-left}
use Rattle.job.proofs.Stretches.{none_of}
use Rattle.job.specs.Tiles.{Shares, read_to}
use Rattle.job.proofs.Tiles.{reading_shares}
use Rattle.join.specs.Rows.{first_at, is_cut, upto, left_runs, Holds}
use Rattle.join.specs.Join as join
use Rattle.positions.specs.Positions as positions
use Rattle.positions.specs.Positions.{first, reading_end}
use Rattle.positions.specs.Ready.{Runs, Fits, SideFits, Begins, Stops, pick, Writable}
use Rattle.posjoin.specs.Runs.{reading-within}
use Rattle.posjoin.specs.Piece.{sheet_of, on, ByRuns, Same, same, there-is, base-lent, reading_lent_lem}

-- what a piece asks for
fits : {job : Job} {t : Rows} {i c : ℕ} {p : Piece} → Same job t i c p → i < c → Fits (sheet_of job t) i c
fits {job} {t} {i} {c} {p} q l =
    record {
      plain = λ e. omega (arith, q.bases, q.single (no_ruby e), l);
      bare = λ e. ap (λ (w : Word). w.left.there) q.word ∙ k.left.is ∙ plain-left p.form p.gloss (no_ruby e) q.good.ready.left.takes;
      base = λ e. rw (q.word, base-lent q) (omega (arith, k.block, k.limit));
    }
  where
    k : Kept p.form (given job p) (gloss_of job p) (word_of job p)
    k = promise job p q.good

    no_ruby : (word_at t i c).right.there ≡ false → has_ruby p.form ≡ false
    no_ruby e = sym k.right.is ∙ rw q.word at e

-- and its reading on one side, but for where the next one's begins
module _ {job : Job} {t : Rows} {i c : ℕ} {p : Piece} (q : Same job t i c p) where
  w : Word
  w = word_of job p

  -- the reading by rows is the word's own
  own : (side : Side) → positions.reading_of side (sheet_of job t) i c ≡ on side (word_of job p)
  own Right = ap (λ (v : Word). v.right) q.word
  own Left = ap (λ (v : Word). v.left) q.word

  there : (side : Side) → (positions.reading_of side (sheet_of job t) i c).there ≡ has_reading side p
  there side = ap (λ (r : Reading). r.there) (own side) ∙ there-is q side

  few-of : (side : Side) → many_of side p ≤ 64
  few-of Right = omega (arith, q.good.ready.sized.few_ruby, length-entries job.ruby_width p.ruby p.rubies)
  few-of Left = omega (arith, q.good.ready.left.few, length-entries job.left_width p.left p.lefts)

  -- one string ends within its word
  string-of : (side : Side) → has_reading side p ≡ true → (on side (word_of job p)).runs ≡ false →
      (on side (word_of job p)).from + 2 * sum (widths_in side job p) + (on side (word_of job p)).within ≤ 1048576
  string-of Right h r = let k = promise job p q.good in omega (arith, k.right.string r h, k.limit)
  string-of Left h r = let k = promise job p q.good in omega (arith, k.left.string r h, k.limit)

  widths_are : (side : Side) → positions.reading_lent side t (positions.widths_of side (sheet_of job t)) i c ≡ widths_in side job p
  widths_are Right = reading_lent_lem q Right
  widths_are Left = reading_lent_lem q Left

  runs_of : (side : Side) → ByRuns side job t i c p → Runs side t (positions.widths_of side (sheet_of job t)) (count_of side job) i c
  runs_of Right r = r.fit
  runs_of Left r = r.fit

  side-fits : (side : Side) → (c < base_count job → first side t c ≡ reading_end side t i c) → SideFits side (sheet_of job t) (base_count job) (count_of side job) i c
  side-fits side next =
      record {
        none = λ e. omega (arith, q.end side, q.first side, none_of job p q.good side (sym (there side) ∙ e));
        ahead = omega (arith, q.end side, q.first side);
        few = omega (arith, q.end side, q.first side, few-of side);
        within = omega (arith, q.end side, q.good.reads side);
        string = λ e r. rw (own side, widths_are side) (string-of side (sym (there side) ∙ e) (sym (ap (λ (v : Reading). v.runs) (own side)) ∙ r));
        runs = λ e r. runs_of side (by e r);
        last = λ e r. (by e r).last;
        follows = next;
      }
    where
      by : (positions.reading_of side (sheet_of job t) i c).there ≡ true → (positions.reading_of side (sheet_of job t) i c).runs ≡ true → ByRuns side job t i c p
      by e r = q.runs side (sym (ap (λ (v : Reading). v.there) (own side)) ∙ e) (sym (ap (λ (v : Reading). v.runs) (own side)) ∙ r)

module _ (job : Job) (passed : Passed job) (t : Rows) (table : Holds job t) where
  -- a word's first row has its first character of either side
  starts-at : (side : Side) (x : Piece) (b : Bool) → first_at side job x (cond b (x.base - x.base) 0) ≡ first_of side x
  starts-at side x true = ap (first_at side job x) (zero_of x.base) ∙ add-zero (first_of side x)
    where
      zero_of : (b : ℕ) → b - b ≡ 0
      zero_of b = omega arith
  starts-at side x false = add-zero (first_of side x)

  pub first-row : (side : Side) (x : Piece) → IsWord job x → first side t x.base ≡ first_of side x
  first-row Right x at = join.first_at_lem job passed t table x at x.base (omega arith) (omega (arith, at.good.counts.some)) ∙ starts-at Right x (cuts job x)
  first-row Left x at = join.left-first_at job passed t table x at x.base (omega arith) (omega (arith, at.good.counts.some)) ∙ starts-at Left x (left_runs job x)

  -- and the row behind a word the one behind its last
  behind : (side : Side) (x : Piece) → IsWord job x → x.base + x.bases < base_count job → first side t (x.base + x.bases) ≡ first_of side x + many_of side x
  behind side x at l = go at.rest at.split bases.2 rubies.2
    where
      bases : (m : ℕ) × BaseTiled 0 at.front m × BaseTiled m (x ∷ at.rest) (base_count job)
      bases = tiled-split (λ p. p.base) (λ p. p.bases) 0 (base_count job) at.front (x ∷ at.rest) (subst (λ z. BaseTiled 0 z (base_count job)) at.split (words-tiled job passed))

      rubies : (m : ℕ) × Tiled (first_of side) (many_of side) 0 at.front m × Tiled (first_of side) (many_of side) m (x ∷ at.rest) (count_of side job)
      rubies =
          tiled-split (first_of side) (many_of side) 0 (count_of side job) at.front (x ∷ at.rest)
          (subst (λ z. Tiled (first_of side) (many_of side) 0 z (count_of side job)) at.split (readings-tiled job passed side))

      go : (rest : List Piece) → words job ≡ at.front ++ (x ∷ rest) → BaseTiled bases.0 (x ∷ rest) (base_count job) → Tiled (first_of side) (many_of side) rubies.0 (x ∷ rest) (count_of side job) →
          first side t (x.base + x.bases) ≡ first_of side x + many_of side x
      go [] e b r = absurd (omega (arith, b.0, b.1))
      go (y ∷ ys) e b r =
          ap (λ (z : ℕ). first side t z) (omega (arith, b.0, b.1.0))
          ∙ first-row side y (is_word job passed (at.front ++ (x ∷ [])) ys y (e ∙ sym (append_snoc at.front x (y ∷ ys)))) ∙ omega (arith, r.0, r.1.0)

  module _ (x : Piece) (at : IsWord job x) (i c : ℕ) (from : x.base ≤ i) (ahead : i < c) (within : c ≤ x.base + x.bases)
      (whole : is_cut job x ≡ false → (i ≡ x.base) × (c ≡ x.base + x.bases)) where
    abbrev p : Piece
    p = upto job x i c

    here : Same job t i c (upto job x i c)
    here = same job passed t table x at i c from ahead within whole

    share : (side : Side) → Shares job (first_of side) (many_of side) (read_to side job) x
    share side = reading_shares side job x at.good

    to : (b : ℕ) → b ≤ i → b + (i - b) + (c - i) ≡ c
    to b h = omega arith

    -- where the characters of a part of a J end
    part_end : (side : Side) (e : is_cut job x ≡ true) → reading_end side t i c ≡ first_of side x + read_to side job x c
    part_end side e =
        let j = both (cuts job x) (ltb 1 x.bases) e in
        let k = i - x.base in
        let q = part job x k (c - i) in
        let begins = (share side).begins j.0 k (c - i) (omega arith) in
        let takes = (share side).takes j.0 k (c - i) (omega arith) in
        sym (here.end side)
        ∙ ap (λ (z : Piece). first_of side z + many_of side z) (sym (join.upto-part job passed t table x at j.0 (ltb-true 1 x.bases j.1) i c from ahead within))
        ∙ omega (arith, begins, takes, ap (read_to side job x) (to x.base from))

    -- the next row's characters begin where the piece's end
    next-first : (side : Side) → c < base_count job → first side t c ≡ reading_end side t i c
    next-first side l = go (dec_lt c (x.base + x.bases)) (is_cut job x) refl
      where
        in_place : (b : ℕ) → b ≤ c → b + (c - b) ≡ c
        in_place b h = omega arith

        go : Dec (c < x.base + x.bases) → (b : Bool) → is_cut job x ≡ b → first side t c ≡ reading_end side t i c
        go (yes u) true e =
            let j = both (cuts job x) (ltb 1 x.bases) e in
            let q = same job passed t table x at c (x.base + x.bases) (omega arith) u (omega arith) (λ f. absurd (true≢false (sym e ∙ f))) in
            sym (q.first side)
            ∙ ap (first_of side) (sym (join.upto-part job passed t table x at j.0 (ltb-true 1 x.bases j.1) c (x.base + x.bases) (omega arith) u (omega arith)))
            ∙ (share side).begins j.0 (c - x.base) (x.base + x.bases - c) (omega arith)
            ∙ ap (λ (z : ℕ). first_of side x + read_to side job x z) (in_place x.base (omega arith))
            ∙ sym (part_end side e)
        go (yes u) false e = absurd (omega (arith, (whole e).1))
        go (no u) b e =
            let f : c ≡ x.base + x.bases = omega arith in
            ap (first side t) f ∙ behind side x at (omega arith) ∙ whole-end b e
          where
            whole-end : (b : Bool) → is_cut job x ≡ b → first_of side x + many_of side x ≡ reading_end side t i c
            whole-end true e = ap (λ (z : ℕ). first_of side x + z) (sym ((share side).all c (omega arith))) ∙ sym (part_end side e)
            whole-end false e = subst (λ (z : Piece). first_of side z + many_of side z ≡ reading_end side t i c) (join.upto-whole job passed t table x at e i c ahead) (here.end side)

    pub piece-fits : Fits (sheet_of job t) i c
    piece-fits = fits here ahead

    pub piece-sides : (side : Side) → SideFits side (sheet_of job t) (base_count job) (count_of side job) i c
    piece-sides side = side-fits here side (next-first side)

  pub writable : Writable (sheet_of job t) (base_count job) (ruby_count job) (left_count job)
  writable =
      record {
        sound = join.sound job passed t table;
        width = (base-within job).1;
        widths = widths;
        few = few;
        fits = λ i c h l u b s. (of_piece i c h l u b s).0;
        sides = λ side i c h l u b s. picked side i c ((of_piece i c h l u b s).1 side);
      }
    where
      widths : (side : Side) → pick (ruby_count job) (left_count job) side ≤ length (positions.widths_of side (sheet_of job t))
      widths Right = reading-within Right job
      widths Left = reading-within Left job

      few : (side : Side) → pick (ruby_count job) (left_count job) side ≤ 4096
      few Right = omega (arith, passed.few_ruby)
      few Left = omega (arith, passed.few_left)

      picked : (side : Side) (i c : ℕ) → SideFits side (sheet_of job t) (base_count job) (count_of side job) i c → SideFits side (sheet_of job t) (base_count job) (pick (ruby_count job) (left_count job) side) i c
      picked Right i c f = f
      picked Left i c f = f

      of_piece : (i c : ℕ) → i < base_count job → i < c → c ≤ i + (cell_at t i).bases → Begins t i → Stops t i c →
          Fits (sheet_of job t) i c × ((side : Side) → SideFits side (sheet_of job t) (base_count job) (count_of side job) i c)
      of_piece i c h l u b s =
          let v = join.covers job passed t table i h in
          let at = is_word job passed v.front v.rest v.x v.split in
          let n = join.bases-at job passed t table v.x at i v.from v.ahead in
          let w : is_cut job v.x ≡ false → (i ≡ v.x.base) × (c ≡ v.x.base + v.x.bases) = λ e. (begins v.x at v.from v.ahead e b, stops v.x at v.from v.ahead e s) in
          (piece-fits v.x at i c v.from l (omega (arith, n, v.ahead)) w, piece-sides v.x at i c v.from l (omega (arith, n, v.ahead)) w)
        where
          never : (x : Piece) → IsWord job x → x.base ≤ i → i < x.base + x.bases → is_cut job x ≡ false → (cell_at t i).cut ≡ true → ⊥
          never x at from ahead e z = true≢false (sym z ∙ join.cut_at job passed t table x at i from ahead ∙ e)

          begins : (x : Piece) → IsWord job x → x.base ≤ i → i < x.base + x.bases → is_cut job x ≡ false → Begins t i → i ≡ x.base
          begins x at from ahead e (inl z) = absurd (never x at from ahead e z)
          begins x at from ahead e (inr (inl z)) = omega arith
          begins x at from ahead e (inr (inr z)) = go (dec_lt x.base i)
            where
              go : Dec (x.base < i) → i ≡ x.base
              go (yes m) = absurd (omega (arith, z, join.bases-at job passed t table x at (i - 1) (omega arith) (omega arith)))
              go (no m) = omega arith

          stops : (x : Piece) → IsWord job x → x.base ≤ i → i < x.base + x.bases → is_cut job x ≡ false → Stops t i c → c ≡ x.base + x.bases
          stops x at from ahead e (inl z) = absurd (never x at from ahead e z)
          stops x at from ahead e (inr z) = omega (arith, z, join.bases-at job passed t table x at i from ahead)
