-- One piece of a word, by its rows: it is the job's piece, and its characters stand where that one's do, of the base and of either side.
use Rattle.std.specs.Prelude.{◌≡◌, Bool, ◌&&◌, ℕ, suc, ◌+◌, ◌-◌, ◌≤◌, ◌<◌, eqb, ltb, length, get_or, take, drop}
use Rattle.std.proofs.Math.Path.{refl, sym, ap, ap₂}
use Rattle.std.proofs.Common.{◌∙◌, subst, true≢false, add-zero, arith, ltb-true, ltb-false}
use Rattle.std.proofs.Math.Bool.{true, false, cond}
use Rattle.std.proofs.lemmas.Bool.{false≢true}
use mathlib.Core.List.{List, [], ◌∷◌, map}
use Rattle.basics.specs.Lists.{sum}
use Rattle.spread.specs.Worded.{solid, along}
use Rattle.spread.specs.Gap.{starts}
use Rattle.word.specs.declared.Form.{Form}
use Rattle.word.specs.declared.Form.TheVariants.{P, M, G, J}
use Rattle.word.specs.declared.Left.{Left as LeftKind}
use Rattle.word.specs.declared.Left.TheVariants as left
use Rattle.word.specs.declared.Reading.{Reading}
use Rattle.word.specs.declared.Word.{Word}
use Rattle.word.specs.Given.{Given, has_ruby}
use Rattle.word.specs.Alone as strings
use Rattle.word.specs.Both.{Gloss, has_left, is_group}
use Rattle.word.specs.Both as both-places
use Rattle.word.specs.Word as word
use Rattle.word.specs.Sides.{reading_starts}
use Rattle.readings.specs.Standing.{base-moved, right-moved, left-moved}
use Rattle.readings.specs.Parts.{part-has}
use Rattle.line.specs.declared.Side.{Side}
use Rattle.line.specs.declared.Side.TheVariants.{Right, Left}
use Rattle.cells.specs.Rows.{Rows}
use Rattle.cells.specs.Cells.{cell_at, share_of, word_at}
use Rattle.door.specs.declared.Piece.{Piece}
use Rattle.door.specs.Job.{Job, entries, left_by_runs, given, gloss_of}
use Rattle.door.specs.Entries.{entries-within, part_of, length-entries}
use Rattle.door.specs.Whole.{base-within}
use Rattle.door.specs.Passed.{Passed}
use Rattle.job.specs.Line.{part, cuts, word_of, first_of, many_of, widths_of, count_of, has_reading, widths_in, on_side, alone, base_at, reading_at}
use Rattle.job.specs.Laws.{both}
use Rattle.job.specs.Pieces.{IsWord}
use Rattle.job.proofs.Pieces.{cut-is, cut-piece, runs-cut, plain-one}
use Rattle.job.proofs.Placed.{stands}
use Rattle.job.proofs.Sound.{plain-left}
use Rattle.job.specs.Words.{GoodPiece, promise, runs_of-j, whole-piece}
use Rattle.join.specs.Rows.{runs_of, run_of, first_at, run_at, is_cut, upto, left_runs, Holds}
use Rattle.join.specs.Runs.{first_more}
use Rattle.join.specs.Part.{runs_from, whole-runs}
use Rattle.join.specs.Join as join
use Rattle.positions.specs.Positions.{Sheet, sheet, lent, first, run_end, reading_end, reading_lent, runs_put, reading_by, base_put, side_put}
use Rattle.positions.specs.Ready.{Runs}
use Rattle.posjoin.specs.Runs.{Shared, right-shared, left-shared, reading-within, end_is, runs_put_lem, runs_fit}

-- a table and the lists of a job
abbrev pub sheet_of : Job → Rows → Sheet
sheet_of job t = sheet t job.width job.ruby_width job.left_width

-- a word's reading on one side, and the runs that it is given
abbrev pub on : Side → Word → Reading
on Right w = w.right
on Left w = w.left

abbrev pub runs_in : Side → Job → Piece → List ℕ
runs_in Right job p = (given job p).run
runs_in Left job p = (gloss_of job p).run

-- The runs of a piece by rows are those that level one is given.
pub record ByRuns (side : Side) (job : Job) (t : Rows) (i c : ℕ) (p : Piece) : Type 0 where
  pub fit : Runs side t (widths_of side job) (count_of side job) i c
  pub last : reading_end side t i c ≡ run_end side t (c - 1)
  pub put : (x : ℕ) → runs_put side t (widths_of side job) (c - i) i x ≡ word.run_starts job.em x (strings.split (runs_in side job p) (widths_in side job p))

-- A piece of the job by the numbers of its rows.
pub record Same (job : Job) (t : Rows) (i c : ℕ) (p : Piece) : Type 0 where
  pub base : p.base ≡ i
  pub bases : p.bases ≡ c - i
  pub first : (side : Side) → first_of side p ≡ first side t i
  pub end : (side : Side) → first_of side p + many_of side p ≡ reading_end side t i c
  pub word : word_at t i c ≡ word_of job p
  pub good : GoodPiece job p
  pub single : has_ruby p.form ≡ false → p.bases ≡ 1
  pub runs : (side : Side) → (on side (word_of job p)).there ≡ true → (on side (word_of job p)).runs ≡ true → ByRuns side job t i c p

module _ (job : Job) (passed : Passed job) (t : Rows) (table : Holds job t) (x : Piece) (at : IsWord job x) (i c : ℕ)
    (from : x.base ≤ i) (ahead : i < c) (within : c ≤ x.base + x.bases) where
  in_it : i < x.base + x.bases
  in_it = omega arith

  -- Of a J that may be cut.
  module _ (e : is_cut job x ≡ true) where
    j : cuts job x ≡ true
    j = (both (cuts job x) (ltb 1 x.bases) e).0

    k : ℕ
    k = i - x.base

    n : ℕ
    n = c - i

    is_last : (side : Side) → reading_end side t i c ≡ run_end side t (c - 1)
    is_last side = rw (join.cut_at job passed t table x at i from in_it ∙ e)

    low : (b : ℕ) → b ≤ i → b + (i - b) ≡ i
    low b h = omega arith

    high : (b : ℕ) → b ≤ i → b + (i - b) + (c - i) ≡ c
    high b h = omega arith

    top : (b : ℕ) → b ≤ i → i - b + (c - i) ≡ suc (c - 1 - b)
    top b h = omega arith

    at-end : (b : ℕ) → b ≤ i → b + (c - 1 - b) ≡ c - 1
    at-end b h = omega arith

    -- what the runs of a side say of the part
    part-first : (side : Side) → Shared job passed t table x at j side → first_at side job x (i - x.base) ≡ first side t i
    part-first side s = sym (s.first (i - x.base) (omega arith)) ∙ ap (first side t) (low x.base from)

    part_end : (side : Side) → Shared job passed t table x at j side → first_at side job x (i - x.base) + sum (entries (runs_of side job) (run_of side x + (i - x.base)) (c - i)) ≡ reading_end side t i c
    part_end side s =
        sym (first_more side job x (i - x.base) (c - i)) ∙ ap (first_at side job x) (top x.base from) ∙ sym (end_is job passed t table x at j side s (c - 1 - x.base) (omega arith))
        ∙ ap (run_end side t) (at-end x.base from) ∙ sym (is_last side)

    part-runs : (side : Side) → Shared job passed t table x at j side → strings.any_longer job.em (runs_from side job x (i - x.base) (c - i)) ≡ false →
        Runs side t (widths_of side job) (count_of side job) i c
    part-runs side s none =
        subst (λ (z : ℕ). Runs side t (widths_of side job) (count_of side job) z c) (low x.base from)
        (subst (λ (z : ℕ). Runs side t (widths_of side job) (count_of side job) (x.base + (i - x.base)) z) (high x.base from)
        (runs_fit job passed t table x at j side s (i - x.base) (c - i) (omega arith) (omega arith) none))

    part-put : (side : Side) → Shared job passed t table x at j side → (y : ℕ) → runs_put side t (widths_of side job) (c - i) i y ≡ word.run_starts job.em y (runs_from side job x (i - x.base) (c - i))
    part-put side s y =
        ap (λ (z : ℕ). runs_put side t (widths_of side job) (c - i) z y) (sym (low x.base from)) ∙ runs_put_lem job passed t table x at j side s (c - i) (i - x.base) y (omega arith)

    good-part : GoodPiece job (part job x (i - x.base) (c - i))
    good-part = cut-piece job passed x (record { good = at.good; whole = at.whole }) j (i - x.base) (c - i) (omega arith) (omega arith)

    -- a J without a left reading has no left characters, and each of its rows says where the next begin
    none_first : has_left x.gloss ≡ false → (z : ℕ) → x.base ≤ z → z < x.base + x.bases → first Left t z ≡ x.left
    none_first h z l u = join.left-first_at job passed t table x at z l u ∙ rw (join.no-runs job passed t table x at h) (add-zero x.left)

    none-many : has_left x.gloss ≡ false → (z : ℕ) → x.base ≤ z → z < x.base + x.bases → (share_of Left (cell_at t z)).many ≡ 0
    none-many h z l u = join.left-many-at job passed t table x at z l u ∙ rw (join.no-runs job passed t table x at h) (at.good.gloss.none h)

    no_left-runs : has_left x.gloss ≡ false → left_by_runs x.form x.gloss ≡ false
    no_left-runs h = go x.form x.gloss h
      where
        go : (f : Form) (g : LeftKind) → has_left g ≡ false → left_by_runs f g ≡ false
        go f left.N h = refl
        go f left.M h = absurd (true≢false h)
        go f left.G h = absurd (true≢false h)
        go f left.J h = absurd (true≢false h)

    with_runs : has_left x.gloss ≡ true → left_by_runs x.form x.gloss ≡ true
    with_runs h = let q = cut-is job x j in runs_of-j x.form x.gloss q.0 h q.1

    of_left : (b : Bool) → has_left x.gloss ≡ b → ((part job x (i - x.base) (c - i)).left ≡ first Left t i) × ((part job x (i - x.base) (c - i)).left + (part job x (i - x.base) (c - i)).lefts ≡ reading_end Left t i c)
    unfolding part
    of_left true h = rw (with_runs h) (part-first Left (left-shared job passed t table x at j h), part_end Left (left-shared job passed t table x at j h))
    of_left false h =
        let f = none_first h i from in_it in
        let z = none_first h (c - 1) (omega arith) (omega arith) in
        let m = none-many h (c - 1) (omega arith) (omega arith) in
        rw (no_left-runs h) (add-zero x.left ∙ sym f, omega (arith, is_last Left))

    -- runs on one side
    right_runs : (word_of job (part job x (i - x.base) (c - i))).right.runs ≡ true → ByRuns Right job t i c (part job x (i - x.base) (c - i))
    unfolding part
    right_runs r =
        let s = right-shared job passed t table x at j in
        record { fit = part-runs Right s ((promise job (part job x (i - x.base) (c - i)) good-part).right.each r).0; last = is_last Right; put = part-put Right s }

    left_runs-of : (b : Bool) → has_left x.gloss ≡ b → (word_of job (part job x (i - x.base) (c - i))).left.there ≡ true → (word_of job (part job x (i - x.base) (c - i))).left.runs ≡ true →
        ByRuns Left job t i c (part job x (i - x.base) (c - i))
    unfolding part
    left_runs-of true h there r =
        let s = left-shared job passed t table x at j h in
        record {
          fit = part-runs Left s (sym (rw (with_runs h)) ∙ ((promise job (part job x (i - x.base) (c - i)) good-part).left.each r).0);
          last = is_last Left;
          put = λ y. part-put Left s y ∙ rw (with_runs h);
        }
    left_runs-of false h there r =
        absurd (true≢false (sym there ∙ (promise job (part job x (i - x.base) (c - i)) good-part).left.is ∙ part-has x.gloss (eqb (c - i) 1) ∙ h))

    of_part : Same job t i c (part job x (i - x.base) (c - i))
    unfolding part
    of_part =
        record {
          base = omega arith;
          bases = refl;
          first = firsts;
          end = ends;
          word = join.word-join job passed t table x at i c from ahead within ∙ ap (word_of job) (sym (join.upto-part job passed t table x at j (ltb-true 1 x.bases (both (cuts job x) (ltb 1 x.bases) e).1) i c from ahead within));
          good = good-part;
          single = λ h. absurd (false≢true (sym h ∙ ruby_of (eqb (c - i) 1)));
          runs = runs;
        }
      where
        firsts : (side : Side) → first_of side (part job x (i - x.base) (c - i)) ≡ first side t i
        firsts Right = part-first Right (right-shared job passed t table x at j)
        firsts Left = (of_left (has_left x.gloss) refl).0

        ends : (side : Side) → first_of side (part job x (i - x.base) (c - i)) + many_of side (part job x (i - x.base) (c - i)) ≡ reading_end side t i c
        ends Right = part_end Right (right-shared job passed t table x at j)
        ends Left = (of_left (has_left x.gloss) refl).1

        runs : (side : Side) → (on side (word_of job (part job x (i - x.base) (c - i)))).there ≡ true → (on side (word_of job (part job x (i - x.base) (c - i)))).runs ≡ true → ByRuns side job t i c (part job x (i - x.base) (c - i))
        runs Right h r = right_runs r
        runs Left h r = left_runs-of (has_left x.gloss) refl h r

        ruby_of : (t : Bool) → has_ruby (cond t M J) ≡ true
        ruby_of true = refl
        ruby_of false = refl

  -- Of any other, which is never cut.
  module _ (e : is_cut job x ≡ false) (f : i ≡ x.base) (l : c ≡ x.base + x.bases) where
    back : (b : ℕ) → i ≡ b → i - b ≡ 0
    back b e = omega arith

    whole-good : GoodPiece job x
    whole-good = whole-piece job passed x at.good at.whole

    is-own : (side : Side) → reading_end side t i c ≡ run_end side t i
    is-own side = rw (join.cut_at job passed t table x at i from in_it ∙ e)

    -- a J that would be cut has one base character
    lone : cuts job x ≡ true → x.bases ≡ 1
    lone j = omega (arith, ltb-false 1 x.bases (sym (rw j) ∙ e), at.good.counts.some)

    -- the characters of one run are all
    one-run : (side : Side) (m : ℕ) → m ≡ sum (entries (runs_of side job) (run_of side x) x.bases) → x.bases ≡ 1 → m ≡ run_at side job x (i - x.base)
    one-run side m q b =
        q ∙ ap (λ (z : ℕ). sum (entries (runs_of side job) (run_of side x) z)) b ∙ add-zero (get_or (runs_of side job) (run_of side x) 0)
        ∙ sym (ap (run_at side job x) (back x.base f) ∙ ap (λ (z : ℕ). get_or (runs_of side job) z 0) (add-zero (run_of side x)))

    starts-at : (side : Side) (b : Bool) → first_at side job x (cond b (i - x.base) 0) ≡ first_of side x
    starts-at side true = ap (first_at side job x) (back x.base f) ∙ add-zero (first_of side x)
    starts-at side false = add-zero (first_of side x)

    whole-first : (side : Side) → first side t i ≡ first_of side x
    whole-first Right = join.first_at_lem job passed t table x at i from in_it ∙ starts-at Right (cuts job x)
    whole-first Left = join.left-first_at job passed t table x at i from in_it ∙ starts-at Left (left_runs job x)

    whole-many : (side : Side) → many_of side x ≡ (share_of side (cell_at t i)).many
    whole-many Right = go (cuts job x) refl
      where
        go : (b : Bool) → cuts job x ≡ b → x.rubies ≡ (cell_at t i).rubies
        go false j = sym (join.many-at job passed t table x at j i from in_it)
        go true j = one-run Right x.rubies (at.good.counts.whole (cut-is job x j).0) (lone j) ∙ sym (join.rubies-at job passed t table x at j i from in_it)
    whole-many Left = go (cuts job x) (has_left x.gloss) refl refl ∙ sym (join.left-many-at job passed t table x at i from in_it)
      where
        go : (b h : Bool) → cuts job x ≡ b → has_left x.gloss ≡ h → x.lefts ≡ cond (cuts job x && has_left x.gloss) (run_at Left job x (cond (cuts job x && has_left x.gloss) (i - x.base) 0)) x.lefts
        go true true j h = let q = cut-is job x j in rw (j, h) (one-run Left x.lefts (at.good.gloss.whole (runs_of-j x.form x.gloss q.0 h q.1)) (lone j))
        go true false j h = rw (j, h)
        go false h j g = rw j

    -- runs on one side: only a J that would be cut stands run by run
    whole-runs_of : (side : Side) → (j : cuts job x ≡ true) → Shared job passed t table x at j side → many_of side x ≡ sum (entries (runs_of side job) (run_of side x) x.bases) →
        runs_from side job x 0 x.bases ≡ strings.split (runs_in side job x) (widths_in side job x) → strings.any_longer job.em (strings.split (runs_in side job x) (widths_in side job x)) ≡ false → ByRuns side job t i c x
    whole-runs_of side j s m split none =
        record {
          fit =
              subst (λ (z : ℕ). Runs side t (widths_of side job) (count_of side job) z c) (low x.base f)
              (subst (λ (z : ℕ). Runs side t (widths_of side job) (count_of side job) (x.base + 0) z) (high x.base l)
              (runs_fit job passed t table x at j side s 0 x.bases at.good.counts.some (omega arith) (ap (strings.any_longer job.em) split ∙ none)));
          last = is-own side ∙ ap (run_end side t) (omega (arith, lone j));
          put =
              λ y. ap₂ (λ (m z : ℕ). runs_put side t (widths_of side job) m z y) (long x.base x.bases f l) (sym (low x.base f))
              ∙ runs_put_lem job passed t table x at j side s x.bases 0 y (omega arith)
              ∙ ap (word.run_starts job.em y) split;
        }
      where
        low : (b : ℕ) → i ≡ b → b + 0 ≡ i
        low b h = omega arith

        high : (b : ℕ) → c ≡ b + x.bases → b + 0 + x.bases ≡ c
        high b h = omega arith

        long : (b n : ℕ) → i ≡ b → c ≡ b + n → c - i ≡ n
        long b n h k = omega arith

    whole_by : (side : Side) → (on side (word_of job x)).there ≡ true → (on side (word_of job x)).runs ≡ true → ByRuns side job t i c x
    whole_by Right h r =
        let j = (runs-cut job x whole-good.ready.left).0 r in
        let m = at.good.counts.whole (cut-is job x j).0 in
        whole-runs_of Right j (right-shared job passed t table x at j) m (sym (whole-runs Right job x x.rubies m)) ((promise job x whole-good).right.each r).0
    whole_by Left h r =
        let j = (runs-cut job x whole-good.ready.left).1 r in
        let q = cut-is job x j in
        let g = sym (promise job x whole-good).left.is ∙ h in
        let m = at.good.gloss.whole (runs_of-j x.form x.gloss q.0 g q.1) in
        whole-runs_of Left j (left-shared job passed t table x at j g) m (sym (whole-runs Left job x x.lefts m)) ((promise job x whole-good).left.each r).0

    of-whole : Same job t i c x
    of-whole =
        record {
          base = sym f;
          bases = omega arith;
          first = λ side. sym (whole-first side);
          end = λ side. ap₂ (λ (a b : ℕ). a + b) (sym (whole-first side)) (whole-many side) ∙ sym (is-own side);
          word = join.word-join job passed t table x at i c from ahead within ∙ ap (word_of job) (join.upto-whole job passed t table x at e i c ahead);
          good = whole-good;
          single = plain-one job x at;
          runs = whole_by;
        }

  pub same : (is_cut job x ≡ false → (i ≡ x.base) × (c ≡ x.base + x.bases)) → Same job t i c (upto job x i c)
  same whole = go (is_cut job x) refl
    where
      go : (b : Bool) → is_cut job x ≡ b → Same job t i c (upto job x i c)
      go true e =
          let b = both (cuts job x) (ltb 1 x.bases) e in
          subst (Same job t i c) (join.upto-part job passed t table x at b.0 (ltb-true 1 x.bases b.1) i c from ahead within) (of_part e)
      go false e = subst (Same job t i c) (sym (join.upto-whole job passed t table x at e i c ahead)) (of-whole e (whole e).0 (whole e).1)

-- What stands where.

-- a P's one character stands at its origin
lone-stands : (ws : List ℕ) (x : ℕ) → length ws ≡ 1 → map (λ y. x + y) (along (solid 0 ws) ws) ≡ x ∷ []
lone-stands [] x h = absurd (omega arith)
lone-stands (w ∷ []) x h = ap (λ z. z ∷ []) (add-zero x)
lone-stands (w ∷ v ∷ ws) x h = absurd (omega arith)

plain-stands : (form : Form) (w : Given) (g : Gloss) → has_ruby form ≡ false → has_left g.kind ≡ false → length w.width ≡ 1 → (x : ℕ) → map (λ y. x + y) (both-places.places form w g).base ≡ x ∷ []
unfolding both-places.places strings.places
plain-stands P w g h f l x = rw f (lone-stands w.width x l)
plain-stands M w g h f l x = absurd (true≢false h)
plain-stands G w g h f l x = absurd (true≢false h)
plain-stands J w g h f l x = absurd (true≢false h)

module _ {job : Job} {t : Rows} {i c : ℕ} {p : Piece} (q : Same job t i c p) where
  abbrev w : Word
  w = word_of job p

  pub there-is : (side : Side) → (on side w).there ≡ has_reading side p
  there-is Right = (promise job p q.good).right.is
  there-is Left = (promise job p q.good).left.is

  pub base-lent : lent job.width i c ≡ (given job p).width
  base-lent =
      ap (λ (n : ℕ). take n (drop i job.width)) (sym q.bases)
      ∙ ap (λ (z : ℕ). take p.bases (drop z job.width)) (sym q.base)
      ∙ sym (entries-within job.width p.base p.bases (omega (arith, q.good.inside, (base-within job).1)))

  pub reading_lent_lem : (side : Side) → reading_lent side t (widths_of side job) i c ≡ widths_in side job p
  reading_lent_lem side =
      ap₂ (λ a b. lent (widths_of side job) a b) (sym (q.first side)) (sym (q.end side))
      ∙ part_of (widths_of side job) (first_of side p) (many_of side p) (omega (arith, q.good.reads side, reading-within side job))

  -- the piece's characters stand where the job's do
  pub base_put_lem : (o : ℕ) → base_put (sheet_of job t) i c o ≡ base_at job p o
  unfolding base_put base_at
  base_put_lem o = ap₂ (λ v l. cond v.right.there (word.base_starts v o l) (o ∷ [])) q.word base-lent ∙ go w.right.there refl
    where
      go : (b : Bool) → w.right.there ≡ b → cond b (word.base_starts w o (given job p).width) (o ∷ []) ≡ map (λ y. o + y) (alone job p).base
      go true h = base-moved p.form 0 (given job p) (gloss_of job p) w (q.good.set 0) q.good.ready o
      go false h =
          let r = sym (there-is Right) ∙ h in
          sym (plain-stands p.form (given job p) (gloss_of job p) r (plain-left p.form p.gloss r q.good.ready.left.takes) (length-entries job.width p.base p.bases ∙ q.single r) o)

  moved : (side : Side) (o : ℕ) → reading_starts (on side w) job.em o (runs_in side job p) (widths_in side job p) ≡ map (λ y. o + y) (on_side side (alone job p))
  moved Right = right-moved p.form 0 (given job p) (gloss_of job p) w (q.good.set 0) q.good.ready
  moved Left = left-moved p.form 0 (given job p) (gloss_of job p) w (q.good.set 0) q.good.ready

  none-on : (side : Side) → has_reading side p ≡ false → on_side side (alone job p) ≡ []
  none-on Right h = (stands job p q.good).no_right h
  none-on Left h = (stands job p q.good).no_left h

  by_way : (side : Side) (o : ℕ) → (on side w).there ≡ true → (b : Bool) → (on side w).runs ≡ b →
      cond b (runs_put side t (widths_of side job) (c - i) i o) (starts (on side w).within (o + (on side w).from) (reading_lent side t (widths_of side job) i c))
      ≡ reading_starts (on side w) job.em o (runs_in side job p) (widths_in side job p)
  unfolding reading_starts
  by_way side o h true e = rw e ((q.runs side h e).put o)
  by_way side o h false e = rw (e, reading_lent_lem side)

  pub side_put_lem : (side : Side) (o : ℕ) → side_put side (sheet_of job t) i c o ≡ reading_at side job p o
  unfolding side_put reading_by reading_at
  side_put_lem Right o = ap (λ v. reading_by Right t job.ruby_width v.right i c o) q.word ∙ go w.right.there refl
    where
      go : (b : Bool) → w.right.there ≡ b → reading_by Right t job.ruby_width w.right i c o ≡ map (λ y. o + y) (alone job p).right
      go true h = rw h (by_way Right o h w.right.runs refl ∙ moved Right o)
      go false h = rw h (sym (ap (map (λ y. o + y)) (none-on Right (sym (there-is Right) ∙ h))))
  side_put_lem Left o = ap (λ v. reading_by Left t job.left_width v.left i c o) q.word ∙ go w.left.there refl
    where
      go : (b : Bool) → w.left.there ≡ b → reading_by Left t job.left_width w.left i c o ≡ map (λ y. o + y) (alone job p).left
      go true h = rw h (by_way Left o h w.left.runs refl ∙ moved Left o)
      go false h = rw h (sym (ap (map (λ y. o + y)) (none-on Left (sym (there-is Left) ∙ h))))
