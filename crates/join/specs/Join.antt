-- A table that holds a job that passed the door: its lines are the job's. A line from s up to c by rows is the line of `Line`, whatever s and c are.
use Rattle.std.specs.Prelude.{◌≡◌, Bool, ◌&&◌, ◌||◌, ◌⊎◌, eqb, length, get_or}
use Rattle.std.proofs.Math.Path.{refl, sym, ap, ap₂, subst}
use Rattle.std.proofs.Common.{◌∙◌, true≢false, inl, inr, zero-mul}
use Rattle.std.proofs.Math.Bool.{true, false, cond}
use Rattle.std.proofs.lemmas.Bool.{false≢true}
use mathlib.Core.List.{List, [], ◌∷◌, ◌++◌}
use Prim.Native.Nat.{ℕ, zero, suc, ◌+◌, ◌-◌, ◌*◌, ◌≤◌, ◌<◌, min, max, zero-le}
use Rattle.std.proofs.Math.Nat.{add-zero}
use native.Mathlib.Omega.{arith}
use Rattle.std.proofs.Math.Decide.{dec_lt}
use borrow.Author.Tests.{lt-ltb, le-ltb, ltb-true, ltb-false, eq-eqb, ne_eqb}
use Rattle.std.proofs.Math.Dec.{ltb}
use Rattle.std.proofs.Math.Seq.{append_snoc}
use Rattle.basics.specs.Lists.{sum, All, last_or}
use Rattle.class.specs.Class.{western}
use Rattle.class.specs.declared.Depths.{Depths}
use Rattle.class.specs.Laws.{before-within}
use Rattle.spread.specs.Ratio.{Ratios, Housed}
use Rattle.word.specs.declared.Form.{Form}
use Rattle.word.specs.declared.Form.TheVariants.{P, M, G, J}
use Rattle.word.specs.declared.Word.{Word}
use Rattle.word.specs.Given.{Given, has_ruby, is_j}
use Rattle.word.specs.Word as word
use Rattle.word.specs.declared.Left.{Left as LeftKind}
use Rattle.word.specs.declared.Left.TheVariants as left
use Rattle.word.specs.declared.Str.{Str}
use Rattle.word.specs.declared.Reading.{Reading}
use Rattle.word.specs.Both.{Gloss, has_left, apart, is_group, is_jukugo}
use Rattle.word.specs.Sides as sides
use Rattle.word.specs.Part.{form_of_part}
use Rattle.readings.specs.Parts.{left_by, left_of_part}
use Rattle.line.specs.declared.Side.TheVariants.{Right, Left}
use Rattle.line.specs.declared.State.{State}
use Rattle.line.specs.Setting.{total}
use Rattle.cells.specs.Rows.{Rows}
use Rattle.cells.specs.declared.Cell.{Cell}
use Rattle.cells.specs.Cells as cells
use Rattle.cells.specs.Cells.{left_reading, cell_at, part_by, both_by, over_with, word_at, element_of, Ran, Plain, Flat, bare, piece, next, stop, rest, state_at, may_end, last_of, breaks, end_of, lines_of}
use Rattle.cells.specs.Sound.{Row, Sound}
use Rattle.cells.specs.Walk as walk
use Rattle.door.specs.declared.Piece.{Piece}
use Rattle.door.specs.Job.{Job, base_count, entries, left_by_runs, given, gloss_of}
use Rattle.door.specs.Entries.{length-entries, sum_first}
use Rattle.door.specs.Passed.{Passed, BaseTiled}
use Rattle.job.specs.Line as line
use Rattle.job.specs.Line.{part, words, cuts, in_line, pieces, on_p, depths_at, seen, permitted, can_set}
use Rattle.job.specs.Laws.{all_split, entries_at, both}
use Rattle.job.specs.Pieces.{IsWord}
use Rattle.job.proofs.Pieces.{is_word, in_by, into, none_before, cut-is, cut-last}
use Rattle.job.proofs.Apart.{words-tiled}
use Rattle.job.proofs.Sound.{on_le, on_none, plain-left}
use Rattle.job.specs.Walk.{state_of, best}
use Rattle.job.proofs.Walk.{state-more, state-none, permitted-end, permitted-within, can_set_lem, best-all, best_none, best-step}
use Rattle.job.proofs.Filled.{found-ahead}
use Rattle.job.specs.Promise.{Chain}
use Rattle.job.specs.Refusals.{lines_faults}
use Rattle.job.specs.Declined.{Way}
use Rattle.job.proofs.Declined.{lines-way}
use Rattle.job.specs.Words.{promise, readings-narrow, runs_of-j, none_of-j, is_j_lem, left-fits, whole-piece}
use Rattle.job.proofs.Bounded.{piece-short}
use Rattle.refusal.specs.declared.Refusal.TheVariants.{NoBreak}
use Rattle.join.specs.Rows.{first_at, run_at, run_width, wide_before, longer, is_cut, upto, runs_before, none, left_runs, left_row_by, ends_behind, row_of, HasRows, Holds, house, ems}
use Rattle.join.specs.Runs.{first_next, first_more, wide-more, wide-next, longer-next, longer-few}
use Rattle.join.specs.Part.{good, widths, reads, within, part-word, both_word}

-- only a P has no ruby, and a P is no more than its length
bare-word : (form : Form) (w : Given) (g : Gloss) → has_ruby form ≡ false → has_left g.kind ≡ false → sides.word_of form w g ≡ bare (sides.word_of form w g).len
unfolding sides.word_of word.word_of word.plain
bare-word P w g e f = rw f
bare-word M w g e f = absurd (true≢false e)
bare-word G w g e f = absurd (true≢false e)
bare-word J w g e f = absurd (true≢false e)

j-reads : (form : Form) → is_j form ≡ true → has_ruby form ≡ true
j-reads P e = absurd (false≢true e)
j-reads M e = refl
j-reads G e = refl
j-reads J e = refl

-- the word of a base character
pub record Covers (job : Job) (i : ℕ) : Type 0 where
  pub front : List Piece
  pub x : Piece
  pub rest : List Piece
  pub split : words job ≡ front ++ (x ∷ rest)
  pub tiled : BaseTiled (x.base + x.bases) rest (base_count job)
  pub from : x.base ≤ i
  pub ahead : i < x.base + x.bases

covers-from : (job : Job) (front rest : List Piece) → words job ≡ front ++ rest → (b : ℕ) → BaseTiled b rest (base_count job) → (i : ℕ) → b ≤ i → i < base_count job → Covers job i
covers-from job front [] e b t i h l = absurd (omega arith)
covers-from job front (x ∷ xs) e b t i h l =
    go (dec_lt i (b + x.bases)) (λ g. covers-from job (front ++ (x ∷ [])) xs (e ∙ sym (append_snoc front x xs)) (b + x.bases) t.1 i g l)
  where
    go : Dec (i < b + x.bases) → (b + x.bases ≤ i → Covers job i) → Covers job i
    go (yes g) f =
        record { front = front; x = x; rest = xs; split = e; tiled = subst (λ z. BaseTiled (z + x.bases) xs (base_count job)) (sym t.0) t.1; from = omega (arith, t.0); ahead = omega (arith, t.0) }
    go (no g) f = f (omega arith)

module _ (job : Job) (passed : Passed job) (t : Rows) (table : Holds job t) where
  pub covers : (i : ℕ) → i < base_count job → Covers job i
  covers i h = covers-from job [] (words job) refl 0 (words-tiled job passed) i zero-le h

  pub has : (x : Piece) → IsWord job x → HasRows job t.rows x
  has x at = (all_split (HasRows job t.rows) at.front (x ∷ at.rest) (subst (All (HasRows job t.rows)) at.split table.rows)).1.0

  module _ (x : Piece) (at : IsWord job x) where
    -- the numbers of a row
    pub bases-at : (i : ℕ) → x.base ≤ i → i < x.base + x.bases → (cell_at t i).bases ≡ x.base + x.bases - i
    unfolding row_of
    bases-at i h l = ap (λ z. z.bases) (has x at i h l)

    pub cut_at : (i : ℕ) → x.base ≤ i → i < x.base + x.bases → (cell_at t i).cut ≡ is_cut job x
    unfolding row_of
    cut_at i h l = ap (λ z. z.cut) (has x at i h l)

    pub ends_at : (i : ℕ) → x.base ≤ i → i < x.base + x.bases → (cell_at t i).ends ≡ ends_behind job x
    unfolding row_of
    ends_at i h l = ap (λ z. z.ends) (has x at i h l)

    pub more-at : (i : ℕ) → x.base ≤ i → i < x.base + x.bases → (cell_at t i).more ≡ x.more
    unfolding row_of
    more-at i h l = ap (λ z. z.more) (has x at i h l)

    right-word_at : is_cut job x ≡ false → (i : ℕ) → x.base ≤ i → i < x.base + x.bases →
        (cell_at t i).word ≡ record { front = (line.word_of job x).front; len = (line.word_of job x).len; inbase = (line.word_of job x).inbase; right = (line.word_of job x).right; left = left_reading (left_row_by job x (line.word_of job x) i) }
    unfolding row_of
    right-word_at j i h l = ap (λ z. z.word) (has x at i h l) ∙ rw j

    -- a left reading has characters, and a word without one has none
    left-many : is_cut job x ≡ false → (i : ℕ) → x.base ≤ i → i < x.base + x.bases → ltb 0 (left_row_by job x (line.word_of job x) i).many ≡ has_left x.gloss
    left-many e i l u = go (cuts job x) (has_left x.gloss) refl refl
      where
        single : cuts job x ≡ true → x.bases ≡ 1
        single c = let m = ltb-false 1 x.bases (sym (rw c) ∙ e) in omega (arith, at.good.counts.some)

        own : left_by_runs x.form x.gloss ≡ true → x.bases ≡ 1 → (k : ℕ) → k ≡ 0 → 0 < run_at Left job x k
        own j b k z =
            subst (λ (m : ℕ). 0 < get_or job.left_run m 0) (sym (ap (λ (m : ℕ). x.leftrun + m) z ∙ add-zero x.leftrun))
            (subst (λ (m : ℕ). All (λ r. 0 < r) (entries job.left_run x.leftrun m)) b (at.good.gloss.each j)).0

        go : (t h : Bool) → cuts job x ≡ t → has_left x.gloss ≡ h → ltb 0 (cond (t && h) (run_at Left job x (cond (t && h) (i - x.base) 0)) x.lefts) ≡ h
        go true true c h = let q = cut-is job x c in lt-ltb 0 _ (own (runs_of-j x.form x.gloss q.0 h q.1) (single c) (i - x.base) (omega (arith, single c)))
        go true false c h = le-ltb 0 x.lefts (omega (arith, at.good.gloss.none h))
        go false true c h = lt-ltb 0 x.lefts (at.good.gloss.reads h at.good.takes)
        go false false c h = le-ltb 0 x.lefts (omega (arith, at.good.gloss.none h))

    pub word_at_lem : is_cut job x ≡ false → (i : ℕ) → x.base ≤ i → i < x.base + x.bases → (cell_at t i).word ≡ line.word_of job x
    word_at_lem j i h l =
        right-word_at j i h l
        ∙ ap (λ (u : Reading). record { front = (line.word_of job x).front; len = (line.word_of job x).len; inbase = (line.word_of job x).inbase; right = (line.word_of job x).right; left = u }) left_of
      where
        v : Reading
        v = (line.word_of job x).left

        left_of : left_reading (left_row_by job x (line.word_of job x) i) ≡ (line.word_of job x).left
        left_of =
            ap (λ (b : Bool).
            let u = (cond b none (line.word_of job x)).left in
            record { there = ltb 0 (left_row_by job x (line.word_of job x) i).many; from = u.from; upto = u.upto; within = u.within; runs = u.runs }) j
            ∙ ap (λ (b : Bool). record { there = b; from = v.from; upto = v.upto; within = v.within; runs = v.runs })
            (left-many j i h l ∙ sym (promise job x (whole-piece job passed x at.good at.whole)).left.is)

    pub before_at : (i : ℕ) → x.base ≤ i → i < x.base + x.bases → (cell_at t i).before ≡ on_p x.form (depths_at job x.base).before
    unfolding row_of
    before_at i h l = ap (λ z. z.before) (has x at i h l)

    pub after-at : (i : ℕ) → x.base ≤ i → i < x.base + x.bases → (cell_at t i).after ≡ on_p x.form (depths_at job x.base).after
    unfolding row_of
    after-at i h l = ap (λ z. z.after) (has x at i h l)

    pub first_at_lem : (i : ℕ) → x.base ≤ i → i < x.base + x.bases → (cell_at t i).ruby ≡ first_at Right job x (runs_before job x i)
    unfolding row_of
    first_at_lem i h l = ap (λ z. z.ruby) (has x at i h l)

    pub many-at : cuts job x ≡ false → (i : ℕ) → x.base ≤ i → i < x.base + x.bases → (cell_at t i).rubies ≡ x.rubies
    unfolding row_of
    many-at j i h l = ap (λ z. z.rubies) (has x at i h l) ∙ rw j

    -- left characters: of a J that is cut those of its own left run, and of any other word all
    pub left-first_at : (i : ℕ) → x.base ≤ i → i < x.base + x.bases → (cell_at t i).left ≡ first_at Left job x (cond (left_runs job x) (i - x.base) 0)
    unfolding row_of
    left-first_at i h l = ap (λ z. z.left) (has x at i h l)

    pub left-many-at : (i : ℕ) → x.base ≤ i → i < x.base + x.bases → (cell_at t i).lefts ≡ cond (left_runs job x) (run_at Left job x (cond (left_runs job x) (i - x.base) 0)) x.lefts
    unfolding row_of
    left-many-at i h l = ap (λ z. z.lefts) (has x at i h l)

    pub left-own_at : (i : ℕ) → x.base ≤ i → i < x.base + x.bases → (cell_at t i).ownleft ≡ cond (left_runs job x) (run_width Left job x (cond (left_runs job x) (i - x.base) 0)) 0
    unfolding row_of
    left-own_at i h l = ap (λ z. z.ownleft) (has x at i h l)

    pub no-runs : has_left x.gloss ≡ false → left_runs job x ≡ false
    no-runs e = go (cuts job x)
      where
        go : (b : Bool) → (b && has_left x.gloss) ≡ false
        go true = e
        go false = refl

    lefts_at : has_left x.gloss ≡ false → (i : ℕ) → x.base ≤ i → i < x.base + x.bases → (cell_at t i).lefts ≡ 0
    lefts_at e i h l = left-many-at i h l ∙ rw (no-runs e) (at.good.gloss.none e)

    own-lefts_at : has_left x.gloss ≡ false → (i : ℕ) → x.base ≤ i → i < x.base + x.bases → (cell_at t i).ownleft ≡ 0
    own-lefts_at e i h l = left-own_at i h l ∙ rw (no-runs e)

    -- of a J
    pub ruby_at : cuts job x ≡ true → (i : ℕ) → x.base ≤ i → i < x.base + x.bases → (cell_at t i).ruby ≡ first_at Right job x (i - x.base)
    unfolding row_of
    ruby_at j i h l = ap (λ z. z.ruby) (has x at i h l) ∙ rw j

    pub rubies-at : cuts job x ≡ true → (i : ℕ) → x.base ≤ i → i < x.base + x.bases → (cell_at t i).rubies ≡ run_at Right job x (i - x.base)
    unfolding row_of
    rubies-at j i h l = ap (λ z. z.rubies) (has x at i h l) ∙ rw j

    pub own_at : cuts job x ≡ true → (i : ℕ) → x.base ≤ i → i < x.base + x.bases → (cell_at t i).own ≡ run_width Right job x (i - x.base)
    unfolding row_of
    own_at j i h l = ap (λ z. z.own) (has x at i h l) ∙ rw j

    pub wide_at : cuts job x ≡ true → (i : ℕ) → x.base ≤ i → i < x.base + x.bases → (cell_at t i).wide ≡ wide_before job x (i - x.base)
    unfolding row_of
    wide_at j i h l = ap (λ z. z.wide) (has x at i h l) ∙ rw j

    pub over-at : cuts job x ≡ true → (i : ℕ) → x.base ≤ i → i < x.base + x.bases → (cell_at t i).over ≡ longer job x (i - x.base)
    unfolding row_of
    over-at j i h l = ap (λ z. z.over) (has x at i h l) ∙ rw j

    pub western-at : cuts job x ≡ true → (i : ℕ) → x.base ≤ i → i < x.base + x.bases → (cell_at t i).western ≡ western (get_or job.ruby_class (first_at Right job x (i - x.base)) 0)
    unfolding row_of
    western-at j i h l = ap (λ z. z.western) (has x at i h l) ∙ rw j

    -- up to and with its own run, by the row of a J's character i
    pub wide_with : cuts job x ≡ true → (i : ℕ) → x.base ≤ i → i < x.base + x.bases → (cell_at t i).wide + (cell_at t i).own ≡ wide_before job x (suc (i - x.base))
    wide_with j i h l = ap₂ (λ a b. a + b) (wide_at j i h l) (own_at j i h l) ∙ wide-next job x (i - x.base)

    pub ruby_with : cuts job x ≡ true → (i : ℕ) → x.base ≤ i → i < x.base + x.bases → (cell_at t i).ruby + (cell_at t i).rubies ≡ first_at Right job x (suc (i - x.base))
    ruby_with j i h l = ap₂ (λ a b. a + b) (ruby_at j i h l) (rubies-at j i h l) ∙ first_next Right job x (i - x.base)

    over_with_lem : cuts job x ≡ true → (i : ℕ) → x.base ≤ i → i < x.base + x.bases → over_with job.em (cell_at t i) ≡ longer job x (suc (i - x.base))
    over_with_lem j i h l = ap₂ (λ a b. a + cond (ltb job.em b) 1 0) (over-at j i h l) (own_at j i h l) ∙ longer-next job x (i - x.base)

    -- a J that is cut has no left reading, or a left J
    pub cut-gloss : cuts job x ≡ true → (has_left x.gloss ≡ false) ⊎ (is_jukugo x.gloss ≡ true)
    cut-gloss c = let q = cut-is job x c in kinds x.gloss q.1 (subst (λ f. apart f x.gloss ≡ false) (is_j_lem x.form q.0) at.whole)
      where
        kinds : (k : LeftKind) → is_group k ≡ false → apart J k ≡ false → (has_left k ≡ false) ⊎ (is_jukugo k ≡ true)
        kinds left.N e a = inl refl
        kinds left.M e a = absurd (true≢false a)
        kinds left.G e a = absurd (true≢false e)
        kinds left.J e a = inr refl

    has-jukugo : (k : LeftKind) → is_jukugo k ≡ true → has_left k ≡ true
    has-jukugo left.N e = absurd (false≢true e)
    has-jukugo left.M e = refl
    has-jukugo left.G e = refl
    has-jukugo left.J e = refl

    -- its left runs have characters
    left_run_lem : has_left x.gloss ≡ true → cuts job x ≡ true → (k : ℕ) → k < x.bases → 0 < run_at Left job x k
    left_run_lem h c k u =
        let q = cut-is job x c in
        subst (λ (m : ℕ). 0 < m) (entries_at job.left_run x.leftrun x.bases k u)
        (all_get_d (entries job.left_run x.leftrun x.bases) (at.good.gloss.each (runs_of-j x.form x.gloss q.0 h q.1)) k (omega (arith, length-entries job.left_run x.leftrun x.bases)))
      where
        all_get_d : (xs : List ℕ) → All (λ n. 0 < n) xs → (k : ℕ) → k < length xs → 0 < get_or xs k 0
        all_get_d [] a k h = absurd (omega arith)
        all_get_d (y ∷ ys) a zero h = a.0
        all_get_d (y ∷ ys) a (suc k) h = all_get_d ys a.1 k (omega arith)

    pub lefts-by : has_left x.gloss ≡ true → cuts job x ≡ true → (i : ℕ) → x.base ≤ i → i < x.base + x.bases → (cell_at t i).lefts ≡ run_at Left job x (i - x.base)
    lefts-by hl c i h l = left-many-at i h l ∙ rw (c, hl)

    pub own-left_by : has_left x.gloss ≡ true → cuts job x ≡ true → (i : ℕ) → x.base ≤ i → i < x.base + x.bases → (cell_at t i).ownleft ≡ run_width Left job x (i - x.base)
    own-left_by hl c i h l = left-own_at i h l ∙ rw (c, hl)

    -- a part of a J by its rows
    one-part : has_left x.gloss ≡ false → cuts job x ≡ true → (i c : ℕ) → x.base ≤ i → i < c → c ≤ x.base + x.bases → cells.part t i c ≡ line.word_of job (part job x (i - x.base) (c - i))
    unfolding cells.part
    one-part nl j i c h l u =
        let z = c - 1 in
        let k = i - x.base in
        let low : x.base ≤ z = omega arith in
        let high : z < x.base + x.bases = omega arith in
        ap (λ n. cond (ltb 0 n) (cells.both t i c) (by_head t.ratios t.em (cell_at t i) (cell_at t z))) (lefts_at nl i h (omega arith))
        ∙ ap₂ (λ h e. by_head h e (cell_at t i) (cell_at t z)) table.ratios table.em
        ∙ ap₂ (λ a b. by_ends a (cell_at t i).wide b (cell_at t i).ruby (cell_at t i).over (over_with job.em (cell_at t z)) (cell_at t i).own (cell_at t z).own (cell_at t i).western)
        (wide_with j z low high ∙ ap (wide_before job x) (top x.base h l)) (ruby_with j z low high ∙ ap (first_at Right job x) (top x.base h l))
        ∙ ap₂ (λ a b. by_ends (wide_before job x (k + (c - i))) a (first_at Right job x (k + (c - i))) b (cell_at t i).over (over_with job.em (cell_at t z)) (cell_at t i).own (cell_at t z).own (cell_at t i).western)
        (wide_at j i h (omega arith)) (ruby_at j i h (omega arith))
        ∙ ap₂ (λ a b. by_ends (wide_before job x (k + (c - i))) (wide_before job x k) (first_at Right job x (k + (c - i))) (first_at Right job x k) a b (cell_at t i).own (cell_at t z).own (cell_at t i).western)
        (over-at j i h (omega arith)) (over_with_lem j z low high ∙ ap (longer job x) (top x.base h l))
        ∙ ap₂ (λ a b. by_ends (wide_before job x (k + (c - i))) (wide_before job x k) (first_at Right job x (k + (c - i))) (first_at Right job x k) (longer job x k) (longer job x (k + (c - i))) a b (cell_at t i).western)
        (own_at j i h (omega arith)) (own_at j z low high ∙ ap (run_width Right job x) (last x.base h l))
        ∙ ap (by_ends (wide_before job x (k + (c - i))) (wide_before job x k) (first_at Right job x (k + (c - i))) (first_at Right job x k) (longer job x k) (longer job x (k + (c - i))) (run_width Right job x k) (run_width Right job x (k + (c - i) - 1)))
        (western-at j i h (omega arith))
        ∙ part-word job x passed at j k (c - i) (omega arith) (omega arith) nl
      where
        by_head : Ratios → ℕ → Cell → Cell → Word
        by_head h em a z =
            part_by h em (c - i) (z.wide + z.own - a.wide) (z.ruby + z.rubies - a.ruby) (eqb a.over (over_with em z)) a.own z.own a.western

        by_ends : ℕ → ℕ → ℕ → ℕ → ℕ → ℕ → ℕ → ℕ → Bool → Word
        by_ends wz wa rz ra oa oz first last western = part_by job.ratios job.em (c - i) (wz - wa) (rz - ra) (eqb oa oz) first last western

        top : (b : ℕ) → b ≤ i → i < c → suc (c - 1 - b) ≡ i - b + (c - i)
        top b h l = omega arith

        last : (b : ℕ) → b ≤ i → i < c → c - 1 - b ≡ i - b + (c - i) - 1
        last b h l = omega arith

    -- with a left J
    both-part : is_jukugo x.gloss ≡ true → cuts job x ≡ true → (i c : ℕ) → x.base ≤ i → i < c → c ≤ x.base + x.bases → cells.part t i c ≡ line.word_of job (part job x (i - x.base) (c - i))
    unfolding cells.part cells.both
    both-part jl j i c h l u =
        let z = c - 1 in
        let k = i - x.base in
        let low : x.base ≤ z = omega arith in
        let high : z < x.base + x.bases = omega arith in
        let here : i < x.base + x.bases = omega arith in
        let hl = has-jukugo x.gloss jl in
        let some : ltb 0 (cell_at t i).lefts ≡ true = lt-ltb 0 (cell_at t i).lefts (omega (arith, lefts-by hl j i h here, left_run_lem hl j k (omega arith))) in
        ap (λ (b : Bool). cond b (both_by t.ratios t.em (c - i) (record { width = (cell_at t i).own; count = (cell_at t i).rubies }) (record { width = (cell_at t i).ownleft; count = (cell_at t i).lefts }) (cell_at t z).own (cell_at t z).ownleft) (rest t)) some
        ∙ ap₂ (λ (h : Ratios) (e : ℕ). both_by h e (c - i) (record { width = (cell_at t i).own; count = (cell_at t i).rubies }) (record { width = (cell_at t i).ownleft; count = (cell_at t i).lefts }) (cell_at t z).own (cell_at t z).ownleft) table.ratios table.em
        ∙ ap₂ (λ (r l : Str). both_by job.ratios job.em (c - i) r l (cell_at t z).own (cell_at t z).ownleft)
        (ap₂ (λ (w n : ℕ). record { width = w; count = n }) (own_at j i h here) (rubies-at j i h here)) (ap₂ (λ (w n : ℕ). record { width = w; count = n }) (own-left_by hl j i h here) (lefts-by hl j i h here))
        ∙ ap₂ (λ (a b : ℕ). both_by job.ratios job.em (c - i) (record { width = run_width Right job x k; count = run_at Right job x k }) (record { width = run_width Left job x k; count = run_at Left job x k }) a b)
        (own_at j z low high ∙ ap (run_width Right job x) (last x.base h l)) (own-left_by hl j z low high ∙ ap (run_width Left job x) (last x.base h l))
        ∙ both_word job x passed at j k (c - i) (omega arith) (omega arith) jl
      where
        rest : Rows → Word
        rest t =
            let a = cell_at t i in
            let z = cell_at t (c - 1) in
            part_by t.ratios t.em (c - i) (z.wide + z.own - a.wide) (z.ruby + z.rubies - a.ruby) (eqb a.over (over_with t.em z)) a.own z.own a.western

        last : (b : ℕ) → b ≤ i → i < c → c - 1 - b ≡ i - b + (c - i) - 1
        last b h l = omega arith

    pub part_join : cuts job x ≡ true → (i c : ℕ) → x.base ≤ i → i < c → c ≤ x.base + x.bases → cells.part t i c ≡ line.word_of job (part job x (i - x.base) (c - i))
    part_join j i c h l u = go (cut-gloss j)
      where
        go : (has_left x.gloss ≡ false) ⊎ (is_jukugo x.gloss ≡ true) → cells.part t i c ≡ line.word_of job (part job x (i - x.base) (c - i))
        go (inl e) = one-part e j i c h l u
        go (inr e) = both-part e j i c h l u

    -- all of a J of two or more is its part from the first character on
    part-all : cuts job x ≡ true → 1 < x.bases → part job x 0 x.bases ≡ x
    unfolding part
    part-all j l =
        go (form_of_part x.bases) (x.base + 0) (x.ruby + 0) (sum (entries job.run (x.run + 0) x.bases)) (x.run + 0) (left_of_part x.gloss x.bases) _ _ (x.leftrun + 0) _
        (rw (ne_eqb x.bases 1 (λ e. omega arith)) (sym (is_j_lem x.form (cut-is job x j).0))) (add-zero x.base) (add-zero x.ruby)
        (ap (λ u. sum (entries job.run u x.bases)) (add-zero x.run) ∙ sym (at.good.counts.whole (cut-is job x j).0)) (add-zero x.run)
        (rw (ne_eqb x.bases 1 (λ e. omega arith)) (same-gloss x.gloss)) (first (left_by_runs x.form x.gloss) ∙ add-zero x.left) (lefts (left_by_runs x.form x.gloss) refl) (add-zero x.leftrun)
        (rw at.whole (sym (cut-last job x at j)))
      where
        same-gloss : (k : LeftKind) → left_by k false ≡ k
        same-gloss left.N = refl
        same-gloss left.M = refl
        same-gloss left.G = refl
        same-gloss left.J = refl

        first : (b : Bool) → x.left + cond b 0 0 ≡ x.left + 0
        first true = refl
        first false = refl

        lefts : (b : Bool) → left_by_runs x.form x.gloss ≡ b → cond b (sum (entries job.left_run (x.leftrun + 0) x.bases)) 0 ≡ x.lefts
        lefts true e = ap (λ u. sum (entries job.left_run u x.bases)) (add-zero x.leftrun) ∙ sym (at.good.gloss.whole e)
        lefts false e = let q = cut-is job x j in sym (at.good.gloss.none (none_of-j x.form x.gloss q.0 q.1 e))

        go : (f : Form) (b r s u : ℕ) (g : LeftKind) (l m v : ℕ) (o : Bool) → f ≡ x.form → b ≡ x.base → r ≡ x.ruby → s ≡ x.rubies → u ≡ x.run →
            g ≡ x.gloss → l ≡ x.left → m ≡ x.lefts → v ≡ x.leftrun → o ≡ x.more →
            ◌≡◌ {A = Piece} (record { form = f; base = b; bases = x.bases; ruby = r; rubies = s; run = u; gloss = g; left = l; lefts = m; leftrun = v; more = o }) x
        go f b r s u g l m v o p q y w z c d e h k = rw (p, q, y, w, z, c, d, e, h, k)

    -- what of the word stands in a line from i up to c
    pub upto-part : cuts job x ≡ true → 1 < x.bases → (i c : ℕ) → x.base ≤ i → i < c → c ≤ x.base + x.bases → part job x (i - x.base) (c - i) ≡ upto job x i c
    upto-part j m i c h l u = go (dec_lt (c - i) x.bases)
      where
        none : (b n : ℕ) → b ≤ i → c ≤ b + n → n ≤ c - i → i - b ≡ 0
        none b n h u g = omega arith

        all : (b n : ℕ) → b ≤ i → c ≤ b + n → n ≤ c - i → c - i ≡ n
        all b n h u g = omega arith

        go : Dec (c - i < x.bases) → part job x (i - x.base) (c - i) ≡ upto job x i c
        go (yes g) = rw (j, lt-ltb (c - i) x.bases g)
        go (no g) =
            let whole : x.bases ≤ c - i = omega arith in
            ap₂ (part job x) (none x.base x.bases h u whole) (all x.base x.bases h u whole) ∙ part-all j m ∙ sym (rw (j, le-ltb (c - i) x.bases whole))

    pub upto-whole : is_cut job x ≡ false → (i c : ℕ) → i < c → upto job x i c ≡ x
    upto-whole e i c l = go (cuts job x) e
      where
        go : (b : Bool) → (b && ltb 1 x.bases) ≡ false → cond (b && ltb (c - i) x.bases) (part job x (i - x.base) (c - i)) x ≡ x
        go true f = rw (le-ltb (c - i) x.bases (omega (arith, ltb-false 1 x.bases f)))
        go false f = refl

    pub word-join : (i c : ℕ) → x.base ≤ i → i < c → c ≤ x.base + x.bases → word_at t i c ≡ line.word_of job (upto job x i c)
    unfolding word_at
    word-join i c h l u = go (is_cut job x) refl
      where
        go : (b : Bool) → is_cut job x ≡ b → word_at t i c ≡ line.word_of job (upto job x i c)
        go true e =
            let j = both (cuts job x) (ltb 1 x.bases) e in
            rw (cut_at i h (omega arith) ∙ e) (part_join j.0 i c h l u ∙ ap (line.word_of job) (upto-part j.0 (ltb-true 1 x.bases j.1) i c h l u))
        go false e = rw (cut_at i h (omega arith) ∙ e) (word_at_lem e i h (omega arith) ∙ sym (ap (line.word_of job) (upto-whole e i c l)))

    -- a depth is a P's alone
    on-upto : (d : Depths → ℕ) (i c : ℕ) → on_p x.form (d (depths_at job x.base)) ≡ on_p (upto job x i c).form (d (depths_at job (upto job x i c).base))
    unfolding part
    on-upto d i c = go (cuts job x) (ltb (c - i) x.bases) refl
      where
        on-j : (f : Form) (n : ℕ) → is_j f ≡ true → on_p f n ≡ 0
        on-j P n h = absurd (false≢true h)
        on-j M n h = absurd (false≢true h)
        on-j G n h = absurd (false≢true h)
        on-j J n h = refl

        on_part : (e : Bool) (n : ℕ) → on_p (cond e M J) n ≡ 0
        on_part true n = refl
        on_part false n = refl

        go : (b e : Bool) → cuts job x ≡ b →
            on_p x.form (d (depths_at job x.base))
            ≡ on_p (cond (b && e) (part job x (i - x.base) (c - i)) x).form (d (depths_at job (cond (b && e) (part job x (i - x.base) (c - i)) x).base))
        go false e j = refl
        go true false j = refl
        go true true j = on-j x.form _ (cut-is job x j).0 ∙ sym (on_part (eqb (c - i) 1) _)

    pub piece-join : (i c : ℕ) → x.base ≤ i → i < c → c ≤ x.base + x.bases → piece t i c ≡ seen job (upto job x i c)
    unfolding seen
    piece-join i c h l u =
        let o : i < x.base + x.bases = omega arith in
        ap (λ w. element_of w (cell_at t i).before (cell_at t i).after) (word-join i c h l u)
        ∙ ap₂ (element_of (line.word_of job (upto job x i c))) (before_at i h o ∙ on-upto (λ d. d.before) i c) (after-at i h o ∙ on-upto (λ d. d.after) i c)

    -- one piece more in the line
    pub the_piece : (s i c : ℕ) → max s x.base ≡ i → i < c → c ≤ x.base + x.bases → in_line job s c x ≡ upto job x i c ∷ []
    the_piece s i c e l u =
        in_by job s c x (i - x.base) (c - i) (ap (λ z. z - x.base) e) (long x.base x.bases e u)
        ∙ rw (ne_eqb (c - i) 0 (λ z. omega arith))
      where
        long : (b n : ℕ) → max s b ≡ i → c ≤ b + n → min c (b + n) - (b + (i - b)) ≡ c - i
        long b n e u = omega arith

    pub one : (s i c : ℕ) → max s x.base ≡ i → i < c → c ≤ x.base + x.bases → next (state_of job s x.base) (piece t i c) ≡ state_of job s c
    one s i c e l u =
        ap (λ z. next (state_of job s x.base) z) (piece-join i c (omega arith) l u)
        ∙ sym (state-more job s x.base c (upto job x i c) (into job x at s c (omega arith) u ∙ ap (λ z. pieces job s x.base ++ z) (the_piece s i c e l u)))

  -- The table is sound.

  module _ (x : Piece) (at : IsWord job x) where
    -- what the rows of a J have
    wide-small : cuts job x ≡ true → (k : ℕ) → k ≤ x.bases → wide_before job x k ≤ 262144
    wide-small j k h =
        omega (
          arith,
          wide-more job x k (x.bases - k),
          ap (wide_before job x) (back k x.bases h),
          ap (λ m. sum (entries job.ruby_width x.ruby m)) (at.good.counts.whole (cut-is job x j).0),
          readings-narrow job passed Right x.ruby x.rubies at.good.reads,
          at.good.counts.few_ruby,
        )
      where
        back : (a b : ℕ) → a ≤ b → b ≡ a + (b - a)
        back a b h = omega arith

    ran : cuts job x ≡ true → (i c : ℕ) → x.base ≤ i → i < c → c ≤ x.base + x.bases → Ran (cell_at t i) (cell_at t (c - 1))
    ran j i c h l u =
        let low : x.base ≤ c - 1 = omega arith in
        let high : c - 1 < x.base + x.bases = omega arith in
        let k = i - x.base in
        let r = ruby_with x at j (c - 1) low high ∙ ap (first_at Right job x) (top x.base h l) in
        let n = c - i in
        let inside = (within job x passed at j k n (omega arith) (omega arith)).0 in
        record {
          more = omega (arith, r, ruby_at x at j i h (omega arith), first_more Right job x k n, reads job x passed at j k n (omega arith) (omega arith));
          narrow = omega (arith, wide_with x at j (c - 1) low high, wide-small j (suc (c - 1 - x.base)) (omega arith));
          few = omega (arith, over-at x at j (c - 1) low high, longer-few job x (c - 1 - x.base), at.good.counts.few);
          ends = omega (arith, r, first_more Right job x k n, inside, passed.few_ruby);
          few_left = (left-small (cut-gloss x at j)).0;
          narrow_left = (left-small (cut-gloss x at j)).1;
        }
      where
        top : (b : ℕ) → b ≤ i → i < c → suc (c - 1 - b) ≡ i - b + (c - i)
        top b h l = omega arith

        left-small : (has_left x.gloss ≡ false) ⊎ (is_jukugo x.gloss ≡ true) → ((cell_at t i).lefts ≤ 4096) × ((cell_at t i).ownleft ≤ 262144)
        left-small (inl e) = (omega (arith, lefts_at x at e i h (omega arith)), omega (arith, own-lefts_at x at e i h (omega arith)))
        left-small (inr e) =
            let hl = has-jukugo x at x.gloss e in
            let q = cut-is job x j in
            let k = i - x.base in
            let f = left-fits job passed x at.good q.0 q.1 k 1 (omega arith) (omega arith) (runs_of-j x.form x.gloss q.0 hl q.1) in
            let m : run_at Left job x k ≤ 64 = omega (arith, f, at.good.gloss.few) in
            let w = readings-narrow job passed Left (first_at Left job x k) (run_at Left job x k) (omega (arith, f, at.good.left_reads)) in
            (omega (arith, lefts-by x at hl j i h (omega arith)), omega (arith, own-left_by x at hl j i h (omega arith), w))

    -- its word, where it is not cut
    -- the record of a row that is cut says nothing
    none-word : (i : ℕ) → x.base ≤ i → i < x.base + x.bases → is_cut job x ≡ true →
        (cell_at t i).word ≡ record { front = 0; len = 0; inbase = 0; right = word.none; left = left_reading (left_row_by job x (line.word_of job x) i) }
    unfolding row_of
    none-word i h l e = ap (λ z. z.word) (has x at i h l) ∙ rw e

    none-upto : (i : ℕ) → is_cut job x ≡ true → (left_reading (left_row_by job x (line.word_of job x) i)).upto ≡ 0
    none-upto i e = ap (λ (b : Bool). (cond b none (line.word_of job x)).left.upto) e

    none-long : (i : ℕ) → x.base ≤ i → i < x.base + x.bases → is_cut job x ≡ true → total (element_of (cell_at t i).word 0 0) ≤ 524288
    none-long i h l e = subst (λ w. total (element_of w 0 0) ≤ 524288) (sym (none-word i h l e)) (short (left_reading (left_row_by job x (line.word_of job x) i)) (none-upto i e))
      where
        short : (u : Reading) → u.upto ≡ 0 → total (element_of (record { front = 0; len = 0; inbase = 0; right = word.none; left = u }) 0 0) ≤ 524288
        short u q = go u.there
          where
            go : (b : Bool) → max (0 + 0) (max 0 (cond b u.upto 0)) ≤ 524288
            go true = omega arith
            go false = omega arith

    row-total : (i : ℕ) → x.base ≤ i → i < x.base + x.bases → total (element_of (cell_at t i).word (cell_at t i).before (cell_at t i).after) ≤ 524288
    unfolding seen
    row-total i h l = go (is_cut job x) refl
      where
        go : (b : Bool) → is_cut job x ≡ b → total (element_of (cell_at t i).word 0 0) ≤ 524288
        go true e = none-long i h l e
        go false e = subst (λ w. total (element_of w 0 0) ≤ 524288) (sym (word_at_lem x at e i h l)) (piece-short job x (whole-piece job passed x at.good at.whole))

    -- a row has ruby where its element has
    has_ruby_lem : (i : ℕ) → x.base ≤ i → i < x.base + x.bases → cells.has_ruby (cell_at t i) ≡ has_ruby x.form
    has_ruby_lem i h l = go (is_cut job x) refl
      where
        go : (b : Bool) → is_cut job x ≡ b → cells.has_ruby (cell_at t i) ≡ has_ruby x.form
        go true e = rw (cut_at x at i h l ∙ e) (sym (j-reads x.form (cut-is job x (both (cuts job x) (ltb 1 x.bases) e).0).0))
        go false e = rw (cut_at x at i h l ∙ e) (ap (λ w. w.right.there) (word_at_lem x at e i h l) ∙ (promise job x (whole-piece job passed x at.good at.whole)).right.is)

    never-cut : has_ruby x.form ≡ false → is_cut job x ≡ false
    never-cut p = go (is_cut job x) refl
      where
        go : (b : Bool) → is_cut job x ≡ b → b ≡ false
        go true e = absurd (true≢false (sym (j-reads x.form (cut-is job x (both (cuts job x) (ltb 1 x.bases) e).0).0) ∙ p))
        go false e = refl

    row_plain : (i : ℕ) → x.base ≤ i → i < x.base + x.bases → cells.has_ruby (cell_at t i) ≡ false → Plain (cell_at t i)
    row_plain i h l r =
        let p = sym (has_ruby_lem i h l) ∙ r in
        let e = word_at_lem x at (never-cut p) i h l in
        let g = whole-piece job passed x at.good at.whole in
        let k = promise job x g in
        let w = get_or job.width x.base 0 in
        let b = passed.base x.base (omega (arith, g.some, g.inside)) in
        let wide : 2 * w ≤ (line.word_of job x).len = omega (arith, k.block, sum_first job.width x.base x.bases g.some) in
        let deep = before-within job.profile (eqb x.base 0) (get_or job.class x.base 0) w (get_or job.before x.base 0) (get_or job.after x.base 0) job.em (omega (arith, b.blanks)) in
        record {
          word = e ∙ bare-word x.form (given job x) (gloss_of job x) p (plain-left x.form x.gloss p at.good.takes) ∙ ap bare (sym (ap (λ w. w.len) e));
          before = omega (arith, before_at x at i h l, ap (λ w. w.len) e, on_le x.form (depths_at job x.base).before (line.word_of job x).len (omega (arith, deep)));
        }

    row-flat : (i : ℕ) → x.base ≤ i → i < x.base + x.bases → cells.has_ruby (cell_at t i) ≡ true → Flat (cell_at t i)
    row-flat i h l r =
        let p = sym (has_ruby_lem i h l) ∙ r in
        record { before = before_at x at i h l ∙ on_none x.form _ p; after = after-at x at i h l ∙ on_none x.form _ p }

  row : (x : Piece) → IsWord job x → (i : ℕ) → x.base ≤ i → i < x.base + x.bases → Row t (base_count job) i
  row x at i h l =
      let b = bases-at x at i h l in
      let g = at.good in
      record {
        some = omega arith;
        few = omega (arith, g.counts.few);
        inside = omega (arith, g.inside);
        total = row-total x at i h l;
        plain = row_plain x at i h l;
        flat = row-flat x at i h l;
        follows = λ m. let u : i + 1 < x.base + x.bases = omega arith in let v : x.base ≤ i + 1 = omega arith in
            record { bases = omega (arith, bases-at x at (i + 1) v u); cut = cut_at x at i h l ∙ sym (cut_at x at (i + 1) v u); ends = ends_at x at i h l ∙ sym (ends_at x at (i + 1) v u) };
        runs = λ j c k u. ran x at (both (cuts job x) (ltb 1 x.bases) (sym (cut_at x at i h l) ∙ j)).0 i c h k (omega arith);
      }

  -- a J has characters of one em
  em-some : (x : Piece) → IsWord job x → cuts job x ≡ true → 0 < job.em
  em-some x at j = positive job.em x.bases (omega (arith, widths job x passed at j 0 x.bases at.good.counts.some (omega arith), (good job x passed at j 0 x.bases at.good.counts.some (omega arith)).ready.sized.some))
    where
      positive : (a n : ℕ) → 0 < a * n → 0 < a
      positive zero n h = absurd (omega (arith, zero-mul n))
      positive (suc a) n h = omega arith

  pub sound : Sound t (base_count job)
  sound =
      record {
        small = omega (arith, ems table, passed.em);
        house = subst Housed (sym (house table)) passed.house;
        few = passed.few_base;
        long = table.long;
        row = λ i h. let v = covers i h in row v.x (is_word job passed v.front v.rest v.x v.split) i v.from v.ahead;
        wide = λ i h c. let v = covers i h in
            let at = is_word job passed v.front v.rest v.x v.split in
            subst (λ m. 0 < m) (sym (ems table)) (em-some v.x at (both (cuts job v.x) (ltb 1 v.x.bases) (sym (cut_at v.x at i v.from v.ahead) ∙ c)).0);
      }

  -- on from a base character of an element
  on : (x : Piece) → IsWord job x → (s i c : ℕ) → max s x.base ≡ i → i < x.base + x.bases → i < c → c ≤ base_count job →
      (x.base + x.bases ≤ c → rest t (state_of job s (x.base + x.bases)) (x.base + x.bases) c ≡ state_of job s c) →
      rest t (state_of job s x.base) i c ≡ state_of job s c
  on x at s i c e g l u f =
      walk.step t (base_count job) sound st i c l u ∙ ap (λ z. rest t (next st (piece t i (stop t i c))) z c) end ∙ go (dec_lt c (x.base + x.bases))
    where
      st : State
      st = state_of job s x.base

      from : (s b : ℕ) → max s b ≡ i → b ≤ i
      from s b e = omega arith

      end : i + (cell_at t i).bases ≡ x.base + x.bases
      end = omega (arith, bases-at x at i (from s x.base e) g)

      upto-end : (d : ℕ) → stop t i c ≡ d → rest t (next st (piece t i (stop t i c))) (x.base + x.bases) c ≡ rest t (next st (piece t i d)) (x.base + x.bases) c
      upto-end d h = ap (λ z. rest t (next st (piece t i z)) (x.base + x.bases) c) h

      go : Dec (c < x.base + x.bases) → rest t (next st (piece t i (stop t i c))) (x.base + x.bases) c ≡ state_of job s c
      go (yes h) =
          upto-end c (walk.stop-within t i c (omega (arith, end)))
          ∙ walk.rest-none t (next st (piece t i c)) (x.base + x.bases) c (omega arith) ∙ one x at s i c e l (omega arith)
      go (no h) =
          upto-end (x.base + x.bases) (walk.stop-whole t i c (omega (arith, end)) ∙ end)
          ∙ ap (λ z. rest t z (x.base + x.bases) c) (one x at s i (x.base + x.bases) e g (omega arith))
          ∙ f (omega arith)

  -- on from an element's end
  walks : (front xs : List Piece) → words job ≡ front ++ xs → (i : ℕ) → BaseTiled i xs (base_count job) → (s c : ℕ) → s ≤ i → i ≤ c → c ≤ base_count job →
      rest t (state_of job s i) i c ≡ state_of job s c
  walks front [] e i b s c h l u = walk.rest-none t (state_of job s i) i c (omega arith) ∙ ap (state_of job s) (omega arith)
  walks front (x ∷ xs) e i b s c h l u =
      let at = is_word job passed front xs x e in
      go (dec_lt i c) at (λ k. walks (front ++ (x ∷ [])) xs (e ∙ sym (append_snoc front x xs)) (x.base + x.bases) (subst (λ z. BaseTiled (z + x.bases) xs (base_count job)) (sym b.0) b.1) s c (omega (arith, b.0)) k u)
    where
      go : Dec (i < c) → IsWord job x → (x.base + x.bases ≤ c → rest t (state_of job s (x.base + x.bases)) (x.base + x.bases) c ≡ state_of job s c) →
          rest t (state_of job s i) i c ≡ state_of job s c
      go (no k) at f = walk.rest-none t (state_of job s i) i c (omega arith) ∙ ap (state_of job s) (omega arith)
      go (yes k) at f =
          subst (λ z. rest t (state_of job s z) i c ≡ state_of job s c) b.0
          (on x at s i c (most s x.base b.0 h) (omega (arith, b.0, at.good.counts.some)) k u f)
        where
          most : (s y : ℕ) → y ≡ i → s ≤ i → max s y ≡ i
          most s y e h = omega arith

  -- THE JOIN: a line by rows is the job's line
  pub state-join : (s c : ℕ) → s < c → c ≤ base_count job → state_at t s c ≡ state_of job s c
  state-join s c l u =
      let v = covers s (omega arith) in
      let x = v.x in
      let at = is_word job passed v.front v.rest x v.split in
      subst (λ z. rest t z s c ≡ state_of job s c) (state-none job s x.base (none_before job x at s v.from))
      (on x at s s c (most s x.base v.from) v.ahead l u
      (λ k. walks (v.front ++ (x ∷ [])) v.rest (v.split ∙ sym (append_snoc v.front x v.rest)) (x.base + x.bases) v.tiled s c (omega (arith, v.ahead)) k u))
    where
      most : (s b : ℕ) → b ≤ s → max s b ≡ s
      most s b h = omega arith

  -- a line may end where the job permits it
  pub may_join : (c : ℕ) → 0 < c → c ≤ base_count job → may_end t (base_count job) c ≡ permitted job c
  may_join c l u =
      let v = covers (c - 1) (omega arith) in
      go v.x (is_word job passed v.front v.rest v.x v.split) v.from v.ahead (dec_lt c (v.x.base + v.x.bases))
    where
      inner : (x : Piece) → 1 < x.bases → is_cut job x ≡ cuts job x
      inner x h = rw (lt-ltb 1 x.bases h) (same (cuts job x))
        where
          same : (b : Bool) → (b && true) ≡ b
          same true = refl
          same false = refl

      go : (x : Piece) → IsWord job x → x.base ≤ c - 1 → c - 1 < x.base + x.bases → Dec (c < x.base + x.bases) → may_end t (base_count job) c ≡ permitted job c
      go x at h k (yes g) =
          rw (ne_eqb c (base_count job) (λ z. omega (arith, at.good.inside)), ne_eqb (cell_at t (c - 1)).bases 1 (λ z. omega (arith, bases-at x at (c - 1) h k)))
          (cut_at x at (c - 1) h k ∙ inner x (omega arith) ∙ sym (permitted-within job x at c (omega arith) g))
      go x at h k (no g) =
          let e : c ≡ x.base + x.bases = omega arith in
          rw (eq-eqb (cell_at t (c - 1)).bases 1 (omega (arith, bases-at x at (c - 1) h k)))
          (ap₂ (λ a b. eqb a (base_count job) || b) e (ends_at x at (c - 1) h k) ∙ sym (permitted-end job x at) ∙ ap (permitted job) (sym e))

  -- so lines end where the job's do
  holds-join : (s c : ℕ) → s < c → c ≤ base_count job → breaks (2 * job.measure) t (base_count job) s c ≡ (permitted job c && can_set job s c)
  holds-join s c l u = rw (may_join c (omega arith) u, state-join s c l u, can_set_lem job s c)

  best-join : (s k : ℕ) → s + k ≤ base_count job → last_of (breaks (2 * job.measure) t (base_count job) s) 0 s k ≡ best job s (s + k)
  unfolding last_of
  best-join s zero u = sym (best_none job s (s + 0) (omega arith))
  best-join s (suc k) u =
      rw (holds-join s (s + suc k) (omega arith) u, best-join s k (omega arith))
      (subst (λ c. cond (permitted job c && can_set job s c) c (best job s (s + k)) ≡ best job s c) (sym (one s k)) (sym (best-step job s (s + k) (omega arith))))
    where
      one : (s k : ℕ) → s + suc k ≡ s + k + 1
      one s k = omega arith

  pub end-join : (s : ℕ) → s ≤ base_count job → end_of (2 * job.measure) t (base_count job) s ≡ line.furthest job s
  unfolding end_of
  end-join s u = best-join s (base_count job - s) (omega arith) ∙ ap (best job s) (all s (base_count job) u) ∙ sym (best-all job s)
    where
      all : (s n : ℕ) → s ≤ n → s + (n - s) ≡ n
      all s n u = omega arith

  ends_join : (k s : ℕ) → s ≤ base_count job → cells.ends_from (2 * job.measure) t (base_count job) k s ≡ line.ends_from job k s
  unfolding cells.ends_from line.ends_from
  ends_join zero s u = refl
  ends_join (suc k) s u = rw (end-join s u) (go (line.furthest job s) (found-ahead job s) (λ e h. ends_join k e h))
    where
      go : (e : ℕ) → (e ≡ 0) ⊎ ((s < e) × (e ≤ base_count job)) → ((e : ℕ) → e ≤ base_count job → cells.ends_from (2 * job.measure) t (base_count job) k e ≡ line.ends_from job k e) →
          cond (eqb e 0) [] (e ∷ cells.ends_from (2 * job.measure) t (base_count job) k e) ≡ cond (eqb e 0) [] (e ∷ line.ends_from job k e)
      go e (inl z) f = rw (eq-eqb e 0 z)
      go e (inr z) f = rw (f e z.1)

  -- the lines of the table are the lines of the job
  pub lines_join : lines_of (2 * job.measure) t (base_count job) ≡ line.ends job
  unfolding lines_of line.ends
  lines_join = ends_join (base_count job) 0 zero-le

  -- and so is the refusal: the lines fill the job, or the last one's end is the place of number 11
  pub faults-join : lines_faults job ≡ cond (eqb (last_or 0 (line.ends job)) (base_count job)) [] (NoBreak (last_or 0 (line.ends job)) ∷ [])
  faults-join = go (lines-way job passed)
    where
      last : (s d : ℕ) (es : List ℕ) → Chain job s es d → last_or s es ≡ d
      last s d [] c = c
      last s d (e ∷ es) c = last e d es c.1

      go : Way job 0 (line.ends job) (lines_faults job) → lines_faults job ≡ cond (eqb (last_or 0 (line.ends job)) (base_count job)) [] (NoBreak (last_or 0 (line.ends job)) ∷ [])
      go (inl w) = w.0 ∙ rw (eq-eqb (last_or 0 (line.ends job)) (base_count job) (last 0 (base_count job) (line.ends job) w.1))
      go (inr w) =
          let e = last 0 w.place (line.ends job) w.lines in
          w.fault ∙ rw (e, ne_eqb w.place (base_count job) (λ z. omega (arith, w.more)))
