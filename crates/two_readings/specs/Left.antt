-- A word with a left reading, laid: level one is lent its parts on either side, and its rows are written with it; of a J with a mono left reading those of each character.
use Rattle.std.specs.Prelude.{◌≡◌, Bool, cond, not, ◌&&◌, ◌||◌, List, [], ℕ, zero, suc, ◌+◌, ◌-◌, ◌≤◌, ◌<◌, eqb, length, get_or, take, drop, Result}
use Rattle.std.proofs.Math.Path.{refl}
use Rattle.std.proofs.Common.{sym, ap, ap₂, ◌∙◌, true≢false, zero-le, add-zero, arith}
use Rattle.std.proofs.Math.Bool.{true, false}
use Rattle.std.proofs.lemmas.Bool.{false≢true}
use borrow.Author.Tests.{ltb-true, ltb-false, not-true}
use Rattle.std.proofs.Math.Dec.{ltb}
use Rattle.basics.specs.Lists.{sum}
use Rattle.basics.specs.Laws.{or_none}
use Rattle.refusal.specs.declared.Refusal.{Refusal}
use Rattle.spread.specs.Ratio.{Ratios, usual, Housed}
use Rattle.word.specs.declared.Form.{Form}
use Rattle.word.specs.declared.Form.TheVariants.{P, M, G, J}
use Rattle.word.specs.declared.Left.{Left as LeftKind}
use Rattle.word.specs.declared.Left.TheVariants as left
use Rattle.word.specs.declared.Reading.{Reading}
use Rattle.word.specs.declared.Str.{Str}
use Rattle.word.specs.declared.Word.{Word}
use Rattle.word.specs.declared.Base.{Base}
use Rattle.word.specs.declared.RunStrand.{RunStrand}
use Rattle.word.specs.declared.Answer.{Answer}
use Rattle.word.specs.Given.{Given, is_j}
use Rattle.word.specs.Alone.{split, any_longer}
use Rattle.word.specs.Both.{Gloss, has_left, takes, apart, is_group, is_jukugo, uncut}
use Rattle.word.specs.Sides.{Strings, strings, str_of, reading_over, sided, monos_word, jukugos_word, jukugos_by, two_by, word_two}
use Rattle.word.specs.Sides as sides
use Rattle.word.specs.Answered.{LeftReady, answer_both}
use Rattle.word.specs.Summed.{given_base, ems-wide, run_strand_of, runs_fit-em, JukugosReady, both_by, both_by_lem}
use Rattle.line.specs.declared.Side.{Side}
use Rattle.line.specs.declared.Side.TheVariants.{Right, Left}
use Rattle.cells.specs.declared.Cell.{Cell}
use Rattle.cells.specs.declared.LeftRow.{LeftRow}
use Rattle.cells.specs.Cells.{beside}
use Rattle.door.specs.declared.Piece.{Piece}
use Rattle.door.specs.Job.{Job, entries, left_by_runs, takes_runs, takes_left_runs, given, gloss_of}
use Rattle.door.specs.Entries.{part_of, length-entries}
use Rattle.door.specs.Loop.{runs-few, left_runs-few}
use Rattle.door.specs.Walk.{jukugo-runs}
use Rattle.job.specs.Line.{part, cuts, word_of}
use Rattle.job.specs.Laws.{both}
use Rattle.job.specs.Words.{is_j_lem}
use Rattle.job.proofs.Apart.{apart-is}
use Rattle.join.specs.Rows.{runs_of, run_of, first_at, run_at, run_width, row_by, left_row_by, ends_behind}
use Rattle.word_rows.specs.Table.{Filled}
use Rattle.word_rows.specs.Runs.{both_only, runs_only, Runs, run-reads, HasRuns, own_word}
use Rattle.word_rows.specs.Word.{word_row_lem, flagged, WordReady, Judged}

-- of left readings only these lists matter
abbrev pub lefts_only : List ℕ → List ℕ → Job
lefts_only left_width left_run = both_only usual 0 [] [] [] [] [] [] [] [] [] left_width left_run

-- where the runs of a side lie, other lists than its own have no part in
module _ {ratios : Ratios} {em : ℕ} {class width before after flag ruby_class ruby_width run left_class left_width left_run : List ℕ} {x : Piece} where
  pub right_as : {e : ℕ} {classes : List ℕ} → Runs Right (runs_only e classes ruby_width run) x →
      Runs Right (both_only ratios em class width before after flag ruby_class ruby_width run left_class left_width left_run) x
  right_as r = record { few = r.few; small = r.small; runs = r.runs; few_runs = r.few_runs; many = r.many; width = r.width; narrow = r.narrow; each = r.each }

  pub left_as : Runs Left (lefts_only left_width left_run) x → Runs Left (both_only ratios em class width before after flag ruby_class ruby_width run left_class left_width left_run) x
  left_as r = record { few = r.few; small = r.small; runs = r.runs; few_runs = r.few_runs; many = r.many; width = r.width; narrow = r.narrow; each = r.each }

-- what a row is given of the left reading v
abbrev pub left_row_of : Reading → ℕ → ℕ → ℕ → Bool → LeftRow
left_row_of v first many own more = record { from = v.from; upto = v.upto; within = v.within; runs = v.runs; first = first; many = many; own = own; more = more }

-- of an element that is one word and is not cut, and of base character i of a J that is laid by runs
abbrev pub left_row : Piece → Reading → LeftRow
left_row x v = left_row_of v x.left x.lefts 0 x.more

abbrev pub left_run_row : Job → Piece → Reading → ℕ → LeftRow
left_run_row job x v i = let k = i - x.base in left_row_of v (first_at Left job x k) (run_at Left job x k) (run_width Left job x k) x.more

module _ (job : Job) (x : Piece) (w : Word) (i : ℕ) where
  pub left_word : cuts job x ≡ false → left_row x w.left ≡ left_row_by job x w i
  left_word c = rw (c, add-zero x.left)

  pub left_run_lem : cuts job x ≡ true → has_left x.gloss ≡ true → left_run_row job x (own_word x w).left i ≡ left_row_by job x w i
  left_run_lem c h = rw (c, h)

-- a row with its left reading
abbrev pub own_row : Job → Piece → Word → Bool → ℕ → Cell
own_row job x w ends i = beside (row_by job x w ends 0 0 i) (left_row_by job x w i)

-- "a J with a mono left reading is set as one such M for each character"
abbrev pub character_row : Job → Piece → ℕ → Cell
character_row job x i = let y = part job x (i - x.base) 1 in own_row job y (word_of job y) (ends_behind job y) i

-- the row of base character i of a word with a left reading
abbrev pub both_row : Job → Piece → Word → ℕ → Cell
both_row job x w i = cond (apart x.form x.gloss) (character_row job x i) (own_row job x w (flagged job x) i)

-- its rows, by level one's answer
abbrev pub WrittenBy : Answer → (Word → ℕ → Cell) → Piece → List Cell → List Cell → Result Piece Refusal → Type 0
WrittenBy a row x was t s = Judged a (λ w. Filled (row w) x.base (x.base + x.bases) was t) x was t s

-- whether it is cut, its record says: only runs that stand over their own characters have a part

by_word : (form : Form) (k : LeftKind) (w : Given) (cs ws rs : List ℕ) → has_left k ≡ true → takes form k ≡ true → apart form k ≡ false →
    (is_j form && not (uncut k (any_longer w.em (split w.run w.ruby_width) || any_longer w.em (split rs ws))))
    ≡ (sides.word_of form w (record { kind = k; class = cs; width = ws; run = rs })).right.runs
unfolding sides.word_of word_two two_by jukugos_by jukugos_word sided reading_over
by_word form left.N w cs ws rs h t a = absurd (false≢true h)
by_word P left.M w cs ws rs h t a = absurd (false≢true t)
by_word P left.G w cs ws rs h t a = absurd (false≢true t)
by_word P left.J w cs ws rs h t a = absurd (false≢true t)
by_word M left.M w cs ws rs h t a = refl
by_word M left.G w cs ws rs h t a = absurd (false≢true t)
by_word M left.J w cs ws rs h t a = absurd (false≢true t)
by_word G left.M w cs ws rs h t a = absurd (false≢true t)
by_word G left.G w cs ws rs h t a = refl
by_word G left.J w cs ws rs h t a = absurd (false≢true t)
by_word J left.M w cs ws rs h t a = absurd (true≢false a)
by_word J left.G w cs ws rs h t a = refl
by_word J left.J w cs ws rs h t a = go (any_longer w.em (split w.run w.ruby_width) || any_longer w.em (split rs ws)) _ _ refl refl
  where
    go : (t : Bool) (u v : Word) → u.right.runs ≡ false → v.right.runs ≡ true → not t ≡ (cond t u v).right.runs
    go true u v e f = sym e
    go false u v e f = sym f

pub cuts-by_word : (job : Job) (x : Piece) → has_left x.gloss ≡ true → takes x.form x.gloss ≡ true → apart x.form x.gloss ≡ false → cuts job x ≡ (word_of job x).right.runs
unfolding cuts
cuts-by_word job x h t a = let g = gloss_of job x in by_word x.form x.gloss (given job x) g.class g.width g.run h t a

-- Level one is lent parts of the lists; runs that a form or a left kind does not read it is not lent.

unread : (form : Form) (k : LeftKind) → has_left k ≡ true → takes form k ≡ true → (place em : ℕ) (h : Ratios) (bc bs bb ba rc rs run lc ls lrun : List ℕ) (u v n : ℕ) →
    answer_both form place (record { em = em; ratios = h; class = bc; width = bs; before = bb; after = ba; ruby_class = rc; ruby_width = rs; run = entries run u (takes_runs form n) })
    (record { kind = k; class = lc; width = ls; run = entries lrun v (takes_left_runs form k n) })
    ≡ answer_both form place (record { em = em; ratios = h; class = bc; width = bs; before = bb; after = ba; ruby_class = rc; ruby_width = rs; run = entries run u n })
    (record { kind = k; class = lc; width = ls; run = entries lrun v n })
unfolding answer_both sides.word_of word_two two_by jukugos_by
unread form left.N h t place em r bc bs bb ba rc rs run lc ls lrun u v n = absurd (false≢true h)
unread P left.M h t place em r bc bs bb ba rc rs run lc ls lrun u v n = absurd (false≢true t)
unread P left.G h t place em r bc bs bb ba rc rs run lc ls lrun u v n = absurd (false≢true t)
unread P left.J h t place em r bc bs bb ba rc rs run lc ls lrun u v n = absurd (false≢true t)
unread M left.M h t place em r bc bs bb ba rc rs run lc ls lrun u v n = refl
unread M left.G h t place em r bc bs bb ba rc rs run lc ls lrun u v n = absurd (false≢true t)
unread M left.J h t place em r bc bs bb ba rc rs run lc ls lrun u v n = absurd (false≢true t)
unread G left.M h t place em r bc bs bb ba rc rs run lc ls lrun u v n = absurd (false≢true t)
unread G left.G h t place em r bc bs bb ba rc rs run lc ls lrun u v n = refl
unread G left.J h t place em r bc bs bb ba rc rs run lc ls lrun u v n = absurd (false≢true t)
unread J left.M h t place em r bc bs bb ba rc rs run lc ls lrun u v n = refl
unread J left.G h t place em r bc bs bb ba rc rs run lc ls lrun u v n = refl
unread J left.J h t place em r bc bs bb ba rc rs run lc ls lrun u v n = refl

pub runs-all : (form : Form) (n : ℕ) → is_j form ≡ true → takes_runs form n ≡ n
runs-all P n h = absurd (false≢true h)
runs-all M n h = absurd (false≢true h)
runs-all G n h = absurd (false≢true h)
runs-all J n h = refl

-- a word with a left reading within its lists, and room for its rows
pub record BothReady (job : Job) (x : Piece) (t : List Cell) : Type 0 where
  pub word : WordReady job x t
  pub few : x.bases ≤ 32
  pub few_lefts : x.left + x.lefts ≤ 4096
  pub few_runs : x.run ≤ 4096
  pub few_left_runs : x.leftrun ≤ 4096
  pub class : x.base + x.bases ≤ length job.class
  pub ruby_class : x.ruby + x.rubies ≤ length job.ruby_class
  pub run : x.run + takes_runs x.form x.bases ≤ length job.run
  pub left_class : x.left + x.lefts ≤ length job.left_class
  pub left_width : x.left + x.lefts ≤ length job.left_width
  pub left_run : x.leftrun + takes_left_runs x.form x.gloss x.bases ≤ length job.left_run
  pub taken : takes x.form x.gloss ≡ true
  pub ready : LeftReady x.form x.gloss (given job x).width (given job x).ruby_width (given job x).run (gloss_of job x).width (gloss_of job x).run
  pub whole : x.more ≡ false
  pub jukugo : is_j x.form ≡ true → HasRuns (runs_only job.em job.ruby_class job.ruby_width job.run) x t
  pub lefts : left_by_runs x.form x.gloss ≡ true → Runs Left (lefts_only job.left_width job.left_run) x

-- Level one is asked by what it wants to know of either reading.

pub record StrandReady (first many run taken : ℕ) (cs ws rs : List ℕ) : Type 0 where
  pub few : first + many ≤ 4096
  pub short : many ≤ 64
  pub class : first + many ≤ length cs
  pub width : first + many ≤ length ws
  pub narrow : sum (entries ws first many) ≤ 262144
  pub few_runs : run + taken ≤ 8192
  pub runs : run + taken ≤ length rs
  pub whole : sum (entries rs run taken) ≤ many

abbrev pub strand_in : ℕ → ℕ → ℕ → ℕ → ℕ → List ℕ → List ℕ → List ℕ → RunStrand
strand_in em first many run taken cs ws runs = run_strand_of em (entries cs first many) (entries ws first many) (entries runs run taken)

module _ (em first many run taken : ℕ) (cs ws runs : List ℕ) (h : StrandReady first many run taken cs ws runs) where
  pub strand_lent :
      run_strand_of em (take (first + many - first) (drop first cs)) (take (first + many - first) (drop first ws)) (take (run + taken - run) (drop run runs))
      ≡ strand_in em first many run taken cs ws runs
  strand_lent = rw (part_of cs first many h.class, part_of ws first many h.width, part_of runs run taken h.runs)

  pub strand_small :
      let u = take (first + many - first) (drop first ws) in
      (length u ≤ 64) × (sum u ≤ 262144) × (sum (take (run + taken - run) (drop run runs)) ≤ length u)
  strand_small =
      rw (part_of ws first many h.width, part_of runs run taken h.runs)
      (omega (arith, length-entries ws first many, h.short), h.narrow, omega (arith, length-entries ws first many, h.whole))

-- runs that are not read are none
runs-sum : (form : Form) (run : List ℕ) (u n m : ℕ) → (is_j form ≡ true → sum (entries run u n) ≡ m) → sum (entries run u (takes_runs form n)) ≤ m
runs-sum P run u n m e = zero-le
runs-sum M run u n m e = zero-le
runs-sum G run u n m e = zero-le
runs-sum J run u n m e = omega (arith, e refl)

left_runs-sum : (form : Form) (k : LeftKind) (run : List ℕ) (u n m : ℕ) → takes form k ≡ true → (is_j form ≡ true → is_group k ≡ false → sum (entries run u n) ≡ m) →
    sum (entries run u (takes_left_runs form k n)) ≤ m
left_runs-sum P left.N run u n m t e = zero-le
left_runs-sum P left.M run u n m t e = absurd (false≢true t)
left_runs-sum P left.G run u n m t e = absurd (false≢true t)
left_runs-sum P left.J run u n m t e = absurd (false≢true t)
left_runs-sum M left.N run u n m t e = zero-le
left_runs-sum M left.M run u n m t e = zero-le
left_runs-sum M left.G run u n m t e = absurd (false≢true t)
left_runs-sum M left.J run u n m t e = absurd (false≢true t)
left_runs-sum G left.N run u n m t e = zero-le
left_runs-sum G left.M run u n m t e = absurd (false≢true t)
left_runs-sum G left.G run u n m t e = zero-le
left_runs-sum G left.J run u n m t e = absurd (false≢true t)
left_runs-sum J left.N run u n m t e = zero-le
left_runs-sum J left.M run u n m t e = omega (arith, e refl refl)
left_runs-sum J left.G run u n m t e = zero-le
left_runs-sum J left.J run u n m t e = omega (arith, e refl refl)

module _ (job : Job) (x : Piece) {t : List Cell} (h : BothReady job x t) where
  abbrev pub right_in : RunStrand
  right_in = strand_in job.em x.ruby x.rubies x.run (takes_runs x.form x.bases) job.ruby_class job.ruby_width job.run

  abbrev pub left_in : RunStrand
  left_in = strand_in job.em x.left x.lefts x.leftrun (takes_left_runs x.form x.gloss x.bases) job.left_class job.left_width job.left_run

  pub right-ready : StrandReady x.ruby x.rubies x.run (takes_runs x.form x.bases) job.ruby_class job.ruby_width job.run
  right-ready =
      let s = h.ready.sized in
      let n = length-entries job.ruby_width x.ruby x.rubies in
      record {
        few = h.word.few_ruby;
        short = omega (arith, n, s.few_ruby);
        class = h.ruby_class;
        width = h.word.ruby_width;
        narrow = s.narrow_ruby;
        few_runs = omega (arith, runs-few x.form x.bases, h.few, h.few_runs);
        runs = h.run;
        whole = runs-sum x.form job.run x.run x.bases x.rubies (λ j. s.whole j ∙ n);
      }

  pub left-ready : StrandReady x.left x.lefts x.leftrun (takes_left_runs x.form x.gloss x.bases) job.left_class job.left_width job.left_run
  left-ready =
      let g = h.ready.gloss in
      let n = length-entries job.left_width x.left x.lefts in
      record {
        few = h.few_lefts;
        short = omega (arith, n, g.few);
        class = h.left_class;
        width = h.left_width;
        narrow = g.narrow;
        few_runs = omega (arith, left_runs-few x.form x.gloss x.bases, h.few, h.few_left_runs);
        runs = h.left_run;
        whole = left_runs-sum x.form x.gloss job.left_run x.leftrun x.bases x.lefts h.taken (λ j g. h.ready.whole j g ∙ n);
      }

  -- what it asks for, and what it answers
  module _ {b : Base} {r l : RunStrand} (e : b ≡ given_base x.form (given job x)) (f : r ≡ right_in) (g : l ≡ left_in) where
    pub both-asks : Strings b.string r.strand.string l.strand.string × (is_j x.form ≡ true → JukugosReady job.em b r l)
    both-asks =
        rw (e, f, g) (
          strings (given job x).width (given job x).ruby_width (gloss_of job x).width h.word.small h.ready.gloss,
          λ j. record {
            wide = λ u. ems-wide x.form job.em (given job x).width h.ready.sized.some j u;
            right = runs_fit-em job.em (given job x).ruby_class (given job x).ruby_width (entries job.run x.run (takes_runs x.form x.bases));
            left = runs_fit-em job.em (gloss_of job x).class (gloss_of job x).width (entries job.left_run x.leftrun (takes_left_runs x.form x.gloss x.bases));
          },
        )

    pub both_told : (place : ℕ) {u : Ratios} → u ≡ job.ratios → both_by x.form x.gloss place u job.em b r l ≡ answer_both x.form place (given job x) (gloss_of job x)
    both_told place i =
        rw (i, e, f, g)
        (sym (both_by_lem read read_left x.form place h.ready.ruby h.ready.here)
        ∙ unread x.form x.gloss h.ready.here h.taken place job.em job.ratios (given job x).class (given job x).width (given job x).before (given job x).after
        (given job x).ruby_class (given job x).ruby_width job.run (gloss_of job x).class (gloss_of job x).width job.left_run x.run x.leftrun x.bases)
      where
        read : Given
        read =
            let w = given job x in
            record {
              em = w.em;
              ratios = w.ratios;
              class = w.class;
              width = w.width;
              before = w.before;
              after = w.after;
              ruby_class = w.ruby_class;
              ruby_width = w.ruby_width;
              run = entries job.run x.run (takes_runs x.form x.bases);
            }

        read_left : Gloss
        read_left =
            let w = gloss_of job x in
            record { kind = w.kind; class = w.class; width = w.width; run = entries job.left_run x.leftrun (takes_left_runs x.form x.gloss x.bases) }

-- One character of a J with a mono left reading, by its numbers: its word, and its row with its left reading.

abbrev pub character_word : Job → Piece → ℕ → Word
character_word job x i =
    let k = i - x.base in
    monos_word job.ratios job.em (record { width = get_or job.width i 0; count = 1 }) (record { width = run_width Right job x k; count = run_at Right job x k })
    (record { width = run_width Left job x k; count = run_at Left job x k })

abbrev pub character_more : Piece → ℕ → Bool
character_more x i = ltb (i + 1) (x.base + x.bases)

abbrev pub cell_of : Word → Bool → ℕ → ℕ → Cell
cell_of w ends ruby rubies =
    record {
      bases = 1;
      cut = false;
      ends = ends;
      word = w;
      before = 0;
      after = 0;
      ruby = ruby;
      rubies = rubies;
      left = 0;
      lefts = 0;
      own = 0;
      wide = 0;
      over = 0;
      western = false;
      ownleft = 0;
      more = false;
    }

abbrev pub character_cell : Job → Piece → Bool → ℕ → Cell
character_cell job x ends i = let k = i - x.base in cell_of (character_word job x i) (character_more x i || ends) (first_at Right job x k) (run_at Right job x k)

abbrev pub character_left : Job → Piece → ℕ → LeftRow
character_left job x i = let k = i - x.base in left_row_of (character_word job x i).left (first_at Left job x k) (run_at Left job x k) 0 (character_more x i)

-- both rows
abbrev pub character_both : Job → Piece → Bool → ℕ → Cell
character_both job x ends i = beside (character_cell job x ends i) (character_left job x i)

-- what the writing of them asks for
pub record Characters (job : Job) (x : Piece) (t : List Cell) : Type 0 where
  pub few : x.base + x.bases ≤ 1024
  pub width : x.base + x.bases ≤ length job.width
  pub narrow : sum (entries job.width x.base x.bases) ≤ 131072
  pub house : Housed job.ratios
  pub right : Runs Right job x
  pub left : Runs Left job x
  pub held : x.base + x.bases ≤ length t

-- its word is one that level one sets
entry-most : (xs : List ℕ) (a n k : ℕ) → k < n → get_or xs (a + k) 0 ≤ sum (entries xs a n)
entry-most xs a zero k h = absurd (omega arith)
entry-most xs a (suc n) zero h = omega (arith, ap (λ z. get_or xs z 0) (add-zero a))
entry-most xs a (suc n) (suc k) h = omega (arith, entry-most xs (suc a) n k (omega arith), ap (λ z. get_or xs z 0) (move a k))
  where
    move : (a k : ℕ) → a + suc k ≡ suc a + k
    move a k = omega arith

pub character_strings : (job : Job) (x : Piece) (t : List Cell) → Characters job x t → (i : ℕ) → x.base ≤ i → i < x.base + x.bases →
    let k = i - x.base in
    Strings (record { width = get_or job.width i 0; count = 1 }) (record { width = run_width Right job x k; count = run_at Right job x k })
    (record { width = run_width Left job x k; count = run_at Left job x k })
character_strings job x t h i l m =
    let k = i - x.base in
    let r = run-reads Right job x h.right k (omega arith) in
    let q = run-reads Left job x h.left k (omega arith) in
    let e : x.base + k ≡ i = omega arith in
    record {
      base = record { some = omega arith; few = omega arith };
      right = record { some = r.some; few = omega (arith, r.few) };
      left = record { some = q.some; few = omega (arith, q.few) };
      narrow = omega (arith, entry-most job.width x.base x.bases k (omega arith), ap (λ z. get_or job.width z 0) e, h.narrow);
      narrow_right = omega (arith, r.narrow, r.own);
      narrow_left = omega (arith, q.narrow, q.own);
    }

-- these are the rows of the M that the character is

mono-word : (w : Given) (cs ws rs : List ℕ) →
    sides.word_of M w (record { kind = left.M; class = cs; width = ws; run = rs }) ≡ monos_word w.ratios w.em (str_of w.width) (str_of w.ruby_width) (str_of ws)
unfolding sides.word_of word_two two_by
mono-word w cs ws rs = refl

str_of_lem : (ws : List ℕ) (a m : ℕ) → str_of (entries ws a m) ≡ record { width = sum (entries ws a m); count = m }
str_of_lem ws a m = ap {B = Str} (λ c. record { width = sum (entries ws a m); count = c }) (length-entries ws a m)

-- a row with its left reading, by what differs from one character to the next
abbrev shown : ℕ → Bool → Word → ℕ → ℕ → ℕ → ℕ → Bool → Cell
shown n ends w r m l q more =
    record {
      bases = n;
      cut = false;
      ends = ends;
      word =
          record {
            front = w.front;
            len = w.len;
            inbase = w.inbase;
            right = w.right;
            left = record { there = ltb 0 q; from = w.left.from; upto = w.left.upto; within = w.left.within; runs = w.left.runs };
          };
      before = 0;
      after = 0;
      ruby = r;
      rubies = m;
      left = l;
      lefts = q;
      own = 0;
      wide = 0;
      over = 0;
      western = false;
      ownleft = 0;
      more = more;
    }

module _ (job : Job) (x : Piece) (i : ℕ) (separate : apart x.form x.gloss ≡ true) (l : x.base ≤ i) (h : i < x.base + x.bases) where
  abbrev at : ℕ
  at = i - x.base

  abbrev y : Piece
  y = part job x at 1

  jukugo : x.form ≡ J
  jukugo = is_j_lem x.form (apart-is x.form x.gloss separate).0

  mono : x.gloss ≡ left.M
  mono = (apart-is x.form x.gloss separate).1

  here : x.base + at ≡ i
  here = omega (arith, l)

  its_bases : y.base + y.bases - i ≡ 1
  unfolding part
  its_bases = omega (arith, l)

  its_more : y.more ≡ character_more x i
  unfolding part
  its_more = rw separate (same (ltb (at + 1) x.bases) (character_more x i) refl refl)
    where
      same : (a b : Bool) → ltb (at + 1) x.bases ≡ a → character_more x i ≡ b → a ≡ b
      same true true e f = refl
      same false false e f = refl
      same true false e f = absurd (omega (arith, ltb-true (at + 1) x.bases e, ltb-false (i + 1) (x.base + x.bases) f, here))
      same false true e f = absurd (omega (arith, ltb-false (at + 1) x.bases e, ltb-true (i + 1) (x.base + x.bases) f, here))

  its_ends : ends_behind job y ≡ (character_more x i || flagged job x)
  its_ends = ap (λ t. t || flagged job y) its_more ∙ go (character_more x i) refl
    where
      go : (t : Bool) → character_more x i ≡ t → (t || flagged job y) ≡ (t || flagged job x)
      go true e = refl
      go false e = ap (λ n. eqb (get_or job.flag (n - 1) 0) 1) (omega (arith, its_bases, ltb-false (i + 1) (x.base + x.bases) e, h))

  one-run : (side : Side) → sum (entries (runs_of side job) (run_of side x + at) 1) ≡ run_at side job x at
  one-run side = add-zero (run_at side job x at)

  its_rubies : y.rubies ≡ run_at Right job x at
  unfolding part
  its_rubies = one-run Right

  its_left : y.left ≡ first_at Left job x at
  unfolding part
  its_left = rw (jukugo, mono)

  its_lefts : y.lefts ≡ run_at Left job x at
  unfolding part
  its_lefts = rw (jukugo, mono) (one-run Left)

  its_ruby : y.ruby ≡ first_at Right job x at
  unfolding part
  its_ruby = refl

  its_base : (y.base ≡ i) × (y.bases ≡ 1)
  unfolding part
  its_base = (here, refl)

  its_form : y.form ≡ M
  unfolding part
  its_form = refl

  its_gloss : y.gloss ≡ left.M
  unfolding part
  its_gloss = rw mono

  its_word : word_of job y ≡ character_word job x i
  its_word =
      let w = given job y in
      let g = gloss_of job y in
      ap (λ f. sides.word_of f w g) its_form ∙ ap (λ k. sides.word_of M w (record { kind = k; class = g.class; width = g.width; run = g.run })) its_gloss ∙ mono-word w g.class g.width g.run
      ∙ three _ _ _ (ap₂ (λ a n. str_of (entries job.width a n)) its_base.0 its_base.1 ∙ ap {B = Str} (λ n. record { width = n; count = 1 }) (add-zero (get_or job.width i 0)))
      (ap₂ (λ a n. str_of (entries job.ruby_width a n)) its_ruby its_rubies ∙ str_of_lem job.ruby_width (first_at Right job x at) (run_at Right job x at))
      (ap₂ (λ a n. str_of (entries job.left_width a n)) its_left its_lefts ∙ str_of_lem job.left_width (first_at Left job x at) (run_at Left job x at))
    where
      three : (a b c : Str) {a' b' c' : Str} → a ≡ a' → b ≡ b' → c ≡ c' → monos_word job.ratios job.em a b c ≡ monos_word job.ratios job.em a' b' c'
      three a b c e f g = rw (e, f, g)

  its_cuts : cuts job y ≡ false
  unfolding part cuts
  its_cuts = refl

  pub its_row : character_both job x (flagged job x) i ≡ character_row job x i
  its_row =
      let w = word_of job y in
      let e = ends_behind job y in
      sym (ap₂ beside (sym (word_row_lem job y w e 0 0 i its_cuts)) (sym (left_word job y w i its_cuts))
      ∙ same _ _ _ _ _ _ _ _ its_bases its_ends its_word its_ruby its_rubies its_left its_lefts its_more)
    where
      same : (n : ℕ) (e : Bool) (w : Word) (r m l q : ℕ) (o : Bool) {n' : ℕ} {e' : Bool} {w' : Word} {r' m' l' q' : ℕ} {o' : Bool} →
          n ≡ n' → e ≡ e' → w ≡ w' → r ≡ r' → m ≡ m' → l ≡ l' → q ≡ q' → o ≡ o' → shown n e w r m l q o ≡ shown n' e' w' r' m' l' q' o'
      same n e w r m l q o a b c d f g h i = rw (a, b, c, d, f, g, h, i)

-- The rows of a word with a left reading, by the way it is laid: each character by itself, by runs, or as one word.

abbrev pub laid_row : Job → Piece → Word → ℕ → Cell
laid_row job x w i = cond (apart x.form x.gloss) (character_both job x (flagged job x) i) (own_row job x w (flagged job x) i)

pub laid_both : (job : Job) (x : Piece) (w : Word) (i : ℕ) → x.base ≤ i → i < x.base + x.bases → laid_row job x w i ≡ both_row job x w i
laid_both job x w i l h = go (apart x.form x.gloss) refl
  where
    go : (t : Bool) → apart x.form x.gloss ≡ t →
        cond t (character_both job x (flagged job x) i) (own_row job x w (flagged job x) i) ≡ cond t (character_row job x i) (own_row job x w (flagged job x) i)
    go true e = its_row job x i e l h
    go false e = refl

-- what the writing of its rows asks for, of a word that is not taken apart
pub record WholePut (job : Job) (x : Piece) (w : Word) (t : List Cell) : Type 0 where
  pub some : 0 < x.bases
  pub few : x.base + x.bases ≤ 1024
  pub few_ruby : x.ruby + x.rubies ≤ 4096
  pub few_lefts : x.left + x.lefts ≤ 4096
  pub here : has_left x.gloss ≡ true
  pub parted : cuts job x ≡ w.right.runs
  pub jukugo : is_j x.form ≡ true → HasRuns (runs_only job.em job.ruby_class job.ruby_width job.run) x t
  pub lefts : left_by_runs x.form x.gloss ≡ true → Runs Left (lefts_only job.left_width job.left_run) x
  pub held : x.base + x.bases ≤ length t

-- a J that is cut is a J, with left runs where it has a left reading
pub cut-j : (job : Job) (x : Piece) → has_left x.gloss ≡ true → cuts job x ≡ true → (is_j x.form ≡ true) × (left_by_runs x.form x.gloss ≡ true)
unfolding cuts
cut-j job x h c =
    let w = given job x in
    let g = gloss_of job x in
    let far = any_longer job.em (split w.run w.ruby_width) || any_longer job.em (split g.run g.width) in
    let q = both (is_j x.form) (not (uncut x.gloss far)) c in
    (q.0, jukugo-runs x.form x.gloss q.0 h (or_none (is_group x.gloss) (is_jukugo x.gloss && far) (not-true (uncut x.gloss far) q.1)).0)

pub apart-runs : (x : Piece) → apart x.form x.gloss ≡ true → (is_j x.form ≡ true) × (left_by_runs x.form x.gloss ≡ true)
apart-runs x e = let q = apart-is x.form x.gloss e in (q.0, rw (is_j_lem x.form q.0, q.1))
