-- One element of the walk: refused by the first of its rows, or laid.
use Rattle.std.specs.Prelude.{Some, None, Result, Ok, Err}
use Rattle.std.specs.Prelude.{◌≡◌, Bool, cond, ◌&&◌, ◌||◌, List, [], ◌∷◌, map, ℕ, zero, suc, ◌+◌, ◌-◌, ◌≤◌, ◌<◌, ◌^◌, eqb, length, get_or}
use Rattle.std.proofs.Math.Path.{refl, sym, ap, subst}
use Rattle.std.proofs.Common.{ap₂, ◌∙◌, true≢false, add-zero, arith, eqb-true}
use Rattle.std.proofs.Math.Bool.{true, false}
use Rattle.std.proofs.lemmas.Bool.{false≢true, not-false}
use Rattle.basics.specs.Lists.{sum, count, All}
use Rattle.basics.specs.Laws.{or_none}
use Rattle.refusal.specs.declared.Refusal.{Refusal}
use Rattle.refusal.specs.declared.Refusal.TheVariants.{Element, LeftKind, Supply}
use Rattle.word.specs.declared.Form.{Form}
use Rattle.word.specs.declared.Form.TheVariants.{P, M, G, J}
use Rattle.word.specs.declared.Left.{Left}
use Rattle.word.specs.declared.Left.TheVariants as left
use Rattle.spread.specs.Ratio.{Housed, Sound, one_two_one, usual}
use Rattle.word.specs.declared.Base.{Base}
use Rattle.word.specs.declared.Word.{Word}
use Rattle.word.specs.declared.Answer.{Answer}
use Rattle.word.specs.declared.Answer.TheVariants as answered
use Rattle.word.specs.Given.{Given, has_ruby, is_g, is_j}
use Rattle.word.specs.Answer.{mixed_in, western_over, answer}
use Rattle.word.specs.Word as one
use Rattle.word.specs.Promise.{one-reading}
use Rattle.word.specs.Both.{Gloss, has_left, takes, apart}
use Rattle.word.specs.Sides as sides
use Rattle.word.specs.Answered.{answer_both}
use Rattle.word.specs.Answered as both
use Rattle.word.specs.Summed.{given_base, ems-wide}
use Rattle.word.specs.Sized.{Small}
use Rattle.word.specs.Sized as size
use Rattle.line.specs.declared.Side.TheVariants.{Left as LeftSide}
use Rattle.cells.specs.declared.Cell.{Cell}
use Rattle.cells.specs.Rows.{row_in}
use Rattle.cells.specs.Cells.{beside}
use Rattle.door.specs.declared.Piece.{Piece}
use Rattle.door.specs.declared.Taken.{Taken}
use Rattle.door.specs.Job.{Job, base_count, ruby_count, left_count, entries, known, known_left, form_of, left_of, left_by_runs, takes_base, element, given, gloss_of}
use Rattle.door.specs.Refusals.{counts_wrong, run_out}
use Rattle.door.specs.Entries.{length-entries}
use Rattle.door.specs.Elements.{Reads}
use Rattle.door.specs.Passed.{Few, FewLeft, supplied}
use Rattle.door.specs.Walk as walk
use Rattle.job.specs.Line.{part, words_in, cuts, word_of, on_p}
use Rattle.join.specs.Rows.{is_cut, none, row_by, left_row_by, ends_behind, row_of, HasRows}
use Rattle.word_rows.specs.Base.{BaseReady, bases_only}
use Rattle.word_rows.specs.Table.{Filled, bare_row}
use Rattle.word_rows.specs.Runs.{both_only, words_only, runs_only, Runs, HasRuns, jukugo_row}
use Rattle.word_rows.specs.Word.{word_row, word_row_lem, jukugo_row_lem, flagged, WordReady, Judged, judged_as}
use Rattle.one_reading.specs.Lay.{RubyReady, BasedReady, RunsReady, Gives, is_based, based_row, FilledBy, mono-any}
use Rattle.one_reading.specs.Seen.{mono_only}
use Rattle.two_readings.specs.Left.{lefts_only, runs-all, own_row, character_row, both_row, BothReady, WrittenBy}
use Rattle.layout.specs.Step.{Standing, Laid, Stepped}

-- no step both stops and goes on
stop-next : {q : Refusal} {p : Piece} → ◌≡◌ {A = Result Piece Refusal} (Err q) (Ok p) → ⊥
stop-next e = let z : ◌≡◌ {A = ℕ} 0 1 = cc in omega arith

-- ruby lies on no word with ruby
on_none : (form : Form) (d : ℕ) → has_ruby form ≡ true → on_p form d ≡ 0
on_none P d h = absurd (false≢true h)
on_none M d h = refl
on_none G d h = refl
on_none J d h = refl

-- what a kind that is known says by its letter
known-plain : (n : ℕ) → known n ≡ true → has_ruby (form_of n) ≡ false → n ≡ 80
known-plain n = go (eqb n 77) (eqb n 71) (eqb n 74) (eqb n 80) refl
  where
    go : (m g j p : Bool) → eqb n 80 ≡ p → (p || (m || (g || (j || false)))) ≡ true → has_ruby (cond m M (cond g G (cond j J P))) ≡ false → n ≡ 80
    go true g j p e k h = absurd (true≢false h)
    go false true j p e k h = absurd (true≢false h)
    go false false true p e k h = absurd (true≢false h)
    go false false false true e k h = eqb-true n 80 e
    go false false false false e k h = absurd (false≢true k)

known-none : (n : ℕ) → known_left n ≡ true → has_left (left_of n) ≡ false → n ≡ 78
known-none n = go (eqb n 77) (eqb n 71) (eqb n 74) (eqb n 78) refl
  where
    go : (m g j p : Bool) → eqb n 78 ≡ p → (p || (m || (g || (j || false)))) ≡ true → has_left (cond m left.M (cond g left.G (cond j left.J left.N))) ≡ false → n ≡ 78
    go true g j p e k h = absurd (true≢false h)
    go false true j p e k h = absurd (true≢false h)
    go false false true p e k h = absurd (true≢false h)
    go false false false true e k h = eqb-true n 78 e
    go false false false false e k h = absurd (false≢true k)

none_is : (k : Left) → has_left k ≡ false → k ≡ left.N
none_is left.N h = refl
none_is left.M h = absurd (true≢false h)
none_is left.G h = absurd (true≢false h)
none_is left.J h = absurd (true≢false h)

-- without a left reading level one's answer is that of the right one
alone-answer : (form : Form) (place : ℕ) (w : Given) (g : Gloss) → has_left g.kind ≡ false → g.class ≡ [] → answer_both form place w g ≡ answer form place w
unfolding answer_both answer sides.word_of
alone-answer form place w g h c = rw (h, c, nine (mixed_in form w) (is_g form || is_j form), ten (western_over form w) (is_g form))
  where
    nine : (a b : Bool) → (a || (b && false)) ≡ a
    nine true b = refl
    nine false true = refl
    nine false false = refl

    ten : (a b : Bool) → (a || (b && false)) ≡ a
    ten = nine

right-word : (job : Job) (x : Piece) → has_left x.gloss ≡ false → word_of job x ≡ one.word_of x.form (given job x)
unfolding sides.word_of
right-word job x h = rw h

-- and its rows say where the next left characters begin
bare-left : (job : Job) (x : Piece) (w : Word) (i : ℕ) → has_left x.gloss ≡ false → x.lefts ≡ 0 → x.more ≡ false → w.left ≡ one.none → bare_row x.left ≡ left_row_by job x w i
bare-left job x w i h l m n = rw (reading (is_cut job x), runs (cuts job x) h, l, m, add-zero x.left)
  where
    reading : (t : Bool) → (cond t none w).left ≡ one.none
    reading true = refl
    reading false = n

    runs : (c : Bool) {t : Bool} → t ≡ false → (c && t) ≡ false
    runs true e = e
    runs false e = refl

-- of n in turn
pub all-counted : {A : Type 0} (Q : A → Type 0) (f : ℕ → A) (a n : ℕ) → ((j : ℕ) → a ≤ j → j < a + n → Q (f j)) → All Q (map f (count a n))
all-counted Q f a zero h = tt
all-counted Q f a (suc n) h = (h a (omega arith) (omega arith), all-counted Q f (suc a) n (λ j l m. h j (omega arith) (omega arith)))

-- the job's own numbers and lists
abbrev pub both_of : Job → Job
both_of job =
    both_only job.ratios job.em job.class job.width job.before job.after job.flag job.ruby_class job.ruby_width job.run job.left_class job.left_width job.left_run

abbrev pub words_of : Job → Job
words_of job = words_only job.ratios job.em job.class job.width job.before job.after job.flag job.ruby_class job.ruby_width job.run

abbrev pub runs_of : Job → Job
runs_of job = runs_only job.em job.ruby_class job.ruby_width job.run

abbrev pub lefts_of : Job → Job
lefts_of job = lefts_only job.left_width job.left_run

abbrev pub mono_of : Job → Job
mono_of job = mono_only job.width job.before job.after job.flag job.ruby_width

abbrev pub bases_of : Job → Job
bases_of job = bases_only job.em job.class job.width job.before job.after

usual-housed : Housed usual
usual-housed = record { ruby = sound; base = sound }
  where
    sound : Sound one_two_one
    sound = record { front = omega arith; middle = omega arith; rear = omega arith; some = omega arith }

-- what is no P and no M is a G or a J
no-mono : (form : Form) → (form ≡ M → ⊥) → has_ruby form ≡ true → is_based form ≡ true
no-mono P e r = absurd (false≢true r)
no-mono M e r = absurd (e refl)
no-mono G e r = refl
no-mono J e r = refl

-- an M by its letter
mono-letter : (n : ℕ) → form_of n ≡ M → n ≡ 77
mono-letter n = go (eqb n 77) (eqb n 71) (eqb n 74) refl
  where
    go : (m g j : Bool) → eqb n 77 ≡ m → cond m M (cond g G (cond j J P)) ≡ M → n ≡ 77
    go true g j e h = eqb-true n 77 e
    go false true j e h = absurd (let z : ◌≡◌ {A = ℕ} 0 1 = cc in omega arith)
    go false false true e h = absurd (let z : ◌≡◌ {A = ℕ} 0 1 = cc in omega arith)
    go false false false e h = absurd (let z : ◌≡◌ {A = ℕ} 0 1 = cc in omega arith)

-- An element's rows are its words'.

picked : {A : Type 0} (t : Bool) (a b : A) → t ≡ true → cond t a b ≡ a
picked true a b e = refl
picked false a b e = absurd (false≢true e)

one_word : (job : Job) (x : Piece) (t : List Cell) → apart x.form x.gloss ≡ false → HasRows job t x → All (HasRows job t) (words_in job x)
unfolding words_in
one_word job x t a h = rw a (h, tt)

characters : (job : Job) (x : Piece) (t : List Cell) → apart x.form x.gloss ≡ true → ((j : ℕ) → j < x.bases → HasRows job t (part job x j 1)) → All (HasRows job t) (words_in job x)
unfolding words_in
characters job x t a h =
    subst (All (HasRows job t)) (sym (picked (apart x.form x.gloss) (map (λ j. part job x j 1) (count 0 x.bases)) (x ∷ []) a))
    (all-counted (HasRows job t) (λ j. part job x j 1) 0 x.bases (λ j l m. h j (omega arith)))

-- a word's row, with ruby and with nothing behind it
row_is : (job : Job) (x : Piece) (w : Word) (i : ℕ) → has_ruby x.form ≡ true → w ≡ word_of job x → own_row job x w (ends_behind job x) i ≡ row_of job x i
unfolding row_of
row_is job x w i h e =
    ap (λ v. own_row job x v (ends_behind job x) i) e
    ∙ ap₂ (λ c d. beside (row_by job x (word_of job x) (ends_behind job x) c d i) (left_row_by job x (word_of job x) i)) (sym (on_none x.form _ h)) (sym (on_none x.form _ h))

ends-flagged : (job : Job) (x : Piece) → x.more ≡ false → ends_behind job x ≡ flagged job x
ends-flagged job x e = rw e

part-mono : (job : Job) (x : Piece) (j : ℕ) → ((part job x j 1).base ≡ x.base + j) × ((part job x j 1).bases ≡ 1) × (has_ruby (part job x j 1).form ≡ true)
unfolding part
part-mono job x j = (refl, refl, refl)

module _ {job : Job} {k : ℕ} {at : Taken} {was : List Cell} (h : Standing job k at was) where
  abbrev x : Piece
  x = element job k at

  its_place : (x.run ≡ at.run) × (x.leftrun ≡ at.leftrun) × (x.base ≡ at.base) × (x.more ≡ false)
  unfolding element
  its_place = (refl, refl, refl, refl)

  stopped : {q : Refusal} → Err q ≡ walk.element_step job k at → Stepped job k at was was (Err q)
  stopped e = record { long = refl; step = e; laid = λ p f. absurd (stop-next f) }

  pub count-stops : walk.counting job k at ≡ None → Stepped job k at was was (Err (Element k))
  count-stops e = stopped (walk.out-stops job k at e)

  stopped-at : {q : Refusal} (t : List Cell) → length t ≡ length was → Err q ≡ walk.element_step job k at → Stepped job k at was t (Err q)
  stopped-at t l e = record { long = l; step = e; laid = λ p f. absurd (stop-next f) }

  module _ {p : Piece} (is : walk.counting job k at ≡ Some p) where
    pub same : p ≡ x
    same = (walk.passes-five job k at is).1

    five : counts_wrong job k x ≡ false
    five = (walk.passes-five job k at is).0

    pub small : (p.base + p.bases < 2 ^ 40) × (p.ruby + p.rubies < 2 ^ 40) × (p.left + p.lefts < 2 ^ 40)
    small = rw same (walk.small job k at five h.stands)

    kinds : (known (get_or job.kind k 0) ≡ true) × (known_left (get_or job.left_kind k 0) ≡ true)
    kinds =
        let q = or_none _ _ five in
        (not-false (known (get_or job.kind k 0)) (or_none _ _ q.0).0, not-false (known_left (get_or job.left_kind k 0)) (or_none _ _ q.1).0)

    pub mono-form : get_or job.kind k 0 ≡ 77 → p.form ≡ M
    unfolding element
    mono-form e = ap (λ z. z.form) same ∙ rw e

    -- an element without a left kind takes it, and has no left characters
    module _ (bare : get_or job.left_kind k 0 ≡ 78) where
      bare-x : x.gloss ≡ left.N
      unfolding element
      bare-x = rw bare

      pub bare-taken : takes p.form p.gloss ≡ true
      bare-taken = subst (λ z. takes z.form z.gloss ≡ true) (sym same) (ap (takes x.form) bare-x)

      pub bare-none : p.lefts ≡ 0
      bare-none = ap (λ z. z.lefts) same ∙ (walk.few_left_lem job k at five).none (ap has_left bare-x)

    pub kind-stops : takes p.form p.gloss ≡ false → Stepped job k at was was (Err (LeftKind k))
    kind-stops e = stopped (walk.kind-stops job k at five (subst (λ z. takes z.form z.gloss ≡ false) same e))

    module _ (sixteen : takes p.form p.gloss ≡ true) where
      taken-x : takes x.form x.gloss ≡ true
      taken-x = subst (λ z. takes z.form z.gloss ≡ true) same sixteen

      -- and with a left kind that it takes it has some
      pub left-some : (get_or job.left_kind k 0 ≡ 78 → ⊥) → 0 < p.lefts
      unfolding element
      left-some other = subst (λ z. 0 < z.lefts) (sym same) ((walk.few_left_lem job k at five).reads (go (has_left x.gloss) refl) taken-x)
        where
          go : (t : Bool) → has_left x.gloss ≡ t → t ≡ true
          go true e = refl
          go false e = absurd (other (known-none (get_or job.left_kind k 0) kinds.1 e))

      pub short-stops : run_out job p ≡ true → Stepped job k at was was (Err (Supply k))
      short-stops e = stopped (walk.short-stops job k at five taken-x (subst (λ z. run_out job z ≡ true) same e))

      module _ (six : run_out job p ≡ false) where
        six-x : run_out job x ≡ false
        six-x = subst (λ z. run_out job z ≡ false) same six

        reads : Reads job x
        reads = walk.reads job k at five taken-x six-x h.stands

        held : (x.base + x.bases ≤ base_count job) × (x.ruby + x.rubies ≤ ruby_count job) × (x.left + x.lefts ≤ left_count job)
        held = supplied job x six-x

        few : Few x.form x.bases x.rubies (given job x).run
        few = walk.few job k at five

        few_left_lem : FewLeft x.form x.gloss x.lefts (gloss_of job x).run
        few_left_lem = walk.few_left_lem job k at five

        -- a P without a left reading is laid in a loop of its own
        pub ruby : has_ruby x.form ≡ true
        unfolding element
        ruby = go (has_ruby x.form) (has_left x.gloss) refl refl
          where
            go : (t s : Bool) → has_ruby x.form ≡ t → has_left x.gloss ≡ s → t ≡ true
            go true s e f = refl
            go false true e f = sym e ∙ walk.left_over-ruby x.form x.gloss f taken-x
            go false false e f = absurd (h.ruby (known-plain (get_or job.kind k 0) kinds.0 e) (known-none (get_or job.left_kind k 0) kinds.1 f))

        -- what each way asks for, by the lists that are lent to it
        small-x : Small (given job x).width (given job x).ruby_width
        small-x = size.small _ _ _ _ ruby reads.sized

        word-ready : (class ruby_class run left_class left_width left_run : List ℕ) →
            WordReady (both_only job.ratios job.em class job.width job.before job.after job.flag ruby_class job.ruby_width run left_class left_width left_run) x was
        word-ready class ruby_class run left_class left_width left_run =
            let c = h.stands.clean in
            record {
              some = few.some;
              few = omega (arith, held.0, c.few);
              few_ruby = omega (arith, held.1, c.few_ruby);
              width = reads.width;
              before = reads.before;
              after = reads.after;
              flag = reads.flag;
              ruby_width = reads.ruby_width;
              small = small-x;
              house = h.house;
              room = omega (arith, held.0, h.room);
            }

        right_runs : is_j x.form ≡ true → HasRuns (runs_of job) x was
        right_runs j =
            let c = h.stands.clean in
            let w = h.stands.within in
            let whole = few.whole j in
            record {
              held = omega (arith, held.0, h.room);
              class = omega (arith, reads.ruby_class, whole);
              own =
                  record {
                    few = few.few;
                    small = omega (arith, held.0, c.few);
                    runs = omega (arith, reads.run, runs-all x.form x.bases j);
                    few_runs = omega (arith, its_place.0, w.runs, w.base, c.few);
                    many = omega (arith, held.1, c.few_ruby, whole);
                    width = omega (arith, reads.ruby_width, whole);
                    narrow = omega (arith, reads.sized.narrow_ruby, ap (λ m. sum (entries job.ruby_width x.ruby m)) whole);
                    each = few.each j;
                  };
            }

        one-base : x.form ≡ M → x.bases ≡ 1
        unfolding element
        one-base e = ap (λ f. takes_base f (get_or job.element_base k 0)) e

        -- an M, by the lists that it asks for
        mono-ready-x : x.form ≡ M → (x.bases ≡ 1) × WordReady (mono_of job) x was
        mono-ready-x e =
            let w = word-ready [] [] [] [] [] [] in (
              one-base e,
              record {
                some = w.some;
                few = w.few;
                few_ruby = w.few_ruby;
                width = w.width;
                before = w.before;
                after = w.after;
                flag = w.flag;
                ruby_width = w.ruby_width;
                small = w.small;
                house = usual-housed;
                room = w.room;
              },
            )

        -- a G or a J, by what level one asks of its base
        base-ready-x : BaseReady (bases_of job) x
        base-ready-x =
            record {
              few = omega (arith, held.0, h.stands.clean.few);
              short = few.few;
              class = reads.class;
              width = reads.width;
              before = reads.before;
              after = reads.after;
              narrow = reads.sized.narrow;
            }

        pub base-ready : BaseReady (bases_of job) p
        base-ready = subst (BaseReady (bases_of job)) (sym same) base-ready-x

        -- the flag behind it is there
        pub ends-ready : (0 < p.bases) × (p.base + p.bases ≤ 1024) × (p.base + p.bases ≤ length job.flag)
        ends-ready =
            subst (λ z. (0 < z.bases) × (z.base + z.bases ≤ 1024) × (z.base + z.bases ≤ length job.flag)) (sym same)
            (few.some, omega (arith, held.0, h.stands.clean.few), reads.flag)

        ruby-ready-x : RubyReady x job.ruby_class job.ruby_width
        ruby-ready-x =
            record {
              some = few.reads ruby;
              few = omega (arith, held.1, h.stands.clean.few_ruby);
              short = few.few_ruby;
              class = reads.ruby_class;
              width = reads.ruby_width;
              narrow = reads.sized.narrow_ruby;
            }

        module _ {b : Base} (sums : b ≡ given_base x.form (given job x)) where
          based-ready-x : BasedReady job.ratios job.em b x job.ruby_class job.ruby_width was
          based-ready-x =
              let n = length-entries job.width x.base x.bases in
              record {
                few = base-ready-x.few;
                some = subst (λ z. 0 < z.string.count) (sym sums) (omega (arith, n, few.some));
                short = subst (λ z. z.string.count ≤ 4096) (sym sums) (omega (arith, n, few.few));
                narrow = subst (λ z. z.string.width ≤ 131072) (sym sums) reads.sized.narrow;
                ruby = ruby-ready-x;
                house = h.house;
                room = omega (arith, held.0, h.room);
              }

          runs-ready-x : is_j x.form ≡ true → RunsReady job.em b x job.ruby_class job.ruby_width job.run was
          runs-ready-x j =
              record {
                some = few.some;
                ems = subst (λ z. z.uneven ≡ false → job.em ≤ z.string.width) (sym sums) (ems-wide x.form job.em (given job x).width reads.sized.some j);
                runs = right_runs j;
                whole = λ one. sym (few.whole j ∙ ap (λ n. sum (entries job.run x.run n)) one ∙ add-zero (get_or job.run x.run 0));
              }

          gives-x : Gives x.form job.ratios job.em b x job.ruby_class job.ruby_width job.run (given job x)
          gives-x = record { ems = refl; house = refl; summed = sums; ruby_class = refl; ruby_width = refl; run = λ j. refl }

        -- level one's answer taken apart
        steps : {a : Answer} {Done : Word → Type 0} {t : List Cell} {s : Result Piece Refusal} → answer_both x.form k (given job x) (gloss_of job x) ≡ a →
            ((w : Word) → answer_both x.form k (given job x) (gloss_of job x) ≡ answered.Set w → Done w → Laid job x was t) → Judged a Done x was t s → Stepped job k at was t s
        steps {a} {Done} {t} {s} is-a done j = go a refl
          where
            go : (b : Answer) → a ≡ b → Stepped job k at was t s
            go (answered.Set w) e =
                let g = j.goes w e in
                record { long = j.long; step = g.0 ∙ walk.set-goes_on job k at five taken-x six-x (is-a ∙ e); laid = λ _ _. done w (is-a ∙ e) g.1 }
            go (answered.Refused q) e =
                let g = j.stops q e in
                subst (Stepped job k at was t) (sym g.0) (stopped-at t j.long (walk.refused-stops job k at five taken-x six-x (is-a ∙ e)))

        -- without left characters it has no left reading: its rows say where the next left characters begin
        module _ (none : p.lefts ≡ 0) where
          none-x : has_left x.gloss ≡ false
          none-x = go (has_left x.gloss) refl
            where
              go : (t : Bool) → has_left x.gloss ≡ t → t ≡ false
              go true e = absurd (omega (arith, few_left_lem.reads e taken-x, none, ap (λ z. z.lefts) same))
              go false e = refl

          whole-x : apart x.form x.gloss ≡ false
          whole-x = ap (apart x.form) (none_is x.gloss none-x)

          answer-x : answer_both x.form k (given job x) (gloss_of job x) ≡ answer x.form k (given job x)
          answer-x = alone-answer x.form k (given job x) (gloss_of job x) none-x (ap (entries job.left_class x.left) (sym (ap (λ z. z.lefts) same) ∙ none))

          cuts-x : cuts job x ≡ is_j x.form
          unfolding cuts
          cuts-x = rw (none_is x.gloss none-x) (go (is_j x.form))
            where
              go : (t : Bool) → (t && true) ≡ t
              go true = refl
              go false = refl

          alone-row : (w : Word) (i : ℕ) → based_row (words_of job) x w (flagged job x) i ≡ row_by job x w (flagged job x) 0 0 i
          alone-row w i = go (is_j x.form) cuts-x
            where
              go : (t : Bool) → cuts job x ≡ t → cond t (jukugo_row job x w (flagged job x) i) (word_row x w (flagged job x) 0 0 i) ≡ row_by job x w (flagged job x) 0 0 i
              go true e = jukugo_row_lem job x w (flagged job x) i e
              go false e = word_row_lem job x w (flagged job x) 0 0 i e

          alone-laid : (t : List Cell) (w : Word) → answer_both x.form k (given job x) (gloss_of job x) ≡ answered.Set w →
              Filled (λ i. beside (based_row (words_of job) x w (flagged job x) i) (bare_row x.left)) x.base (x.base + x.bases) was t → Laid job x was t
          alone-laid t w e q =
              record {
                long = q.long;
                rows =
                    one_word job x t whole-x
                    (λ i l m. q.here i l m ∙ ap₂ beside (alone-row w i ∙ ap (λ z. row_by job x w z 0 0 i) (sym (ends-flagged job x its_place.3))) (no_left_lem i)
                    ∙ row_is job x w i ruby set);
                other = q.other;
              }
            where
              set : w ≡ word_of job x
              set = (both.passed x.form k (given job x) (gloss_of job x) e).word

              no_left_lem : (i : ℕ) → bare_row x.left ≡ left_row_by job x w i
              no_left_lem i = bare-left job x w i none-x (sym (ap (λ z. z.lefts) same) ∙ none) its_place.3 (ap (λ v. v.left) (set ∙ right-word job x none-x) ∙ one-reading x.form (given job x))

          pub mono-ready : p.form ≡ M → (p.bases ≡ 1) × WordReady (mono_of job) p was
          mono-ready e = subst (λ z. (z.bases ≡ 1) × WordReady (mono_of job) z was) (sym same) (mono-ready-x (sym (ap (λ z. z.form) same) ∙ e))

          pub based-ready : {b : Base} → b ≡ given_base p.form (given job p) →
              BasedReady job.ratios job.em b p job.ruby_class job.ruby_width was × (is_j p.form ≡ true → RunsReady job.em b p job.ruby_class job.ruby_width job.run was)
          based-ready {b} e =
              let sums = e ∙ ap (λ z. given_base z.form (given job z)) same in
              subst (λ z. BasedReady job.ratios job.em b z job.ruby_class job.ruby_width was × (is_j z.form ≡ true → RunsReady job.em b z job.ruby_class job.ruby_width job.run was))
              (sym same) (based-ready-x sums, runs-ready-x sums)

          pub gives : {b : Base} → b ≡ given_base p.form (given job p) → Gives p.form job.ratios job.em b p job.ruby_class job.ruby_width job.run (given job p)
          gives {b} e =
              subst (λ z. Gives z.form job.ratios job.em b z job.ruby_class job.ruby_width job.run (given job z)) (sym same)
              (gives-x (e ∙ ap (λ z. given_base z.form (given job z)) same))

          -- a word that is no M is a G or a J
          pub based : (get_or job.kind k 0 ≡ 77 → ⊥) → is_based p.form ≡ true
          unfolding element
          based e = no-mono p.form (λ m. e (mono-letter (get_or job.kind k 0) (sym (ap (λ z. z.form) same) ∙ m))) (ap (λ z. has_ruby z.form) same ∙ ruby)

          left-at : p.left ≡ at.left
          unfolding element
          left-at = ap (λ z. z.left) same

          pub alone-judged : {t : List Cell} {s : Result Piece Refusal} →
              FilledBy (answer p.form k (given (words_of job) p)) (λ w. based_row (words_of job) p w (flagged (words_of job) p)) at.left p was t s → Stepped job k at was t s
          alone-judged {t} {s} j =
              steps answer-x (alone-laid t)
              (subst (λ z. FilledBy (answer z.form k (given job z)) (λ w. based_row (words_of job) z w (flagged job z)) z.left z was t s) same
              (subst (λ l. FilledBy (answer p.form k (given (words_of job) p)) (λ w. based_row (words_of job) p w (flagged (words_of job) p)) l p was t s) (sym left-at) j))

          -- an M
          pub mono-judged : {t : List Cell} {s : Result Piece Refusal} → p.form ≡ M →
              FilledBy (answer M k (given (mono_of job) p)) (λ w. word_row p w (flagged (mono_of job) p) 0 0) at.left p was t s → Stepped job k at was t s
          mono-judged {t} {s} e j =
              alone-judged
              (subst (λ f. FilledBy (answer f k (given job p)) (λ w i. cond (is_j f) (jukugo_row job p w (flagged job p) i) (word_row p w (flagged job p) 0 0 i)) at.left p was t s) (sym e)
              (judged_as (mono-any k (given (mono_of job) p) (given job p) refl refl refl refl) (λ w d f. f) j))

        -- with left characters it has one
        module _ (some : 0 < p.lefts) where
          here-x : has_left x.gloss ≡ true
          here-x = go (has_left x.gloss) refl
            where
              go : (t : Bool) → has_left x.gloss ≡ t → t ≡ true
              go true e = refl
              go false e = absurd (omega (arith, few_left_lem.none e, some, ap (λ z. z.lefts) same))

          left_runs_lem : left_by_runs x.form x.gloss ≡ true → Runs LeftSide (lefts_of job) x
          left_runs_lem l =
              let c = h.stands.clean in
              let w = h.stands.within in
              let whole = few_left_lem.whole l in
              record {
                few = few.few;
                small = omega (arith, held.0, c.few);
                runs = omega (arith, reads.left_run, ap (λ t. cond t x.bases 0) l);
                few_runs = omega (arith, its_place.1, w.left_runs, w.base, c.few);
                many = omega (arith, held.2, c.few_left, whole);
                width = omega (arith, reads.left_width, whole);
                narrow = omega (arith, (walk.left-ready job k at five taken-x six-x h.stands here-x).gloss.narrow, ap (λ m. sum (entries job.left_width x.left m)) whole);
                each = few_left_lem.each l;
              }

          both-ready-x : BothReady (both_of job) x was
          both-ready-x =
              let c = h.stands.clean in
              let w = h.stands.within in
              record {
                word = word-ready job.class job.ruby_class job.run job.left_class job.left_width job.left_run;
                few = few.few;
                few_lefts = omega (arith, held.2, c.few_left);
                few_runs = omega (arith, its_place.0, w.runs, w.base, c.few);
                few_left_runs = omega (arith, its_place.1, w.left_runs, w.base, c.few);
                class = reads.class;
                ruby_class = reads.ruby_class;
                run = reads.run;
                left_class = reads.left_class;
                left_width = reads.left_width;
                left_run = reads.left_run;
                taken = taken-x;
                ready = walk.left-ready job k at five taken-x six-x h.stands here-x;
                whole = its_place.3;
                jukugo = right_runs;
                lefts = left_runs_lem;
              }

          pub both-ready : BothReady (both_of job) p was
          both-ready = subst (λ z. BothReady (both_of job) z was) (sym same) both-ready-x

          both-laid : (t : List Cell) (w : Word) → answer_both x.form k (given job x) (gloss_of job x) ≡ answered.Set w → Filled (both_row (both_of job) x w) x.base (x.base + x.bases) was t →
              Laid job x was t
          unfolding cuts part
          both-laid t w e q = record { long = q.long; rows = go (apart x.form x.gloss) refl q.here; other = q.other }
            where
              set : w ≡ word_of job x
              set = (both.passed x.form k (given job x) (gloss_of job x) e).word

              own : (j i : ℕ) → i - x.base ≡ j → character_row job x i ≡ row_of job (part job x j 1) i
              own j i e =
                  ap (λ n. let y = part job x n 1 in own_row job y (word_of job y) (ends_behind job y) i) e
                  ∙ row_is job (part job x j 1) (word_of job (part job x j 1)) i (part-mono job x j).2 refl

              go : (a : Bool) → apart x.form x.gloss ≡ a →
                  ((i : ℕ) → x.base ≤ i → i < x.base + x.bases → row_in t i ≡ cond a (character_row job x i) (own_row job x w (flagged job x) i)) → All (HasRows job t) (words_in job x)
              go true a f = characters job x t a (λ j m i l r. f i (omega arith) (omega arith) ∙ own j i (omega arith))
              go false a f =
                  one_word job x t a (λ i l m. f i l m ∙ ap (λ z. own_row job x w z i) (sym (ends-flagged job x its_place.3)) ∙ row_is job x w i ruby set)

          pub both-judged : {t : List Cell} {s : Result Piece Refusal} →
              WrittenBy (answer_both p.form k (given (both_of job) p) (gloss_of (both_of job) p)) (both_row (both_of job) p) p was t s → Stepped job k at was t s
          both-judged {t} {s} j =
              steps refl (both-laid t)
              (subst (λ z. WrittenBy (answer_both z.form k (given job z) (gloss_of job z)) (both_row (both_of job) z) z was t s) same j)
