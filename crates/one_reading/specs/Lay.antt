-- An element without a left reading, laid: level one is asked by what it wants to know of its strings, and its rows are written; and a P.
use Rattle.std.specs.Prelude.{◌≡◌, refl, Bool, true, false, cond, ◌||◌, List, [], ◌∷◌, ℕ, Result, Ok, Err, ⊤, ◌+◌, ◌-◌, ◌≤◌, ◌<◌, eqb, length, get_or, take, drop}
use Rattle.std.proofs.Common.{sym, ap, ap₂, ◌∙◌, subst, add-zero, arith, lt-ltb, eqb-true}
use Rattle.std.proofs.lemmas.Bool.{false≢true, eqb-false}
use Rattle.basics.specs.Lists.{sum, any, other}
use Rattle.refusal.specs.declared.Refusal.{Refusal}
use Rattle.class.specs.Class.{depths_by}
use Rattle.spread.specs.Ratio.{Ratios, Housed}
use Rattle.word.specs.declared.Form.{Form}
use Rattle.word.specs.declared.Form.TheVariants.{P, M, G, J}
use Rattle.word.specs.declared.Word.{Word}
use Rattle.word.specs.declared.Base.{Base}
use Rattle.word.specs.declared.Strand.{Strand}
use Rattle.word.specs.declared.Answer.{Answer}
use Rattle.word.specs.declared.Answer.TheVariants.{Set}
use Rattle.word.specs.Given.{Given, is_g, is_j}
use Rattle.word.specs.Word.{plain, word_of}
use Rattle.word.specs.Kinds.{sort_of}
use Rattle.word.specs.Numbers.{Measured}
use Rattle.word.specs.Answer.{answer}
use Rattle.word.specs.Summed.{strand_of, given_base, mono_by, mono_by_lem, group_by, group_by_lem, jukugo_judged, answered_by, jukugo_judged_lem, single_by, single_by_lem}
use Rattle.cells.specs.declared.Cell.{Cell}
use Rattle.cells.specs.Cells.{beside}
use Rattle.door.specs.declared.Piece.{Piece}
use Rattle.door.specs.Job.{Job, entries, given}
use Rattle.door.specs.Entries.{part_of, length-entries}
use Rattle.join.specs.Rows.{none}
use Rattle.word_rows.specs.Table.{Filled, filled_as, bare_row}
use Rattle.word_rows.specs.Runs.{runs_only, HasRuns, jukugo_row}
use Rattle.word_rows.specs.Word.{word_row, WordReady, Judged, judged-goes, judged_as}

-- its rows, by level one's answer; there is no left reading beside them, and the next left characters begin at `left`
abbrev pub FilledBy : Answer → (Word → ℕ → Cell) → ℕ → Piece → List Cell → List Cell → Result Piece Refusal → Type 0
FilledBy a row left x was t s = Judged a (λ w. Filled (λ i. beside (row w i) (bare_row left)) x.base (x.base + x.bases) was t) x was t s

-- An M: level one is asked by the sums of its strings.

mono-width : (job : Job) (x : Piece) → x.bases ≡ 1 → sum (given job x).width ≡ get_or job.width x.base 0
mono-width job x e = rw e (add-zero (get_or job.width x.base 0))

module _ (k : ℕ) (job : Job) (x : Piece) {t : List Cell} (h : WordReady job x t) (one : x.bases ≡ 1) where
  pub mono-small : (get_or job.width x.base 0 ≤ 131072) × (sum (take (x.ruby + x.rubies - x.ruby) (drop x.ruby job.ruby_width)) ≤ 262144)
  mono-small =
      (omega (arith, mono-width job x one, h.small.narrow), rw (part_of job.ruby_width x.ruby x.rubies h.ruby_width) h.small.narrow_ruby)

  pub mono_even : length (take (x.base + 1 - x.base) (drop x.base job.before)) ≡ length (take (x.base + 1 - x.base) (drop x.base job.after))
  mono_even =
      rw (part_of job.before x.base 1 (omega (arith, one, h.before)), part_of job.after x.base 1 (omega (arith, one, h.after)))
      (length-entries job.before x.base 1 ∙ sym (length-entries job.after x.base 1))

  pub mono-lent :
      mono_by k (any (other 0) (take (x.base + 1 - x.base) (drop x.base job.before)) || any (other 0) (take (x.base + 1 - x.base) (drop x.base job.after)))
      (get_or job.width x.base 0) (sum (take (x.ruby + x.rubies - x.ruby) (drop x.ruby job.ruby_width)))
      ≡ answer M k (given job x)
  mono-lent =
      rw (
        part_of job.before x.base 1 (omega (arith, one, h.before)),
        part_of job.after x.base 1 (omega (arith, one, h.after)),
        part_of job.ruby_width x.ruby x.rubies h.ruby_width,
      )
      (ap (λ b. mono_by k (any (other 0) (entries job.before x.base 1) || any (other 0) (entries job.after x.base 1)) b (sum (given job x).ruby_width)) (sym (mono-width job x one))
      ∙ ap (λ n. mono_by k (any (other 0) (entries job.before x.base n) || any (other 0) (entries job.after x.base n)) (sum (given job x).width) (sum (given job x).ruby_width)) (sym one)
      ∙ sym (mono_by_lem k (given job x)))

-- and whatever the ratios, em, classes and runs are
pub mono-any : (k : ℕ) (v w : Given) → v.width ≡ w.width → v.before ≡ w.before → v.after ≡ w.after → v.ruby_width ≡ w.ruby_width → answer M k v ≡ answer M k w
mono-any k v w a b c d = mono_by_lem k v ∙ rw (a, b, c, d) (sym (mono_by_lem k w))

-- The ruby of a word within its lists.
pub record RubyReady (x : Piece) (ruby_class ruby_width : List ℕ) : Type 0 where
  pub some : 0 < x.rubies
  pub few : x.ruby + x.rubies ≤ 4096
  pub short : x.rubies ≤ 64
  pub class : x.ruby + x.rubies ≤ length ruby_class
  pub width : x.ruby + x.rubies ≤ length ruby_width
  pub narrow : sum (entries ruby_width x.ruby x.rubies) ≤ 262144

abbrev pub ruby_of : Piece → List ℕ → List ℕ → Strand
ruby_of x ruby_class ruby_width = strand_of (entries ruby_class x.ruby x.rubies) (entries ruby_width x.ruby x.rubies)

module _ (x : Piece) (ruby_class ruby_width : List ℕ) (h : RubyReady x ruby_class ruby_width) where
  pub ruby-lent : strand_of (take (x.ruby + x.rubies - x.ruby) (drop x.ruby ruby_class)) (take (x.ruby + x.rubies - x.ruby) (drop x.ruby ruby_width)) ≡ ruby_of x ruby_class ruby_width
  ruby-lent = rw (part_of ruby_class x.ruby x.rubies h.class, part_of ruby_width x.ruby x.rubies h.width)

  pub ruby-small : let ws = take (x.ruby + x.rubies - x.ruby) (drop x.ruby ruby_width) in (length ws ≤ 64) × (sum ws ≤ 262144)
  ruby-small =
      rw (part_of ruby_width x.ruby x.rubies h.width) (omega (arith, length-entries ruby_width x.ruby x.rubies, h.short), h.narrow)

-- A G or a J by what level one asks of its base, with its ruby in lists, and room for its rows.
pub record BasedReady (ratios : Ratios) (em : ℕ) (base : Base) (x : Piece) (ruby_class ruby_width : List ℕ) (t : List Cell) : Type 0 where
  pub few : x.base + x.bases ≤ 1024
  pub some : 0 < base.string.count
  pub short : base.string.count ≤ 4096
  pub narrow : base.string.width ≤ 131072
  pub ruby : RubyReady x ruby_class ruby_width
  pub house : Housed ratios
  pub room : x.base + x.bases ≤ length t

module _ {ratios : Ratios} {em : ℕ} {base : Base} {x : Piece} {ruby_class ruby_width : List ℕ} {t : List Cell} (h : BasedReady ratios em base x ruby_class ruby_width t) where
  pub measured : {r : Strand} → r ≡ ruby_of x ruby_class ruby_width → Measured base.string r.string
  measured {r} e =
      let u = h.ruby in
      let n = length-entries ruby_width x.ruby x.rubies in
      subst (λ s. Measured base.string s.string) (sym e)
      (record { some = h.some; few = h.short; narrow = h.narrow; reads = omega (arith, n, u.some); few_ruby = omega (arith, n, u.short); narrow_ruby = u.narrow })

-- of a J also its runs, and that it is as wide as one em where each of its characters is
pub record RunsReady (em : ℕ) (base : Base) (x : Piece) (ruby_class ruby_width run : List ℕ) (t : List Cell) : Type 0 where
  pub some : 0 < x.bases
  pub ems : base.uneven ≡ false → em ≤ base.string.width
  pub runs : HasRuns (runs_only em ruby_class ruby_width run) x t
  pub whole : x.bases ≡ 1 → get_or run x.run 0 ≡ x.rubies

-- Level one by what it asks of the base and the ruby of a G or a J. A J of two characters or more is judged and not measured: its runs are, and no row holds its word.
abbrev pub based_by : Form → ℕ → ℕ → Ratios → ℕ → Base → Strand → Answer
based_by form bases place h em base ruby =
    cond (is_j form) (cond (eqb bases 1) (single_by place h em base ruby) (answered_by (jukugo_judged place base ruby.sort) none)) (group_by place h em base ruby)

abbrev pub is_based : Form → Bool
is_based form = is_g form || is_j form

-- the row of a word without a left reading
abbrev pub based_row : Job → Piece → Word → Bool → ℕ → Cell
based_row job x w ends i = cond (is_j x.form) (jukugo_row job x w ends i) (word_row x w ends 0 0 i)

-- That is document 01's answer to what level one is given: the lists whose base is this, with this ruby.
pub record Gives (form : Form) (ratios : Ratios) (em : ℕ) (base : Base) (x : Piece) (rc rw rn : List ℕ) (g : Given) : Type 0 where
  pub ems : g.em ≡ em
  pub house : g.ratios ≡ ratios
  pub summed : base ≡ given_base form g
  pub ruby_class : g.ruby_class ≡ entries rc x.ruby x.rubies
  pub ruby_width : g.ruby_width ≡ entries rw x.ruby x.rubies
  pub run : is_j form ≡ true → g.run ≡ entries rn x.run x.bases

module _ (place : ℕ) {ratios : Ratios} {em : ℕ} {base : Base} {x : Piece} {rc rw rn : List ℕ} {g : Given} where
  same-ruby : {form : Form} → Gives form ratios em base x rc rw rn g → ruby_of x rc rw ≡ strand_of g.ruby_class g.ruby_width
  same-ruby v = ap₂ strand_of (sym v.ruby_class) (sym v.ruby_width)

  group-told : Gives G ratios em base x rc rw rn g → group_by place ratios em base (ruby_of x rc rw) ≡ answer G place g
  group-told v =
      ap₂ (λ h z. group_by place h z base (ruby_of x rc rw)) (sym v.house) (sym v.ems)
      ∙ ap₂ (group_by place g.ratios g.em) v.summed (same-ruby v)
      ∙ sym (group_by_lem place g)

  single-told : Gives J ratios em base x rc rw rn g → x.bases ≡ 1 → get_or rn x.run 0 ≡ x.rubies → single_by place ratios em base (ruby_of x rc rw) ≡ answer J place g
  single-told v one whole =
      ap₂ (λ h z. single_by place h z base (ruby_of x rc rw)) (sym v.house) (sym v.ems)
      ∙ ap₂ (single_by place g.ratios g.em) v.summed (same-ruby v)
      ∙ sym (single_by_lem place g (v.run refl ∙ ap (entries rn x.run) one ∙ ap (λ n. n ∷ []) (whole ∙ sym (length-entries rw x.ruby x.rubies) ∙ ap length (sym v.ruby_width))))

  cut-told : Gives J ratios em base x rc rw rn g → answered_by (jukugo_judged place base (ruby_of x rc rw).sort) (word_of J g) ≡ answer J place g
  cut-told v =
      ap₂ (λ b r. answered_by (jukugo_judged place b r) (word_of J g)) v.summed (ap sort_of (sym v.ruby_class))
      ∙ sym (jukugo_judged_lem place g)

-- a J that is cut has the same rows whatever its word is
cut-row : (job : Job) (x : Piece) (v w : Word) (ends : Bool) (i : ℕ) → 1 < x.bases → jukugo_row job x v ends i ≡ jukugo_row job x w ends i
cut-row job x v w ends i h = rw (lt-ltb 1 x.bases h)

cut_as : (job : Job) (x : Piece) (ends : Bool) {left : ℕ} {was t : List Cell} {s : Result Piece Refusal} (q : Result ⊤ Refusal) (w : Word) → 1 < x.bases →
    FilledBy (answered_by q none) (λ v. jukugo_row job x v ends) left x was t s → FilledBy (answered_by q w) (λ v. jukugo_row job x v ends) left x was t s
cut_as job x ends (Err why) w h j = j
cut_as job x ends {left} {was} {t} (Ok tt) w h j =
    let g = j.goes none refl in
    subst (FilledBy (Set w) (λ v. jukugo_row job x v ends) left x was t) (sym g.0)
    (judged-goes refl j.long
    (filled_as (λ i. beside (jukugo_row job x none ends i) (bare_row left)) (λ i. beside (jukugo_row job x w ends i) (bare_row left)) x.base (x.base + x.bases) was t
    (λ i l m. ap (λ c. beside c (bare_row left)) (cut-row job x none w ends i h)) g.1))

pub based-told : (place : ℕ) (job : Job) (x : Piece) (ends : Bool) {ratios : Ratios} {em : ℕ} {base : Base} {rc rw rn : List ℕ} {left : ℕ} {was t : List Cell} {g : Given} {s : Result Piece Refusal} →
    is_based x.form ≡ true → (is_j x.form ≡ true → RunsReady em base x rc rw rn was) → Gives x.form ratios em base x rc rw rn g →
    FilledBy (based_by x.form x.bases place ratios em base (ruby_of x rc rw)) (λ w. based_row job x w ends) left x was t s →
    FilledBy (answer x.form place g) (λ w. based_row job x w ends) left x was t s
based-told place job x ends {ratios} {em} {base} {rc} {rw} {rn} {left} {was} {t} {g} {s} h runs v j = go x.form h runs v j
  where
    Row-of : Form → Word → ℕ → Cell
    Row-of f w i = cond (is_j f) (jukugo_row job x w ends i) (word_row x w ends 0 0 i)

    jukugo : RunsReady em base x rc rw rn was → Gives J ratios em base x rc rw rn g → (b : Bool) → eqb x.bases 1 ≡ b →
        FilledBy (cond b (single_by place ratios em base (ruby_of x rc rw)) (answered_by (jukugo_judged place base (ruby_of x rc rw).sort) none)) (λ w. jukugo_row job x w ends) left x was t s →
        FilledBy (answer J place g) (λ w. jukugo_row job x w ends) left x was t s
    jukugo r v true e j = let one = eqb-true x.bases 1 e in judged_as (single-told place v one (r.whole one)) (λ w d f. f) j
    jukugo r v false e j =
        judged_as (cut-told place v) (λ w d f. f)
        (cut_as job x ends (jukugo_judged place base (ruby_of x rc rw).sort) (word_of J g) (omega (arith, eqb-false x.bases 1 e, r.some)) j)

    go : (f : Form) → is_based f ≡ true → (is_j f ≡ true → RunsReady em base x rc rw rn was) → Gives f ratios em base x rc rw rn g →
        FilledBy (based_by f x.bases place ratios em base (ruby_of x rc rw)) (Row-of f) left x was t s → FilledBy (answer f place g) (Row-of f) left x was t s
    go P h r v j = absurd (false≢true h)
    go M h r v j = absurd (false≢true h)
    go G h r v j = judged_as (group-told place v) (λ w d f. f) j
    go J h r v j = jukugo (r refl) v (eqb x.bases 1) refl j

-- A P.

pub record PlainReady (b r : ℕ) (cs ws bs ss fs : List ℕ) (t : List Cell) : Type 0 where
  pub few : b < 4096
  pub few_ruby : r ≤ 4096
  pub class : b < length cs
  pub width : b < length ws
  pub before : b < length bs
  pub after : b < length ss
  pub flag : b < length fs
  pub narrow : get_or ws b 0 ≤ 4096
  pub held : b < length t

-- the row of base character b, a P before which r ruby characters and l left ones were taken
abbrev pub plain_row : ℕ → ℕ → ℕ → ℕ → ℕ → List ℕ → List ℕ → List ℕ → List ℕ → List ℕ → Cell
plain_row profile b r l em class width before after flag =
    let d = depths_by profile (eqb b 0) (get_or class b 0) (get_or width b 0) (get_or before b 0) (get_or after b 0) em in
    record {
      bases = 1;
      cut = false;
      ends = eqb (get_or flag b 0) 1;
      word = plain (get_or width b 0);
      before = d.before;
      after = d.after;
      ruby = r;
      rubies = 0;
      left = l;
      lefts = 0;
      own = 0;
      wide = 0;
      over = 0;
      western = false;
      ownleft = 0;
      more = false;
    }
