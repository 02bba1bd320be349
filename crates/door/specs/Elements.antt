-- The counts of one element (5) as the door finds them, its left reading after its right one; and level one's own rows (7 to 10) as its answer gives them.
use Rattle.std.specs.Prelude.{◌≡◌, refl, Bool, true, false, cond, ◌||◌, List, [], ◌∷◌, ◌++◌, ℕ, ◌+◌, ◌≤◌, eqb, ltb, length, Option, Some, None, Result, Ok, Err}
use Rattle.std.proofs.Common.{sym, ◌∙◌, arith, ltb-false}
use Rattle.std.proofs.lemmas.Bool.{false≢true}
use Rattle.basics.specs.Lists.{sum, any}
use Rattle.basics.specs.Laws.{or_none}
use Rattle.refusal.specs.declared.Refusal.{Refusal}
use Rattle.refusal.specs.declared.Refusal.TheVariants.{BlankInside, JukugoBase, Mixed, WesternOver}
use Rattle.word.specs.declared.Form.{Form}
use Rattle.word.specs.declared.Form.TheVariants.{P, M, G, J}
use Rattle.word.specs.declared.Left.{Left}
use Rattle.word.specs.declared.Left.TheVariants.{N}
use Rattle.word.specs.declared.Left.TheVariants as left
use Rattle.word.specs.declared.Answer.TheVariants as word
use Rattle.word.specs.Given.{Given}
use Rattle.word.specs.Both.{Gloss}
use Rattle.word.specs.Answer.{blank_inside, jukugo_base}
use Rattle.word.specs.Answered.{mixed_both, western_both, answer_both}
use Rattle.word.specs.Sides.{word_of}
use Rattle.word.specs.Sized.{Sized}
use Rattle.door.specs.declared.Taken.{Taken}
use Rattle.door.specs.declared.Piece.{Piece}
use Rattle.door.specs.Job.{Job, entries, known, known_left, form_of, left_of, left_by_runs, left_by_count, takes_base, takes_ruby, takes_runs, takes_left, takes_left_runs, given}
use Rattle.door.specs.Refusals.{◌when◌, outside, counts_out, left_out}
use Rattle.door.specs.Verdict.{unless_refused}
use Rattle.door.specs.Values.{runs_from, runs-wrong, runs-sum}

-- An element without a left reading, by its kind and counts, those before it having taken `at`.

abbrev pub alone : Form → ℕ → ℕ → Taken → Piece
alone form bases rubies at =
    record {
      form = form;
      base = at.base;
      bases = bases;
      ruby = at.ruby;
      rubies = rubies;
      run = at.run;
      gloss = N;
      left = at.left;
      lefts = 0;
      leftrun = at.leftrun;
      more = false;
    }

abbrev pub right_as : Form → ℕ → ℕ → List ℕ → Taken → Option Piece
right_as form base ruby runs at =
    let n = takes_base form base in
    let es = entries runs at.run n in
    let m = takes_ruby form ruby (sum es) in
    cond (counts_out form n m es) None (Some (alone form n m at))

unfoldable pub right_by : ℕ → ℕ → ℕ → List ℕ → Taken → Option Piece
right_by kind base ruby runs at = cond (known kind) (right_as (form_of kind) base ruby runs at) None

-- And with its left reading, by the kind and counts of that.

abbrev pub with_left : Piece → Left → ℕ → Piece
with_left p gloss lefts =
    record {
      form = p.form;
      base = p.base;
      bases = p.bases;
      ruby = p.ruby;
      rubies = p.rubies;
      run = p.run;
      gloss = gloss;
      left = p.left;
      lefts = lefts;
      leftrun = p.leftrun;
      more = p.more;
    }

abbrev pub glossed_as : Piece → Left → ℕ → List ℕ → Option Piece
glossed_as p gloss left runs =
    let es = entries runs p.leftrun p.bases in
    let m = takes_left p.form gloss left (sum es) in
    cond (left_out p.form gloss m es) None (Some (with_left p gloss m))

unfoldable pub glossed_by : Piece → ℕ → ℕ → List ℕ → Option Piece
glossed_by p kind left runs = cond (known_left kind) (glossed_as p (left_of kind) left runs) None

-- what the left counts ask of an element whose right counts are in range
few-bases : (form : Form) (b r : ℕ) (runs : List ℕ) → counts_out form (takes_base form b) r runs ≡ false → takes_base form b ≤ 32
few-bases P b r runs e = omega arith
few-bases M b r runs e = omega arith
few-bases G b r runs e = ltb-false 32 b (or_none (ltb b 1) (ltb 32 b) (or_none (outside 1 32 b) (outside 1 64 r) e).0).1
few-bases J b r runs e = ltb-false 32 b (or_none (ltb b 1) (ltb 32 b) (or_none (outside 1 32 b) (any (eqb 0) runs || ltb 64 r) e).0).1

pub right-few : (kind base ruby : ℕ) (runs : List ℕ) (at : Taken) {p : Piece} → at.leftrun ≤ 1024 → right_by kind base ruby runs at ≡ Some p → (p.leftrun ≤ 1024) × (p.bases ≤ 32)
unfolding right_by
right-few kind base ruby runs at {p} h e = go (known kind) (counts_out f n m es) refl e
  where
    f : Form
    f = form_of kind

    n : ℕ
    n = takes_base f base

    es : List ℕ
    es = entries runs at.run n

    m : ℕ
    m = takes_ruby f ruby (sum es)

    go : (t w : Bool) → counts_out f n m es ≡ w → cond t (cond w None (Some (alone f n m at))) None ≡ Some p → (p.leftrun ≤ 1024) × (p.bases ≤ 32)
    go true true d e = absurd (let z : ◌≡◌ {A = ℕ} 0 1 = cc in omega arith)
    go true false d e = let same : p ≡ alone f n m at = cc in rw same (h, few-bases f base m es d)
    go false w d e = absurd (let z : ◌≡◌ {A = ℕ} 0 1 = cc in omega arith)

-- Both, "right first".

abbrev pub and_then : Option Piece → (Piece → Option Piece) → Option Piece
and_then (Some p) f = f p
and_then None f = None

unfoldable pub counted_by : ℕ → ℕ → ℕ → ℕ → ℕ → List ℕ → List ℕ → Taken → Option Piece
unfolding right_by glossed_by
counted_by kind base ruby lkind left runs lruns at = and_then (right_by kind base ruby runs at) (λ p. glossed_by p lkind left lruns)

-- an M is counted by itself
pub mono_only : (kind base ruby : ℕ) (runs : List ℕ) (at : Taken) → kind ≡ 77 → right_as M 1 ruby [] at ≡ right_by kind base ruby runs at
unfolding right_by
mono_only kind base ruby runs at e = rw e

-- without a left reading the right one is all
pub right-only : (kind base ruby lkind left : ℕ) (runs lruns : List ℕ) (at : Taken) → lkind ≡ 78 → right_by kind base ruby runs at ≡ counted_by kind base ruby lkind left runs lruns at
unfolding counted_by
right-only kind base ruby lkind left runs lruns at e = rw e (go (known kind) (counts_out f n m es))
  where
    f : Form
    f = form_of kind

    n : ℕ
    n = takes_base f base

    es : List ℕ
    es = entries runs at.run n

    m : ℕ
    m = takes_ruby f ruby (sum es)

    go : (t w : Bool) → let c = cond t (cond w None (Some (alone f n m at))) None in c ≡ and_then c (λ p. glossed_by p 78 left lruns)
    go true true = refl
    go true false = refl
    go false w = refl

-- a left reading has runs or one count, not both
one_way : (form : Form) (gloss : Left) → left_by_runs form gloss ≡ true → left_by_count form gloss ≡ false
one_way form N h = absurd (false≢true h)
one_way form left.G h = absurd (false≢true h)
one_way P left.M h = absurd (false≢true h)
one_way M left.M h = absurd (false≢true h)
one_way G left.M h = refl
one_way J left.M h = refl
one_way form left.J h = refl

-- what each count of a left reading whose kind is known comes to
module _ (p : Piece) (kind left : ℕ) (runs : List ℕ) (fine : known_left kind ≡ true) {gloss : Left} (is : gloss ≡ left_of kind) where
  by_kind : glossed_by p kind left runs ≡ glossed_as p gloss left runs
  unfolding glossed_by
  by_kind = rw (fine, is)

  module _ (by : left_by_runs p.form gloss ≡ true) where
    pub runs-out : runs_from runs p.leftrun p.bases ≡ None → None ≡ glossed_by p kind left runs
    runs-out e = sym (by_kind ∙ rw (by, runs-wrong runs p.leftrun p.bases e))

    pub runs_in : {n : ℕ} → runs_from runs p.leftrun p.bases ≡ Some n → Some (with_left p gloss n) ≡ glossed_by p kind left runs
    runs_in e = let s = runs-sum runs p.leftrun p.bases e in sym (by_kind ∙ rw (by, one_way p.form gloss by, s.0, s.1))

  module _ (not : left_by_runs p.form gloss ≡ false) where
    pub count-out : left_by_count p.form gloss ≡ true → outside 1 64 left ≡ true → None ≡ glossed_by p kind left runs
    count-out by e = sym (by_kind ∙ rw (not, by, e))

    pub count_in : left_by_count p.form gloss ≡ true → outside 1 64 left ≡ false → Some (with_left p gloss left) ≡ glossed_by p kind left runs
    count_in by e = sym (by_kind ∙ rw (not, by, e))

    pub none_in : left_by_count p.form gloss ≡ false → Some (with_left p gloss 0) ≡ glossed_by p kind left runs
    none_in by = sym (by_kind ∙ rw (not, by))

-- a piece that lies within the job's lists, with what level one asks of it
pub record Reads (job : Job) (p : Piece) : Type 0 where
  pub class : p.base + p.bases ≤ length job.class
  pub width : p.base + p.bases ≤ length job.width
  pub before : p.base + p.bases ≤ length job.before
  pub after : p.base + p.bases ≤ length job.after
  pub flag : p.base + p.bases ≤ length job.flag
  pub ruby_class : p.ruby + p.rubies ≤ length job.ruby_class
  pub ruby_width : p.ruby + p.rubies ≤ length job.ruby_width
  pub run : p.run + takes_runs p.form p.bases ≤ length job.run
  pub left_class : p.left + p.lefts ≤ length job.left_class
  pub left_width : p.left + p.lefts ≤ length job.left_width
  pub left_run : p.leftrun + takes_left_runs p.form p.gloss p.bases ≤ length job.left_run
  pub sized : Sized p.form (given job p).width (given job p).ruby_width (given job p).run

-- level one's answer, by its rows
pub by_rows_lem : (form : Form) (k : ℕ) (w : Given) (g : Gloss) (p : Piece) (s : Result Piece Refusal) →
    ((r : Refusal) → answer_both form k w g ≡ word.Refused r → s ≡ Err r) → ((v : _) → answer_both form k w g ≡ word.Set v → s ≡ Ok p) →
    s ≡ unless_refused (BlankInside k when blank_inside form w ++ JukugoBase k when jukugo_base form w ++ Mixed k when mixed_both form w g ++ WesternOver k when western_both form w g) p
unfolding answer_both
by_rows_lem form k w g p s refused set = go (blank_inside form w) (jukugo_base form w) (mixed_both form w g) (western_both form w g) refused set
  where
    go : (a b c d : Bool) →
        ((r : Refusal) → cond a (word.Refused (BlankInside k)) (cond b (word.Refused (JukugoBase k)) (cond c (word.Refused (Mixed k)) (cond d (word.Refused (WesternOver k)) (word.Set (word_of form w g))))) ≡ word.Refused r → s ≡ Err r) →
        ((v : _) → cond a (word.Refused (BlankInside k)) (cond b (word.Refused (JukugoBase k)) (cond c (word.Refused (Mixed k)) (cond d (word.Refused (WesternOver k)) (word.Set (word_of form w g))))) ≡ word.Set v → s ≡ Ok p) →
        s ≡ unless_refused (BlankInside k when a ++ JukugoBase k when b ++ Mixed k when c ++ WesternOver k when d) p
    go true b c d f g = f _ refl
    go false true c d f g = f _ refl
    go false false true d f g = f _ refl
    go false false false true f g = f _ refl
    go false false false false f g = g _ refl
