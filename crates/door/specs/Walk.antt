-- The walk along the elements: where it stands, and what one element does to it.
use Rattle.std.specs.Prelude.{Option, Some, None, Result, Ok, Err, ◌≡◌, refl, Bool, true, false, cond, not, ◌||◌, List, ◌++◌, ℕ, ◌+◌, ◌^◌, ◌≤◌, ◌<◌, eqb, length, get_or}
use Rattle.std.proofs.Math.Path.{sym}
use Rattle.std.proofs.Common.{ap, ◌∙◌, true≢false, arith, ne_eqb}
use Rattle.std.proofs.lemmas.Bool.{false≢true}
use Rattle.basics.specs.Lists.{All}
use Rattle.basics.specs.Laws.{none_any, all_map}
use Rattle.refusal.specs.declared.Refusal.{Refusal}
use Rattle.refusal.specs.declared.Refusal.TheVariants.{Element, LeftKind, Supply, BlankInside, JukugoBase, Mixed, WesternOver}
use Rattle.word.specs.declared.Form.{Form}
use Rattle.word.specs.declared.Form.TheVariants.{P, M, G, J}
use Rattle.word.specs.declared.Left.{Left}
use Rattle.word.specs.declared.Left.TheVariants as left
use Rattle.word.specs.declared.Word.{Word}
use Rattle.word.specs.declared.Answer.TheVariants as word
use Rattle.word.specs.Given.{has_ruby, is_j}
use Rattle.word.specs.Both.{has_left, takes, is_group}
use Rattle.word.specs.Answer.{blank_inside, jukugo_base}
use Rattle.word.specs.Answered.{mixed_both, western_both, answer_both, LeftReady}
use Rattle.door.specs.declared.Taken.{Taken}
use Rattle.door.specs.declared.Piece.{Piece}
use Rattle.door.specs.Job.{Job, base_count, ruby_count, left_count, element_count, entries, known, known_left, left_by_runs, takes_runs, takes_left_runs, element, given, gloss_of}
use Rattle.door.specs.Refusals.{◌when◌, counts_out, left_out, counts_wrong, run_out, element_faults}
use Rattle.door.specs.Verdict.{unless_refused}
use Rattle.door.specs.Entries.{length-entries, sum-most, sum_first, some-within}
use Rattle.door.specs.Elements.{with_left, and_then, counted_by, Reads, by_rows_lem}
use Rattle.door.specs.Passed.{Few, FewLeft, counts-few, gloss-few, supplied}
use Rattle.door.specs.Whole.{base-within, ruby-within, left-within}

-- characters that their checks leave, and no more of them and of elements than the maximum
pub record Clean (job : Job) : Type 0 where
  pub few : base_count job ≤ 1024
  pub few_ruby : ruby_count job ≤ 2048
  pub few_left : left_count job ≤ 2048
  pub few_elements : element_count job ≤ 1024
  pub some : (i : ℕ) → i < base_count job → 1 ≤ get_or job.width i 0
  pub narrow : (i : ℕ) → i < base_count job → get_or job.width i 0 ≤ 4096
  pub narrow_ruby : (i : ℕ) → i < ruby_count job → get_or job.ruby_width i 0 ≤ 4096
  pub narrow_left : (i : ℕ) → i < left_count job → get_or job.left_width i 0 ≤ 4096

-- what was taken so far is there
pub record Within (job : Job) (at : Taken) : Type 0 where
  pub base : at.base ≤ base_count job
  pub ruby : at.ruby ≤ ruby_count job
  pub left : at.left ≤ left_count job
  pub runs : at.run ≤ at.base
  pub left_runs : at.leftrun ≤ at.base
  pub held : at.run ≤ length job.run
  pub left_held : at.leftrun ≤ length job.left_run

-- the walk at element k
pub record Stands (job : Job) (k : ℕ) (at : Taken) : Type 0 where
  pub clean : Clean job
  pub index : k < element_count job
  pub within : Within job at

-- one element: its piece, or the first of its refusals
abbrev pub element_step : Job → ℕ → Taken → Result Piece Refusal
element_step job k at = unless_refused (element_faults job k (element job k at)) (element job k at)

-- what the counting of an element says
abbrev pub counting : Job → ℕ → Taken → Option Piece
counting job k at =
    counted_by (get_or job.kind k 0) (get_or job.element_base k 0) (get_or job.element_ruby k 0) (get_or job.left_kind k 0) (get_or job.element_left k 0) job.run job.left_run at

-- right first, then left
in_turn : (t w s v : Bool) (y x : Piece) (f : Piece → Option Piece) → f y ≡ cond s (cond v None (Some x)) None →
    and_then (cond t (cond w None (Some y)) None) f ≡ cond ((not t || w) || (not s || v)) None (Some x)
in_turn true true s v y x f e = refl
in_turn true false true true y x f e = e
in_turn true false true false y x f e = e
in_turn true false false v y x f e = e
in_turn false w s v y x f e = refl

counted : (job : Job) (k : ℕ) (at : Taken) → let x = element job k at in counting job k at ≡ cond (counts_wrong job k x) None (Some x)
unfolding counted_by element
counted job k at =
    let x = element job k at in
    in_turn (known (get_or job.kind k 0)) (counts_out x.form x.bases x.rubies (given job x).run) (known_left (get_or job.left_kind k 0)) (left_out x.form x.gloss x.lefts (gloss_of job x).run)
    (with_left x left.N 0) x _ refl

cond-out : (t : Bool) (p : Piece) → cond t None (Some p) ≡ None → t ≡ true
cond-out true p e = refl
cond-out false p e = absurd (let z : ◌≡◌ {A = ℕ} 0 1 = cc in omega arith)

cond-is : (t : Bool) (p : Piece) {q : Piece} → cond t None (Some p) ≡ Some q → (t ≡ false) × (q ≡ p)
cond-is true p e = absurd (let z : ◌≡◌ {A = ℕ} 0 1 = cc in omega arith)
cond-is false p e = (refl, cc)

-- only a J takes runs, and of left readings those that have them
runs-held : (form : Form) (u n most : ℕ) → u ≤ most → (is_j form ≡ true → u + n ≤ most) → u + takes_runs form n ≤ most
runs-held P u n most h f = omega arith
runs-held M u n most h f = omega arith
runs-held G u n most h f = omega arith
runs-held J u n most h f = f refl

left_held_lem : (form : Form) (gloss : Left) (u n most : ℕ) → u ≤ most → (left_by_runs form gloss ≡ true → u + n ≤ most) → u + takes_left_runs form gloss n ≤ most
left_held_lem form gloss u n most h f = go (left_by_runs form gloss) f
  where
    go : (t : Bool) → (t ≡ true → u + n ≤ most) → u + cond t n 0 ≤ most
    go true f = f refl
    go false f = omega arith

all-within : (xs : List ℕ) (a n : ℕ) → 0 < n → All (λ m. 0 < m) (entries xs a n) → a + n ≤ length xs
all-within xs a n h all = some-within xs a n h (none_any (eqb 0) (entries xs a n) (all_map (λ m. 0 < m) (λ m. eqb 0 m ≡ false) (entries xs a n) (λ m l. ne_eqb 0 m (λ e. omega arith)) all))

-- an element with a left reading that it takes has ruby, and its left reading has runs where it is a J and no group
pub left_over-ruby : (form : Form) (gloss : Left) → has_left gloss ≡ true → takes form gloss ≡ true → has_ruby form ≡ true
left_over-ruby form left.N h t = absurd (false≢true h)
left_over-ruby P left.M h t = absurd (false≢true t)
left_over-ruby P left.G h t = absurd (false≢true t)
left_over-ruby P left.J h t = absurd (false≢true t)
left_over-ruby M left.M h t = refl
left_over-ruby M left.G h t = refl
left_over-ruby M left.J h t = refl
left_over-ruby G left.M h t = refl
left_over-ruby G left.G h t = refl
left_over-ruby G left.J h t = refl
left_over-ruby J left.M h t = refl
left_over-ruby J left.G h t = refl
left_over-ruby J left.J h t = refl

pub jukugo-runs : (form : Form) (gloss : Left) → is_j form ≡ true → has_left gloss ≡ true → is_group gloss ≡ false → left_by_runs form gloss ≡ true
jukugo-runs P gloss j h g = absurd (false≢true j)
jukugo-runs M gloss j h g = absurd (false≢true j)
jukugo-runs G gloss j h g = absurd (false≢true j)
jukugo-runs J left.N j h g = absurd (false≢true h)
jukugo-runs J left.M j h g = refl
jukugo-runs J left.G j h g = absurd (true≢false g)
jukugo-runs J left.J j h g = refl

module _ (job : Job) (k : ℕ) (at : Taken) where
  abbrev pub x : Piece
  x = element job k at

  -- number 5
  pub out-stops : counting job k at ≡ None → Err (Element k) ≡ element_step job k at
  out-stops e = rw (cond-out (counts_wrong job k x) _ (sym (counted job k at) ∙ e))

  pub passes-five : {p : Piece} → counting job k at ≡ Some p → (counts_wrong job k x ≡ false) × (p ≡ x)
  passes-five e = cond-is (counts_wrong job k x) x (sym (counted job k at) ∙ e)

  module _ (five : counts_wrong job k x ≡ false) where
    pub few : Few x.form x.bases x.rubies (given job x).run
    few = counts-few job k at five

    pub few_left_lem : FewLeft x.form x.gloss x.lefts (gloss_of job x).run
    few_left_lem = gloss-few job k at five

    -- no sum of a place and a count is large
    pub small : Stands job k at → (x.base + x.bases < 2 ^ 40) × (x.ruby + x.rubies < 2 ^ 40) × (x.left + x.lefts < 2 ^ 40)
    unfolding element
    small st =
        let w = st.within in
        let c = st.clean in
        (omega (arith, w.base, c.few, few.few), omega (arith, w.ruby, c.few_ruby, few.few_ruby), omega (arith, w.left, c.few_left, few_left_lem.few))

    -- number 16
    pub kind-stops : takes x.form x.gloss ≡ false → Err (LeftKind k) ≡ element_step job k at
    kind-stops e = rw (five, e)

    module _ (sixteen : takes x.form x.gloss ≡ true) where
      -- number 6
      pub short-stops : run_out job x ≡ true → Err (Supply k) ≡ element_step job k at
      short-stops e = rw (five, sixteen, e)

      module _ (six : run_out job x ≡ false) where
        -- past these, level one's own rows decide
        word-decides : element_step job k at
            ≡ unless_refused (BlankInside k when blank_inside x.form (given job x) ++ JukugoBase k when jukugo_base x.form (given job x)
            ++ Mixed k when mixed_both x.form (given job x) (gloss_of job x) ++ WesternOver k when western_both x.form (given job x) (gloss_of job x)) x
        word-decides = rw (five, sixteen, six)

        -- the piece lies within the lists, with what level one asks of it
        pub reads : Stands job k at → Reads job x
        unfolding element
        reads st =
            let f = few in
            let l = few_left_lem in
            let s = supplied job x six in
            let c = st.clean in
            let b = base-within job in
            let r = ruby-within job in
            let g = left-within job in
            record {
              class = omega (arith, s.0, b.0);
              width = omega (arith, s.0, b.1);
              before = omega (arith, s.0, b.2);
              after = omega (arith, s.0, b.3);
              flag = omega (arith, s.0, b.4);
              ruby_class = omega (arith, s.1, r.0);
              ruby_width = omega (arith, s.1, r.1);
              run = runs-held x.form at.run x.bases (length job.run) st.within.held (λ j. all-within job.run at.run x.bases f.some (f.each j));
              left_class = omega (arith, s.2, g.0);
              left_width = omega (arith, s.2, g.1);
              left_run = left_held_lem x.form x.gloss at.leftrun x.bases (length job.left_run) st.within.left_held (λ j. all-within job.left_run at.leftrun x.bases f.some (l.each j));
              sized =
                  record {
                    some = omega (arith, sum_first job.width at.base x.bases f.some, c.some at.base (omega (arith, s.0, f.some)));
                    few = omega (arith, length-entries job.width at.base x.bases, f.few);
                    narrow = omega (arith, sum-most job.width 4096 at.base x.bases (λ i l h. c.narrow i (omega (arith, s.0))), f.few);
                    reads = λ h. omega (arith, length-entries job.ruby_width at.ruby x.rubies, f.reads h);
                    few_ruby = omega (arith, length-entries job.ruby_width at.ruby x.rubies, f.few_ruby);
                    narrow_ruby = omega (arith, sum-most job.ruby_width 4096 at.ruby x.rubies (λ i l h. c.narrow_ruby i (omega (arith, s.1))), f.few_ruby);
                    whole = λ j. sym (length-entries job.ruby_width at.ruby x.rubies ∙ f.whole j);
                  };
            }

        pub left-ready : Stands job k at → has_left x.gloss ≡ true →
            LeftReady x.form x.gloss (given job x).width (given job x).ruby_width (given job x).run (gloss_of job x).width (gloss_of job x).run
        left-ready st h =
            let l = few_left_lem in
            let s = supplied job x six in
            let m = length-entries job.left_width x.left x.lefts in
            record {
              ruby = left_over-ruby x.form x.gloss h sixteen;
              sized = (reads st).sized;
              here = h;
              gloss =
                  record {
                    some = omega (arith, m, l.reads h sixteen);
                    few = omega (arith, m, l.few);
                    narrow = omega (arith, sum-most job.left_width 4096 x.left x.lefts (λ i a b. st.clean.narrow_left i (omega (arith, s.2))), l.few);
                  };
              whole = λ j g. sym (m ∙ l.whole (jukugo-runs x.form x.gloss j h g));
            }

        pub set-goes_on : {v : Word} → answer_both x.form k (given job x) (gloss_of job x) ≡ word.Set v → Ok x ≡ element_step job k at
        set-goes_on e =
            by_rows_lem x.form k (given job x) (gloss_of job x) x (Ok x) (λ q f. absurd (let z : ◌≡◌ {A = ℕ} 0 1 = cc in omega arith)) (λ w f. refl) ∙ sym word-decides

        pub refused-stops : {q : Refusal} → answer_both x.form k (given job x) (gloss_of job x) ≡ word.Refused q → Err q ≡ element_step job k at
        refused-stops e =
            by_rows_lem x.form k (given job x) (gloss_of job x) x (Err _) (λ q f. let h : _ ≡ q = cc in ap Err h) (λ w f. absurd (let z : ◌≡◌ {A = ℕ} 0 1 = cc in omega arith)) ∙ sym word-decides
