-- Level one from sums and kinds: of its strings a word asks for no more than these, so that its answer can be worked out by value. Each law says that this is the answer of document 01.
use Rattle.std.proofs.Math.Path.{◌≡◌, refl, ap}
use Rattle.std.proofs.Common.{◌∙◌, subst, zero-le}
use Rattle.std.specs.Prelude.{Bool, ◌&&◌, ◌||◌, List, [], ◌∷◌, map, ℕ, Option, Some, None, Result, Ok, Err, ⊤, ◌*◌, ◌≤◌, ◌<◌, ltb, length, get_or}
use Rattle.std.proofs.Math.Bool.{true, false, cond}
use Rattle.std.proofs.Math.Seq.{take-length}
use Rattle.basics.specs.Lists.{sum, any, other, last_or}
use Rattle.basics.specs.Laws.{or_none, sum-some, all-least}
use Rattle.class.specs.Class.{western}
use Rattle.spread.specs.declared.Way.TheVariants.{Solid}
use Rattle.spread.specs.Gap.{gaps}
use Rattle.spread.specs.Ratio.{Ratios, usual}
use Rattle.refusal.specs.declared.Refusal.{Refusal}
use Rattle.refusal.specs.declared.Refusal.TheVariants.{BlankInside, JukugoBase, Mixed, WesternOver}
use Rattle.word.specs.declared.Script.{Script}
use Rattle.word.specs.declared.Script.TheVariants as script
use Rattle.word.specs.declared.Form.{Form}
use Rattle.word.specs.declared.Form.TheVariants.{P, M, G, J}
use Rattle.word.specs.declared.Left.{Left}
use Rattle.word.specs.declared.Str.{Str}
use Rattle.word.specs.declared.Sort.{Sort}
use Rattle.word.specs.declared.Base.{Base}
use Rattle.word.specs.declared.Strand.{Strand}
use Rattle.word.specs.declared.RunStrand.{RunStrand}
use Rattle.word.specs.declared.Word.{Word}
use Rattle.word.specs.declared.Answer.{Answer}
use Rattle.word.specs.declared.Answer.TheVariants.{Set, Refused}
use Rattle.word.specs.Given.{Given, has_ruby, is_g, is_j}
use Rattle.word.specs.Alone.{ruby_way, base_way, split, any_longer}
use Rattle.word.specs.Word.{none, between, plain, word_by, group_word, over_each, jukugo_word, word_of}
use Rattle.word.specs.Numbers.{word_from, word_from_lem}
use Rattle.word.specs.Answer.{mixed, answer}
use Rattle.word.specs.Kinds.{sort_of, is_mixed, not_kana, is_western, script_of, kana-unmixed, mixed-sort, kana-sort, western-sort}
use Rattle.word.specs.Runs.{runs_of, runs_fit, first_fits, last_fits}
use Rattle.word.specs.Both.{Gloss, has_left, is_group}
use Rattle.word.specs.Sides as sides
use Rattle.word.specs.Sides.{str_of, sided, monos_word, groups_word, jukugos_word, jukugos_by, two_by, word_two}
use Rattle.word.specs.Answered.{answer_both}
use Rattle.word.specs.Rows.{row_of, answered, by_row}

-- what is asked of a base: some blank field that is not 0 (7), what it is made of (8 to 10), of a J whether one is not one em wide (8), its width and count
abbrev pub base_of : Form → ℕ → List ℕ → List ℕ → List ℕ → List ℕ → Base
base_of form em class width before after =
    record { blank = any (other 0) before || any (other 0) after; sort = sort_of class; uneven = is_j form && any (other em) width; string = str_of width }

-- and of a reading; where it is laid by runs also whether one is longer than one em, and the lengths of the first and the last
abbrev pub strand_of : List ℕ → List ℕ → Strand
strand_of class width = record { sort = sort_of class; string = str_of width }

abbrev pub first_of : List ℕ → List ℕ → ℕ
first_of runs width = get_or (map sum (split runs width)) 0 0

abbrev pub run_strand_of : ℕ → List ℕ → List ℕ → List ℕ → RunStrand
run_strand_of em class width runs = record { strand = strand_of class width; first = first_of runs width; last = runs_of em runs width }

abbrev pub given_base : Form → Given → Base
given_base form w = base_of form w.em w.class w.width w.before w.after

-- a J is as wide as its first character where each is one em wide
pub ems-wide : (form : Form) (em : ℕ) (bs : List ℕ) → 0 < sum bs → is_j form ≡ true → (is_j form && any (other em) bs) ≡ false → em ≤ sum bs
ems-wide form em bs some j e = all-least em bs (sum-some bs some) (go (is_j form) (any (other em) bs) j e)
  where
    go : (a b : Bool) → a ≡ true → (a && b) ≡ false → b ≡ false
    go true b h e = e
    go false b h e = cc

-- M: number 7 alone; its word is solid, which asks for no ratio, no em and no count
unfoldable pub mono_by : ℕ → Bool → ℕ → ℕ → Answer
mono_by place blank B R = cond blank (Refused (BlankInside place)) (Set (word_from Solid Solid usual 0 B 1 R 1))

pub mono_by_lem : (place : ℕ) (w : Given) → answer M place w ≡ mono_by place (any (other 0) w.before || any (other 0) w.after) (sum w.width) (sum w.ruby_width)
unfolding answer mono_by word_of word_by word_from gaps
mono_by_lem place w = refl

-- the word of a G, by what its strings are made of
unfoldable pub group_from : Script → Script → Ratios → ℕ → Str → Str → Word
group_from r b h em base ruby = word_from (ruby_way r b) (base_way r b) h em base.width base.count ruby.width ruby.count

pub group_from_lem : (r b : Script) (h : Ratios) (em : ℕ) (bs rs : List ℕ) → group_word r b h em bs rs ≡ group_from r b h em (str_of bs) (str_of rs)
unfolding group_word group_from
group_from_lem r b h em bs rs = word_from_lem (ruby_way r b) (base_way r b) h em bs rs

-- G: numbers 7, 9 and 10
unfoldable pub group_by : ℕ → Ratios → ℕ → Base → Strand → Answer
unfolding group_from
group_by place h em b r =
    cond b.blank (Refused (BlankInside place))
    (cond (is_mixed b.sort || is_mixed r.sort) (Refused (Mixed place))
    (cond (is_western r.sort && is_western b.sort) (Refused (WesternOver place))
    (Set (group_from (script_of r.sort) (script_of b.sort) h em b.string r.string))))

-- of a string that is no mixture
script-sort : (cs : List ℕ) → is_mixed (sort_of cs) ≡ false → cond (any western cs) script.Western script.Kana ≡ script_of (sort_of cs)
script-sort cs e = ap (λ t. cond t script.Western script.Kana) (western-sort cs e)

pub group_by_lem : (place : ℕ) (w : Given) → answer G place w ≡ group_by place w.ratios w.em (given_base G w) (strand_of w.ruby_class w.ruby_width)
unfolding answer group_by word_of
group_by_lem place w =
    rw (mixed-sort w.class, mixed-sort w.ruby_class)
    (go (any (other 0) w.before || any (other 0) w.after) (is_mixed (sort_of w.class)) (is_mixed (sort_of w.ruby_class)) refl refl)
  where
    set : Script → Script → Answer
    set r b = Set (group_from r b w.ratios w.em (str_of w.width) (str_of w.ruby_width))

    go : (blank m n : Bool) → is_mixed (sort_of w.class) ≡ m → is_mixed (sort_of w.ruby_class) ≡ n →
        cond blank (Refused (BlankInside place)) (cond (m || n) (Refused (Mixed place)) (cond (any western w.ruby_class && any western w.class) (Refused (WesternOver place))
        (Set (group_word (cond (any western w.ruby_class) script.Western script.Kana) (cond (any western w.class) script.Western script.Kana) w.ratios w.em w.width w.ruby_width))))
        ≡ cond blank (Refused (BlankInside place)) (cond (m || n) (Refused (Mixed place))
        (cond (is_western (sort_of w.ruby_class) && is_western (sort_of w.class)) (Refused (WesternOver place)) (set (script_of (sort_of w.ruby_class)) (script_of (sort_of w.class)))))
    go true m n e f = refl
    go false true n e f = refl
    go false false true e f = refl
    go false false false e f =
        rw (western-sort w.class e, western-sort w.ruby_class f, group_from_lem (script_of (sort_of w.ruby_class)) (script_of (sort_of w.class)) w.ratios w.em w.width w.ruby_width)

-- J: numbers 7, 8 and 9. Once 8 has passed its base is kana-like throughout, so 9 is about its ruby alone.
unfoldable pub jukugo_judged : ℕ → Base → Sort → Result ⊤ Refusal
jukugo_judged place b r =
    cond b.blank (Err (BlankInside place))
    (cond (not_kana b.sort || b.uneven) (Err (JukugoBase place))
    (cond (is_mixed r) (Err (Mixed place))
    (Ok tt)))

abbrev pub answered_by : Result ⊤ Refusal → Word → Answer
answered_by (Ok tt) w = Set w
answered_by (Err why) w = Refused why

pub jukugo_judged_lem : (place : ℕ) (w : Given) → answer J place w ≡ answered_by (jukugo_judged place (given_base J w) (sort_of w.ruby_class)) (word_of J w)
unfolding answer jukugo_judged
jukugo_judged_lem place w =
    rw (kana-sort w.class, mixed-sort w.ruby_class)
    (go (any (other 0) w.before || any (other 0) w.after) (not_kana (sort_of w.class)) (any (other w.em) w.width) (mixed w.class) (is_mixed (sort_of w.ruby_class)) unmixed)
  where
    unmixed : not_kana (sort_of w.class) ≡ false → mixed w.class ≡ false
    unmixed e = kana-unmixed w.class (kana-sort w.class ∙ e)

    go : (blank n u c r : Bool) → (n ≡ false → c ≡ false) →
        cond blank (Refused (BlankInside place)) (cond (n || u) (Refused (JukugoBase place)) (cond (c || r) (Refused (Mixed place)) (Set (word_of J w))))
        ≡ answered_by (cond blank (Err (BlankInside place)) (cond (n || u) (Err (JukugoBase place)) (cond r (Err (Mixed place)) (Ok tt)))) (word_of J w)
    go true n u c r h = refl
    go false true u c r h = refl
    go false false true c r h = refl
    go false false false c true h = rw (h refl)
    go false false false c false h = rw (h refl)

pub judged_even : (place : ℕ) (b : Base) (r : Sort) → jukugo_judged place b r ≡ Ok tt → b.uneven ≡ false
unfolding jukugo_judged
judged_even place b r e = go b.blank (not_kana b.sort) b.uneven (is_mixed r) e
  where
    go : (blank n u c : Bool) → ◌≡◌ {A = Result ⊤ Refusal} (cond blank (Err (BlankInside place)) (cond (n || u) (Err (JukugoBase place)) (cond c (Err (Mixed place)) (Ok tt)))) (Ok tt) → u ≡ false
    go blank n false c e = refl
    go true n true c e = cc
    go false true true c e = cc
    go false false true c e = cc

-- a J of one character, whose only run is all of its ruby
unfoldable pub single_from : Script → Ratios → ℕ → Str → Str → Word
single_from r h em base ruby =
    cond (ltb em ruby.width) (group_from r script.Kana h em base ruby)
    (record { front = 0; len = 2 * base.width; inbase = 0; right = between em base.width ruby.width ruby.width; left = none })

unfoldable pub single_by : ℕ → Ratios → ℕ → Base → Strand → Answer
unfolding jukugo_judged single_from
single_by place h em b r = answered_by (jukugo_judged place b r.sort) (single_from (script_of r.sort) h em b.string r.string)

single-word : (r : Script) (h : Ratios) (em : ℕ) (bs rs : List ℕ) → jukugo_word r h em bs (length rs ∷ []) rs ≡ single_from r h em (str_of bs) (str_of rs)
unfolding jukugo_word single_from over_each
single-word r h em bs rs = rw (take-length rs) (go (ltb em (sum rs)))
  where
    go : (t : Bool) → cond (t || false) (group_word r script.Kana h em bs rs) (over_each em (sum bs) (sum rs ∷ []))
        ≡ cond t (group_from r script.Kana h em (str_of bs) (str_of rs))
        (record { front = 0; len = 2 * sum bs; inbase = 0; right = between em (sum bs) (sum rs) (sum rs); left = none })
    go true = group_from_lem r script.Kana h em bs rs
    go false = refl

-- a judgement that passes leaves no mixture
judged-unmixed : (place : ℕ) (b : Base) (r : Sort) → jukugo_judged place b r ≡ Ok tt → is_mixed r ≡ false
unfolding jukugo_judged
judged-unmixed place b r e = go b.blank (not_kana b.sort || b.uneven) (is_mixed r) e
  where
    go : (blank j c : Bool) → ◌≡◌ {A = Result ⊤ Refusal} (cond blank (Err (BlankInside place)) (cond j (Err (JukugoBase place)) (cond c (Err (Mixed place)) (Ok tt)))) (Ok tt) → c ≡ false
    go blank j false e = refl
    go true j true e = cc
    go false true true e = cc
    go false false true e = cc

-- the word matters only where no row holds
same_word : (q : Result ⊤ Refusal) {u v : Word} → (q ≡ Ok tt → u ≡ v) → answered_by q u ≡ answered_by q v
same_word (Ok tt) h = ap Set (h refl)
same_word (Err why) h = refl

pub single_by_lem : (place : ℕ) (w : Given) → w.run ≡ length w.ruby_width ∷ [] → answer J place w ≡ single_by place w.ratios w.em (given_base J w) (strand_of w.ruby_class w.ruby_width)
unfolding single_by word_of
single_by_lem place w e =
    jukugo_judged_lem place w
    ∙ same_word (jukugo_judged place (given_base J w) (sort_of w.ruby_class))
    (λ q.
    ap (λ runs. jukugo_word (cond (any western w.ruby_class) script.Western script.Kana) w.ratios w.em w.width runs w.ruby_width) e
    ∙ single-word (cond (any western w.ruby_class) script.Western script.Kana) w.ratios w.em w.width w.ruby_width
    ∙ ap (λ s. single_from s w.ratios w.em (str_of w.width) (str_of w.ruby_width)) (script-sort w.ruby_class (judged-unmixed place (given_base J w) (sort_of w.ruby_class) q)))

-- The word with a left reading, by the strings of its base and either reading, and what is known of their runs.

-- where no run of a side is longer than one em, the first and the last aren't
pub record RunsFit (em : ℕ) (r : RunStrand) : Type 0 where
  pub fit : (last : ℕ) → r.last ≡ Some last → (r.first ≤ em) × (last ≤ em)

pub runs_fit-em : (em : ℕ) (class width runs : List ℕ) → RunsFit em (run_strand_of em class width runs)
runs_fit-em em class width runs =
    record {
      fit = λ last e.
          let p = runs_fit em runs width e in
          (first_fits em (map sum (split runs width)) p.0, subst (λ z. z ≤ em) p.1 (last_fits em 0 (map sum (split runs width)) zero-le p.0));
    }

-- what the callers have made sure of, of a J with a left reading
pub record JukugosReady (em : ℕ) (base : Base) (r l : RunStrand) : Type 0 where
  pub wide : base.uneven ≡ false → em ≤ base.string.width
  pub right : RunsFit em r
  pub left : RunsFit em l

-- each run over its own character on both sides, or the group
abbrev pub over_both : ℕ → ℕ → Word → ℕ → ℕ → Option ℕ → Option ℕ → Word
over_both em B group first firstLeft None y = group
over_both em B group first firstLeft (Some x) None = group
over_both em B group first firstLeft (Some x) (Some y) =
    record { front = 0; len = 2 * B; inbase = 0; right = between em B first x; left = between em B firstLeft y }

unfoldable pub jukugos_from : Left → Ratios → ℕ → Str → RunStrand → RunStrand → Word
unfolding sided
jukugos_from left h em base r l =
    let group = groups_word (script_of r.strand.sort) (script_of l.strand.sort) script.Kana h em base r.strand.string l.strand.string in
    cond (is_group left) group (over_both em base.width group r.first l.first r.last l.last)

unfoldable pub two_from : Form → Left → Ratios → ℕ → Base → RunStrand → RunStrand → Word
unfolding plain sided jukugos_from
two_from P left h em b r l = plain b.string.width
two_from M left h em b r l = monos_word h em b.string r.strand.string l.strand.string
two_from G left h em b r l = groups_word (script_of r.strand.sort) (script_of l.strand.sort) (script_of b.sort) h em b.string r.strand.string l.strand.string
two_from J left h em b r l = jukugos_from left h em b.string r l

unfoldable pub both_by : Form → Left → ℕ → Ratios → ℕ → Base → RunStrand → RunStrand → Answer
unfolding row_of two_from
both_by form left place h em b r l = answered_by (row_of form place b.blank b.sort b.uneven r.strand.sort l.strand.sort) (two_from form left h em b r l)

-- past all rows a J's base characters are one em wide each
pub rows_even : (form : Form) (place : ℕ) (blank : Bool) (b : Sort) (uneven : Bool) (r l : Sort) → is_j form ≡ true → row_of form place blank b uneven r l ≡ Ok tt → uneven ≡ false
unfolding row_of
rows_even form place blank b uneven r l j e =
    go (is_j form) blank (not_kana b) uneven ((is_g form || is_j form) && ((is_mixed b || is_mixed r) || is_mixed l))
    (is_g form && ((is_western r && is_western b) || (is_western l && is_western b))) j e
  where
    go : (j blank n u c d : Bool) → j ≡ true →
        ◌≡◌ {A = Result ⊤ Refusal} (cond blank (Err (BlankInside place)) (cond (j && (n || u)) (Err (JukugoBase place)) (cond c (Err (Mixed place)) (cond d (Err (WesternOver place)) (Ok tt))))) (Ok tt) → u ≡ false
    go j blank n false c d h e = refl
    go j true n true c d h e = cc
    go true false true true c d h e = cc
    go true false false true c d h e = cc
    go false false n true c d h e = cc

module _ (w : Given) (g : Gloss) where
  abbrev right : RunStrand
  right = run_strand_of w.em w.ruby_class w.ruby_width w.run

  abbrev left : RunStrand
  left = run_strand_of w.em g.class g.width g.run

  -- the word, where 9 has let its strings pass
  two_from_lem : (form : Form) → ((is_g form || is_j form) && ((is_mixed (sort_of w.class) || is_mixed (sort_of w.ruby_class)) || is_mixed (sort_of g.class))) ≡ false →
      word_two form w g ≡ two_from form g.kind w.ratios w.em (given_base form w) right left
  unfolding word_two two_by two_from jukugos_by jukugos_word jukugos_from runs_of
  two_from_lem P e = refl
  two_from_lem M e = refl
  two_from_lem G e =
      let p = or_none (is_mixed (sort_of w.class) || is_mixed (sort_of w.ruby_class)) (is_mixed (sort_of g.class)) e in
      let q = or_none (is_mixed (sort_of w.class)) (is_mixed (sort_of w.ruby_class)) p.0 in
      rw (western-sort w.class q.0, western-sort w.ruby_class q.1, western-sort g.class p.1)
  two_from_lem J e =
      let p = or_none (is_mixed (sort_of w.class) || is_mixed (sort_of w.ruby_class)) (is_mixed (sort_of g.class)) e in
      let q = or_none (is_mixed (sort_of w.class)) (is_mixed (sort_of w.ruby_class)) p.0 in
      rw (western-sort w.ruby_class q.1, western-sort g.class p.1)
      (go (is_group g.kind) (any_longer w.em (split w.run w.ruby_width)) (any_longer w.em (split g.run g.width)))
    where
      group : Word
      group = groups_word (script_of (sort_of w.ruby_class)) (script_of (sort_of g.class)) script.Kana w.ratios w.em (str_of w.width) (str_of w.ruby_width) (str_of g.width)

      lasts : List ℕ → List ℕ → ℕ
      lasts runs ws = last_or 0 (map sum (split runs ws))

      over : Word
      over =
          record {
            front = 0;
            len = 2 * sum w.width;
            inbase = 0;
            right = between w.em (sum w.width) (first_of w.run w.ruby_width) (lasts w.run w.ruby_width);
            left = between w.em (sum w.width) (first_of g.run g.width) (lasts g.run g.width);
          }

      go : (k a b : Bool) → cond k group (cond (a || b) group over)
          ≡ cond k group (over_both w.em (sum w.width) group (first_of w.run w.ruby_width) (first_of g.run g.width)
          (cond a None (Some (lasts w.run w.ruby_width))) (cond b None (Some (lasts g.run g.width))))
      go true a b = refl
      go false true b = refl
      go false false true = refl
      go false false false = refl

  -- the row that holds does not ask for widths but of a J
  same_row : (form : Form) (place : ℕ) (blank : Bool) (b : Sort) (u : Bool) (r l : Sort) → row_of form place blank b u r l ≡ row_of form place blank b (is_j form && u) r l
  unfolding row_of
  same_row P place blank b u r l = refl
  same_row M place blank b u r l = refl
  same_row G place blank b u r l = refl
  same_row J place blank b u r l = refl

  -- and where none holds 9 has passed
  row-unmixed : (form : Form) (place : ℕ) (blank : Bool) (b : Sort) (u : Bool) (r l : Sort) → row_of form place blank b u r l ≡ Ok tt →
      ((is_g form || is_j form) && ((is_mixed b || is_mixed r) || is_mixed l)) ≡ false
  unfolding row_of
  row-unmixed form place blank b u r l e =
      go blank (is_j form && (not_kana b || u)) ((is_g form || is_j form) && ((is_mixed b || is_mixed r) || is_mixed l))
      (is_g form && ((is_western r && is_western b) || (is_western l && is_western b))) e
    where
      go : (blank j c d : Bool) →
          ◌≡◌ {A = Result ⊤ Refusal} (cond blank (Err (BlankInside place)) (cond j (Err (JukugoBase place)) (cond c (Err (Mixed place)) (cond d (Err (WesternOver place)) (Ok tt))))) (Ok tt) → c ≡ false
      go blank j false d e = refl
      go true j true d e = cc
      go false true true d e = cc
      go false false true d e = cc

  pub both_by_lem : (form : Form) (place : ℕ) → has_ruby form ≡ true → has_left g.kind ≡ true →
      answer_both form place w g ≡ both_by form g.kind place w.ratios w.em (given_base form w) right left
  unfolding both_by sides.word_of
  both_by_lem form place ruby here =
      let blank = any (other 0) w.before || any (other 0) w.after in
      let u = any (other w.em) w.width in
      let q = row_of form place blank (sort_of w.class) u (sort_of w.ruby_class) (sort_of g.class) in
      by_row form place w g ruby
      ∙ by q
      ∙ same_word q (λ e. rw here (two_from_lem form (row-unmixed form place blank (sort_of w.class) u (sort_of w.ruby_class) (sort_of g.class) e)))
      ∙ ap (λ z. answered_by z (two_from form g.kind w.ratios w.em (given_base form w) right left))
      (same_row form place blank (sort_of w.class) u (sort_of w.ruby_class) (sort_of g.class))
    where
      by : (q : Result ⊤ Refusal) → answered form place w g ruby q ≡ answered_by q (sides.word_of form w g)
      by (Ok tt) = refl
      by (Err why) = refl
