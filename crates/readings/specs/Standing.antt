-- Where the characters of a word stand, with a left reading or without: those of its base and of either reading are strings, each from its first character's start to its last
-- one's end, and none of its characters reaches a later one. What is said of a reading is said once, of either side.
use Rattle.std.specs.Prelude.{◌≡◌, refl, Bool, true, false, cond, not, ◌&&◌, ◌||◌, List, [], ◌∷◌, map, ℕ, zero, suc, ◌+◌, ◌-◌, ◌*◌, ◌<◌, leb, length}
use Rattle.std.proofs.Common.{sym, ap₂, ◌∙◌, subst, true≢false, zero-add, arith, length-append}
use Rattle.std.proofs.Math.Path.{ap}
use Rattle.std.proofs.lemmas.Bool.{false≢true}
use Rattle.basics.specs.Lists.{sum, any, other, All}
use Rattle.basics.specs.Laws.{sum-some, or_none}
use Rattle.class.specs.Class.{kana_like}
use Rattle.spread.specs.declared.Way.{Way}
use Rattle.spread.specs.declared.Way.TheVariants.{Solid}
use Rattle.spread.specs.Gap.{starts}
use Rattle.spread.specs.Ratio.{Ratios}
use Rattle.spread.specs.Laws.{length-starts}
use Rattle.word.specs.declared.Form.{Form}
use Rattle.word.specs.declared.Form.TheVariants as form
use Rattle.word.specs.declared.Left.{Left}
use Rattle.word.specs.declared.Left.TheVariants as left
use Rattle.word.specs.declared.Script.{Script}
use Rattle.word.specs.declared.Script.TheVariants.{Kana}
use Rattle.word.specs.declared.Reading.{Reading}
use Rattle.word.specs.declared.Str.{Str}
use Rattle.word.specs.declared.Word.{Word}
use Rattle.word.specs.declared.Answer.TheVariants.{Set}
use Rattle.word.specs.Given.{Given, has_ruby, is_j}
use Rattle.word.specs.Sized.{Sized}
use Rattle.word.specs.Rising.{only-j}
use Rattle.word.specs.Alone.{split, any_longer}
use Rattle.word.specs.Alone as alone
use Rattle.word.specs.Word.{over_each, run_starts}
use Rattle.word.specs.Word as one
use Rattle.word.specs.Joined.{base_alone_lem, ruby_alone_lem}
use Rattle.word.specs.Joined as joined
use Rattle.word.specs.Spans.{Spans, flat, flat-split, split-some, length-split, starts_span, each-spans}
use Rattle.word.specs.Rising.{Rises, Lies, rises, lies, starts-follow, runs-follow}
use Rattle.word.specs.Both.{Both, Gloss, has_left, takes, apart, is_group, is_jukugo, uncut, groups, jukugos, two, places}
use Rattle.word.specs.Sides.{str_of, reading_over, sided, groups_word, jukugos_word, word_of, word_two, two_by, jukugos_by, block_starts, reading_starts}
use Rattle.word.specs.SidesJoined.{both_at, monos_are, groups_are, jukugos_are}
use Rattle.word.specs.Kept.{Kept, Reads, LeftSized}
use Rattle.word.specs.Answered.{answer_both, passed, kept}

-- characters of these widths at these places: a string from here to there
pub record Stands (ps ws : List ℕ) (from upto : ℕ) : Type 0 where
  pub count : length ps ≡ length ws
  pub rises : Rises ps ws
  pub spans : Spans ps ws from upto

-- so every one of them lies between
pub between : {ps ws : List ℕ} {from upto : ℕ} → Stands ps ws from upto → Lies ps ws from upto
between {ps} {ws} {from} {upto} s = lies ps ws from upto s.rises s.spans

-- one string
string-stands : (within at : ℕ) (ws : List ℕ) → 0 < length ws → (length ws ≡ 1 → within ≡ 0) → Stands (starts within at ws) ws at (at + 2 * sum ws + within)
string-stands within at ws h one =
    record { count = length-starts within at ws; rises = rises _ _ (starts within at ws) ws (starts-follow within at ws); spans = starts_span within at ws h one }

-- What the runs of one side share out: as many runs as base characters, each of one em, each run with a character, and all characters of the side.
pub record Shared (em : ℕ) (bs runs ws : List ℕ) : Type 0 where
  pub whole : sum runs ≡ length ws
  pub many : length runs ≡ length bs
  pub some : All (λ n. 0 < n) runs
  pub ems : any (other em) bs ≡ false
  pub wide : 0 < sum bs

length_runs : (em at : ℕ) (runs : List (List ℕ)) → length (run_starts em at runs) ≡ length (flat runs)
unfolding run_starts
length_runs em at [] = refl
length_runs em at (run ∷ runs) =
    length-append (starts 0 (at + (em - sum run)) run) (run_starts em (at + 2 * em) runs)
    ∙ ap₂ (λ (a b : ℕ). a + b) (length-starts 0 _ run) (length_runs em (at + 2 * em) runs) ∙ sym (length-append run (flat runs))

runs-stand : (em : ℕ) (bs runs ws : List ℕ) → Shared em bs runs ws → any_longer em (split runs ws) ≡ false →
    let u = one.by_runs em (sum bs) (map sum (split runs ws)) in Stands (run_starts em 0 (split runs ws)) ws u.from u.upto
unfolding over_each
runs-stand em bs runs ws s none =
    let f = flat-split runs ws s.whole in
    record {
      count = length_runs em 0 (split runs ws) ∙ ap length f;
      rises = subst (Rises (run_starts em 0 (split runs ws))) f (rises _ _ (run_starts em 0 (split runs ws)) (flat (split runs ws)) (runs-follow em 0 (split runs ws) none));
      spans = each-spans em bs ws (split runs ws) f (length-split runs ws ∙ s.many) (split-some runs ws s.whole s.some) none s.ems s.wide;
    }

-- The base of a word, and a reading that is there.

pub base-stands : (form : Form) (w : Given) (g : Gloss) (v : Word) → Kept form w g v → 0 < sum w.width → Stands (block_starts v 0 w.width) w.width v.front (v.front + v.len)
unfolding block_starts
base-stands form w g v k h =
    let q = string-stands v.inbase (0 + v.front) w.width (sum-some w.width h) k.single in
    record { count = q.count; rises = q.rises; spans = record { first = q.spans.first ∙ zero-add v.front; last = omega (arith, q.spans.last, k.block) } }

pub reading-stands : (u : Reading) (em : ℕ) (bs runs ws : List ℕ) → Reads u true em (sum bs) runs ws → 0 < length ws → (u.runs ≡ true → Shared em bs runs ws) →
    Stands (reading_starts u em 0 runs ws) ws u.from u.upto
unfolding reading_starts
reading-stands u em bs runs ws k some own = go u.runs refl
  where
    go : (t : Bool) → u.runs ≡ t → Stands (cond t (run_starts em 0 (split runs ws)) (starts u.within (0 + u.from) ws)) ws u.from u.upto
    go true e =
        let q = k.each e in
        subst (λ (r : Reading). Stands (run_starts em 0 (split runs ws)) ws r.from r.upto) (sym q.1) (runs-stand em bs runs ws (own e) q.0)
    go false e =
        let q = string-stands u.within (0 + u.from) ws some k.single in
        record { count = q.count; rises = q.rises; spans = record { first = q.spans.first ∙ zero-add u.from; last = omega (arith, q.spans.last, k.string e refl) } }

-- A word's places (`Both`) are those of its record.

no_left_lem : (kind : Left) → has_left kind ≡ false → kind ≡ left.N
no_left_lem left.N e = refl
no_left_lem left.M e = absurd (true≢false e)
no_left_lem left.G e = absurd (true≢false e)
no_left_lem left.J e = absurd (true≢false e)

-- no word without a left reading has one in its record
by_cond : (t : Bool) (a b : Word) → a.left ≡ one.none → b.left ≡ one.none → (cond t a b).left ≡ one.none
by_cond true a b p q = p
by_cond false a b p q = q

by-none : (r b : Way) (h : Ratios) (em : ℕ) (bs rs : List ℕ) → (one.word_by r b h em bs rs).left ≡ one.none
unfolding one.word_by one.short_ruby one.short_base
by-none r b h em bs rs = by_cond (leb (sum rs) (sum bs)) _ _ refl refl

pub none_left : (form : Form) (w : Given) → (one.word_of form w).left ≡ one.none
unfolding one.word_of one.plain one.group_word one.jukugo_word over_each
none_left form.P w = refl
none_left form.M w = by-none Solid Solid w.ratios w.em w.width w.ruby_width
none_left form.G w =
    let r = alone.script w.ruby_class in let b = alone.script w.class in by-none (alone.ruby_way r b) (alone.base_way r b) w.ratios w.em w.width w.ruby_width
none_left form.J w =
    let r = alone.script w.ruby_class in
    by_cond (any_longer w.em (split w.run w.ruby_width)) (one.group_word r Kana w.ratios w.em w.width w.ruby_width) (over_each w.em (sum w.width) (map sum (split w.run w.ruby_width)))
    (by-none (alone.ruby_way r Kana) (alone.base_way r Kana) w.ratios w.em w.width w.ruby_width) refl

-- none on the left
plain-right : (f : Form) (w : Given) → has_ruby f ≡ false → w.ruby_width ≡ [] →
    cond (one.word_of f w).right.runs (run_starts w.em 0 (split w.run w.ruby_width)) (starts (one.word_of f w).right.within (one.word_of f w).right.from w.ruby_width) ≡ (alone.places f w).ruby
unfolding one.word_of one.plain alone.places starts
plain-right form.P w e q = rw q
plain-right form.M w e q = absurd (true≢false e)
plain-right form.G w e q = absurd (true≢false e)
plain-right form.J w e q = absurd (true≢false e)

one_right : (form : Form) (w : Given) → (has_ruby form ≡ false → w.ruby_width ≡ []) → reading_starts (one.word_of form w).right w.em 0 w.run w.ruby_width ≡ (alone.places form w).ruby
unfolding reading_starts
one_right form w h = rw (zero-add (one.word_of form w).right.from) (go (has_ruby form) refl)
  where
    go : (t : Bool) → has_ruby form ≡ t →
        cond (one.word_of form w).right.runs (run_starts w.em 0 (split w.run w.ruby_width)) (starts (one.word_of form w).right.within (one.word_of form w).right.from w.ruby_width) ≡ (alone.places form w).ruby
    go true e = ruby_alone_lem form w e
    go false e = plain-right form w e (h e)

one-base : (form : Form) (w : Given) → block_starts (one.word_of form w) 0 w.width ≡ (alone.places form w).base
unfolding block_starts
one-base form w = ap (λ (x : ℕ). starts (one.word_of form w).inbase x w.width) (zero-add (one.word_of form w).front) ∙ base_alone_lem form w

one-is : (form : Form) (w : Given) (g : Gloss) → (has_ruby form ≡ false → w.ruby_width ≡ []) → g.width ≡ [] →
    both_at (one.word_of form w) w.em 0 w.width w.run w.ruby_width g.run g.width ≡ record { base = (alone.places form w).base; right = (alone.places form w).ruby; left = [] }
unfolding reading_starts starts
one-is form w g h e =
    rw (one-base form w, one_right form w h, none_left form w, e)

two_is : (form : Form) (w : Given) (g : Gloss) → takes form g.kind ≡ true → has_left g.kind ≡ true →
    both_at (word_two form w g) w.em 0 w.width w.run w.ruby_width g.run g.width ≡ two form w g
unfolding word_two two_by jukugos_by two
two_is form.P w g t h = absurd (none g.kind t h)
  where
    none : (k : Left) → takes form.P k ≡ true → has_left k ≡ true → ⊥
    none left.N t h = false≢true h
    none left.M t h = false≢true t
    none left.G t h = false≢true t
    none left.J t h = false≢true t
two_is form.M w g t h = monos_are w.ratios w.em w.width w.ruby_width g.width w.run g.run
two_is form.G w g t h =
    groups_are (alone.script w.ruby_class) (alone.script g.class) (alone.script w.class) w.ratios w.em w.width w.ruby_width g.width w.run g.run
two_is form.J w g t h = go (is_group g.kind)
  where
    r : Script
    r = alone.script w.ruby_class

    l : Script
    l = alone.script g.class

    go : (t : Bool) →
        both_at (cond t (groups_word r l Kana w.ratios w.em (str_of w.width) (str_of w.ruby_width) (str_of g.width)) (jukugos_word r l w.ratios w.em w.width w.run w.ruby_width g.run g.width))
        w.em 0 w.width w.run w.ruby_width g.run g.width
        ≡ cond t (groups r l Kana w.ratios w.em w.width w.ruby_width g.width) (jukugos r l w.ratios w.em w.width w.run w.ruby_width g.run g.width)
    go true = groups_are r l Kana w.ratios w.em w.width w.ruby_width g.width w.run g.run
    go false = jukugos_are r l w.ratios w.em w.width w.run w.ruby_width g.run g.width

-- every word: its places are those of its record
pub places_are : (form : Form) (w : Given) (g : Gloss) → LeftSized form g → (has_ruby form ≡ false → w.ruby_width ≡ []) →
    both_at (word_of form w g) w.em 0 w.width w.run w.ruby_width g.run g.width ≡ places form w g
unfolding word_of places
places_are form w g z h = go (has_left g.kind) refl
  where
    go : (t : Bool) → has_left g.kind ≡ t →
        both_at (cond t (word_two form w g) (one.word_of form w)) w.em 0 w.width w.run w.ruby_width g.run g.width
        ≡ cond t (two form w g) (record { base = (alone.places form w).base; right = (alone.places form w).ruby; left = [] })
    go true e = two_is form w g z.takes e
    go false e = one-is form w g h (z.none e)

-- What those above have made sure of: a word of its form within its limits, with a left reading that its form takes or none; the runs of a J share out its characters, on either
-- side that has them.
pub record Ready (form : Form) (w : Given) (g : Gloss) : Type 0 where
  pub sized : Sized form w.width w.ruby_width w.run
  pub plain : has_ruby form ≡ false → w.ruby_width ≡ []
  pub left : LeftSized form g
  pub runs : is_j form ≡ true → (length w.run ≡ length w.width) × All (λ n. 0 < n) w.run
  pub left_runs : is_j form ≡ true → is_jukugo g.kind ≡ true → (sum g.run ≡ length g.width) × (length g.run ≡ length w.width) × All (λ n. 0 < n) g.run

-- A reading stands run by run only in a J, and the left one in a J with a left J.
string-only : (r l b : Way) (h : Ratios) (em : ℕ) (bs rs ls : Str) → ((sided r l b h em bs rs ls).right.runs ≡ false) × ((sided r l b h em bs rs ls).left.runs ≡ false)
unfolding sided reading_over
string-only r l b h em bs rs ls = (refl, refl)

-- a J whose runs stand over their own characters, by document 02's words on which J is cut
abbrev pub by_runs : Form → Given → Gloss → Bool
by_runs form w g = is_j form && not (uncut g.kind (any_longer w.em (split w.run w.ruby_width) || any_longer w.em (split g.run g.width)))

abbrev Only : Form → Given → Gloss → Word → Type 0
Only form w g v = (v.right.runs ≡ true → by_runs form w g ≡ true) × (v.left.runs ≡ true → (by_runs form w g ≡ true) × (is_jukugo g.kind ≡ true))

only-strings : (form : Form) (w : Given) (g : Gloss) (r l b : Way) (h : Ratios) (em : ℕ) (bs rs ls : Str) → Only form w g (sided r l b h em bs rs ls)
only-strings form w g r l b h em bs rs ls =
    let q = string-only r l b h em bs rs ls in (λ e. absurd (false≢true (sym q.0 ∙ e)), λ e. absurd (false≢true (sym q.1 ∙ e)))

by_two : (t : Bool) (form : Form) (w : Given) (g : Gloss) (a b : Word) → (t ≡ true → Only form w g a) → (t ≡ false → Only form w g b) → Only form w g (cond t a b)
by_two true form w g a b p q = p refl
by_two false form w g a b p q = q refl

jukugo-left : (k : Left) → apart form.J k ≡ false → has_left k ≡ true → is_group k ≡ false → k ≡ left.J
jukugo-left left.N a h e = absurd (false≢true h)
jukugo-left left.M a h e = absurd (true≢false a)
jukugo-left left.G a h e = absurd (true≢false e)
jukugo-left left.J a h e = refl

only_two : (form : Form) (w : Given) (g : Gloss) → LeftSized form g → has_left g.kind ≡ true → Only form w g (word_two form w g)
unfolding word_two two_by jukugos_by jukugos_word one.plain
only_two form.P w g z h = (λ e. absurd (false≢true e), λ e. absurd (false≢true e))
only_two form.M w g z h = only-strings form.M w g Solid Solid Solid w.ratios w.em (str_of w.width) (str_of w.ruby_width) (str_of g.width)
only_two form.G w g z h =
    let r = alone.script w.ruby_class in
    let l = alone.script g.class in
    let b = alone.script w.class in
    only-strings form.G w g (alone.ruby_way r b) (alone.ruby_way l b) (cond (leb (sum g.width) (sum w.ruby_width)) (alone.base_way r b) (alone.base_way l b)) w.ratios w.em
    (str_of w.width) (str_of w.ruby_width) (str_of g.width)
only_two form.J w g z h =
    by_two (is_group g.kind) form.J w g group (jukugos_word r l w.ratios w.em w.width w.run w.ruby_width g.run g.width) (λ _. strings)
    (λ e.
    let k = jukugo-left g.kind z.whole h e in
    by_two longer form.J w g group each (λ _. strings) (λ f. (λ _. fits k f, λ _. (fits k f, ap is_jukugo k))))
  where
    r : Script
    r = alone.script w.ruby_class

    l : Script
    l = alone.script g.class

    longer : Bool
    longer = any_longer w.em (split w.run w.ruby_width) || any_longer w.em (split g.run g.width)

    group : Word
    group = groups_word r l Kana w.ratios w.em (str_of w.width) (str_of w.ruby_width) (str_of g.width)

    each : Word
    each =
        record {
          front = 0;
          len = 2 * sum w.width;
          inbase = 0;
          right = one.by_runs w.em (sum w.width) (map sum (split w.run w.ruby_width));
          left = one.by_runs w.em (sum w.width) (map sum (split g.run g.width));
        }

    fits : g.kind ≡ left.J → longer ≡ false → by_runs form.J w g ≡ true
    fits k f = ap (λ (q : Left). not (uncut q longer)) k ∙ ap not f

    strings : Only form.J w g group
    strings =
        only-strings form.J w g (alone.ruby_way r Kana) (alone.ruby_way l Kana) (cond (leb (sum g.width) (sum w.ruby_width)) (alone.base_way r Kana) (alone.base_way l Kana)) w.ratios w.em
        (str_of w.width) (str_of w.ruby_width) (str_of g.width)

pub runs_only : (form : Form) (w : Given) (g : Gloss) → LeftSized form g → Only form w g (word_of form w g)
unfolding word_of
runs_only form w g z =
    by_two (has_left g.kind) form w g (word_two form w g) (one.word_of form w) (only_two form w g z)
    (λ f. (λ e. rw (only-j form w e, no_left_lem g.kind f), λ e. absurd (false≢true (sym (ap (λ (u : Reading). u.runs) (none_left form w)) ∙ e))))

-- so it is a J
pub by_runs-j : (form : Form) (w : Given) (g : Gloss) → by_runs form w g ≡ true → is_j form ≡ true
by_runs-j form w g e = go (is_j form) e
  where
    go : (t : Bool) → (t && not (uncut g.kind (any_longer w.em (split w.run w.ruby_width) || any_longer w.em (split g.run g.width)))) ≡ true → t ≡ true
    go true e = refl
    go false e = absurd (false≢true e)

-- Where there are no characters, none stand.
no-runs : (em at : ℕ) (runs : List ℕ) → run_starts em at (split runs []) ≡ []
unfolding run_starts starts
no-runs em at [] = refl
no-runs em at (zero ∷ runs) = no-runs em (at + 2 * em) runs
no-runs em at (suc n ∷ runs) = no-runs em (at + 2 * em) runs

none-start : (u : Reading) (em : ℕ) (runs ws : List ℕ) → ws ≡ [] → reading_starts u em 0 runs ws ≡ []
unfolding reading_starts starts
none-start u em runs ws e = rw e (go u.runs)
  where
    go : (t : Bool) → cond t (run_starts em 0 (split runs [])) [] ≡ []
    go true = no-runs em 0 runs
    go false = refl

-- a reading at an origin, by a word that has it on the right
reading-moved : (u : Reading) (em x : ℕ) (runs ws : List ℕ) → reading_starts u em x runs ws ≡ map (λ y. x + y) (reading_starts u em 0 runs ws)
unfolding reading_starts one.ruby_starts
reading-moved u em x runs ws =
    joined.ruby-moved (record { front = 0; len = 0; inbase = 0; right = u; left = one.none }) em x runs ws
    ∙ ap (λ (z : ℕ). map (λ y. x + y) (cond u.runs (run_starts em 0 (split runs ws)) (starts u.within z ws))) (sym (zero-add u.from))

-- The characters of a word that is set: those of the base, and of either reading that it has.
pub record Standing (form : Form) (w : Given) (g : Gloss) (v : Word) : Type 0 where
  pub base : Stands (places form w g).base w.width v.front (v.front + v.len)
  pub right : has_ruby form ≡ true → Stands (places form w g).right w.ruby_width v.right.from v.right.upto
  pub left : has_left g.kind ≡ true → Stands (places form w g).left g.width v.left.from v.left.upto
  pub no_right : has_ruby form ≡ false → (places form w g).right ≡ []
  pub no_left : has_left g.kind ≡ false → (places form w g).left ≡ []

module _ (form : Form) (place : ℕ) (w : Given) (g : Gloss) (v : Word) (answered : answer_both form place w g ≡ Set v) (ready : Ready form w g) where
  keeps : Kept form w g v
  keeps = kept form place w g ready.sized ready.left answered

  is : v ≡ word_of form w g
  is = (passed form place w g answered).word

  same : both_at v w.em 0 w.width w.run w.ruby_width g.run g.width ≡ places form w g
  same = ap (λ (u : Word). both_at u w.em 0 w.width w.run w.ruby_width g.run g.width) is ∙ places_are form w g ready.left ready.plain

  ems : is_j form ≡ true → any (other w.em) w.width ≡ false
  ems j = (or_none (any (λ c. not (kana_like c)) w.class) (any (other w.em) w.width) (sym (rw j) ∙ (passed form place w g answered).eight)).1

  -- a reading, by the word's own promises
  on_side : (u : Reading) (there : Bool) (runs ws : List ℕ) → Reads u there w.em (sum w.width) runs ws → there ≡ true → 0 < length ws → (u.runs ≡ true → Shared w.em w.width runs ws) →
      Stands (reading_starts u w.em 0 runs ws) ws u.from u.upto
  on_side u there runs ws k t some own = reading-stands u w.em w.width runs ws (subst (λ (b : Bool). Reads u b w.em (sum w.width) runs ws) t k) some own

  pub stand : Standing form w g v
  stand =
      record {
        base = subst (λ (b : Both). Stands b.base w.width v.front (v.front + v.len)) same (base-stands form w g v keeps ready.sized.some);
        right = λ h.
            subst (λ (b : Both). Stands b.right w.ruby_width v.right.from v.right.upto) same
            (on_side v.right (has_ruby form) w.run w.ruby_width keeps.right h (ready.sized.reads h)
            (λ e.
            let j = by_runs-j form w g ((runs_only form w g ready.left).0 (sym (ap (λ (u : Word). u.right.runs) is) ∙ e)) in
            record { whole = ready.sized.whole j; many = (ready.runs j).0; some = (ready.runs j).1; ems = ems j; wide = ready.sized.some }));
        left = λ h.
            subst (λ (b : Both). Stands b.left g.width v.left.from v.left.upto) same
            (on_side v.left (has_left g.kind) g.run g.width keeps.left h (ready.left.reads h)
            (λ e.
            let r = (runs_only form w g ready.left).1 (sym (ap (λ (u : Word). u.left.runs) is) ∙ e) in
            let j = by_runs-j form w g r.0 in
            let q = ready.left_runs j r.1 in
            record { whole = q.0; many = q.1; some = q.2; ems = ems j; wide = ready.sized.some }));
        no_right = λ h. ap (λ (b : Both). b.right) (sym same) ∙ none-start v.right w.em w.run w.ruby_width (ready.plain h);
        no_left = λ h. ap (λ (b : Both). b.left) (sym same) ∙ none-start v.left w.em g.run g.width (ready.left.none h);
      }

  -- An origin moves each character alike: the word's record puts them at the origin plus their places.
  pub base-moved : (x : ℕ) → one.base_starts v x w.width ≡ map (λ y. x + y) (places form w g).base
  unfolding block_starts
  base-moved x =
      joined.base-moved v x w.width ∙ ap (map (λ y. x + y)) (ap (λ (z : ℕ). starts v.inbase z w.width) (sym (zero-add v.front)) ∙ ap (λ (b : Both). b.base) same)

  pub right-moved : (x : ℕ) → reading_starts v.right w.em x w.run w.ruby_width ≡ map (λ y. x + y) (places form w g).right
  right-moved x = reading-moved v.right w.em x w.run w.ruby_width ∙ ap (λ (b : Both). map (λ y. x + y) b.right) same

  pub left-moved : (x : ℕ) → reading_starts v.left w.em x g.run g.width ≡ map (λ y. x + y) (places form w g).left
  left-moved x = reading-moved v.left w.em x g.run g.width ∙ ap (λ (b : Both). map (λ y. x + y) b.left) same
