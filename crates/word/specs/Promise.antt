-- What level one promises of a word to those above: lengths, protrusions and limits. Lines, the filling and the writing use these laws; the job's meaning names
-- the definitions that they are about (`answer`, `word_of`, `places`).
use Rattle.std.specs.Prelude.{◌≡◌, refl, Bool, true, false, cond, not, List, map, ◌⊎◌, ℕ, ◌+◌, ◌-◌, ◌*◌, ◌≤◌, ◌<◌, leb, length, get_or}
use Rattle.std.proofs.Common.{sym, ◌∙◌, subst, true≢false, inl, inr, zero-le, leb-true, leb-false, le-leb, arith}
use Rattle.std.proofs.lemmas.Bool.{false≢true, lt-leb}
use Rattle.basics.specs.Lists.{sum, any, other, last_or}
use Rattle.basics.specs.Laws.{or_none, sum-some, all-least}
use Rattle.class.specs.Class.{kana_like}
use Rattle.refusal.specs.declared.Refusal.TheVariants.{BlankInside, JukugoBase, Mixed, WesternOver}
use Rattle.spread.specs.declared.Way.{Way}
use Rattle.spread.specs.declared.Way.TheVariants.{Solid}
use Rattle.spread.specs.declared.Gaps.{Gaps}
use Rattle.spread.specs.Gap.{gaps}
use Rattle.spread.specs.Laws.{Sums, Even, within-one}
use Rattle.spread.proofs.Laws.{sums, all-space, even_ends}
use Rattle.spread.specs.Ratio.{Ratios}
use Rattle.word.specs.declared.Script.{Script}
use Rattle.word.specs.declared.Script.TheVariants.{Kana}
use Rattle.word.specs.declared.Form.{Form}
use Rattle.word.specs.declared.Form.TheVariants.{P, M, G, J}
use Rattle.word.specs.declared.Word.{Word}
use Rattle.word.specs.declared.Answer.TheVariants.{Set, Refused}
use Rattle.word.specs.Given.{Given, has_ruby, is_j}
use Rattle.word.specs.Alone.{script, ruby_way, base_way, split, any_longer}
use Rattle.word.specs.Word.{none, by_runs, short_ruby, short_base, word_by, plain, group_word, over_each, jukugo_word, word_of, total, protrusion_front, protrusion_behind}
use Rattle.word.specs.Answer.{blank_inside, jukugo_base, mixed_in, western_over, answer}
use Rattle.word.specs.Sized.{Small, Sized, small}
use Rattle.word.specs.Runs.{first_fits, last_fits}

-- ruby lies within its block, or around it
pub record Inside (v : Word) : Type 0 where
  pub enters : v.front ≤ v.right.from
  pub runs : v.right.from ≤ v.right.upto
  pub leaves : v.right.upto ≤ v.front + v.len

pub record Around (v : Word) : Type 0 where
  pub leads : v.right.from ≤ v.front
  pub trails : v.front + v.len ≤ v.right.upto

-- The promises. `equal` is document 01's "It is equal at both ends", which R-4 leaves to base ratios whose a is their c, as 1:2:1; the others from `block` on are what the writers ask for.
pub record Promise (form : Form) (w : Given) (v : Word) : Type 0 where
  pub some : 0 < v.len
  pub reads : v.right.there ≡ has_ruby form
  pub shape : v.right.there ≡ true → Inside v ⊎ Around v
  pub edge : (v.front ≡ 0) ⊎ (v.right.from ≡ 0)
  pub equal : Even w.ratios.base → v.front + v.len + v.front ≡ total v
  pub limit : total v ≤ 524288
  pub sums : total v ≤ 2 * (sum w.width + sum w.ruby_width)
  pub block : v.len ≡ 2 * sum w.width + v.inbase
  pub string : v.right.runs ≡ false → has_ruby form ≡ true → v.right.upto ≡ v.right.from + 2 * sum w.ruby_width + v.right.within
  pub each : v.right.runs ≡ true → (any_longer w.em (split w.run w.ruby_width) ≡ false) × (v.right ≡ by_runs w.em (sum w.width) (map sum (split w.run w.ruby_width)))
  pub single : length w.width ≡ 1 → v.inbase ≡ 0
  pub single_ruby : length w.ruby_width ≡ 1 → v.right.within ≡ 0
  pub one : v.left ≡ none
  pub plain : has_ruby form ≡ false → v.front ≡ 0

by_cond : (t : Bool) (Q : Word → Type 0) {a b : Word} → (t ≡ true → Q a) → (t ≡ false → Q b) → Q (cond t a b)
by_cond true Q f g = f refl
by_cond false Q f g = g refl

by_ways : (form : Form) → has_ruby form ≡ true → (w : Given) (r b : Way) → Small w.width w.ruby_width → Promise form w (word_by r b w.ratios w.em w.width w.ruby_width)
unfolding word_by short_ruby short_base
by_ways form h w r b s =
    by_cond (leb (sum w.ruby_width) (sum w.width)) (Promise form w)
    (λ t.
    let l : sum w.ruby_width ≤ sum w.width = leb-true _ _ t in
    let g = all-space r w.ratios.ruby w.em (sum w.width - sum w.ruby_width) (length w.ruby_width) in
    record {
      some = omega arith;
      reads = sym h;
      shape = λ q. inl (record { enters = zero-le; runs = omega arith; leaves = omega (arith, g) });
      edge = inl refl;
      equal = λ v. omega (arith, g);
      limit = omega (arith, g);
      sums = omega (arith, g);
      block = omega arith;
      string = λ q k. refl;
      each = λ q. absurd (false≢true q);
      single = λ q. refl;
      single_ruby = λ q. within-one r w.ratios.ruby w.em _ (length w.ruby_width) q;
      one = refl;
      plain = λ q. absurd (true≢false (sym h ∙ q));
    })
    (λ t.
    let l : sum w.width < sum w.ruby_width = leb-false _ _ t in
    let g = all-space b w.ratios.base w.em (sum w.ruby_width - sum w.width) (length w.width) in
    record {
      some = omega arith;
      reads = sym h;
      shape = λ q. inr (record { leads = zero-le; trails = omega (arith, g) });
      edge = inr refl;
      equal = λ v. omega (arith, g, even_ends b w.ratios.base w.em (sum w.ruby_width - sum w.width) (length w.width) v);
      limit = omega (arith, g);
      sums = omega (arith, g);
      block = refl;
      string = λ q k. omega arith;
      each = λ q. absurd (false≢true q);
      single = λ q. within-one b w.ratios.base w.em _ (length w.width) q;
      single_ruby = λ q. refl;
      one = refl;
      plain = λ q. absurd (true≢false (sym h ∙ q));
    })

-- Protrusions of two strings by their ways: a ruby no longer than its base passes it nowhere; a longer one by the end gaps of the base, in front and behind.
module _ (r b : Way) (h : Ratios) (em : ℕ) (bs rs : List ℕ) where
  pub passes-nowhere : sum rs ≤ sum bs → (protrusion_front (word_by r b h em bs rs) ≡ 0) × (protrusion_behind (word_by r b h em bs rs) ≡ 0)
  unfolding word_by short_ruby
  passes-nowhere l = rw (le-leb _ _ l) (go (gaps r h.ruby em (sum bs - sum rs) (length rs)) (sums r h.ruby em (sum bs - sum rs) (length rs)))
    where
      go : (g : Gaps) → Sums (sum bs - sum rs) g → (0 - g.front ≡ 0) × (g.front + 2 * sum rs + g.within - (0 + 2 * sum bs) ≡ 0)
      go g s = (omega arith, omega (arith, s.all))

  pub passes : sum bs < sum rs →
      (protrusion_front (word_by r b h em bs rs) ≡ (gaps b h.base em (sum rs - sum bs) (length bs)).front)
      × (protrusion_behind (word_by r b h em bs rs) ≡ (gaps b h.base em (sum rs - sum bs) (length bs)).rear)
  unfolding word_by short_base
  passes l = rw (lt-leb _ _ l) (go (gaps b h.base em (sum rs - sum bs) (length bs)) (sums b h.base em (sum rs - sum bs) (length bs)))
    where
      go : (g : Gaps) → Sums (sum rs - sum bs) g → (g.front - 0 ≡ g.front) × (2 * sum rs - (g.front + (2 * sum bs + g.within)) ≡ g.rear)
      go g s = (omega arith, omega (arith, s.all))

-- a J: taken as G where a run is longer than one em, by the base ratio; else its runs stay over their own characters
module _ (r : Script) (h : Ratios) (em : ℕ) (bs runs rs : List ℕ) where
  pub longer-passes : any_longer em (split runs rs) ≡ true → sum bs < sum rs →
      (protrusion_front (jukugo_word r h em bs runs rs) ≡ (gaps (base_way r Kana) h.base em (sum rs - sum bs) (length bs)).front)
      × (protrusion_behind (jukugo_word r h em bs runs rs) ≡ (gaps (base_way r Kana) h.base em (sum rs - sum bs) (length bs)).rear)
  unfolding jukugo_word group_word
  longer-passes e l = rw e (passes (ruby_way r Kana) (base_way r Kana) h em bs rs l)

  pub each-passes-nowhere : any_longer em (split runs rs) ≡ false → (protrusion_front (jukugo_word r h em bs runs rs) ≡ 0) × (protrusion_behind (jukugo_word r h em bs runs rs) ≡ 0)
  unfolding jukugo_word over_each
  each-passes-nowhere e = rw e (omega arith, omega arith)

by_runs_lem : (w : Given) → Small w.width w.ruby_width → w.em ≤ sum w.width → any_longer w.em (split w.run w.ruby_width) ≡ false →
    Promise J w (over_each w.em (sum w.width) (map sum (split w.run w.ruby_width)))
unfolding over_each
by_runs_lem w s h e =
    let f : get_or (map sum (split w.run w.ruby_width)) 0 0 ≤ w.em = first_fits w.em (map sum (split w.run w.ruby_width)) e in
    let l : last_or 0 (map sum (split w.run w.ruby_width)) ≤ w.em = last_fits w.em 0 (map sum (split w.run w.ruby_width)) zero-le e in
    record {
      some = omega arith;
      reads = refl;
      shape = λ q. inl (record { enters = zero-le; runs = omega arith; leaves = omega arith });
      edge = inl refl;
      equal = λ v. omega arith;
      limit = omega arith;
      sums = omega arith;
      block = omega arith;
      string = λ q k. absurd (true≢false q);
      each = λ q. (e, refl);
      single = λ q. refl;
      single_ruby = λ q. refl;
      one = refl;
      plain = λ q. refl;
    }

-- the word of each form, once a J's base characters are one em wide
pub word_kept : (form : Form) (w : Given) → Sized form w.width w.ruby_width w.run → (is_j form ≡ true → w.em ≤ sum w.width) → Promise form w (word_of form w)
unfolding word_of plain group_word jukugo_word
word_kept P w s j =
    record {
      some = omega (arith, s.some);
      reads = refl;
      shape = λ q. absurd (false≢true q);
      edge = inl refl;
      equal = λ v. omega arith;
      limit = omega (arith, s.narrow);
      sums = omega arith;
      block = omega arith;
      string = λ q k. absurd (false≢true k);
      each = λ q. absurd (false≢true q);
      single = λ q. refl;
      single_ruby = λ q. refl;
      one = refl;
      plain = λ q. refl;
    }
word_kept M w s j = by_ways M refl w Solid Solid (small M _ _ _ refl s)
word_kept G w s j = by_ways G refl w (ruby_way (script w.ruby_class) (script w.class)) (base_way (script w.ruby_class) (script w.class)) (small G _ _ _ refl s)
word_kept J w s j =
    by_cond (any_longer w.em (split w.run w.ruby_width)) (Promise J w)
    (λ t. by_ways J refl w (ruby_way (script w.ruby_class) Kana) (base_way (script w.ruby_class) Kana) (small J _ _ _ refl s))
    (λ t. by_runs_lem w (small J _ _ _ refl s) (j refl) t)

-- what an answer that is a word says: no row holds, and the word is that of the form
pub record Passed (form : Form) (w : Given) (v : Word) : Type 0 where
  pub seven : blank_inside form w ≡ false
  pub eight : jukugo_base form w ≡ false
  pub nine : mixed_in form w ≡ false
  pub ten : western_over form w ≡ false
  pub word : v ≡ word_of form w

pub passed : (form : Form) (place : ℕ) (w : Given) {v : Word} → answer form place w ≡ Set v → Passed form w v
unfolding answer
passed form place w {v} e = go (blank_inside form w) (jukugo_base form w) (mixed_in form w) (western_over form w) refl refl refl refl e
  where
    go : (a b c d : Bool) → blank_inside form w ≡ a → jukugo_base form w ≡ b → mixed_in form w ≡ c → western_over form w ≡ d →
        cond a (Refused (BlankInside place)) (cond b (Refused (JukugoBase place)) (cond c (Refused (Mixed place)) (cond d (Refused (WesternOver place)) (Set (word_of form w))))) ≡ Set v → Passed form w v
    go true b c d f g h i e = absurd cc
    go false true c d f g h i e = absurd cc
    go false false true d f g h i e = absurd cc
    go false false false true f g h i e = absurd cc
    go false false false false f g h i e = record { seven = f; eight = g; nine = h; ten = i; word = cc }

-- and the other way round
pub set : (form : Form) (place : ℕ) (w : Given) → blank_inside form w ≡ false → jukugo_base form w ≡ false → mixed_in form w ≡ false → western_over form w ≡ false →
    answer form place w ≡ Set (word_of form w)
unfolding answer
set form place w f g h i = rw (f, g, h, i)

-- a J that passes has base characters of one em
pub one-em : (form : Form) (w : Given) → 0 < sum w.width → jukugo_base form w ≡ false → is_j form ≡ true → w.em ≤ sum w.width
one-em J w s e h = all-least w.em w.width (sum-some w.width s) (or_none (any (λ c. not (kana_like c)) w.class) (any (other w.em) w.width) e).1
one-em P w s e h = absurd (false≢true h)
one-em M w s e h = absurd (false≢true h)
one-em G w s e h = absurd (false≢true h)

-- every word that is set keeps the promises
pub kept : (form : Form) (place : ℕ) (w : Given) {v : Word} → Sized form w.width w.ruby_width w.run → answer form place w ≡ Set v → Promise form w v
kept form place w {v} s e =
    let p = passed form place w e in
    subst (Promise form w) (sym p.word) (word_kept form w s (one-em form w s.some p.eight))

-- no word of one reading has another
pub one-reading : (form : Form) (w : Given) → (word_of form w).left ≡ none
unfolding word_of plain word_by short_ruby short_base group_word jukugo_word over_each
one-reading P w = refl
one-reading M w = by_cond (leb (sum w.ruby_width) (sum w.width)) (λ (v : Word). v.left ≡ none) (λ _. refl) (λ _. refl)
one-reading G w = by_cond (leb (sum w.ruby_width) (sum w.width)) (λ (v : Word). v.left ≡ none) (λ _. refl) (λ _. refl)
one-reading J w =
    by_cond (any_longer w.em (split w.run w.ruby_width)) (λ (v : Word). v.left ≡ none)
    (λ _. by_cond (leb (sum w.ruby_width) (sum w.width)) (λ (v : Word). v.left ≡ none) (λ _. refl) (λ _. refl)) (λ _. refl)
