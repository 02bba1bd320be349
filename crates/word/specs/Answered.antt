-- Level one's answer to a word with a left reading or without: the first of numbers 7 to 10 that holds of it, with the element's place, or the word. "9 and 10 likewise [hold for
-- left characters as for right ones, right first]"; 7 and 8 speak of base characters alone.
use Rattle.std.specs.Prelude.{◌≡◌, refl, Bool, true, false, cond, ◌&&◌, ◌||◌, List, ℕ, length}
use Rattle.std.proofs.Common.{sym, subst}
use Rattle.basics.specs.Lists.{sum, any}
use Rattle.class.specs.Class.{western, kana_like}
use Rattle.refusal.specs.declared.Refusal.TheVariants.{BlankInside, JukugoBase, Mixed, WesternOver}
use Rattle.word.specs.declared.Form.{Form}
use Rattle.word.specs.declared.Left.{Left}
use Rattle.word.specs.declared.Word.{Word}
use Rattle.word.specs.declared.Answer.{Answer}
use Rattle.word.specs.declared.Answer.TheVariants.{Set, Refused}
use Rattle.word.specs.Given.{Given, has_ruby, is_g, is_j}
use Rattle.word.specs.Sized.{Sized}
use Rattle.word.specs.Answer.{blank_inside, jukugo_base, mixed, mixed_in, western_over}
use Rattle.word.specs.Promise.{one-em}
use Rattle.word.specs.Both.{Gloss, has_left, is_group}
use Rattle.word.specs.Sides.{GlossSized, word_of}
use Rattle.word.specs.Kept.{LeftSized, Kept, all-kept}

-- 9, "within the base or the ruby of G or J", of either side
abbrev pub mixed_both : Form → Given → Gloss → Bool
mixed_both form w g = mixed_in form w || ((is_g form || is_j form) && mixed g.class)

-- 10, of either side
abbrev pub western_both : Form → Given → Gloss → Bool
western_both form w g = western_over form w || (is_g form && (any western g.class && any western w.class))

-- what the callers have made sure of: a word with ruby and a left reading, within their limits; runs of a J, on the left but for a left G
pub record LeftReady (form : Form) (left : Left) (bs rs runs ls lruns : List ℕ) : Type 0 where
  pub ruby : has_ruby form ≡ true
  pub sized : Sized form bs rs runs
  pub here : has_left left ≡ true
  pub gloss : GlossSized ls
  pub whole : is_j form ≡ true → is_group left ≡ false → sum lruns ≡ length ls

-- "in the table's order"
unfoldable pub answer_both : Form → ℕ → Given → Gloss → Answer
unfolding word_of western kana_like
answer_both form place w g =
    cond (blank_inside form w) (Refused (BlankInside place))
    (cond (jukugo_base form w) (Refused (JukugoBase place))
    (cond (mixed_both form w g) (Refused (Mixed place))
    (cond (western_both form w g) (Refused (WesternOver place))
    (Set (word_of form w g)))))

-- what an answer that is a word says: no row holds, and the word is that of the form
pub record Passed (form : Form) (w : Given) (g : Gloss) (v : Word) : Type 0 where
  pub seven : blank_inside form w ≡ false
  pub eight : jukugo_base form w ≡ false
  pub nine : mixed_both form w g ≡ false
  pub ten : western_both form w g ≡ false
  pub word : v ≡ word_of form w g

pub passed : (form : Form) (place : ℕ) (w : Given) (g : Gloss) {v : Word} → answer_both form place w g ≡ Set v → Passed form w g v
unfolding answer_both
passed form place w g {v} e = go (blank_inside form w) (jukugo_base form w) (mixed_both form w g) (western_both form w g) refl refl refl refl e
  where
    go : (a b c d : Bool) → blank_inside form w ≡ a → jukugo_base form w ≡ b → mixed_both form w g ≡ c → western_both form w g ≡ d →
        cond a (Refused (BlankInside place)) (cond b (Refused (JukugoBase place)) (cond c (Refused (Mixed place)) (cond d (Refused (WesternOver place)) (Set (word_of form w g))))) ≡ Set v → Passed form w g v
    go true b c d f g h i e = absurd cc
    go false true c d f g h i e = absurd cc
    go false false true d f g h i e = absurd cc
    go false false false true f g h i e = absurd cc
    go false false false false f g h i e = record { seven = f; eight = g; nine = h; ten = i; word = cc }

-- and the other way round
pub set : (form : Form) (place : ℕ) (w : Given) (g : Gloss) → blank_inside form w ≡ false → jukugo_base form w ≡ false → mixed_both form w g ≡ false → western_both form w g ≡ false →
    answer_both form place w g ≡ Set (word_of form w g)
unfolding answer_both
set form place w g e f h i = rw (e, f, h, i)

-- every word that is set keeps the promises
pub kept : (form : Form) (place : ℕ) (w : Given) (g : Gloss) {v : Word} → Sized form w.width w.ruby_width w.run → LeftSized form g → answer_both form place w g ≡ Set v → Kept form w g v
kept form place w g {v} s z e =
    let p = passed form place w g e in
    subst (Kept form w g) (sym p.word) (all-kept form w g s z (one-em form w s.some p.eight))
