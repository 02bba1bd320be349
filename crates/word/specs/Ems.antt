-- The base of a J: 8 is given where "a J base character [is] not kana-like or not one em wide", so of a J that is set every base character is one em wide, and its
-- block is two em half units for each.
use Rattle.std.specs.Prelude.{◌≡◌, Bool, true, false, not, ◌&&◌, List, [], ◌∷◌, ℕ, ◌*◌, eqb, length}
use Rattle.std.proofs.Common.{sym, mul-zero, mul-suc, arith, eqb-true}
use Rattle.std.proofs.lemmas.Bool.{false≢true, not-false}
use Rattle.basics.specs.Lists.{sum, any, other, All}
use Rattle.basics.specs.Laws.{or_none, any_none}
use Rattle.class.specs.Class.{kana_like}
use Rattle.word.specs.declared.Form.{Form}
use Rattle.word.specs.declared.Word.{Word}
use Rattle.word.specs.declared.Answer.TheVariants.{Set}
use Rattle.word.specs.Given.{Given, is_j}
use Rattle.word.specs.Answer.{answer}
use Rattle.word.specs.Promise.{passed}

-- one em wide
abbrev pub OneEm : ℕ → ℕ → Type 0
OneEm em width = other em width ≡ false

pub one-em : (em width : ℕ) → OneEm em width → em ≡ width
one-em em width e = eqb-true em width (not-false (eqb em width) e)

pub ems-sum : (em : ℕ) (ws : List ℕ) → All (OneEm em) ws → sum ws ≡ em * length ws
ems-sum em [] a = sym (mul-zero em)
ems-sum em (w ∷ ws) a = rw (mul-suc em (length ws)) (omega (arith, one-em em w a.0, ems-sum em ws a.1))

both : (a b : Bool) → (a && b) ≡ false → a ≡ true → b ≡ false
both true b e h = e
both false b e h = absurd (false≢true h)

pub jukugo-ems : (form : Form) (place : ℕ) (w : Given) {v : Word} → answer form place w ≡ Set v → is_j form ≡ true → All (OneEm w.em) w.width
jukugo-ems form place w answered j =
    let eight = (passed form place w answered).eight in
    any_none (other w.em) w.width (or_none (any (λ c. not (kana_like c)) w.class) (any (other w.em) w.width) (both (is_j form) _ eight j)).1
