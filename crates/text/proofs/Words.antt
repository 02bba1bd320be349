-- One step of `word`, by the first byte of the word and of what is left of the sheet: where they are the same the rest of the word decides, and else no word stands there.
use Rattle.std.proofs.Common.{sym, ℕ, suc, ◌+◌, ◌<◌, ◌≡◌, List, None, length, get_or, drop, arith, ne_eqb}
use borrow.Author.Tests.{eq-eqb}
use Rattle.text.specs.Places.{drop_at}
use Rattle.text.specs.Text.{word}

module _ (w s : List ℕ) (i at : ℕ) (hi : i < length w) (hat : at < length s) where
  pub word_same : get_or s at 0 ≡ get_or w i 0 → word (drop i w) (drop at s) at ≡ word (drop (i + 1) w) (drop (at + 1) s) (at + 1)
  unfolding word
  word_same e =
      let n : at + suc (length (drop (i + 1) w)) ≡ at + 1 + length (drop (i + 1) w) = omega arith in
      rw (drop_at w i hi, drop_at s at hat, eq-eqb _ _ (sym e), n)

  pub word-other : (get_or s at 0 ≡ get_or w i 0 → ⊥) → word (drop i w) (drop at s) at ≡ None
  unfolding word
  word-other e = rw (drop_at w i hi, drop_at s at hat, ne_eqb (get_or w i 0) (get_or s at 0) (λ q. e (sym q)))
