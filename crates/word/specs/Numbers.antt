-- A word of two strings by numbers alone: it depends on its strings only through their sums and counts.
use Rattle.std.specs.Prelude.{◌≡◌, refl, cond, List, ℕ, ◌-◌, ◌≤◌, ◌<◌, leb, length}
use Rattle.basics.specs.Lists.{sum}
use Rattle.spread.specs.declared.Way.{Way}
use Rattle.spread.specs.Ratio.{Ratios}
use Rattle.spread.specs.Gap.{gaps}
use Rattle.word.specs.declared.Str.{Str}
use Rattle.word.specs.declared.Word.{Word}
use Rattle.word.specs.Word.{short_ruby, short_base, word_by}

-- B and R are the sums of base and ruby widths, n and m their counts of characters
unfoldable pub word_from : Way → Way → Ratios → ℕ → ℕ → ℕ → ℕ → ℕ → Word
word_from r b h em B n R m = cond (leb R B) (short_ruby B R (gaps r h.ruby em (B - R) m)) (short_base B R (gaps b h.base em (R - B) n))

pub word_from_lem : (r b : Way) (h : Ratios) (em : ℕ) (bs rs : List ℕ) → word_by r b h em bs rs ≡ word_from r b h em (sum bs) (length bs) (sum rs) (length rs)
unfolding word_by word_from
word_from_lem r b h em bs rs = refl

-- what the callers have made sure of, of base and ruby: each string has a character, and the sums are those of a word
pub record Measured (b r : Str) : Type 0 where
  pub some : 0 < b.count
  pub few : b.count ≤ 4096
  pub narrow : b.width ≤ 131072
  pub reads : 0 < r.count
  pub few_ruby : r.count ≤ 4096
  pub narrow_ruby : r.width ≤ 262144
