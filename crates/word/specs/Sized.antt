-- What the callers of level one have made sure of: few enough characters, narrow enough. The checks of characters and counts (numbers 3, 5 and 6) leave nothing else.
use Rattle.std.specs.Prelude.{◌≡◌, true, List, ℕ, ◌^◌, ◌≤◌, ◌<◌, length}
use Rattle.basics.specs.Lists.{sum}
use Rattle.word.specs.declared.Form.{Form}
use Rattle.word.specs.Given.{has_ruby, is_j}

-- a string that a word is asked for: few enough characters, and a sum that fits a number
abbrev pub IsString : List ℕ → Type 0
IsString ws = (length ws ≤ 64) × (sum ws < 2 ^ 32)

-- the strings of a word: at most 32 base and 64 ruby characters, each 1 to 4,096 wide, so these sums
pub record Small (bs rs : List ℕ) : Type 0 where
  pub some : 0 < sum bs
  pub few : length bs ≤ 32
  pub narrow : sum bs ≤ 131072
  pub reads : 0 < length rs
  pub few_ruby : length rs ≤ 64
  pub narrow_ruby : sum rs ≤ 262144

-- a word of its form: a P has no ruby, and only a J's runs are read, which share out its ruby
pub record Sized (form : Form) (bs rs runs : List ℕ) : Type 0 where
  pub some : 0 < sum bs
  pub few : length bs ≤ 32
  pub narrow : sum bs ≤ 131072
  pub reads : has_ruby form ≡ true → 0 < length rs
  pub few_ruby : length rs ≤ 64
  pub narrow_ruby : sum rs ≤ 262144
  pub whole : is_j form ≡ true → sum runs ≡ length rs

pub small : (form : Form) (bs rs runs : List ℕ) → has_ruby form ≡ true → Sized form bs rs runs → Small bs rs
small form bs rs runs h s =
    record { some = s.some; few = s.few; narrow = s.narrow; reads = s.reads h; few_ruby = s.few_ruby; narrow_ruby = s.narrow_ruby }
