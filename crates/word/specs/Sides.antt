-- A word with a reading on either side by its numbers. Every string of a word is set over the length of the longest, the base by its own way and ratio and each reading by the
-- ruby's, so one rule serves both sides; the longest has no space to share and stands solid at 0. `SidesJoined` shows that these are the places of `Both`.
use Rattle.std.specs.Prelude.{cond, ◌||◌, List, map, ℕ, ◌+◌, ◌-◌, ◌*◌, ◌≤◌, ◌<◌, leb, length}
use Rattle.std.proofs.Common.{arith}
use Rattle.basics.specs.Lists.{sum}
use Rattle.basics.specs.Laws.{sum-some}
use Rattle.spread.specs.declared.Way.{Way}
use Rattle.spread.specs.declared.Way.TheVariants.{Solid}
use Rattle.spread.specs.Gap.{gaps, starts}
use Rattle.spread.specs.Ratio.{Ratios}
use Rattle.word.specs.declared.Script.{Script}
use Rattle.word.specs.declared.Script.TheVariants.{Kana}
use Rattle.word.specs.declared.Left.{Left}
use Rattle.word.specs.declared.Reading.{Reading}
use Rattle.word.specs.declared.Word.{Word}
use Rattle.word.specs.declared.Str.{Str}
use Rattle.class.specs.Class.{western}
use Rattle.word.specs.declared.Form.{Form}
use Rattle.word.specs.declared.Form.TheVariants as form
use Rattle.word.specs.Given.{Given}
use Rattle.word.specs.Sized.{Small}
use Rattle.word.specs.Alone.{script, ruby_way, base_way, split, any_longer}
use Rattle.word.specs.Word.{string, by_runs, plain, run_starts}
use Rattle.word.specs.Word as one
use Rattle.word.specs.Both.{Gloss, has_left, is_group, longest}

-- a string by what a word knows of it: its width in units and its count of characters
abbrev pub str_of : List ℕ → Str
str_of ws = record { width = sum ws; count = length ws }

-- what the callers have made sure of: each string has a character, and the sums are those of a word
pub record Counted (s : Str) : Type 0 where
  pub some : 0 < s.count
  pub few : s.count ≤ 4096

pub record Strings (b r l : Str) : Type 0 where
  pub base : Counted b
  pub right : Counted r
  pub left : Counted l
  pub narrow : b.width ≤ 131072
  pub narrow_right : r.width ≤ 262144
  pub narrow_left : l.width ≤ 262144

-- the left characters of a word
pub record GlossSized (ls : List ℕ) : Type 0 where
  pub some : 0 < length ls
  pub few : length ls ≤ 64
  pub narrow : sum ls ≤ 262144

-- a reading over the length T of its word's longest string
unfoldable pub reading_over : Way → Ratios → ℕ → ℕ → Str → Reading
reading_over way h em T s =
    let g = gaps way h.ruby em (T - s.width) s.count in
    string g.front (g.front + 2 * s.width + g.within) g.within

-- a word of three strings, each by its way where it is not the longest
unfoldable pub sided : Way → Way → Way → Ratios → ℕ → Str → Str → Str → Word
unfolding reading_over
sided r l b h em bs rs ls =
    let T = longest bs.width rs.width ls.width in
    let g = gaps b h.base em (T - bs.width) bs.count in
    record { front = g.front; len = 2 * bs.width + g.within; inbase = g.within; right = reading_over r h em T rs; left = reading_over l h em T ls }

abbrev pub monos_word : Ratios → ℕ → Str → Str → Str → Word
monos_word h em bs rs ls = sided Solid Solid Solid h em bs rs ls

-- the base is set with the longer reading ("right, if equal")
abbrev pub groups_word : Script → Script → Script → Ratios → ℕ → Str → Str → Str → Word
groups_word r l b h em bs rs ls = sided (ruby_way r b) (ruby_way l b) (cond (leb ls.width rs.width) (base_way r b) (base_way l b)) h em bs rs ls

unfoldable pub jukugos_word : Script → Script → Ratios → ℕ → List ℕ → List ℕ → List ℕ → List ℕ → List ℕ → Word
unfolding sided
jukugos_word r l h em bs runs rs lruns ls =
    cond (any_longer em (split runs rs) || any_longer em (split lruns ls))
    (groups_word r l Kana h em (str_of bs) (str_of rs) (str_of ls))
    (record { front = 0; len = 2 * sum bs; inbase = 0; right = by_runs em (sum bs) (map sum (split runs rs)); left = by_runs em (sum bs) (map sum (split lruns ls)) })

-- a J by the kind of its left reading
unfoldable pub jukugos_by : Left → Script → Script → Ratios → ℕ → List ℕ → List ℕ → List ℕ → List ℕ → List ℕ → Word
unfolding jukugos_word
jukugos_by left r l h em bs runs rs lruns ls =
    cond (is_group left) (groups_word r l Kana h em (str_of bs) (str_of rs) (str_of ls)) (jukugos_word r l h em bs runs rs lruns ls)

-- a word of its form with its left reading, by what its strings are made of
unfoldable pub two_by : Form → Left → Script → Script → Script → Ratios → ℕ → List ℕ → List ℕ → List ℕ → List ℕ → List ℕ → Word
unfolding sided jukugos_by plain
two_by form.P left r l b h em bs runs rs lruns ls = plain (sum bs)
two_by form.M left r l b h em bs runs rs lruns ls = monos_word h em (str_of bs) (str_of rs) (str_of ls)
two_by form.G left r l b h em bs runs rs lruns ls = groups_word r l b h em (str_of bs) (str_of rs) (str_of ls)
two_by form.J left r l b h em bs runs rs lruns ls = jukugos_by left r l h em bs runs rs lruns ls

-- the word with a left reading
unfoldable pub word_two : Form → Given → Gloss → Word
unfolding two_by western
word_two form w g =
    two_by form g.kind (script w.ruby_class) (script g.class) (script w.class) w.ratios w.em w.width w.run w.ruby_width g.run g.width

-- every word, with a left reading or without
unfoldable pub word_of : Form → Given → Gloss → Word
unfolding word_two one.word_of
word_of form w g = cond (has_left g.kind) (word_two form w g) (one.word_of form w)

-- the positions of a word's characters, its origin at x: its base, and either reading
unfoldable pub block_starts : Word → ℕ → List ℕ → List ℕ
unfolding starts
block_starts w x bs = starts w.inbase (x + w.front) bs

unfoldable pub reading_starts : Reading → ℕ → ℕ → List ℕ → List ℕ → List ℕ
unfolding starts run_starts
reading_starts v em x runs ws = cond v.runs (run_starts em x (split runs ws)) (starts v.within (x + v.from) ws)

-- the strings of a word with its left characters
pub strings : (bs rs ls : List ℕ) → Small bs rs → GlossSized ls → Strings (str_of bs) (str_of rs) (str_of ls)
strings bs rs ls s g =
    record {
      base = record { some = sum-some bs s.some; few = omega (arith, s.few) };
      right = record { some = s.reads; few = omega (arith, s.few_ruby) };
      left = record { some = g.some; few = omega (arith, g.few) };
      narrow = s.narrow;
      narrow_right = s.narrow_ruby;
      narrow_left = g.narrow;
    }
