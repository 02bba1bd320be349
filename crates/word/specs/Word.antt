-- A word by its numbers, as the engine carries it: block, ruby, and the space within each string. `Joined` shows that these are the places of `Alone`.
use Rattle.std.specs.Prelude.{true, false, cond, List, [], ◌∷◌, ◌++◌, map, ℕ, ◌+◌, ◌-◌, ◌*◌, max, leb, length, get_or}
use Rattle.basics.specs.Lists.{sum, last_or}
use Rattle.spread.specs.declared.Way.{Way}
use Rattle.spread.specs.declared.Way.TheVariants.{Solid}
use Rattle.spread.specs.declared.Gaps.{Gaps}
use Rattle.spread.specs.Gap.{gaps, starts}
use Rattle.spread.specs.Ratio.{Ratios}
use Rattle.word.specs.declared.Script.{Script}
use Rattle.word.specs.declared.Script.TheVariants.{Kana}
use Rattle.word.specs.declared.Form.{Form}
use Rattle.word.specs.declared.Form.TheVariants.{P, M, G, J}
use Rattle.word.specs.declared.Reading.{Reading}
use Rattle.word.specs.declared.Word.{Word}
use Rattle.word.specs.Given.{Given}
use Rattle.word.specs.Alone.{script, ruby_way, base_way, split, any_longer}

-- a reading that is not there; one that is a string from here to there, with this space within; and one of runs of these lengths, each over its own character of one em,
-- over a base of the width B: it lies within the block, from the first run's start to the last run's end
abbrev pub none : Reading
none = record { there = false; from = 0; upto = 0; within = 0; runs = false }

abbrev pub string : ℕ → ℕ → ℕ → Reading
string from upto within = record { there = true; from = from; upto = upto; within = within; runs = false }

abbrev pub between : ℕ → ℕ → ℕ → ℕ → Reading
between em B first last = record { there = true; from = em - first; upto = 2 * B - (em - last); within = 0; runs = true }

abbrev pub by_runs : ℕ → ℕ → List ℕ → Reading
by_runs em B lengths = between em B (get_or lengths 0 0) (last_or 0 lengths)

-- the word whose ruby is no longer than its base, by the gaps of the ruby; and the word whose base is the shorter, by those of the base
unfoldable pub short_ruby : ℕ → ℕ → Gaps → Word
short_ruby B R g = record { front = 0; len = 2 * B; inbase = 0; right = string g.front (g.front + 2 * R + g.within) g.within; left = none }

unfoldable pub short_base : ℕ → ℕ → Gaps → Word
short_base B R g = record { front = g.front; len = 2 * B + g.within; inbase = g.within; right = string 0 (2 * R) 0; left = none }

unfoldable pub word_by : Way → Way → Ratios → ℕ → List ℕ → List ℕ → Word
unfolding short_ruby short_base gaps
word_by r b h em bs rs =
    cond (leb (sum rs) (sum bs))
    (short_ruby (sum bs) (sum rs) (gaps r h.ruby em (sum bs - sum rs) (length rs)))
    (short_base (sum bs) (sum rs) (gaps b h.base em (sum rs - sum bs) (length bs)))

-- "A word now protrudes by different amounts in front and behind": how far ruby passes the block at either end, 0 if it doesn't
abbrev pub protrusion_front : Word → ℕ
protrusion_front v = v.front - v.right.from

abbrev pub protrusion_behind : Word → ℕ
protrusion_behind v = v.right.upto - (v.front + v.len)

-- a word without ruby
unfoldable pub plain : ℕ → Word
plain B = record { front = 0; len = 2 * B; inbase = 0; right = none; left = none }

unfoldable pub group_word : Script → Script → Ratios → ℕ → List ℕ → List ℕ → Word
unfolding word_by
group_word r b h em bs rs = word_by (ruby_way r b) (base_way r b) h em bs rs

-- each run over its own character
unfoldable pub over_each : ℕ → ℕ → List ℕ → Word
over_each em B lengths =
    record { front = 0; len = 2 * B; inbase = 0; right = by_runs em B lengths; left = none }

unfoldable pub jukugo_word : Script → Ratios → ℕ → List ℕ → List ℕ → List ℕ → Word
unfolding group_word over_each
jukugo_word r h em bs runs rs = cond (any_longer em (split runs rs)) (group_word r Kana h em bs rs) (over_each em (sum bs) (map sum (split runs rs)))

unfoldable pub word_of : Form → Given → Word
unfolding plain word_by group_word jukugo_word
word_of P w = plain (sum w.width)
word_of M w = word_by Solid Solid w.ratios w.em w.width w.ruby_width
word_of G w = group_word (script w.ruby_class) (script w.class) w.ratios w.em w.width w.ruby_width
word_of J w = jukugo_word (script w.ruby_class) w.ratios w.em w.width w.run w.ruby_width

-- from the start of the longest string to its end
abbrev pub total : Word → ℕ
total w = max (w.front + w.len) (max w.right.upto w.left.upto)

-- each run solid over its own character, the first of which starts at `at`
unfoldable pub run_starts : ℕ → ℕ → List (List ℕ) → List ℕ
unfolding starts
run_starts em at [] = []
run_starts em at (run ∷ runs) = starts 0 (at + (em - sum run)) run ++ run_starts em (at + 2 * em) runs

-- the positions of a word's characters, its origin at x
unfoldable pub base_starts : Word → ℕ → List ℕ → List ℕ
unfolding starts
base_starts w x bs = starts w.inbase (x + w.front) bs

unfoldable pub ruby_starts : Word → ℕ → ℕ → List ℕ → List ℕ → List ℕ
unfolding starts run_starts
ruby_starts w em x runs rs = cond w.right.runs (run_starts em x (split runs rs)) (starts w.right.within (x + w.right.from) rs)
