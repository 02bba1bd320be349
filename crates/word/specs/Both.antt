-- Level one of a word with a reading on either side, as document 02 words it (R-5), over document 01's rule for one reading (`Alone`): where each character
-- stands, in half units from the start of the word's longest string. `Sides` has the same by numbers.
use Rattle.std.specs.Prelude.{Bool, true, false, cond, ◌&&◌, ◌||◌, List, [], ◌∷◌, ℕ, ◌-◌, max, leb}
use Rattle.basics.specs.Lists.{sum}
use Rattle.spread.specs.Worded.{solid, along}
use Rattle.spread.specs.Ratio.{Ratios}
use Rattle.word.specs.declared.Script.{Script}
use Rattle.word.specs.declared.Script.TheVariants.{Kana}
use Rattle.word.specs.declared.Left.{Left}
use Rattle.word.specs.declared.Left.TheVariants.{N, M, G, J}
use Rattle.word.specs.declared.Form.{Form}
use Rattle.word.specs.declared.Form.TheVariants as form
use Rattle.word.specs.Given.{Given}
use Rattle.word.specs.Alone.{group, split, any_longer, over_own, script}
use Rattle.word.specs.Alone as alone
use Rattle.class.specs.Class.{western}

-- What is given of a left reading: its kind, and its own characters; runs, by their counts of characters, are read of M and J over a J.
pub record Gloss : Type 0 where
  pub kind : Left
  pub class : List ℕ
  pub width : List ℕ
  pub run : List ℕ

abbrev pub has_left : Left → Bool
has_left N = false
has_left M = true
has_left G = true
has_left J = true

-- "A left reading is mono on M, group on G, and mono, jukugo or group on J."
abbrev pub takes : Form → Left → Bool
takes form N = true
takes form.P M = false
takes form.P G = false
takes form.P J = false
takes form.M M = true
takes form.M G = false
takes form.M J = false
takes form.G M = false
takes form.G G = true
takes form.G J = false
takes form.J M = true
takes form.J G = true
takes form.J J = true

-- "a J with a mono left reading is set as one such M for each character": every other element that takes its left reading is one word
abbrev pub apart : Form → Left → Bool
apart form N = false
apart form.P M = false
apart form.P G = false
apart form.P J = false
apart form.M M = false
apart form.M G = false
apart form.M J = false
apart form.G M = false
apart form.G G = false
apart form.G J = false
apart form.J M = true
apart form.J G = false
apart form.J J = false

-- where the characters of a word with two readings stand
pub record Both : Type 0 where
  pub base : List ℕ
  pub right : List ℕ
  pub left : List ℕ

-- the length of the longest of three strings
abbrev pub longest : ℕ → ℕ → ℕ → ℕ
longest B R L = max B (max R L)

-- "Mono with mono is solid and centred on both sides"
unfoldable pub monos : List ℕ → List ℕ → List ℕ → Both
monos bs rs ls =
    let T = longest (sum bs) (sum rs) (sum ls) in
    record { base = along (solid (T - sum bs) bs) bs; right = along (solid (T - sum rs) rs) rs; left = along (solid (T - sum ls) ls) ls }

-- "the other is then set as a shorter or equal ruby over a base of the longer one's length and the base's own kind": T is the longer one's length
unfoldable pub other : Script → Script → Ratios → ℕ → ℕ → List ℕ → List ℕ
unfolding group
other o b h em T os = (group o b h em (T ∷ []) os).ruby

-- "if neither reading is longer than the base, each is set as a group alone. Otherwise the longer reading (right, if equal) is set with the base by document 01,
-- and the other is then set" over it; r, l and b are what the strings are made of
unfoldable pub groups : Script → Script → Script → Ratios → ℕ → List ℕ → List ℕ → List ℕ → Both
unfolding group other
groups r l b h em bs rs ls =
    let right = group r b h em bs rs in
    let left = group l b h em bs ls in
    cond (leb (sum rs) (sum bs) && leb (sum ls) (sum bs))
    (record { base = right.base; right = right.ruby; left = left.ruby })
    (cond (leb (sum ls) (sum rs))
    (record { base = right.base; right = right.ruby; left = other l b h em (sum rs) ls })
    (record { base = left.base; right = other r b h em (sum ls) rs; left = left.ruby }))

-- "A J with a left G, or with a left J and a run longer than one em on either side, is taken as group on both sides and isn't cut; every other J is cut as in document 01":
-- `longer` says that some run of either side is
abbrev pub is_group : Left → Bool
is_group N = false
is_group M = false
is_group G = true
is_group J = false

abbrev pub is_jukugo : Left → Bool
is_jukugo N = false
is_jukugo M = false
is_jukugo G = false
is_jukugo J = true

abbrev pub uncut : Left → Bool → Bool
uncut kind longer = is_group kind || (is_jukugo kind && longer)

-- a J with a left J: its runs stay over their own characters on both sides, or it is taken as group on both
unfoldable pub jukugos : Script → Script → Ratios → ℕ → List ℕ → List ℕ → List ℕ → List ℕ → List ℕ → Both
unfolding groups over_own
jukugos r l h em bs runs rs lruns ls =
    cond (any_longer em (split runs rs) || any_longer em (split lruns ls))
    (groups r l Kana h em bs rs ls)
    (record { base = along (solid 0 bs) bs; right = over_own em 0 (split runs rs); left = over_own em 0 (split lruns ls) })

-- a word of its form with its left reading; forms that take no such reading are refused (16)
unfoldable pub two : Form → Given → Gloss → Both
unfolding monos groups jukugos western alone.places
two form.P w g = record { base = (alone.places form.P w).base; right = []; left = [] }
two form.M w g = monos w.width w.ruby_width g.width
two form.G w g = groups (script w.ruby_class) (script g.class) (script w.class) w.ratios w.em w.width w.ruby_width g.width
two form.J w g =
    cond (is_group g.kind)
    (groups (script w.ruby_class) (script g.class) Kana w.ratios w.em w.width w.ruby_width g.width)
    (jukugos (script w.ruby_class) (script g.class) w.ratios w.em w.width w.run w.ruby_width g.run g.width)

-- every word, with a left reading or without
unfoldable pub places : Form → Given → Gloss → Both
unfolding two alone.places
places form w g = cond (has_left g.kind) (two form w g) (record { base = (alone.places form w).base; right = (alone.places form w).ruby; left = [] })
