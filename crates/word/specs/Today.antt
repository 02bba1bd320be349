-- Level one as document 01 has it, before R-4: no ratio stands in it. `as_today` is "1:2:1 must give today's positions", of every word: M, G, and J whole or
-- in parts.
use Rattle.std.specs.Prelude.{◌≡◌, refl, Bool, true, false, cond, List, [], ℕ, eqb}
use Rattle.basics.specs.Lists.{sum}
use Rattle.class.specs.Class.{western}
use Rattle.spread.specs.Ratio.{Ratios, usual}
use Rattle.spread.specs.Worded.{solid, along}
use Rattle.spread.specs.Worded as worded
use Rattle.spread.specs.Today.{shorter}
use Rattle.word.specs.declared.Script.{Script}
use Rattle.word.specs.declared.Script.TheVariants.{Kana}
use Rattle.word.specs.declared.Form.{Form}
use Rattle.word.specs.declared.Form.TheVariants.{P, M, G, J}
use Rattle.word.specs.Given.{Given}
use Rattle.word.specs.Alone.{Places, by_way, mono, script, ruby_way, base_way, split, any_longer, over_own}
use Rattle.word.specs.Alone as alone
use Rattle.word.specs.Joined.{by-today}

-- "G, equal sums: solid." What is spread is spread with "equal end gaps g"
unfoldable pub group : Script → Script → ℕ → List ℕ → List ℕ → Places
group r b em bs rs = cond (eqb (sum bs) (sum rs)) (by_way solid solid bs rs) (by_way (shorter (ruby_way r b) em) (shorter (base_way r b) em) bs rs)

-- "J: if no run is longer than one em, each run is solid over its own character. If any is longer, the whole is set as G."
unfoldable pub jukugo : Script → ℕ → List ℕ → List ℕ → List ℕ → Places
unfolding group
jukugo r em bs runs rs = cond (any_longer em (split runs rs)) (group r Kana em bs rs) (record { base = along (solid 0 bs) bs; ruby = over_own em 0 (split runs rs) })

unfoldable pub places : Form → Given → Places
unfolding group jukugo western
places P w = record { base = along (solid 0 w.width) w.width; ruby = [] }
places M w = mono w.width w.ruby_width
places G w = group (script w.ruby_class) (script w.class) w.em w.width w.ruby_width
places J w = jukugo (script w.ruby_class) w.em w.width w.run w.ruby_width

group_as : (r b : Script) (h : Ratios) (em : ℕ) (bs rs : List ℕ) → h ≡ usual → alone.group r b h em bs rs ≡ group r b em bs rs
unfolding alone.group group
group_as r b h em bs rs e = rw e (go (eqb (sum bs) (sum rs)))
  where
    go : (t : Bool) →
        cond t (by_way solid solid bs rs) (by_way (worded.shorter (ruby_way r b) usual.ruby em) (worded.shorter (base_way r b) usual.base em) bs rs)
        ≡ cond t (by_way solid solid bs rs) (by_way (shorter (ruby_way r b) em) (shorter (base_way r b) em) bs rs)
    go true = refl
    go false = by-today (ruby_way r b) (base_way r b) em bs rs

pub as_today : (form : Form) (w : Given) → w.ratios ≡ usual → alone.places form w ≡ places form w
unfolding alone.places places alone.jukugo jukugo
as_today P w e = refl
as_today M w e = refl
as_today G w e = group_as (script w.ruby_class) (script w.class) w.ratios w.em w.width w.ruby_width e
as_today J w e = rw (group_as (script w.ruby_class) Kana w.ratios w.em w.width w.ruby_width e)
