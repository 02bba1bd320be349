-- Level one as document 01 words it ("Level one: the word alone"), with R-4: where each character of a word stands, in half units from the
-- start of the word's longer string. Solid and spread, character by character, are in `Worded` of the crate `spread`.
use Rattle.std.specs.Prelude.{Bool, cond, List, [], ◌∷◌, ◌++◌, map, ℕ, ◌+◌, ◌-◌, ◌*◌, eqb, leb, ltb, take, drop}
use Rattle.basics.specs.Lists.{sum, any}
use Rattle.class.specs.Class.{western}
use Rattle.spread.specs.declared.Way.{Way}
use Rattle.spread.specs.declared.Way.TheVariants.{Solid, Spread, Limited}
use Rattle.spread.specs.Worded.{solid, shorter, along}
use Rattle.spread.specs.Ratio.{Ratios}
use Rattle.word.specs.declared.Script.{Script}
use Rattle.word.specs.declared.Script.TheVariants.{Kana, Western}
use Rattle.word.specs.declared.Form.{Form}
use Rattle.word.specs.declared.Form.TheVariants.{P, M, G, J}
use Rattle.word.specs.Given.{Given}

-- where the characters of a word stand
pub record Places : Type 0 where
  pub base : List ℕ
  pub ruby : List ℕ

-- "B and R are the sums of base and ruby widths, D their difference .. Positions count from the start of the longer string"; r is how the ruby
-- is set where it is the shorter, b how the base is
unfoldable pub by_way : (ℕ → List ℕ → ℕ → ℕ) → (ℕ → List ℕ → ℕ → ℕ) → List ℕ → List ℕ → Places
by_way r b bs rs =
    let B = sum bs in
    let R = sum rs in
    cond (leb R B)
    (record { base = along (solid 0 bs) bs; ruby = along (r (B - R) rs) rs })
    (record { base = along (b (R - B) bs) bs; ruby = along (solid 0 rs) rs })

-- "M: always solid." No ratio reaches it.
unfoldable pub mono : List ℕ → List ℕ → Places
unfolding by_way
mono bs rs = by_way solid solid bs rs

-- Western or kana-like: throughout, as number 9 leaves no mixture
abbrev pub script : List ℕ → Script
script cs = cond (any western cs) Western Kana

-- the shorter ruby of a G, ruby over base
abbrev pub ruby_way : Script → Script → Way
ruby_way Kana Kana = Limited  -- "the shorter string is spread. Where the ruby is shorter and n is at least 2, g = min(floor(D/n), em)"
ruby_way Kana Western = Spread  -- "shorter ruby is spread, without that limit"
ruby_way Western Kana = Solid  -- "shorter ruby is solid"
ruby_way Western Western = Solid  -- refused (10)

-- the shorter base of a G, ruby over base
abbrev pub base_way : Script → Script → Way
base_way Kana Kana = Spread  -- "the shorter string is spread"
base_way Kana Western = Solid  -- "longer ruby is solid"
base_way Western Kana = Spread  -- "longer ruby spreads the base, without that limit"
base_way Western Western = Solid  -- refused (10)

-- "G, equal sums: solid." What is spread is spread by its ratio: "one for spread ruby and one for spread base"
unfoldable pub group : Script → Script → Ratios → ℕ → List ℕ → List ℕ → Places
unfolding by_way
group r b h em bs rs =
    cond (eqb (sum bs) (sum rs)) (by_way solid solid bs rs)
    (by_way (shorter (ruby_way r b) h.ruby em) (shorter (base_way r b) h.base em) bs rs)

-- a J's ruby widths, run by run
abbrev pub split : List ℕ → List ℕ → List (List ℕ)
split [] ws = []
split (n ∷ ns) ws = take n ws ∷ split ns (drop n ws)

-- some run is longer than one em
abbrev pub any_longer : ℕ → List (List ℕ) → Bool
any_longer em runs = any (ltb em) (map sum runs)

-- "each run is solid over its own character": as M over the character of one em that starts at `at`
unfoldable pub over_own : ℕ → ℕ → List (List ℕ) → List ℕ
unfolding mono
over_own em at [] = []
over_own em at (run ∷ runs) = map (λ x. at + x) (mono (em ∷ []) run).ruby ++ over_own em (at + 2 * em) runs

-- "J: if no run is longer than one em, each run is solid over its own character. If any is longer, the whole is set as G."
unfoldable pub jukugo : Script → Ratios → ℕ → List ℕ → List ℕ → List ℕ → Places
unfolding group over_own
jukugo r h em bs runs rs =
    cond (any_longer em (split runs rs)) (group r Kana h em bs rs) (record { base = along (solid 0 bs) bs; ruby = over_own em 0 (split runs rs) })

-- each form by its rule; a P has no ruby
unfoldable pub places : Form → Given → Places
unfolding mono group jukugo western
places P w = record { base = along (solid 0 w.width) w.width; ruby = [] }
places M w = mono w.width w.ruby_width
places G w = group (script w.ruby_class) (script w.class) w.ratios w.em w.width w.ruby_width
places J w = jukugo (script w.ruby_class) w.ratios w.em w.width w.run w.ruby_width
