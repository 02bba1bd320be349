-- Spread as document 01 words it, before R-4: "1:2:1 must give today's positions". `Laws` shows that it does (`as_today`).
use Rattle.std.specs.Prelude.{cond, List, ℕ, ◌+◌, ◌-◌, ◌*◌, ◌/◌, min, eqb, length, take}
use Rattle.basics.specs.Lists.{sum}
use Rattle.spread.specs.declared.Way.{Way}
use Rattle.spread.specs.declared.Way.TheVariants.{Solid, Spread, Limited}
use Rattle.spread.specs.Worded.{solid}

-- "Character i (from 0) starts at g + twice the widths before it + floor((2D - 2g) * i / (n - 1)). With n = 1 it starts at D."
abbrev pub spread : ℕ → ℕ → List ℕ → ℕ → ℕ
spread g D ws i = cond (eqb (length ws) 1) D (g + 2 * sum (take i ws) + (2 * D - 2 * g) * i / (length ws - 1))

-- the shorter string by its way: spread has "equal end gaps g = floor(D/n)", spread with the limit "g = min(floor(D/n), em)"
abbrev pub shorter : Way → ℕ → ℕ → List ℕ → ℕ → ℕ
shorter Solid em D ws = solid D ws
shorter Spread em D ws = spread (D / length ws) D ws
shorter Limited em D ws = spread (min (D / length ws) em) D ws
