-- The gap rule, by three numbers, and the starts of a string that has them. `Laws` shows that these are the characters of `Worded`.
use Rattle.std.specs.Prelude.{Bool, true, false, cond, List, ℕ, ◌+◌, ◌-◌, ◌*◌, ◌/◌, eqb, length, take}
use Rattle.basics.specs.Lists.{sum}
use Rattle.spread.specs.declared.Way.{Way}
use Rattle.spread.specs.declared.Way.TheVariants.{Solid, Spread, Limited}
use Rattle.spread.specs.declared.Ratio.{Ratio}
use Rattle.spread.specs.declared.Gaps.{Gaps}
use Rattle.spread.specs.Worded.{front, rear, held, along}

-- all the space at the ends: centred; the rear takes what the front leaves; and both end gaps known, the rest within
abbrev pub centred : ℕ → Gaps
centred D = record { front = D; within = 0; rear = D }

abbrev pub rest : ℕ → ℕ → Gaps
rest f D = record { front = f; within = 0; rear = 2 * D - f }

abbrev pub ends : ℕ → ℕ → ℕ → Gaps
ends f c D = record { front = f; within = 2 * D - (f + c); rear = c }

-- a string of n characters that is spread
unfoldable pub gaps_by : Bool → Ratio → ℕ → ℕ → ℕ → Gaps
gaps_by limited r em D n =
    cond (eqb n 1)
    (cond (eqb (r.a + r.c) 0) (centred D) (rest (front r D n) D))
    (cond (eqb r.m 0) (rest (front r D n) D)
    (ends (held limited em (front r D n)) (held limited em (rear r D n)) D))

-- the gaps of the shorter string by its way
unfoldable pub gaps : Way → Ratio → ℕ → ℕ → ℕ → Gaps
unfolding gaps_by
gaps Solid r em D n = centred D
gaps Spread r em D n = gaps_by false r em D n
gaps Limited r em D n = gaps_by true r em D n

-- character i of a string whose first character starts at `at`, with `within` half units within it
abbrev pub start : ℕ → ℕ → List ℕ → ℕ → ℕ
start within at ws i = at + 2 * sum (take i ws) + within * i / (length ws - 1)

unfoldable pub starts : ℕ → ℕ → List ℕ → List ℕ
starts within at ws = along (start within at ws) ws
