-- The ratios that a job carries (R-4): "one for spread ruby and one for spread base, each of three numbers a, m, c from 0 to 7".
use Rattle.std.specs.Prelude.{List, [], ◌∷◌, ℕ, ◌+◌, ◌≤◌, ◌<◌, get_or}
use Rattle.spread.specs.declared.Which.{Which}
use Rattle.spread.specs.declared.Which.TheVariants.{Ruby, Base}
use Rattle.spread.specs.declared.Ratio.{Ratio}

pub record Ratios : Type 0 where
  pub ruby : Ratio
  pub base : Ratio

-- from the lists of a caller, the ruby's first
abbrev pub ratio_of : List ℕ → Ratio
ratio_of t = record { a = get_or t 0 0; m = get_or t 1 0; c = get_or t 2 0 }

abbrev pub ratios_of : List (List ℕ) → Ratios
ratios_of t = record { ruby = ratio_of (get_or t 0 []); base = ratio_of (get_or t 1 []) }

-- that of the string which is spread
abbrev pub ratio_for : Which → Ratios → Ratio
ratio_for Ruby r = r.ruby
ratio_for Base r = r.base

-- 1:2:1, for both: what document 01 has, and every sheet of form one
abbrev pub one_two_one : Ratio
one_two_one = record { a = 1; m = 2; c = 1 }

abbrev pub usual_lists : List (List ℕ)
usual_lists = (1 ∷ 2 ∷ 1 ∷ []) ∷ (1 ∷ 2 ∷ 1 ∷ []) ∷ []

abbrev pub usual : Ratios
usual = record { ruby = one_two_one; base = one_two_one }

-- a ratio that a job may carry: number 15 leaves no other
pub record Sound (r : Ratio) : Type 0 where
  pub front : r.a ≤ 7
  pub middle : r.m ≤ 7
  pub rear : r.c ≤ 7
  pub some : 0 < r.a + r.m + r.c

pub record Housed (r : Ratios) : Type 0 where
  pub ruby : Sound r.ruby
  pub base : Sound r.base

pub housed : (w : Which) {r : Ratios} → Housed r → Sound (ratio_for w r)
housed Ruby h = h.ruby
housed Base h = h.base
