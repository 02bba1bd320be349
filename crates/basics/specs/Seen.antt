-- How a contract names what lies behind a parameter that is lent: by `x.now` of a `&`, and by `x.old` and `x.new` of a `&mut`, what it leads to at entry and at exit. Words that take a `&` itself are over
-- `Ref` in a `requires` and over `Seen` in an `ensures`, where `was x` is what it led to.
use Rattle.std.specs.Prelude.{List, ℕ}
use Rattle.std.specs.Borrow.{Bor}
use denote.Triple.Both.{Both}

abbrev pub was : {X E : Type 0} → Both (Bor X) E → X
was x = x.entry.now

-- a list of numbers that is lent, and one as an `ensures` sees it
abbrev pub Ref : Type 0
Ref = Bor (List ℕ)

abbrev pub Seen : Type 0
Seen = Both Ref Ref
