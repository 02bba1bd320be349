-- "Any two results meeting one contract are shown equal": the contract of `needed_extent` is an equation, and determines the number that it gives.
use Rattle.cells.specs.Rows.{Rows}
use Rattle.std.specs.Prelude.{◌≡◌, ℕ}
use Rattle.basics.specs.Laws.{determined}
use Rattle.shortest.specs.Shortest.{needed_of}

-- `needed_extent`
pub needed-unique : (t : Rows) (n s p q : ℕ) → p ≡ needed_of t n s → q ≡ needed_of t n s → p ≡ q
needed-unique t n s = determined (needed_of t n s)
