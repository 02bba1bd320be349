-- The text of a sheet, as a list of bytes: numbers and words (document 01, "The job sheet"). A definition gets the bytes that are left and the place of the first of them, and
-- says the place past what it reads.
use Rattle.std.specs.Prelude.{ℕ, ◌+◌, ◌-◌, ◌*◌, List, [], ◌∷◌, Option, Some, None, cond, length, ltb, eqb}
use Rattle.std.specs.List.{starts_with}

-- "decimal .. at most 4,294,967,295"
abbrev pub most : ℕ
most = 4294967295

-- What is read as a number: the number and the place past the byte that ends it. Digits up to the byte `stop`, after digits that say v.
unfoldable pub more : List ℕ → ℕ → ℕ → ℕ → Option (ℕ × ℕ)
more [] stop v at = None
more (b ∷ rest) stop v at =
    cond (eqb b stop) (Some (v, at + 1))
    (cond (ltb b 48) None
    (cond (ltb 57 b) None
    (cond (ltb most (v * 10 + (b - 48))) None
    (more rest stop (v * 10 + (b - 48)) (at + 1)))))

-- the byte `stop` after the digit 0: "without leading zeros"
unfoldable pub alone : List ℕ → ℕ → ℕ → Option (ℕ × ℕ)
alone [] stop at = None
alone (b ∷ rest) stop at = cond (eqb b stop) (Some (0, at + 1)) None

-- a number: a digit that is not 0 and more digits, or 0 alone; then the byte `stop`
unfoldable pub number : List ℕ → ℕ → ℕ → Option (ℕ × ℕ)
unfolding alone more
number [] stop at = None
number (b ∷ rest) stop at =
    cond (eqb b 48) (alone rest stop (at + 1))
    (cond (ltb b 48) None
    (cond (ltb 57 b) None
    (more rest stop (b - 48) (at + 1))))

-- the bytes of a word, and the place past it
unfoldable pub word : List ℕ → List ℕ → ℕ → Option ℕ
word w s at = cond (starts_with eqb s w) (Some (at + length w)) None

-- "Single spaces": the byte after what k more numbers follow, a space, or `last` after the last of them
abbrev pub stop_of : ℕ → ℕ → ℕ
stop_of last k = cond (eqb k 0) last 32
