-- Frames over the bytes that a reader has left, where they are known: `sheet LENGTH` on a line before each sheet; and what is written of an answer.
use Rattle.std.specs.Prelude.{cond, List, [], ◌∷◌, ◌++◌, ◌≡◌, ℕ, zero, suc, ◌-◌, min, eqb, length, take, drop, replicate, Option, Some, None, decimal}
use Rattle.text.specs.Print.{bytes}
use Rattle.text.specs.Text.{number, word}

-- the next n bytes up to LF, and zeros behind them, n in all
unfoldable pub line_in : ℕ → List ℕ → List ℕ
line_in zero xs = []
line_in (suc n) [] = replicate (suc n) 0
line_in (suc n) (b ∷ xs) = b ∷ cond (eqb b 10) (replicate n 0) (line_in n xs)

-- and what is left behind them
unfoldable pub past_line : ℕ → List ℕ → List ℕ
past_line zero xs = xs
past_line (suc n) [] = []
past_line (suc n) (b ∷ xs) = cond (eqb b 10) xs (past_line n xs)

-- the length of a sheet, where a line announces it
abbrev pub value_of : Option (ℕ × ℕ) → Option ℕ
value_of None = None
value_of (Some read) = Some read.0

abbrev pub length_at : List ℕ → Option ℕ → Option ℕ
length_at line None = None
length_at line (Some at) = value_of (number (drop at line) 10 at)

abbrev pub announced : List ℕ → Option ℕ
announced line = length_at line (word (bytes "sheet ") line 0)

-- what the next line of the input announces: a line is told by its first 32 bytes
abbrev pub frame_in : List ℕ → Option ℕ
frame_in xs = announced (line_in 32 xs)

-- as many bytes of the answer as it has, after a line with their number
abbrev pub answer_text : ℕ → List ℕ → List ℕ
answer_text k out = bytes "answer " ++ (decimal (min k (length out)) ++ (10 ∷ take (min k (length out)) out))
