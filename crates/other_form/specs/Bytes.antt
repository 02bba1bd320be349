-- A sheet's bytes line by line: where so many lines end, and the lines of `elem` with the letter N and without it (document 02, R-6: "each M, G and J line ends in a letter for the left kind (M, G,
-- J; N for none)"). What these leave of a sheet's text is said in Lines.
use Rattle.std.specs.Prelude.{cond, ◌&&◌, List, [], ◌∷◌, ◌++◌, ℕ, zero, suc, ◌+◌, eqb, get_or}

-- the place past k lines, "each line ended by LF", of bytes of which the first has the place `at`
unfoldable pub past_lines : ℕ → List ℕ → ℕ → ℕ
past_lines zero bs at = at
past_lines (suc k) [] at = at
past_lines (suc k) (b ∷ bs) at = cond (eqb b 10) (past_lines k bs (at + 1)) (past_lines (suc k) bs (at + 1))

-- a byte b after the byte `last`: " N" goes before the LF of a line, but for that of `P`
abbrev pub on_by : ℕ → ℕ → List ℕ
on_by last b = cond (eqb b 10) (cond (eqb last 80) (10 ∷ []) (32 ∷ 78 ∷ 10 ∷ [])) (b ∷ [])

unfoldable pub letters_on : ℕ → List ℕ → List ℕ
letters_on last [] = []
letters_on last (b ∷ bs) = on_by last b ++ letters_on b bs

-- a byte b before the byte `next`: N goes, and the space before it
abbrev pub off_by : ℕ → ℕ → List ℕ
off_by b next = cond (eqb b 78) [] (cond (eqb b 32 && eqb next 78) [] (b ∷ []))

unfoldable pub letters_off : List ℕ → List ℕ
letters_off [] = []
letters_off (b ∷ bs) = off_by b (get_or bs 0 0) ++ letters_off bs
