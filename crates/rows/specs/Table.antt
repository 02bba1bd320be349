-- A table that holds lines column by column: number j of line i stands at i + j * step.
use Rattle.std.specs.Prelude.{List, [], ◌∷◌, ◌++◌, map, ◌≡◌, refl, ℕ, suc, ◌+◌, ◌*◌, ◌^◌, ◌≤◌, ◌<◌, length, set, get_or, Result}
use Rattle.std.proofs.Common.{◌∙◌, ap, sym, add-zero, add-one, arith, length-set}
use Rattle.std.proofs.lemmas.List.{length-map}
use Rattle.std.proofs.lemmas.List.Edits.{sets}
use Rattle.refusal.specs.declared.Refusal.{Refusal}
use Rattle.rows.specs.declared.Part.{Part}
use Rattle.rows.specs.Section.{count_of, line_of}

-- numbers stored from `at` on, each `step` past the one before
unfoldable pub strided : List ℕ → ℕ → ℕ → List ℕ → List ℕ
strided t at step [] = t
strided t at step (v ∷ vs) = strided (set t at v) (at + step) step vs

-- lines stored from line i on
unfoldable pub laid : List ℕ → ℕ → ℕ → List (List ℕ) → List ℕ
laid t i step [] = t
laid t i step (r ∷ rows) = laid (strided t i step r) (i + 1) step rows

-- number j of each line
abbrev pub column : ℕ → List (List ℕ) → List ℕ
column j rows = map (λ (r : List ℕ). get_or r j 0) rows

-- a column is as long as its section
pub length-column : (j : ℕ) (rows : List (List ℕ)) → length (column j rows) ≡ length rows
length-column j rows = length-map rows (λ (r : List ℕ). get_or r j 0)

-- the table has a place for each of k numbers from `to` on, as far as the sheet can hold them: a number takes two bytes at least
pub record FieldsReady (s : List ℕ) (from k to step : ℕ) (out : List ℕ) : Type 0 where
  pub room : (j : ℕ) → j ≤ k → from + 2 * j ≤ length s → to + j * step < length out + step
  pub small : length out + step < 2 ^ 64

-- and for those of each line of a section
pub record RowsReady (k most : ℕ) (head : Result Part Refusal) (out : List ℕ) : Type 0 where
  pub few : count_of head ≤ most
  pub room : k * most ≤ length out
  pub small : length out + most < 2 ^ 64
  pub lines : line_of head + count_of head < 2 ^ 32

pub record SectionReady (k most : ℕ) (last : Result Part Refusal) (out : List ℕ) : Type 0 where
  pub room : k * most ≤ length out
  pub small : length out + most < 2 ^ 64
  pub lines : line_of last + 1 + most < 2 ^ 32

pub length-strided : (t : List ℕ) (at step : ℕ) (vs : List ℕ) → length (strided t at step vs) ≡ length t
unfolding strided
length-strided t at step [] = refl
length-strided t at step (v ∷ vs) = length-strided (set t at v) (at + step) step vs ∙ length-set t at v

pub length-laid : (t : List ℕ) (i step : ℕ) (rows : List (List ℕ)) → length (laid t i step rows) ≡ length t
unfolding laid
length-laid t i step [] = refl
length-laid t i step (r ∷ rows) = length-laid (strided t i step r) (i + 1) step rows ∙ length-strided t i step r

-- lines, and more lines after them
pub laid_append : (t : List ℕ) (i step : ℕ) (xs ys : List (List ℕ)) → laid t i step (xs ++ ys) ≡ laid (laid t i step xs) (i + length xs) step ys
unfolding laid
laid_append t i step [] ys = ap (λ k. laid t k step ys) (sym (add-zero i))
laid_append t i step (x ∷ xs) ys = laid_append (strided t i step x) (i + 1) step xs ys ∙ ap (λ k. laid (laid (strided t i step x) (i + 1) step xs) k step ys) (one_on i (length xs))
  where
    one_on : (i n : ℕ) → i + 1 + n ≡ i + suc n
    one_on i n = omega arith

-- numbers one after the other
pub strided-one : (t : List ℕ) (at : ℕ) (vs : List ℕ) → strided t at 1 vs ≡ sets t at vs
unfolding strided
strided-one t at [] = refl
strided-one t at (v ∷ vs) = strided-one (set t at v) (at + 1) vs ∙ ap (λ p. sets (set t at v) p vs) (add-one at)
