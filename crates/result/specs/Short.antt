-- How long a text can be. The rows of a result are those of each base character, each ruby character and each left one, once and in order; an index takes at most four digits and any other
-- number ten, so a row has at most 18 bytes and a line's head 16, and there are at most 1,024 lines, 1,024 base characters, 2,048 ruby characters and 2,048 left ones.
use Rattle.std.specs.Prelude.{◌≡◌, ℕ, ◌+◌, ◌*◌, ◌≤◌, get_or}
use Rattle.std.proofs.Math.Path.{refl, ap}
use Rattle.std.proofs.Common.{◌∙◌, zero-le}
use mathlib.Core.List.{List, [], ◌∷◌, ◌++◌}
use native.Mathlib.Omega.{arith}
use Rattle.std.proofs.Math.ListN.{length, length-append}
use Rattle.basics.specs.Lists.{count, each}
use Rattle.text.specs.Written.{decimal_le}
use Rattle.refusal.specs.declared.Refusal.{Refusal}
use Rattle.refusal.specs.Refusal.{number_of, place_of}
use Rattle.line.specs.declared.Side.{Side}
use Rattle.line.specs.declared.Side.TheVariants.{Right, Left}
use Rattle.door.specs.declared.Piece.{Piece}
use Rattle.door.specs.Job.{Job, base_count}
use Rattle.door.specs.Passed.{Passed}
use Rattle.job.specs.Line.{extent_of, ends, by_line, first_of, many_of, count_of}
use Rattle.job.specs.Laws.{each_append}
use Rattle.job.proofs.Tiles.{elements_laid, base-numbers_of, reading-numbers_of}
use Rattle.job.specs.Promise.{Filled}
use Rattle.job.proofs.Filled.{chain-few}
use Rattle.result.specs.Text.{bytes, line_one, line_two, rows, letter, of_reading, of_piece, printed, of_line, result_text, refusal_text}
use Rattle.result.specs.Rows.{length-one, length_two, rows_short}

-- 17 + 1,024 * 16 + (1,024 + 2,048 + 2,048) * 18
abbrev pub longest : ℕ
longest = 108561

-- the rows of the characters with these indices
abbrev told : List ℕ → List ℕ → List ℕ → List ℕ
told word positions ns = each (λ k. line_two word k (get_or positions k 0)) ns

told_append : (word positions xs ys : List ℕ) → length (told word positions (xs ++ ys)) ≡ length (told word positions xs) + length (told word positions ys)
told_append word positions xs ys =
    ap length (each_append (λ k. line_two word k (get_or positions k 0)) xs ys) ∙ length-append (told word positions xs) (told word positions ys)

-- the base characters of pieces, and those of either side
abbrev bases_of : List Piece → List ℕ
bases_of ps = each (λ p. count p.base p.bases) ps

abbrev readings_of : Side → List Piece → List ℕ
readings_of side ps = each (λ p. count (first_of side p) (many_of side p)) ps

module _ (job : Job) (base ruby left : List ℕ) where
  -- how long the rows of these base, ruby and left characters are
  abbrev rows_long : List ℕ → List ℕ → List ℕ → ℕ
  rows_long bs rs ls = length (told (bytes "b") base bs) + length (told (letter Right) ruby rs) + length (told (letter Left) left ls)

  pieces-long : (ps : List Piece) → length (each (of_piece base ruby left) ps) ≡ rows_long (bases_of ps) (readings_of Right ps) (readings_of Left ps)
  unfolding of_piece of_reading rows
  pieces-long [] = refl
  pieces-long (p ∷ ps) =
      omega (
        arith,
        length-append (of_piece base ruby left p) (each (of_piece base ruby left) ps),
        length-append (rows (bytes "b") base p.base p.bases) (of_reading Right ruby p ++ of_reading Left left p),
        length-append (of_reading Right ruby p) (of_reading Left left p),
        told_append (bytes "b") base (count p.base p.bases) (bases_of ps),
        told_append (letter Right) ruby (count p.ruby p.rubies) (readings_of Right ps),
        told_append (letter Left) left (count p.left p.lefts) (readings_of Left ps),
        pieces-long ps,
      )

  abbrev bases_in : ℕ → ℕ → List ℕ
  bases_in s e = bases_of (printed job s e)

  abbrev read_in : Side → ℕ → ℕ → List ℕ
  read_in side s e = readings_of side (printed job s e)

  line-short : (s e : ℕ) → length (of_line job base ruby left s e) ≤ 16 + rows_long (bases_in s e) (read_in Right s e) (read_in Left s e)
  unfolding of_line
  line-short s e =
      let head = line_one (bytes "line") (extent_of job s e) in
      omega (
        arith,
        length-append head (each (of_piece base ruby left) (printed job s e)),
        length-one (bytes "line") (extent_of job s e),
        decimal_le (extent_of job s e),
        pieces-long (printed job s e),
      )

  lines-short : (s : ℕ) (es : List ℕ) → length (by_line (of_line job base ruby left) s es) ≤ 16 * length es + rows_long (by_line bases_in s es) (by_line (read_in Right) s es) (by_line (read_in Left) s es)
  lines-short s [] = zero-le
  lines-short s (e ∷ es) =
      omega (
        arith,
        length-append (of_line job base ruby left s e) (by_line (of_line job base ruby left) e es),
        line-short s e,
        lines-short e es,
        told_append (bytes "b") base (bases_in s e) (by_line bases_in e es),
        told_append (letter Right) ruby (read_in Right s e) (by_line (read_in Right) e es),
        told_append (letter Left) left (read_in Left s e) (by_line (read_in Left) e es),
      )

  -- each character has one row
  module _ (passed : Passed job) (fill : Filled job (ends job)) where
    base_rows : length (told (bytes "b") base (by_line bases_in 0 (ends job))) ≤ 18 * base_count job
    unfolding printed rows
    base_rows =
        omega (
          arith,
          ap (λ ns. length (told (bytes "b") base ns)) (base-numbers_of job (elements_laid job passed) (ends job) fill),
          rows_short (bytes "b") base 0 (base_count job) refl (omega (arith, passed.few_base)),
        )

    reading-rows : (side : Side) (positions : List ℕ) → length (letter side) ≡ 1 → count_of side job ≤ 2048 →
        length (told (letter side) positions (by_line (read_in side) 0 (ends job))) ≤ 18 * count_of side job
    unfolding printed rows
    reading-rows side positions one few =
        omega (
          arith,
          ap (λ ns. length (told (letter side) positions ns)) (reading-numbers_of job side (elements_laid job passed) (ends job) fill),
          rows_short (letter side) positions 0 (count_of side job) one (omega arith),
        )

    pub result-short : length (result_text job base ruby left) ≤ longest
    unfolding result_text
    result-short =
        let n = length (ends job) in
        omega (
          arith,
          length-append (line_one (bytes "lines") n) (by_line (of_line job base ruby left) 0 (ends job)),
          length-one (bytes "lines") n,
          decimal_le n,
          lines-short 0 (ends job),
          base_rows,
          reading-rows Right ruby refl passed.few_ruby,
          reading-rows Left left refl passed.few_left,
          chain-few job 0 (base_count job) (ends job) fill,
          passed.few_base,
          passed.few_ruby,
          passed.few_left,
        )

pub refusal_short : (r : Refusal) → length (refusal_text r) ≤ 30
unfolding refusal_text
refusal_short r = omega (arith, length_two (bytes "refused") (number_of r) (place_of r), decimal_le (number_of r), decimal_le (place_of r))
