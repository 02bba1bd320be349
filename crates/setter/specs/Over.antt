-- The text of a result says the job's own positions and nothing that the lent lists held before: what a list holds at its front, it holds over any other.
use mathlib.Core.List.{List, [], ◌∷◌, ◌++◌}
use Rattle.std.specs.Prelude.{◌≡◌, ℕ, zero, suc, ◌+◌, ◌≤◌, length, drop}
use Rattle.std.proofs.Math.Path.{refl, ap, ap₂}
use Rattle.std.proofs.Common.{arith}
use Rattle.std.proofs.Math.ListN.{get_or-append}
use Rattle.basics.specs.Lists.{each, All}
use Rattle.line.specs.declared.Side.{Side}
use Rattle.line.specs.declared.Side.TheVariants.{Right, Left}
use Rattle.door.specs.declared.Piece.{Piece}
use Rattle.door.specs.Job.{Job, base_count, ruby_count, left_count}
use Rattle.door.specs.Passed.{Passed}
use Rattle.job.specs.Line.{extent_of, ends, by_line, first_of, many_of, count_of}
use Rattle.job.specs.Outcome.{over}
use Rattle.result.specs.Text.{bytes, line_one, line_two, letter, rows, of_reading, of_piece, printed, of_line, result_text}
use Rattle.result.specs.Printed.{Within, printed-within}

rows-over : (word new was : List ℕ) (i n : ℕ) → i + n ≤ length new → rows word (over new was) i n ≡ rows word new i n
unfolding rows
rows-over word new was i zero h = refl
rows-over word new was i (suc n) h =
    ap₂ {C = List ℕ} (λ p l. line_two word i p ++ l) (get_or-append new (drop (length new) was) 0 i (omega arith)) (rows-over word new was (suc i) n (omega arith))

reading_over : (side : Side) (new was : List ℕ) (p : Piece) → first_of side p + many_of side p ≤ length new → of_reading side (over new was) p ≡ of_reading side new p
unfolding of_reading
reading_over side new was p h = rows-over (letter side) new was (first_of side p) (many_of side p) h

module _ (job : Job) (base ruby left was wasRuby wasLeft : List ℕ) (bases : base_count job ≤ length base) (rubies : ruby_count job ≤ length ruby) (lefts : left_count job ≤ length left) where
  piece-over : (p : Piece) → Within job p → of_piece (over base was) (over ruby wasRuby) (over left wasLeft) p ≡ of_piece base ruby left p
  unfolding of_piece
  piece-over p g =
      let reads : (side : Side) → first_of side p + many_of side p ≤ count_of side job = g.reads in
      ap₂ {C = List ℕ} (λ x y. x ++ y) (rows-over (bytes "b") base was p.base p.bases (omega (arith, g.inside)))
      (ap₂ {C = List ℕ} (λ x y. x ++ y) (reading_over Right ruby wasRuby p (omega (arith, reads Right))) (reading_over Left left wasLeft p (omega (arith, reads Left))))

  pieces-over : (ps : List Piece) → All (Within job) ps → each (of_piece (over base was) (over ruby wasRuby) (over left wasLeft)) ps ≡ each (of_piece base ruby left) ps
  pieces-over [] a = refl
  pieces-over (p ∷ ps) a = ap₂ {C = List ℕ} (λ x y. x ++ y) (piece-over p a.0) (pieces-over ps a.1)

  module _ (passed : Passed job) where
    lines_over : (s : ℕ) (es : List ℕ) → by_line (of_line job (over base was) (over ruby wasRuby) (over left wasLeft)) s es ≡ by_line (of_line job base ruby left) s es
    unfolding of_line
    lines_over s [] = refl
    lines_over s (e ∷ es) =
        ap₂ {C = List ℕ} (λ x y. (line_one (bytes "line") (extent_of job s e) ++ x) ++ y) (pieces-over (printed job s e) (printed-within job passed s e)) (lines_over e es)

    pub result-over : result_text job (over base was) (over ruby wasRuby) (over left wasLeft) ≡ result_text job base ruby left
    unfolding result_text
    result-over = ap (λ l. line_one (bytes "lines") (length (ends job)) ++ l) (lines_over 0 (ends job))
