-- A word in its line: what its writing asks for, and what it leaves.
use Rattle.std.specs.Prelude.{◌≡◌, List, ℕ, ◌+◌}
use Rattle.std.proofs.lemmas.List.Edits.{sets}
use Rattle.word.specs.declared.Word.{Word}
use Rattle.word.specs.Word.{base_starts}
use Rattle.line.specs.declared.Side.TheVariants.{Right, Left}
use Rattle.cells.specs.Rows.{Rows}
use Rattle.positions.specs.Positions.{lent, first, reading_by}
use Rattle.positions.specs.Ready.{StringReady}
use Rattle.positions.specs.Piece.{ReadingReady}

-- the word w of the piece from i up to c, its origin at `at`: its base, and on each side its reading where it has one
pub record WordReady (t : Rows) (i c : ℕ) (w : Word) (at : ℕ) (ws rws lws bs rs ls : List ℕ) : Type 0 where
  pub base : StringReady (at + w.front) w.inbase i c ws bs
  pub ruby : ReadingReady Right t i c w.right at rws rs
  pub left : ReadingReady Left t i c w.left at lws ls

pub record WordPut (t : Rows) (i c : ℕ) (w : Word) (at : ℕ) (ws rws lws bs rs ls bs2 rs2 ls2 : List ℕ) : Type 0 where
  pub base : bs2 ≡ sets bs i (base_starts w at (lent ws i c))
  pub ruby : rs2 ≡ sets rs (first Right t i) (reading_by Right t rws w.right i c at)
  pub left : ls2 ≡ sets ls (first Left t i) (reading_by Left t lws w.left i c at)
