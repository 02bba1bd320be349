-- What a table of a job holds: the house ratios, em, and a row for each base character.
use Rattle.std.specs.Prelude.{false, List, ℕ, get_or}
use Rattle.spread.specs.Ratio.{Ratios}
use Rattle.word.specs.Word.{none}
use Rattle.cells.specs.declared.Cell.{Cell}

pub record Rows : Type 0 where
  pub ratios : Ratios
  pub em : ℕ
  pub rows : List Cell

abbrev pub no_cell : Cell
no_cell =
    record {
      bases = 0;
      cut = false;
      ends = false;
      word = record { front = 0; len = 0; inbase = 0; right = none; left = none };
      before = 0;
      after = 0;
      ruby = 0;
      rubies = 0;
      left = 0;
      lefts = 0;
      own = 0;
      wide = 0;
      over = 0;
      western = false;
      ownleft = 0;
      more = false;
    }

-- row i of a list of rows
abbrev pub row_in : List Cell → ℕ → Cell
row_in rows i = get_or rows i no_cell
