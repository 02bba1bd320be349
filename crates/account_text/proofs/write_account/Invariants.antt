-- What is written, and the text of the lines from here on, is the whole. A turn prints one line.
use lib.ListN.{take}
use Rattle.account_text.specs.Text.{lines_text}
use Rattle.account_text.specs.Lists.{Going}
use Rattle.account_text.proofs.write_account.Given as goal

abbrev pub invariant-loop-l : goal.invariant-loop-l
invariant-loop-l l =
    Going l.n l.rows l.told l.extents l.initial.out l.initial.at (lines_text l.rows 0 (take l.n l.told) (take l.n l.extents)) l.out l.at l.q l.l
