-- The row is one of a J that a line may cut. Such a row can be cut up to c.
use Rattle.cells.proofs.advance_cut.Goals as goal

pub part_upto-requires : goal.part_upto-requires
part_upto-requires c = c.requires.1.cuts c.requires.0
