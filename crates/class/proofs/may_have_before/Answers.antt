-- The set has the classes with a blank before, read off the table. What is asked of a class can be read back from it.
use Rattle.class.specs.declared.Mark.TheVariants.{Before}
use Rattle.class.specs.Marks.{read_back}
use Rattle.class.proofs.may_have_before.Goals as goal

pub marked_in-requires : goal.marked_in-requires
marked_in-requires c = c.table.ensures

pub returns : goal.returns
returns c = cc (read_back Before c.args.class)
