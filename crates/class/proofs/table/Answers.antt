-- The table says of each class from 0 to 30 what the documents say, which antt computes. Every reader of the table has it from here.
use Rattle.std.specs.Prelude.{refl}
use Rattle.class.specs.Class.{accepted, western, kana_like, kind_of, blank_before, blank_after, blank_whole, quarters}
use Rattle.class.specs.Entry.{entry_of}
use Rattle.class.proofs.table.Goals as goal

pub returns : goal.returns
unfolding accepted western kana_like kind_of blank_before blank_after blank_whole quarters entry_of
returns c = refl
