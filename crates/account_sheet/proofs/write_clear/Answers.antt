-- The readings are counted in two columns of the elements' table, which lie within it. All else is asked of the lists, and the text is theirs.
use Rattle.account_sheet.proofs.write_clear.Goals as goal

pub write_account-requires : goal.write_account-requires
write_account-requires c = rw c.count_readings-readings.ensures c.requires.lists

pub returns : goal.returns
returns c = rw c.count_readings-readings.ensures at c.write_account.ensures
