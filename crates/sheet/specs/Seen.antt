-- The seven tables of a sheet as a contract sees them: `tables_now` of what references lead to, `tables_was` of what they led to at entry, in an `ensures`.
use Rattle.basics.specs.Seen.{was, Ref, Seen}
use Rattle.sheet.specs.Sheet.{Tables, tables}

abbrev pub tables_now : Ref → Ref → Ref → Ref → Ref → Ref → Ref → Tables
tables_now set base ruby left elem runs lruns = tables set.now base.now ruby.now left.now elem.now runs.now lruns.now

abbrev pub tables_was : Seen → Seen → Seen → Seen → Seen → Seen → Seen → Tables
tables_was set base ruby left elem runs lruns = tables (was set) (was base) (was ruby) (was left) (was elem) (was runs) (was lruns)
