-- The code's entry for a class, "accepted, kind, blank sides and depth", and what it says of each side and of the depth. `Marks` joins it to the definitions of `Class`.
use Rattle.std.specs.Prelude.{Bool, true, false, ℕ}
use Rattle.class.specs.declared.Sides.{Sides}
use Rattle.class.specs.declared.Sides.TheVariants.{Before, After, Both, Neither, Whole}
use Rattle.class.specs.declared.Entry.{Entry}
use Rattle.class.specs.Class.{accepted, kind_of, blank_before, blank_after, blank_whole, quarters}

-- the sides in one word: may there be a blank before, may there be one after, is the whole width blank
abbrev sides_by : Bool → Bool → Bool → Sides
sides_by true false false = Before
sides_by false true false = After
sides_by true true false = Both
sides_by false false false = Neither
sides_by b a true = Whole

-- the table's entry: "whether it is accepted, its kind, and the sides on which it may carry a blank", and the depth
unfoldable pub entry_of : ℕ → Entry
unfolding accepted kind_of blank_before blank_after blank_whole quarters
entry_of c = record { accepted = accepted c; kind = kind_of c; sides = sides_by (blank_before c) (blank_after c) (blank_whole c); quarters = quarters c }

-- and what an entry says: may there be a blank before
abbrev pub lies_before : Sides → Bool
lies_before Before = true
lies_before After = false
lies_before Both = true
lies_before Neither = false
lies_before Whole = false

-- may there be one after
abbrev pub lies_after : Sides → Bool
lies_after Before = false
lies_after After = true
lies_after Both = true
lies_after Neither = false
lies_after Whole = false

-- is the whole width blank
abbrev pub is_whole : Sides → Bool
is_whole Before = false
is_whole After = false
is_whole Both = false
is_whole Neither = false
is_whole Whole = true
