-- The classes (document 01, "The job" and "Level two", with R-1 and R-8): accepted, kind, blank sides, depth.
use Rattle.std.specs.Prelude.{Bool, cond, not, ◌&&◌, ◌||◌, ℕ, ◌*◌, ◌/◌, min, leb, eqb}
use Rattle.class.specs.declared.Kind.{Kind}
use Rattle.class.specs.declared.Kind.TheVariants.{KanaLike, Western, Space, Outside}
use Rattle.class.specs.declared.Depths.{Depths}

-- a to b
abbrev pub within : ℕ → ℕ → ℕ → Bool
within a b c = leb a c && leb c b

-- "Accepted classes are 1 to 19 and 24 to 27."
unfoldable pub accepted : ℕ → Bool
accepted c = within 1 19 c || within 24 27 c

-- "Western means classes 24, 25 and 27."
unfoldable pub western : ℕ → Bool
western c = eqb c 24 || (eqb c 25 || eqb c 27)

-- "Kana-like means every accepted class but 24 to 27."
unfoldable pub kana_like : ℕ → Bool
unfolding accepted
kana_like c = accepted c && not (within 24 27 c)

-- "*Western* means classes 24, 25 and 27. *Kana-like* means every accepted class but 24 to 27." Class 26 is accepted and neither; what is not accepted is outside.
unfoldable pub kind_of : ℕ → Kind
unfolding western kana_like
kind_of c = cond (western c) Western (cond (kana_like c) KanaLike (cond (eqb c 26) Space Outside))

-- "Class 1 may have a blank before; 2, 6 and 7 a blank after; 5 both; all others neither."
unfoldable pub blank_before : ℕ → Bool
blank_before c = eqb c 1 || eqb c 5

unfoldable pub blank_after : ℕ → Bool
blank_after c = eqb c 2 || (eqb c 6 || (eqb c 7 || eqb c 5))

-- "In class 14 both fields are 0 and the whole width is blank."
unfoldable pub blank_whole : ℕ → Bool
blank_whole c = eqb c 14

-- "at most half an em; for class 5 a quarter em", in quarter ems, for each class that has a blank
unfoldable pub quarters : ℕ → ℕ
unfolding blank_before blank_after blank_whole
quarters c = cond (eqb c 5) 1 (cond (blank_before c || (blank_after c || blank_whole c)) 2 0)

-- the blank on a side, in units: the field as given where the class may carry one there, in class 14 the whole width
abbrev pub blank_on : Bool → ℕ → ℕ → ℕ → ℕ
blank_on side c width blank = cond (blank_whole c) width (cond side blank 0)

-- in half units, of which an em has twice its units: half an em, for class 5 a quarter em
abbrev pub deepest : ℕ → ℕ → ℕ
deepest c em = cond (eqb c 5) (em / 2) em

-- "The depth is at most the blank as given, and at most half an em; for class 5 a quarter em": in half units, before and after a P character
unfoldable pub depth_before : ℕ → ℕ → ℕ → ℕ → ℕ
unfolding blank_before blank_whole
depth_before c width blank em = min (2 * blank_on (blank_before c) c width blank) (deepest c em)

unfoldable pub depth_after : ℕ → ℕ → ℕ → ℕ → ℕ
unfolding blank_after blank_whole
depth_after c width blank em = min (2 * blank_on (blank_after c) c width blank) (deepest c em)

-- "a class 14 character that is the job's first element takes no ruby at all" (document 02, R-1); `first` says that it is base character 0 of the job
abbrev pub opening : Bool → ℕ → Bool
opening first c = first && blank_whole c

-- how deep ruby may lie on a P character, past its start and before its end, in half units: document 01 with R-1
unfoldable pub depths_on : Bool → (c width before after em : ℕ) → Depths
unfolding blank_whole depth_before depth_after
depths_on first c width before after em =
    record { before = cond (opening first c) 0 (depth_before c width before em); after = cond (opening first c) 0 (depth_after c width after em) }

-- "Profile 1 permits ruby on a P element of class 15 or 16 just before or just after" (document 02, R-8)
abbrev pub kana : ℕ → Bool
kana c = eqb c 15 || eqb c 16

-- "to a depth of at most one ruby em (half the em) and at most its width", in half units
abbrev pub on_kana : ℕ → ℕ → ℕ
on_kana width em = min (2 * width) em

-- by the profile: "Profile 0 is document 01 with R-1"; in profile 1 ruby "may also lie on a neighbouring kana"
unfoldable pub depths_by : ℕ → Bool → (c width before after em : ℕ) → Depths
unfolding depths_on
depths_by profile first c width before after em =
    cond (eqb profile 1 && kana c) (record { before = on_kana width em; after = on_kana width em }) (depths_on first c width before after em)

-- whether ruby may lie on a P character of this class at all
abbrev pub may_lie : ℕ → ℕ → Bool
may_lie profile c = (eqb profile 1 && kana c) || (blank_before c || (blank_after c || blank_whole c))
