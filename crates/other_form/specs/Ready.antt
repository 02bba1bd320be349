-- What the functions that write the other sheet ask for.
use Rattle.std.specs.Prelude.{List, ◌≡◌, ℕ, ◌+◌, ◌-◌, ◌≤◌, length, Ok}
use Rattle.std.proofs.Common.{◌∙◌}
use Rattle.text.specs.Written.{same-long, then}
use Rattle.elements.specs.declared.SheetForm.{SheetForm}
use Rattle.sheet.specs.declared.Counts.{Counts}
use Rattle.sheet.specs.Sheet.{reading}
use Rattle.sheet.specs.Form.{written_of}
use Rattle.other_form.specs.declared.Cuts.{Cuts}
use Rattle.other_form.specs.Other.{other_text, Holds}
use Rattle.other_form.specs.Parts.{parts_text, cuts_of, length_part, length-parts}

-- there is room for the lines `text` that are made of those from the place `from` on
pub record LettersReady (text s : List ℕ) (from : ℕ) (out : List ℕ) (to : ℕ) : Type 0 where
  pub within : from ≤ length s
  pub room : to + length text ≤ length out

-- the places that are cut at lie within the sheet, and its lines can be counted
pub record CutsReady (s : List ℕ) (n : Counts) (x y : ℕ) : Type 0 where
  pub few : n.bases + n.rubies ≤ 65535
  pub small : length s ≤ 65535
  pub first : 6 ≤ length s
  pub second : (cuts_of s n x y).a + x ≤ length s
  pub third : (cuts_of s n x y).b + y ≤ length s

-- there is room for the bytes from one place up to another
pub record PartReady (s : List ℕ) (from upto : ℕ) (out : List ℕ) (at : ℕ) : Type 0 where
  pub order : from ≤ upto
  pub within : upto ≤ length s
  pub room : at + (upto - from) ≤ length out

pub record PartsReady (k : Cuts) (s first house left out : List ℕ) : Type 0 where
  pub order1 : 6 ≤ k.a
  pub order2 : k.a2 ≤ k.b
  pub order3 : k.b2 ≤ k.c
  pub within1 : k.a ≤ length s
  pub within2 : k.b ≤ length s
  pub within3 : k.c ≤ length s
  pub room : length (parts_text k s first house left) ≤ length out

-- how long their text is
pub parts-size : {k : Cuts} {s first house left out : List ℕ} → PartsReady k s first house left out →
    length (parts_text k s first house left) ≡ length first + ((k.a - 6) + (length house + ((k.b - k.a2) + (length left + (k.c - k.b2)))))
parts-size {k} {s} {first} {house} {left} q =
    length-parts k s first house left
    ∙ rw (length_part 6 k.a s q.order1 q.within1, length_part k.a2 k.b s q.order2 q.within2, length_part k.b2 k.c s q.order3 q.within3)

-- the reading is sound, form one can hold it, and there is room for the other sheet
pub record OtherReady (s : List ℕ) (n : Counts) (out : List ℕ) : Type 0 where
  pub sound : (reading s).end ≡ Ok n
  pub holds : Holds (written_of (reading s))
  pub room : length (other_text s) ≤ length out

-- the same of a sheet of the form f
pub record SheetReady (f : SheetForm) (s : List ℕ) (n : Counts) (out : List ℕ) : Type 0 where
  pub form : (reading s).form ≡ f
  pub ready : OtherReady s n out

-- the counts of a sheet that was read, and its tables
pub record FaultReady (n : Counts) (set elem : List ℕ) : Type 0 where
  pub nine : length set ≡ 9
  pub long : length elem ≡ 5120
  pub few : n.bases + n.rubies ≤ 65535
  pub elements : n.elements ≤ 1024

pub ruleset part_steps = (parts-size, same-long, length_part, then)
