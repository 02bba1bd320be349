-- What a job sheet is, as text, in either form (document 01, "The job sheet"; document 02, R-6): `KeepsForm` says that some bytes are a sheet. They are `sheet_text` of some numbers in one of the
-- forms, and the numbers keep the limits of that form, `InForm`. `Over` says that a count over its maximum is the first fault in them. What the reading of bytes says in these words is in Exact,
-- and on which line bytes break the form in Place.
use Rattle.std.specs.Prelude.{List, [], ◌∷◌, ◌++◌, ◌≡◌, ℕ, ◌≤◌, ◌<◌, length, drop, Ok}
use Rattle.text.specs.Text.{most}
use Rattle.text.specs.Print.{bytes}
use Rattle.text.specs.Stands.{Stands}
use Rattle.rows.specs.Table.{column}
use Rattle.rows.specs.Print.{section_text, Small, Kept, Counted}
use Rattle.rows.specs.Chain.{Section, chain_text, ChainKept, ChainOver}
use Rattle.elements.specs.declared.SheetForm.{SheetForm}
use Rattle.elements.specs.declared.SheetForm.TheVariants.{One, Two}
use Rattle.elements.specs.Print.{Entry, elem_text, KeptElements, rows_of, all_runs, all_left, entries_of}
use Rattle.sheet.specs.Sheet.{numbers_in, plain, singles, Sheet, set_at}

-- What a sheet says: em and measure, the seven numbers that only form two shows ("the six ratio numbers, and one number for the profile"), a line of five numbers for each base character ("class,
-- width, blank before, blank after, flag"), of two for each ruby character and each left character ("class, width"), and the elements.
pub record Written : Type 0 where
  pub em : ℕ
  pub measure : ℕ
  pub house : List ℕ
  pub base : List (List ℕ)
  pub ruby : List (List ℕ)
  pub left : List (List ℕ)
  pub elem : List Entry

-- "`set 2` with em and measure, one a line"; "`set 9` (form one's two numbers, the six ratio numbers, and one number for the profile ..)"
unfoldable pub set_text : List ℕ → List ℕ
unfolding section_text
set_text numbers = section_text (bytes "set ") (singles numbers)

unfoldable pub numbers_of : SheetForm → Written → List ℕ
numbers_of One r = r.em ∷ r.measure ∷ []
numbers_of Two r = r.em ∷ r.measure ∷ r.house

-- the sections between `set` and `elem`: word, numbers in a line, maximum, place in a refusal 2. Form two "has a `left` section after `ruby`".
unfoldable pub sections : SheetForm → List Section
sections One = record { word = bytes "base "; wide = 5; top = 1024; which = 0 } ∷ record { word = bytes "ruby "; wide = 2; top = 2048; which = 1 } ∷ []
sections Two =
    record { word = bytes "base "; wide = 5; top = 1024; which = 0 } ∷ record { word = bytes "ruby "; wide = 2; top = 2048; which = 1 }
    ∷ record { word = bytes "left "; wide = 2; top = 2048; which = 3 } ∷ []

unfoldable pub tables_by : SheetForm → List (List ℕ) → List (List ℕ) → List (List ℕ) → List (List (List ℕ))
tables_by One base ruby left = base ∷ ruby ∷ []
tables_by Two base ruby left = base ∷ ruby ∷ left ∷ []

-- "Sections in a fixed order, each after its count", and "nothing after"
unfoldable pub sheet_text : SheetForm → Written → List ℕ
unfolding set_text numbers_of chain_text sections tables_by elem_text
sheet_text f r = set_text (numbers_of f r) ++ (chain_text (sections f) (tables_by f r.base r.ruby r.left) ++ elem_text f (bytes "elem ") r.elem)

-- what only form two shows: form one means both ratios 1:2:1, profile 0 and no left characters
unfoldable pub Shown : SheetForm → Written → Type 0
Shown One r = (r.house ≡ plain) × (r.left ≡ [])
Shown Two r = (length r.house ≡ 7) × Small r.house × Kept 2 2048 r.left

-- The form's limits: numbers "at most 4,294,967,295"; "At most 1,024 base characters, 2,048 ruby characters, 1,024 elements", left characters "as for right ones"; five numbers a line, two, and a J
-- of 1 to 32 runs; no "over 65,535 bytes".
pub record InForm (f : SheetForm) (r : Written) : Type 0 where
  pub em : r.em ≤ most
  pub measure : r.measure ≤ most
  pub base : Kept 5 1024 r.base
  pub ruby : Kept 2 2048 r.ruby
  pub shown : Shown f r
  pub elem : KeptElements f 1024 r.elem
  pub short : length (sheet_text f r) ≤ 65535

-- The bytes are a job sheet: the text of some numbers within the limits of a form.
pub record KeepsForm (s : List ℕ) : Type 0 where
  pub form : SheetForm
  pub numbers : Written
  pub keeps : InForm form numbers
  pub text : s ≡ sheet_text form numbers

-- a sheet, not over-long, begins with the section `set` of a form, up to the place p
pub record Begins (f : SheetForm) (s : List ℕ) (p : ℕ) : Type 0 where
  pub short : length s ≤ 65535
  pub numbers : List ℕ
  pub count : length numbers ≡ numbers_in f
  pub small : Small numbers
  pub text : Stands s 0 (set_text numbers) p

-- "the first fault met, .. a count over its maximum (2)", with the place "0 base, 1 ruby, 2 elements", 3 left: the sections before it keep the form, its own line does too ("within a line form comes
-- before count"), and nothing is asked of what follows
pub data Over (s : List ℕ) : ℕ → Type 0 where
  in_rows : (f : SheetForm) (p which : ℕ) → Begins f s p → ChainOver s (sections f) p which → Over s which
  in_elem : (f : SheetForm) (p : ℕ) (ts : List (List (List ℕ))) (q n next : ℕ) → Begins f s p → ChainKept (sections f) ts → Stands s p (chain_text (sections f) ts) q →
      Counted (bytes "elem ") s q n next → 1024 < n → Over s 2

-- what is read of such a sheet: its numbers, all nine of `set` in both forms, and that the reading is sound
unfoldable pub sheet_of : SheetForm → Written → Sheet
unfolding all_runs all_left rows_of
sheet_of f r =
    record {
      form = f;
      set = singles (r.em ∷ r.measure ∷ r.house);
      base = r.base;
      ruby = r.ruby;
      left = r.left;
      elem = rows_of r.elem;
      runs = all_runs r.elem;
      lruns = all_left r.elem;
      end =
          Ok
          (record {
            bases = length r.base;
            rubies = length r.ruby;
            lefts = length r.left;
            elements = length r.elem;
            runs = length (all_runs r.elem);
            lruns = length (all_left r.elem);
          });
    }

-- the numbers again from what was read
unfoldable pub written_of : Sheet → Written
unfolding entries_of
written_of t =
    record { em = set_at t 0; measure = set_at t 1; house = drop 2 (column 0 t.set); base = t.base; ruby = t.ruby; left = t.left; elem = entries_of t.elem t.runs t.lruns }
