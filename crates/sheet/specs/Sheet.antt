-- A job sheet over its bytes, of form one (document 01, "The job sheet") or form two (document 02, R-6): what is read of each section, and how the reading ends. "The sheet is read top to bottom and
-- the first fault met, 13 or a count over its maximum (2), is given". Which bytes are a sheet, without a reader, is said in Form.
use Rattle.std.specs.Prelude.{cond, List, [], ◌∷◌, ◌++◌, map, ◌≡◌, ℕ, ◌+◌, ◌^◌, ◌<◌, ltb, eqb, length, get_or, Err, Ok, Result}
use Rattle.std.proofs.lemmas.List.Edits.{sets}
use Rattle.refusal.specs.declared.Refusal.TheVariants.{Form}
use Rattle.text.specs.Text.{word}
use Rattle.text.specs.Print.{bytes}
use Rattle.refusal.specs.declared.Refusal.{Refusal}
use Rattle.rows.specs.declared.Part.{Part}
use Rattle.rows.specs.Read.{Read}
use Rattle.rows.specs.Section.{on_place, on_part, Rows, rows_of, section, head_of, count_of, line_of}
use Rattle.rows.specs.Table.{laid, column}
use Rattle.elements.specs.declared.SheetForm.{SheetForm}
use Rattle.elements.specs.declared.SheetForm.TheVariants.{One, Two}
use Rattle.elements.specs.declared.Elements.{Elements}
use Rattle.elements.specs.Elements.{Listed, elements}
use Rattle.sheet.specs.declared.Counts.{Counts}

-- the first line, a fixed text: `set 2`, or "Form two begins with `set 9`"; and how many lines follow it
unfoldable pub set_word : SheetForm → List ℕ
set_word One = bytes "set 2\n"
set_word Two = bytes "set 9\n"

unfoldable pub numbers_in : SheetForm → ℕ
numbers_in One = 2
numbers_in Two = 9

-- the words of the other sections
abbrev pub base_word : List ℕ
base_word = bytes "base "

abbrev pub ruby_word : List ℕ
ruby_word = bytes "ruby "

abbrev pub left_word : List ℕ
left_word = bytes "left "

abbrev pub elem_word : List ℕ
elem_word = bytes "elem "

-- "0 if over 65,535 bytes", "over-length comes before both"; then the first line
unfoldable pub opening : List ℕ → Result Part Refusal
unfolding on_place word set_word
opening s =
    cond (ltb 65535 (length s)) (Err (Form 0))
    (on_place (word (set_word One) s 0) (on_place (word (set_word Two) s 0) (Err (Form 1)) (λ p. Read 9 p 2)) (λ p. Read 2 p 2))

-- the form that it tells
unfoldable pub form_by : Result Part Refusal → SheetForm
form_by p = cond (eqb (count_of p) 9) Two One

unfoldable pub form_of : List ℕ → SheetForm
unfolding form_by opening
form_of s = form_by (opening s)

-- "`set 2` with em and measure, one a line"; "`set 9` (form one's two numbers, the six ratio numbers, and one number for the profile ..)"
unfoldable pub set_of : List ℕ → Rows
unfolding rows_of opening
set_of s = rows_of 1 s (opening s)

-- what form one does not show: both ratios are 1:2:1 and the profile is 0
abbrev pub plain : List ℕ
plain = 1 ∷ 2 ∷ 1 ∷ 1 ∷ 2 ∷ 1 ∷ 0 ∷ []

abbrev pub singles : List ℕ → List (List ℕ)
singles vs = map (λ (v : ℕ). v ∷ []) vs

unfoldable pub house : Result Part Refusal → List (List ℕ)
house set = cond (eqb (count_of set) 2) (singles plain) []

-- "`base` (class, width, blank before, blank after, flag)", at most 1,024; "`ruby` (class, width)", at most 2,048
abbrev pub base_from : List ℕ → Result Part Refusal → Rows
base_from s last = section base_word 5 1024 0 s last

abbrev pub ruby_from : List ℕ → Result Part Refusal → Rows
ruby_from s last = section ruby_word 2 2048 1 s last

-- "and has a `left` section after `ruby`", in the form of `ruby`; its count has the place 3. Form one has none, and no left characters.
unfoldable pub left_head : SheetForm → List ℕ → Result Part Refusal → Result Part Refusal
unfolding head_of on_part
left_head One s last = on_part last Err (λ _ at line. Read 0 at line)
left_head Two s last = head_of left_word 2048 3 s last

abbrev pub left_from : SheetForm → List ℕ → Result Part Refusal → Rows
left_from f s last = rows_of 2 s (left_head f s last)

-- "`elem`", at most 1,024
abbrev pub elem_from : SheetForm → List ℕ → Result Part Refusal → Listed
elem_from f s last = elements f s (head_of elem_word 1024 2 s last)

-- each section begins where the one before it ended
unfoldable pub base_of : List ℕ → Rows
unfolding rows_of head_of set_of
base_of s = base_from s (set_of s).end

unfoldable pub ruby_of : List ℕ → Rows
unfolding rows_of head_of base_of
ruby_of s = ruby_from s (base_of s).end

unfoldable pub left_of : List ℕ → Rows
unfolding rows_of left_head form_of ruby_of
left_of s = left_from (form_of s) s (ruby_of s).end

unfoldable pub elem_of : List ℕ → Listed
unfolding elements head_of form_of left_of
elem_of s = elem_from (form_of s) s (left_of s).end

-- "each line ended by LF, nothing after", else the number of the next line
unfoldable pub end_of : List ℕ → Result Part Refusal → Result Part Refusal → Result Part Refusal → Result Elements Refusal → Result Counts Refusal
end_of s base ruby left (Ok elem) =
    cond (eqb elem.at (length s)) (Ok (record { bases = count_of base; rubies = count_of ruby; lefts = count_of left; elements = elem.count; runs = elem.runs; lruns = elem.lruns })) (Err (Form elem.line))
end_of s base ruby left (Err r) = Err r

-- what is read of a sheet
pub record Sheet : Type 0 where
  pub form : SheetForm
  pub set : List (List ℕ)
  pub base : List (List ℕ)
  pub ruby : List (List ℕ)
  pub left : List (List ℕ)
  pub elem : List (List ℕ)
  pub runs : List ℕ
  pub lruns : List ℕ
  pub end : Result Counts Refusal

unfoldable pub reading : List ℕ → Sheet
unfolding form_of set_of house base_of ruby_of left_of elem_of end_of
reading s =
    record {
      form = form_of s;
      set = (set_of s).rows ++ house (set_of s).end;
      base = (base_of s).rows;
      ruby = (ruby_of s).rows;
      left = (left_of s).rows;
      elem = (elem_of s).rows;
      runs = (elem_of s).runs;
      lruns = (elem_of s).lruns;
      end = end_of s (base_of s).end (ruby_of s).end (left_of s).end (elem_of s).end;
    }

-- the nine numbers: em, measure, the ruby ratio and the base ratio, the profile
abbrev pub set_at : Sheet → ℕ → ℕ
set_at t i = get_or (column 0 t.set) i 0

abbrev pub em_of : Sheet → ℕ
em_of t = set_at t 0

abbrev pub measure_of : Sheet → ℕ
measure_of t = set_at t 1

abbrev pub ratios_in : List ℕ → List (List ℕ)
ratios_in set = (get_or set 2 0 ∷ get_or set 3 0 ∷ get_or set 4 0 ∷ []) ∷ (get_or set 5 0 ∷ get_or set 6 0 ∷ get_or set 7 0 ∷ []) ∷ []

abbrev pub ratios_of : Sheet → List (List ℕ)
ratios_of t = ratios_in (column 0 t.set)

abbrev pub profile_of : Sheet → ℕ
profile_of t = set_at t 8

-- the line past a part can be counted
abbrev pub LineFits : Result Part Refusal → Type 0
LineFits p = line_of p + 1 < 2 ^ 32

-- The lent tables.
pub record Tables : Type 0 where
  pub set : List ℕ
  pub base : List ℕ
  pub ruby : List ℕ
  pub left : List ℕ
  pub elem : List ℕ
  pub runs : List ℕ
  pub lruns : List ℕ

abbrev pub tables : List ℕ → List ℕ → List ℕ → List ℕ → List ℕ → List ℕ → List ℕ → Tables
tables set base ruby left elem runs lruns = record { set = set; base = base; ruby = ruby; left = left; elem = elem; runs = runs; lruns = lruns }

-- The answer and the tables as the reading of s leaves them: each section column by column over what its table held, the runs one after the other.
pub record Into (s : List ℕ) (was : Tables) (r : Result Counts Refusal) (t : Tables) : Type 0 where
  pub answer : r ≡ (reading s).end
  pub set_holds : t.set ≡ laid was.set 0 9 (reading s).set
  pub base_holds : t.base ≡ laid was.base 0 1024 (reading s).base
  pub ruby_holds : t.ruby ≡ laid was.ruby 0 2048 (reading s).ruby
  pub left_holds : t.left ≡ laid was.left 0 2048 (reading s).left
  pub elem_holds : t.elem ≡ laid was.elem 0 1024 (reading s).elem
  pub runs_hold : t.runs ≡ sets was.runs 0 (reading s).runs
  pub lruns_hold : t.lruns ≡ sets was.lruns 0 (reading s).lruns
