-- "13: job sheet text breaks its form; line from 1; 0 if over 65,535 bytes": on which line some bytes break the form that their first line tells, in words of text. Place says that the reading
-- gives 13 with that line exactly then.
use Rattle.std.specs.Prelude.{List, [], ◌++◌, ◌≡◌, ℕ, ◌+◌, ◌≤◌, ◌<◌, length}
use Rattle.std.proofs.Common.{arith}
use Rattle.text.specs.Print.{bytes}
use Rattle.text.specs.Stands.{Stands}
use Rattle.rows.specs.Breaks.{RowsBreak}
use Rattle.rows.specs.Chain.{chain_text, lines_in, most_lines, ChainKept, ChainBreaks, kept-lines, chain-place}
use Rattle.elements.specs.declared.SheetForm.{SheetForm}
use Rattle.elements.specs.declared.SheetForm.TheVariants.{One, Two}
use Rattle.elements.specs.Breaks as elem
use Rattle.sheet.specs.Sheet.{set_word, numbers_in}
use Rattle.sheet.specs.Form.{Written, tables_by, sections, sheet_text, InForm, Shown, Begins}

-- The bytes break the form on line l ("line from 1; 0 if over 65,535 bytes"). The sections before that line keep the form, and no line that the form allows stands there; or a sheet is
-- whole and something comes after it. A count over its maximum is no matter of form: `ChainBreaks` asks that no count at all stands under a section's word, or that the count keeps its
-- maximum and one of the lines that it asks for is missing or broken.
pub data Breaks (s : List ℕ) (l : ℕ) : Type 0 where
  -- "0 if over 65,535 bytes"; "over-length comes before both"
  too_long : l ≡ 0 → 65535 < length s → Breaks s l
  -- the first line, and those after it that it asks for: "`set 2` with em and measure, one a line", or "`set 9`"
  no-set : l ≡ 1 → length s ≤ 65535 → ((f : SheetForm) (p : ℕ) → Stands s 0 (set_word f) p → ⊥) → Breaks s l
  in_set : (f : SheetForm) (p : ℕ) → length s ≤ 65535 → Stands s 0 (set_word f) p → RowsBreak 1 (numbers_in f) s p 2 l → Breaks s l
  -- the other sections, each behind those before it
  in_rows : (f : SheetForm) (p : ℕ) → Begins f s p → ChainBreaks s l (sections f) p (2 + numbers_in f) → Breaks s l
  in_elem : (f : SheetForm) (p : ℕ) (ts : List (List (List ℕ))) (q : ℕ) → Begins f s p → ChainKept (sections f) ts → Stands s p (chain_text (sections f) ts) q →
      elem.SectionBreaks f (bytes "elem ") 1024 s q (2 + numbers_in f + lines_in ts) l → Breaks s l
  -- "nothing after": the line past the last
  after : (f : SheetForm) (r : Written) (rest : List ℕ) → length s ≤ 65535 → InForm f r → s ≡ sheet_text f r ++ rest → (rest ≡ [] → ⊥) →
      l ≡ 3 + numbers_in f + lines_in (tables_by f r.base r.ruby r.left) + length r.elem → Breaks s l

-- numbers in form have sections in form
pub tables-kept : (f : SheetForm) (r : Written) → InForm f r → ChainKept (sections f) (tables_by f r.base r.ruby r.left)
unfolding ChainKept sections tables_by Shown
tables-kept One r form = (form.base, (form.ruby, tt))
tables-kept Two r form = (form.base, (form.ruby, (form.shown.2, tt)))

-- the line is at most 6,159: ten lines of `set`, four counts, 1,024, twice 2,048 and 1,024 lines, and the line past the last
few-numbers : (f : SheetForm) → numbers_in f ≤ 9
unfolding numbers_in
few-numbers One = omega arith
few-numbers Two = omega arith

few-lines : (f : SheetForm) → most_lines (sections f) ≤ 5123
unfolding sections
few-lines One = omega arith
few-lines Two = omega arith

pub place-most : {s : List ℕ} {l : ℕ} → Breaks s l → l ≤ 6159
place-most (too_long e h) = omega (arith, e)
place-most (no-set e h none) = omega (arith, e)
place-most (in_set f p h x y) = omega (arith, y.fewer, y.place, few-numbers f)
place-most (in_rows f p b y) = omega (arith, chain-place y, few-lines f, few-numbers f)
place-most (in_elem f p ts q b k x y) = omega (arith, kept-lines (sections f) ts k, few-lines f, few-numbers f, elem.section-place y)
place-most (after f r rest h form e some is) =
    omega (arith, is, kept-lines (sections f) (tables_by f r.base r.ruby r.left) (tables-kept f r form), few-lines f, few-numbers f, form.elem.few)
