-- The text of a sheet in its parts, form one beside form two where form one can hold it (document 02, R-6): the same lines in the same order, but for the first line, the seven numbers, the `left`
-- line and the letters. So the bytes of one sheet, part by part, are the other sheet (`one-parts`, `two-parts` of `Known`).
use Rattle.std.specs.Prelude.{List, [], ◌∷◌, ◌++◌, ◌≡◌, refl, ℕ, length}
use Rattle.std.proofs.Common.{append_assoc, append-nil, ◌∙◌, ap, sym}
use Rattle.text.specs.Print.{bytes}
use Rattle.rows.specs.Print.{line_text, head_text, rows_text, section_text}
use Rattle.rows.specs.Chain.{chain_text}
use Rattle.elements.specs.declared.SheetForm.{SheetForm}
use Rattle.elements.specs.declared.SheetForm.TheVariants.{One, Two}
use Rattle.elements.specs.Print.{elements_text, elem_text}
use Rattle.sheet.specs.Sheet.{plain, singles}
use Rattle.sheet.specs.Form.{Written, set_text, numbers_of, sections, tables_by, sheet_text}

-- what both forms have alike: em and measure, the sections `base` and `ruby`, and the first line of `elem`
unfoldable pub numbers_part : Written → List ℕ
unfolding rows_text
numbers_part r = rows_text (singles (r.em ∷ r.measure ∷ []))

unfoldable pub rows_part : Written → List ℕ
unfolding section_text
rows_part r = section_text (bytes "base ") r.base ++ section_text (bytes "ruby ") r.ruby

unfoldable pub head_part : Written → List ℕ
unfolding head_text
head_part r = head_text (bytes "elem ") (length r.elem)

-- what only form two has, where form one can hold it
abbrev pub plain_text : List ℕ
plain_text = bytes "1\n2\n1\n1\n2\n1\n0\n"

abbrev pub none_text : List ℕ
none_text = bytes "left 0\n"

-- sections joined otherwise
module _ (a n k c l h e : List ℕ) where
  join-two : (a ++ (n ++ k)) ++ ((c ++ l) ++ (h ++ e)) ≡ a ++ (n ++ (k ++ (c ++ (l ++ (h ++ e)))))
  join-two = simp append_assoc

  lines_two : a ++ (n ++ k) ≡ (a ++ (n ++ [])) ++ k
  lines_two = simp append_assoc

set-one : (r : Written) → set_text (numbers_of One r) ≡ bytes "set 2\n" ++ numbers_part r
unfolding set_text numbers_of numbers_part
set-one r = refl

set_two : (r : Written) → r.house ≡ plain → set_text (numbers_of Two r) ≡ bytes "set 9\n" ++ (numbers_part r ++ plain_text)
unfolding set_text numbers_of numbers_part
set_two r h = rw h (ap (λ l. bytes "set 9\n" ++ l) (lines_two (line_text (r.em ∷ [])) (line_text (r.measure ∷ [])) plain_text [] [] [] []))

chain-one : (r : Written) → chain_text (sections One) (tables_by One r.base r.ruby r.left) ≡ rows_part r
unfolding chain_text sections tables_by rows_part
chain-one r = ap (λ l. section_text (bytes "base ") r.base ++ l) (append-nil (section_text (bytes "ruby ") r.ruby))

chain-two : (r : Written) → r.left ≡ [] → chain_text (sections Two) (tables_by Two r.base r.ruby r.left) ≡ rows_part r ++ none_text
unfolding chain_text sections tables_by rows_part
chain-two r l = rw l (sym (append_assoc (section_text (bytes "base ") r.base) (section_text (bytes "ruby ") r.ruby) none_text))

elem-by : (f : SheetForm) (r : Written) → elem_text f (bytes "elem ") r.elem ≡ head_part r ++ elements_text f r.elem
unfolding elem_text head_part
elem-by f r = refl

sheet-by : (f : SheetForm) (r : Written) → sheet_text f r ≡ set_text (numbers_of f r) ++ (chain_text (sections f) (tables_by f r.base r.ruby r.left) ++ elem_text f (bytes "elem ") r.elem)
unfolding sheet_text
sheet-by f r = refl

pub text-one : (r : Written) → sheet_text One r ≡ bytes "set 2\n" ++ (numbers_part r ++ (rows_part r ++ (head_part r ++ elements_text One r.elem)))
text-one r = sheet-by One r ∙ rw (set-one r, chain-one r, elem-by One r) (append_assoc (bytes "set 2\n") (numbers_part r) (rows_part r ++ (head_part r ++ elements_text One r.elem)))

pub text-two : (r : Written) → r.house ≡ plain → r.left ≡ [] →
    sheet_text Two r ≡ bytes "set 9\n" ++ (numbers_part r ++ (plain_text ++ (rows_part r ++ (none_text ++ (head_part r ++ elements_text Two r.elem)))))
text-two r h l =
    sheet-by Two r ∙ rw (set_two r h, chain-two r l, elem-by Two r)
    (join-two (bytes "set 9\n") (numbers_part r) plain_text (rows_part r) none_text (head_part r) (elements_text Two r.elem))
