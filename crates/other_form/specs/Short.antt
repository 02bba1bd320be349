-- How long a form two sheet is whose numbers are within a job's limits: under 65,535 bytes (document 01: "At most 1,024 base characters, 2,048 ruby characters, 1,024 elements"). A line of `base`
-- takes 20 bytes at most, one of `ruby` 8, and one of `elem` 10 and three for each base character.
use Rattle.std.specs.Prelude.{List, [], ◌∷◌, ◌++◌, ◌≡◌, refl, ℕ, ◌+◌, ◌*◌, ◌≤◌, length}
use Rattle.std.proofs.Common.{mul-suc, mul-le-mul_left, arith, length-append}
use Rattle.basics.specs.Lists.{All}
use Rattle.text.specs.Print.{bytes, decimal}
use Rattle.text.specs.Written.{decimal_le, decimal-below}
use Rattle.rows.specs.Print.{spaced, numbers_text, line_text, head_text, rows_text, section_text}
use Rattle.elements.specs.declared.SheetForm.TheVariants.{One, Two}
use Rattle.elements.specs.Print.{Right, M, G, J, P, word, none, right_text, left_text, element_text, elements_text, bases_of}
use Rattle.sheet.specs.Form.{Written, InForm, Shown, sheet_text}
use Rattle.other_form.specs.Text.{numbers_part, rows_part, head_part}
use Rattle.other_form.specs.Back.{long-two}

-- lines within these lengths
pub record Modest (r : Written) : Type 0 where
  pub base : All (λ (row : List ℕ). length (line_text row) ≤ 20) r.base
  pub ruby : All (λ (row : List ℕ). length (line_text row) ≤ 8) r.ruby
  pub elem : length (elements_text Two r.elem) ≤ 13312

length-spaced : (v : ℕ) (vs : List ℕ) → length (spaced (v ∷ vs)) ≡ 1 + (length (decimal v) + length (spaced vs))
unfolding spaced
length-spaced v vs = omega (arith, length-append (decimal v) (spaced vs))

length-line : (v : ℕ) (vs : List ℕ) → length (line_text (v ∷ vs)) ≡ length (decimal v) + (length (spaced vs) + 1)
unfolding numbers_text
length-line v vs = omega (arith, length-append (decimal v) (spaced vs ++ (10 ∷ [])), length-append (spaced vs) (10 ∷ []))

nothing-spaced : length (spaced []) ≡ 0
unfolding spaced
nothing-spaced = refl

two_digits : (n : ℕ) → n ≤ 99 → length (decimal n) ≤ 2
two_digits n h = decimal-below 2 n (omega arith) (omega arith)

four-digits : (n : ℕ) → n ≤ 4096 → length (decimal n) ≤ 4
four-digits n h = decimal-below 4 n (omega arith) (omega arith)

one-digit : (n : ℕ) → n ≤ 1 → length (decimal n) ≤ 1
one-digit n h = decimal-below 1 n (omega arith) (omega arith)

-- "class, width, blank before, blank after, flag"
pub short_base : (class width before after flag : ℕ) → class ≤ 99 → width ≤ 4096 → before + after ≤ width → flag ≤ 1 → length (line_text (class ∷ width ∷ before ∷ after ∷ flag ∷ [])) ≤ 20
short_base c w b a f hc hw hb hf =
    omega (
      arith,
      length-line c (w ∷ b ∷ a ∷ f ∷ []),
      length-spaced w (b ∷ a ∷ f ∷ []),
      length-spaced b (a ∷ f ∷ []),
      length-spaced a (f ∷ []),
      length-spaced f [],
      nothing-spaced,
      two_digits c hc,
      four-digits w hw,
      four-digits b (omega arith),
      four-digits a (omega arith),
      one-digit f hf,
    )

-- "class, width"
pub short_ruby : (class width : ℕ) → class ≤ 99 → width ≤ 4096 → length (line_text (class ∷ width ∷ [])) ≤ 8
short_ruby c w hc hw = omega (arith, length-line c (w ∷ []), length-spaced w [], nothing-spaced, two_digits c hc, four-digits w hw)

-- elements
short-runs : (vs : List ℕ) → All (λ v. v ≤ 99) vs → length (spaced vs) ≤ 3 * length vs
short-runs [] a = omega (arith, nothing-spaced)
short-runs (v ∷ vs) a = omega (arith, length-spaced v vs, two_digits v a.0, short-runs vs a.1)

abbrev pub RightSmall : Right → Type 0
RightSmall (M r) = r ≤ 99
RightSmall (G b r) = (b ≤ 99) × (r ≤ 99)
RightSmall (J runs) = (length runs ≤ 99) × All (λ v. v ≤ 99) runs

length-right : (r : Right) → RightSmall r → length (right_text r) ≤ 7 + 3 * bases_of r
unfolding right_text bases_of
length-right (M r) h = omega (arith, length-spaced r [], nothing-spaced, two_digits r h)
length-right (G b r) h = omega (arith, length-spaced b (r ∷ []), length-spaced r [], nothing-spaced, two_digits b h.0, two_digits r h.1)
length-right (J runs) h = omega (arith, length-spaced (length runs) runs, two_digits (length runs) h.0, short-runs runs h.1)

pub short-word : (r : Right) → RightSmall r → length (element_text Two (word r none)) ≤ 10 + 3 * bases_of r
unfolding element_text left_text
short-word r h = omega (arith, length-append (right_text r) (32 ∷ 78 ∷ 10 ∷ []), length-right r h)

pub short-plain : length (element_text Two P) ≡ 2
unfolding element_text
short-plain = refl

-- the sections
short-rows : (m : ℕ) (rows : List (List ℕ)) → All (λ (row : List ℕ). length (line_text row) ≤ m) rows → length (rows_text rows) ≤ m * length rows
unfolding rows_text
short-rows m [] a = omega arith
short-rows m (r ∷ rs) a = rw (mul-suc m (length rs)) (omega (arith, length-append (line_text r) (rows_text rs), a.0, short-rows m rs a.1))

short-head : (w : List ℕ) (n : ℕ) → length (head_text w n) ≤ length w + 11
unfolding head_text
short-head w n = omega (arith, length-append w (decimal n ++ bytes "\n"), length-append (decimal n) (bytes "\n"), decimal_le n)

short-section : (w : List ℕ) (m top : ℕ) (rows : List (List ℕ)) → All (λ (row : List ℕ). length (line_text row) ≤ m) rows → length rows ≤ top →
    length (section_text w rows) ≤ length w + 11 + m * top
unfolding section_text
short-section w m top rows a h =
    omega (arith, length-append (head_text w (length rows)) (rows_text rows), short-head w (length rows), short-rows m rows a, mul-le-mul_left m h)

short-numbers : (r : Written) → length (numbers_part r) ≤ 22
unfolding numbers_part rows_text
short-numbers r =
    omega (
      arith,
      length-append (line_text (r.em ∷ [])) (line_text (r.measure ∷ []) ++ []),
      length-append (line_text (r.measure ∷ [])) [],
      length-line r.em [],
      length-line r.measure [],
      nothing-spaced,
      decimal_le r.em,
      decimal_le r.measure,
    )

pub two-short : (r : Written) → InForm One r → Modest r → length (sheet_text Two r) ≤ 65535
unfolding rows_part head_part Shown
two-short r f m =
    omega (
      arith,
      long-two r f.shown.0 f.shown.1,
      short-numbers r,
      length-append (section_text (bytes "base ") r.base) (section_text (bytes "ruby ") r.ruby),
      short-section (bytes "base ") 20 1024 r.base m.base f.base.few,
      short-section (bytes "ruby ") 8 2048 r.ruby m.ruby f.ruby.few,
      short-head (bytes "elem ") (length r.elem),
      m.elem,
    )
