-- What the reading of a sheet says of its bytes, without following the reader, for both forms: it is sound exactly of bytes that keep a form, 2 is given exactly where a count over its maximum is
-- the first fault, and 13 exactly of all other bytes. Printing and reading undo each other.
-- The theorems are in `proofs/Exact.antt`; here are their words, a law or two on which others rest, and the worked examples as they are printed.
use Rattle.std.specs.Prelude.{List, [], ◌∷◌, ◌≡◌, refl, ℕ, replicate, Ok}
use Rattle.std.proofs.Common.{◌∙◌, ap, ap₂}
use Rattle.rows.specs.Table.{column}
use Rattle.elements.specs.declared.SheetForm.{SheetForm}
use Rattle.elements.specs.declared.SheetForm.TheVariants.{One, Two}
use Rattle.elements.specs.Print.{P, word, M, J, none, mono, jukugo}
use Rattle.elements.specs.Printed.{entries-back}
use Rattle.sheet.specs.declared.Counts.{Counts}
use Rattle.sheet.specs.Sheet.{Sheet, plain, singles, reading}
use Rattle.sheet.specs.Form.{Written, InForm, sheet_text, sheet_of, written_of}
use Rattle.sheet.specs.Cases.{example, example_two}

pub column-singles : (vs : List ℕ) → column 0 (singles vs) ≡ vs
column-singles [] = refl
column-singles (v ∷ vs) = ap {B = List ℕ} (λ l. v ∷ l) (column-singles vs)

-- what is read of numbers in form says them
pub written_back : (f : SheetForm) (r : Written) → InForm f r → written_of (sheet_of f r) ≡ r
unfolding written_of sheet_of
written_back f r form =
    ap₂ (λ h l. record { em = r.em; measure = r.measure; house = h; base = r.base; ruby = r.ruby; left = r.left; elem = l }) (column-singles r.house) (entries-back f r.elem form.elem.fit)

-- the reading is sound, tells the form f, and says the numbers r
pub record SoundAs (s : List ℕ) (f : SheetForm) (r : Written) : Type 0 where
  pub counts : Counts
  pub sound : (reading s).end ≡ Ok counts
  pub form : (reading s).form ≡ f
  pub numbers : written_of (reading s) ≡ r

pub sheet-sound : (s : List ℕ) (f : SheetForm) (r : Written) → InForm f r → reading s ≡ sheet_of f r → SoundAs s f r
unfolding sheet_of
sheet-sound s f r form e = record { counts = _; sound = ap (λ (t : Sheet). t.end) e; form = ap (λ (t : Sheet). t.form) e; numbers = ap written_of e ∙ written_back f r form }

-- the worked example of document 01, and one of form two
abbrev bases : List (List ℕ)
bases = (19 ∷ 10 ∷ 0 ∷ 0 ∷ 1 ∷ []) ∷ (15 ∷ 10 ∷ 0 ∷ 0 ∷ 1 ∷ []) ∷ (19 ∷ 10 ∷ 0 ∷ 0 ∷ 1 ∷ []) ∷ (19 ∷ 10 ∷ 0 ∷ 0 ∷ 1 ∷ []) ∷ []

pub example-printed : sheet_text One
    (record {
      em = 10;
      measure = 35;
      house = plain;
      base = bases;
      ruby = replicate 6 (15 ∷ 5 ∷ []);
      left = [];
      elem = word (M 3) none ∷ P ∷ word (J (1 ∷ 2 ∷ [])) none ∷ [];
    }) ≡ example
unfolding sheet_text
example-printed = refl

pub two-printed : sheet_text Two
    (record {
      em = 10;
      measure = 35;
      house = 1 ∷ 2 ∷ 1 ∷ 1 ∷ 3 ∷ 1 ∷ 1 ∷ [];
      base = bases;
      ruby = replicate 6 (15 ∷ 5 ∷ []);
      left = replicate 4 (27 ∷ 5 ∷ []);
      elem = word (M 3) (mono (2 ∷ [])) ∷ P ∷ word (J (1 ∷ 2 ∷ [])) (jukugo (1 ∷ 1 ∷ [])) ∷ [];
    }) ≡ example_two
unfolding sheet_text
two-printed = refl
