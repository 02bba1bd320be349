-- What the public functions of this crate leave: their answer, and the table that they were lent. "Any two results meeting one contract are shown equal."
use Rattle.std.specs.Prelude.{List, ◌≡◌, ℕ, Option, Result}
use Rattle.std.proofs.Common.{◌∙◌, sym}
use Rattle.refusal.specs.declared.Refusal.{Refusal}
use Rattle.rows.specs.declared.Part.{Part}
use Rattle.rows.specs.Section.{fields, rows_of, section}
use Rattle.rows.specs.Table.{strided, laid}

-- k numbers, ended by the byte `last`: the place past them, and the table with those that were read
abbrev pub FieldsRead : ℕ → ℕ → List ℕ → ℕ → ℕ → ℕ → List ℕ → Option ℕ → List ℕ → Type 0
FieldsRead last k s from to step was r now = (r ≡ (fields last k s from).end) × (now ≡ strided was to step (fields last k s from).values)

-- the lines under a section's first line, in the columns of the table
abbrev pub RowsRead : ℕ → ℕ → List ℕ → Result Part Refusal → List ℕ → Result Part Refusal → List ℕ → Type 0
RowsRead k most s head was r now = (r ≡ (rows_of k s head).end) × (now ≡ laid was 0 most (rows_of k s head).rows)

-- a section whole
abbrev pub SectionRead : List ℕ → ℕ → ℕ → ℕ → List ℕ → Result Part Refusal → List ℕ → Result Part Refusal → List ℕ → Type 0
SectionRead w k most which s last was r now = (r ≡ (section w k most which s last).end) × (now ≡ laid was 0 most (section w k most which s last).rows)

pub fields-determined : (last k : ℕ) (s : List ℕ) (from to step : ℕ) (was : List ℕ) {now now' : List ℕ} {r r' : Option ℕ} → FieldsRead last k s from to step was r now →
    FieldsRead last k s from to step was r' now' → (r ≡ r') × (now ≡ now')
fields-determined last k s from to step was x y = (x.0 ∙ sym y.0, x.1 ∙ sym y.1)

pub rows-determined : (k most : ℕ) (s : List ℕ) (head : Result Part Refusal) (was : List ℕ) {now now' : List ℕ} {r r' : Result Part Refusal} → RowsRead k most s head was r now → RowsRead k most s head was r' now' →
    (r ≡ r') × (now ≡ now')
rows-determined k most s head was x y = (x.0 ∙ sym y.0, x.1 ∙ sym y.1)

pub section-determined : (w : List ℕ) (k most which : ℕ) (s : List ℕ) (last : Result Part Refusal) (was : List ℕ) {now now' : List ℕ} {r r' : Result Part Refusal} →
    SectionRead w k most which s last was r now → SectionRead w k most which s last was r' now' → (r ≡ r') × (now ≡ now')
section-determined w k most which s last was x y = (x.0 ∙ sym y.0, x.1 ∙ sym y.1)
