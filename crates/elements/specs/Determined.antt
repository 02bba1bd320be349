-- What the functions of this crate leave: the answer, the table of elements, and those of runs and left runs. "Any two results meeting one contract are shown equal."
use Rattle.std.specs.Prelude.{List, ◌≡◌, ℕ, Option, Result}
use Rattle.std.proofs.Common.{◌∙◌, sym}
use Rattle.std.proofs.lemmas.List.Edits.{sets}
use Rattle.rows.specs.Table.{laid}
use Rattle.refusal.specs.declared.Refusal.{Refusal}
use Rattle.elements.specs.declared.Element.{Element}
use Rattle.elements.specs.declared.Elements.{Elements}
use Rattle.elements.specs.Element.{Taken}
use Rattle.elements.specs.Elements.{Listed}

-- a line
pub record LineRead (t : Taken) (used lused : ℕ) (wasRuns wasLeft : List ℕ) (r : Option (Element × ℕ)) (runs lruns : List ℕ) : Type 0 where
  pub line : r ≡ t.line
  pub right : runs ≡ sets wasRuns used t.runs
  pub left : lruns ≡ sets wasLeft lused t.lruns

-- the lines of the section
pub record ListRead (t : Listed) (was wasRuns wasLeft : List ℕ) (r : Result Elements Refusal) (table runs lruns : List ℕ) : Type 0 where
  pub end : r ≡ t.end
  pub rows : table ≡ laid was 0 1024 t.rows
  pub right : runs ≡ sets wasRuns 0 t.runs
  pub left : lruns ≡ sets wasLeft 0 t.lruns

pub list-determined : {t : Listed} {was wasRuns wasLeft table table' runs runs' lruns lruns' : List ℕ} {r r' : Result Elements Refusal} →
    ListRead t was wasRuns wasLeft r table runs lruns → ListRead t was wasRuns wasLeft r' table' runs' lruns' → (r ≡ r') × (table ≡ table') × (runs ≡ runs') × (lruns ≡ lruns')
list-determined x y = (x.end ∙ sym y.end, x.rows ∙ sym y.rows, x.right ∙ sym y.right, x.left ∙ sym y.left)
