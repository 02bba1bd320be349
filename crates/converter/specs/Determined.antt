-- "Any two results meeting one contract are shown equal": what `convert` promises of a sheet, of the tables and of the list lent with it leaves nothing open.
use Rattle.std.specs.Prelude.{List, ◌≡◌, ℕ}
use Rattle.std.proofs.Common.{sym, ◌∙◌}
use Rattle.sheet.specs.Sheet.{Tables}
use Rattle.sheet.specs.Determined.{one-reading}
use Rattle.converter.specs.Convert.{Converted}

module _ {s : List ℕ} {was t u : Tables} {out : List ℕ} {p q : ℕ} {out1 out2 : List ℕ} (x : Converted s was out p t out1) (y : Converted s was out q u out2) where
  -- how many bytes are written, and the bytes
  pub one-sheet : (p ≡ q) × (out1 ≡ out2)
  one-sheet = (x.text.next ∙ sym y.text.next, x.text.holds ∙ sym y.text.holds)

  -- the tables
  pub same_tables : t ≡ u
  same_tables = (one-reading x.read y.read).1
