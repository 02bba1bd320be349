-- "Any two results meeting one contract are shown equal": what `set_sheet` promises of a sheet and of the tables and lists lent with it leaves nothing open.
use Rattle.std.specs.Prelude.{List, ◌≡◌, ℕ}
use Rattle.std.proofs.Common.{sym, ◌∙◌}
use Rattle.sheet.specs.Sheet.{Tables}
use Rattle.sheet.specs.Determined.{one-reading}
use Rattle.setter.specs.Answer.{Lists, Answered}

module _ {s : List ℕ} {was t u : Tables} {before now then : Lists} {out : List ℕ} {p q : ℕ} {out1 out2 : List ℕ} (x : Answered s was before out p t now out1) (y : Answered s was before out q u then out2) where
  -- the length of the answer and its bytes
  pub one_answer : (p ≡ q) × (out1 ≡ out2)
  one_answer = (x.text.next ∙ sym y.text.next, x.text.holds ∙ sym y.text.holds)

  -- the result lists
  pub same_lists : now ≡ then
  same_lists = x.holds ∙ sym y.holds

  -- the tables
  pub same_tables : t ≡ u
  same_tables = (one-reading x.read y.read).1
