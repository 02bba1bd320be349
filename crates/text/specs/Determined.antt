-- "Any two results meeting one contract are shown equal": the contract of `Reader::open`, which is not one equation.
use Rattle.std.specs.Prelude.{List, ◌≡◌, ℕ}
use Rattle.std.proofs.Common.{◌∙◌, ap₂, sym}
use Rattle.std.specs.Borrow.{Bor}
use Rattle.text.specs.declared.Reader.{Reader}

-- "The reader of a sheet holds the sheet's bytes and its own place in them."
abbrev pub Opened : Bor (List ℕ) → ℕ → Reader → Type 0
Opened sheet at r = (r.sheet ≡ sheet) × (r.at ≡ at)

pub one_reader : {sheet : Bor (List ℕ)} {at : ℕ} (p q : Reader) → Opened sheet at p → Opened sheet at q → p ≡ q
one_reader p q x y = ap₂ (λ s n. record { sheet = s; at = n }) (x.0 ∙ sym y.0) (x.1 ∙ sym y.1)
