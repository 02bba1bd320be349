-- What is proved of the account of a line. (The reviewer's question: show that every reading stands clear of its neighbours, and say why each gap
-- is as wide as it is. The first half is `keeps` of line; this is the second.)
-- The theorems are in `proofs/Theorems.antt`.
use Rattle.std.specs.Prelude.{◌≡◌, List, ℕ}
use Rattle.line.specs.declared.Element.{Element}
use Rattle.account.specs.declared.Reason.TheVariants.{Free}
use Rattle.account.specs.Reasons.{reason, gap}
use Rattle.account.specs.Claims.{width}

-- Every element of every line that is set has a reason, and the reason's own numbers make the gap as wide as it is.
pub record Accounted (es : List Element) (xs : List ℕ) (i : ℕ) : Type 0 where
  pub named : reason es xs i ≡ Free → ⊥
  pub wide : gap es xs i ≡ width es xs i (reason es xs i)
