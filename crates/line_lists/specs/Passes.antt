-- What the passes of `set_line` promise each other: over the table, the setting's last state, and its origins written.
use Rattle.std.specs.Prelude.{◌↔◌, IsTrue, true, false, refl, cond, List, ℕ, ◌+◌, ◌*◌, ◌≤◌, length, leb, Result, Ok, Err}
use Rattle.std.proofs.lemmas.Bool.{false≢true}
use Rattle.line.specs.declared.State.{State}
use Rattle.line_lists.specs.declared.Why.{Why}
use Rattle.line_lists.specs.declared.Why.TheVariants.{Long}
use Rattle.line.specs.Setting.{furthest}
use Rattle.line_lists.specs.Promise.{row, rows, AllWithin}

-- a test that is true exactly where P holds: of P, and of its contrary
pub told : {P : Type 0} → P → IsTrue true ↔ P
told p = (λ e. p, λ q. refl)

pub denied : {P : Type 0} → (P → ⊥) → IsTrue false ↔ P
denied n = (λ e. absurd (false≢true e), λ q. absurd (n q))

-- row i is there, whole
abbrev pub Has : ℕ → List ℕ → Type 0
Has i t = row * (i + 1) ≤ length t

-- the answer, by the last state
abbrev pub tried : (measure : ℕ) → State → Result ℕ Why
tried measure st = cond (leb (furthest st) (2 * measure)) (Ok (furthest st)) (Err Long)

-- what the writing pass may count on
pub record Ready (t out : List ℕ) : Type 0 where
  pub within : AllWithin t
  pub room : rows t ≤ length out
