-- What is written, by what the code finds: the line at fault, the job's own refusal, or that it has none.
-- The steps are in `proofs/Steps.antt`.
use Rattle.std.specs.Prelude.{Bool, true, false, cond, List, ◌≡◌, ℕ, eqb, Result, Ok, Err, Some, None, ⊤}
use Rattle.std.proofs.Math.Option.{Option, none, some}
use Rattle.std.proofs.Math.Path.{refl}
use Rattle.std.proofs.Common.{ap, sym, arith, eqb-true}
use Rattle.refusal.specs.declared.Refusal.{Refusal}
use Rattle.refusal.specs.declared.Refusal.TheVariants.{OtherForm}
use Rattle.result.specs.Text.{refusal_text}
use Rattle.other_form.specs.Other.{other_text}
use Rattle.other_form.specs.Fault.{line_told}
use Rattle.converter.specs.Convert.{own, verdict}

-- what is written by a verdict
abbrev pub written : List ℕ → Result ⊤ Refusal → List ℕ
written s (Ok u) = other_text s
written s (Err r) = refusal_text r

-- what passes has neither
pub passed : (line : ℕ) (g : Option Refusal) → verdict line g ≡ Ok tt → (line ≡ 0) × (g ≡ none)
passed line g e = go (eqb line 0) refl g e
  where
    go : (b : Bool) → eqb line 0 ≡ b → (g : Option Refusal) → cond b (own g) (Err (OtherForm line)) ≡ Ok tt → (line ≡ 0) × (g ≡ none)
    go true z none e = (eqb-true line 0 z, refl)
    go true z (some r) e = absurd (let z : ◌≡◌ {A = ℕ} 0 1 = cc in omega arith)
    go false z g e = absurd (let z : ◌≡◌ {A = ℕ} 0 1 = cc in omega arith)

-- the verdict by what is found
pub refused-line : {l : ℕ} (line : ℕ) (g : Option Refusal) → Some l ≡ line_told line → Err (OtherForm l) ≡ verdict line g
unfolding line_told
refused-line {l} line g e = go (eqb line 0) e
  where
    go : (t : Bool) → Some l ≡ cond t None (Some line) → Err (OtherForm l) ≡ cond t (own g) (Err (OtherForm line))
    go true e = absurd (let z : ◌≡◌ {A = ℕ} 0 1 = cc in omega arith)
    go false e =
        let same : l ≡ line = cc in
        ap (λ k. Err (OtherForm k)) same

pub own-verdict : (line : ℕ) {g found : Option Refusal} → None ≡ line_told line → g ≡ found → own found ≡ verdict line g
unfolding line_told
own-verdict line {g} {found} e f = go (eqb line 0) e
  where
    go : (t : Bool) → None ≡ cond t None (Some line) → own found ≡ cond t (own g) (Err (OtherForm line))
    go true e = ap own (sym f)
    go false e = absurd (let z : ◌≡◌ {A = ℕ} 0 1 = cc in omega arith)
