-- The contract of `read_sheet` leaves nothing open: two answers that meet it are equal, and so are the seven tables.
use Rattle.std.specs.Prelude.{List, ◌≡◌, ℕ, Result}
use Rattle.std.proofs.Common.{◌∙◌, sym}
use Rattle.refusal.specs.declared.Refusal.{Refusal}
use Rattle.sheet.specs.declared.Counts.{Counts}
use Rattle.sheet.specs.Sheet.{Tables, tables, Into}

same_tables : {a a' b b' c c' d d' e e' f f' g g' : List ℕ} → a ≡ a' → b ≡ b' → c ≡ c' → d ≡ d' → e ≡ e' → f ≡ f' → g ≡ g' → tables a b c d e f g ≡ tables a' b' c' d' e' f' g'
same_tables p q r s t u v = rw (p, q, r, s, t, u, v)

pub one-reading : {s : List ℕ} {was : Tables} {r r' : Result Counts Refusal} {t t' : Tables} → Into s was r t → Into s was r' t' → (r ≡ r') × (t ≡ t')
one-reading p q = (
  p.answer ∙ sym q.answer,
  same_tables
      (p.set_holds ∙ sym q.set_holds)
      (p.base_holds ∙ sym q.base_holds)
      (p.ruby_holds ∙ sym q.ruby_holds)
      (p.left_holds ∙ sym q.left_holds)
      (p.elem_holds ∙ sym q.elem_holds)
      (p.runs_hold ∙ sym q.runs_hold)
      (p.lruns_hold ∙ sym q.lruns_hold),
)
