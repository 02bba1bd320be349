-- "Any two results meeting one contract are shown equal": a contract of this crate says what was written from the start on, and that determines both the answer and the
-- lent list.
use Rattle.std.specs.Prelude.{◌≡◌, List, ℕ}
use Rattle.text.specs.Print.{Wrote}
use Rattle.text.specs.Written.{wrote_unique}
use Rattle.refusal.specs.declared.Refusal.{Refusal}
use Rattle.door.specs.Job.{Job}
use Rattle.result.specs.Text.{result_text, refusal_text}

-- `write_result`
pub result-unique : (job : Job) (base ruby left out : List ℕ) (p q : ℕ) (u v : List ℕ) →
    Wrote out 0 (result_text job base ruby left) p u → Wrote out 0 (result_text job base ruby left) q v → (p ≡ q) × (u ≡ v)
result-unique job base ruby left out p q u v = wrote_unique

-- `write_refusal`
pub refusal_unique : (why : Refusal) (out : List ℕ) (p q : ℕ) (u v : List ℕ) → Wrote out 0 (refusal_text why) p u → Wrote out 0 (refusal_text why) q v → (p ≡ q) × (u ≡ v)
refusal_unique why out p q u v = wrote_unique
