-- Rows 7 to 10 of an element are level one's own answer to it: the first of them that holds, with the element's place, and else the word that the line takes.
-- So a job's walk over its elements can hand level one's refusal up unchanged.
use Rattle.std.specs.Prelude.{◌≡◌, refl, Bool, true, false, cond, ◌↔◌, ℕ, List, [], ◌∷◌, ◌++◌}
use Rattle.std.proofs.Common.{ap, arith}
use mathlib.Core.List.{head?}
use Rattle.std.proofs.Math.Option.{Option, none, some}
use Rattle.refusal.specs.declared.Refusal.{Refusal}
use Rattle.refusal.specs.declared.Refusal.TheVariants.{BlankInside, JukugoBase, Mixed, WesternOver}
use Rattle.word.specs.declared.Form.{Form}
use Rattle.word.specs.declared.Word.{Word}
use Rattle.word.specs.declared.Answer.{Answer}
use Rattle.word.specs.declared.Answer.TheVariants.{Set, Refused}
use Rattle.word.specs.Given.{Given}
use Rattle.word.specs.Answer.{blank_inside, jukugo_base}
use Rattle.word.specs.Both.{Gloss}
use Rattle.word.specs.Answered.{mixed_both, western_both, answer_both}
use Rattle.word.specs.Sides as word
use Rattle.door.specs.declared.Piece.{Piece}
use Rattle.door.specs.Job.{Job, given, gloss_of}
use Rattle.door.specs.Refusals.{◌when◌, counts_wrong, left_kind_wrong, run_out, element_faults}
use Rattle.job.specs.Line.{word_of}

-- rows 7 to 10, in order
abbrev pub own_rows : Form → ℕ → Given → Gloss → List Refusal
own_rows form k w g = BlankInside k when blank_inside form w ++ JukugoBase k when jukugo_base form w ++ Mixed k when mixed_both form w g ++ WesternOver k when western_both form w g

abbrev pub told : Option Refusal → Word → Answer
told none v = Set v
told (some r) v = Refused r

pub level_one : (form : Form) (k : ℕ) (w : Given) (g : Gloss) → answer_both form k w g ≡ told (head? (own_rows form k w g)) (word.word_of form w g)
unfolding answer_both
level_one form k w g = go (blank_inside form w) (jukugo_base form w) (mixed_both form w g) (western_both form w g)
  where
    go : (a b c d : Bool) →
        cond a (Refused (BlankInside k)) (cond b (Refused (JukugoBase k)) (cond c (Refused (Mixed k)) (cond d (Refused (WesternOver k)) (Set (word.word_of form w g)))))
        ≡ told (head? (BlankInside k when a ++ JukugoBase k when b ++ Mixed k when c ++ WesternOver k when d)) (word.word_of form w g)
    go true b c d = refl
    go false true c d = refl
    go false false true d = refl
    go false false false true = refl
    go false false false false = refl

-- an element that passes 5, 16 and 6 has no other rows
pub rows_left : (job : Job) (k : ℕ) (x : Piece) → counts_wrong job k x ≡ false → left_kind_wrong x ≡ false → run_out job x ≡ false → element_faults job k x ≡ own_rows x.form k (given job x) (gloss_of job x)
rows_left job k x five sixteen six = rw (five, sixteen, six)

refused-head : (xs : List Refusal) (v : Word) (r : Refusal) → (told (head? xs) v ≡ Refused r) ↔ (head? xs ≡ some r)
refused-head [] v r = (λ e. absurd cc, λ e. absurd cc)
refused-head (x ∷ xs) v r = (λ e. let h : x ≡ r = cc in ap {B = Option Refusal} some h, λ e. let h : x ≡ r = cc in ap Refused h)

set-none : (xs : List Refusal) (v : Word) → (told (head? xs) v ≡ Set v) ↔ (xs ≡ [])
set-none [] v = (λ e. refl, λ e. refl)
set-none (x ∷ xs) v = (λ e. absurd cc, λ e. absurd cc)

module _ (job : Job) (k : ℕ) (x : Piece) (five : counts_wrong job k x ≡ false) (sixteen : left_kind_wrong x ≡ false) (six : run_out job x ≡ false) where
  pub refuses : (r : Refusal) → (answer_both x.form k (given job x) (gloss_of job x) ≡ Refused r) ↔ (head? (element_faults job k x) ≡ some r)
  refuses r = rw (level_one x.form k (given job x) (gloss_of job x), rows_left job k x five sixteen six) (refused-head (own_rows x.form k (given job x) (gloss_of job x)) (word_of job x) r)

  pub sets : (answer_both x.form k (given job x) (gloss_of job x) ≡ Set (word_of job x)) ↔ (element_faults job k x ≡ [])
  sets = rw (level_one x.form k (given job x) (gloss_of job x), rows_left job k x five sixteen six) (set-none (own_rows x.form k (given job x) (gloss_of job x)) (word_of job x))
