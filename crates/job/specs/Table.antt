-- The refusal list as document 01 prints it ("Refusal list"): what the table says of each number and place, and the order, as a relation between any two.
-- `proofs/Demands.antt` shows that a job gets the first by this order of those that the table gives it, and none exactly when the table gives it none.
use Rattle.std.specs.Prelude.{◌≡◌, Bool, true, cond, List, [], ◌∷◌, ◌⊎◌, ℕ, suc, ◌+◌, ◌<◌, eqb, get_or}
use Rattle.basics.specs.Lists.{any}
use Rattle.refusal.specs.declared.Refusal.{Refusal}
use Rattle.refusal.specs.declared.Refusal.TheVariants.{Range, Ratio, Profile, Count, Short, Character, Blanks, Element, LeftKind, Supply, BlankInside, JukugoBase, Mixed, WesternOver, NoBreak, Form, OtherForm}
use Rattle.refusal.specs.Refusal.{number_of, place_of}
use Rattle.word.specs.Answer.{blank_inside, jukugo_base}
use Rattle.word.specs.Answered.{mixed_both, western_both}
use Rattle.door.specs.declared.Piece.{Piece}
use Rattle.door.specs.Job.{Job, base_count, ruby_count, left_count, element_count, elements, given, gloss_of}
use Rattle.door.specs.Refusals.{em_wrong, measure_wrong, ratio_wrong, profile_wrong, list_short, base_wrong, reading_wrong, blanks_wrong, counts_wrong, left_kind_wrong, run_out, left_over}
use Rattle.job.specs.Line.{ends}
use Rattle.job.specs.Refusals.{no_break}
use Rattle.job.specs.Promise.{nobody}

abbrev pub Member : {A : Type 0} → A → List A → Type 0
Member x [] = ⊥
Member x (y ∷ ys) = (x ≡ y) ⊎ Member x ys

-- the place is an element's, and the condition holds of that element
abbrev pub Of : Job → (Piece → Bool) → ℕ → Type 0
Of job wrong k = (k < element_count job) × (wrong (get_or (elements job) k nobody) ≡ true)

-- a line begins at the first base character, and where a line ends before the job does
abbrev pub Begins : Job → ℕ → Type 0
Begins job s = (s < base_count job) × Member s (0 ∷ ends job)

-- "given exactly when", with the place; base, ruby, left and lines are the lengths of the result lists
abbrev pub Row : Job → ℕ → ℕ → ℕ → ℕ → Refusal → Type 0
Row job base ruby left lines (Range p) = ((p ≡ 0) × (em_wrong job ≡ true)) ⊎ ((p ≡ 1) × (measure_wrong job ≡ true))  -- "0 em, 1 measure"
Row job base ruby left lines (Ratio p) = ((p ≡ 0) × (ratio_wrong job.ratios.ruby ≡ true)) ⊎ ((p ≡ 1) × (ratio_wrong job.ratios.base ≡ true))  -- "0 for the ruby ratio, 1 for the base"
Row job base ruby left lines Profile = profile_wrong job ≡ true
Row job base ruby left lines (Count p) =
    ((p ≡ 0) × (1024 < base_count job)) ⊎ (((p ≡ 1) × (2048 < ruby_count job)) ⊎ (((p ≡ 2) × (1024 < element_count job)) ⊎ ((p ≡ 3) × (2048 < left_count job))))  -- "0 base, 1 ruby, 2 elements", "3 for the count" of left characters
Row job base ruby left lines Short = list_short job base ruby left lines ≡ true
Row job base ruby left lines (Character p) =
    ((p < base_count job) × (base_wrong job p ≡ true))
    ⊎ (((i : ℕ) × (p ≡ 1024 + i) × (i < ruby_count job) × (reading_wrong job.ruby_class job.ruby_width i ≡ true))  -- "character; ruby ones 1,024 + index"
    ⊎ ((i : ℕ) × (p ≡ 3072 + i) × (i < left_count job) × (reading_wrong job.left_class job.left_width i ≡ true)))  -- left ones "3,072 + index"
Row job base ruby left lines (Blanks p) = (p < base_count job) × (blanks_wrong job p ≡ true)
Row job base ruby left lines (Element p) = Of job (counts_wrong job p) p
Row job base ruby left lines (LeftKind p) = Of job left_kind_wrong p
Row job base ruby left lines (Supply p) = Of job (run_out job) p ⊎ ((p ≡ element_count job) × (left_over job (elements job) ≡ true))  -- "element; left over: the element count"
Row job base ruby left lines (BlankInside p) = Of job (λ x. blank_inside x.form (given job x)) p
Row job base ruby left lines (JukugoBase p) = Of job (λ x. jukugo_base x.form (given job x)) p
Row job base ruby left lines (Mixed p) = Of job (λ x. mixed_both x.form (given job x) (gloss_of job x)) p
Row job base ruby left lines (WesternOver p) = Of job (λ x. western_both x.form (given job x) (gloss_of job x)) p
Row job base ruby left lines (NoBreak p) = Begins job p × (no_break job p ≡ true)  -- "first base character of the line"
Row job base ruby left lines (Form p) = ⊥  -- 13 is the sheet's own
Row job base ruby left lines (OtherForm p) = ⊥  -- 17 is "given by the converter only"

-- "Order: 1, 2 and 12, each by lowest place", 15 "checked after 1", 20 "checked after 15", 16 "after 5"; "then base characters and then ruby characters in turn, 3 before 4; then elements in turn, in the table's order
-- from 5; then leftover characters; then lines in turn": the numbers stage by stage, each stage's in the table's order. 13 is the sheet's own, 17 the converter's.
abbrev pub order : List (List ℕ)
order =
    (1 ∷ [])
    ∷ (15 ∷ [])
    ∷ (20 ∷ [])
    ∷ (2 ∷ [])
    ∷ (12 ∷ [])
    ∷ (3 ∷ 4 ∷ [])
    ∷ (5 ∷ 16 ∷ 6 ∷ 7 ∷ 8 ∷ 9 ∷ 10 ∷ [])
    ∷ (11 ∷ [])
    ∷ (13 ∷ [])
    ∷ []

-- how many stand before the first that passes a test
abbrev pub ahead : {A : Type 0} → (A → Bool) → List A → ℕ
ahead p [] = 0
ahead p (x ∷ xs) = cond (p x) 0 (suc (ahead p xs))

-- a refusal's key: the stage that its number stands in, and its line there
abbrev pub stage : Refusal → ℕ
stage r = ahead (any (eqb (number_of r))) order

abbrev pub line : Refusal → ℕ
line r = ahead (eqb (number_of r)) (get_or order (stage r) [])

-- One comes before another: by its stage; of one stage "by lowest place", which is "in turn", as ruby characters have places past all base characters', left ones past all ruby's, and
-- what is left over has the place past all elements'; and at one place in the table's order.
abbrev pub Before : Refusal → Refusal → Type 0
Before r q = (stage r < stage q) ⊎ ((stage r ≡ stage q) × ((place_of r < place_of q) ⊎ ((place_of r ≡ place_of q) × (line r < line q))))

-- r is the one that the list gives: its row holds, and every other whose row holds comes after it
pub record First (job : Job) (base ruby left lines : ℕ) (r : Refusal) : Type 0 where
  pub holds : Row job base ruby left lines r
  pub least : (q : Refusal) → Row job base ruby left lines q → (q ≡ r) ⊎ Before r q
