-- The job of document 01's example sheet in a measure that is too small for it, with the needed extent computed.
use Rattle.std.specs.Prelude.{◌≡◌, refl, List, [], ◌∷◌, ℕ}
use Rattle.spread.specs.Ratio.{usual}
use Rattle.refusal.specs.declared.Refusal.TheVariants.{NoBreak}
use Rattle.door.specs.Job.{Job}
use Rattle.job.specs.declared.Answer.TheVariants.{Refused}
use Rattle.job.specs.Outcome.{outcome}
use Rattle.shortest.specs.Needed.{needed}

-- `M 3`, `P`, `J 2 1 2`, with these flags
abbrev example : ℕ → List ℕ → Job
example measure flag =
    record {
      em = 10;
      measure = measure;
      ratios = usual;
      profile = 0;
      class = 19 ∷ 15 ∷ 19 ∷ 19 ∷ [];
      width = 10 ∷ 10 ∷ 10 ∷ 10 ∷ [];
      before = 0 ∷ 0 ∷ 0 ∷ 0 ∷ [];
      after = 0 ∷ 0 ∷ 0 ∷ 0 ∷ [];
      flag = flag;
      ruby_class = 15 ∷ 15 ∷ 15 ∷ 15 ∷ 15 ∷ 15 ∷ [];
      ruby_width = 5 ∷ 5 ∷ 5 ∷ 5 ∷ 5 ∷ 5 ∷ [];
      left_class = [];
      left_width = [];
      kind = 77 ∷ 80 ∷ 74 ∷ [];
      element_base = 1 ∷ 1 ∷ 2 ∷ [];
      element_ruby = 3 ∷ 0 ∷ 0 ∷ [];
      left_kind = 78 ∷ 78 ∷ 78 ∷ [];
      element_left = 0 ∷ 0 ∷ 0 ∷ [];
      run = 1 ∷ 2 ∷ [];
      left_run = [];
    }

abbrev lent : List ℕ
lent = 0 ∷ 0 ∷ 0 ∷ 0 ∷ 0 ∷ 0 ∷ []

-- The measure of 14 units falls short of the first word's three ruby characters, 30 half units.
pub short-of-word : ((outcome (example 14 (1 ∷ 1 ∷ 1 ∷ 1 ∷ [])) lent lent lent lent).answer ≡ Refused (NoBreak 0)) × (needed (example 14 (1 ∷ 1 ∷ 1 ∷ 1 ∷ [])) 0 ≡ 30)
unfolding outcome needed
short-of-word = (refl, refl)

-- Where no line may end before the J, the shortest ends inside it, between its two base characters: 70 half units.
pub short-of_part : ((outcome (example 34 (0 ∷ 0 ∷ 0 ∷ 0 ∷ [])) lent lent lent lent).answer ≡ Refused (NoBreak 0)) × (needed (example 34 (0 ∷ 0 ∷ 0 ∷ 0 ∷ [])) 0 ≡ 70)
unfolding outcome needed
short-of_part = (refl, refl)

-- In a measure of 35 that line is set; the line after it begins inside the J, and would need 20.
pub rest_of-jukugo : needed (example 35 (0 ∷ 0 ∷ 0 ∷ 0 ∷ [])) 3 ≡ 20
unfolding needed
rest_of-jukugo = refl
