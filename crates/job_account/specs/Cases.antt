-- The job of document 01's example sheet, and one with readings on both sides, with their accounts computed: six numbers for each piece, and for each line the count of pieces up
-- to its end and the extent.
use Rattle.std.specs.Prelude.{◌≡◌, refl, List, [], ◌∷◌, ℕ}
use Rattle.spread.specs.Ratio.{usual}
use Rattle.line.specs.Setting.{origin, settle_from}
use Rattle.door.specs.Job.{Job}
use Rattle.job.specs.Line.{line_of, origins, ends}
use Rattle.account.specs.Reasons.{beside, neighbour, rubies, reason}
use Rattle.job_account.specs.Lines.{accounts, counts, extents}

-- `M 3`, `P`, `J 2 1 2` in a measure of 35
abbrev example : Job
example =
    record {
      em = 10;
      measure = 35;
      ratios = usual;
      profile = 0;
      class = 19 ∷ 15 ∷ 19 ∷ 19 ∷ [];
      width = 10 ∷ 10 ∷ 10 ∷ 10 ∷ [];
      before = 0 ∷ 0 ∷ 0 ∷ 0 ∷ [];
      after = 0 ∷ 0 ∷ 0 ∷ 0 ∷ [];
      flag = 1 ∷ 1 ∷ 1 ∷ 1 ∷ [];
      ruby_class = 15 ∷ 15 ∷ 15 ∷ 15 ∷ 15 ∷ 15 ∷ [];
      ruby_width = 5 ∷ 5 ∷ 5 ∷ 5 ∷ 5 ∷ 5 ∷ [];
      left_class = [];
      left_width = [];
      kind = 77 ∷ 80 ∷ 74 ∷ [];
      element_base = 1 ∷ 1 ∷ 2 ∷ [];
      element_ruby = 3 ∷ 0 ∷ 0 ∷ [];
      left_kind = 78 ∷ 78 ∷ 78 ∷ [];
      element_left = 0 ∷ 0 ∷ 0 ∷ [];
      run = 1 ∷ 2 ∷ [];
      left_run = [];
    }

abbrev told : List ℕ
told =
    -- the first word's ruby stands at the line's start
    0 ∷ 5 ∷ 5 ∷ 6 ∷ 0 ∷ 0
    -- the P has no blank before, so that ruby keeps off it
    ∷ 1 ∷ 30 ∷ 5 ∷ 3 ∷ 0 ∷ 0
    -- the J's first character touches the P
    ∷ 2 ∷ 50 ∷ 0 ∷ 2 ∷ 1 ∷ 0
    -- its second begins the next line
    ∷ 2 ∷ 0 ∷ 0 ∷ 1 ∷ 0 ∷ 0
    ∷ []

pub right : (accounts example ≡ told) × (counts example ≡ (3 ∷ 4 ∷ [])) × (extents example ≡ (70 ∷ 20 ∷ []))
unfolding accounts counts extents ends line_of origins settle_from origin beside neighbour rubies reason
right = (refl, refl, refl)

-- a J of two characters with a mono left reading, one of them longer than its character, and a P
abbrev both : Job
both =
    record {
      em = 10;
      measure = 60;
      ratios = usual;
      profile = 0;
      class = 19 ∷ 19 ∷ 19 ∷ [];
      width = 10 ∷ 10 ∷ 10 ∷ [];
      before = 0 ∷ 0 ∷ 0 ∷ [];
      after = 0 ∷ 0 ∷ 0 ∷ [];
      flag = 1 ∷ 1 ∷ 1 ∷ [];
      ruby_class = 15 ∷ 15 ∷ [];
      ruby_width = 5 ∷ 5 ∷ [];
      left_class = 15 ∷ 15 ∷ 15 ∷ 15 ∷ [];
      left_width = 5 ∷ 5 ∷ 5 ∷ 5 ∷ [];
      kind = 74 ∷ 80 ∷ [];
      element_base = 2 ∷ 0 ∷ [];
      element_ruby = 0 ∷ 0 ∷ [];
      left_kind = 77 ∷ 78 ∷ [];
      element_left = 0 ∷ 0 ∷ [];
      run = 1 ∷ 1 ∷ [];
      left_run = 1 ∷ 3 ∷ [];
    }

abbrev told_both : List ℕ
told_both =
    -- its first character begins the line
    0 ∷ 0 ∷ 0 ∷ 1 ∷ 0 ∷ 0
    -- its second is a word of its own and of the same element: its left reading keeps off the first
    ∷ 0 ∷ 25 ∷ 5 ∷ 8 ∷ 0 ∷ 0
    -- and off the P, which is the next element
    ∷ 1 ∷ 50 ∷ 5 ∷ 7 ∷ 0 ∷ 0
    ∷ []

pub right-both : (accounts both ≡ told_both) × (counts both ≡ (3 ∷ [])) × (extents both ≡ (70 ∷ []))
unfolding accounts counts extents ends line_of origins settle_from origin beside neighbour rubies reason
right-both = (refl, refl, refl)
