-- The rows as the door asks them, by the values that it has read.
use Rattle.std.specs.Prelude.{◌≡◌, refl, Bool, true, false, cond, not, ◌&&◌, ◌||◌, List, ◌++◌, ℕ, ◌+◌, ◌%◌, ◌≤◌, length, eqb, ltb, Option, Some, None}
use Rattle.std.proofs.Common.{arith}
use Rattle.basics.specs.Lists.{sum, any, each, count}
use Rattle.class.specs.Class.{accepted, blank_before, blank_after}
use Rattle.spread.specs.Ratio.{Ratios}
use Rattle.refusal.specs.declared.Refusal.{Refusal}
use Rattle.refusal.specs.declared.Refusal.TheVariants.{Range, Ratio, Profile, Count, Short, Character, Blanks}
use Rattle.door.specs.declared.Sizes.{Sizes}
use Rattle.door.specs.declared.Lengths.{Lengths}
use Rattle.door.specs.Job.{Job, base_count, ruby_count, left_count, element_count, entries}
use Rattle.door.specs.Refusals.{outside, ratio_wrong, ◌when◌, base_faults, ruby_faults, gloss_faults}

-- numbers 1, 15 and 20
abbrev pub house_rows : ℕ → ℕ → Ratios → ℕ → List Refusal
house_rows em measure ratios profile =
    Range 0 when (eqb (em % 2) 1 || outside 2 4096 em)
    ++ Range 1 when outside 1 4000000 measure
    ++ Ratio 0 when ratio_wrong ratios.ruby
    ++ Ratio 1 when ratio_wrong ratios.base
    ++ Profile when ltb 1 profile

-- numbers 2 and 12, by the counts and the lengths of the result lists
abbrev pub size_rows : Sizes → Lengths → List Refusal
size_rows sizes lengths =
    Count 0 when ltb 1024 sizes.bases
    ++ Count 1 when ltb 2048 sizes.rubies
    ++ Count 2 when ltb 1024 sizes.elements
    ++ Count 3 when ltb 2048 sizes.lefts
    ++ Short when (ltb lengths.base sizes.bases || (ltb lengths.lines sizes.bases || (ltb lengths.ruby sizes.rubies || ltb lengths.left sizes.lefts)))

-- number 3 of a character; a ruby character or a left one has no flag, which is as good as 0
abbrev pub character_wrong : ℕ → ℕ → ℕ → Bool
character_wrong c w flag = not (accepted c) || (outside 1 4096 w || ltb 1 flag)

-- numbers 3 and 4 of a base character
abbrev pub base_rows : ℕ → ℕ → ℕ → ℕ → ℕ → ℕ → List Refusal
base_rows place c w before after flag =
    Character place when character_wrong c w flag
    ++ Blanks place when ((ltb 0 before && not (blank_before c)) || ((ltb 0 after && not (blank_after c)) || ltb w (before + after)))

-- the runs of a J or of a left reading from u on, n of them: how many characters they take, or that one of them or all are out of range (5)
unfoldable pub runs_from : List ℕ → ℕ → ℕ → Option ℕ
runs_from runs u n = cond (any (eqb 0) (entries runs u n) || ltb 64 (sum (entries runs u n))) None (Some (sum (entries runs u n)))

-- the counts of a job
abbrev pub sizes_of : Job → Sizes
sizes_of job = record { bases = base_count job; rubies = ruby_count job; elements = element_count job; lefts = left_count job }

-- what is judged first, by counts that were worked out and the lengths of the result lists
abbrev pub settings : Job → Sizes → Lengths → List Refusal
settings job sizes lengths = house_rows job.em job.measure job.ratios job.profile ++ size_rows sizes lengths

-- a count within its maximum and within each of its lists
pub record BasesHold (job : Job) (n : ℕ) : Type 0 where
  pub most : n ≤ 1024
  pub class : n ≤ length job.class
  pub width : n ≤ length job.width
  pub before : n ≤ length job.before
  pub after : n ≤ length job.after
  pub flag : n ≤ length job.flag

pub record ReadingHolds (n : ℕ) (cs ws : List ℕ) : Type 0 where
  pub most : n ≤ 2048
  pub class : n ≤ length cs
  pub width : n ≤ length ws

pub record CharactersHold (job : Job) (sizes : Sizes) : Type 0 where
  pub base : BasesHold job sizes.bases
  pub ruby : ReadingHolds sizes.rubies job.ruby_class job.ruby_width
  pub left : ReadingHolds sizes.lefts job.left_class job.left_width

-- numbers 3 and 4 of as many characters as are counted: base characters, then ruby ones, then left ones
abbrev pub character_rows : Job → Sizes → List Refusal
character_rows job sizes = each (base_faults job) (count 0 sizes.bases) ++ (each (ruby_faults job) (count 0 sizes.rubies) ++ each (gloss_faults job) (count 0 sizes.lefts))

pub runs-wrong : (runs : List ℕ) (u n : ℕ) → runs_from runs u n ≡ None → (any (eqb 0) (entries runs u n) || ltb 64 (sum (entries runs u n))) ≡ true
unfolding runs_from
runs-wrong runs u n e = go (any (eqb 0) (entries runs u n) || ltb 64 (sum (entries runs u n))) (sum (entries runs u n)) e
  where
    go : (t : Bool) (s : ℕ) → cond t None (Some s) ≡ None → t ≡ true
    go true s e = refl
    go false s e = absurd (let z : ◌≡◌ {A = ℕ} 0 1 = cc in omega arith)

pub runs-sum : (runs : List ℕ) (u n : ℕ) {m : ℕ} → runs_from runs u n ≡ Some m → ((any (eqb 0) (entries runs u n) || ltb 64 (sum (entries runs u n))) ≡ false) × (sum (entries runs u n) ≡ m)
unfolding runs_from
runs-sum runs u n {m} e = go (any (eqb 0) (entries runs u n) || ltb 64 (sum (entries runs u n))) (sum (entries runs u n)) e
  where
    go : (t : Bool) (s : ℕ) → cond t None (Some s) ≡ Some m → (t ≡ false) × (s ≡ m)
    go true s e = absurd (let z : ◌≡◌ {A = ℕ} 0 1 = cc in omega arith)
    go false s e = (refl, cc)
