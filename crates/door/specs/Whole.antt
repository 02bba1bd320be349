-- What is judged before any element, by the door's two checks in turn: what the second asks for, and what either decides of the whole.
use Rattle.std.specs.Prelude.{◌≡◌, ℕ, ◌≤◌, min, length, Ok}
use Rattle.std.proofs.Common.{◌∙◌, arith}
use Rattle.std.proofs.Math.Path.{ap}
use mathlib.Core.List.{List, ◌++◌, append_assoc}
use Rattle.std.proofs.Math.Dec.{ltb}
use Rattle.refusal.specs.declared.Refusal.{Refusal}
use Rattle.refusal.specs.declared.Refusal.TheVariants.{Count, Short}
use Rattle.door.specs.declared.Lengths.{Lengths}
use Rattle.door.specs.Job.{Job, base_count, ruby_count, left_count, element_count}
use Rattle.door.specs.Refusals.{◌when◌, list_short, job_faults, char_faults}
use Rattle.door.specs.Verdict.{unless_refused, verdict, and_so, told_append, passed_none}
use Rattle.door.specs.Values.{house_rows, sizes_of, settings, character_rows, CharactersHold}
use Rattle.door.specs.Passed.{limits}

-- counts lie within their lists
within-two : (a b : ℕ) → (min a b ≤ a) × (min a b ≤ b)
within-two a b = (omega arith, omega arith)

within-five : (a b c d e : ℕ) → let m = min a (min b (min c (min d e))) in (m ≤ a) × (m ≤ b) × (m ≤ c) × (m ≤ d) × (m ≤ e)
within-five a b c d e = (omega arith, omega arith, omega arith, omega arith, omega arith)

pub base-within : (job : Job) → (base_count job ≤ length job.class) × (base_count job ≤ length job.width) × (base_count job ≤ length job.before) × (base_count job ≤ length job.after) × (base_count job ≤ length job.flag)
unfolding base_count
base-within job = within-five _ _ _ _ _

pub ruby-within : (job : Job) → (ruby_count job ≤ length job.ruby_class) × (ruby_count job ≤ length job.ruby_width)
unfolding ruby_count
ruby-within job = within-two _ _

pub left-within : (job : Job) → (left_count job ≤ length job.left_class) × (left_count job ≤ length job.left_width)
unfolding left_count
left-within job = within-two _ _

pub element-within : (job : Job) → (element_count job ≤ length job.kind) × (element_count job ≤ length job.element_base) × (element_count job ≤ length job.element_ruby) × (element_count job ≤ length job.left_kind) × (element_count job ≤ length job.element_left)
unfolding element_count
element-within job = within-five _ _ _ _ _

-- what is judged before any element
abbrev pub ahead : Job → Lengths → List Refusal
ahead job lengths = job_faults job lengths.base lengths.ruby lengths.left lengths.lines ++ char_faults job

module _ (job : Job) (lengths : Lengths) where
  own : job_faults job lengths.base lengths.ruby lengths.left lengths.lines ≡ settings job (sizes_of job) lengths
  unfolding job_faults
  own =
      let house = house_rows job.em job.measure job.ratios job.profile in
      let c = Count 0 when ltb 1024 (base_count job) in
      let d = Count 1 when ltb 2048 (ruby_count job) in
      let e = Count 2 when ltb 1024 (element_count job) in
      let f = Count 3 when ltb 2048 (left_count job) in
      let s = Short when list_short job lengths.base lengths.ruby lengths.left lengths.lines in
      ap (λ (l : List Refusal). l ++ e ++ f ++ s) (append_assoc house c d) ∙ ap (λ (l : List Refusal). l ++ f ++ s) (append_assoc house (c ++ d) e)
      ∙ ap (λ (l : List Refusal). l ++ s) (append_assoc house (c ++ d ++ e) f) ∙ append_assoc house (c ++ d ++ e ++ f) s

  -- the two checks in turn
  pub told_ahead : {A : Type 0} (a : A) → unless_refused (ahead job lengths) a ≡ and_so (verdict (settings job (sizes_of job) lengths)) (and_so (verdict (character_rows job (sizes_of job))) (Ok a))
  unfolding char_faults
  told_ahead a = rw own (told_append (settings job (sizes_of job) lengths) (character_rows job (sizes_of job)) a)

  -- where the first passes, what the second asks for is there
  pub characters_hold : verdict (settings job (sizes_of job) lengths) ≡ Ok tt → CharactersHold job (sizes_of job)
  characters_hold passes =
      let l = limits job lengths.base lengths.ruby lengths.left lengths.lines (own ∙ passed_none (settings job (sizes_of job) lengths) passes) in
      let b = base-within job in
      let r = ruby-within job in
      let g = left-within job in
      record {
        base = record { most = l.bases; class = b.0; width = b.1; before = b.2; after = b.3; flag = b.4 };
        ruby = record { most = l.rubies; class = r.0; width = r.1 };
        left = record { most = l.lefts; class = g.0; width = g.1 };
      }
