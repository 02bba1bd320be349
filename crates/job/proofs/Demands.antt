-- The three demands of the mission, as theorems about `outcome`, which is all that the entry point promises. Their words are in `Promise` and in `Table`;
-- the proofs stand in the files that are named here.
use Rattle.std.proofs.Common.{sym, ◌∙◌, arith, ltb-false, length-append, length-drop, ap}
use Rattle.std.specs.Prelude.{true, false, ◌||◌, ◌↔◌, ℕ, ◌+◌, ◌≤◌, ◌<◌, ltb, length, get_or, drop, ◌≡◌, refl, List, [], ◌++◌, map}
use mathlib.Core.List.{head?}
use Rattle.std.proofs.Math.Option.{Option, none, some}
use Rattle.std.proofs.Math.ListN.{get_or-append}
use Rattle.basics.specs.Laws.{or_none, determined}
use Rattle.refusal.specs.declared.Refusal.{Refusal}
use Rattle.refusal.specs.declared.Refusal.TheVariants.{NoBreak}
use Rattle.word.specs.declared.Answer.TheVariants as word
use Rattle.word.specs.Both.{places}
use Rattle.word.specs.Answered.{answer_both}
use Rattle.readings.specs.Alike.{AlikeBoth, both-alike}
use Rattle.line.specs.declared.Side.{Side}
use Rattle.line.specs.declared.Side.TheVariants.{Right, Left}
use Rattle.door.specs.declared.Piece.{Piece}
use Rattle.door.specs.Job.{Job, base_count, ruby_count, left_count, given, gloss_of}
use Rattle.door.specs.Refusals.{counts_wrong, left_kind_wrong, run_out, list_short, element_faults, own_faults}
use Rattle.door.specs.Verdict.{append_none}
use Rattle.door.specs.Passed.{Passed, groups, limits, passed}
use Rattle.job.specs.declared.Answer.TheVariants.{Set, Refused}
use Rattle.job.specs.Line.{word_of, extent_of, can_set, origins, ends, count_of, on_side, alone, base_at, reading_at, base_in, reading_in, by_line}
use Rattle.job.specs.Refusals.{lines_faults, faults, fault}
use Rattle.job.specs.Outcome.{Outcome, readings, over, after, outcome}
use Rattle.job.specs.Promise.{CanSet, Filled, Stuck, Stands, IsLine, BasePlaced, ReadingPlaced}
use Rattle.job.specs.Table.{Row, First}
use Rattle.job.specs.Laws.{head-none}
use Rattle.job.proofs.Bounded as bounded
use Rattle.job.proofs.Filled as filling
use Rattle.job.proofs.Declined as declined
use Rattle.job.proofs.Placed as placed
use Rattle.job.specs.LevelOne as level_one
use Rattle.job.specs.Order as order
use Rattle.job.specs.Demands as demands

module _ (job : Job) (base ruby left line : List ℕ) where
  -- the words of `specs/Demands.antt`, of this job and these lists
  abbrev result : Outcome
  result = demands.result job base ruby left line

  abbrev lent : Side → List ℕ
  lent = demands.lent job base ruby left line

  abbrev given_refusal : Option Refusal
  given_refusal = demands.given_refusal job base ruby left line

  abbrev PassesDoor : Type 0
  PassesDoor = demands.PassesDoor job base ruby left line

  abbrev Accepted : Type 0
  Accepted = demands.Accepted job base ruby left line

  -- Demand 1. "A bad job gets the refusal our list gives it, with its place, and nothing in the caller's result lists has moved."

  refused-is : (r : Refusal) → (result.answer ≡ Refused r) ↔ (given_refusal ≡ some r)
  unfolding outcome after
  refused-is r = (go given_refusal, λ e. rw e)
    where
      go : (f : Option Refusal) → (after job base ruby left line f).answer ≡ Refused r → f ≡ some r
      go none e = absurd cc
      go (some q) e = let h : q ≡ r = cc in ap {B = Option Refusal} some h

  -- an answer that sets lines is an accepted job's
  pub set-accepted : (n : ℕ) → result.answer ≡ Set n → Accepted
  unfolding outcome after
  set-accepted n = go given_refusal
    where
      go : (f : Option Refusal) → (after job base ruby left line f).answer ≡ Set n → f ≡ none
      go none e = refl
      go (some r) e = absurd cc

  -- The answer is a refusal exactly when the table gives it and every other that the table gives comes after it by the order.
  pub refused-exactly : (r : Refusal) → (result.answer ≡ Refused r) ↔ First job (length base) (length ruby) (length left) (length line) r
  refused-exactly r =
      (λ e. order.given-first job (length base) (length ruby) (length left) (length line) r ((refused-is r).0 e), λ f. (refused-is r).1 (order.first-given job (length base) (length ruby) (length left) (length line) r f))

  -- A job is accepted exactly when the condition of no row holds.
  pub accepted-exactly : Accepted ↔ ((r : Refusal) → Row job (length base) (length ruby) (length left) (length line) r → ⊥)
  accepted-exactly = (order.none-given job (length base) (length ruby) (length left) (length line), order.given-none job (length base) (length ruby) (length left) (length line))

  -- A refusal moves nothing.
  pub unmoved : (r : Refusal) → result.answer ≡ Refused r → (result.base ≡ base) × (result.ruby ≡ ruby) × (result.left ≡ left) × (result.lines ≡ line)
  unfolding outcome after
  unmoved r = go given_refusal
    where
      go : (f : Option Refusal) → (after job base ruby left line f).answer ≡ Refused r →
          ((after job base ruby left line f).base ≡ base) × ((after job base ruby left line f).ruby ≡ ruby) × ((after job base ruby left line f).left ≡ left) × ((after job base ruby left line f).lines ≡ line)
      go none e = absurd cc
      go (some q) e = (refl, refl, refl, refl)

  -- Rows 7 to 10 are level one's own answer: an element that passes 5, 16 and 6 is refused by it as the list refuses it, and else set to the word that its line has.
  pub element-refused : (k : ℕ) (x : Piece) → counts_wrong job k x ≡ false → left_kind_wrong x ≡ false → run_out job x ≡ false →
      (r : Refusal) → (answer_both x.form k (given job x) (gloss_of job x) ≡ word.Refused r) ↔ (head? (element_faults job k x) ≡ some r)
  element-refused = level_one.refuses job

  pub element-set : (k : ℕ) (x : Piece) → counts_wrong job k x ≡ false → left_kind_wrong x ≡ false → run_out job x ≡ false → (answer_both x.form k (given job x) (gloss_of job x) ≡ word.Set (word_of job x)) ↔ (element_faults job k x ≡ [])
  element-set = level_one.sets job

  split : Accepted → (own_faults job (length base) (length ruby) (length left) (length line) ≡ []) × (lines_faults job ≡ [])
  unfolding fault faults
  split ok = append_none (own_faults job (length base) (length ruby) (length left) (length line)) (lines_faults job) (head-none (own_faults job (length base) (length ruby) (length left) (length line) ++ lines_faults job) ok)

  entered : PassesDoor → Passed job
  entered = passed job (length base) (length ruby) (length left) (length line)

  -- How far a line reaches: no block and no ruby of any line ends past 41,943,040 half units.
  pub extent-bounded : PassesDoor → (s e : ℕ) → extent_of job s e ≤ 41943040
  extent-bounded own = bounded.extent-bounded job (entered own)

  -- Demand 2, of an accepted job.
  module _ (ok : Accepted) where
    pub good : Passed job
    good = entered (split ok).0

    -- "each line ends at the furthest permitted break whose line can be set": the lines run so from the first base character up to the last,
    pub lines-filled : Filled job (ends job)
    lines-filled = declined.filled job good (split ok).1

    -- and the answer and the line list tell them. "On success, entries past those used stay as they were"
    pub lines-told : (result.answer ≡ Set (length (ends job))) × (result.lines ≡ over (ends job) line)
    unfolding outcome after
    lines-told = (rw ok, rw ok)

    -- each of them stands as demand 3 has it
    pub lines-stand : (s e : ℕ) → IsLine 0 (ends job) s e → Stands job s e (origins job s e)
    lines-stand s e l = filling.stands job good s e (filling.chain-sets job 0 (base_count job) (ends job) lines-filled s e l)

    -- a result list's entries, as far as there are characters
    base-entry : (i : ℕ) → i < base_count job → get_or result.base i 0 ≡ get_or (by_line (base_in job) 0 (ends job)) i 0
    unfolding outcome after
    base-entry i h =
        let new = by_line (base_in job) 0 (ends job) in
        rw ok (get_or-append new (drop (length new) base) 0 i (omega (arith, placed.base-long job good (ends job) lines-filled)))

    lists : (side : Side) → readings result side ≡ over (by_line (reading_in side job) 0 (ends job)) (lent side)
    unfolding outcome after
    lists Right = rw ok
    lists Left = rw ok

    reading-entry : (side : Side) (i : ℕ) → i < count_of side job → get_or (readings result side) i 0 ≡ get_or (by_line (reading_in side job) 0 (ends job)) i 0
    reading-entry side i h =
        let new = by_line (reading_in side job) 0 (ends job) in
        rw (lists side) (get_or-append new (drop (length new) (lent side)) 0 i (omega (arith, placed.reading-long job good (ends job) lines-filled side)))

    -- "Each character of every accepted job stands exactly where the simple rules put it": in its line, at its piece's origin in the line's setting (demand 3)
    -- and its place in the word alone.
    pub base-placed : (i : ℕ) → i < base_count job → BasePlaced job (ends job) i (get_or result.base i 0)
    base-placed i h = rw (base-entry i h) (placed.base-placed job good (ends job) lines-filled i h)

    -- and so each ruby character and each left one
    pub reading-placed : (side : Side) (i : ℕ) → i < count_of side job → ReadingPlaced side job (ends job) i (get_or (readings result side) i 0)
    reading-placed side i h = rw (reading-entry side i h) (placed.reading-placed job good (ends job) lines-filled side i h)

    -- There is no second place that a character could have in these lines.
    pub base-only : (i : ℕ) → i < base_count job → (position : ℕ) → BasePlaced job (ends job) i position → position ≡ get_or result.base i 0
    base-only i h position q = placed.base-once job good (ends job) lines-filled i position q ∙ sym (base-entry i h)

    pub reading-only : (side : Side) (i : ℕ) → i < count_of side job → (position : ℕ) → ReadingPlaced side job (ends job) i position → position ≡ get_or (readings result side) i 0
    reading-only side i h position q = placed.reading-once job good (ends job) lines-filled side i position q ∙ sym (reading-entry side i h)

    -- The lists are overwritten just as far as there are characters.
    pub base-told : (result.base ≡ over (by_line (base_in job) 0 (ends job)) base) × (length (by_line (base_in job) 0 (ends job)) ≡ base_count job)
    unfolding outcome after
    base-told = (rw ok, placed.base-long job good (ends job) lines-filled)

    pub reading-told : (side : Side) → (readings result side ≡ over (by_line (reading_in side job) 0 (ends job)) (lent side)) × (length (by_line (reading_in side job) 0 (ends job)) ≡ count_of side job)
    reading-told side = (lists side, placed.reading-long job good (ends job) lines-filled side)

    -- No list changes its length: what is told fits into it.
    pub lengths-kept : (length result.base ≡ length base) × ((side : Side) → length (readings result side) ≡ length (lent side)) × (length result.lines ≡ length line)
    lengths-kept = (
      ap length base-told.0 ∙ same (by_line (base_in job) 0 (ends job)) base (omega (arith, base-told.1, ltb-false (length base) (base_count job) p.0)),
      λ side. ap length (reading-told side).0 ∙ same (by_line (reading_in side job) 0 (ends job)) (lent side) (omega (arith, (reading-told side).1, room side)),
      ap length lines-told.1 ∙ same (ends job) line (omega (arith, filling.chain-few job 0 (base_count job) (ends job) lines-filled, ltb-false (length line) (base_count job) q.0)),
    )
      where
        short : list_short job (length base) (length ruby) (length left) (length line) ≡ false
        short = (limits job (length base) (length ruby) (length left) (length line) (groups job (length base) (length ruby) (length left) (length line) (split ok).0).itself).long

        p : (ltb (length base) (base_count job) ≡ false) × ((ltb (length line) (base_count job) || (ltb (length ruby) (ruby_count job) || ltb (length left) (left_count job))) ≡ false)
        p = or_none (ltb (length base) (base_count job)) (ltb (length line) (base_count job) || (ltb (length ruby) (ruby_count job) || ltb (length left) (left_count job))) short

        q : (ltb (length line) (base_count job) ≡ false) × ((ltb (length ruby) (ruby_count job) || ltb (length left) (left_count job)) ≡ false)
        q = or_none (ltb (length line) (base_count job)) (ltb (length ruby) (ruby_count job) || ltb (length left) (left_count job)) p.1

        room : (side : Side) → count_of side job ≤ length (lent side)
        room Right = ltb-false (length ruby) (ruby_count job) (or_none (ltb (length ruby) (ruby_count job)) (ltb (length left) (left_count job)) q.1).0
        room Left = ltb-false (length left) (left_count job) (or_none (ltb (length ruby) (ruby_count job)) (ltb (length left) (left_count job)) q.1).1

        same : (new was : List ℕ) → length new ≤ length was → length (over new was) ≡ length was
        same new was h = simp (length-append, length-drop) (omega arith)

  -- Demand 3, of a job that passes the door, whether its lines fill it or not. "the setting we give .. keeps document 01's four rules of clearance, and no other
  -- setting in whole half units that keeps them puts any element of the line nearer the line's start"
  pub line-stands : PassesDoor → (s e : ℕ) → CanSet job s e → Stands job s e (origins job s e)
  line-stands own = filling.stands job (entered own)

  -- "So a line is declined as too long exactly when nothing that keeps the rules fits the measure."
  pub declined-exactly : PassesDoor → (s e : ℕ) → (can_set job s e ≡ true) ↔ CanSet job s e
  declined-exactly own s e = (filling.set_can job (entered own) s e, filling.can_set_lem job (entered own) s e)

  -- So a job is refused as too long (11) exactly where the lines so far, each ended at its furthest break, come to a base character from which no permitted
  -- break gives a line that can be set,
  pub stuck-exactly : (s : ℕ) → (result.answer ≡ Refused (NoBreak s)) ↔ (PassesDoor × Stuck job s)
  unfolding fault faults
  stuck-exactly s = (to, from)
    where
      to : result.answer ≡ Refused (NoBreak s) → PassesDoor × Stuck job s
      to e = let t = order.lines-turn job (length base) (length ruby) (length left) (length line) (NoBreak s) refl ((refused-is (NoBreak s)).0 e) in (t.0, declined.stuck job (entered t.0) s t.1)

      from : PassesDoor × Stuck job s → result.answer ≡ Refused (NoBreak s)
      from (own, k) = (refused-is (NoBreak s)).1 (rw (own, declined.sticks job (entered own) s k))

  -- and is accepted exactly when lines fill it.
  pub filled-exactly : Accepted ↔ (PassesDoor × ((es : List ℕ) × Filled job es))
  unfolding fault faults
  filled-exactly = (λ ok. ((split ok).0, (ends job, lines-filled ok)), from)
    where
      from : PassesDoor × ((es : List ℕ) × Filled job es) → Accepted
      from (own, k) = rw (own, declined.fills job (entered own) k.0 k.1)

-- "What the word alone decides, its neighbours never alter": two pieces of one form that are given alike in what the form and its left reading read, in one job or in two, stand
-- alike from their origins on, and a line adds nothing but the origin.
pub word-alone : (job other : Job) (p q : Piece) → p.form ≡ q.form → AlikeBoth p.form (given job p) (gloss_of job p) (given other q) (gloss_of other q) →
    (x : ℕ) → (base_at job p x ≡ base_at other q x) × ((side : Side) → reading_at side job p x ≡ reading_at side other q x)
unfolding base_at reading_at
word-alone job other p q f a x =
    let same : alone job p ≡ alone other q = both-alike p.form (given job p) (gloss_of job p) (given other q) (gloss_of other q) a ∙ ap (λ form. places form (given other q) (gloss_of other q)) f in
    (ap (λ ps. map (λ y. x + y) ps.base) same, λ side. ap (λ ps. map (λ y. x + y) (on_side side ps)) same)

pub origin_added : (job : Job) (p : Piece) (x : ℕ) → (base_at job p x ≡ map (λ y. x + y) (alone job p).base) × ((side : Side) → reading_at side job p x ≡ map (λ y. x + y) (on_side side (alone job p)))
unfolding base_at reading_at
origin_added job p x = (refl, λ side. refl)

-- "Any two results meeting one contract are shown equal": the lines and the settings by the demands alone, and the rest as the contract is an equation.
pub lines-unique : (job : Job) (xs ys : List ℕ) → Filled job xs → Filled job ys → xs ≡ ys
lines-unique job = filling.filled-unique job 0

pub setting-unique : (job : Job) (s e : ℕ) (xs ys : List ℕ) → Stands job s e xs → Stands job s e ys → xs ≡ ys
setting-unique = filling.stands-unique

pub result-unique : (job : Job) (base ruby left line : List ℕ) (p q : Outcome) → p ≡ outcome job base ruby left line → q ≡ outcome job base ruby left line → p ≡ q
result-unique job base ruby left line = determined (outcome job base ruby left line)
