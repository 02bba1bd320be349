-- The rows of the elements so far are written, and what is left of the walk decides. An element that is refused ends it; past the last the leftovers decide.
use mathlib.Core.Path.{◌≡◌, refl, sym, ap, ◌∙◌, subst}
use mathlib.Core.Bool.{Bool, true, false, ◌&&◌, ◌||◌, false≢true}
use mathlib.Core.List.{List}
use Prim.Native.Nat.{ℕ, ◌+◌, ◌^◌, ◌<◌, ◌≤◌}
use lib.Dec.{ltb, eqb}
use lib.ListN.{get_or, length}
use borrow.Author.Tests.{lt-ltb, ltb-true, eq-eqb, eqb-true}
use native.Mathlib.Omega.{arith}
use Rattle.refusal.specs.declared.Refusal.{Refusal}
use Rattle.refusal.specs.declared.Refusal.TheVariants.{Supply}
use Rattle.std.specs.Prelude.{Err, Result, Ok, IsErrAnd, OnOk, ⊤}
use Rattle.door.specs.declared.Piece.{Piece}
use Rattle.door.specs.declared.Taken.{Taken}
use Rattle.door.specs.Job.{Job, base_count, ruby_count, left_count, element_count}
use Rattle.door.specs.Job as door
use Rattle.door.specs.Lent.{job_in}
use Rattle.door.specs.Refusals.{◌when◌}
use Rattle.door.specs.Verdict.{verdict}
use Rattle.door.specs.Whole.{element-within}
use Rattle.door.specs.Walk.{Stands, element_step}
use Rattle.door.specs.Loop as loop
use Rattle.door.specs.Loop.{part_faults, Along}
use Rattle.cells.specs.declared.Cell.{Cell}
use Rattle.door.specs.declared.Sizes.{Sizes}
use Rattle.layout.specs.Step.{Standing, Stepped}
use Rattle.layout.specs.Walk as walk
use Rattle.layout.specs.Walk.{Walking}
use Rattle.layout.proofs.layout.Goals as goal
use Rattle.layout.proofs.layout.Goals.{After-sizes-sizes, After-left_over, After-text, At-loop-k, At-text, Else-sizes-at, Else-is_plain, In-loop-k, In-text, Start}

-- the job that the lists are
abbrev job : Start → Job
job a = job_in a.args.job.now

bases-are : (c : After-sizes-sizes) → c.sizes-sizes.result.bases ≡ base_count (job (goal.at.After-sizes-sizes c).Start)
bases-are c = ap (λ (n : Sizes). n.bases) c.sizes-sizes.ensures

lefts-are : (c : After-sizes-sizes) → c.sizes-sizes.result.lefts ≡ left_count (job (goal.at.After-sizes-sizes c).Start)
lefts-are c = ap (λ (n : Sizes). n.lefts) c.sizes-sizes.ensures

elements-are : (c : After-sizes-sizes) → c.sizes-sizes.result.elements ≡ element_count (job (goal.at.After-sizes-sizes c).Start)
elements-are c = ap (λ (n : Sizes). n.elements) c.sizes-sizes.ensures

-- what `is_plain` asks of the walk
asked : (c : After-sizes-sizes) {k : ℕ} → let e = c.args.job.now.elements in
    k ≤ element_count (job (goal.at.After-sizes-sizes c).Start) → (k ≤ 4096) × (c.sizes-sizes.result.elements ≤ length e.kind.now) × (c.sizes-sizes.result.elements ≤ length e.left_kind.now)
asked c h =
    let n = elements-are c in
    let e = element-within (job (goal.at.After-sizes-sizes c).Start) in
    (omega (arith, h, c.requires.few_elements), omega (arith, n, e.0), omega (arith, n, e.3))

abbrev table : At-loop-k → List Cell
table l = l.args.rows.now

before-end : (c : In-loop-k) → c.loop-k.k < element_count (job (goal.at.In-loop-k c).Start)
before-end c = omega (arith, c.loop-k-test.true, elements-are (goal.at.In-loop-k c).After-sizes-sizes)

stands : (c : In-loop-k) → Stands (job (goal.at.In-loop-k c).Start) c.loop-k.k c.loop-k.at
stands c = walk.stands (job (goal.at.In-loop-k c).Start) (table (goal.at.In-loop-k c).At-loop-k) c.loop-k.rows c.loop-k.k c.loop-k.at c.loop-k.invariant (before-end c)

-- a refusal ends the walk
refuses : (l : At-loop-k) {t : List Cell} {k : ℕ} {at : Taken} →
    let j = job (goal.at.At-loop-k l).Start in Walking j (table l) t k at → k < element_count j → (q : Refusal) → Err q ≡ element_step j k at → Err q ≡ verdict (part_faults j)
refuses l {t} {k} {at} w h q e = let j = job (goal.at.At-loop-k l).Start in loop.stopped j k at w.along (walk.stands j (table l) t k at w h) e

walking : (m : At-text) → Walking (job (goal.at.At-text m).Start) (table (goal.at.At-text m).At-loop-k) m.text.rows m.text.k m.text.at
walking m = walk.walking_from m.loop-k.invariant m.text.invariant.1

-- there is a P without a left reading, and maybe its character
found : (k n : ℕ) (ks ls : List ℕ) → (ltb k n && (eqb (get_or ks k 0) 80 && eqb (get_or ls k 0) 78)) ≡ true → (k < n) × (get_or ks k 0 ≡ 80) × (get_or ls k 0 ≡ 78)
found k n ks ls = go (ltb k n) (eqb (get_or ks k 0) 80) (eqb (get_or ls k 0) 78) refl refl refl
  where
    go : (x y z : Bool) → ltb k n ≡ x → eqb (get_or ks k 0) 80 ≡ y → eqb (get_or ls k 0) 78 ≡ z → (x && (y && z)) ≡ true → (k < n) × (get_or ks k 0 ≡ 80) × (get_or ls k 0 ≡ 78)
    go true true true e f g h = (ltb-true k n e, eqb-true (get_or ks k 0) 80 f, eqb-true (get_or ls k 0) 78 g)
    go true true false e f g h = absurd (false≢true h)
    go true false z e f g h = absurd (false≢true h)
    go false y z e f g h = absurd (false≢true h)

plain : (c : In-text) →
    let a = c.args in
    (c.text.k < element_count (job (goal.at.In-text c).Start)) × (get_or a.job.now.elements.kind.now c.text.k 0 ≡ 80) × (get_or a.job.now.elements.left_kind.now c.text.k 0 ≡ 78)
plain c =
    let a = c.args in
    let e = found c.text.k c.sizes-sizes.result.elements a.job.now.elements.kind.now a.job.now.elements.left_kind.now (sym c.is_plain-in-text.ensures ∙ c.text-test.true) in
    (omega (arith, e.0, elements-are (goal.at.In-text c).After-sizes-sizes), e.1, e.2)

left : (e : Else-sizes-at) → e.text.at.base < base_count (job (goal.at.Else-sizes-at e).Start)
left e = omega (arith, e.if-sizes-at.false, bases-are (goal.at.Else-sizes-at e).After-sizes-sizes)

-- One element, however it was laid.
abbrev Laid : In-loop-k → List Cell → Result Piece Refusal → Type 0
Laid i v s = Stepped (job (goal.at.In-loop-k i).Start) i.loop-k.k i.loop-k.at i.loop-k.rows v s

-- a refusal ends the walk
laid-stops : (i : In-loop-k) {v : List Cell} {s : Result Piece Refusal} → Laid i v s → {q : Refusal} → s ≡ Err q → Err q ≡ verdict (part_faults (job (goal.at.In-loop-k i).Start))
laid-stops i h e = refuses (goal.at.In-loop-k i).At-loop-k i.loop-k.invariant (before-end i) _ (sym e ∙ h.step)

-- a piece takes it on
went : (i : In-loop-k) {v : List Cell} {s : Result Piece Refusal} → Laid i v s → {p : Piece} → s ≡ Ok p → Ok p ≡ element_step (job (goal.at.In-loop-k i).Start) i.loop-k.k i.loop-k.at
went i h e = sym e ∙ h.step

laid-small : (i : In-loop-k) {v : List Cell} {s : Result Piece Refusal} → Laid i v s → {p : Piece} → s ≡ Ok p →
    let at = i.loop-k.at in
    (at.base + p.bases < 2 ^ 40) × (at.ruby + p.rubies < 2 ^ 40) × (at.run + p.bases < 2 ^ 40) × (at.left + p.lefts < 2 ^ 40)
    × (at.leftrun + p.bases < 2 ^ 40)
laid-small i h e = loop.past-small (job (goal.at.In-loop-k i).Start) i.loop-k.k i.loop-k.at i.loop-k.invariant.along (stands i) (went i h e)

laid-again : (i : In-loop-k) {v : List Cell} {s : Result Piece Refusal} → Laid i v s → {p : Piece} → s ≡ Ok p → {at : Taken} → at ≡ door.past i.loop-k.at p →
    Walking (job (goal.at.In-loop-k i).Start) (table (goal.at.In-loop-k i).At-loop-k) v (i.loop-k.k + 1) at
laid-again i {v} h {p} e f =
    let j = job (goal.at.In-loop-k i).Start in
    let base = table (goal.at.In-loop-k i).At-loop-k in
    let k = i.loop-k.k in
    let from = i.loop-k.at in
    let along = i.loop-k.invariant.along in
    let same = loop.same j k from along (stands i) (went i h e) in
    subst (Walking j base v (k + 1)) (sym f)
    (subst (λ z. Walking j base v (k + 1) (door.past from z)) (sym same)
    (walk.walking_next j base i.loop-k.rows k from i.loop-k.invariant (before-end i) v (h.laid p e)
    (subst (λ z. Along j (k + 1) (door.past from z)) same (loop.along-next j k from along (stands i) (went i h e)))))

pub loop-k-init : goal.loop-k-init
loop-k-init c = walk.walking_first (job (goal.at.loop-k-init c).Start) c.args.rows.now c.requires

pub text-init : goal.text-init
text-init c = (omega arith, walk.walking_here c.loop-k.invariant)

pub returns-then-sizes-at : goal.returns-then-sizes-at
returns-then-sizes-at c =
    let j = job (goal.at.returns-then-sizes-at c).Start in (
      refuses (goal.at.returns-then-sizes-at c).At-loop-k (walking (goal.at.returns-then-sizes-at c).At-text) (plain (goal.at.returns-then-sizes-at c).In-text).0 _ (loop.plain-stops j c.text.k c.text.at (plain (goal.at.returns-then-sizes-at c).In-text).1 (plain (goal.at.returns-then-sizes-at c).In-text).2 (omega (arith, c.if-sizes-at.true, bases-are (goal.at.returns-then-sizes-at c).After-sizes-sizes))),
      tt,
    )

pub overflow_cast-left : goal.overflow_cast-left
overflow_cast-left c = let q = walking (goal.at.overflow_cast-left c).At-text in omega (arith, q.along.within.left, q.ready.few_left)

pub put_plain-requires : goal.put_plain-requires
put_plain-requires c =
    walk.plain_ready (job (goal.at.put_plain-requires c).Start) (table (goal.at.put_plain-requires c).At-loop-k) c.text.rows c.text.k c.text.at (walking (goal.at.put_plain-requires c).At-text) (plain (goal.at.put_plain-requires c).In-text).0 (plain (goal.at.put_plain-requires c).In-text).1 (plain (goal.at.put_plain-requires c).In-text).2 (left (goal.at.put_plain-requires c).Else-sizes-at)

pub text-preserved : goal.text-preserved
text-preserved c = (
  omega (arith, c.text.invariant.0),
  walk.walking_plain (job (goal.at.text-preserved c).Start) c.loop-k.rows c.text.rows c.text.k c.text.at c.text.invariant.1 (plain (goal.at.text-preserved c).In-text).0 (plain (goal.at.text-preserved c).In-text).1 (plain (goal.at.text-preserved c).In-text).2 (left (goal.at.text-preserved c).Else-sizes-at) c.put_plain.new.rows c.put_plain.ensures,
)

-- it is no P without a left reading
standing : (e : Else-is_plain) → Standing (job (goal.at.Else-is_plain e).Start) e.loop-k.k e.loop-k.at e.loop-k.rows
standing e =
    let a = e.args in
    walk.standing (job (goal.at.Else-is_plain e).Start) (table (goal.at.Else-is_plain e).At-loop-k) e.loop-k.rows e.loop-k.k e.loop-k.at e.loop-k.invariant (before-end (goal.at.Else-is_plain e).In-loop-k)
    (λ p q. neither e.loop-k.k _ a.job.now.elements.kind.now a.job.now.elements.left_kind.now e.loop-k-test.true p q (sym e.is_plain.ensures ∙ e.if-is_plain.false))
  where
    neither : (k n : ℕ) (ks ls : List ℕ) → k < n → get_or ks k 0 ≡ 80 → get_or ls k 0 ≡ 78 → (ltb k n && (eqb (get_or ks k 0) 80 && eqb (get_or ls k 0) 78)) ≡ false → ⊥
    neither k n ks ls h p q e = false≢true (sym e ∙ rw (lt-ltb k n h, eq-eqb (get_or ks k 0) 80 p, eq-eqb (get_or ls k 0) 78 q))

pub is_plain-requires : goal.is_plain-requires
is_plain-requires c = asked (goal.at.is_plain-requires c).After-sizes-sizes c.loop-k.invariant.along.upto

pub is_plain-requires-in-text : goal.is_plain-requires-in-text
is_plain-requires-in-text c = asked (goal.at.is_plain-requires-in-text c).After-sizes-sizes c.text.invariant.1.along.upto

pub bounds-job-k : goal.bounds-job-k
bounds-job-k c = omega (arith, c.loop-k-test.true, (asked (goal.at.bounds-job-k c).After-sizes-sizes c.loop-k.invariant.along.upto).2)

pub lay_word-requires : goal.lay_word-requires
lay_word-requires c =
    (c.sizes-sizes.ensures, standing (goal.at.lay_word-requires c).Else-is_plain, c.if-job-k-eq-LEFT_NONE.true)

-- a refusal that is passed on
passed_on : (xs : List Refusal) (P : Type 0) {q : Refusal} (r : Result ⊤ Refusal) → IsErrAnd r (λ e. e ≡ q) → Err q ≡ verdict xs → (r ≡ verdict xs) × OnOk r P
passed_on xs P (Ok u) h e = absurd h
passed_on xs P (Err q) h e = (subst (λ z. Err z ≡ verdict xs) (sym h) e, tt)

pub returns-in_err-p : goal.returns-in_err-p
returns-in_err-p c =
    passed_on (part_faults (job (goal.at.returns-in_err-p c).Start)) _ _ c.from_residual.ensures.1 (laid-stops (goal.at.returns-in_err-p c).In-loop-k c.lay_word.ensures c.in_err-p.was)

pub past-at-requires : goal.past-at-requires
past-at-requires c = laid-small (goal.at.past-at-requires c).In-loop-k c.lay_word.ensures c.in_ok-p.was

pub loop-k-preserved-then-job-k-eq-LEFT_NONE : goal.loop-k-preserved-then-job-k-eq-LEFT_NONE
loop-k-preserved-then-job-k-eq-LEFT_NONE c =
    laid-again (goal.at.loop-k-preserved-then-job-k-eq-LEFT_NONE c).In-loop-k c.lay_word.ensures c.in_ok-p.was c.past-at.ensures

pub lay_both-requires : goal.lay_both-requires
lay_both-requires c =
    (c.sizes-sizes.ensures, standing (goal.at.lay_both-requires c).Else-is_plain, c.if-job-k-eq-LEFT_NONE.false)

pub returns-in_err-p-2 : goal.returns-in_err-p-2
returns-in_err-p-2 c =
    passed_on (part_faults (job (goal.at.returns-in_err-p-2 c).Start)) _ _ c.from_residual-in_err-p-2.ensures.1 (laid-stops (goal.at.returns-in_err-p-2 c).In-loop-k c.lay_both.ensures c.in_err-p-2.was)

pub past-at-requires-in-loop-k : goal.past-at-requires-in-loop-k
past-at-requires-in-loop-k c = laid-small (goal.at.past-at-requires-in-loop-k c).In-loop-k c.lay_both.ensures c.in_ok-p-2.was

pub loop-k-preserved : goal.loop-k-preserved
loop-k-preserved c =
    laid-again (goal.at.loop-k-preserved c).In-loop-k c.lay_both.ensures c.in_ok-p-2.was c.past-at-in-loop-k.ensures

-- what is left over decides
ended : (c : After-left_over) → let j = job (goal.at.After-left_over c).Start in verdict (Supply (element_count j) when c.left_over.result) ≡ verdict (part_faults j)
ended c =
    let j = job (goal.at.After-left_over c).Start in
    ap (λ z. verdict (Supply (element_count j) when z)) (c.left_over.ensures ∙ ap (λ (n : Sizes). ltb c.loop-k.at.base n.bases || (ltb c.loop-k.at.ruby n.rubies || ltb c.loop-k.at.left n.lefts)) c.sizes-sizes.ensures)
    ∙ loop.ends j c.loop-k.k c.loop-k.at (omega (arith, c.loop-k-test.false, elements-are (goal.at.After-left_over c).After-sizes-sizes)) c.loop-k.invariant.along

pub returns-then-left_over : goal.returns-then-left_over
returns-then-left_over c =
    let j = job (goal.at.returns-then-left_over c).Start in (
      ap (λ n. Err (Supply n)) (elements-are (goal.at.returns-then-left_over c).After-sizes-sizes) ∙ subst (λ z. verdict (Supply (element_count j) when z) ≡ verdict (part_faults j)) c.if-left_over.true (ended (goal.at.returns-then-left_over c).After-left_over),
      tt,
    )

pub returns : goal.returns
returns c =
    let j = job (goal.at.returns c).Start in (
      subst (λ z. verdict (Supply (element_count j) when z) ≡ verdict (part_faults j)) c.if-left_over.false (ended (goal.at.returns c).After-left_over),
      walk.walking_end j (table (goal.at.returns c).At-loop-k) c.loop-k.rows c.loop-k.k c.loop-k.at c.loop-k.invariant (omega (arith, c.loop-k-test.false, elements-are (goal.at.returns c).After-sizes-sizes)),
    )
