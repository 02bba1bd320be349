-- The set so far has the classes below the next one of which it is so, as the table's entries say. The next place is above them all.
use Rattle.std.proofs.Common.{ap, ◌∙◌, arith}
use Rattle.std.specs.Prelude.{◌≡◌, Bool, true, false, cond, ℕ, ◌≤◌, ◌<◌}
use Rattle.class.specs.declared.Entry.{Entry}
use Rattle.class.specs.Entry.{entry_of}
use Rattle.class.specs.Laws.{tabled-at}
use Rattle.class.specs.Marks.{marked, marked_law, says, upto-none, upto_next, upto_all, place-small, set-small}
use Rattle.class.proofs.marked_in.Goals as goal
use Rattle.class.proofs.marked_in.Goals.{After-worth-set}

pub loop-class-init : goal.loop-class-init
loop-class-init c = upto-none _

-- what is added is the class's place if it is so of the class
is : (c : After-worth-set) → c.worth-set.result ≡ cond (says c.args.which c.loop-class.class) c.loop-class.place 0
is c =
    let which = c.args.which in
    let entry = tabled-at entry_of _ 31 _ c.requires c.loop-class.class (omega arith) in
    let so = c.marks.ensures ∙ ap (λ (e : Entry). marked which e) entry ∙ marked_law which c.loop-class.class (omega arith) in
    c.worth-set.ensures ∙ ap (λ (t : Bool). cond t c.loop-class.place 0) so

-- it is at most the place, and the set is below that
at_most : (t : Bool) (place d : ℕ) → d ≡ cond t place 0 → d ≤ place
at_most true place d e = omega arith
at_most false place d e = omega arith

room : (c : After-worth-set) → (c.worth-set.result ≤ c.loop-class.place) × (c.loop-class.place ≤ 1073741824) × (c.loop-class.set < c.loop-class.place)
room c = let u = c.loop-class.invariant in (at_most (says c.args.which c.loop-class.class) _ _ (is c), place-small u (omega arith), set-small u)

pub overflow_add-set : goal.overflow_add-set
overflow_add-set c = let r = room c in record { fits = omega (arith, r.0, r.1, r.2) }

pub overflow_mul-place : goal.overflow_mul-place
overflow_mul-place c = let r = room c in record { fits = omega (arith, r.1) }

pub loop-class-preserved : goal.loop-class-preserved
loop-class-preserved c = upto_next c.loop-class.invariant (omega arith) (is c)

pub returns : goal.returns
returns c = upto_all c.loop-class.invariant (λ l. omega arith)
