-- Number 5, then 6, each its row: without a left kind the right counts are all, and number 16 is not asked. Past them the piece is laid; an M is
-- counted and laid by itself.
use Rattle.std.specs.Prelude.{Option, Some}
use mathlib.Core.Path.{◌≡◌, sym, ◌∙◌, subst}
use mathlib.Core.Bool.{true, false}
use lib.ListN.{get_or}
use native.Mathlib.Omega.{arith}
use Rattle.word.specs.declared.Form.TheVariants.{M}
use Rattle.word.specs.Both.{takes}
use Rattle.word.specs.Answer.{answer}
use Rattle.door.specs.declared.Piece.{Piece}
use Rattle.door.specs.Job.{Job, given}
use Rattle.door.specs.Elements.{right_by, right-only, mono_only}
use Rattle.door.specs.Lent.{job_in}
use Rattle.door.specs.Refusals.{run_out}
use Rattle.door.specs.Walk as walk
use Rattle.one_reading.specs.Lay.{based_row, FilledBy, based-told}
use Rattle.layout.specs.Step.{Standing, there, few, few_left, few_runs_lem, out-is}
use Rattle.layout.specs.Element as one
use Rattle.layout.proofs.lay_word.Goals as goal
use Rattle.layout.proofs.lay_word.Goals.{After-count_mono-mono, After-count_right-counted, After-runs_out, After-runs_out-2, Else-runs_out, Else-runs_out-2, In-Some, In-Some-counted, Start}

abbrev job : Start → Job
job a = job_in a.args.job.now

-- where the walk stands
standing : (a : Start) → Standing (job a) a.args.k a.args.at a.args.rows.now
standing a = a.requires.1

-- the right counts are all
right : (a : Start) {q : Option Piece} →
    let x = a.args in
    q ≡ right_by (get_or x.job.now.elements.kind.now x.k 0) (get_or x.job.now.elements.bases.now x.k 0) (get_or x.job.now.elements.rubies.now x.k 0) x.job.now.runs.now x.at → walk.counting (job a) x.k x.at ≡ q
right a e =
    let x = a.args in
    sym (e ∙ right-only (get_or x.job.now.elements.kind.now x.k 0) (get_or x.job.now.elements.bases.now x.k 0) (get_or x.job.now.elements.rubies.now x.k 0) (get_or x.job.now.elements.left_kind.now x.k 0) (get_or x.job.now.elements.lefts.now x.k 0)
    x.job.now.runs.now x.job.now.left_runs.now x.at a.requires.2)

-- what holds of a piece that was counted, of either way
takes-it : (a : Start) {p : Piece} → walk.counting (job a) a.args.k a.args.at ≡ Some p → takes p.form p.gloss ≡ true
takes-it a is = one.bare-taken (standing a) is a.requires.2

none : (a : Start) {p : Piece} → walk.counting (job a) a.args.k a.args.at ≡ Some p → p.lefts ≡ 0
none a is = one.bare-none (standing a) is a.requires.2

pub overflow_cast-left : goal.overflow_cast-left
overflow_cast-left c = omega (arith, few_left (standing (goal.at.overflow_cast-left c).Start))

pub bounds-job-k : goal.bounds-job-k
bounds-job-k c = omega (arith, (there (standing (goal.at.bounds-job-k c).Start)).0)

pub bounds-job-k-then-job-k-eq-MONO : goal.bounds-job-k-then-job-k-eq-MONO
bounds-job-k-then-job-k-eq-MONO c = omega (arith, (there (standing (goal.at.bounds-job-k-then-job-k-eq-MONO c).Start)).2)

counted : (c : After-count_mono-mono) → walk.counting (job (goal.at.After-count_mono-mono c).Start) c.args.k c.args.at ≡ c.count_mono-mono.result
counted c =
    let x = c.args in
    right (goal.at.After-count_mono-mono c).Start (c.count_mono-mono.ensures ∙ mono_only _ (get_or x.job.now.elements.bases.now x.k 0) _ x.job.now.runs.now x.at c.if-job-k-eq-MONO.true)

abbrev piece : In-Some → Piece
piece c = c.in-Some.p

is : (c : In-Some) → walk.counting (job (goal.at.In-Some c).Start) c.args.k c.args.at ≡ Some (piece c)
is c = counted (goal.at.In-Some c).After-count_mono-mono ∙ c.in-Some.is

out : (c : After-runs_out) → c.runs_out.result ≡ run_out (job (goal.at.After-runs_out c).Start) (piece (goal.at.After-runs_out c).In-Some)
out c = c.runs_out.ensures ∙ out-is (job (goal.at.After-runs_out c).Start) (piece (goal.at.After-runs_out c).In-Some) c.requires.0

supplied : (c : Else-runs_out) → run_out (job (goal.at.Else-runs_out c).Start) (piece (goal.at.Else-runs_out c).In-Some) ≡ false
supplied c = sym (out (goal.at.Else-runs_out c).After-runs_out) ∙ c.if-runs_out.false

pub returns-in_default : goal.returns-in_default
returns-in_default c =
    one.count-stops (standing (goal.at.returns-in_default c).Start) (counted (goal.at.returns-in_default c).After-count_mono-mono ∙ c.in_default.is)

pub returns-then-runs_out : goal.returns-then-runs_out
returns-then-runs_out c =
    one.short-stops (standing (goal.at.returns-then-runs_out c).Start) (is (goal.at.returns-then-runs_out c).In-Some) (takes-it (goal.at.returns-then-runs_out c).Start (is (goal.at.returns-then-runs_out c).In-Some)) (sym (out (goal.at.returns-then-runs_out c).After-runs_out) ∙ c.if-runs_out.true)

mono : (b : In-Some) → (piece b).form ≡ M
mono b =
    one.mono-form (standing (goal.at.In-Some b).Start) (is b) b.if-job-k-eq-MONO.true

pub lay_mono-requires : goal.lay_mono-requires
lay_mono-requires c =
    one.mono-ready (standing (goal.at.lay_mono-requires c).Start) (is (goal.at.lay_mono-requires c).In-Some) (takes-it (goal.at.lay_mono-requires c).Start (is (goal.at.lay_mono-requires c).In-Some)) (supplied (goal.at.lay_mono-requires c).Else-runs_out) (none (goal.at.lay_mono-requires c).Start (is (goal.at.lay_mono-requires c).In-Some)) (mono (goal.at.lay_mono-requires c).In-Some)

pub returns-then-job-k-eq-MONO : goal.returns-then-job-k-eq-MONO
returns-then-job-k-eq-MONO c =
    one.mono-judged (standing (goal.at.returns-then-job-k-eq-MONO c).Start) (is (goal.at.returns-then-job-k-eq-MONO c).In-Some) (takes-it (goal.at.returns-then-job-k-eq-MONO c).Start (is (goal.at.returns-then-job-k-eq-MONO c).In-Some)) (supplied (goal.at.returns-then-job-k-eq-MONO c).Else-runs_out) (none (goal.at.returns-then-job-k-eq-MONO c).Start (is (goal.at.returns-then-job-k-eq-MONO c).In-Some)) (mono (goal.at.returns-then-job-k-eq-MONO c).In-Some) c.lay_mono.ensures

pub count_right-counted-requires : goal.count_right-counted-requires
count_right-counted-requires c =
    (few_runs_lem (standing (goal.at.count_right-counted-requires c).Start)).0

pub bounds-e-k : goal.bounds-e-k
bounds-e-k c = (there (standing (goal.at.bounds-e-k c).Start)).0

pub bounds-e-k-2 : goal.bounds-e-k-2
bounds-e-k-2 c = (there (standing (goal.at.bounds-e-k-2 c).Start)).1

pub bounds-e-k-3 : goal.bounds-e-k-3
bounds-e-k-3 c = (there (standing (goal.at.bounds-e-k-3 c).Start)).2

counted2 : (c : After-count_right-counted) → walk.counting (job (goal.at.After-count_right-counted c).Start) c.args.k c.args.at ≡ c.count_right-counted.result
counted2 c = right (goal.at.After-count_right-counted c).Start c.count_right-counted.ensures

abbrev piece2 : In-Some-counted → Piece
piece2 c = c.in-Some-counted.p

is2 : (c : In-Some-counted) → walk.counting (job (goal.at.In-Some-counted c).Start) c.args.k c.args.at ≡ Some (piece2 c)
is2 c = counted2 (goal.at.In-Some-counted c).After-count_right-counted ∙ c.in-Some-counted.is

out2 : (c : After-runs_out-2) → c.runs_out-2.result ≡ run_out (job (goal.at.After-runs_out-2 c).Start) (piece2 (goal.at.After-runs_out-2 c).In-Some-counted)
out2 c = c.runs_out-2.ensures ∙ out-is (job (goal.at.After-runs_out-2 c).Start) (piece2 (goal.at.After-runs_out-2 c).In-Some-counted) c.requires.0

supplied2 : (c : Else-runs_out-2) → run_out (job (goal.at.Else-runs_out-2 c).Start) (piece2 (goal.at.Else-runs_out-2 c).In-Some-counted) ≡ false
supplied2 c = sym (out2 (goal.at.Else-runs_out-2 c).After-runs_out-2) ∙ c.if-runs_out-2.false

pub returns-in_default-counted : goal.returns-in_default-counted
returns-in_default-counted c =
    one.count-stops (standing (goal.at.returns-in_default-counted c).Start) (counted2 (goal.at.returns-in_default-counted c).After-count_right-counted ∙ c.in_default-counted.is)

pub runs_out-requires-2 : goal.runs_out-requires-2
runs_out-requires-2 c = one.small (standing (goal.at.runs_out-requires-2 c).Start) (is2 c)

pub returns-then-runs_out-2 : goal.returns-then-runs_out-2
returns-then-runs_out-2 c =
    one.short-stops (standing (goal.at.returns-then-runs_out-2 c).Start) (is2 (goal.at.returns-then-runs_out-2 c).In-Some-counted) (takes-it (goal.at.returns-then-runs_out-2 c).Start (is2 (goal.at.returns-then-runs_out-2 c).In-Some-counted)) (sym (out2 (goal.at.returns-then-runs_out-2 c).After-runs_out-2) ∙ c.if-runs_out-2.true)

pub base_at-base-requires : goal.base_at-base-requires
base_at-base-requires c =
    one.base-ready (standing (goal.at.base_at-base-requires c).Start) (is2 (goal.at.base_at-base-requires c).In-Some-counted) (takes-it (goal.at.base_at-base-requires c).Start (is2 (goal.at.base_at-base-requires c).In-Some-counted)) (supplied2 (goal.at.base_at-base-requires c).Else-runs_out-2)

pub ends_behind-ends-requires : goal.ends_behind-ends-requires
ends_behind-ends-requires c =
    one.ends-ready (standing (goal.at.ends_behind-ends-requires c).Start) (is2 (goal.at.ends_behind-ends-requires c).In-Some-counted) (takes-it (goal.at.ends_behind-ends-requires c).Start (is2 (goal.at.ends_behind-ends-requires c).In-Some-counted)) (supplied2 (goal.at.ends_behind-ends-requires c).Else-runs_out-2)

pub lay_based-requires : goal.lay_based-requires
lay_based-requires c =
    let u = takes-it (goal.at.lay_based-requires c).Start (is2 (goal.at.lay_based-requires c).In-Some-counted) in
    let r = one.based-ready (standing (goal.at.lay_based-requires c).Start) (is2 (goal.at.lay_based-requires c).In-Some-counted) u (supplied2 (goal.at.lay_based-requires c).Else-runs_out-2) (none (goal.at.lay_based-requires c).Start (is2 (goal.at.lay_based-requires c).In-Some-counted)) c.base_at-base.ensures in
    (one.based (standing (goal.at.lay_based-requires c).Start) (is2 (goal.at.lay_based-requires c).In-Some-counted) u (supplied2 (goal.at.lay_based-requires c).Else-runs_out-2) (none (goal.at.lay_based-requires c).Start (is2 (goal.at.lay_based-requires c).In-Some-counted)) c.if-job-k-eq-MONO.false, r.0, r.1)

pub returns : goal.returns
returns c =
    let p = piece2 (goal.at.returns c).In-Some-counted in
    let u = takes-it (goal.at.returns c).Start (is2 (goal.at.returns c).In-Some-counted) in
    let six = supplied2 (goal.at.returns c).Else-runs_out-2 in
    let bare = none (goal.at.returns c).Start (is2 (goal.at.returns c).In-Some-counted) in
    let runs = (one.based-ready (standing (goal.at.returns c).Start) (is2 (goal.at.returns c).In-Some-counted) u six bare c.base_at-base.ensures).1 in
    one.alone-judged (standing (goal.at.returns c).Start) (is2 (goal.at.returns c).In-Some-counted) u six bare
    (subst (λ z. FilledBy (answer p.form c.args.k (given (job (goal.at.returns c).Start) p)) (λ w. based_row (job (goal.at.returns c).Start) p w z) c.args.at.left p c.args.rows.now c.lay_based.new.rows c.lay_based.result)
    c.ends_behind-ends.ensures
    (based-told c.args.k (job (goal.at.returns c).Start) p c.ends_behind-ends.result (one.based (standing (goal.at.returns c).Start) (is2 (goal.at.returns c).In-Some-counted) u six bare c.if-job-k-eq-MONO.false) runs
    (one.gives (standing (goal.at.returns c).Start) (is2 (goal.at.returns c).In-Some-counted) u six bare c.base_at-base.ensures) c.lay_based.ensures))
