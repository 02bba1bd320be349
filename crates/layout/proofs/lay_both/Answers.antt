-- Number 5, then 16, then 6, each its row. Past them stands the piece, and is laid with its left reading.
use Rattle.std.specs.Prelude.{Some, Result}
use mathlib.Core.Path.{◌≡◌, refl, sym, ap, ◌∙◌, subst}
use mathlib.Core.Bool.{true, false, cond}
use mathlib.Core.List.{List}
use Prim.Native.Nat.{ℕ, ◌+◌, ◌<◌}
use Rattle.refusal.specs.declared.Refusal.{Refusal}
use Rattle.word.specs.declared.Answer.TheVariants.{Set}
use Rattle.word.specs.Both.{takes}
use Rattle.word.specs.Answered.{answer_both, passed}
use Rattle.cells.specs.declared.Cell.{Cell}
use Rattle.door.specs.declared.Piece.{Piece}
use Rattle.door.specs.Job.{Job, given, gloss_of}
use Rattle.door.specs.Lent.{job_in}
use Rattle.door.specs.Refusals.{run_out}
use Rattle.door.specs.Walk as walk
use Rattle.job.specs.Line.{cuts}
use Rattle.word_rows.specs.Word.{flagged, judged-stops, judged-goes, stop_by}
use Rattle.word_rows.specs.Table.{Filled, filled_as}
use Rattle.two_readings.specs.Left.{right_as, left_as, own_row, character_row, both_row, WrittenBy, cuts-by_word, BothReady, right-ready, left-ready, both-asks, both_told}
use Rattle.two_readings.specs.Left.{character_both, laid_both, apart-runs}
use Rattle.layout.specs.Step.{Standing, Stepped, there, few_runs_lem, out-is}
use Rattle.layout.specs.Element as one
use Rattle.layout.specs.Element.{both_of}
use Rattle.layout.proofs.lay_both.Goals as goal
use Rattle.layout.proofs.lay_both.Goals.{After-both_answer-answer, After-ends_behind-ends, After-runs_out, Else-not-takes_left, Else-runs_out, In-Some, Start}

abbrev job : Start → Job
job a = job_in a.args.job.now

-- where the walk stands
standing : (a : Start) → Standing (job a) a.args.k a.args.at a.args.rows.now
standing a = a.requires.1

abbrev piece : In-Some → Piece
piece c = c.in-Some.p

is : (c : In-Some) → walk.counting (job (goal.at.In-Some c).Start) c.args.k c.args.at ≡ Some (piece c)
is c = sym c.count_element-counted.ensures ∙ c.in-Some.is

takes-it : (c : Else-not-takes_left) → let p = piece (goal.at.Else-not-takes_left c).In-Some in takes p.form p.gloss ≡ true
takes-it c = sym c.takes_left.ensures ∙ c.if-not-takes_left.false

out : (c : After-runs_out) → c.runs_out.result ≡ run_out (job (goal.at.After-runs_out c).Start) (piece (goal.at.After-runs_out c).In-Some)
out c = c.runs_out.ensures ∙ out-is (job (goal.at.After-runs_out c).Start) (piece (goal.at.After-runs_out c).In-Some) c.requires.0

supplied : (c : Else-runs_out) → run_out (job (goal.at.Else-runs_out c).Start) (piece (goal.at.Else-runs_out c).In-Some) ≡ false
supplied c = sym (out (goal.at.Else-runs_out c).After-runs_out) ∙ c.if-runs_out.false

pub count_element-counted-requires : goal.count_element-counted-requires
count_element-counted-requires c =
    few_runs_lem (standing (goal.at.count_element-counted-requires c).Start)

pub bounds-e-k : goal.bounds-e-k
bounds-e-k c = (there (standing (goal.at.bounds-e-k c).Start)).0

pub bounds-e-k-2 : goal.bounds-e-k-2
bounds-e-k-2 c = (there (standing (goal.at.bounds-e-k-2 c).Start)).1

pub bounds-e-k-3 : goal.bounds-e-k-3
bounds-e-k-3 c = (there (standing (goal.at.bounds-e-k-3 c).Start)).2

pub bounds-e-k-4 : goal.bounds-e-k-4
bounds-e-k-4 c = (there (standing (goal.at.bounds-e-k-4 c).Start)).3

pub bounds-e-k-5 : goal.bounds-e-k-5
bounds-e-k-5 c = (there (standing (goal.at.bounds-e-k-5 c).Start)).4

pub returns-in_default : goal.returns-in_default
returns-in_default c =
    one.count-stops (standing (goal.at.returns-in_default c).Start) (sym c.count_element-counted.ensures ∙ c.in_default.is)

pub returns-then-not-takes_left : goal.returns-then-not-takes_left
returns-then-not-takes_left c =
    one.kind-stops (standing (goal.at.returns-then-not-takes_left c).Start) (is (goal.at.returns-then-not-takes_left c).In-Some) (sym c.takes_left.ensures ∙ c.if-not-takes_left.true)

pub runs_out-requires : goal.runs_out-requires
runs_out-requires c =
    one.small (standing (goal.at.runs_out-requires c).Start) (is (goal.at.runs_out-requires c).In-Some)

pub returns-then-runs_out : goal.returns-then-runs_out
returns-then-runs_out c =
    one.short-stops (standing (goal.at.returns-then-runs_out c).Start) (is (goal.at.returns-then-runs_out c).In-Some) (takes-it (goal.at.returns-then-runs_out c).Else-not-takes_left) (sym (out (goal.at.returns-then-runs_out c).After-runs_out) ∙ c.if-runs_out.true)

-- its left kind is one that it takes, so it has left characters
some : (e : Else-runs_out) → 0 < (piece (goal.at.Else-runs_out e).In-Some).lefts
some e =
    one.left-some (standing (goal.at.Else-runs_out e).Start) (is (goal.at.Else-runs_out e).In-Some) (takes-it (goal.at.Else-runs_out e).Else-not-takes_left) e.requires.2

-- what each of the following asks for
ready : (e : Else-runs_out) → BothReady (both_of (job (goal.at.Else-runs_out e).Start)) (piece (goal.at.Else-runs_out e).In-Some) e.args.rows.now
ready e =
    one.both-ready (standing (goal.at.Else-runs_out e).Start) (is (goal.at.Else-runs_out e).In-Some) (takes-it (goal.at.Else-runs_out e).Else-not-takes_left) (supplied e) (some e)

pub base_beside-base-requires : goal.base_beside-base-requires
base_beside-base-requires c =
    one.base-ready (standing (goal.at.base_beside-base-requires c).Start) (is (goal.at.base_beside-base-requires c).In-Some) (takes-it (goal.at.base_beside-base-requires c).Else-not-takes_left) (supplied (goal.at.base_beside-base-requires c).Else-runs_out)

pub right_at-right-requires : goal.right_at-right-requires
right_at-right-requires c = right-ready (both_of (job (goal.at.right_at-right-requires c).Start)) (piece (goal.at.right_at-right-requires c).In-Some) (ready (goal.at.right_at-right-requires c).Else-runs_out)

pub left_at-left-requires : goal.left_at-left-requires
left_at-left-requires c = left-ready (both_of (job (goal.at.left_at-left-requires c).Start)) (piece (goal.at.left_at-left-requires c).In-Some) (ready (goal.at.left_at-left-requires c).Else-runs_out)

pub both_answer-answer-requires : goal.both_answer-answer-requires
both_answer-answer-requires c =
    let q = both-asks (both_of (job (goal.at.both_answer-answer-requires c).Start)) (piece (goal.at.both_answer-answer-requires c).In-Some) (ready (goal.at.both_answer-answer-requires c).Else-runs_out) c.base_beside-base.ensures c.right_at-right.ensures c.left_at-left.ensures in
    (q.0, (standing (goal.at.both_answer-answer-requires c).Start).house, q.1)

told : (m : After-both_answer-answer) →
    let p = piece (goal.at.After-both_answer-answer m).In-Some in
    m.both_answer-answer.result ≡ answer_both p.form m.args.k (given (both_of (job (goal.at.After-both_answer-answer m).Start)) p) (gloss_of (both_of (job (goal.at.After-both_answer-answer m).Start)) p)
told m =
    m.both_answer-answer.ensures
    ∙ both_told (both_of (job (goal.at.After-both_answer-answer m).Start)) (piece (goal.at.After-both_answer-answer m).In-Some) (ready (goal.at.After-both_answer-answer m).Else-runs_out) m.base_beside-base.ensures m.right_at-right.ensures m.left_at-left.ensures m.args.k refl

-- the step of an element whose answer was taken apart
abbrev Laid : (e : Else-runs_out) → List Cell → Result Piece Refusal → Type 0
Laid e t s =
    let p = piece (goal.at.Else-runs_out e).In-Some in
    WrittenBy (answer_both p.form e.args.k (given (both_of (job (goal.at.Else-runs_out e).Start)) p) (gloss_of (both_of (job (goal.at.Else-runs_out e).Start)) p)) (both_row (both_of (job (goal.at.Else-runs_out e).Start)) p) p e.args.rows.now t s

stepped : (e : Else-runs_out) {t : List Cell} {s : Result Piece Refusal} → Laid e t s → Stepped (job (goal.at.Else-runs_out e).Start) e.args.k e.args.at e.args.rows.now t s
stepped e j =
    one.both-judged (standing (goal.at.Else-runs_out e).Start) (is (goal.at.Else-runs_out e).In-Some) (takes-it (goal.at.Else-runs_out e).Else-not-takes_left) (supplied e) (some e) j

pub returns-in_default-answer : goal.returns-in_default-answer
returns-in_default-answer c =
    let q = c.in_default-answer.is in
    stepped (goal.at.returns-in_default-answer c).Else-runs_out (judged-stops (sym (told (goal.at.returns-in_default-answer c).After-both_answer-answer) ∙ q) (c.refused.ensures ∙ ap (stop_by _) q))

pub ends_behind-ends-requires : goal.ends_behind-ends-requires
ends_behind-ends-requires c = let w = (ready (goal.at.ends_behind-ends-requires c).Else-runs_out).word in (w.some, w.few, w.flag)

set : (c : After-ends_behind-ends) →
    let p = piece (goal.at.After-ends_behind-ends c).In-Some in
    answer_both p.form c.args.k (given (both_of (job (goal.at.After-ends_behind-ends c).Start)) p) (gloss_of (both_of (job (goal.at.After-ends_behind-ends c).Start)) p) ≡ Set c.in-Set.w
set c = sym (told (goal.at.After-ends_behind-ends c).After-both_answer-answer) ∙ c.in-Set.is

pub put_characters-requires : goal.put_characters-requires
put_characters-requires c =
    let h = ready (goal.at.put_characters-requires c).Else-runs_out in
    let r = apart-runs (piece (goal.at.put_characters-requires c).In-Some) (sym c.is_apart.ensures ∙ c.if-is_apart.true) in
    record {
      few = h.word.few;
      width = h.word.width;
      narrow = h.word.small.narrow;
      house = (standing (goal.at.put_characters-requires c).Start).house;
      right = right_as (h.jukugo r.0).own;
      left = left_as (h.lefts r.1);
      held = h.word.room;
    }

pub returns-then-is_apart : goal.returns-then-is_apart
returns-then-is_apart c =
    let p = piece (goal.at.returns-then-is_apart c).In-Some in
    let J = both_of (job (goal.at.returns-then-is_apart c).Start) in
    let w = c.in-Set.w in
    let yes = sym c.is_apart.ensures ∙ c.if-is_apart.true in
    let Done : (ℕ → Cell) → Type 0 = λ f. Filled f p.base (p.base + p.bases) c.args.rows.now c.put_characters.new.rows in
    stepped (goal.at.returns-then-is_apart c).Else-runs_out
    (judged-goes (set (goal.at.returns-then-is_apart c).After-ends_behind-ends) c.put_characters.ensures.long
    (filled_as (character_both J p (flagged J p)) (both_row J p w) p.base (p.base + p.bases) c.args.rows.now c.put_characters.new.rows
    (λ j l h. subst (λ z. cond z (character_both J p (flagged J p) j) (own_row J p w (flagged J p) j) ≡ both_row J p w j) yes (laid_both J p w j l h))
    (subst (λ z. Done (character_both J p z)) c.ends_behind-ends.ensures c.put_characters.ensures)))

pub put_whole-requires : goal.put_whole-requires
unfolding cuts
put_whole-requires c =
    let p = piece (goal.at.put_whole-requires c).In-Some in
    let J = both_of (job (goal.at.put_whole-requires c).Start) in
    let h = ready (goal.at.put_whole-requires c).Else-runs_out in
    let word = (passed p.form c.args.k (given J p) (gloss_of J p) (set (goal.at.put_whole-requires c).After-ends_behind-ends)).word in
    record {
      some = h.word.some;
      few = h.word.few;
      few_ruby = h.word.few_ruby;
      few_lefts = h.few_lefts;
      here = h.ready.here;
      parted = cuts-by_word J p h.ready.here h.taken (sym c.is_apart.ensures ∙ c.if-is_apart.false) ∙ ap (λ v. v.right.runs) (sym word);
      jukugo = h.jukugo;
      lefts = h.lefts;
      held = h.word.room;
    }

pub returns : goal.returns
unfolding cuts
returns c =
    let p = piece (goal.at.returns c).In-Some in
    let J = both_of (job (goal.at.returns c).Start) in
    let w = c.in-Set.w in
    let no = sym c.is_apart.ensures ∙ c.if-is_apart.false in
    let Done : (ℕ → Cell) → Type 0 = λ f. Filled f p.base (p.base + p.bases) c.args.rows.now c.put_whole.new.rows in
    stepped (goal.at.returns c).Else-runs_out
    (judged-goes (set (goal.at.returns c).After-ends_behind-ends) c.put_whole.ensures.long
    (filled_as (own_row J p w (flagged J p)) (both_row J p w) p.base (p.base + p.bases) c.args.rows.now c.put_whole.new.rows
    (λ j l h. sym (ap (λ z. cond z (character_row J p j) (own_row J p w (flagged J p) j)) no))
    (subst (λ z. Done (own_row J p w z)) c.ends_behind-ends.ensures c.put_whole.ensures)))
