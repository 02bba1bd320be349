-- All elements in turn and what is left over, as the walk along them finds it.
use Rattle.std.specs.Prelude.{Ok, Err, ◌≡◌, refl, Bool, true, false, cond, ◌||◌, get_or}
use Rattle.std.proofs.Math.Path.{sym, ap}
use Rattle.std.proofs.Common.{◌∙◌, subst, zero-add, add-zero, arith, lt-ltb, le-ltb}
use mathlib.Core.List.{List, [], ◌∷◌, ◌++◌, map, append_assoc}
use Prim.Native.Nat.{ℕ, suc, ◌+◌, ◌-◌, ◌^◌, ◌≤◌, ◌<◌, zero-le}
use Rattle.std.proofs.Math.Numerals.{add-one}
use Rattle.std.proofs.Math.Nat.{sub-zero}
use Rattle.std.proofs.lemmas.Bool.{not-false}
use Rattle.std.proofs.Math.Dec.{ltb}
use Rattle.basics.specs.Lists.{sum}
use Rattle.refusal.specs.declared.Refusal.{Refusal}
use Rattle.refusal.specs.declared.Refusal.TheVariants.{Supply}
use Rattle.word.specs.declared.Form.{Form}
use Rattle.word.specs.declared.Form.TheVariants.{P, M, G, J}
use Rattle.word.specs.declared.Left.{Left}
use Rattle.word.specs.Both.{takes}
use Rattle.door.specs.declared.Taken.{Taken}
use Rattle.door.specs.declared.Piece.{Piece}
use Rattle.door.specs.Job.{Job, base_count, ruby_count, left_count, element_count, left_by_runs, takes_runs, takes_left_runs, nothing, past, element, elements_from, elements}
use Rattle.door.specs.Refusals.{◌when◌, left_over, element_faults, elements_faults, left_faults}
use Rattle.door.specs.Verdict.{verdict, told_refused, told_passed, front-refused}
use Rattle.door.specs.Elements.{alone}
use Rattle.door.specs.Passed.{Rows, rows, supplied}
use Rattle.door.specs.Walk.{Within, Stands, element_step, few, few_left_lem, reads}

-- the refusals of the elements and of what they leave over
abbrev pub part_faults : Job → List Refusal
part_faults job = elements_faults job 0 (elements job) ++ left_faults job

-- of what is taken, `here` is what elements take by `many`
abbrev pub Adds : (Taken → ℕ) → (Piece → ℕ) → Type 0
Adds here many = (here nothing ≡ 0) × ((at : Taken) (x : Piece) → here (past at x) ≡ here at + many x)

-- the walk at element k: what is left decides, and what was taken and is left make up all
pub record Along (job : Job) (k : ℕ) (at : Taken) : Type 0 where
  pub upto : k ≤ element_count job
  pub within : Within job at
  pub decides : verdict (elements_faults job k (elements_from job (element_count job - k) k at) ++ left_faults job) ≡ verdict (part_faults job)
  pub all : (here : Taken → ℕ) (many : Piece → ℕ) → Adds here many → here at + sum (map many (elements_from job (element_count job - k) k at)) ≡ sum (map many (elements job))

pub along-first : (job : Job) → Along job 0 nothing
unfolding elements
along-first job =
    record {
      upto = zero-le;
      within = record { base = zero-le; ruby = zero-le; left = zero-le; runs = zero-le; left_runs = zero-le; held = zero-le; left_held = zero-le };
      decides = rw (sub-zero (element_count job));
      all = λ here many a. rw (sub-zero (element_count job), a.0) (zero-add _);
    }

pub runs-few : (form : Form) (n : ℕ) → takes_runs form n ≤ n
runs-few P n = zero-le
runs-few M n = zero-le
runs-few G n = zero-le
runs-few J n = omega arith

pub left_runs-few : (form : Form) (gloss : Left) (n : ℕ) → takes_left_runs form gloss n ≤ n
left_runs-few form gloss n = go (left_by_runs form gloss)
  where
    go : (t : Bool) → cond t n 0 ≤ n
    go true = omega arith
    go false = zero-le

module _ (job : Job) (k : ℕ) (at : Taken) (along : Along job k at) (stands : Stands job k at) where
  abbrev y : Piece
  y = element job k at

  abbrev rest : List Piece
  rest = elements_from job (element_count job - (k + 1)) (k + 1) (past at y)

  turn : elements_from job (element_count job - k) k at ≡ y ∷ rest
  unfolding elements_from
  turn = ap (λ (m : ℕ). elements_from job m k at) {x = element_count job - k} {y = suc (element_count job - (k + 1))} (omega (arith, stands.index)) ∙ rw (add-one k)

  goes : verdict (element_faults job k y ++ (elements_faults job (k + 1) rest ++ left_faults job)) ≡ verdict (part_faults job)
  unfolding elements_faults
  goes = sym (rw (turn, add-one k) (ap verdict (append_assoc (element_faults job k y) _ _))) ∙ along.decides

  -- a refusal ends the walk
  pub stopped : {q : Refusal} → Err q ≡ element_step job k at → Err q ≡ verdict (part_faults job)
  stopped e = sym (front-refused (element_faults job k y) _ (told_refused (element_faults job k y) y (sym e))) ∙ goes

  -- an element that passes takes the walk on
  module _ {p : Piece} (e : Ok p ≡ element_step job k at) where
    none : element_faults job k y ≡ []
    none = (told_passed (element_faults job k y) y (sym e)).0

    pub same : p ≡ y
    same = (told_passed (element_faults job k y) y (sym e)).1

    row : Rows job k y
    row = rows job k y none

    -- what is taken with it
    pub past-small : (at.base + p.bases < 2 ^ 40) × (at.ruby + p.rubies < 2 ^ 40) × (at.run + p.bases < 2 ^ 40) × (at.left + p.lefts < 2 ^ 40) × (at.leftrun + p.bases < 2 ^ 40)
    past-small =
        let w = stands.within in
        let c = stands.clean in
        let f = few job k at row.five in
        let l = few_left_lem job k at row.five in
        rw same (
          omega (arith, w.base, c.few, f.few),
          omega (arith, w.ruby, c.few_ruby, f.few_ruby),
          omega (arith, w.runs, w.base, c.few, f.few),
          omega (arith, w.left, c.few_left, l.few),
          omega (arith, w.left_runs, w.base, c.few, f.few),
        )

    next-within : Within job (past at y)
    unfolding element
    next-within =
        let w = stands.within in
        let held = reads job k at row.five (not-false (takes y.form y.gloss) row.sixteen) row.six stands in
        let s = supplied job y row.six in
        record {
          base = s.0;
          ruby = s.1;
          left = s.2;
          runs = omega (arith, w.runs, runs-few y.form y.bases);
          left_runs = omega (arith, w.left_runs, left_runs-few y.form y.gloss y.bases);
          held = held.run;
          left_held = held.left_run;
        }

    pub along-next : Along job (k + 1) (past at p)
    along-next =
        rw same
        (record {
          upto = omega (arith, stands.index);
          within = next-within;
          decides = sym (rw none) ∙ goes;
          all =
              λ here many a. ap (λ z. z + sum (map many rest)) (a.1 at y) ∙ sym (ap (λ (l : List Piece). here at + sum (map many l)) turn ∙ assoc (here at) (many y) (sum (map many rest)))
              ∙ along.all here many a;
        })
      where
        assoc : (a m l : ℕ) → a + (m + l) ≡ a + m + l
        assoc a m l = omega arith

-- a P: it takes one base character, which has to be left, and level one has no row for it
abbrev pub past_plain : Taken → Taken
past_plain at = record { base = at.base + 1; ruby = at.ruby; run = at.run; left = at.left; leftrun = at.leftrun }

module _ (job : Job) (k : ℕ) (at : Taken) (plain : get_or job.kind k 0 ≡ 80) (bare : get_or job.left_kind k 0 ≡ 78) where
  pub piece : element job k at ≡ alone P 1 0 at
  unfolding element
  piece = rw (plain, bare)

  pub plain-stops : base_count job ≤ at.base → Err (Supply k) ≡ element_step job k at
  plain-stops h = rw (piece, plain, bare, lt-ltb (base_count job) (at.base + 1) (omega arith))

  plain-goes : Within job at → at.base < base_count job → Ok (alone P 1 0 at) ≡ element_step job k at
  plain-goes w h =
      rw (piece, plain, bare, le-ltb (base_count job) (at.base + 1) (omega arith), le-ltb (ruby_count job) (at.ruby + 0) (omega (arith, w.ruby)), le-ltb (left_count job) (at.left + 0) (omega (arith, w.left)))

  pub past_plain_lem : past at (alone P 1 0 at) ≡ past_plain at
  past_plain_lem = rw (add-zero at.ruby, add-zero at.run, add-zero at.left, add-zero at.leftrun)

  pub along-plain : Stands job k at → at.base < base_count job → Along job k at → Along job (k + 1) (past_plain at)
  along-plain st h along = subst (Along job (k + 1)) past_plain_lem (along-next job k at along st (plain-goes along.within h))

-- the end of the walk: what is left over decides
module _ (job : Job) (k : ℕ) (at : Taken) (h : element_count job ≤ k) (along : Along job k at) where
  empty : elements_from job (element_count job - k) k at ≡ []
  unfolding elements_from
  empty = ap (λ (m : ℕ). elements_from job m k at) {x = element_count job - k} {y = 0} (omega arith)

  taken-all : (here : Taken → ℕ) (many : Piece → ℕ) → Adds here many → sum (map many (elements job)) ≡ here at
  taken-all here many a = omega (arith, along.all here many a, ap (λ (l : List Piece). sum (map many l)) empty)

  pub ends : verdict (Supply (element_count job) when (ltb at.base (base_count job) || (ltb at.ruby (ruby_count job) || ltb at.left (left_count job)))) ≡ verdict (part_faults job)
  unfolding elements_faults left_faults
  ends =
      sym (ap (λ (t : Bool). verdict (Supply (element_count job) when t)) over) ∙ sym (ap (λ (l : List Piece). verdict (elements_faults job k l ++ left_faults job)) empty) ∙ along.decides
    where
      over : left_over job (elements job) ≡ (ltb at.base (base_count job) || (ltb at.ruby (ruby_count job) || ltb at.left (left_count job)))
      over =
          rw (taken-all (λ a. a.base) (λ p. p.bases) (refl, λ a x. refl), taken-all (λ a. a.ruby) (λ p. p.rubies) (refl, λ a x. refl), taken-all (λ a. a.left) (λ p. p.lefts) (refl, λ a x. refl))
