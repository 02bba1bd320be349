-- An accepted job is written in form two within 65,535 bytes: its classes are at most 27, its widths at most 4,096, its blanks at most the width, its flags at most 1 (3, 4), its counts at most 32
-- and 64 (5), and its elements take the base characters one after the other (6). So each line is as short as `Modest` asks for.
use Rattle.std.specs.Prelude.{Bool, true, false, ◌&&◌, ◌||◌, List, [], ◌∷◌, ◌++◌, map, ◌≡◌, refl, ℕ, zero, suc, ◌+◌, ◌*◌, ◌≤◌, ◌<◌, leb, length, get_or}
use Rattle.std.proofs.lemmas.Bool.{false≢true}
use Rattle.std.proofs.Common.{◌∙◌, ap₂, sym, subst, add-zero, arith, leb-true, length-append}
use Rattle.std.proofs.Math.Path.{ap}
use Rattle.std.proofs.Math.ListN.{drop}
use Rattle.basics.specs.Lists.{sum, All}
use Rattle.rows.specs.Print.{line_text}
use Rattle.rows.specs.Table.{column}
use Rattle.elements.specs.declared.SheetForm.TheVariants.{One, Two}
use Rattle.elements.specs.Print.{Right, M, G, J, Left, Entry, P, word, none, element_text, elements_text, Fit, bases_of, element_of, rows_of, runs_of, right_runs, all_runs}
use Rattle.sheet.specs.Form.{Written, InForm}
use Rattle.class.specs.Class.{accepted}
use Rattle.word.specs.declared.Form.{Form}
use Rattle.door.specs.declared.Taken.{Taken}
use Rattle.door.specs.Job.{Job, base_count, ruby_count, element_count, entries, form_of, takes_base, takes_ruby, takes_runs, nothing, past, element, elements_from, elements}
use Rattle.door.specs.Passed.{Passed, GoodBase, GoodReading, GoodElement, Tiled}
use Rattle.job.proofs.Bounded.{tiled-sum}
use Rattle.other_form.specs.Short.{Modest, RightSmall, short_base, short_ruby, short-word, short-plain}

-- Lists.

all-index : {A : Type 0} (Q : A → Type 0) (d : A) (xs : List A) → ((i : ℕ) → i < length xs → Q (get_or xs i d)) → All Q xs
all-index Q d [] f = tt
all-index Q d (x ∷ xs) f = (f 0 (omega arith), all-index Q d xs (λ i h. f (suc i) (omega arith)))

all_get : {A : Type 0} (Q : A → Type 0) (d : A) (xs : List A) → All Q xs → (i : ℕ) → i < length xs → Q (get_or xs i d)
all_get Q d [] a i h = absurd (omega arith)
all_get Q d (x ∷ xs) a zero h = a.0
all_get Q d (x ∷ xs) a (suc i) h = all_get Q d xs a.1 i (omega arith)

column-at : (j : ℕ) (rows : List (List ℕ)) (i : ℕ) → i < length rows → get_or (column j rows) i 0 ≡ get_or (get_or rows i []) j 0
column-at j [] i h = absurd (omega arith)
column-at j (r ∷ rs) zero h = refl
column-at j (r ∷ rs) (suc i) h = column-at j rs i (omega arith)

head_of : (l vs : List ℕ) (k v : ℕ) → drop k l ≡ v ∷ vs → get_or l k 0 ≡ v
head_of [] vs zero v e = absurd (let z : ◌≡◌ {A = ℕ} 0 1 = cc in omega arith)
head_of [] vs (suc k) v e = absurd (let z : ◌≡◌ {A = ℕ} 0 1 = cc in omega arith)
head_of (x ∷ l) vs zero v e = cc
head_of (x ∷ l) vs (suc k) v e = head_of l vs k v e

tail_of : (l vs : List ℕ) (k v : ℕ) → drop k l ≡ v ∷ vs → drop (suc k) l ≡ vs
tail_of [] vs zero v e = absurd (let z : ◌≡◌ {A = ℕ} 0 1 = cc in omega arith)
tail_of [] vs (suc k) v e = absurd (let z : ◌≡◌ {A = ℕ} 0 1 = cc in omega arith)
tail_of (x ∷ l) vs zero v e = cc
tail_of (x ∷ l) vs (suc k) v e = tail_of l vs k v e

entries_are : (l ys rest : List ℕ) (a : ℕ) → drop a l ≡ ys ++ rest → entries l a (length ys) ≡ ys
entries_are l [] rest a e = refl
entries_are l (y ∷ ys) rest a e = ap₂ {C = List ℕ} (λ x xs. x ∷ xs) (head_of l (ys ++ rest) a y e) (entries_are l ys rest (suc a) (tail_of l (ys ++ rest) a y e))

rest_are : (l ys rest : List ℕ) (a : ℕ) → drop a l ≡ ys ++ rest → drop (a + length ys) l ≡ rest
rest_are l [] rest a e = ap (λ n. drop n l) (add-zero a) ∙ e
rest_are l (y ∷ ys) rest a e = ap (λ n. drop n l) (on a (length ys)) ∙ rest_are l ys rest (suc a) (tail_of l (ys ++ rest) a y e)
  where
    on : (a n : ℕ) → a + suc n ≡ suc a + n
    on a n = omega arith

each-small : (vs : List ℕ) → sum vs ≤ 64 → All (λ v. v ≤ 99) vs
each-small [] h = tt
each-small (v ∷ vs) h = (omega arith, each-small vs (omega arith))

-- "Accepted classes are 1 to 19 and 24 to 27."
class-small : (c : ℕ) → accepted c ≡ true → c ≤ 99
unfolding accepted
class-small c e = go (leb 1 c) (leb c 19) (leb 24 c) (leb c 27) refl refl e
  where
    go : (p q r s : Bool) → leb c 19 ≡ q → leb c 27 ≡ s → ((p && q) || (r && s)) ≡ true → c ≤ 99
    go true true r s f g e = omega (arith, leb-true c 19 f)
    go true false true true f g e = omega (arith, leb-true c 27 g)
    go false q true true f g e = omega (arith, leb-true c 27 g)
    go true false true false f g e = absurd (false≢true e)
    go true false false s f g e = absurd (false≢true e)
    go false q true false f g e = absurd (false≢true e)
    go false q false s f g e = absurd (false≢true e)

-- Characters.

five : (row : List ℕ) → length row ≡ 5 → row ≡ get_or row 0 0 ∷ get_or row 1 0 ∷ get_or row 2 0 ∷ get_or row 3 0 ∷ get_or row 4 0 ∷ []
five [] e = absurd (omega arith)
five (a ∷ []) e = absurd (omega arith)
five (a ∷ b ∷ []) e = absurd (omega arith)
five (a ∷ b ∷ c ∷ []) e = absurd (omega arith)
five (a ∷ b ∷ c ∷ d ∷ []) e = absurd (omega arith)
five (a ∷ b ∷ c ∷ d ∷ f ∷ []) e = refl
five (a ∷ b ∷ c ∷ d ∷ f ∷ g ∷ row) e = absurd (omega arith)

two : (row : List ℕ) → length row ≡ 2 → row ≡ get_or row 0 0 ∷ get_or row 1 0 ∷ []
two [] e = absurd (omega arith)
two (a ∷ []) e = absurd (omega arith)
two (a ∷ b ∷ []) e = refl
two (a ∷ b ∷ c ∷ row) e = absurd (omega arith)

-- What is needed of a job: its lists are the columns of the rows that are written.
pub record JobHas (job : Job) (r : Written) : Type 0 where
  pub class : job.class ≡ column 0 r.base
  pub width : job.width ≡ column 1 r.base
  pub before : job.before ≡ column 2 r.base
  pub after : job.after ≡ column 3 r.base
  pub flag : job.flag ≡ column 4 r.base
  pub ruby_class : job.ruby_class ≡ column 0 r.ruby
  pub ruby_width : job.ruby_width ≡ column 1 r.ruby
  pub kind : job.kind ≡ column 0 (rows_of r.elem)
  pub element_base : job.element_base ≡ column 1 (rows_of r.elem)
  pub element_ruby : job.element_ruby ≡ column 2 (rows_of r.elem)
  pub run : job.run ≡ all_runs r.elem
  pub bases : base_count job ≡ length r.base
  pub rubies : ruby_count job ≡ length r.ruby
  pub elements : element_count job ≡ length r.elem

module _ (job : Job) (r : Written) (has : JobHas job r) (passed : Passed job) where
  base-lines : All (λ (row : List ℕ). length row ≡ 5) r.base → All (λ (row : List ℕ). length (line_text row) ≤ 20) r.base
  base-lines wide = all-index (λ (row : List ℕ). length (line_text row) ≤ 20) [] r.base (λ i h. go i h (passed.base i (omega (arith, has.bases, h))))
    where
      at : (j : ℕ) (xs : List ℕ) → xs ≡ column j r.base → (i : ℕ) → i < length r.base → get_or xs i 0 ≡ get_or (get_or r.base i []) j 0
      at j xs e i h = ap (λ l. get_or l i 0) e ∙ column-at j r.base i h

      go : (i : ℕ) → i < length r.base → GoodBase job i → length (line_text (get_or r.base i [])) ≤ 20
      go i h g =
          let row = get_or r.base i [] in
          let c = at 0 job.class has.class i h in
          let w = at 1 job.width has.width i h in
          let b = at 2 job.before has.before i h in
          let a = at 3 job.after has.after i h in
          let f = at 4 job.flag has.flag i h in
          rw (five row (all_get (λ (row : List ℕ). length row ≡ 5) [] r.base wide i h))
          (short_base (get_or row 0 0) (get_or row 1 0) (get_or row 2 0) (get_or row 3 0) (get_or row 4 0)
          (omega (arith, c, class-small (get_or job.class i 0) g.class))
          (omega (arith, w, g.narrow))
          (omega (arith, w, b, a, g.blanks))
          (omega (arith, f, g.flag)))

  ruby-lines : All (λ (row : List ℕ). length row ≡ 2) r.ruby → All (λ (row : List ℕ). length (line_text row) ≤ 8) r.ruby
  ruby-lines wide = all-index (λ (row : List ℕ). length (line_text row) ≤ 8) [] r.ruby (λ i h. go i h (passed.ruby i (omega (arith, has.rubies, h))))
    where
      at : (j : ℕ) (xs : List ℕ) → xs ≡ column j r.ruby → (i : ℕ) → i < length r.ruby → get_or xs i 0 ≡ get_or (get_or r.ruby i []) j 0
      at j xs e i h = ap (λ l. get_or l i 0) e ∙ column-at j r.ruby i h

      go : (i : ℕ) → i < length r.ruby → GoodReading job.ruby_class job.ruby_width i → length (line_text (get_or r.ruby i [])) ≤ 8
      go i h g =
          let row = get_or r.ruby i [] in
          let c = at 0 job.ruby_class has.ruby_class i h in
          let w = at 1 job.ruby_width has.ruby_width i h in
          rw (two row (all_get (λ (row : List ℕ). length row ≡ 2) [] r.ruby wide i h))
          (short_ruby (get_or row 0 0) (get_or row 1 0) (omega (arith, c, class-small (get_or job.ruby_class i 0) g.class)) (omega (arith, w, g.narrow)))

-- Elements.

-- an element of a job by what its lists say
record Says (job : Job) (k : ℕ) (at : Taken) (f : Form) (b m : ℕ) : Type 0 where
  form : (element job k at).form ≡ f
  bases : (element job k at).bases ≡ b
  rubies : (element job k at).rubies ≡ m

says : (job : Job) (k : ℕ) (at : Taken) (a b c : ℕ) → get_or job.kind k 0 ≡ a → get_or job.element_base k 0 ≡ b → get_or job.element_ruby k 0 ≡ c →
    Says job k at (form_of a) (takes_base (form_of a) b) (takes_ruby (form_of a) c (sum (entries job.run at.run (takes_base (form_of a) b))))
unfolding element
says job k at a b c e f g = rw (sym e, sym f, sym g) (record { form = refl; bases = refl; rubies = refl })

-- from element k on the job's lists say the elements es, and from where its runs are taken they are those of es
record Aligned (job : Job) (es : List Entry) (k : ℕ) (at : Taken) : Type 0 where
  kind : drop k job.kind ≡ column 0 (rows_of es)
  base : drop k job.element_base ≡ column 1 (rows_of es)
  ruby : drop k job.element_ruby ≡ column 2 (rows_of es)
  run : drop at.run job.run ≡ all_runs es

-- an element's line, and what follows it
record Stepped (job : Job) (e : Entry) (es : List Entry) (k : ℕ) (at : Taken) : Type 0 where
  line : length (element_text Two e) ≤ 10 + 3 * (element job k at).bases
  next : Aligned job es (suc k) (past at (element job k at))

module _ (job : Job) (es : List Entry) (k : ℕ) (at : Taken) where
  -- the lists move on by one, and the runs by those of the element
  moved : (e : Entry) → Aligned job (e ∷ es) k at → takes_runs (element job k at).form (element job k at).bases ≡ length (runs_of e) → Aligned job es (suc k) (past at (element job k at))
  unfolding rows_of all_runs
  moved e a u =
      record {
        kind = tail_of job.kind (column 0 (rows_of es)) k (element_of e).kind a.kind;
        base = tail_of job.element_base (column 1 (rows_of es)) k (element_of e).base a.base;
        ruby = tail_of job.element_ruby (column 2 (rows_of es)) k (element_of e).ruby a.ruby;
        run = ap (λ n. drop (at.run + n) job.run) u ∙ rest_are job.run (runs_of e) (all_runs es) at.run a.run;
      }

  told : (e : Entry) → Aligned job (e ∷ es) k at →
      let f = form_of (element_of e).kind in
      let b = takes_base f (element_of e).base in
      Says job k at f b (takes_ruby f (element_of e).ruby (sum (entries job.run at.run b)))
  unfolding rows_of
  told e a =
      says job k at (element_of e).kind (element_of e).base (element_of e).ruby
      (head_of job.kind (column 0 (rows_of es)) k (element_of e).kind a.kind)
      (head_of job.element_base (column 1 (rows_of es)) k (element_of e).base a.base)
      (head_of job.element_ruby (column 2 (rows_of es)) k (element_of e).ruby a.ruby)

  worded : (r : Right) (l : Left) → l ≡ none → RightSmall r → bases_of r ≡ (element job k at).bases → length (element_text Two (word r l)) ≤ 10 + 3 * (element job k at).bases
  worded r l e h b = rw e (omega (arith, short-word r h, b))

  step : (e : Entry) → Aligned job (e ∷ es) k at → Fit One e → GoodElement job (element job k at) → Stepped job e es k at
  unfolding Fit element_of runs_of right_runs all_runs bases_of
  step P a h g =
      let t = told P a in
      record { line = omega (arith, short-plain); next = moved P a (ap₂ takes_runs t.form t.bases) }
  step (word (M r) l) a h g =
      let t = told (word (M r) l) a in
      record {
        line = worded (M r) l h.1 (omega (arith, t.rubies, g.counts.few_ruby)) (sym t.bases);
        next = moved (word (M r) l) a (ap₂ takes_runs t.form t.bases);
      }
  step (word (G b r) l) a h g =
      let t = told (word (G b r) l) a in
      record {
        line = worded (G b r) l h.1 (omega (arith, t.bases, g.counts.few), omega (arith, t.rubies, g.counts.few_ruby)) (sym t.bases);
        next = moved (word (G b r) l) a (ap₂ takes_runs t.form t.bases);
      }
  step (word (J runs) l) a h g =
      let t = told (word (J runs) l) a in
      let e : sum (entries job.run at.run (length runs)) ≡ sum runs = ap sum (entries_are job.run runs (all_runs es) at.run a.run) in
      record {
        line = worded (J runs) l h.1 (omega (arith, t.bases, g.counts.few), each-small runs (omega (arith, e, t.rubies, g.counts.few_ruby))) (sym t.bases);
        next = moved (word (J runs) l) a (ap₂ takes_runs t.form t.bases);
      }

lines-short : (job : Job) (es : List Entry) (k : ℕ) (at : Taken) → Aligned job es k at → All (Fit One) es → All (GoodElement job) (elements_from job (length es) k at) →
    length (elements_text Two es) ≤ 10 * length es + 3 * sum (map (λ p. p.bases) (elements_from job (length es) k at))
unfolding elements_text elements_from
lines-short job [] k at a h g = omega arith
lines-short job (e ∷ es) k at a h g =
    let s = step job es k at e a h.0 g.0 in
    omega (arith, length-append (element_text Two e) (elements_text Two es), s.line, lines-short job es (suc k) (past at (element job k at)) s.next h.1 g.1)

-- an accepted job's numbers are short enough
pub modest : (job : Job) (r : Written) → JobHas job r → Passed job → InForm One r → Modest r
unfolding elements
modest job r has passed f =
    let n = has.elements in
    let es = elements_from job (length r.elem) 0 nothing in
    let same : elements_from job (element_count job) 0 nothing ≡ es = ap (λ n. elements_from job n 0 nothing) n in
    let all = subst (All (GoodElement job)) same passed.each in
    let tiles = tiled-sum (λ p. p.base) (λ p. p.bases) 0 es (base_count job) (subst (λ xs. Tiled (λ p. p.base) (λ p. p.bases) 0 xs (base_count job)) same passed.tiled) in
    let long = lines-short job r.elem 0 nothing (record { kind = has.kind; base = has.element_base; ruby = has.element_ruby; run = has.run }) f.elem.fit all in
    record {
      base = base-lines job r has passed f.base.wide;
      ruby = ruby-lines job r has passed f.ruby.wide;
      elem = omega (arith, long, tiles, f.elem.few, passed.few_base);
    }
