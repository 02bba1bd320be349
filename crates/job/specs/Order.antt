-- The list of refusals is the table's rows in document 01's order: it holds those whose condition holds and no other, and what stands first in it comes before
-- all others. So its head is the first of the table. A new number of a group asks for its clause of `listed` and nothing else: the tests of its group's rows
-- compute, and that each row of the list is one of the table is searched for.
use Rattle.std.proofs.Common.{ap₂, ◌∙◌, inl, add-zero, zero-add, sym, ap, subst, zero-le, arith, ltb-true, lt-ltb}
use Rattle.std.specs.Prelude.{Bool, false, cond, ◌⊎◌, eqb, length, get_or, ◌≡◌, refl, true, List, [], ◌∷◌, ◌++◌, map, ℕ, zero, suc, ◌+◌, ◌≤◌, ◌<◌}
use mathlib.Core.List.{head?}
use Rattle.std.proofs.Math.Logic.{inr}
use Rattle.std.proofs.Math.Option.{Option, none, some}
use Rattle.std.proofs.Math.Dec.{ltb}
use Rattle.basics.specs.Lists.{count, keep, each, All}
use Rattle.refusal.specs.declared.Refusal.{Refusal}
use Rattle.refusal.specs.declared.Refusal.TheVariants.{Range, Ratio, Profile, Count, Short, Character, Blanks, Element, LeftKind, Supply, BlankInside, JukugoBase, Mixed, WesternOver, NoBreak, Form, OtherForm}
use Rattle.refusal.specs.Refusal.{place_of}
use Rattle.door.specs.declared.Piece.{Piece}
use Rattle.door.specs.Job.{Job, base_count, ruby_count, left_count, element_count, elements}
use Rattle.door.specs.Refusals.{reading_wrong, left_over, job_table, base_table, element_table, base_faults, ruby_faults, gloss_faults, element_faults, job_faults, char_faults, elements_faults, left_faults, own_faults}
use Rattle.door.specs.Passed.{limits}
use Rattle.job.specs.Line.{furthest, ends_from, ends}
use Rattle.job.specs.Refusals.{no_break, line_faults, lines_faults, faults, fault}
use Rattle.job.specs.Laws.{all_append, all-each}
use Rattle.job.specs.Walk.{length-elements}
use Rattle.job.specs.Promise.{nobody}
use Rattle.job.specs.Table.{Member, Begins, Row, stage, line, Before, First}
use Rattle.job.specs.Rows as rows
use Rattle.job.specs.Rows.{map-all, all_same, all_member, all_when, all_held, all-walk, in_left, in_right, in_when, in_walk, find, exact, numbered, Leads, In, Within, here}

-- The elements' rows are a walk too: element k of the job at k.

abbrev part_faults : Job → ℕ → List Refusal
part_faults job k = element_faults job k (get_or (elements job) k nobody)

elements_from : (job : Job) (k : ℕ) (xs : List Piece) → ((i : ℕ) → i < length xs → get_or (elements job) (k + i) nobody ≡ get_or xs i nobody) →
    elements_faults job k xs ≡ each (part_faults job) (count k (length xs))
unfolding elements_faults
elements_from job k [] f = refl
elements_from job k (x ∷ xs) f =
    ap₂ (λ (a b : List Refusal). a ++ b) (ap (element_faults job k) (sym (f 0 (omega arith)) ∙ ap (λ j. get_or (elements job) j nobody) (add-zero k)))
    (elements_from job (suc k) xs (λ i h. ap (λ j. get_or (elements job) j nobody) (step k i) ∙ f (suc i) (omega arith)))
  where
    step : (k i : ℕ) → suc k + i ≡ k + suc i
    step k i = omega arith

elements-walk : (job : Job) → elements_faults job 0 (elements job) ≡ each (part_faults job) (count 0 (element_count job))
elements-walk job =
    elements_from job 0 (elements job) (λ i h. ap (λ j. get_or (elements job) j nobody) (zero-add i)) ∙ ap (λ n. each (part_faults job) (count 0 n)) (length-elements job)

-- The row of one character of either side.
abbrev reading_table : ℕ → List ℕ → List ℕ → ℕ → List (Refusal × Bool)
reading_table first class width i = (Character (first + i), reading_wrong class width i) ∷ []

-- The groups by short names.

abbrev bases : Job → List Refusal
bases job = each (base_faults job) (count 0 (base_count job))

abbrev rubies : Job → List Refusal
rubies job = each (ruby_faults job) (count 0 (ruby_count job))

abbrev glosses : Job → List Refusal
glosses job = each (gloss_faults job) (count 0 (left_count job))

abbrev parts : Job → List Refusal
parts job = elements_faults job 0 (elements job) ++ left_faults job

-- The groups, each of its stages, each with its first before all others.

abbrev of_chars : ℕ
of_chars = stage (Character 0)

abbrev of_elements : ℕ
of_elements = stage (Element 0)

abbrev of_lines : ℕ
of_lines = stage (NoBreak 0)

abbrev From : ℕ → ℕ → Refusal → Type 0
From lo hi x = (lo ≤ stage x) × (stage x < hi)

-- H is what the first needs to be so
record Block (H : Type 0) (lo hi : ℕ) (xs : List Refusal) : Type 0 where
  pub all : All (From lo hi) xs
  pub leads : H → Leads xs

follow : (H K : Type 0) (lo m hi : ℕ) → lo ≤ m → m ≤ hi → (xs ys : List Refusal) → (H → xs ≡ [] → K) → Block H lo m xs → Block K m hi ys → Block H lo hi (xs ++ ys)
follow H K lo m hi l u xs ys f p q =
    record {
      all =
          all_append (From lo hi) xs ys (map-all (From lo m) (From lo hi) xs (λ x h. (h.0, omega (arith, h.1))) p.all)
          (map-all (From m hi) (From lo hi) ys (λ y h. (omega (arith, h.0), h.1)) q.all);
      leads = λ h. rows.joined (From lo m) (From m hi) (λ x y i k. inl (omega (arith, i.1, k.0))) xs ys p.all q.all (p.leads h) (λ e. q.leads (f h e));
    }

-- refusals of one stage
staged : {a b s : ℕ} (xs : List Refusal) → Within s a b xs → All (From s (suc s)) xs
staged {a} {b} {s} xs w = map-all (In s a b) (From s (suc s)) xs (λ x h. (omega (arith, h.stage), omega (arith, h.stage))) w.all

module _ (job : Job) (b r lefts l : ℕ) where
  job-block : Block (Unit {0}) 0 of_chars (job_faults job b r lefts l)
  unfolding job_faults
  job-block =
      let rs = job_table job b r lefts l in
      record {
        all =
            all_held (From 0 of_chars) rs
            (map-all (λ r. ltb (stage r.0) of_chars ≡ true) (λ r. r.1 ≡ true → From 0 of_chars r.0) rs (λ r h _. (zero-le, ltb-true _ _ h))
            (all_same (λ r. ltb (stage r.0) of_chars) (λ r. true) rs refl));
        leads = λ _. rows.known-lead rs refl;
      }

  base-within : Within of_chars (0 + 0) (0 + (0 + base_count job)) (bases job)
  base-within = rows.walk (base_faults job) of_chars 0 (base_count job) (λ i. rw (zero-add i) (here of_chars i (base_table job i) refl refl refl))

  ruby-within : Within of_chars (1024 + 0) (1024 + (0 + ruby_count job)) (rubies job)
  ruby-within = rows.walk (ruby_faults job) of_chars 1024 (ruby_count job) (λ i. here of_chars (1024 + i) (reading_table 1024 job.ruby_class job.ruby_width i) refl refl refl)

  gloss-within : Within of_chars (3072 + 0) (3072 + (0 + left_count job)) (glosses job)
  gloss-within = rows.walk (gloss_faults job) of_chars 3072 (left_count job) (λ i. here of_chars (3072 + i) (reading_table 3072 job.left_class job.left_width i) refl refl refl)

  -- base characters and those of either side have places apart where there are as few of them as 2 asks
  abbrev Few : Type 0
  Few = (base_count job ≤ 1024) × (ruby_count job ≤ 2048)

  char_block : Block Few of_chars of_elements (char_faults job)
  unfolding char_faults
  char_block =
      let n = base_count job in
      let m = ruby_count job in
      let o = left_count job in
      record {
        all =
            all_append (From of_chars of_elements) (bases job) (rubies job ++ glosses job) (staged (bases job) base-within)
            (all_append (From of_chars of_elements) (rubies job) (glosses job) (staged (rubies job) ruby-within) (staged (glosses job) gloss-within));
        leads = λ h.
            let sides = rows.join of_chars (1024 + 0) (1024 + (0 + m)) (3072 + 0) (3072 + (0 + o)) (3072 + (m + o)) (omega arith) (omega (arith, h.1)) (omega (arith, h.1)) (omega arith)
            (rubies job) (glosses job) ruby-within gloss-within in
            (rows.join of_chars (0 + 0) (0 + (0 + n)) (1024 + 0) (3072 + (m + o)) (3072 + (n + m + o)) (omega arith) (omega (arith, h.0)) (omega arith) (omega arith)
            (bases job) (rubies job ++ glosses job) base-within sides).leads;
      }

  -- what is left over has the place past all elements
  part-block : Block (Unit {0}) of_elements of_lines (parts job)
  unfolding left_faults
  part-block =
      let n = element_count job in
      let walked = each (part_faults job) (count 0 n) in
      let own : Within of_elements (0 + 0) (0 + (0 + n)) walked =
      rows.walk (part_faults job) of_elements 0 n (λ k. rw (zero-add k) (here of_elements k (element_table job k (get_or (elements job) k nobody)) refl refl refl)) in
      let left : Within of_elements n (suc n) (left_faults job) = here of_elements n ((Supply n, left_over job (elements job)) ∷ []) refl refl refl in
      let w = rows.join of_elements (0 + 0) (0 + (0 + n)) n (suc n) (suc n) (omega arith) (omega arith) (omega arith) (omega arith) walked (left_faults job) own left in
      rw (elements-walk job) (record { all = staged (walked ++ left_faults job) w; leads = λ _. w.leads })

  own_block : Block (Unit {0}) 0 of_lines (own_faults job b r lefts l)
  unfolding own_faults
  own_block =
      follow (Unit {0}) Few 0 of_chars of_lines (omega arith) (omega arith) (job_faults job b r lefts l) (char_faults job ++ parts job)
      (λ _ none. ((limits job b r lefts l none).bases, (limits job b r lefts l none).rubies)) job-block
      (follow Few (Unit {0}) of_chars of_elements of_lines (omega arith) (omega arith) (char_faults job) (parts job) (λ _ _. tt) char_block part-block)

-- The lines: a line that no break ends is the last, so that there is one refusal at most.

abbrev from : Job → List ℕ → List Refusal
from job ss = each (line_faults job) (keep (λ s. ltb s (base_count job)) ss)

module _ (job : Job) where
  last_line : (s : ℕ) → Leads (from job (s ∷ []))
  last_line s = go (ltb s (base_count job)) (no_break job s) refl
    where
      go : (t u : Bool) → no_break job s ≡ u → Leads (each (line_faults job) (cond t (s ∷ []) []))
      go true true e = rw e tt
      go true false e = rw e tt
      go false u e = tt

  next-line : (s : ℕ) (ss : List ℕ) → no_break job s ≡ false → from job ss ≡ from job (s ∷ ss)
  next-line s ss e = go (ltb s (base_count job))
    where
      go : (t : Bool) → from job ss ≡ each (line_faults job) (cond t (s ∷ keep (λ s. ltb s (base_count job)) ss) (keep (λ s. ltb s (base_count job)) ss))
      go true = rw e
      go false = refl

  lines_from : (n s : ℕ) → Leads (from job (s ∷ ends_from job n s))
  unfolding ends_from no_break
  lines_from zero s = last_line s
  lines_from (suc n) s = go (eqb (furthest job s) 0) refl (lines_from n (furthest job s))
    where
      e : ℕ
      e = furthest job s

      go : (t : Bool) → no_break job s ≡ t → Leads (from job (e ∷ ends_from job n e)) → Leads (from job (s ∷ cond t [] (e ∷ ends_from job n e)))
      go true h k = last_line s
      go false h k = subst Leads (next-line s (e ∷ ends_from job n e) h) k

  line-block : Block (Unit {0}) of_lines (suc of_lines) (lines_faults job)
  unfolding ends lines_faults
  line-block =
      let starts = keep (λ s. ltb s (base_count job)) (0 ∷ ends job) in
      record {
        all =
            all-each (λ s. Unit {0}) (From of_lines (suc of_lines)) (line_faults job) starts
            (λ s _. all_when (From of_lines (suc of_lines)) (NoBreak s) (no_break job s) (λ _. (omega arith, omega arith))) (rows.of-all (λ s. Unit {0}) (λ s. tt) starts);
        leads = λ _. lines_from (base_count job) 0;
      }

all-lead : (job : Job) (b r lefts l : ℕ) → Leads (faults job b r lefts l)
unfolding faults
all-lead job b r lefts l =
    (follow (Unit {0}) (Unit {0}) 0 of_lines (suc of_lines) (omega arith) (omega arith) (own_faults job b r lefts l) (lines_faults job) (λ _ _. tt) (own_block job b r lefts l) (line-block job)).leads tt

-- Each refusal of the list has its row.

module _ (job : Job) (b r lefts l : ℕ) where
  abbrev R : Refusal → Type 0
  R q = Row job b r lefts l q

  job-rows : All R (job_faults job b r lefts l)
  unfolding job_faults
  job-rows = all_held R (job_table job b r lefts l) (search (inl, inr, ltb-true) depth 24 fits 4000)

  base_rows : (i : ℕ) → i < base_count job → All R (base_faults job i)
  base_rows i h = all_held R (base_table job i) (search (inl, inr) depth 24)

  ruby-rows : (i : ℕ) → i < ruby_count job → All R (ruby_faults job i)
  ruby-rows i h = all_held R (reading_table 1024 job.ruby_class job.ruby_width i) (λ t. inr (inl (i, refl, h, t)), tt)

  gloss-rows : (i : ℕ) → i < left_count job → All R (gloss_faults job i)
  gloss-rows i h = all_held R (reading_table 3072 job.left_class job.left_width i) (λ t. inr (inr (i, refl, h, t)), tt)

  part-rows : (k : ℕ) → k < element_count job → All R (part_faults job k)
  part-rows k h = all_held R (element_table job k (get_or (elements job) k nobody)) (search (inl, inr) depth 24)

  line_rows : All R (lines_faults job)
  unfolding lines_faults
  line_rows =
      all-each (Begins job) R (line_faults job) (keep (λ s. ltb s (base_count job)) (0 ∷ ends job)) (λ s h. all_when R (NoBreak s) (no_break job s) (λ t. (h, t)))
      (rows.all-kept (λ s. ltb s (base_count job)) (Begins job) (0 ∷ ends job) (λ s m t. (ltb-true s (base_count job) t, m)))

  pub rows_hold : All (Row job b r lefts l) (faults job b r lefts l)
  unfolding faults own_faults char_faults left_faults
  rows_hold =
      all_append R (own_faults job b r lefts l) (lines_faults job)
      (all_append R (job_faults job b r lefts l) (char_faults job ++ parts job) job-rows
      (all_append R (char_faults job) (parts job)
      (all_append R (bases job) (rubies job ++ glosses job) (all-walk (base_faults job) R (base_count job) base_rows)
      (all_append R (rubies job) (glosses job) (all-walk (ruby_faults job) R (ruby_count job) ruby-rows) (all-walk (gloss_faults job) R (left_count job) gloss-rows)))
      (all_append R (elements_faults job 0 (elements job)) (left_faults job) (rw (elements-walk job) (all-walk (part_faults job) R (element_count job) part-rows))
      (all_when R (Supply (element_count job)) (left_over job (elements job)) (λ t. inr (refl, t))))))
      line_rows

-- Each row that holds is in the list.

module _ (job : Job) (b r lefts l : ℕ) where
  abbrev Listed : Refusal → Type 0
  Listed q = Member q (faults job b r lefts l)

  in_own : (q : Refusal) → Member q (own_faults job b r lefts l) → Listed q
  unfolding faults
  in_own q m = in_left q (own_faults job b r lefts l) (lines_faults job) m

  -- a row of the job itself, at a place that is a numeral
  in_job : (make : ℕ → Refusal) (k : ℕ) {p : ℕ} → p ≡ k → find (exact (make k)) (job_table job b r lefts l) ≡ true → Listed (make p)
  unfolding own_faults job_faults
  in_job make k e t = rw e (in_own (make k) (in_left (make k) (job_faults job b r lefts l) (char_faults job ++ parts job) (rows.in_exact (make k) (job_table job b r lefts l) t)))

  in_chars : (q : Refusal) → Member q (char_faults job) → Listed q
  unfolding own_faults
  in_chars q m = in_own q (in_right q (job_faults job b r lefts l) (char_faults job ++ parts job) (in_left q (char_faults job) (parts job) m))

  in_parts : (q : Refusal) → Member q (parts job) → Listed q
  unfolding own_faults
  in_parts q m = in_own q (in_right q (job_faults job b r lefts l) (char_faults job ++ parts job) (in_right q (char_faults job) (parts job) m))

  -- a row of the base character, of the element that is its place
  in_base : (q : Refusal) → (place_of q < base_count job) × (find (numbered q) (base_table job (place_of q)) ≡ true) →
      map (λ r. place_of r.0) (base_table job (place_of q)) ≡ map (λ r. place_of q) (base_table job (place_of q)) → Listed q
  unfolding char_faults
  in_base q h e =
      in_chars q (in_left q (bases job) (rubies job ++ glosses job) (in_walk (base_faults job) (base_count job) (place_of q) q h.0 (rows.in_numbered q (base_table job (place_of q)) e h.1)))

  in_ruby : (i : ℕ) (q : Refusal) → i < ruby_count job → Member q (ruby_faults job i) → Listed q
  unfolding char_faults
  in_ruby i q h m = in_chars q (in_right q (bases job) (rubies job ++ glosses job) (in_left q (rubies job) (glosses job) (in_walk (ruby_faults job) (ruby_count job) i q h m)))

  in_gloss : (i : ℕ) (q : Refusal) → i < left_count job → Member q (gloss_faults job i) → Listed q
  unfolding char_faults
  in_gloss i q h m = in_chars q (in_right q (bases job) (rubies job ++ glosses job) (in_right q (rubies job) (glosses job) (in_walk (gloss_faults job) (left_count job) i q h m)))

  in_element : (q : Refusal) → (place_of q < element_count job) × (find (numbered q) (element_table job (place_of q) (get_or (elements job) (place_of q) nobody)) ≡ true) → Listed q
  in_element q h =
      in_parts q (in_left q (elements_faults job 0 (elements job)) (left_faults job) (rw (elements-walk job)
      (in_walk (part_faults job) (element_count job) (place_of q) q h.0 (rows.in_numbered q (element_table job (place_of q) (get_or (elements job) (place_of q) nobody)) refl h.1))))

  in_left-over : (p : ℕ) → p ≡ element_count job → left_over job (elements job) ≡ true → Listed (Supply p)
  unfolding left_faults
  in_left-over p e t =
      in_parts (Supply p) (in_right (Supply p) (elements_faults job 0 (elements job)) (left_faults job) (rw e (in_when (Supply (element_count job)) (left_over job (elements job)) t)))

  in_lines : (s : ℕ) → Begins job s → no_break job s ≡ true → Listed (NoBreak s)
  unfolding faults lines_faults
  in_lines s h t =
      in_right (NoBreak s) (own_faults job b r lefts l) (lines_faults job)
      (rows.in_each (line_faults job) s (NoBreak s) (keep (λ s. ltb s (base_count job)) (0 ∷ ends job))
      (rows.in_keep (λ s. ltb s (base_count job)) s (0 ∷ ends job) h.1 (lt-ltb s (base_count job) h.0)) (in_when (NoBreak s) (no_break job s) t))

  pub listed : (q : Refusal) → Row job b r lefts l q → Member q (faults job b r lefts l)
  listed (Range p) (inl h) = in_job Range 0 h.0 h.1
  listed (Range p) (inr h) = in_job Range 1 h.0 h.1
  listed (Ratio p) (inl h) = in_job Ratio 0 h.0 h.1
  listed (Ratio p) (inr h) = in_job Ratio 1 h.0 h.1
  listed Profile h = in_job (λ p. Profile) 0 {p = 0} refl h
  listed (Count p) (inl h) = in_job Count 0 h.0 (lt-ltb _ _ h.1)
  listed (Count p) (inr (inl h)) = in_job Count 1 h.0 (lt-ltb _ _ h.1)
  listed (Count p) (inr (inr (inl h))) = in_job Count 2 h.0 (lt-ltb _ _ h.1)
  listed (Count p) (inr (inr (inr h))) = in_job Count 3 h.0 (lt-ltb _ _ h.1)
  listed Short h = in_job (λ p. Short) 0 {p = 0} refl h
  listed (Character p) (inl h) = in_base (Character p) h refl
  listed (Character p) (inr (inl h)) = in_ruby h.0 (Character p) h.2 (rw h.1 (in_when (Character (1024 + h.0)) (reading_wrong job.ruby_class job.ruby_width h.0) h.3))
  listed (Character p) (inr (inr h)) = in_gloss h.0 (Character p) h.2 (rw h.1 (in_when (Character (3072 + h.0)) (reading_wrong job.left_class job.left_width h.0) h.3))
  listed (Blanks p) h = in_base (Blanks p) h refl
  listed (Element p) h = in_element (Element p) h
  listed (LeftKind p) h = in_element (LeftKind p) h
  listed (Supply p) (inl h) = in_element (Supply p) h
  listed (Supply p) (inr h) = in_left-over p h.0 h.1
  listed (BlankInside p) h = in_element (BlankInside p) h
  listed (JukugoBase p) h = in_element (JukugoBase p) h
  listed (Mixed p) h = in_element (Mixed p) h
  listed (WesternOver p) h = in_element (WesternOver p) h
  listed (NoBreak p) h = in_lines p h.0 h.1
  listed (Form p) h = absurd h
  listed (OtherForm p) h = absurd h

-- The head.

first_of : (xs : List Refusal) (r : Refusal) → Leads xs → head? xs ≡ some r → (q : Refusal) → Member q xs → (q ≡ r) ⊎ Before r q
first_of [] r a e q m = absurd m
first_of (x ∷ xs) r a e q (inl f) = inl (cc)
first_of (x ∷ xs) r a e q (inr m) = let same : x ≡ r = cc in inr (subst (λ z. Before z q) same (all_member (Before x) xs a q m))

-- a list with something in it has a head
some-head : (q : Refusal) (xs : List Refusal) → Member q xs → (r : Refusal) × (head? xs ≡ some r)
some-head q [] m = absurd m
some-head q (x ∷ xs) m = (x, refl)

-- the order has no circle of two
irreflexive : (a b : Refusal) → Before a b → Before b a → ⊥
irreflexive a b (inl h) (inl k) = omega arith
irreflexive a b (inl h) (inr k) = omega (arith, k.0)
irreflexive a b (inr h) (inl k) = omega (arith, h.0)
irreflexive a b (inr h) (inr k) = go h.1 k.1
  where
    go : (place_of a < place_of b) ⊎ ((place_of a ≡ place_of b) × (line a < line b)) → (place_of b < place_of a) ⊎ ((place_of b ≡ place_of a) × (line b < line a)) → ⊥
    go (inl h) (inl k) = omega arith
    go (inl h) (inr k) = omega (arith, k.0)
    go (inr h) (inl k) = omega (arith, h.0)
    go (inr h) (inr k) = omega (arith, h.1, k.1)

module _ (job : Job) (base ruby left lines : ℕ) where
  -- the head of the list is the table's first
  pub given-first : (r : Refusal) → fault job base ruby left lines ≡ some r → First job base ruby left lines r
  unfolding fault
  given-first r e =
      record {
        holds = head-all (faults job base ruby left lines) (rows_hold job base ruby left lines) e;
        least = λ q h. first_of (faults job base ruby left lines) r (all-lead job base ruby left lines) e q (listed job base ruby left lines q h);
      }
    where
      head-all : (xs : List Refusal) → All (Row job base ruby left lines) xs → head? xs ≡ some r → Row job base ruby left lines r
      head-all [] a e = absurd cc
      head-all (x ∷ xs) a e = let h : x ≡ r = cc in subst (Row job base ruby left lines) h a.0

  pub first-given : (r : Refusal) → First job base ruby left lines r → fault job base ruby left lines ≡ some r
  unfolding fault
  first-given r f =
      let h = some-head r (faults job base ruby left lines) (listed job base ruby left lines r f.holds) in
      let g = given-first h.0 h.1 in
      h.1 ∙ ap {B = Option Refusal} some (same h.0 (f.least h.0 g.holds) (g.least r f.holds))
    where
      same : (q : Refusal) → (q ≡ r) ⊎ Before r q → (r ≡ q) ⊎ Before q r → q ≡ r
      same q (inl e) k = e
      same q (inr h) (inl e) = sym e
      same q (inr h) (inr k) = absurd (irreflexive r q h k)

  -- and there is none exactly where no row holds
  pub none-given : fault job base ruby left lines ≡ none → (q : Refusal) → Row job base ruby left lines q → ⊥
  unfolding fault
  none-given e q h = let k = some-head q (faults job base ruby left lines) (listed job base ruby left lines q h) in let z : ◌≡◌ {A = ℕ} 0 1 = absurd-head k.0 k.1 in omega arith
    where
      absurd-head : (r : Refusal) → head? (faults job base ruby left lines) ≡ some r → ◌≡◌ {A = ℕ} 0 1
      absurd-head r k = let z : none ≡ some r = sym e ∙ k in cc

  pub given-none : ((q : Refusal) → Row job base ruby left lines q → ⊥) → fault job base ruby left lines ≡ none
  unfolding fault
  given-none f = go (faults job base ruby left lines) (rows_hold job base ruby left lines)
    where
      go : (xs : List Refusal) → All (Row job base ruby left lines) xs → head? xs ≡ none
      go [] a = refl
      go (x ∷ xs) a = absurd (f x a.0)

-- Where the refusal comes from: the door's list, or, with nothing there, the lines'.

head_of : (P : Refusal → Type 0) (xs ys : List Refusal) (r : Refusal) → All P xs → head? (xs ++ ys) ≡ some r → P r ⊎ ((xs ≡ []) × (head? ys ≡ some r))
head_of P [] ys r a e = inr (refl, e)
head_of P (x ∷ xs) ys r a e = let h : x ≡ r = cc in inl (subst P h a.0)

-- a refusal of the lines' stage is given only where the door has none
pub lines-turn : (job : Job) (b r lefts l : ℕ) (q : Refusal) → stage q ≡ stage (NoBreak 0) → fault job b r lefts l ≡ some q → (own_faults job b r lefts l ≡ []) × (head? (lines_faults job) ≡ some q)
unfolding fault faults
lines-turn job b r lefts l q h e = go (head_of (From 0 of_lines) (own_faults job b r lefts l) (lines_faults job) q (own_block job b r lefts l).all e)
  where
    go : From 0 of_lines q ⊎ ((own_faults job b r lefts l ≡ []) × (head? (lines_faults job) ≡ some q)) → (own_faults job b r lefts l ≡ []) × (head? (lines_faults job) ≡ some q)
    go (inl k) = absurd (omega (arith, k.1))
    go (inr k) = k
