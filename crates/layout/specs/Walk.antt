-- All elements in turn: those so far have their rows, and what is left decides.
use Rattle.std.specs.Prelude.{◌≡◌, List, [], ◌∷◌, ◌++◌, length, get_or, take, drop, set}
use Rattle.std.proofs.Math.Path.{refl, subst}
use Rattle.std.proofs.Common.{sym, ap, ◌∙◌, inl, add-one, take_all, take-add}
use Prim.Native.Nat.{ℕ, suc, ◌+◌, ◌-◌, ◌≤◌, ◌<◌}
use Rattle.std.proofs.Math.Nat.{add-zero}
use native.Mathlib.Omega.{arith}
use Rattle.basics.specs.Lists.{each, All}
use Rattle.basics.specs.Laws.{all_map}
use Rattle.spread.specs.Ratio.{Housed}
use Rattle.word.specs.declared.Form.TheVariants.{P}
use Rattle.word.specs.Word as word
use Rattle.word.specs.Sides as sides
use Rattle.cells.specs.declared.Cell.{Cell}
use Rattle.door.specs.declared.Piece.{Piece}
use Rattle.door.specs.declared.Taken.{Taken}
use Rattle.door.specs.Job.{Job, base_count, ruby_count, left_count, element_count, nothing, past, element, elements_from, elements}
use Rattle.door.specs.Elements.{alone}
use Rattle.door.specs.Walk.{Clean, Stands}
use Rattle.door.specs.Loop as loop
use Rattle.door.specs.Loop.{Along, past_plain}
use Rattle.door.specs.Whole.{base-within}
use Rattle.job.specs.Line.{part, words_in, words, cuts}
use Rattle.job.specs.Laws.{all_append, all-each, each_append}
use Rattle.job.proofs.Apart.{by_apart}
use Rattle.job.proofs.Pieces.{tiled-ends}
use Rattle.job.specs.Walk.{At, at_first, at_next, length-elements}
use Rattle.join.specs.Rows.{row_of, HasRows, table_of, Holds}
use Rattle.word_rows.specs.Table.{filled-one}
use Rattle.one_reading.specs.Lay.{PlainReady, plain_row}
use Rattle.layout.specs.Step.{Standing, Laid}
use Rattle.layout.specs.Element.{all-counted}

-- What the walk asks for: characters that their checks leave, and room for the rows.
pub record Ready (job : Job) (t : List Cell) : Type 0 where
  pub house : Housed job.ratios
  pub few : base_count job ≤ 1024
  pub few_ruby : ruby_count job ≤ 2048
  pub few_left : left_count job ≤ 2048
  pub few_elements : element_count job ≤ 1024
  pub some : (i : ℕ) → i < base_count job → 1 ≤ get_or job.width i 0
  pub narrow : (i : ℕ) → i < base_count job → get_or job.width i 0 ≤ 4096
  pub narrow_ruby : (i : ℕ) → i < ruby_count job → get_or job.ruby_width i 0 ≤ 4096
  pub narrow_left : (i : ℕ) → i < left_count job → get_or job.left_width i 0 ≤ 4096
  pub room : base_count job ≤ length t

pub clean : {job : Job} {t : List Cell} → Ready job t → Clean job
clean y =
    record {
      few = y.few;
      few_ruby = y.few_ruby;
      few_left = y.few_left;
      few_elements = y.few_elements;
      some = y.some;
      narrow = y.narrow;
      narrow_ruby = y.narrow_ruby;
      narrow_left = y.narrow_left;
    }

-- the rows of the first k elements are written
pub record Walking (job : Job) (was t : List Cell) (k : ℕ) (at : Taken) : Type 0 where
  pub ready : Ready job was
  pub along : Along job k at
  pub place : At job k at
  pub long : length t ≡ length was
  pub rows : All (HasRows job t) (each (words_in job) (take k (elements job)))

again : {job : Job} {was t : List Cell} → length t ≡ length was → Ready job was → Ready job t
again e y =
    record {
      house = y.house;
      few = y.few;
      few_ruby = y.few_ruby;
      few_left = y.few_left;
      few_elements = y.few_elements;
      some = y.some;
      narrow = y.narrow;
      narrow_ruby = y.narrow_ruby;
      narrow_left = y.narrow_left;
      room = omega (arith, e, y.room);
    }

pub walking_first : (job : Job) (t : List Cell) → Ready job t → Walking job t t 0 nothing
walking_first job t ready = record { ready = ready; along = loop.along-first job; place = at_first job; long = refl; rows = tt }

-- a walk that goes on from where another stands
pub walking_here : {job : Job} {was t : List Cell} {k : ℕ} {at : Taken} → Walking job was t k at → Walking job t t k at
walking_here q =
    record { ready = again q.long q.ready; along = q.along; place = q.place; long = refl; rows = q.rows }

pub walking_from : {job : Job} {was t v : List Cell} {k l : ℕ} {at on : Taken} → Walking job was t k at → Walking job t v l on → Walking job was v l on
walking_from q p = record { ready = q.ready; along = p.along; place = p.place; long = p.long ∙ q.long; rows = p.rows }

-- the words of an element lie within it
words-within : (job : Job) (x : Piece) → All (λ y. y.base + y.bases ≤ x.base + x.bases) (words_in job x)
unfolding part
words-within job x =
    by_apart job (All (λ y. y.base + y.bases ≤ x.base + x.bases)) x (λ _. all-counted (λ y. y.base + y.bases ≤ x.base + x.bases) (λ i. part job x i 1) 0 x.bases (λ j l m. omega arith))
    (λ _. (omega arith, tt))

-- rows that are written stay
stays : (job : Job) (x : Piece) (was t : List Cell) → Laid job x was t → (ys : List Piece) →
    All (HasRows job was) ys → All (λ y. y.base + y.bases ≤ x.base) ys → All (HasRows job t) ys
stays job x was t l [] a b = tt
stays job x was t l (y ∷ ys) a b = (λ i h g. l.other i (inl (omega (arith, b.0))) ∙ a.0 i h g, stays job x was t l ys a.1 b.1)

module _ (job : Job) (was t : List Cell) (k : ℕ) (at : Taken) (q : Walking job was t k at) where
  pub walking_end : element_count job ≤ k → Holds job (table_of job t)
  unfolding words
  walking_end h =
      record {
        long = omega (arith, q.long, q.ready.room);
        ratios = refl;
        em = refl;
        rows = subst (λ es. All (HasRows job t) (each (words_in job) es)) (take_all k (elements job) (omega (arith, length-elements job))) q.rows;
      }

  module _ (h : k < element_count job) where
    abbrev x : Piece
    x = element job k at

    pub stands : Stands job k at
    stands = record { clean = clean q.ready; index = h; within = q.along.within }

    pub standing : (get_or job.kind k 0 ≡ 80 → get_or job.left_kind k 0 ≡ 78 → ⊥) → Standing job k at t
    standing e =
        record {
          stands = stands;
          house = q.ready.house;
          room = omega (arith, q.long, q.ready.room);
          ruby = e;
        }

    -- its rest is the element and the rest after it
    cons : drop k (elements job) ≡ x ∷ elements_from job (element_count job - (k + 1)) (k + 1) (past at x)
    unfolding elements_from
    cons = q.place.rest ∙ go (element_count job - k) (element_count job - (k + 1)) (omega arith)
      where
        go : (m n : ℕ) → m ≡ suc n → elements_from job m k at ≡ x ∷ elements_from job n (k + 1) (past at x)
        go m n e = rw (e, add-one)

    base-is : x.base ≡ at.base
    unfolding element
    base-is = refl

    -- one element more
    pub walking_next : (v : List Cell) → Laid job x t v → Along job (k + 1) (past at x) → Walking job was v (k + 1) (past at x)
    walking_next v l along =
        record {
          ready = q.ready;
          along = along;
          place = at_next job k at h q.place;
          long = l.long ∙ q.long;
          rows =
              subst (λ es. All (HasRows job v) (each (words_in job) es)) (sym more)
              (subst (All (HasRows job v)) (sym (each_append (words_in job) (take k (elements job)) (x ∷ [])))
              (all_append (HasRows job v) (each (words_in job) (take k (elements job))) (words_in job x ++ [])
              (stays job x t v l (each (words_in job) (take k (elements job))) q.rows ends-before) (all_append (HasRows job v) (words_in job x) [] l.rows tt)));
        }
      where
        more : take (k + 1) (elements job) ≡ take k (elements job) ++ (x ∷ [])
        more = take-add k 1 (elements job) ∙ ap (λ es. take k (elements job) ++ take 1 es) cons

        ends-before : All (λ y. y.base + y.bases ≤ x.base) (each (words_in job) (take k (elements job)))
        ends-before =
            all-each (λ y. y.base + y.bases ≤ at.base) (λ y. y.base + y.bases ≤ x.base) (words_in job) (take k (elements job))
            (λ y m. all_map (λ z. z.base + z.bases ≤ y.base + y.bases) (λ z. z.base + z.bases ≤ x.base) (words_in job y) (λ z n. omega (arith, base-is)) (words-within job y))
            (tiled-ends (λ p. p.base) (λ p. p.bases) 0 at.base (take k (elements job)) q.place.base)

    -- a P without a left reading: its row says where the next left characters begin
    module _ (plain : get_or job.kind k 0 ≡ 80) (bare : get_or job.left_kind k 0 ≡ 78) (left : at.base < base_count job) where
      pub plain_ready : PlainReady at.base at.ruby job.class job.width job.before job.after job.flag t
      plain_ready =
          let w = base-within job in
          let c = q.ready in
          record {
            few = omega (arith, c.few);
            few_ruby = omega (arith, q.along.within.ruby, c.few_ruby);
            class = omega (arith, w.0);
            width = omega (arith, w.1);
            before = omega (arith, w.2);
            after = omega (arith, w.3);
            flag = omega (arith, w.4);
            narrow = c.narrow at.base left;
            held = omega (arith, q.long, c.room);
          }

      abbrev row : Cell
      row = plain_row job.profile at.base at.ruby at.left job.em job.class job.width job.before job.after job.flag

      abbrev y : Piece
      y = alone P 1 0 at

      plain_row_lem : (i : ℕ) → i ≡ at.base → row ≡ row_of job y i
      unfolding row_of sides.word_of word.word_of cuts
      plain_row_lem i e = rw (e, one at.base, less at.base, add-zero (get_or job.width at.base 0), add-zero at.ruby, add-zero at.left)
        where
          one : (b : ℕ) → b + 1 - b ≡ 1
          one b = omega arith

          less : (b : ℕ) → b + 1 - 1 ≡ b
          less b = omega arith

      laid : (v : List Cell) → v ≡ set t at.base row → Laid job y t v
      unfolding words_in
      laid v p =
          let w = filled-one row at.base (at.base + 1) t v refl plain_ready.held p in
          record { long = w.long; rows = (λ i a b. w.here i a b ∙ plain_row_lem i (omega arith), tt); other = w.other }

      pub walking_plain : (v : List Cell) → v ≡ set t at.base row → Walking job was v (k + 1) (past_plain at)
      walking_plain v p =
          let e = loop.piece job k at plain bare in
          let on = ap (past at) e ∙ loop.past_plain_lem job k at plain bare in
          subst (Walking job was v (k + 1)) on
          (walking_next v (subst (λ z. Laid job z t v) (sym e) (laid v p)) (subst (Along job (k + 1)) (sym on) (loop.along-plain job k at plain bare stands left q.along)))
