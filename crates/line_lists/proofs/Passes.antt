-- The invariants of the three passes, each at its start, over a turn and at its ways out. What is left to do gives what the whole gives.
use Rattle.std.proofs.Common.{sym, ap, ◌∙◌, arith, zero-add, le-leb, length-set}
use native.Mathlib.Numerals.{add-one}
use borrow.Author.Count.{below_more}
use borrow.Author.Tests.{lt-leb}
use lib.Seq.{sets, sets-eq}
use Rattle.line.specs.declared.Element.{Element}
use Rattle.line.specs.declared.State.{State}
use Rattle.line.specs.declared.Placed.{Placed}
use Rattle.std.specs.Prelude.{Ok, Err, ◌↔◌, IsTrue, true, false, ◌≡◌, refl, List, ◌∷◌, ◌++◌, ℕ, ◌+◌, ◌*◌, ◌≤◌, ◌<◌, length, set, drop}
use Rattle.line_lists.specs.declared.Why.TheVariants as why
use Rattle.line.specs.Setting.{start, put, origin, settle_from, settle, run, furthest, placed, total}
use Rattle.line.specs.Least.{settle-follows}
use Rattle.line.proofs.Bound.{put_bound}
use Rattle.line_lists.specs.Promise.{rows, element_at, line, most_elements, longest_element, WithinAt, AllWithin}
use Rattle.line_lists.specs.Passes.{told, denied, tried, Ready}
use Rattle.line_lists.proofs.Rest.{rest, rest-start, rest-step, rest_end, line-length}

module _ (t : List ℕ) where
  -- the first pass: all elements so far are set within themselves
  pub record Checked (i : ℕ) : Type 0 where
    pub few : rows t ≤ most_elements
    pub sofar : (k : ℕ) → k < i → WithinAt t k

  pub checked_start : rows t ≤ most_elements → Checked 0
  checked_start f = record { few = f; sofar = λ k h. absurd (omega arith) }

  pub checked_next : (i : ℕ) → Checked i → WithinAt t i → Checked (i + 1)
  checked_next i c s = record { few = c.few; sofar = below_more _ i c.sofar s }

  pub checked_end : (i : ℕ) → Checked i → rows t ≤ i → AllWithin t
  checked_end i c h = record { few = c.few; each = λ k g. c.sofar k (omega arith) }

  pub checked_told : (i : ℕ) → Checked i → rows t ≤ i → IsTrue true ↔ AllWithin t
  checked_told i c h = told (checked_end i c h)

  pub checked_fails : (i : ℕ) → i < rows t → (WithinAt t i → ⊥) → IsTrue false ↔ AllWithin t
  checked_fails i h f = denied (λ all. f (all.each i h))

  pub too_many : most_elements < rows t → IsTrue false ↔ AllWithin t
  too_many h = denied (λ all. omega (arith, all.few))

  -- the second: the state so far, from which the rest of the line ends where the whole does
  pub record Walked (st : State) (i : ℕ) : Type 0 where
    pub within : AllWithin t
    pub near : furthest st ≤ i * longest_element
    pub ends : run st (rest t i) ≡ run start (line t)

  pub walked_start : AllWithin t → Walked start 0
  walked_start w = record { within = w; near = omega arith; ends = ap (run start) (rest-start t) }

  -- one turn: the element e that was read is placed
  module _ (st : State) (i : ℕ) (w : Walked st i) (h : i < rows t) (e : Element) (he : e ≡ element_at t i) where
    short : total e ≤ longest_element
    short = rw he (w.within.each i h).short

    pub walked-fits : furthest st + total e ≤ 4294967295
    walked-fits = omega (arith, w.near, short, w.within.few)

    turn : rest t i ≡ e ∷ rest t (i + 1)
    turn = rw he (rest-step t i h)

    goes : run st (rest t i) ≡ run (put st e (origin st e)) (rest t (i + 1))
    unfolding run
    goes = ap (run st) turn

    pub walked_next : (p : Placed) → p ≡ placed st e → Walked p.st (i + 1)
    walked_next p q =
        let after : p.st ≡ put st e (origin st e) = ap (λ (x : Placed). x.st) q in
        record {
          within = w.within;
          near = rw after (omega (arith, put_bound st e, short, w.near));
          ends = ap (λ s. run s (rest t (i + 1))) after ∙ sym goes ∙ w.ends;
        }

  pub walked_end : (st : State) (i : ℕ) → Walked st i → rows t ≤ i → st ≡ run start (line t)
  unfolding run
  walked_end st i w h = sym (ap (run st) (rest_end t i h)) ∙ w.ends

  -- the third: the origins so far are written, and those of the rest complete what the whole writes
  pub record Writes (was out : List ℕ) (st : State) (i : ℕ) : Type 0 where
    pub walked : Walked st i
    pub room : rows t ≤ length was
    pub same : length out ≡ length was
    pub gives : sets out i (settle_from st (rest t i)) ≡ sets was 0 (settle (line t))

  pub writes_start : (was : List ℕ) → Ready t was → Writes was was start 0
  writes_start was w =
      record { walked = walked_start w.within; room = w.room; same = refl; gives = ap (λ es. sets was 0 (settle_from start es)) (rest-start t) }

  pub writes_next : (was out : List ℕ) (st : State) (i : ℕ) (w : Writes was out st i) (h : i < rows t) (e : Element) (he : e ≡ element_at t i) (p : Placed) →
      p ≡ placed st e → Writes was (set out i p.at) p.st (i + 1)
  unfolding settle_from
  writes_next was out st i w h e he p q =
      let at : p.at ≡ origin st e = ap (λ (x : Placed). x.at) q in
      let after : p.st ≡ put st e (origin st e) = ap (λ (x : Placed). x.st) q in
      let step : sets (set out i p.at) (i + 1) (settle_from p.st (rest t (i + 1))) ≡ sets out i (settle_from st (rest t i)) =
      rw (turn st i w.walked h e he, add-one i, at, after) in
      record {
        walked = walked_next st i w.walked h e he p q;
        room = w.room;
        same = length-set out i p.at ∙ w.same;
        gives = step ∙ w.gives;
      }

  pub writes_end : (was out : List ℕ) (st : State) (i : ℕ) → Writes was out st i → rows t ≤ i → out ≡ settle (line t) ++ drop (rows t) was
  unfolding settle_from
  writes_end was out st i w h =
      sym (ap (λ es. sets out i (settle_from st es)) (rest_end t i h))
      ∙ w.gives
      ∙ sets-eq (settle (line t)) was 0 (omega (arith, long, w.room))
      ∙ ap (λ k. settle (line t) ++ drop k was) (zero-add (length (settle (line t))) ∙ long)
    where
      long : length (settle (line t)) ≡ rows t
      long = (settle-follows (line t)).each ∙ line-length t

-- the answer by the last state
module _ (m : ℕ) (st last : State) (e : st ≡ last) where
  pub tried-long : 2 * m < furthest st → Err why.Long ≡ tried m last
  tried-long k = rw (← e, lt-leb (furthest st) (2 * m) k)

  pub tried-set : (w : ℕ) → w ≡ furthest st → w ≤ 2 * m → Ok w ≡ tried m last
  tried-set w q k = rw (← e, le-leb (furthest st) (2 * m) (omega arith), q)

pub ruleset checked_steps = (checked_start, checked_next, checked_end)

pub ruleset walked_steps = (walked_start, walked-fits, walked_next, walked_end, tried-long, tried-set)

pub ruleset written_steps = (walked-fits, writes_start, writes_next, writes_end)
