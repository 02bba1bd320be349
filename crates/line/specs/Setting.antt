-- The engine's setting: element by element, each at the least origin that is clear of those before it. Of those it keeps four numbers.
use Rattle.std.specs.Prelude.{◌≡◌, cond, List, [], ◌∷◌, ℕ, zero, suc, ◌+◌, ◌-◌, ◌≤◌, ◌<◌, max, length}
use Rattle.line.specs.declared.Element.{Element}
use Rattle.line.specs.declared.Reading.{Reading}
use Rattle.line.specs.declared.State.{State}
use Rattle.line.specs.declared.Placed.{Placed}
use Rattle.line.specs.declared.Side.{Side}
use Rattle.line.specs.declared.Side.TheVariants.{Right, Left}
use Rattle.line.specs.Rules.{ruby, el, org}

-- Where a reading r of e starts in e's coordinates. Where it isn't there the block's end stands in for it: the demands below then ask no more
-- than those of the blocks.
abbrev pub from_in : Element → Reading → ℕ
from_in e r = cond r.there r.from (e.front + e.len)

abbrev pub ruby_from : Side → Element → ℕ
ruby_from s e = from_in e (ruby s e)

-- at the line's start nothing stands yet
abbrev pub start : State
start = record { end = 0; right = 0; left = 0; room = 0 }

-- the furthest end of any ruby of a side
abbrev pub reach : Side → State → ℕ
reach Right st = st.right
reach Left st = st.left

-- the furthest end of the rubies of a side, z so far, once an element with the reading r there is at x: where it has none, as it was
abbrev pub reached : ℕ → ℕ → Reading → ℕ
reached z x r = max z (cond r.there (x + r.upto) 0)

-- what stands once e is at x: the end of its block, the furthest end of the rubies of each side, and the depth to which ruby may lie on e
-- from its end
abbrev pub put : State → Element → ℕ → State
put st e x =
    record {
      end = x + e.front + e.len;
      right = reached st.right x e.right;
      left = reached st.left x e.left;
      room = e.after;
    }

-- What the state asks of e at x for one side: its block is past the last block; the ruby so far lies on it no deeper than permitted; its
-- ruby is past the ruby so far; and lies on the last block no deeper than permitted.
pub record Near (s : Side) (st : State) (e : Element) (x : ℕ) : Type 0 where
  pub block : st.end ≤ x + e.front
  pub under : reach s st ≤ x + e.front + e.before
  pub clear : reach s st ≤ x + ruby_from s e
  pub over : st.end ≤ x + ruby_from s e + st.room

-- the least such x, for a side whose rubies reach up to z so far and on which e has the reading r,
unfoldable pub asks : State → Element → ℕ → Reading → ℕ
asks st e z r =
    max (max (st.end - e.front) (z - (e.front + e.before)))
    (max (z - from_in e r) (st.end - (from_in e r + st.room)))

abbrev pub asked : Side → State → Element → ℕ
asked s st e = asks st e (reach s st) (ruby s e)

-- and the least for both sides
unfoldable pub origin : State → Element → ℕ
unfolding asks
origin st e = max (asked Right st e) (asked Left st e)

-- the setting of what follows the state, and the state after it
unfoldable pub settle_from : State → List Element → List ℕ
settle_from st [] = []
settle_from st (e ∷ es) = origin st e ∷ settle_from (put st e (origin st e)) es

unfoldable pub run : State → List Element → State
run st [] = st
run st (e ∷ es) = run (put st e (origin st e)) es

-- the setting of a line
abbrev pub settle : List Element → List ℕ
settle es = settle_from start es

-- the furthest end of all that stands
abbrev pub furthest : State → ℕ
furthest st = max st.end (max st.right st.left)

-- e after the state: its origin and the state then
abbrev pub placed : State → Element → Placed
placed st e = record { at = origin st e; st = put st e (origin st e) }

-- an element's own length, from its origin to the furthest end of its block and readings
abbrev pub ruby_total : Side → Element → ℕ
ruby_total s e = cond (ruby s e).there (ruby s e).upto 0

abbrev pub total : Element → ℕ
total e = max (e.front + e.len) (max (ruby_total Right e) (ruby_total Left e))

-- any setting, by its states: what stands before the element with the number i
unfoldable pub after : State → List Element → List ℕ → ℕ → State
after st es xs zero = st
after st es xs (suc i) = put (after st es xs i) (el es i) (org xs i)

-- each element stands clear of the state that those before it have made
pub record Follows (es : List Element) (xs : List ℕ) : Type 0 where
  pub each : length xs ≡ length es
  pub near : (i : ℕ) → i < length es → (s : Side) → Near s (after start es xs i) (el es i) (org xs i)
