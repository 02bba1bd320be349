-- The last piece of the element of row i is that of the piece from z on. A turn goes on to the next piece.
use mathlib.Core.Path.{◌≡◌}
use Prim.Native.Nat.{◌-◌, ◌<◌}
use Rattle.result.specs.ByRows.{behind, last_piece}
use Rattle.result.proofs.last_piece.Given as goal

abbrev pub invariant-loop-next : goal.invariant-loop-next
invariant-loop-next l = (l.z < l.e) × (l.next ≡ behind l.t l.z l.e) × (last_piece l.t l.i l.e ≡ last_piece l.t l.z l.e)

abbrev pub decreases-loop-next : goal.decreases-loop-next
decreases-loop-next l = l.e - l.z
