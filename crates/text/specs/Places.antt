-- Laws of lists at a place that the code counts.
use Rattle.std.specs.Prelude.{ℕ, ◌+◌, ◌<◌, ◌≡◌, List, ◌∷◌, length, get_or, drop}
use Rattle.std.proofs.Common.{add-one, drop-cons}

-- the list from a place on is the byte there and the list from the next place on
pub drop_at : (s : List ℕ) (at : ℕ) → at < length s → drop at s ≡ get_or s at 0 ∷ drop (at + 1) s
drop_at s at h = rw (add-one at, drop-cons s at 0)
