-- So many bytes are skipped as turns were taken, as far as there are any.
use Rattle.std.proofs.Common.{◌≡◌, ◌-◌, ◌≤◌, length}
use Rattle.frames.proofs.Steps.{Skipped}
use Rattle.frames.proofs.skip.Given as goal

abbrev pub invariant-loop-at : goal.invariant-loop-at
invariant-loop-at g l = (length l.one ≡ 1) × (l._at - 65536 ≤ l.n - 65536) × Skipped (g.R.Read.remaining l.initial.from) (g.R.Read.remaining l.from) (l._at - 65536)
