-- What is copied stands at the front, and the rest as it was: as if it had been written entry by entry.
use Rattle.std.specs.Prelude.{◌≡◌, List, ◌++◌, ℕ, ◌≤◌, length, take, drop}
use Rattle.std.proofs.Common.{sym, ap, ◌∙◌, zero-add, arith, length-take-le}
use Rattle.std.proofs.lemmas.List.Edits.{sets, sets-eq}
use Rattle.job_account.proofs.put_extents.Goals as goal

written : (n : ℕ) (found was : List ℕ) → n ≤ length found → n ≤ length was → take n found ++ drop n was ≡ sets was 0 (take n found)
written n found was h g =
    let long = length-take-le n found h in
    sym (sets-eq (take n found) was 0 (omega (arith, long, g)) ∙ ap (λ (k : ℕ). take n found ++ drop k was) (zero-add (length (take n found)) ∙ long))

pub returns : goal.returns
returns c =
    let x = c.args in
    ap (λ (part : List ℕ). part ++ drop x.n x.extents.now) c.copy_from_slice.ensures.after ∙ written x.n x.found.now x.extents.now c.requires.1 c.requires.2
