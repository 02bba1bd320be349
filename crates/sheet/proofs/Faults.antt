-- "The first fault met, 13 or a count over its maximum (2)": the reading of a sheet gives no other number.
use Rattle.std.specs.Prelude.{true, List, ◌≡◌, ℕ, Err}
use Rattle.refusal.specs.declared.Refusal.{Refusal}
use Rattle.refusal.specs.declared.Refusal.TheVariants.{Form, Count}
use Rattle.sheet.specs.Sheet.{reading}
use Rattle.sheet.specs.Reads.{SheetIs, broken, over, stands, over_reads}
use Rattle.sheet.proofs.Came.{sheet-is, breaks-reads}
use Rattle.sheet.proofs.Exact.{sound-not, sound-keeps}
use Rattle.sheet.specs.Faults.{ours}

pub thirteen_or_two : (s : List ℕ) (r : Refusal) → (reading s).end ≡ Err r → ours r ≡ true
thirteen_or_two s r e = go (sheet-is s)
  where
    go : SheetIs s → ours r ≡ true
    go (broken l b) =
        let f = breaks-reads s l b in
        let i : Form l ≡ r = cc in
        rw (← i)
    go (over which o) =
        let f = over_reads o in
        let i : Count which ≡ r = cc in
        rw (← i)
    go (stands f q form text) =
        let c = (sound-keeps s).1 (record { form = f; numbers = q; keeps = form; text = text }) in
        absurd (sound-not s c.0 c.1 e)
