-- A sound sheet: its counts are those of the lines that were read, each within its maximum, and every line has all its numbers. So it is said once for both forms: a sound sheet is the text of numbers
-- in form, and what is read of it are these.
use Rattle.std.specs.Prelude.{List, ◌≡◌, ℕ, Ok}
use Rattle.std.proofs.Common.{◌∙◌, ap, sym}
use Rattle.sheet.specs.declared.Counts.{Counts}
use Rattle.sheet.specs.Sheet.{Sheet, reading}
use Rattle.sheet.specs.Reads.{sheet-reads}
use Rattle.sheet.proofs.Exact.{sound-keeps}
use Rattle.sheet.specs.Sound.{SoundSheet, sound-of}

pub sound : (s : List ℕ) (c : Counts) → (reading s).end ≡ Ok c → SoundSheet (reading s) c
sound s c is =
    let k = (sound-keeps s).0 (c, is) in
    let e = sheet-reads s k.form k.numbers k.keeps k.text in
    rw e (sound-of k.form k.numbers k.keeps c (ap (λ (t : Sheet). t.end) (sym e) ∙ is))
