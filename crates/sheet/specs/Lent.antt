-- The tables after a sound reading, for those who lend their parts: the part of a table from a on, m long, is one field of all lines. `into` is what `read_sheet` ensures, `is` that it answered `Ok c`.
-- The parts, table by table, are in `proofs/Lent.antt`.
use Rattle.std.specs.Prelude.{List, ◌≡◌, ℕ, ◌+◌, ◌*◌, ◌≤◌, ◌<◌, length, take, drop}
use Rattle.std.proofs.Common.{◌∙◌, ap, sym, arith, take_at}
use Rattle.std.proofs.lemmas.List.Edits.{sets, sets-eq}
use Rattle.rows.specs.Table.{laid, column}
use Rattle.rows.specs.Columns.{column-part}
use Rattle.sheet.specs.Sound.{Lines}

-- a table of lines
pub lines-part : (k most n size : ℕ) (rows : List (List ℕ)) (t u : List ℕ) → k * most ≤ size → Lines k most n rows → u ≡ laid t 0 most rows → length t ≡ size →
    (j a m : ℕ) → j < k → a ≡ j * most → m ≡ n → take m (drop a u) ≡ column j rows
lines-part k most n size rows t u s w e l j a m h f g = ap (λ (v : List ℕ). take m (drop a v)) e ∙ column-part k most j n rows t h w.count w.few w.wide (omega arith) a m f g

-- a table of runs
pub list-part : (xs was u : List ℕ) (n size : ℕ) → length xs ≡ n → n ≤ size → u ≡ sets was 0 xs → length was ≡ size → (m : ℕ) → m ≡ n → take m u ≡ xs
list-part xs was u n size c few e l m f =
    let h : 0 + length xs ≤ length was = omega arith in
    ap (take m) (e ∙ sets-eq xs was 0 h) ∙ take_at xs _ m (c ∙ sym f)
