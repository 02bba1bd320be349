-- A line has no room for more characters of one em than the measure leaves behind its last block: so tries past that number fail.
use Rattle.std.specs.Prelude.{◌≡◌, true, false}
use Rattle.std.proofs.Math.Path.{sym}
use Rattle.std.proofs.Common.{◌∙◌, div-lt_iff_lt-mul, mul_comm, mul_assoc}
use Prim.Native.Nat.{ℕ, ◌+◌, ◌-◌, ◌*◌, ◌/◌, ◌≤◌, ◌<◌, min}
use native.Mathlib.Omega.{arith}
use borrow.Author.Tests.{lt-leb}
use Rattle.line.specs.declared.Element.{Element}
use Rattle.line.specs.declared.State.{State}
use Rattle.line.specs.declared.Side.TheVariants.{Right}
use Rattle.line.specs.Setting.{furthest}
use Rattle.line.specs.Least.{origin-near}
use Rattle.cells.specs.Rows.{Rows}
use Rattle.cells.specs.Cells.{cell_at, word_at, piece, next}
use Rattle.cells.specs.Sound.{part-long}
use Rattle.filling.specs.declared.Break.{Break}
use Rattle.filling.specs.Search.{extent_upto, fits_upto, inner_break, most_of, break_none}

-- a block stands behind the last one
block-far : (st : State) (e : Element) → st.end + e.len ≤ furthest (next st e)
block-far st e = omega (arith, (origin-near st e Right).block)

beyond : (em end limit m : ℕ) → 0 < em → (limit - end) / (2 * em) < m → limit < end + 2 * (em * m)
beyond em end limit m h l =
    let k : limit - end < m * (2 * em) = (div-lt_iff_lt-mul {k = 2 * em} {x = limit - end} {y = m} (omega arith)).0 l in
    let e : m * (2 * em) ≡ 2 * (em * m) = mul_comm m (2 * em) ∙ mul_assoc 2 em m in
    omega (arith, k, e)

module _ (limit : ℕ) (t : Rows) (st : State) (i bases : ℕ) (cut : (cell_at t i).cut ≡ true) (some : 0 < t.em) where
  fails : (c : ℕ) → i + (limit - st.end) / (2 * t.em) < c → fits_upto limit t st i c ≡ false
  unfolding word_at
  fails c l = lt-leb _ limit (omega (arith, block-far st (piece t i c), long, beyond t.em st.end limit (c - i) some (omega arith)))
    where
      long : 2 * (t.em * (c - i)) ≤ (piece t i c).len
      long = rw cut (part-long t i c)

  pub most : (last : Break) → inner_break limit t st i last (most_of bases st.end t.em limit) ≡ inner_break limit t st i last (bases - 1)
  unfolding inner_break
  most last =
      sym (break_none (fits_upto limit t st i) (extent_upto t st i) last i (most_of bases st.end t.em limit) (bases - 1) (less _ (bases - 1))
      (λ c l u. fails c (behind ((limit - st.end) / (2 * t.em)) (bases - 1) c l u)))
    where
      less : (q b : ℕ) → min q b ≤ b
      less q b = omega arith

      behind : (q b c : ℕ) → i + min q b < c → c ≤ i + b → i + q < c
      behind q b c l u = omega arith
