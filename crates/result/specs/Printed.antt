-- What is printed of a line lies within the job: each piece is an element or a part of one, so it has none but the element's own characters.
use Rattle.std.specs.Prelude.{◌≡◌, Bool, true, false, cond, ◌&&◌, [], ◌∷◌, eqb}
use Rattle.std.proofs.Math.Path.{refl}
use Prim.Native.Nat.{ℕ, ◌+◌, ◌-◌, ◌≤◌, min, max}
use native.Mathlib.Omega.{arith}
use Rattle.std.proofs.lemmas.Bool.{eqb-false}
use Rattle.std.proofs.Math.Dec.{ltb}
use Rattle.basics.specs.Lists.{All}
use Rattle.line.specs.declared.Side.{Side}
use Rattle.line.specs.declared.Side.TheVariants.{Right, Left}
use Rattle.door.specs.declared.Piece.{Piece}
use Rattle.door.specs.Job.{Job, base_count, elements}
use Rattle.door.specs.Passed.{GoodElement, Passed}
use Rattle.job.specs.Line.{part, cuts, in_line, first_of, many_of, count_of}
use Rattle.job.specs.Laws.{all-each, both}
use Rattle.job.proofs.Tiles.{reading_shares}
use Rattle.result.specs.Text.{printed}

-- its characters are the job's
pub record Within (job : Job) (p : Piece) : Type 0 where
  pub inside : p.base + p.bases ≤ base_count job
  pub reads : (side : Side) → first_of side p + many_of side p ≤ count_of side job

module _ (job : Job) (x : Piece) (good : GoodElement job x) where
  element-reads : (side : Side) → first_of side x + many_of side x ≤ count_of side job
  element-reads Right = good.reads
  element-reads Left = good.left_reads

  part-within : cuts job x ≡ true → (i n : ℕ) → i + n ≤ x.bases → Within job (part job x i n)
  unfolding part
  part-within j i n h = record { inside = omega (arith, good.inside); reads = reads }
    where
      reads : (side : Side) → first_of side (part job x i n) + many_of side (part job x i n) ≤ count_of side job
      reads side =
          let s = reading_shares side job x good in
          omega (
            arith,
            s.begins j i n h,
            s.takes j i n h,
            s.more (x.base + i + n) (x.base + x.bases) (omega arith),
            s.all (x.base + x.bases) (omega arith),
            element-reads side,
          )

  in_within : (s e : ℕ) → All (Within job) (in_line job s e x)
  unfolding in_line
  in_within s e = go (eqb n 0) (cuts job x && ltb n x.bases) refl refl
    where
      i : ℕ
      i = max s x.base - x.base

      n : ℕ
      n = min e (x.base + x.bases) - (x.base + i)

      fits : (s e a b : ℕ) → (min e (a + b) - (a + (max s a - a)) ≡ 0 → ⊥) → (max s a - a) + (min e (a + b) - (a + (max s a - a))) ≤ b
      fits s e a b h = omega arith

      go : (z w : Bool) → eqb n 0 ≡ z → (cuts job x && ltb n x.bases) ≡ w → All (Within job) (cond z [] (cond w (part job x i n) x ∷ []))
      go true w a b = tt
      go false false a b = (record { inside = good.inside; reads = element-reads }, tt)
      go false true a b = (part-within (both (cuts job x) (ltb n x.bases) b).0 i n (fits s e x.base x.bases (eqb-false n 0 a)), tt)

pub printed-within : (job : Job) → Passed job → (s e : ℕ) → All (Within job) (printed job s e)
unfolding printed
printed-within job passed s e = all-each (GoodElement job) (Within job) (in_line job s e) (elements job) (λ x g. in_within job x g s e) passed.each
