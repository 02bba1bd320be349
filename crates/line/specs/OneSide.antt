-- A line without readings on one side is set by the other side alone, as document 01 has it: a side without readings asks of an element
-- only that its block is past the last one, and this the other side asks too.
use Rattle.std.specs.Prelude.{◌≡◌, refl, List, [], ◌∷◌, ℕ, zero, suc, ◌+◌, ◌≤◌, ◌<◌, length}
use Rattle.std.proofs.Common.{ap, ◌∙◌, zero-le, arith}
use Rattle.std.proofs.Math.Nat.{max-eq_left, max-eq_right}
use Rattle.line.specs.declared.Element.{Element}
use Rattle.line.specs.declared.State.{State}
use Rattle.line.specs.declared.Side.{Side}
use Rattle.line.specs.declared.Side.TheVariants.{Right, Left}
use Rattle.line.specs.Rules.{other, ruby, HasRuby, ruby_of, el, org}
use Rattle.line.specs.Setting.{ruby_from, start, reach, put, Near, asked, origin, settle_from, settle, after, Follows}
use Rattle.line.specs.Flag.{lowered}
use Rattle.line.specs.Least.{asked-near, near-asked, reach-put}

-- document 01's setting: each origin as the side s asks
unfoldable pub asked_from : Side → State → List Element → List ℕ
asked_from s st [] = []
asked_from s st (e ∷ es) = asked s st e ∷ asked_from s (put st e (asked s st e)) es

-- no element has a reading on the side s
abbrev pub Without : Side → List Element → Type 0
Without s es = (i : ℕ) → i < length es → HasRuby s (el es i) → ⊥

-- a side without readings reaches no further than the blocks
idle-put : (s : Side) (st : State) (e : Element) (x : ℕ) → (HasRuby s e → ⊥) → reach s st ≤ st.end → st.end ≤ x + e.front → reach s (put st e x) ≤ (put st e x).end
idle-put s st e x n h b = omega (arith, reach-put s st e x, lowered (ruby s e).there (ruby_of s e x).end 0 n)

idle-start : (s : Side) → reach s start ≤ 0
idle-start Right = zero-le
idle-start Left = zero-le

pub idle-after : (s : Side) (es : List Element) (xs : List ℕ) → Follows es xs → Without s es → (i : ℕ) → i ≤ length es →
    reach s (after start es xs i) ≤ (after start es xs i).end
unfolding after
idle-after s es xs f n zero h = idle-start s
idle-after s es xs f n (suc i) h =
    idle-put s (after start es xs i) (el es i) (org xs i) (n i h) (idle-after s es xs f n i (omega arith)) (f.near i h s).block

-- and asks no more than the other one
module _ (s : Side) (st : State) (e : Element) (n : HasRuby (other s) e → ⊥) (h : reach (other s) st ≤ st.end) where
  abbrev x : ℕ
  x = asked s st e

  near : Near s st e x
  near = asked-near s st e x (omega arith)

  asks-no_more : asked (other s) st e ≤ x
  asks-no_more =
      near-asked (other s) st e x
      (record {
        block = near.block;
        under = omega (arith, near.block);
        clear = omega (arith, near.block, from);
        over = omega (arith, near.block, from);
      })
    where
      from : ruby_from (other s) e ≡ e.front + e.len
      from = lowered (ruby (other s) e).there (ruby (other s) e).from (e.front + e.len) n

  pub one-origin : origin st e ≡ x
  unfolding origin
  one-origin = go s asks-no_more
    where
      go : (s : Side) → asked (other s) st e ≤ asked s st e → origin st e ≡ asked s st e
      go Right l = max-eq_left l
      go Left l = max-eq_right l

one_from : (s : Side) (st : State) (es : List Element) → Without (other s) es → reach (other s) st ≤ st.end → settle_from st es ≡ asked_from s st es
unfolding settle_from asked_from
one_from s st [] n h = refl
one_from s st (e ∷ es) n h =
    ap (λ x. x ∷ settle_from (put st e x) es) (one-origin s st e (n 0 (omega arith)) h)
    ∙ ap (λ xs. asked s st e ∷ xs) (one_from s (put st e (asked s st e)) es (λ i l. n (suc i) (omega arith)) behind)
  where
    behind : reach (other s) (put st e (asked s st e)) ≤ (put st e (asked s st e)).end
    behind = idle-put (other s) st e (asked s st e) (n 0 (omega arith)) h (asked-near s st e (asked s st e) (omega arith)).block

pub one_side : (s : Side) (es : List Element) → Without (other s) es → settle es ≡ asked_from s start es
one_side s es n = one_from s start es n (idle-start (other s))
