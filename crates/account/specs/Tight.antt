-- Why the named rule is tight, and how wide a gap it makes. Of two stretches that touch, one a half unit nearer lies on the other: it can't have passed it, since a
-- reading is two half units long and lies on a block no deeper than the block is long.
use Rattle.std.specs.Prelude.{◌≡◌, cond, List, ℕ, zero, suc, ◌+◌, ◌-◌, ◌≤◌, ◌<◌, length, eqb}
use Rattle.std.proofs.Common.{sym, ap, subst, inl, inr, arith, eq-eqb, ne_eqb}
use Rattle.line.specs.declared.Element.{Element}
use Rattle.line.specs.declared.Side.{Side}
use Rattle.line.proofs.Pairs.{ordered}
use Rattle.line.specs.Rules.{Span, Off, block_of, ruby_of, el, org, block_at, ruby_at, kept, Apart, Sounds}
use Rattle.account.specs.declared.Reason.{Reason}
use Rattle.account.specs.declared.Reason.TheVariants.{Start, Block, Under, Over, Ruby, Edge, Free}
use Rattle.account.specs.Reasons.{back, gap}
use Rattle.account.specs.Claims.{rank, Holds, Written, Nearer, Tight, Rule, width}

here : (m n a : ℕ) → m ≡ n → cond (eqb m n) a 0 ≡ a
here m n a e = rw (eq-eqb m n e)

elsewhere : (m n a : ℕ) → (m ≡ n → ⊥) → cond (eqb m n) a 0 ≡ 0
elsewhere m n a e = rw (ne_eqb m n e)

-- What r lies on up to the depth d, the stretch b, comes a half unit nearer;
pub under-tight : (r b t : Span) (d : ℕ) → r.start + 2 ≤ r.end → b.start + d ≤ b.end → r.end ≡ b.start + d →
    suc t.start ≡ b.start + d → suc t.end ≡ b.end → Off r t → ⊥
under-tight r b t d long deep e n m (inl k) = omega arith
under-tight r b t d long deep e n m (inr k) = omega arith

-- and r itself, which lies on b up to the depth d.
pub over-tight : (b r t : Span) (d : ℕ) → r.start + 2 ≤ r.end → b.start + d ≤ b.end → b.end ≡ r.start + d →
    Nearer t r → (k : Span) → k.start ≡ b.start → k.end ≡ b.end - d → Off t k → ⊥
over-tight b r t d long deep e n k p q (inl l) = omega (arith, n.end)
over-tight b r t d long deep e n k p q (inr l) = omega (arith, n.start)

pub ruby-tight : (q r t : Span) → q.start + 2 ≤ q.end → r.start + 2 ≤ r.end → q.end ≡ r.start → Nearer t r → Off t q → ⊥
ruby-tight q r t u v e n (inl l) = omega (arith, n.end)
ruby-tight q r t u v e n (inr l) = omega (arith, n.start)

module _ (es : List Element) (xs : List ℕ) (sound : Sounds es) (i : ℕ) (h : i < length es) where
  pub tight : Written es → (r : Reason) → Holds es xs i r → Tight es xs i r
  tight w Start f = λ t n. omega (arith, n.start)
  tight w (Block j) f = λ t n k. omega (arith, f.1, n.start)
  tight w (Under s j d) f = λ t n o.
      under-tight (ruby_at s es xs j) (block_at es xs i) t d (omega (arith, w j (omega (arith, f.0)) s f.1)) (omega (arith, f.2, (sound i h).before)) f.3
      (omega (arith, n.start, here i (suc j) (el es i).before (sym f.0), f.2))
      (omega (arith, n.end, elsewhere j (suc i) (el es i).after (λ e. omega (arith, f.0)))) o
  tight w (Over s j d) f = λ t n o.
      over-tight (block_at es xs j) (ruby_at s es xs i) t d (omega (arith, w i h s f.1)) (omega (arith, f.2, (sound j (omega (arith, f.0))).after)) f.3 n
      (kept es xs i j) (omega (arith, elsewhere j (suc i) (el es j).before (λ e. omega (arith, f.0))))
      (omega (arith, here i (suc j) (el es j).after (sym f.0), f.2)) o
  tight w (Ruby s j) f = λ t n o.
      ruby-tight (ruby_at s es xs j) (ruby_at s es xs i) t (omega (arith, w j (omega (arith, f.0)) s f.1)) (omega (arith, w i h s f.2)) f.3 n o
  tight w (Edge s) f = λ t n. omega (arith, f.1, n.start)
  tight w Free f = tt

  -- the gap by the reason's own numbers
  back_is : (i j : ℕ) → suc j ≡ i → back es xs i ≡ (block_at es xs j).end
  back_is zero j e = absurd (omega arith)
  back_is (suc i) j e = ap (λ k. (block_at es xs k).end) down
    where
      down : i ≡ j
      down = omega arith

  module _ (a : Apart es xs) where
    past : (j : ℕ) → suc j ≡ i → (block_at es xs j).end ≤ (block_at es xs i).start
    past j e = ordered es xs a.blocks j i (omega arith) h

    pub wide : (r : Reason) → Holds es xs i r → rank r < 11 → gap es xs i ≡ width es xs i r
    wide Start f n = omega arith
    wide (Block j) f n = omega (arith, f.1, back_is i j f.0)
    wide (Under s j d) f n = omega (arith, f.3, back_is i j f.0, past j f.0)
    wide (Over s j d) f n = omega (arith, f.3, back_is i j f.0, past j f.0)
    wide (Ruby s j) f n = omega (arith, f.3)
    wide (Edge s) f n = omega (arith, f.1)
    wide Free f n = absurd (omega arith)

-- Of settings: the element with the number i one half unit nearer, all before it as they are.
module _ (es : List Element) (xs ys : List ℕ) (i : ℕ) (same : (k : ℕ) → k < i → org ys k ≡ org xs k) (less : suc (org ys i) ≡ org xs i) where
  -- the others stand as they did
  stands : (P : ℕ → Type 0) (j : ℕ) → j < i → P (org ys j) → P (org xs j)
  stands P j l p = subst P (same j l) p

  block-nearer : Nearer (block_at es ys i) (block_at es xs i)
  block-nearer = record { start = omega arith; end = omega arith }

  ruby-nearer : (s : Side) → Nearer (ruby_at s es ys i) (ruby_at s es xs i)
  ruby-nearer s = record { start = omega arith; end = omega arith }

  kept-nearer : (j : ℕ) → j < i → Nearer (kept es ys j i) (kept es xs j i)
  kept-nearer j l = let z = elsewhere j (suc i) (el es i).after (λ e. omega arith) in record { start = omega arith; end = omega arith }

  pub broken : (r : Reason) → Holds es xs i r → Tight es xs i r → Rule es ys i r → ⊥
  broken Start f t k = t (block_at es ys i) block-nearer
  broken (Block j) f t k =
      t (block_at es ys i) block-nearer (stands (λ o. (block_of (el es j) o).end ≤ (block_at es ys i).start) j (omega (arith, f.0)) k)
  broken (Under s j d) f t k =
      let l : j < i = omega (arith, f.0) in
      t (kept es ys j i) (kept-nearer j l) (stands (λ o. Off (ruby_of s (el es j) o) (kept es ys j i)) j l k)
  broken (Over s j d) f t k =
      t (ruby_at s es ys i) (ruby-nearer s)
      (stands
      (λ o. Off (ruby_at s es ys i)
      (record {
        start = (block_of (el es j) o).start + cond (eqb j (suc i)) (el es j).before 0;
        end = (block_of (el es j) o).end - cond (eqb i (suc j)) (el es j).after 0;
      })) j (omega (arith, f.0)) k)
  broken (Ruby s j) f t k = t (ruby_at s es ys i) (ruby-nearer s) (stands (λ o. Off (ruby_at s es ys i) (ruby_of s (el es j) o)) j f.0 k)
  broken (Edge s) f t k = t (ruby_at s es ys i) (ruby-nearer s)
  broken Free f t k = k
