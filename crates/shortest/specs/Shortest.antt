-- The extent that the shortest permitted line from a base character has, by the rows of a table.
use Rattle.std.specs.Prelude.{◌≡◌, Bool, true, false}
use Rattle.std.proofs.Math.Path.{refl, ap}
use Rattle.std.proofs.Common.{sym, ◌∙◌, add-zero}
use Rattle.std.proofs.Math.Bool.{cond}
use Prim.Native.Nat.{ℕ, zero, suc, ◌+◌, ◌-◌, ◌≤◌, ◌<◌, min}
use native.Mathlib.Omega.{arith}
use Rattle.line.specs.Setting.{furthest}
use Rattle.cells.specs.Rows.{Rows}
use Rattle.cells.specs.Cells.{walk, state_at, may_end}

-- the least of d and what f gives for those of the k numbers behind s that pass a test
unfoldable pub least_of : (ℕ → Bool) → (ℕ → ℕ) → ℕ → ℕ → ℕ → ℕ
least_of p f d s zero = d
least_of p f d s (suc k) = let c = s + suc k in cond (p c) (min (f c) (least_of p f d s k)) (least_of p f d s k)

-- the extent of the line from s up to c
abbrev pub extent_at : Rows → ℕ → ℕ → ℕ
extent_at t s c = furthest (state_at t s c)

-- "Every permitted break ahead is a try": the least extent that the line from s has at any of them, of n base characters. The job's end is always one, so its
-- extent is what the others are held against.
unfoldable pub needed_of : Rows → ℕ → ℕ → ℕ
unfolding least_of walk
needed_of t n s = least_of (may_end t n) (extent_at t s) (extent_at t s n) s (n - s)

-- Laws of the least.

module _ (p : ℕ → Bool) (f : ℕ → ℕ) (d s : ℕ) where
  pub least-split : (j k : ℕ) → least_of p f d s (j + k) ≡ least_of p f (least_of p f d s j) (s + j) k
  unfolding least_of
  least-split j zero = ap (least_of p f d s) (add-zero j)
  least-split j (suc k) =
      let r = least_of p f (least_of p f d s j) (s + j) k in
      ap (least_of p f d s) (one j k) ∙ rw (least-split j k) (ap (λ (c : ℕ). cond (p c) (min (f c) r) r) (move s j k))
    where
      one : (j k : ℕ) → j + suc k ≡ suc (j + k)
      one j k = omega arith

      move : (s j k : ℕ) → s + suc (j + k) ≡ s + j + suc k
      move s j k = omega arith

  pub least-same : (q : ℕ → Bool) (g : ℕ → ℕ) (k : ℕ) → ((c : ℕ) → s < c → c ≤ s + k → (p c ≡ q c) × (f c ≡ g c)) → least_of p f d s k ≡ least_of q g d s k
  unfolding least_of
  least-same q g zero h = refl
  least-same q g (suc k) h = let e = h (s + suc k) (omega arith) (omega arith) in rw (e.0, e.1, least-same q g k (λ c l u. h c l (omega arith)))

  -- by its upper end
  pub least_at : (m k : ℕ) → m ≡ suc k → least_of p f d s m ≡ cond (p (s + m)) (min (f (s + m)) (least_of p f d s k)) (least_of p f d s k)
  unfolding least_of
  least_at m k e = rw e

  pub least-none : (k : ℕ) → k ≡ 0 → least_of p f d s k ≡ d
  unfolding least_of
  least-none k e = rw e

pub least-never : (f : ℕ → ℕ) (d s k : ℕ) → least_of (λ _. false) f d s k ≡ d
unfolding least_of
least-never f d s zero = refl
least-never f d s (suc k) = least-never f d s k

-- what is held from the start is one of them
least-min : (p : ℕ → Bool) (f : ℕ → ℕ) (y d s k : ℕ) → least_of p f (min y d) s k ≡ min y (least_of p f d s k)
unfolding least_of
least-min p f y d s zero = refl
least-min p f y d s (suc k) = rw (least-min p f y d s k) (go (p (s + suc k)) (f (s + suc k)) (least_of p f d s k))
  where
    swap : (a b c : ℕ) → min a (min b c) ≡ min b (min a c)
    swap a b c = omega arith

    go : (b : Bool) (x r : ℕ) → cond b (min x (min y r)) (min y r) ≡ min y (cond b (min x r) r)
    go true x r = swap x y r
    go false x r = refl

-- the last of them may be held from the start
pub least_start : (p : ℕ → Bool) (f : ℕ → ℕ) (d s m k : ℕ) → m ≡ suc k → p (s + m) ≡ true → f (s + m) ≤ d → least_of p f d s m ≡ least_of p f (f (s + m)) s m
least_start p f d s m k e h l =
    let y = f (s + m) in
    least_at p f d s m k e
    ∙ rw (h, ← least-min p f y d s k, low y d l) (sym (same y k) ∙ sym (least_at p f y s m k e ∙ rw h))
  where
    low : (y d : ℕ) → y ≤ d → min y d ≡ y
    low y d l = omega arith

    same : (y k : ℕ) → min y (least_of p f y s k) ≡ least_of p f y s k
    same y k = sym (least-min p f y y s k) ∙ ap (λ z. least_of p f z s k) (low y y (omega arith))
