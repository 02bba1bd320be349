-- "What one correction may disturb" (document 02, R-9): one element of a line is exchanged for another (`correction`), or any part of it for another part
-- (`exchange`). What stands before it stays where it was, and from the second element after it on all move by one and the same amount. The theorems, in `proofs/Exchange.antt`, go by the
-- rules alone and speak of any two least settings. `proofs/Onward.antt` has the argument; `sharp` of Cases shows that the first element after it may move by another amount.
use Rattle.std.specs.Prelude.{◌≡◌, List, ◌++◌, ℕ, ◌+◌, ◌≤◌, ◌<◌, length}
use Rattle.line.specs.declared.Element.{Element}
use Rattle.line.specs.declared.Side.{Side}
use Rattle.line.specs.Rules.{el, org, block_at, ruby_at}

-- It stays: it stands where it stood.
abbrev pub Stayed : (was now : ℕ) → Type 0
Stayed was now = now ≡ was

-- It moves on by `forth` and back by `back`, in all by their difference, which may be below 0.
abbrev pub Moved : (forth back was now : ℕ) → Type 0
Moved forth back was now = now + back ≡ was + forth

-- Element i of the line es and element j of the line es', whose origins are xs and ys: H holds of where the one stands and where the other stands, of the
-- origins, and of both ends of the blocks and of the rubies of each side.
pub record Throughout (H : (was now : ℕ) → Type 0) (es es' : List Element) (xs ys : List ℕ) (i j : ℕ) : Type 0 where
  pub origin : H (org xs i) (org ys j)
  pub block_start : H (block_at es xs i).start (block_at es' ys j).start
  pub block_end : H (block_at es xs i).end (block_at es' ys j).end
  pub ruby_start : (s : Side) → H (ruby_at s es xs i).start (ruby_at s es' ys j).start
  pub ruby_end : (s : Side) → H (ruby_at s es xs i).end (ruby_at s es' ys j).end

-- The part b between a and c exchanged for b'; one of the two may be empty, where elements are put in or taken out. The first element after it has the number 0
-- in c, the second the number 1.
pub record Exchanged (a b b' c : List Element) (xs ys : List ℕ) : Type 0 where
  pub stays : (i : ℕ) → i < length a → Throughout Stayed (a ++ (b ++ c)) (a ++ (b' ++ c)) xs ys i i
  pub forth : ℕ
  pub back : ℕ
  pub moves : (i : ℕ) → 1 ≤ i → i < length c →
      Throughout (Moved forth back) (a ++ (b ++ c)) (a ++ (b' ++ c)) xs ys (length a + length b + i) (length a + length b' + i)

-- One element exchanged for another: the line es' is es but for its element n.
pub record OneExchanged (n : ℕ) (es es' : List Element) : Type 0 where
  pub there : n < length es
  pub each : length es' ≡ length es
  pub others : (i : ℕ) → i < length es → (i ≡ n → ⊥) → el es' i ≡ el es i

-- "every element before it stays where it was, and all elements from the second after it onward move by one and the same amount"
pub record Corrected (n : ℕ) (es es' : List Element) (xs ys : List ℕ) : Type 0 where
  pub stays : (i : ℕ) → i < n → Throughout Stayed es es' xs ys i i
  pub forth : ℕ
  pub back : ℕ
  pub moves : (i : ℕ) → n + 2 ≤ i → i < length es → Throughout (Moved forth back) es es' xs ys i i
