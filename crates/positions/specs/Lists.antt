-- Lists of which a part is lent and written in place.
use Rattle.std.specs.Prelude.{◌≡◌, List, [], ◌++◌, ℕ, ◌+◌, ◌-◌, ◌≤◌, length, take, drop}
use Rattle.std.proofs.Common.{sym, ap, ◌∙◌, append_assoc, zero-add, arith, length-drop, drop-drop, length-take-le}
use Rattle.std.proofs.lemmas.List.Edits.{sets, sets-eq}
use Rattle.positions.specs.Positions.{lent, over}

pub lent-long : (xs : List ℕ) (a b : ℕ) → a ≤ b → b ≤ length xs → length (lent xs a b) ≡ b - a
lent-long xs a b h k = length-take-le (b - a) (drop a xs) (simp length-drop (omega arith))

pub sets-lent : (was new : List ℕ) (a b : ℕ) → a ≤ b → b ≤ length was → length new ≡ b - a → take a was ++ (new ++ drop (b - a) (drop a was)) ≡ sets was a new
sets-lent was new a b h k l =
    ap (λ (rest : List ℕ). take a was ++ (new ++ rest)) (drop-drop (b - a) a was ∙ ap (λ (n : ℕ). drop n was) (same a b (length new) h l))
    ∙ sym (append_assoc (take a was) new (drop (a + length new) was))
    ∙ sym (sets-eq new was a (omega arith))
  where
    same : (a b m : ℕ) → a ≤ b → m ≡ b - a → a + (b - a) ≡ a + m
    same a b m h e = omega arith

pub sets_over : (was new : List ℕ) → length new ≤ length was → sets was 0 new ≡ over new was
sets_over was new h = sets-eq new was 0 (omega arith) ∙ ap (λ (k : ℕ). new ++ drop k was) (zero-add (length new))

-- nothing is written of an empty list
pub sets-any : (was xs : List ℕ) (a b : ℕ) → xs ≡ [] → sets was a xs ≡ sets was b xs
sets-any was xs a b e = rw e
