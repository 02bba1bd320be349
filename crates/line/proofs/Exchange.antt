-- "What one correction may disturb" (document 02, R-9): one element of a line is exchanged for another (`correction`), or any part of it for another part
-- (`exchange`). What stands before it stays where it was, and from the second element after it on all move by one and the same amount. The theorems go by the
-- rules alone and speak of any two least settings. `Onward` has the argument; `sharp` of Cases shows that the first element after it may move by another amount.
use Rattle.std.specs.Prelude.{◌≡◌, refl, List, [], ◌∷◌, ◌++◌, ℕ, zero, suc, ◌+◌, ◌-◌, ◌≤◌, ◌<◌, length}
use Rattle.std.proofs.Common.{sym, ap, ap₂, ◌∙◌, subst, arith, length-append, ext_get_or}
use Rattle.line.specs.declared.Element.{Element}
use Rattle.line.specs.declared.State.{State}
use Rattle.line.specs.Rules.{ruby, el, org, Least, Sounds}
use Rattle.line.specs.Setting.{start, put, origin, settle_from, settle, run}
use Rattle.line.proofs.Theorems.{the_setting}
use Rattle.line.specs.Onward.{Alike}
use Rattle.line.proofs.Onward.{tail, alike}
use Rattle.line.specs.Exchange.{Stayed, Moved, Throughout, Exchanged, OneExchanged, Corrected}

-- The elements of a line of two parts, and their origins.

el-first : (a b : List Element) (i : ℕ) → i < length a → el (a ++ b) i ≡ el a i
el-first [] b i l = absurd (omega arith)
el-first (e ∷ a) b zero l = refl
el-first (e ∷ a) b (suc i) l = el-first a b i (omega arith)

el-second : (a b : List Element) (i j : ℕ) → j ≡ length a + i → el (a ++ b) j ≡ el b i
el-second [] b i j q = ap (el b) (omega arith)
el-second (e ∷ a) b i zero q = absurd (omega arith)
el-second (e ∷ a) b i (suc j) q = el-second a b i j (omega arith)

org-first : (st : State) (a b : List Element) (i : ℕ) → i < length a → org (settle_from st (a ++ b)) i ≡ org (settle_from st a) i
unfolding settle_from
org-first st [] b i l = absurd (omega arith)
org-first st (e ∷ a) b zero l = refl
org-first st (e ∷ a) b (suc i) l = org-first (put st e (origin st e)) a b i (omega arith)

org-second : (st : State) (a b : List Element) (i j : ℕ) → j ≡ length a + i → org (settle_from st (a ++ b)) j ≡ org (settle_from (run st a) b) i
unfolding settle_from run
org-second st [] b i j q = ap (org (settle_from st b)) (omega arith)
org-second st (e ∷ a) b i zero q = absurd (omega arith)
org-second st (e ∷ a) b i (suc j) q = org-second (put st e (origin st e)) a b i j (omega arith)

second-sounds : (a b : List Element) → Sounds (a ++ b) → Sounds b
second-sounds [] b w = w
second-sounds (e ∷ a) b w = second-sounds a b (tail e (a ++ b) w)

-- one element at two origins: its block and its readings stand as its origin does
stayed : (es es' : List Element) (xs ys : List ℕ) (i j : ℕ) → el es' j ≡ el es i → Stayed (org xs i) (org ys j) → Throughout Stayed es es' xs ys i j
stayed es es' xs ys i j e h =
    let f = ap (λ (x : Element). x.front) e in
    let l = ap (λ (x : Element). x.len) e in
    record {
      origin = h;
      block_start = omega arith;
      block_end = omega arith;
      ruby_start = λ s. omega (arith, ap (λ (x : Element). (ruby s x).from) e);
      ruby_end = λ s. omega (arith, ap (λ (x : Element). (ruby s x).upto) e);
    }

moved : (forth back : ℕ) (es es' : List Element) (xs ys : List ℕ) (i j : ℕ) → el es' j ≡ el es i → Moved forth back (org xs i) (org ys j) →
    Throughout (Moved forth back) es es' xs ys i j
moved forth back es es' xs ys i j e h =
    let f = ap (λ (x : Element). x.front) e in
    let l = ap (λ (x : Element). x.len) e in
    record {
      origin = h;
      block_start = omega arith;
      block_end = omega arith;
      ruby_start = λ s. omega (arith, ap (λ (x : Element). (ruby s x).from) e);
      ruby_end = λ s. omega (arith, ap (λ (x : Element). (ruby s x).upto) e);
    }

-- It holds of the settings that we give whether they fit the measure or not, and asks nothing of a, b and b'.
pub exchanged : (a b b' c : List Element) → Sounds c → Exchanged a b b' c (settle (a ++ (b ++ c))) (settle (a ++ (b' ++ c)))
exchanged a b b' c w =
    record {
      stays = λ i l.
          stayed (a ++ (b ++ c)) (a ++ (b' ++ c)) _ _ i i (el-first a (b' ++ c) i l ∙ sym (el-first a (b ++ c) i l))
          (org-first start a (b' ++ c) i l ∙ sym (org-first start a (b ++ c) i l));
      forth = rest.forth;
      back = rest.back;
      moves = λ i h l.
          moved rest.forth rest.back (a ++ (b ++ c)) (a ++ (b' ++ c)) _ _ (length a + length b + i) (length a + length b' + i)
          (same b' i ∙ sym (same b i)) (omega (arith, at b i, at b' i, rest.moves i h l));
    }
  where
    rest : Alike c (run (run start a) b) (run (run start a) b')
    rest = alike (run (run start a) b) (run (run start a) b') c w

    at : (b : List Element) (i : ℕ) → org (settle (a ++ (b ++ c))) (length a + length b + i) ≡ org (settle_from (run (run start a) b) c) i
    at b i = org-second start a (b ++ c) (length b + i) (length a + length b + i) (omega arith) ∙ org-second (run start a) b c i (length b + i) refl

    same : (b : List Element) (i : ℕ) → el (a ++ (b ++ c)) (length a + length b + i) ≡ el c i
    same b i = el-second a (b ++ c) (length b + i) (length a + length b + i) (omega arith) ∙ el-second b c i (length b + i) refl

-- And so of any two least settings, by the rules alone, of lines that can be set, each to its measure.
pub exchange : (m m' : ℕ) (a b b' c : List Element) (xs ys : List ℕ) → Sounds (a ++ (b ++ c)) → Sounds (a ++ (b' ++ c)) →
    Least m (a ++ (b ++ c)) xs → Least m' (a ++ (b' ++ c)) ys → Exchanged a b b' c xs ys
exchange m m' a b b' c xs ys w w' l l' =
    rw (the_setting m (a ++ (b ++ c)) xs w l, the_setting m' (a ++ (b' ++ c)) ys w' l')
    (exchanged a b b' c (second-sounds b c (second-sounds a (b ++ c) w)))

-- the two lines by what is before the element and what is after it
record Split (n : ℕ) (es es' : List Element) : Type 0 where
  pub a : List Element
  pub e : Element
  pub e' : Element
  pub c : List Element
  pub count : length a ≡ n
  pub was : es ≡ a ++ (e ∷ c)
  pub now : es' ≡ a ++ (e' ∷ c)

split : (n : ℕ) (es es' : List Element) → OneExchanged n es es' → Split n es es'
split n [] es' x = absurd (omega (arith, x.there))
split n (e ∷ es) [] x = absurd (omega (arith, x.each))
split zero (e ∷ es) (e' ∷ es') x =
    record { a = []; e = e; e' = e'; c = es; count = refl; was = refl; now = ap {B = List Element} (λ c. e' ∷ c) rest }
  where
    rest : es' ≡ es
    rest = ext_get_or _ es' es (omega (arith, x.each)) (λ i h. x.others (suc i) (omega (arith, x.each)) (λ z. omega arith))
split (suc n) (e ∷ es) (e' ∷ es') x =
    let r = split n es es' (record { there = omega (arith, x.there); each = omega (arith, x.each); others = λ i h k. x.others (suc i) (omega arith) (λ z. k (omega arith)) }) in
    record {
      a = e ∷ r.a;
      e = r.e;
      e' = r.e';
      c = r.c;
      count = ap suc r.count;
      was = ap {B = List Element} (λ z. e ∷ z) r.was;
      now = ap₂ {C = List Element} (λ y z. y ∷ z) (x.others 0 (omega arith) (λ z. omega arith)) r.now;
    }

-- R-9: "if one element is exchanged for another and the line's breaks are kept, every element before it stays where it was, and all elements from the second
-- after it onward move by one and the same amount. Both lines must be settable."
pub correction : (m m' n : ℕ) (es es' : List Element) (xs ys : List ℕ) → Sounds es → Sounds es' → OneExchanged n es es' →
    Least m es xs → Least m' es' ys → Corrected n es es' xs ys
correction m m' n es es' xs ys w w' o l l' = go (split n es es' o)
  where
    go : Split n es es' → Corrected n es es' xs ys
    go r =
        record {
          stays = λ i h. rw (r.was, r.now) (x.stays i (omega (arith, r.count)));
          forth = x.forth;
          back = x.back;
          moves = λ i h k.
              rw (r.was, r.now)
              (subst (λ j. Throughout (Moved x.forth x.back) (r.a ++ (r.e ∷ r.c)) (r.a ++ (r.e' ∷ r.c)) xs ys j j) (same i (omega arith))
              (x.moves (i - (length r.a + 1)) (omega (arith, r.count)) (omega (arith, r.count, ap length r.was, length-append r.a (r.e ∷ r.c)))));
        }
      where
        x : Exchanged r.a (r.e ∷ []) (r.e' ∷ []) r.c xs ys
        x = exchange m m' r.a (r.e ∷ []) (r.e' ∷ []) r.c xs ys (rw r.was at w) (rw r.now at w') (rw r.was at l) (rw r.now at l')

        same : (i : ℕ) → n + 1 ≤ i → length r.a + 1 + (i - (length r.a + 1)) ≡ i
        same i h = omega (arith, r.count)
