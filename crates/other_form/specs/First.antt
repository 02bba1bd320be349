-- Refusal 17's place (document 02, R-6: "17, a form two sheet that form one can't hold, .. place the first line at fault (a reading: the `left` count line)"): `fault_line` is 0 exactly where form one
-- can hold the sheet, and else it is a line at fault before which there is none.
use Rattle.std.specs.Prelude.{Bool, true, false, cond, List, [], ◌∷◌, ◌++◌, ◌↔◌, ◌≡◌, refl, ℕ, zero, suc, ◌+◌, ◌≤◌, ◌<◌, eqb, ltb, length, get_or}
use Rattle.std.proofs.Common.{true≢false, ◌∙◌, ap, ap₂, sym, subst, arith, eqb-true, ltb-false}
use Rattle.std.proofs.lemmas.Bool.{eqb-false}
use Rattle.basics.specs.Lists.{any}
use Rattle.basics.specs.Laws.{or_none, any_none, none_any}
use Rattle.sheet.specs.Sheet.{plain}
use Rattle.sheet.specs.Form.{Written}
use Rattle.other_form.specs.Other.{has_left, Holds, unlike, left_line, has_reading, faults, first_or, fault_line}

-- a line at fault: "both ratios are 1:2:1 and the profile is 0", one number a line from line 4 on; "no left reading"
pub data AtFault (r : Written) : ℕ → Type 0 where
  number : (i : ℕ) → i < 7 → (get_or r.house i 0 ≡ get_or plain i 0 → ⊥) → AtFault r (4 + i)
  reads : has_reading r ≡ true → AtFault r (left_line (length r.base) (length r.ruby))

pub record FirstFault (r : Written) (l : ℕ) : Type 0 where
  pub there : AtFault r l
  pub least : (m : ℕ) → AtFault r m → l ≤ m

-- two lists of numbers, and the lines on which they differ
data Compared (line : ℕ) (vs ps : List ℕ) : List ℕ → Type 0 where
  same : vs ≡ ps → Compared line vs ps []
  differ : (i : ℕ) (rest : List ℕ) → i < length vs → (get_or vs i 0 ≡ get_or ps i 0 → ⊥) → ((j : ℕ) → j < i → get_or vs j 0 ≡ get_or ps j 0) → Compared line vs ps ((line + i) ∷ rest)

compared : (line : ℕ) (vs ps : List ℕ) → length vs ≡ length ps → Compared line vs ps (unlike line vs ps)
unfolding unlike
compared line [] [] e = same refl
compared line [] (p ∷ ps) e = absurd (omega arith)
compared line (v ∷ vs) [] e = absurd (omega arith)
compared line (v ∷ vs) (p ∷ ps) e = go (eqb v p) refl (unlike (line + 1) vs ps) (compared (line + 1) vs ps (omega arith))
  where
    here : (i : ℕ) → line + 1 + i ≡ line + suc i
    here i = omega arith

    before : (i : ℕ) → v ≡ p → ((j : ℕ) → j < i → get_or vs j 0 ≡ get_or ps j 0) → (j : ℕ) → j < suc i → get_or (v ∷ vs) j 0 ≡ get_or (p ∷ ps) j 0
    before i h f zero l = h
    before i h f (suc j) l = f j (omega arith)

    more : v ≡ p → (xs : List ℕ) → Compared (line + 1) vs ps xs → Compared line (v ∷ vs) (p ∷ ps) xs
    more h xs (same f) = same (ap₂ {C = List ℕ} (λ x l. x ∷ l) h f)
    more h xs (differ i rest l n f) = subst (λ q. Compared line (v ∷ vs) (p ∷ ps) (q ∷ rest)) (sym (here i)) (differ (suc i) rest (omega arith) n (before i h f))

    none : (j : ℕ) → j < 0 → get_or (v ∷ vs) j 0 ≡ get_or (p ∷ ps) j 0
    none j l = absurd (omega arith)

    go : (t : Bool) → eqb v p ≡ t → (xs : List ℕ) → Compared (line + 1) vs ps xs → Compared line (v ∷ vs) (p ∷ ps) (cond t [] (line ∷ []) ++ xs)
    go true h xs c = more (eqb-true v p h) xs c
    go false h xs c = subst (λ q. Compared line (v ∷ vs) (p ∷ ps) (q ∷ xs)) (zero-on line) (differ 0 xs (omega arith) (eqb-false v p h) none)
      where
        zero-on : (n : ℕ) → n + 0 ≡ n
        zero-on n = omega arith

-- the first line at fault, or none
pub data FaultIs (r : Written) : ℕ → Type 0 where
  none : Holds r → FaultIs r 0
  first : (l : ℕ) → 0 < l → FirstFault r l → FaultIs r l

no_reading : (r : Written) → has_reading r ≡ false → r.house ≡ plain → Holds r
no_reading r e h =
    let p = or_none (ltb 0 (length r.left)) (any has_left r.elem) e in
    record { house = h; left = empty r.left (ltb-false 0 (length r.left) p.0); letters = any_none has_left r.elem p.1 }
  where
    empty : (xs : List (List ℕ)) → length xs ≤ 0 → xs ≡ []
    empty [] h = refl
    empty (x ∷ xs) h = absurd (omega arith)

pub fault-is : (r : Written) → length r.house ≡ 7 → FaultIs r (fault_line r)
unfolding fault_line faults
fault-is r seven = go (unlike 4 r.house plain) (compared 4 r.house plain seven)
  where
    left : ℕ
    left = left_line (length r.base) (length r.ruby)

    by_left : r.house ≡ plain → (m : ℕ) → AtFault r m → left ≤ m
    by_left e m (number i l n) = absurd (n (ap (λ xs. get_or xs i 0) e))
    by_left e m (reads h) = omega arith

    later : (i j : ℕ) → (j < i → ⊥) → 4 + i ≤ 4 + j
    later i j h = omega arith

    by_number : (i : ℕ) → i < 7 → ((j : ℕ) → j < i → get_or r.house j 0 ≡ get_or plain j 0) → (m : ℕ) → AtFault r m → 4 + i ≤ m
    by_number i l f m (number j k n) = later i j (λ h. n (f j h))
    by_number i l f m (reads h) = omega arith

    reading : (t : Bool) → has_reading r ≡ t → r.house ≡ plain → FaultIs r (first_or 0 (cond t (left ∷ []) []))
    reading true e h = first left (omega arith) (record { there = reads e; least = by_left h })
    reading false e h = none (no_reading r e h)

    go : (xs : List ℕ) → Compared 4 r.house plain xs → FaultIs r (first_or 0 (xs ++ cond (has_reading r) (left ∷ []) []))
    go xs (same h) = reading (has_reading r) refl h
    go xs (differ i rest l n f) = first (4 + i) (omega arith) (record { there = number i (omega arith) n; least = by_number i (omega arith) f })

-- a sheet with a line at fault can't be held
pub fault-not : (r : Written) (l : ℕ) → Holds r → AtFault r l → ⊥
fault-not r l h (number i k n) = n (ap (λ xs. get_or xs i 0) h.house)
fault-not r l h (reads e) = true≢false (sym e ∙ rw (h.left, none_any has_left r.elem h.letters))

module _ (r : Written) (seven : length r.house ≡ 7) where
  -- no line is at fault exactly where form one can hold the sheet
  pub holds-exactly : (fault_line r ≡ 0) ↔ Holds r
  holds-exactly = (λ e. go (fault_line r) (fault-is r seven) e, λ h. back h (fault_line r) (fault-is r seven))
    where
      go : (l : ℕ) → FaultIs r l → l ≡ 0 → Holds r
      go l (none h) e = h
      go l (first k some f) e = absurd (omega arith)

      back : Holds r → (l : ℕ) → FaultIs r l → l ≡ 0
      back h l (none k) = refl
      back h l (first k some f) = absurd (fault-not r l h f.there)

  -- and else it is the first line at fault
  pub first-exactly : (l : ℕ) → ((fault_line r ≡ l) × (0 < l)) ↔ FirstFault r l
  first-exactly l = (λ p. go (fault_line r) (fault-is r seven) p.0 p.1, λ f. back f (fault_line r) (fault-is r seven))
    where
      go : (k : ℕ) → FaultIs r k → k ≡ l → 0 < l → FirstFault r l
      go k (none h) e some = absurd (omega arith)
      go k (first m some f) e h = subst (FirstFault r) e f

      back : FirstFault r l → (k : ℕ) → FaultIs r k → (k ≡ l) × (0 < l)
      back f k (none h) = absurd (fault-not r l h f.there)
      back f k (first m some g) = let e : m ≡ l = omega (arith, g.least l f.there, f.least m g.there) in (e, omega arith)
