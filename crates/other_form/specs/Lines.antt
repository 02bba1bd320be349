-- Laws of Bytes over a sheet's text: a line of numbers, a section's first line and what an M, G or J line shows in form one hold no LF but the one that ends them, and neither P nor N behind their
-- first byte. So lines are counted as the text has them, and the letters go on and off line by line.
use Rattle.std.specs.Prelude.{Bool, true, false, cond, ◌&&◌, ◌||◌, List, [], ◌∷◌, ◌++◌, ◌≡◌, refl, ℕ, zero, suc, ◌+◌, ◌-◌, ◌/◌, ◌%◌, ◌^◌, ◌<◌, eqb, length, take, drop}
use Rattle.std.proofs.Common.{true≢false, append_assoc, ◌∙◌, ap, sym, add-zero, arith, ne_eqb, length-append, take_at}
use Rattle.basics.specs.Lists.{All, any, each}
use Rattle.basics.specs.Laws.{or_none}
use Rattle.text.specs.Print.{spell, width, decimal}
use Rattle.text.specs.Stands.{Stands}
use Rattle.rows.specs.Print.{spaced, numbers_text, line_text, head_text, rows_text, section_text}
use Rattle.elements.specs.declared.SheetForm.TheVariants.{One, Two}
use Rattle.elements.specs.Print.{Right, M, G, J, Entry, P, word, none, mono, group, jukugo, right_text, left_text, element_text, elements_text, Fit}
use Rattle.other_form.specs.Bytes.{past_lines, letters_on, off_by, letters_off}
use Rattle.other_form.specs.Other.{has_left}

-- a byte that ends no line, and is no P and no N
pub record Plain (b : ℕ) : Type 0 where
  pub lf : eqb b 10 ≡ false
  pub p : eqb b 80 ≡ false
  pub n : eqb b 78 ≡ false

module _ {A : Type 0} (Q : A → Type 0) where
  all_then : (xs ys : List A) → All Q xs → All Q ys → All Q (xs ++ ys)
  all_then [] ys a b = b
  all_then (x ∷ xs) ys a b = (a.0, all_then xs ys a.1 b)

digit-plain : (d : ℕ) → d < 10 → Plain (48 + d)
digit-plain d h = record { lf = ne_eqb (48 + d) 10 (λ e. omega arith); p = ne_eqb (48 + d) 80 (λ e. omega arith); n = ne_eqb (48 + d) 78 (λ e. omega arith) }

spell-plain : (k n : ℕ) → All Plain (spell k n)
unfolding spell
spell-plain zero n = tt
spell-plain (suc k) n = (digit-plain (n / 10 ^ k % 10) (omega arith), spell-plain k n)

pub decimal-plain : (n : ℕ) → All Plain (decimal n)
unfolding decimal
decimal-plain n = spell-plain (width n) n

space-plain : Plain 32
space-plain = record { lf = refl; p = refl; n = refl }

-- a word without these bytes
pub word-plain : (w : List ℕ) → any (λ b. eqb b 10 || (eqb b 80 || eqb b 78)) w ≡ false → All Plain w
word-plain [] e = tt
word-plain (b ∷ bs) e =
    let p = or_none (eqb b 10 || (eqb b 80 || eqb b 78)) (any (λ b. eqb b 10 || (eqb b 80 || eqb b 78)) bs) e in
    let q = or_none (eqb b 10) (eqb b 80 || eqb b 78) p.0 in
    let r = or_none (eqb b 80) (eqb b 78) q.1 in
    (record { lf = q.0; p = r.0; n = r.1 }, word-plain bs p.1)

spaced-plain : (vs : List ℕ) → All Plain (spaced vs)
unfolding spaced
spaced-plain [] = tt
spaced-plain (v ∷ vs) = (space-plain, all_then Plain (decimal v) (spaced vs) (decimal-plain v) (spaced-plain vs))

right-plain : (r : Right) → All Plain (right_text r)
unfolding right_text
right-plain (M r) = (record { lf = refl; p = refl; n = refl }, spaced-plain (r ∷ []))
right-plain (G b r) = (record { lf = refl; p = refl; n = refl }, spaced-plain (b ∷ (r ∷ [])))
right-plain (J runs) = (record { lf = refl; p = refl; n = refl }, spaced-plain (length runs ∷ runs))

-- Lines counted: behind a text of k lines as many are left to count as its length says.

pub record Passes (k : ℕ) (t : List ℕ) : Type 0 where
  pub go : (m at : ℕ) (rest : List ℕ) → past_lines (k + m) (t ++ rest) at ≡ past_lines m rest (at + length t)

past-line : (m at : ℕ) (body rest : List ℕ) → All Plain body → past_lines (suc m) (body ++ (10 ∷ rest)) at ≡ past_lines m rest (at + suc (length body))
unfolding past_lines
past-line m at [] rest a = refl
past-line m at (b ∷ bs) rest a = rw a.0.lf (past-line m (at + 1) bs rest a.1 ∙ ap (λ q. past_lines m rest q) (shift at (length bs)))
  where
    shift : (at n : ℕ) → at + 1 + suc n ≡ at + suc (suc n)
    shift at n = omega arith

pub passes_line : (body : List ℕ) → All Plain body → Passes 1 (body ++ (10 ∷ []))
passes_line body a = record { go = λ m at rest. count m at rest }
  where
    first : (m : ℕ) → 1 + m ≡ suc m
    first m = omega arith

    long : (at : ℕ) → at + suc (length body) ≡ at + length (body ++ (10 ∷ []))
    long at = omega (arith, length-append body (10 ∷ []))

    count : (m at : ℕ) (rest : List ℕ) → past_lines (1 + m) ((body ++ (10 ∷ [])) ++ rest) at ≡ past_lines m rest (at + length (body ++ (10 ∷ [])))
    count m at rest = rw (first m, append_assoc body (10 ∷ []) rest) (past-line m at body rest a ∙ ap (λ q. past_lines m rest q) (long at))

pub passes_none : Passes 0 []
passes_none = record { go = λ m at rest. rw (zero_plus m) (ap (λ q. past_lines m rest q) (sym (add-zero at))) }
  where
    zero_plus : (m : ℕ) → 0 + m ≡ m
    zero_plus m = omega arith

pub passes_then : {k j : ℕ} {t u : List ℕ} → Passes k t → Passes j u → Passes (k + j) (t ++ u)
passes_then {k} {j} {t} {u} x y = record { go = λ m at rest. count m at rest }
  where
    more : (m : ℕ) → k + j + m ≡ k + (j + m)
    more m = omega arith

    long : (at : ℕ) → at + length t + length u ≡ at + length (t ++ u)
    long at = omega (arith, length-append t u)

    count : (m at : ℕ) (rest : List ℕ) → past_lines (k + j + m) ((t ++ u) ++ rest) at ≡ past_lines m rest (at + length (t ++ u))
    count m at rest = rw (more m, append_assoc t u rest) (x.go (j + m) at (u ++ rest) ∙ y.go m (at + length t) rest ∙ ap (λ q. past_lines m rest q) (long at))

pub passes-each : {A : Type 0} (f : A → List ℕ) (xs : List A) → All (λ x. Passes 1 (f x)) xs → Passes (length xs) (each f xs)
passes-each f [] a = passes_none
passes-each f (x ∷ xs) a = rw (first (length xs)) (passes_then a.0 (passes-each f xs a.1))
  where
    first : (m : ℕ) → suc m ≡ 1 + m
    first m = omega arith

-- a section's lines
row-passes : (r : List ℕ) (k : ℕ) → length r ≡ suc k → Passes 1 (line_text r)
unfolding numbers_text
row-passes [] k e = absurd (omega arith)
row-passes (v ∷ vs) k e =
    rw (sym (append_assoc (decimal v) (spaced vs) (10 ∷ [])))
    (passes_line (decimal v ++ spaced vs) (all_then Plain (decimal v) (spaced vs) (decimal-plain v) (spaced-plain vs)))

pub rows-passes : (k : ℕ) (rows : List (List ℕ)) → All (λ (r : List ℕ). length r ≡ suc k) rows → Passes (length rows) (rows_text rows)
unfolding rows_text
rows-passes k rows a = passes-each line_text rows (every rows a)
  where
    every : (rows : List (List ℕ)) → All (λ (r : List ℕ). length r ≡ suc k) rows → All (λ r. Passes 1 (line_text r)) rows
    every [] a = tt
    every (r ∷ rs) a = (row-passes r k a.0, every rs a.1)

pub head-passes : (w : List ℕ) (n : ℕ) → All Plain w → Passes 1 (head_text w n)
unfolding head_text
head-passes w n a = rw (sym (append_assoc w (decimal n) (10 ∷ []))) (passes_line (w ++ decimal n) (all_then Plain w (decimal n) a (decimal-plain n)))

pub section-passes : (w : List ℕ) (k : ℕ) (rows : List (List ℕ)) → All Plain w → All (λ (r : List ℕ). length r ≡ suc k) rows → Passes (1 + length rows) (section_text w rows)
unfolding section_text
section-passes w k rows a b = passes_then (head-passes w (length rows) a) (rows-passes k rows b)

-- where the lines of a text that stands in a sheet end, and its bytes
pub past-stands : {k : ℕ} {t s : List ℕ} {at next : ℕ} → Passes k t → Stands s at t next → past_lines k (drop at s) at ≡ next
unfolding past_lines
past-stands {k} {t} {s} {at} {next} p x = rw (x.text, sym (add-zero k)) (p.go 0 at (drop next s) ∙ sym x.past)

pub stands-part : {t s : List ℕ} {at next : ℕ} → Stands s at t next → take (next - at) (drop at s) ≡ t
stands-part {t} {s} {at} {next} x =
    let e : next - at ≡ length t = omega (arith, x.past) in
    rw (e, x.text) (take_at t (drop next s) (length t) refl)

-- The letter N put on. A line of form one after the byte `last`, which is no P, and what follows it.

on_line : (body rest : List ℕ) (last : ℕ) → eqb last 80 ≡ false → All Plain body → letters_on last (body ++ (10 ∷ rest)) ≡ body ++ (32 ∷ 78 ∷ 10 ∷ letters_on 10 rest)
unfolding letters_on
on_line [] rest last h a = rw h
on_line (b ∷ bs) rest last h a = rw a.0.lf (ap {B = List ℕ} (λ l. b ∷ l) (on_line bs rest b a.0.p a.1))

on-element : (e : Entry) (rest : List ℕ) → Fit One e → letters_on 10 (element_text One e ++ rest) ≡ element_text Two e ++ letters_on 10 rest
unfolding letters_on element_text left_text Fit
on-element P rest h = refl
on-element (word r l) rest h =
    rw (append_assoc (right_text r) (10 ∷ []) rest, h.1, append_assoc (right_text r) (32 ∷ 78 ∷ 10 ∷ []) (letters_on 10 rest))
    (on_line (right_text r) rest 10 refl (right-plain r))

pub on-elements : (es : List Entry) → All (Fit One) es → letters_on 10 (elements_text One es) ≡ elements_text Two es
unfolding elements_text letters_on
on-elements [] a = refl
on-elements (e ∷ es) a = on-element e (elements_text One es) a.0 ∙ ap (λ l. element_text Two e ++ l) (on-elements es a.1)

-- And taken off.

off_byte : (b next : ℕ) → Plain b → eqb next 78 ≡ false → off_by b next ≡ b ∷ []
off_byte b next a h = rw (a.n, h) (go (eqb b 32))
  where
    go : (t : Bool) → cond {A = List ℕ} (t && false) [] (b ∷ []) ≡ b ∷ []
    go true = refl
    go false = refl

off-line : (body rest : List ℕ) → All Plain body → letters_off (body ++ (32 ∷ 78 ∷ 10 ∷ rest)) ≡ body ++ (10 ∷ letters_off rest)
unfolding letters_off
off-line [] rest a = refl
off-line (b ∷ []) rest a = ap (λ l. l ++ (10 ∷ letters_off rest)) (off_byte b 32 a.0 refl)
off-line (b ∷ (d ∷ ds)) rest a =
    ap (λ l. l ++ letters_off ((d ∷ ds) ++ (32 ∷ 78 ∷ 10 ∷ rest))) (off_byte b d a.0 a.1.0.n)
    ∙ ap {B = List ℕ} (λ l. b ∷ l) (off-line (d ∷ ds) rest a.1)

off-element : (e : Entry) (rest : List ℕ) → has_left e ≡ false → letters_off (element_text Two e ++ rest) ≡ element_text One e ++ letters_off rest
unfolding letters_off element_text left_text
off-element P rest h = refl
off-element (word r none) rest h =
    rw (append_assoc (right_text r) (32 ∷ 78 ∷ 10 ∷ []) rest, append_assoc (right_text r) (10 ∷ []) (letters_off rest)) (off-line (right_text r) rest (right-plain r))
off-element (word r (mono counts)) rest h = absurd (true≢false h)
off-element (word r (group count)) rest h = absurd (true≢false h)
off-element (word r (jukugo counts)) rest h = absurd (true≢false h)

pub off-elements : (es : List Entry) → All (λ e. has_left e ≡ false) es → letters_off (elements_text Two es) ≡ elements_text One es
unfolding elements_text letters_off
off-elements [] a = refl
off-elements (e ∷ es) a = off-element e (elements_text Two es) a.0 ∙ ap (λ l. element_text One e ++ l) (off-elements es a.1)
