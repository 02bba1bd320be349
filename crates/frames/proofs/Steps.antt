-- What a read into the rest of a room makes of the bytes at its front, and what the bytes that are left say of those that were there.
use Rattle.std.specs.Prelude.{◌≡◌, refl, ℕ, suc, ◌+◌, ◌-◌, ◌≤◌, ◌<◌, List, [], ◌∷◌, ◌++◌, Option, Some, None, IfSome, min, cond, eqb, length, take, drop, get_or, set, replicate, slice_range, zero, true, false}
use Rattle.std.proofs.Common.{arith, sym, ap, ap₂, ◌∙◌, subst, le_refl, drop_at, drop-drop, append_assoc, append-nil, length-take-le, take_all, eq-eqb, ne_eqb, take-append-drop, length-set}
use lib.ListN.{drop_of_length-le}
use Rattle.std.proofs.lemmas.List.{take_more_set, drop-set-lt}
use Rattle.std.proofs.lemmas.Slice.{take-put_mid_below}
use Rattle.std.specs.Io.KnownBytes.{Consumes, IsAtEnd}
use Rattle.std.proofs.KnownBytes.{Consumes-nil, Consumes-trans}
use borrow.Rule.Slice.PartMut.{put_mid, post_of}
use lib.Seq.{take-add, take-append-le}
use Rattle.frames.specs.Frames.{line_in, past_line}

take_split : (a b : ℕ) (old new : List ℕ) → a ≤ b → take a new ≡ take a old → take a old ++ slice_range new a b ≡ take b new
take_split a b old new h front =
    let same : a + (b - a) ≡ b = omega arith in
    ap (λ l. l ++ slice_range new a b) (sym front) ∙ sym (take-add a (b - a) new) ∙ ap (λ n. take n new) same

part-of : (a k n : ℕ) (xs ys : List ℕ) → a ≤ length xs → n ≤ length ys → slice_range (put_mid a k xs ys) a (a + n) ≡ take n ys
part-of a k n xs ys within fits =
    let same : (a + n) - a ≡ n = omega arith in
    let after = post_of a k xs in
    ap (take ((a + n) - a)) (drop_at (take a xs) (ys ++ after) a (length-take-le a xs within)) ∙ ap (λ m. take m (ys ++ after)) same ∙ take-append-le n ys after fits

-- n bytes more, behind those that stand there
pub more-filled : (a b c : Option (List ℕ)) (done k n : ℕ) (room buf : List ℕ) → done ≤ length room → n ≤ length buf → Consumes a b (take done room) → Consumes b c (take n buf) →
    Consumes a c (take (done + n) (put_mid done k room buf))
more-filled a b c done k n room buf within fits before now =
    let joined = take_split done (done + n) room (put_mid done k room buf) (omega arith) (take-put_mid_below _ _ _ _ _ (le_refl _) within) in
    subst (Consumes a c) (ap (λ l. take done room ++ l) (sym (part-of done k n room buf within fits)) ∙ joined) (Consumes-trans a b c _ _ before now)

pub ruleset fill_steps = (Consumes-nil, more-filled)

-- What was known and is left, by what a full or an ended read gave.
given : (ys bs : List ℕ) (m n : ℕ) → length bs ≡ n → n ≤ m → (n < m → ys ≡ []) → (bs ≡ take m (bs ++ ys)) × (ys ≡ drop m (bs ++ ys))
given ys bs m n l h end = go (m - n) refl
  where
    go : (k : ℕ) → m - n ≡ k → (bs ≡ take m (bs ++ ys)) × (ys ≡ drop m (bs ++ ys))
    go zero e =
        let s : m ≡ length bs = omega arith in
        rw s (sym (take-append-le (length bs) bs ys (le_refl _) ∙ take_all (length bs) bs (le_refl _)), sym (drop_at bs ys (length bs) refl))
    go (suc k) e =
        let none : ys ≡ [] = end (omega arith) in
        rw (none, append-nil bs) (sym (take_all m bs (omega arith)), sym (drop_of_length-le bs (omega arith)))

pub taken : (mid now : Option (List ℕ)) (room rest : List ℕ) (n : ℕ) → n ≤ length room → Consumes mid now (take n room) → (n < length room → IsAtEnd now) → mid ≡ Some rest →
    (take n room ≡ take (length room) rest) × (now ≡ Some (drop (length room) rest))
taken None now room rest n h c end e = absurd (let z : ◌≡◌ {A = ℕ} 0 1 = cc in omega arith)
taken (Some xs) None room rest n h c end e = absurd c
taken (Some xs) (Some ys) room rest n h c end e =
    let same : rest ≡ xs = cc in
    let g = given ys (take n room) (length room) n (length-take-le n room h) h end in
    rw (same, c) (g.0, ap Some g.1)

-- A line: i bytes are read, and with the line that is still to read they make up the line.
abbrev pub Begun : Option (List ℕ) → Option (List ℕ) → List ℕ → ℕ → Type 0
Begun old now line i = IfSome old (λ xs. (rest : List ℕ) × (now ≡ Some rest) × (line_in 32 xs ≡ take i line ++ line_in (32 - i) rest) × (past_line 32 xs ≡ past_line (32 - i) rest))

abbrev pub LineRead : Option (List ℕ) → Option (List ℕ) → List ℕ → Type 0
LineRead old now line = IfSome old (λ xs. (line ≡ line_in 32 xs) × (now ≡ Some (past_line 32 xs)))

pub begun-first : (old : Option (List ℕ)) → Begun old old (replicate 32 0) 0
begun-first None = tt
begun-first (Some xs) = (xs, refl, refl, refl)

one-of : (one : List ℕ) → length one ≡ 1 → one ≡ get_or one 0 0 ∷ []
one-of [] e = absurd (omega arith)
one-of (b ∷ []) e = refl
one-of (b ∷ (c ∷ bs)) e = absurd (omega arith)

nothing : (rest : List ℕ) → [] ≡ take 1 rest → rest ≡ []
nothing [] e = refl
nothing (c ∷ cs) e = absurd (let z = ap length e in omega arith)

first-of : (b : ℕ) (rest : List ℕ) → b ∷ [] ≡ take 1 rest → rest ≡ b ∷ drop 1 rest
first-of b [] e = absurd (let z = ap length e in omega arith)
first-of b (c ∷ cs) e =
    let s : c ≡ b = cc in
    ap (λ x. x ∷ cs) s

no-more : (n : ℕ) → line_in n [] ≡ replicate n 0
unfolding line_in
no-more zero = refl
no-more (suc n) = refl

none-past : (n : ℕ) → past_line n [] ≡ []
unfolding past_line
none-past zero = refl
none-past (suc n) = refl

line-step : (n b : ℕ) (xs : List ℕ) → line_in (suc n) (b ∷ xs) ≡ b ∷ cond (eqb b 10) (replicate n 0) (line_in n xs)
unfolding line_in
line-step n b xs = refl

past-step : (n b : ℕ) (xs : List ℕ) → past_line (suc n) (b ∷ xs) ≡ cond (eqb b 10) xs (past_line n xs)
unfolding past_line
past-step n b xs = refl

pub blank-next : (line : List ℕ) (i b : ℕ) → i < 32 → drop i line ≡ replicate (32 - i) 0 → drop (i + 1) (set line i b) ≡ replicate (32 - (i + 1)) 0
blank-next line i b h e =
    let m : 32 - i ≡ suc (32 - (i + 1)) = omega arith in
    drop-set-lt (i + 1) line i b (omega arith) ∙ sym (drop-drop 1 i line) ∙ ap (drop 1) (e ∙ ap (λ n. replicate n 0) m)

-- the input ends
ended : (old mid now : Option (List ℕ)) (line one : List ℕ) (i n : ℕ) → length one ≡ 1 → drop i line ≡ replicate (32 - i) 0 → Begun old mid line i → n ≡ 0 → Consumes mid now (take n one) →
    (n < length one → IsAtEnd now) → LineRead old now line
ended None mid now line one i n single blank begun z c end = tt
ended (Some xs) mid now line one i n single blank begun z c end =
    let t = taken mid now one begun.0 n (omega arith) c end begun.1 in
    let none : begun.0 ≡ [] = nothing begun.0 (rw (z, single) at t.0) in (
      sym (begun.2 ∙ rw (none, no-more (32 - i), ← blank) (take-append-drop i line)),
      t.1 ∙ ap Some (rw (none, single) (sym (begun.3 ∙ rw none (none-past (32 - i))))),
    )

-- a byte more
record Next (xs : List ℕ) (now : Option (List ℕ)) (line : List ℕ) (i b : ℕ) : Type 0 where
  rest : List ℕ
  left : now ≡ Some rest
  line_is : line_in 32 xs ≡ take i line ++ (b ∷ cond (eqb b 10) (replicate (32 - (i + 1)) 0) (line_in (32 - (i + 1)) rest))
  past_is : past_line 32 xs ≡ cond (eqb b 10) rest (past_line (32 - (i + 1)) rest)

next : (xs : List ℕ) (mid now : Option (List ℕ)) (line one : List ℕ) (i n : ℕ) → length one ≡ 1 → i < 32 → Begun (Some xs) mid line i → (n ≡ 0 → ⊥) → n ≤ length one → Consumes mid now (take n one) →
    Next xs now line i (get_or one 0 0)
next xs mid now line one i n single more begun some few c =
    let t = taken mid now one begun.0 n few c (λ l. absurd (omega arith)) begun.1 in
    let whole : take n one ≡ get_or one 0 0 ∷ [] = take_all n one (omega arith) ∙ one-of one single in
    let rest = first-of (get_or one 0 0) begun.0 (sym whole ∙ (rw single at t.0)) in
    let m : 32 - i ≡ suc (32 - (i + 1)) = omega arith in
    record {
      rest = drop 1 begun.0;
      left = rw single at t.1;
      line_is = begun.2 ∙ ap₂ (λ k r. take i line ++ line_in k r) m rest ∙ ap (λ l. take i line ++ l) (line-step (32 - (i + 1)) (get_or one 0 0) (drop 1 begun.0));
      past_is = begun.3 ∙ ap₂ past_line m rest ∙ past-step (32 - (i + 1)) (get_or one 0 0) (drop 1 begun.0);
    }

-- LF ends the line
told : (old mid now : Option (List ℕ)) (line one : List ℕ) (i n : ℕ) → length line ≡ 32 → length one ≡ 1 → i < 32 → drop i line ≡ replicate (32 - i) 0 → Begun old mid line i → (n ≡ 0 → ⊥) →
    n ≤ length one → Consumes mid now (take n one) → get_or one 0 0 ≡ 10 → LineRead old now (set line i (get_or one 0 0))
told None mid now line one i n long single more blank begun some few c lf = tt
told (Some xs) mid now line one i n long single more blank begun some few c lf =
    let b = get_or one 0 0 in
    let x = next xs mid now line one i n single more begun some few c in
    let test : eqb b 10 ≡ true = eq-eqb b 10 lf in
    let whole = sym (take-append-drop (i + 1) (set line i b)) ∙ ap₂ (λ u v. u ++ v) (take_more_set line i b (omega arith)) (blank-next line i b more blank) in (
      whole ∙ append_assoc (take i line) (b ∷ []) (replicate (32 - (i + 1)) 0) ∙ sym (rw test at x.line_is),
      x.left ∙ ap Some (sym (rw test at x.past_is)),
    )

-- any other byte is one of the line
onward : (old mid now : Option (List ℕ)) (line one : List ℕ) (i n : ℕ) → length line ≡ 32 → length one ≡ 1 → i < 32 → Begun old mid line i → (n ≡ 0 → ⊥) → n ≤ length one → Consumes mid now (take n one) →
    (get_or one 0 0 ≡ 10 → ⊥) → Begun old now (set line i (get_or one 0 0)) (i + 1)
onward None mid now line one i n long single more begun some few c other = tt
onward (Some xs) mid now line one i n long single more begun some few c other =
    let b = get_or one 0 0 in
    let x = next xs mid now line one i n single more begun some few c in
    let test : eqb b 10 ≡ false = ne_eqb b 10 other in (
      x.rest,
      x.left,
      (rw test at x.line_is) ∙ sym (ap (λ u. u ++ line_in (32 - (i + 1)) x.rest) (take_more_set line i b (omega arith)) ∙ append_assoc (take i line) (b ∷ []) (line_in (32 - (i + 1)) x.rest)),
      rw test at x.past_is,
    )

-- all its bytes are read
full : (old now : Option (List ℕ)) (line : List ℕ) (i : ℕ) → length line ≡ 32 → i ≡ 32 → Begun old now line i → LineRead old now line
unfolding line_in past_line
full None now line i long e begun = tt
full (Some xs) now line i long e begun =
    let d : 32 - i ≡ 0 = omega arith in (
      sym (begun.2 ∙ rw d (append-nil (take i line) ∙ take_all i line (omega arith))),
      begun.1 ∙ ap Some (sym (rw d at begun.3)),
    )

-- The loop holds this before byte i.
pub record Line (old now : Option (List ℕ)) (line one : List ℕ) (i : ℕ) : Type 0 where
  pub long : length line ≡ 32
  pub single : length one ≡ 1
  pub blank : drop i line ≡ replicate (32 - i) 0
  pub begun : Begun old now line i

pub line-first : (old : Option (List ℕ)) → Line old old (replicate 32 0) (replicate 1 0) 0
line-first old = record { long = refl; single = refl; blank = refl; begun = begun-first old }

module _ {old mid : Option (List ℕ)} {line one : List ℕ} {i : ℕ} (inv : Line old mid line one i) where
  pub line-full : 32 ≤ i → i ≤ 32 → LineRead old mid line
  line-full a b = full old mid line i inv.long (omega arith) inv.begun

  module _ (now : Option (List ℕ)) (byte : List ℕ) (n : ℕ) (more : i < 32) (same : length byte ≡ length one) (few : n ≤ length byte) (c : Consumes mid now (take n byte)) (end : n < length byte → IsAtEnd now) where
    pub line-ended : n ≡ 0 → LineRead old now line
    line-ended z = ended old mid now line byte i n (same ∙ inv.single) inv.blank inv.begun z c end

    pub line-told : (n ≡ 0 → ⊥) → get_or byte 0 0 ≡ 10 → LineRead old now (set line i (get_or byte 0 0))
    line-told some lf = told old mid now line byte i n inv.long (same ∙ inv.single) more inv.blank inv.begun some few c lf

    pub line-next : (n ≡ 0 → ⊥) → (get_or byte 0 0 ≡ 10 → ⊥) → Line old now (set line i (get_or byte 0 0)) byte (i + 1)
    line-next some other =
        record {
          long = length-set line i (get_or byte 0 0) ∙ inv.long;
          single = same ∙ inv.single;
          blank = blank-next line i (get_or byte 0 0) more inv.blank;
          begun = onward old mid now line byte i n inv.long (same ∙ inv.single) more inv.begun some few c other;
        }

-- The bytes past the room: `left` of them are skipped.
abbrev pub Skipped : Option (List ℕ) → Option (List ℕ) → ℕ → Type 0
Skipped old now k = IfSome old (λ xs. now ≡ Some (drop k xs))

pub skipped-first : (old : Option (List ℕ)) → Skipped old old 0
skipped-first None = tt
skipped-first (Some xs) = refl

pub skipped-next : (old mid now : Option (List ℕ)) (one : List ℕ) (k j n : ℕ) → j ≡ k + 1 → length one ≡ 1 → n ≤ length one → Consumes mid now (take n one) → (n < length one → IsAtEnd now) →
    Skipped old mid k → Skipped old now j
skipped-next None mid now one k j n next single few c end s = tt
skipped-next (Some xs) mid now one k j n next single few c end s =
    let t = taken mid now one (drop k xs) n few c end s in
    t.1 ∙ ap Some (rw (single, next) (drop-drop 1 k xs))

-- A sheet: what the room holds of it, and what is skipped behind that.
pub sheet-read : (old mid now : Option (List ℕ)) (n m : ℕ) (room part : List ℕ) (k : ℕ) → m ≡ min n 65536 → length part ≡ m → k ≤ length part → Consumes old mid (take k part) →
    (k < length part → IsAtEnd mid) → Skipped mid now (n - 65536) → IfSome old (λ xs. (take k (put_mid 0 m room part) ≡ take (min n 65536) xs) × (now ≡ Some (drop n xs)))
sheet-read None mid now n m room part k small e few c end s = tt
sheet-read (Some xs) mid now n m room part k small e few c end s =
    let t = taken (Some xs) mid part xs k few c end refl in
    (take-append-le k part (post_of 0 m room) few ∙ (t.0 ∙ ap (λ i. take i xs) (e ∙ small)), after mid t.1 s)
  where
    after : (mid : Option (List ℕ)) → mid ≡ Some (drop (length part) xs) → Skipped mid now (n - 65536) → now ≡ Some (drop n xs)
    after mid h s =
        let u = rw h at s in
        let i : length part + (n - 65536) ≡ n = omega arith in
        u ∙ ap Some (drop-drop (n - 65536) (length part) xs ∙ ap (λ i. drop i xs) i)
