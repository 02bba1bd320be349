-- What is asked of the classes, and the classes of which it is so as one number: a binary digit each, class 0 lowest. Each can be read back.
use Rattle.std.specs.Prelude.{◌≡◌, refl, Bool, true, false, cond, ◌&&◌, ◌||◌, ℕ, zero, suc, ◌+◌, ◌-◌, ◌*◌, ◌/◌, ◌%◌, ◌^◌, ◌≤◌, ◌<◌, leb, ltb, eqb}
use Rattle.std.proofs.Common.{◌∙◌, ap, sym, add-zero, one-mul, arith, le-leb, ne_eqb, pow_pos, pow-add, pow_mono}
use Rattle.std.proofs.Math.Nat.{two-pow-succ, add-mul-div_right, div-eq_of_lt, add-mul-mod_self_left}
use Rattle.std.proofs.Math.Numerals.{add-one}
use Rattle.std.proofs.Math.Decide.{dec_lt}
use Rattle.std.proofs.lemmas.Bool.{lt-leb}
use Rattle.class.specs.declared.Entry.{Entry}
use Rattle.class.specs.declared.Mark.{Mark}
use Rattle.class.specs.declared.Mark.TheVariants.{Accepted, Kana, Western, Before, After, Whole, Deep, Shallow}
use Rattle.class.specs.Class.{accepted, western, kana_like, kind_of, blank_before, blank_after, blank_whole, quarters}
use Rattle.class.specs.Entry.{entry_of, lies_before, lies_after, is_whole}
use Rattle.class.specs.Laws.{tabled, tabled-at, is_kana, is_western, accepted-past, kana-past, western-past, before-past, after-past, whole-past}

-- what an entry says
abbrev pub marked : Mark → Entry → Bool
marked Accepted e = e.accepted
marked Kana e = is_kana e.kind
marked Western e = is_western e.kind
marked Before e = lies_before e.sides
marked After e = lies_after e.sides
marked Whole e = is_whole e.sides
marked Deep e = ltb 0 e.quarters
marked Shallow e = eqb e.quarters 1

-- may ruby lie on a class, and to a quarter em at most
abbrev pub is_deep : ℕ → Bool
is_deep c = blank_before c || (blank_after c || blank_whole c)

abbrev pub is_shallow : ℕ → Bool
is_shallow c = eqb c 5

-- what the documents say
abbrev pub says : Mark → ℕ → Bool
says Accepted = accepted
says Kana = kana_like
says Western = western
says Before = blank_before
says After = blank_after
says Whole = blank_whole
says Deep = is_deep
says Shallow = is_shallow

-- they say the same, which antt computes
pub marked_law : (m : Mark) (c : ℕ) → c < 31 → marked m (entry_of c) ≡ says m c
unfolding accepted western kana_like kind_of blank_before blank_after blank_whole quarters entry_of
marked_law m c h = sym (tabled-at (λ (c : ℕ). marked m (entry_of c)) true 31 _ refl c h) ∙ tabled-at (says m) true 31 _ (go m) c h
  where
    go : (m : Mark) → tabled (λ (c : ℕ). marked m (entry_of c)) 0 31 ≡ tabled (says m) 0 31
    go Accepted = refl
    go Kana = refl
    go Western = refl
    go Before = refl
    go After = refl
    go Whole = refl
    go Deep = refl
    go Shallow = refl

-- and past the table nothing is so
says_past : (m : Mark) (c : ℕ) → 30 < c → says m c ≡ false
says_past Accepted c h = accepted-past c h
says_past Kana c h = kana-past c h
says_past Western c h = western-past c h
says_past Before c h = before-past c h
says_past After c h = after-past c h
says_past Whole c h = whole-past c h
says_past Deep c h = rw (before-past c h, after-past c h, whole-past c h)
says_past Shallow c h = ne_eqb c 5 (λ e. omega arith)

-- the classes below n of which f is so
unfoldable pub set_of : (ℕ → Bool) → ℕ → ℕ
set_of f zero = 0
set_of f (suc n) = set_of f n + cond (f n) (2 ^ n) 0

-- is class c among them
abbrev pub has_at : ℕ → ℕ → Bool
has_at set c = leb c 30 && eqb (set / 2 ^ c % 2) 1

set_lt : (f : ℕ → Bool) (n : ℕ) → set_of f n < 2 ^ n
unfolding set_of
set_lt f zero = omega arith
set_lt f (suc n) = go (f n) (set_lt f n)
  where
    go : (t : Bool) → set_of f n < 2 ^ n → set_of f n + cond t (2 ^ n) 0 < 2 ^ suc n
    go true h = omega (arith, two-pow-succ n)
    go false h = omega (arith, two-pow-succ n)

-- what is added above class c leaves its digit
above : (s c k : ℕ) (t : Bool) → (s + cond t (2 ^ (suc k + c)) 0) / 2 ^ c % 2 ≡ s / 2 ^ c % 2
above s c k false = ap (λ (x : ℕ). x / 2 ^ c % 2) (add-zero s)
above s c k true =
    ap (λ (x : ℕ). (s + x) / 2 ^ c % 2) (pow-add 2 (suc k) c ∙ ap (λ (x : ℕ). x * 2 ^ c) double)
    ∙ ap (λ (x : ℕ). x % 2) (add-mul-div_right s (2 * 2 ^ k) (pow_pos c))
    ∙ add-mul-mod_self_left (s / 2 ^ c) 2 (2 ^ k)
  where
    double : 2 ^ suc k ≡ 2 * 2 ^ k
    double = omega (arith, two-pow-succ k)

-- and what is added at class c is its digit
at : (s c : ℕ) (t : Bool) → s < 2 ^ c → eqb ((s + cond t (2 ^ c) 0) / 2 ^ c % 2) 1 ≡ t
at s c false h = ap (λ (x : ℕ). eqb (x % 2) 1) (ap (λ (x : ℕ). x / 2 ^ c) (add-zero s) ∙ div-eq_of_lt h)
at s c true h =
    ap (λ (x : ℕ). eqb (x % 2) 1)
    (ap (λ (x : ℕ). (s + x) / 2 ^ c) (sym (one-mul (2 ^ c))) ∙ add-mul-div_right s 1 (pow_pos c) ∙ ap (λ (x : ℕ). x + 1) (div-eq_of_lt h))

digit : (f : ℕ → Bool) (n c : ℕ) → c < n → eqb (set_of f n / 2 ^ c % 2) 1 ≡ f c
unfolding set_of
digit f zero c l = absurd (omega arith)
digit f (suc n) c l = go (dec_lt c n) (λ m. digit f n c m)
  where
    go : Dec (c < n) → (c < n → eqb (set_of f n / 2 ^ c % 2) 1 ≡ f c) → eqb ((set_of f n + cond (f n) (2 ^ n) 0) / 2 ^ c % 2) 1 ≡ f c
    go (yes m) below =
        ap (λ (x : ℕ). eqb ((set_of f n + cond (f n) (2 ^ x) 0) / 2 ^ c % 2) 1) {x = n} {y = suc (n - c - 1) + c} (omega arith)
        ∙ ap (λ (x : ℕ). eqb x 1) (above (set_of f n) c (n - c - 1) (f n))
        ∙ below m
    go (no m) below = rw (last m) (at (set_of f n) n (f n) (set_lt f n))
      where
        last : (c < n → ⊥) → c ≡ n
        last m = omega arith

-- each can be read back
pub read_back : (m : Mark) (c : ℕ) → has_at (set_of (says m) 31) c ≡ says m c
read_back m c = go (dec_lt c 31)
  where
    go : Dec (c < 31) → has_at (set_of (says m) 31) c ≡ says m c
    go (yes l) = rw (le-leb c 30 (omega arith)) (digit (says m) 31 c l)
    go (no l) = rw (lt-leb c 30 (past l)) (sym (says_past m c (past l)))
      where
        past : (c < 31 → ⊥) → 30 < c
        past l = omega arith

-- Reading the classes one by one: those below n are in `set`, and `place` is that of the next.
pub record Upto (f : ℕ → Bool) (set place n : ℕ) : Type 0 where
  pub within : n ≤ 31
  pub power : place ≡ 2 ^ n
  pub classes : set ≡ set_of f n

pub upto-none : (f : ℕ → Bool) → Upto f 0 1 0
unfolding set_of
upto-none f = record { within = omega arith; power = refl; classes = refl }

module _ {f : ℕ → Bool} {set place n : ℕ} (u : Upto f set place n) where
  -- one class more
  pub upto_next : {d : ℕ} → n < 31 → d ≡ cond (f n) place 0 → Upto f (set + d) (place * 2) (n + 1)
  unfolding set_of
  upto_next {d} l e =
      record {
        within = omega arith;
        power = rw (u.power, add-one n) (omega (arith, two-pow-succ n));
        classes = rw (e, u.classes, u.power, add-one n);
      }

  -- the place of a class below 31, and what is below it
  pub place-small : n < 31 → place ≤ 1073741824
  place-small l = rw u.power (pow_mono {i = n} {j = 30} (omega arith))

  pub set-small : set < place
  set-small = rw (u.power, u.classes) (set_lt f n)

  pub upto_all : (n < 31 → ⊥) → set ≡ set_of f 31
  upto_all l = u.classes ∙ ap (set_of f) (is l)
    where
      is : (n < 31 → ⊥) → n ≡ 31
      is l = omega (arith, u.within)
