-- A text stands in a sheet's bytes from one place to another. A number is read exactly where it stands in decimal, a word exactly where it stands, and texts follow each other.
use Rattle.std.specs.Prelude.{ℕ, Some, ◌+◌, ◌<◌, ◌≤◌, ◌≡◌, refl, List, [], ◌∷◌, ◌++◌, length, drop}
use Rattle.std.proofs.Common.{◌∙◌, ap, sym, append-nil, append_assoc, zero-add, arith, length-append, length-drop, drop-drop}
use Rattle.std.proofs.Math.Seq.{drop-length, drop-append_seam}
use Rattle.text.specs.Text.{most, number, word}
use Rattle.text.specs.Print.{width, decimal}
use Rattle.text.specs.Written.{length-decimal}
use Rattle.text.specs.Back.{number-back, wide}
use Rattle.text.specs.Unique.{Reads, ended, number-only, word-only, word_back}

-- t stands in s at the place `at` and ends before the place `next`: the bytes of s from `at` on are t and then those from `next` on
pub record Stands (s : List ℕ) (at : ℕ) (t : List ℕ) (next : ℕ) : Type 0 where
  pub text : drop at s ≡ t ++ drop next s
  pub past : next ≡ at + length t

-- of a text that was read from a place on
pub stands_of : (s : List ℕ) (at : ℕ) (t : List ℕ) (next : ℕ) → Reads (drop at s) t at next → Stands s at t next
stands_of s at t next r =
    record {
      text = r.text ∙ ap (λ l. t ++ l) (sym (rw (r.past, ← drop-drop (length t) at s, r.text) (drop-append_seam t r.rest)));
      past = r.past;
    }

-- nothing, one text after the other, and the two parts of a text
pub stands-none : (s : List ℕ) (at : ℕ) → Stands s at [] at
stands-none s at = record { text = refl; past = omega arith }

pub stands-then : {s : List ℕ} {at : ℕ} {a b : List ℕ} {p q : ℕ} → Stands s at a p → Stands s p b q → Stands s at (a ++ b) q
stands-then {s} {at} {a} {b} {p} {q} x y =
    record {
      text = x.text ∙ (ap (λ l. a ++ l) y.text ∙ sym (append_assoc a b (drop q s)));
      past = omega (arith, x.past, y.past, length-append a b);
    }

-- a text and the place between its two parts
pub record Cut (s : List ℕ) (at : ℕ) (a b : List ℕ) (q : ℕ) : Type 0 where
  pub mid : ℕ
  pub first : Stands s at a mid
  pub second : Stands s mid b q

pub stands-cut : (a b : List ℕ) {s : List ℕ} {at q : ℕ} → Stands s at (a ++ b) q → Cut s at a b q
stands-cut a b {s} {at} {q} x =
    record {
      mid = at + length a;
      first = stands_of s at a (at + length a) (record { rest = b ++ drop q s; text = x.text ∙ append_assoc a b (drop q s); past = refl });
      second =
          record {
            text = rw (← drop-drop (length a) at s, x.text, append_assoc a b (drop q s)) (drop-append_seam a (b ++ drop q s));
            past = omega (arith, x.past, length-append a b);
          };
    }

-- a text of some bytes ends within the sheet
pub stands-within : {s : List ℕ} {at : ℕ} (t : List ℕ) {next : ℕ} → Stands s at t next → 0 < length t → next ≤ length s
stands-within {s} {at} t {next} x h = omega (arith, x.past, ap length x.text, length-append t (drop next s), length-drop at s, length-drop next s)

-- a number is read exactly where it stands in decimal, followed by the byte that ends it
module _ (s : List ℕ) (at n stop next : ℕ) where
  pub number-stands : number (drop at s) stop at ≡ Some (n, next) → (n ≤ most) × Stands s at (ended n stop) next
  number-stands e =
      let o = number-only (drop at s) stop at n next e in
      (o.0, stands_of s at (ended n stop) next o.1)

  -- with the byte that ends it a number takes two bytes of the sheet at least
  pub number_past : number (drop at s) stop at ≡ Some (n, next) → (at + 2 ≤ next) × (next ≤ length s)
  number_past e =
      let o = number-stands e in
      let l = length-append (decimal n) (stop ∷ []) in
      let w = (wide n o.0).some in
      (omega (arith, o.1.past, l, length-decimal n, w), stands-within (ended n stop) o.1 (omega (arith, l)))

  pub stands-number : stop < 48 → n ≤ most → Stands s at (ended n stop) next → number (drop at s) stop at ≡ Some (n, next)
  stands-number h g x =
      let f : at + width n + 1 ≡ next = omega (arith, x.past, length-append (decimal n) (stop ∷ []), length-decimal n) in
      rw (x.text, append_assoc (decimal n) (stop ∷ []) (drop next s)) (number-back n stop at (drop next s) g h ∙ ap (λ q. Some (n, q)) f)

-- a word is read exactly where it stands
module _ (w s : List ℕ) (at next : ℕ) where
  pub word_stands : word w (drop at s) at ≡ Some next → Stands s at w next
  word_stands e = stands_of s at w next (word-only w (drop at s) at next e)

  pub stands_word : Stands s at w next → word w (drop at s) at ≡ Some next
  stands_word x = rw x.text (word_back w (drop next s) at ∙ ap Some (sym x.past))

-- a sheet that is a text whole
pub stands-whole : (s t : List ℕ) → Stands s 0 t (length s) → s ≡ t
stands-whole s t x = x.text ∙ (ap (λ l. t ++ l) (drop-length s) ∙ append-nil t)

pub whole-stands : (s t : List ℕ) → s ≡ t → Stands s 0 t (length s)
whole-stands s t e = record { text = e ∙ sym (ap (λ l. t ++ l) (drop-length s) ∙ append-nil t); past = ap length e ∙ sym (zero-add (length t)) }

-- a sheet that begins with a text
pub begins-stands : (s t rest : List ℕ) → s ≡ t ++ rest → Stands s 0 t (length t)
begins-stands s t rest e = stands_of s 0 t (length t) (record { rest = rest; text = e; past = sym (zero-add (length t)) })
