-- The text of each reason, and a part that is the last.
use Rattle.std.specs.Prelude.{◌≡◌, List, [], ◌∷◌, ℕ, ◌+◌, ◌-◌, ◌≤◌, ◌<◌, length}
use Rattle.std.proofs.Common.{arith}
use borrow.Author.Tests.{ne_eqb, le-leb, lt-leb}
use Rattle.result.specs.Text.{bytes}
use Rattle.result.specs.Left.{Left}
use Rattle.account_text.specs.Text.{said, under_text, over_text, touch_text, edge_text, ruby_text, reason_text}

module _ (r other depth : ℕ) where
  pub at_start : r ≡ 1 → reason_text r other depth ≡ bytes " rule 4 block touches start"
  unfolding reason_text
  at_start e = rw e

  pub by-block : r ≡ 2 → reason_text r other depth ≡ said (bytes " rule 1 block touches block of ") other
  unfolding reason_text
  by-block e = rw e

  module _ (a : r ≡ 1 → ⊥) (b : r ≡ 2 → ⊥) where
    pub by_right : r ≤ 6 → reason_text r other depth ≡ ruby_text (bytes "ruby") r other depth
    unfolding reason_text
    by_right l = rw (ne_eqb r 1 a, ne_eqb r 2 b, le-leb r 6 l)

    pub by_left : 6 < r → reason_text r other depth ≡ ruby_text (bytes "left ruby") (r - 4) other depth
    unfolding reason_text
    by_left l = rw (ne_eqb r 1 a, ne_eqb r 2 b, lt-leb r 6 l)

  module _ (name : List ℕ) where
    pub by-under : r ≡ 3 → ruby_text name r other depth ≡ under_text name other depth
    unfolding ruby_text
    by-under e = rw e

    pub by_over : r ≡ 4 → ruby_text name r other depth ≡ over_text name other depth
    unfolding ruby_text
    by_over e = rw e

    pub by_touch : r ≡ 5 → ruby_text name r other depth ≡ touch_text name other
    unfolding ruby_text
    by_touch e = rw e

    pub by-edge : (r ≡ 3 → ⊥) → (r ≡ 4 → ⊥) → (r ≡ 5 → ⊥) → ruby_text name r other depth ≡ edge_text name
    unfolding ruby_text
    by-edge a b c = rw (ne_eqb r 3 a, ne_eqb r 4 b, ne_eqb r 5 c)

-- the last part of a text fits, and so does its last byte
pub last_fits : {t : List ℕ} {from : ℕ} {all u : List ℕ} {at : ℕ} {a : List ℕ} → Left t from all u at a → at + length a ≤ length u
last_fits l = omega (arith, l.room, l.long, l.next)

pub byte_fits : {t : List ℕ} {from : ℕ} {all u : List ℕ} {at b : ℕ} → Left t from all u at (b ∷ []) → at < length u
byte_fits l = omega (arith, last_fits l)
