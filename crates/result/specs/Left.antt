-- Writing a text part by part: what is written of it from the place `from` on and what is left of it make up the whole.
use Rattle.std.specs.Prelude.{◌≡◌, refl, List, [], ◌++◌, ℕ, ◌+◌, ◌≤◌, length}
use Rattle.std.proofs.Common.{sym, ap₂, ◌∙◌, add-zero, arith, length-append}
use Rattle.std.proofs.lemmas.List.Edits.{sets}
use Rattle.basics.specs.Laws.{sets_append}
use Rattle.text.specs.Print.{Wrote}
use Rattle.text.specs.Written.{same-long}

pub record Left (t : List ℕ) (from : ℕ) (all u : List ℕ) (at : ℕ) (todo : List ℕ) : Type 0 where
  pub room : from + length all ≤ length t
  pub long : length u ≡ length t
  pub next : at + length todo ≡ from + length all
  pub holds : sets u at todo ≡ sets t from all

pub left-first : {t : List ℕ} {from : ℕ} {all : List ℕ} → from + length all ≤ length t → Left t from all t from all
left-first h = record { room = h; long = refl; next = refl; holds = refl }

module _ {t : List ℕ} {from : ℕ} {all u : List ℕ} {at : ℕ} (a b : List ℕ) (left : Left t from all u at (a ++ b)) where
  -- there is room for the next part
  pub fits : at + length a ≤ length u
  fits = omega (arith, left.room, left.long, left.next, length-append a b)

  pub left-next : {r : ℕ} {v : List ℕ} → Wrote u at a r v → Left t from all v r b
  left-next w =
      record {
        room = left.room;
        long = same-long w ∙ left.long;
        next = omega (arith, w.next, left.next, length-append a b);
        holds = ap₂ (λ l k. sets l k b) w.holds w.next ∙ sym (sets_append u a b at) ∙ left.holds;
      }

-- nothing is left
pub left_end : {t : List ℕ} {from : ℕ} {all u : List ℕ} {at : ℕ} → Left t from all u at [] → Wrote t from all at u
left_end {at = at} left = record { next = sym (add-zero at) ∙ left.next; holds = left.holds }
