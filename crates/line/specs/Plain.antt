-- An element without readings that starts where its block does, as a P is: ruby lies on it no deeper than it is long, so its block's own bounds decide where it
-- stands.
use Rattle.std.specs.Prelude.{◌≡◌, false, ℕ, ◌+◌, ◌-◌, ◌≤◌, max}
use Rattle.std.proofs.Common.{◌∙◌, ap, ap₂, arith}
use Rattle.line.specs.declared.Element.{Element}
use Rattle.line.specs.declared.State.{State}
use Rattle.line.specs.declared.Placed.{Placed}
use Rattle.line.specs.Rules.{no_reading}
use Rattle.line.specs.Setting.{asks, origin, placed}

abbrev pub plain : ℕ → ℕ → ℕ → Element
plain len before after = record { front = 0; len = len; right = no_reading; left = no_reading; before = before; after = after }

module _ (st : State) (len before after : ℕ) (h : before ≤ len) where
  -- for one side: past the last block, and the ruby so far lies on it no deeper than permitted
  plain-asks : (z : ℕ) → asks st (plain len before after) z no_reading ≡ max st.end (z - before)
  unfolding asks
  plain-asks z = four _ _ _ _ (omega arith) (omega arith) ∙ two st.end z
    where
      four : (a b c d : ℕ) → c ≤ b → d ≤ a → max (max a b) (max c d) ≡ max a b
      four a b c d p q = omega arith

      two : (e r : ℕ) → max (e - 0) (r - (0 + before)) ≡ max e (r - before)
      two e r = omega arith

  pub plain_origin : origin st (plain len before after) ≡ max st.end (max st.right st.left - before)
  unfolding origin
  plain_origin = ap₂ max (plain-asks st.right) (plain-asks st.left) ∙ once _ _ _ ∙ ap (max st.end) (less st.right st.left)
    where
      once : (e r l : ℕ) → max (max e r) (max e l) ≡ max e (max r l)
      once e r l = omega arith

      less : (r l : ℕ) → max (r - before) (l - before) ≡ max r l - before
      less r l = omega arith

  -- the rubies reach as far as they did
  pub plain-placed : (x e : ℕ) → x ≡ max st.end (max st.right st.left - before) → e ≡ x + len →
      ◌≡◌ {A = Placed} (record { at = x; st = record { end = e; right = st.right; left = st.left; room = after } }) (placed st (plain len before after))
  plain-placed x e p q = rw (plain_origin, ← p) (go (x + 0 + len) (max st.right 0) (max st.left 0) (omega arith) (omega arith) (omega arith))
    where
      go : (a b c : ℕ) → e ≡ a → st.right ≡ b → st.left ≡ c →
          ◌≡◌ {A = Placed} (record { at = x; st = record { end = e; right = st.right; left = st.left; room = after } })
          (record { at = x; st = record { end = a; right = b; left = c; room = after } })
      go a b c f g k = cc

-- whatever stands for the readings that it hasn't
pub plain_as : (st : State) (e : Element) → e.right.there ≡ false → e.left.there ≡ false → e.front ≡ 0 →
    placed st (plain e.len e.before e.after) ≡ placed st e
unfolding origin
plain_as st e r l f = rw (r, l, f)
