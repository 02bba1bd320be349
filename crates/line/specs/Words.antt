-- Words are sound: the longest string of a word starts at its origin and holds the others. It is the base, where no reading is longer, or a
-- reading, over whose length the base and the other reading are set.
use Rattle.std.specs.Prelude.{◌≡◌, ◌≤◌, ◌<◌}
use Rattle.std.proofs.Common.{inl, inr, arith}
use Rattle.line.specs.declared.Element.{Element}
use Rattle.line.specs.declared.Reading.{Reading}
use Rattle.line.specs.declared.Side.{Side}
use Rattle.line.specs.declared.Side.TheVariants.{Right, Left}
use Rattle.line.specs.Rules.{other, ruby, HasRuby, Inside, Around, Beside, Shape, Sound}

-- no depths, and the base holds the readings
pub base-longest : (e : Element) → 0 < e.len → e.front ≡ 0 → e.before ≡ 0 → e.after ≡ 0 → ((s : Side) → HasRuby s e → Inside e (ruby s e)) → Sound e
base-longest e h f b a i = record { some = h; flush = inl f; before = omega arith; after = omega arith; reading = λ s t. record { before = b; after = a; shape = inl (i s t) } }

-- a P: no readings, and depths within its length
pub no_reading : (e : Element) → 0 < e.len → e.front ≡ 0 → e.before ≤ e.len → e.after ≤ e.len → ((s : Side) → HasRuby s e → ⊥) → Sound e
no_reading e h f b a n =
    record { some = h; flush = inl f; before = b; after = a; reading = λ s t. absurd (n s t) }

-- a stretch of a reading's length: the other reading in it
pub record Held (o r : Reading) : Type 0 where
  pub enters : o.from ≤ r.from
  pub runs : r.from ≤ r.upto
  pub leaves : r.upto ≤ o.upto

-- no depths, and the reading of the side s holds the base and the other reading
pub reading-longest : (s : Side) (e : Element) → 0 < e.len → e.before ≡ 0 → e.after ≡ 0 → HasRuby s e → (ruby s e).from ≡ 0 → Around e (ruby s e) →
    (HasRuby (other s) e → Held (ruby s e) (ruby (other s) e)) → Sound e
reading-longest s e h b a t f w o =
    record { some = h; flush = inr (s, t, f); before = omega arith; after = omega arith; reading = λ r u. record { before = b; after = a; shape = shapes s r t w o u } }
  where
    beside : (s : Side) → HasRuby s e → Around e (ruby s e) → Held (ruby s e) (ruby (other s) e) → Beside e (ruby s e) (ruby (other s) e)
    beside s t w o = record { there = t; around = w; enters = o.enters; runs = o.runs; leaves = o.leaves }

    shapes : (s r : Side) → HasRuby s e → Around e (ruby s e) → (HasRuby (other s) e → Held (ruby s e) (ruby (other s) e)) → HasRuby r e → Shape e (ruby (other r) e) (ruby r e)
    shapes Right Right t w o u = inr (inl w)
    shapes Right Left t w o u = inr (inr (beside Right t w (o u)))
    shapes Left Right t w o u = inr (inr (beside Left t w (o u)))
    shapes Left Left t w o u = inr (inl w)
