-- What is proved of a line, for any elements that are set within themselves and any permitted depths within a neighbour's length.
-- (The mission, demand 3: the setting we give keeps the four rules, no other that keeps them puts any element nearer the line's start, and
-- a line is declined as too long exactly when nothing that keeps the rules fits the measure.)
use Rattle.std.specs.Prelude.{◌≡◌, List, ◌++◌, ◌↔◌, ℕ, ◌+◌, ◌*◌, ◌≤◌, ◌<◌, length}
use Rattle.std.proofs.Common.{sym, ◌∙◌, inl, inr, arith, le_antisymm, ext_get_or}
use Rattle.line.specs.declared.Element.{Element}
use Rattle.line.specs.declared.Side.{Side}
use Rattle.line.specs.Rules.{ruby, HasRuby, org, Apart, Clear, Least, extent, Flush, Sound, Sounds}
use Rattle.line.specs.Setting.{start, settle_from, settle, run, furthest, Follows}
use Rattle.line.proofs.Pairs as pairs
use Rattle.line.specs.Least.{settle-follows, settle-least, settle_append}
use Rattle.line.proofs.Extent.{fit-extent, extent-fit, extent-below, extent-run}

-- The rules for all pairs of elements are what each element's neighbour and the state before it ask: between elements that are not
-- neighbours nothing more is to be seen to.
pub states : (es : List Element) (xs : List ℕ) → Sounds es → Apart es xs ↔ Follows es xs
states es xs s = (pairs.apart-follows es xs s, pairs.follows-apart es xs s)

-- The setting keeps rules 1 to 3.
pub keeps : (es : List Element) → Sounds es → Apart es (settle es)
keeps es s = pairs.follows-apart es (settle es) s (settle-follows es)

-- No setting that keeps them puts any element nearer the line's start.
pub least : (es : List Element) (xs : List ℕ) → Sounds es → Apart es xs → (i : ℕ) → i < length es → org (settle es) i ≤ org xs i
least es xs s a = settle-least es xs (pairs.apart-follows es xs s a)

-- So its extent is the least: it ends within k exactly when some setting that keeps rules 1 to 3 does.
pub nearest : (k : ℕ) (es : List Element) → Sounds es → extent es (settle es) ≤ k ↔ ((xs : List ℕ) × Apart es xs × (extent es xs ≤ k))
nearest k es s = (λ h. (settle es, keeps es s, h), λ p. below p.0 p.1 p.2)
  where
    below : (xs : List ℕ) → Apart es xs → extent es xs ≤ k → extent es (settle es) ≤ k
    below xs a h = omega (arith, extent-below es (settle es) xs a.each (least es xs s a))

-- A line's setting ends within the measure exactly when some setting keeps all four rules.
pub clears : (m : ℕ) (es : List Element) → Sounds es → extent es (settle es) ≤ 2 * m → Clear m es (settle es)
clears m es s h = record { apart = keeps es s; fit = extent-fit m es (settle es) (keeps es s).each h }

pub exact : (m : ℕ) (es : List Element) → Sounds es → extent es (settle es) ≤ 2 * m ↔ ((xs : List ℕ) × Clear m es xs)
exact m es s = (λ h. (settle es, clears m es s h), λ p. (nearest (2 * m) es s).1 (p.0, p.1.apart, fit-extent m es p.0 p.1.fit))

-- Where it does, the setting is the least that keeps them,
pub settled : (m : ℕ) (es : List Element) → Sounds es → extent es (settle es) ≤ 2 * m → Least m es (settle es)
settled m es s h = record { clear = clears m es s h; first = λ ys c. least es ys s c.apart }

-- and there is only one such.
pub unique : (m : ℕ) (es : List Element) (xs ys : List ℕ) → Least m es xs → Least m es ys → xs ≡ ys
unique m es xs ys p q =
    ext_get_or 0 xs ys (p.clear.apart.each ∙ sym q.clear.apart.each)
    (λ i h. let l : i < length es = omega (arith, p.clear.apart.each) in le_antisymm (p.first ys q.clear i l) (q.first xs p.clear i l))

-- So the setting of a line, by the rules alone, is the one that we give.
pub the_setting : (m : ℕ) (es : List Element) (xs : List ℕ) → Sounds es → Least m es xs → xs ≡ settle es
the_setting m es xs s l = unique m es xs (settle es) l (settled m es s ((exact m es s).1 (xs, l.clear)))

-- A longer line begins as the shorter one, which decides the rest by its last state alone.
pub prefix : (a b : List Element) → settle (a ++ b) ≡ settle a ++ settle_from (run start a) b
prefix a b = settle_append start a b

-- The extent is the furthest end of the last state.
pub extent-state : (es : List Element) → extent es (settle es) ≡ furthest (run start es)
extent-state es = omega (arith, extent-run start es)

-- Natural numbers for origins lose nothing: an element whose block and readings start at or after the line's start, wherever they stand together, has its origin
-- there too.
pub natural : (e : Element) → Sound e → (b : ℕ) (r : Side → ℕ) → ((s : Side) → HasRuby s e → b + (ruby s e).from ≡ r s + e.front) →
    (x : ℕ) × (b ≡ x + e.front) × ((s : Side) → HasRuby s e → r s ≡ x + (ruby s e).from)
natural e w b r h = go w.flush
  where
    go : Flush e → (x : ℕ) × (b ≡ x + e.front) × ((s : Side) → HasRuby s e → r s ≡ x + (ruby s e).from)
    go (inl f) = (b, omega arith, λ s t. omega (arith, h s t))
    go (inr (o, u, f)) = (r o, omega (arith, h o u), λ s t. omega (arith, h s t, h o u))
