-- Document 01, "Level two: the four rules of clearance", read with readings on both sides (R-5 of document 02: "Clearance rule 2 holds for
-- each ruby, rule 3 for rubies of one side"), for a line of the elements `es` whose origins are `xs`: each rule as the document has it, for
-- all pairs of elements, as stretches that don't meet. Positions are whole half units from the line's start.
use Rattle.std.specs.Prelude.{◌≡◌, false, cond, List, [], ◌∷◌, ◌⊎◌, ℕ, suc, ◌+◌, ◌-◌, ◌*◌, ◌≤◌, ◌<◌, max, length, get_or, T, eqb}
use Rattle.line.specs.declared.Element.{Element}
use Rattle.line.specs.declared.Reading.{Reading}
use Rattle.line.specs.declared.Side.{Side}
use Rattle.line.specs.declared.Side.TheVariants.{Right, Left}

-- the two sides of a word, and its reading on each
abbrev pub other : Side → Side
other Right = Left
other Left = Right

abbrev pub ruby : Side → Element → Reading
ruby Right e = e.right
ruby Left e = e.left

abbrev pub no_reading : Reading
no_reading = record { there = false; from = 0; upto = 0 }

abbrev pub HasRuby : Side → Element → Type 0
HasRuby s e = T (ruby s e).there

-- a stretch of the line, from its start up to its end
pub record Span : Type 0 where
  pub start : ℕ
  pub end : ℕ

-- one ends at or before the other's start: they don't meet, and touching is allowed
abbrev pub Off : Span → Span → Type 0
Off a b = (a.end ≤ b.start) ⊎ (b.end ≤ a.start)

-- from the line's start, which is 0, up to m
abbrev pub Within : ℕ → Span → Type 0
Within m a = (0 ≤ a.start) × (a.end ≤ m)

-- block and rubies of an element whose origin is x: all start at or after it
abbrev pub block_of : Element → ℕ → Span
block_of e x = record { start = x + e.front; end = x + e.front + e.len }

abbrev pub ruby_of : Side → Element → ℕ → Span
ruby_of s e x = record { start = x + (ruby s e).from; end = x + (ruby s e).upto }

-- the element with the number i of a line, and its origin
abbrev pub el : List Element → ℕ → Element
el es i = get_or es i (record { front = 0; len = 0; right = no_reading; left = no_reading; before = 0; after = 0 })

abbrev pub org : List ℕ → ℕ → ℕ
org xs i = get_or xs i 0

abbrev pub block_at : List Element → List ℕ → ℕ → Span
block_at es xs i = block_of (el es i) (org xs i)

abbrev pub ruby_at : Side → List Element → List ℕ → ℕ → Span
ruby_at s es xs i = ruby_of s (el es i) (org xs i)

-- What each ruby of i keeps off at j: j's block, less the permitted depth at its start where j is just after i, and at its end where j is
-- just before i. "The depth is at most the blank as given, and at most half an em; for class 5 a quarter em": each element carries its two
-- depths, 0 on a side that takes no ruby and in all elements but P. A depth is how far ruby may reach past the near edge.
abbrev pub kept : List Element → List ℕ → ℕ → ℕ → Span
kept es xs i j =
    record {
      start = (block_at es xs j).start + cond (eqb j (suc i)) (el es j).before 0;
      end = (block_at es xs j).end - cond (eqb i (suc j)) (el es j).after 0;
    }

pub record Apart (es : List Element) (xs : List ℕ) : Type 0 where
  -- one origin for each element
  pub each : length xs ≡ length es
  -- 1. "Each block starts at or after the end of the block before it."
  pub blocks : (i : ℕ) → suc i < length es → (block_at es xs i).end ≤ (block_at es xs (suc i)).start
  -- 2. "Ruby keeps off every other element's block, except that it may lie on the blank after the P element just before it (..) or the blank
  -- before the P element just after it (..)."
  pub off : (s : Side) (i j : ℕ) → i < length es → j < length es → (i ≡ j → ⊥) → HasRuby s (el es i) → Off (ruby_at s es xs i) (kept es xs i j)
  -- 3. "No two rubies overlap. Touching is allowed." (of one side)
  pub rubies : (s : Side) (i j : ℕ) → i < length es → j < length es → (i ≡ j → ⊥) → HasRuby s (el es i) → HasRuby s (el es j) →
      Off (ruby_at s es xs i) (ruby_at s es xs j)

-- 4. "Nothing starts before the line's start or ends after the measure." The measure is in units. Its first half holds of every setting:
-- origins are natural numbers, and block and rubies start at or after their element's. Nor are settings lost by it: a string of each element
-- starts at its origin (`Flush`, below), so a setting that keeps rule 4 has its origins at or after the line's start (`natural` of proofs/Theorems).
pub record Fit (measure : ℕ) (es : List Element) (xs : List ℕ) : Type 0 where
  pub blocks : (i : ℕ) → i < length es → Within (2 * measure) (block_at es xs i)
  pub rubies : (s : Side) (i : ℕ) → i < length es → HasRuby s (el es i) → Within (2 * measure) (ruby_at s es xs i)

-- all four
pub record Clear (measure : ℕ) (es : List Element) (xs : List ℕ) : Type 0 where
  pub apart : Apart es xs
  pub fit : Fit measure es xs

-- the setting of a line: none that keeps the rules puts any element nearer the line's start
pub record Least (measure : ℕ) (es : List Element) (xs : List ℕ) : Type 0 where
  pub clear : Clear measure es xs
  pub first : (ys : List ℕ) → Clear measure es ys → (i : ℕ) → i < length es → org xs i ≤ org ys i

-- "The line's extent is the furthest end of any block or ruby in it."
abbrev pub ruby_end : Side → Element → ℕ → ℕ
ruby_end s e x = cond (ruby s e).there (ruby_of s e x).end 0

abbrev pub furthest_end : Element → ℕ → ℕ
furthest_end e x = max (block_of e x).end (max (ruby_end Right e x) (ruby_end Left e x))

unfoldable pub extent : List Element → List ℕ → ℕ
extent [] xs = 0
extent (e ∷ es) [] = 0
extent (e ∷ es) (x ∷ xs) = max (furthest_end e x) (extent es xs)

-- The shapes of a reading r in an element "already set within itself". Nothing says that it passes the block by as much in front as behind.

-- It lies within the block: each reading of a word whose base is as long as the longest of them, and of a J whose runs stand over their own
-- characters;
pub record Inside (e : Element) (r : Reading) : Type 0 where
  pub enters : e.front ≤ r.from
  pub runs : r.from ≤ r.upto
  pub leaves : r.upto ≤ e.front + e.len

-- or around it: the longest reading of a word, where it is longer than the base;
pub record Around (e : Element) (r : Reading) : Type 0 where
  pub leads : r.from ≤ e.front
  pub trails : e.front + e.len ≤ r.upto

-- or within the other reading, o, which lies around the block: the second reading of such a word. "The other is then set as a shorter or equal
-- ruby over a base of the longer one's length", so with the ratios of R-4 it may pass its block at one end, or not meet it at all.
pub record Beside (e : Element) (o r : Reading) : Type 0 where
  pub there : T o.there
  pub around : Around e o
  pub enters : o.from ≤ r.from
  pub runs : r.from ≤ r.upto
  pub leaves : r.upto ≤ o.upto

-- o is the reading on the other side
abbrev pub Shape : Element → (o r : Reading) → Type 0
Shape e o r = Inside e r ⊎ (Around e r ⊎ Beside e o r)

-- such a reading, in an element on which no ruby may lie
pub record Fits (e : Element) (o r : Reading) : Type 0 where
  pub before : e.before ≡ 0
  pub after : e.after ≡ 0
  pub shape : Shape e o r

-- "Positions count from the start of the longer string": the block or a reading starts at the element's origin.
abbrev pub Flush : Element → Type 0
Flush e = (e.front ≡ 0) ⊎ ((s : Side) × HasRuby s e × ((ruby s e).from ≡ 0))

-- An element "already set within itself": some length; a string that starts at its origin; depths within its length, and none where it has a
-- reading; and each reading of one of the shapes.
pub record Sound (e : Element) : Type 0 where
  pub some : 0 < e.len
  pub flush : Flush e
  pub before : e.before ≤ e.len
  pub after : e.after ≤ e.len
  pub reading : (s : Side) → HasRuby s e → Fits e (ruby (other s) e) (ruby s e)

abbrev pub Sounds : List Element → Type 0
Sounds es = (i : ℕ) → i < length es → Sound (el es i)
