-- What the theorems speak of: when a reason holds of an element, which of several comes first, what it is for the named rule to be tight, and
-- how wide a gap the reason's own numbers make; and how a reason is told in numbers.
use Rattle.std.specs.Prelude.{◌≡◌, List, ℕ, suc, ◌+◌, ◌-◌, ◌≤◌, ◌<◌, length}
use Rattle.line.specs.declared.Element.{Element}
use Rattle.line.specs.declared.Side.{Side}
use Rattle.line.specs.declared.Side.TheVariants.{Right, Left}
use Rattle.line.specs.Rules.{Span, Off, ruby, el, block_at, ruby_at, HasRuby, kept}
use Rattle.account.specs.declared.Reason.{Reason}
use Rattle.account.specs.declared.Reason.TheVariants.{Start, Block, Under, Over, Ruby, Edge, Free}
use Rattle.account.specs.Reasons.{back}

-- The order in which one of several is named: the line's start first, then the rules' order, and within each the right side before the left.
abbrev pub in_order : Side → ℕ → ℕ
in_order Right n = n
in_order Left n = n + 1

abbrev pub rank : Reason → ℕ
rank Start = 1
rank (Block j) = 2
rank (Under s j d) = in_order s 3
rank (Over s j d) = in_order s 5
rank (Ruby s j) = in_order s 7
rank (Edge s) = in_order s 9
rank Free = 11

-- The number that tells a reason: of the right side 3 to 6, and 4 more where the ruby is a left one.
abbrev pub on_side : Side → ℕ → ℕ
on_side Right n = n
on_side Left n = n + 4

abbrev pub number : Reason → ℕ
number Start = 1
number (Block j) = 2
number (Under s j d) = on_side s 3
number (Over s j d) = on_side s 4
number (Ruby s j) = on_side s 5
number (Edge s) = on_side s 6
number Free = 11

-- the other element, 0 where there is none
abbrev pub other : Reason → ℕ
other Start = 0
other (Block j) = j
other (Under s j d) = j
other (Over s j d) = j
other (Ruby s j) = j
other (Edge s) = 0
other Free = 0

-- the depth, 0 where there is none
abbrev pub depth : Reason → ℕ
depth Start = 0
depth (Block j) = 0
depth (Under s j d) = d
depth (Over s j d) = d
depth (Ruby s j) = 0
depth (Edge s) = 0
depth Free = 0

-- the other element, if there is one, stands before the one with the number i
abbrev pub Earlier : ℕ → Reason → Type 0
Earlier i Start = Unit {0}
Earlier i (Block j) = j < i
Earlier i (Under s j d) = j < i
Earlier i (Over s j d) = j < i
Earlier i (Ruby s j) = j < i
Earlier i (Edge s) = Unit {0}
Earlier i Free = Unit {0}

-- The reason holds of the element with the number i: the rule that it names is met with equality.
abbrev pub Holds : List Element → List ℕ → ℕ → Reason → Type 0
Holds es xs i Start = (block_at es xs i).start ≡ 0
Holds es xs i (Block j) = (suc j ≡ i) × ((block_at es xs j).end ≡ (block_at es xs i).start)
Holds es xs i (Under s j d) = (suc j ≡ i) × HasRuby s (el es j) × (d ≡ (el es i).before) × ((ruby_at s es xs j).end ≡ (block_at es xs i).start + d)
Holds es xs i (Over s j d) = (suc j ≡ i) × HasRuby s (el es i) × (d ≡ (el es j).after) × ((block_at es xs j).end ≡ (ruby_at s es xs i).start + d)
Holds es xs i (Ruby s j) = (j < i) × HasRuby s (el es j) × HasRuby s (el es i) × ((ruby_at s es xs j).end ≡ (ruby_at s es xs i).start)
Holds es xs i (Edge s) = HasRuby s (el es i) × ((ruby_at s es xs i).start ≡ 0)
Holds es xs i Free = Unit {0}

-- It is the first that does; of the rubies that it touches the nearest.
pub record First (es : List Element) (xs : List ℕ) (i : ℕ) (r : Reason) : Type 0 where
  pub holds : Holds es xs i r
  pub first : (q : Reason) → Holds es xs i q → rank r ≤ rank q
  pub nearest : (s : Side) (j k : ℕ) → r ≡ Ruby s j → Holds es xs i (Ruby s k) → k ≤ j

-- What is asked of readings: each has characters, of at least one unit, and so is at least two half units long. (Document 01: "one base character, 1 to 64 ruby
-- characters", "A ruby character has a class and a width 1 to 4,096.") A reading of less could pass a block that ruby may lie on to its whole length.
abbrev pub Written : List Element → Type 0
Written es = (i : ℕ) → i < length es → (s : Side) → HasRuby s (el es i) → (ruby s (el es i)).from + 2 ≤ (ruby s (el es i)).upto

-- the same stretch one half unit nearer the line's start
pub record Nearer (a b : Span) : Type 0 where
  pub start : suc a.start ≡ b.start
  pub end : suc a.end ≡ b.end

-- The rule that it names is broken once the element's block or ruby is one half unit nearer the line's start and all else stands. No position
-- is nearer than the line's start.
abbrev pub Tight : List Element → List ℕ → ℕ → Reason → Type 0
Tight es xs i Start = (t : Span) → Nearer t (block_at es xs i) → ⊥
Tight es xs i (Block j) = (t : Span) → Nearer t (block_at es xs i) → (block_at es xs j).end ≤ t.start → ⊥
Tight es xs i (Under s j d) = (t : Span) → Nearer t (kept es xs j i) → Off (ruby_at s es xs j) t → ⊥
Tight es xs i (Over s j d) = (t : Span) → Nearer t (ruby_at s es xs i) → Off t (kept es xs i j) → ⊥
Tight es xs i (Ruby s j) = (t : Span) → Nearer t (ruby_at s es xs i) → Off t (ruby_at s es xs j) → ⊥
Tight es xs i (Edge s) = (t : Span) → Nearer t (ruby_at s es xs i) → ⊥
Tight es xs i Free = Unit {0}

-- The same of whole settings: the rule that it names, as `Apart` has it, between the element and the other one. Rule 4's first half holds of
-- every setting, since origins are natural numbers.
abbrev pub Rule : List Element → List ℕ → ℕ → Reason → Type 0
Rule es ys i Start = Unit {0}
Rule es ys i (Block j) = (block_at es ys j).end ≤ (block_at es ys i).start
Rule es ys i (Under s j d) = Off (ruby_at s es ys j) (kept es ys j i)
Rule es ys i (Over s j d) = Off (ruby_at s es ys i) (kept es ys i j)
Rule es ys i (Ruby s j) = Off (ruby_at s es ys i) (ruby_at s es ys j)
Rule es ys i (Edge s) = Unit {0}
Rule es ys i Free = ⊥

-- The width that the reason makes: how far ruby passes its block, less the depth; or from the block before to where its block stands if its
-- ruby starts at the named ruby's end, or at the line's start.
abbrev pub width : List Element → List ℕ → ℕ → Reason → ℕ
width es xs i Start = 0
width es xs i (Block j) = 0
width es xs i (Under s j d) = (ruby s (el es j)).upto - ((el es j).front + (el es j).len) - d
width es xs i (Over s j d) = (el es i).front - (ruby s (el es i)).from - d
width es xs i (Ruby s j) = (ruby_at s es xs j).end + (el es i).front - ((ruby s (el es i)).from + back es xs i)
width es xs i (Edge s) = (el es i).front - ((ruby s (el es i)).from + back es xs i)
width es xs i Free = 0
