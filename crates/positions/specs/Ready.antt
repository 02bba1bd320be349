-- What the writing asks for: a sound table, and of each piece that a line may have, that its characters are within the lists and no position is too large.
use Rattle.std.specs.Prelude.{◌≡◌, true, false, ◌⊎◌, List, [], ◌∷◌, ℕ, ◌+◌, ◌-◌, ◌*◌, ◌≤◌, ◌<◌, length, take}
use Rattle.basics.specs.Lists.{sum}
use Rattle.line.specs.declared.Side.{Side}
use Rattle.line.specs.declared.Side.TheVariants.{Right, Left}
use Rattle.cells.specs.Rows.{Rows}
use Rattle.cells.specs.Cells.{cell_at, share_of, may_end}
use Rattle.cells.specs.Sound.{Sound}
use Rattle.positions.specs.Positions.{Sheet, lent, widths_of, first, own, run_end, reading_end, run_lent, reading_lent, word_of, reading_of}

-- A string from a up to e of widths and of places, its first character at `at`.
pub record StringReady (at within a e : ℕ) (ws out : List ℕ) : Type 0 where
  pub ahead : a ≤ e
  pub few : e ≤ a + 64
  pub end : e ≤ 4096
  pub widths : e ≤ length ws
  pub room : e ≤ length out
  pub small : within ≤ 1048576
  pub near : at + 2 * sum (lent ws a e) + within ≤ 4294967295

-- The run of row i on one side, of m characters there in all: it is no longer than one em.
pub record Run (side : Side) (t : Rows) (ws : List ℕ) (m i : ℕ) : Type 0 where
  pub few : (share_of side (cell_at t i)).many ≤ 64
  pub within : run_end side t i ≤ m
  pub long : sum (run_lent side t ws i) ≡ own side t i
  pub short : own side t i ≤ t.em

-- The runs of the rows i up to c follow each other.
pub record Runs (side : Side) (t : Rows) (ws : List ℕ) (m i c : ℕ) : Type 0 where
  pub each : (k : ℕ) → i ≤ k → k < c → Run side t ws m k
  pub follows : (k : ℕ) → i ≤ k → k + 1 < c → first side t (k + 1) ≡ run_end side t k

-- The piece from i up to c: one without ruby has one base character, and no left reading.
pub record Fits (g : Sheet) (i c : ℕ) : Type 0 where
  pub plain : (word_of g i c).right.there ≡ false → c ≡ i + 1
  pub bare : (word_of g i c).right.there ≡ false → (word_of g i c).left.there ≡ false
  pub base : (word_of g i c).right.there ≡ true → (word_of g i c).front + 2 * sum (lent g.width i c) + (word_of g i c).inbase ≤ 1048576

-- Its reading on one side, of n base characters and m of that side: without one it has no characters there; the next piece's begin where its own end.
pub record SideFits (side : Side) (g : Sheet) (n m i c : ℕ) : Type 0 where
  pub none : (reading_of side g i c).there ≡ false → reading_end side g.t i c ≡ first side g.t i
  pub ahead : first side g.t i ≤ reading_end side g.t i c
  pub few : reading_end side g.t i c ≤ first side g.t i + 64
  pub within : reading_end side g.t i c ≤ m
  pub string : (reading_of side g i c).there ≡ true → (reading_of side g i c).runs ≡ false →
      (reading_of side g i c).from + 2 * sum (reading_lent side g.t (widths_of side g) i c) + (reading_of side g i c).within ≤ 1048576
  pub runs : (reading_of side g i c).there ≡ true → (reading_of side g i c).runs ≡ true → Runs side g.t (widths_of side g) m i c
  pub last : (reading_of side g i c).there ≡ true → (reading_of side g i c).runs ≡ true → reading_end side g.t i c ≡ run_end side g.t (c - 1)
  pub follows : c < n → first side g.t c ≡ reading_end side g.t i c

-- a piece may begin at i, where an element begins or inside one that may be cut; it ends with its element, or inside such a one
abbrev pub Begins : Rows → ℕ → Type 0
Begins t i = ((cell_at t i).cut ≡ true) ⊎ ((i ≡ 0) ⊎ ((cell_at t (i - 1)).bases ≡ 1))

abbrev pub Stops : Rows → ℕ → ℕ → Type 0
Stops t i c = ((cell_at t i).cut ≡ true) ⊎ (c ≡ i + (cell_at t i).bases)

-- one of two numbers, by the side
abbrev pub pick : ℕ → ℕ → Side → ℕ
pick m l Right = m
pick m l Left = l

-- A table of n base characters, m of ruby and l on the left, and the widths of all of them.
pub record Writable (g : Sheet) (n m l : ℕ) : Type 0 where
  pub sound : Sound g.t n
  pub width : n ≤ length g.width
  pub widths : (side : Side) → pick m l side ≤ length (widths_of side g)
  pub few : (side : Side) → pick m l side ≤ 4096
  pub fits : (i c : ℕ) → i < n → i < c → c ≤ i + (cell_at g.t i).bases → Begins g.t i → Stops g.t i c → Fits g i c
  pub sides : (side : Side) (i c : ℕ) → i < n → i < c → c ≤ i + (cell_at g.t i).bases → Begins g.t i → Stops g.t i c → SideFits side g n (pick m l side) i c

-- The line from s up to e of such a table, in lists that have room for all of it.
pub record LineReady (g : Sheet) (s e : ℕ) (base ruby left : List ℕ) : Type 0 where
  pub n : ℕ
  pub m : ℕ
  pub l : ℕ
  pub table : Writable g n m l
  pub room : n ≤ length base
  pub room_ruby : m ≤ length ruby
  pub room_left : l ≤ length left
  pub ahead : s < e
  pub within : e ≤ n
  pub begins : Begins g.t s
  pub permits : may_end g.t n e ≡ true

-- lines from s on, each of which ends where one may
abbrev pub Chained : Rows → ℕ → ℕ → List ℕ → Type 0
Chained t n s [] = Unit
Chained t n s (e ∷ es) = (s < e) × (e ≤ n) × (may_end t n e ≡ true) × Chained t n e es

-- `found` has at its front the ends of k lines, and no result list is too short.
pub record LinesReady (g : Sheet) (k : ℕ) (found base ruby left : List ℕ) : Type 0 where
  pub n : ℕ
  pub m : ℕ
  pub l : ℕ
  pub table : Writable g n m l
  pub room : n ≤ length base
  pub room_ruby : m ≤ length ruby
  pub room_left : l ≤ length left
  pub held : k ≤ length found
  pub few : k ≤ 1024
  pub chained : Chained g.t n 0 (take k found)
  pub start : 0 < n → (side : Side) → first side g.t 0 ≡ 0
