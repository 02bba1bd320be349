-- Cases K9 to K12 of document 01 ("Settings on both sides of each edge") and some with readings on both sides (document 02, R-5), computed over the setting; and
-- K12 corrected (R-9).
use Rattle.std.specs.Prelude.{◌≡◌, refl, true, cond, List, [], ◌∷◌, ◌++◌, map, ℕ, ◌≤◌, ◌<◌, length}
use Rattle.std.proofs.Common.{arith}
use Rattle.line.specs.declared.Element.{Element}
use Rattle.line.specs.declared.Reading.{Reading}
use Rattle.line.specs.declared.Side.{Side}
use Rattle.line.specs.declared.Side.TheVariants.{Right, Left}
use Rattle.line.specs.Rules.{ruby, no_reading, org, block_of, ruby_of}
use Rattle.line.specs.Setting.{origin, settle_from, settle}
use Rattle.line.specs.Plain.{plain}
use Rattle.line.specs.Exchange.{Moved}

-- where the blocks of a line start, and where its rubies do
abbrev block_starts : List Element → List ℕ → List ℕ
block_starts [] xs = []
block_starts (e ∷ es) [] = []
block_starts (e ∷ es) (x ∷ xs) = (block_of e x).start ∷ block_starts es xs

abbrev ruby_starts : Side → List Element → List ℕ → List ℕ
ruby_starts s [] xs = []
ruby_starts s (e ∷ es) [] = []
ruby_starts s (e ∷ es) (x ∷ xs) = cond (ruby s e).there ((ruby_of s e x).start ∷ []) [] ++ ruby_starts s es xs

abbrev reading : ℕ → ℕ → Reading
reading from upto = record { there = true; from = from; upto = upto }

-- the word of K1: base 10 units wide under three ruby of 5, so that ruby passes the block by 5 half units at each end
abbrev k1 : Element
k1 = record { front = 5; len = 20; right = reading 0 30; left = no_reading; before = 0; after = 0 }

-- its base under a single ruby of 5
abbrev single : Element
single = record { front = 0; len = 20; right = reading 5 15; left = no_reading; before = 0; after = 0 }

-- its base with two ruby of 5 on the right, as long as the base, and K1's three on the left
abbrev glossed : Element
glossed = record { front = 5; len = 20; right = reading 5 25; left = reading 0 30; before = 0; after = 0 }

-- Two base characters of 10 under seven ruby of 5, with two on the left, by R-4's base ratio 0:0:1 and ruby ratio 1:0:0: the base stands solid at the front, the
-- left reading solid at the end of the right one's length, and they don't meet.
abbrev astray : Element
astray = record { front = 0; len = 40; right = reading 0 70; left = reading 50 70; before = 0; after = 0 }

-- a line, and where the paper has its blocks and its rubies
pub record Starts : Type 0 where
  pub blocks : List ℕ
  pub rights : List ℕ
  pub lefts : List ℕ

pub record Case : Type 0 where
  pub line : List Element
  pub starts : Starts

abbrev cases : List Case
cases =
    -- K9 "two K1 words side by side: second base at 35, not 30"
    record { line = k1 ∷ k1 ∷ []; starts = record { blocks = 5 ∷ 35 ∷ []; rights = 0 ∷ 30 ∷ []; lefts = [] } }
    -- K10 "K1, class 7 with blank after 5, K1: comma 30, base 50, its ruby from 45"
    ∷ record { line = k1 ∷ plain 20 0 10 ∷ k1 ∷ []; starts = record { blocks = 5 ∷ 30 ∷ 50 ∷ []; rights = 0 ∷ 45 ∷ []; lefts = [] } }
    -- K11 "the same comma 7 wide with blank 2: comma 30, base 45"
    ∷ record { line = k1 ∷ plain 14 0 4 ∷ k1 ∷ []; starts = record { blocks = 5 ∷ 30 ∷ 45 ∷ []; rights = 0 ∷ 40 ∷ []; lefts = [] } }
    -- K12 "K1, class 14 of width 3, K1: space 25, base 35, not 31"
    ∷ record { line = k1 ∷ plain 6 6 6 ∷ k1 ∷ []; starts = record { blocks = 5 ∷ 25 ∷ 35 ∷ []; rights = 0 ∷ 30 ∷ []; lefts = [] } }
    -- K12 with its second word glossed: the two long readings are of different sides, and both lie on the space
    ∷ record { line = k1 ∷ plain 6 6 6 ∷ glossed ∷ []; starts = record { blocks = 5 ∷ 25 ∷ 31 ∷ []; rights = 0 ∷ 31 ∷ []; lefts = 26 ∷ [] } }
    -- both glossed: the left readings keep off each other as K12's rubies do
    ∷ record { line = glossed ∷ plain 6 6 6 ∷ glossed ∷ []; starts = record { blocks = 5 ∷ 25 ∷ 35 ∷ []; rights = 5 ∷ 35 ∷ []; lefts = 0 ∷ 30 ∷ [] } }
    -- a left reading keeps off the block of a word that has none
    ∷ record { line = glossed ∷ single ∷ []; starts = record { blocks = 5 ∷ 30 ∷ []; rights = 5 ∷ 35 ∷ []; lefts = 0 ∷ [] } }
    -- the longest string of a word keeps all of it together
    ∷ record { line = astray ∷ astray ∷ plain 20 0 0 ∷ []; starts = record { blocks = 0 ∷ 70 ∷ 140 ∷ []; rights = 0 ∷ 70 ∷ []; lefts = 50 ∷ 120 ∷ [] } }
    ∷ []

abbrev set : Case → Starts
set c =
    let xs = settle c.line in
    record { blocks = block_starts c.line xs; rights = ruby_starts Right c.line xs; lefts = ruby_starts Left c.line xs }

pub as_given : map set cases ≡ map (λ c. c.starts) cases
unfolding settle_from origin
as_given = refl

-- "all elements from the second after it onward": the first may move by another amount. K12 with one K1 more behind it, and its first word exchanged for one
-- with a single ruby character.
abbrev was : List Element
was = k1 ∷ plain 6 6 6 ∷ k1 ∷ k1 ∷ []

abbrev now : List Element
now = single ∷ plain 6 6 6 ∷ k1 ∷ k1 ∷ []

-- The space moves back by 5: it need no longer stand clear of the ruby before it. The words after it move by 9: their rubies are no longer held by that one.
pub corrected : (block_starts was (settle was) ≡ 5 ∷ 25 ∷ 35 ∷ 65 ∷ []) × (block_starts now (settle now) ≡ 0 ∷ 20 ∷ 26 ∷ 56 ∷ [])
unfolding settle_from origin
corrected = (refl, refl)

-- So there is no one amount by which all elements after the exchanged one move.
pub sharp : (forth back : ℕ) → ((i : ℕ) → 1 ≤ i → i < length was → Moved forth back (org (settle was) i) (org (settle now) i)) → ⊥
unfolding settle_from origin
sharp forth back h = omega (arith, h 1 (omega arith) (omega arith), h 2 (omega arith) (omega arith))
