-- Cases K9 to K12 of document 01 ("Settings on both sides of each edge") and some with readings on both sides (document 02, R-5), with the account of each element
-- computed over the setting.
use Rattle.std.specs.Prelude.{◌≡◌, refl, true, List, [], ◌∷◌, map, ℕ, length}
use Rattle.basics.specs.Lists.{count}
use Rattle.line.specs.declared.Element.{Element}
use Rattle.line.specs.declared.Reading.{Reading}
use Rattle.line.specs.declared.Side.TheVariants.{Right, Left}
use Rattle.line.specs.Rules.{no_reading}
use Rattle.line.specs.Setting.{origin, settle_from, settle}
use Rattle.line.specs.Plain.{plain}
use Rattle.account.specs.declared.Reason.{Reason}
use Rattle.account.specs.declared.Reason.TheVariants.{Start, Block, Under, Over, Ruby, Edge}
use Rattle.account.specs.declared.Account.{Account}
use Rattle.account.specs.Reasons.{beside, neighbour, rubies, reason, account_of}

abbrev reading : ℕ → ℕ → Reading
reading from upto = record { there = true; from = from; upto = upto }

-- the word of K1: base 10 units wide under three ruby of 5, so that ruby passes the block by 5 half units at each end
abbrev k1 : Element
k1 = record { front = 5; len = 20; right = reading 0 30; left = no_reading; before = 0; after = 0 }

-- its base with two ruby of 5 on the right, as long as the base, and K1's three on the left
abbrev glossed : Element
glossed = record { front = 5; len = 20; right = reading 5 25; left = reading 0 30; before = 0; after = 0 }

-- and with K1's three on both sides
abbrev twice : Element
twice = record { front = 5; len = 20; right = reading 0 30; left = reading 0 30; before = 0; after = 0 }

-- Two base characters of 10 under seven ruby of 5, with two on the left, which by R-4's ratios stand off their base (specs/Cases of line)
abbrev astray : Element
astray = record { front = 0; len = 40; right = reading 0 70; left = reading 50 70; before = 0; after = 0 }

abbrev held : ℕ → Reason → Account
held g r = record { gap = g; reason = r }

pub record Case : Type 0 where
  pub line : List Element
  pub accounts : List Account

abbrev cases : List Case
cases =
    -- an indent and a plain character: nothing before, and the block before
    record { line = plain 20 10 10 ∷ plain 20 0 0 ∷ []; accounts = held 0 Start ∷ held 0 (Block 0) ∷ [] }
    -- K9: the first word's ruby stands at the line's start; the second's touches it
    ∷ record { line = k1 ∷ k1 ∷ []; accounts = held 5 (Edge Right) ∷ held 10 (Ruby Right 0) ∷ [] }
    -- K10: the comma has no blank before, so the first ruby keeps off it; its blank after has room for the second, whose block touches it
    ∷ record { line = k1 ∷ plain 20 0 10 ∷ k1 ∷ []; accounts = held 5 (Edge Right) ∷ held 5 (Under Right 0 0) ∷ held 0 (Block 1) ∷ [] }
    -- K11: the same comma with a blank of 2 units, on which the second ruby lies as deep as it may
    ∷ record { line = k1 ∷ plain 14 0 4 ∷ k1 ∷ []; accounts = held 5 (Edge Right) ∷ held 5 (Under Right 0 0) ∷ held 1 (Over Right 1 4) ∷ [] }
    -- K12: both rubies lie on the space, and the second touches the first
    ∷ record { line = k1 ∷ plain 6 6 6 ∷ k1 ∷ []; accounts = held 5 (Edge Right) ∷ held 0 (Block 0) ∷ held 4 (Ruby Right 0) ∷ [] }
    -- K12 with its second word glossed: the two long readings are of different sides and don't hold each other
    ∷ record { line = k1 ∷ plain 6 6 6 ∷ glossed ∷ []; accounts = held 5 (Edge Right) ∷ held 0 (Block 0) ∷ held 0 (Block 1) ∷ [] }
    -- both glossed: the second's left reading touches the first's
    ∷ record { line = glossed ∷ plain 6 6 6 ∷ glossed ∷ []; accounts = held 5 (Edge Left) ∷ held 0 (Block 0) ∷ held 4 (Ruby Left 0) ∷ [] }
    -- a left reading keeps off the block of a word that has none, on either side of it; the K1 is held by its block, since its ruby meets no other on its side
    ∷ record { line = plain 20 0 0 ∷ glossed ∷ k1 ∷ []; accounts = held 0 Start ∷ held 5 (Over Left 0 0) ∷ held 5 (Under Left 1 0) ∷ [] }
    -- where both sides hold an element the right one is named
    ∷ record { line = twice ∷ twice ∷ plain 20 0 0 ∷ twice ∷ []; accounts = held 5 (Edge Right) ∷ held 10 (Ruby Right 0) ∷ held 5 (Under Right 1 0) ∷ held 5 (Over Right 2 0) ∷ [] }
    -- a left reading that stands off its own block
    ∷ record { line = astray ∷ astray ∷ plain 20 0 0 ∷ []; accounts = held 0 Start ∷ held 30 (Under Right 0 0) ∷ held 30 (Under Right 1 0) ∷ [] }
    ∷ []

abbrev account : Case → List Account
account c = map (account_of c.line (settle c.line)) (count 0 (length c.line))

pub right : map account cases ≡ map (λ c. c.accounts) cases
unfolding settle_from origin beside neighbour rubies reason
right = refl
