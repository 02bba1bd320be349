-- Why an element of a line stands no nearer the line's start: the first, in the rules' order and right before left, of the rules of clearance (document 01, "Level
-- two"; R-5 of document 02: "Clearance rule 2 holds for each ruby, rule 3 for rubies of one side") that hold of it with equality. Stated of the elements `es` of a
-- line and their origins `xs`, by the stretches of specs/Rules of line.
use Rattle.std.specs.Prelude.{Bool, cond, ◌&&◌, List, ℕ, zero, suc, ◌+◌, ◌-◌, eqb}
use Rattle.line.specs.declared.Element.{Element}
use Rattle.line.specs.declared.Reading.{Reading}
use Rattle.line.specs.declared.Side.{Side}
use Rattle.line.specs.declared.Side.TheVariants.{Right, Left}
use Rattle.line.specs.Rules.{Span, ruby, block_of, el, org, block_at, ruby_at}
use Rattle.account.specs.declared.Reason.{Reason}
use Rattle.account.specs.declared.Reason.TheVariants.{Start, Block, Under, Over, Ruby, Edge, Free}
use Rattle.account.specs.declared.Account.{Account}

-- where the reading r of an element at x lies: of its reading on the side s this is `ruby_of s`
abbrev pub drawn : Reading → ℕ → Span
drawn r x = record { start = x + r.from; end = x + r.upto }

-- Of p at y and e at x just after it. 1: e's block starts where p's ends.
abbrev pub touches : Element → ℕ → Element → ℕ → Bool
touches p y e x = eqb (block_of p y).end (block_of e x).start

-- 2: a reading of p ends as far past the start of e's block as it may,
abbrev pub under : Reading → ℕ → Element → ℕ → Bool
under r y e x = r.there && eqb (drawn r y).end ((block_of e x).start + e.before)

-- and a reading of e starts as far short of the end of p's block.
abbrev pub over : Element → ℕ → Reading → ℕ → Bool
over p y r x = r.there && eqb (block_of p y).end ((drawn r x).start + p.after)

-- Of a reading q of any element at y and ruby of its side behind it that starts at z. 3: it starts where q ends.
abbrev pub meets : Reading → ℕ → ℕ → Bool
meets q y z = q.there && eqb (drawn q y).end z

-- Of a reading r of an element at x. 4: it starts at the line's start.
abbrev pub starts : Reading → ℕ → Bool
starts r x = r.there && eqb (drawn r x).start 0

-- the right side's reason where its test holds, or else the left side's, or else the rest
abbrev pub by_side : (Side → Bool) → (Side → Reason) → Reason → Reason
by_side t r rest = cond (t Right) (r Right) (cond (t Left) (r Left) rest)

-- rules 1 and 2 between e and the element with the number j just before it, or else the rest
unfoldable pub beside : ℕ → Element → ℕ → Element → ℕ → Reason → Reason
beside j p y e x rest =
    cond (touches p y e x) (Block j)
    (by_side (λ s. under (ruby s p) y e x) (λ s. Under s j e.before)
    (by_side (λ s. over p y (ruby s e) x) (λ s. Over s j p.after) rest))

unfoldable pub neighbour : List Element → List ℕ → ℕ → Reason → Reason
neighbour es xs zero rest = rest
neighbour es xs (suc j) rest = beside j (el es j) (org xs j) (el es (suc j)) (org xs (suc j)) rest

-- rule 3 between ruby of the side s that starts at z and the nearest of the first n elements whose ruby there it touches, or else the rest
unfoldable pub rubies : Side → List Element → List ℕ → ℕ → ℕ → Reason → Reason
rubies s es xs z zero rest = rest
rubies s es xs z (suc k) rest = cond (meets (ruby s (el es k)) (org xs k) z) (Ruby s k) (rubies s es xs z k rest)

-- the same of the element with the number i, where it has ruby there
abbrev pub rubies_of : Side → List Element → List ℕ → ℕ → Reason → Reason
rubies_of s es xs i rest = cond (ruby s (el es i)).there (rubies s es xs (ruby_at s es xs i).start i rest) rest

-- rules 3 and 4 of the element with the number i
abbrev pub by_ruby : List Element → List ℕ → ℕ → Reason
by_ruby es xs i = rubies_of Right es xs i (rubies_of Left es xs i (by_side (λ s. starts (ruby s (el es i)) (org xs i)) Edge Free))

-- What holds the element with the number i: the line's start, rules 1 and 2, rule 3, rule 4.
unfoldable pub reason : List Element → List ℕ → ℕ → Reason
reason es xs i = cond (eqb (block_at es xs i).start 0) Start (neighbour es xs i (by_ruby es xs i))

-- The gap before its block: from the end of the block before, or from the line's start.
abbrev pub back : List Element → List ℕ → ℕ → ℕ
back es xs zero = 0
back es xs (suc j) = (block_at es xs j).end

abbrev pub gap : List Element → List ℕ → ℕ → ℕ
gap es xs i = (block_at es xs i).start - back es xs i

abbrev pub account_of : List Element → List ℕ → ℕ → Account
account_of es xs i = record { gap = gap es xs i; reason = reason es xs i }
