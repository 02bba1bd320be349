-- What is proved of the account of a line. (The reviewer's question: show that every reading stands clear of its neighbours, and say why each gap
-- is as wide as it is. The first half is `keeps` of line; this is the second.)
use Rattle.std.specs.Prelude.{◌≡◌, List, ℕ, suc, ◌<◌, length}
use Rattle.std.proofs.Common.{arith}
use Rattle.line.specs.declared.Element.{Element}
use Rattle.line.specs.Rules.{el, org, Apart, Sounds}
use Rattle.line.specs.Setting.{settle}
use Rattle.line.proofs.Theorems.{keeps}
use Rattle.account.specs.declared.Reason.{Reason}
use Rattle.account.specs.declared.Reason.TheVariants.{Start, Block, Under, Over, Ruby, Edge, Free}
use Rattle.account.specs.Reasons.{reason, account_of}
use Rattle.account.specs.Step.{account_after, standing}
use Rattle.account.specs.Claims.{rank, Earlier, Holds, First, Written, Tight, Rule}
use Rattle.account.specs.Law as law
use Rattle.account.proofs.Order as order
use Rattle.account.specs.Held.{held}
use Rattle.account.specs.Tight as tightness
use Rattle.account.specs.Theorems.{Accounted}

-- The reason that is named holds, and it is the first that does: in the rules' order, and right before left;
pub first : (es : List Element) (xs : List ℕ) (i : ℕ) → First es xs i (reason es xs i)
first es xs i = order.right es xs i

-- there is only one such.
pub determined : (es : List Element) (xs : List ℕ) (i : ℕ) (r q : Reason) → First es xs i r → First es xs i q → r ≡ q
determined es xs i r q f g = order.only es xs i q g r f

-- It names an earlier element, if any.
pub earlier : (es : List Element) (xs : List ℕ) (i : ℕ) → Earlier i (reason es xs i)
earlier es xs i = go (reason es xs i) (first es xs i).holds
  where
    go : (r : Reason) → Holds es xs i r → Earlier i r
    go Start h = tt
    go (Block j) h = omega (arith, h.0)
    go (Under s j d) h = omega (arith, h.0)
    go (Over s j d) h = omega (arith, h.0)
    go (Ruby s j) h = h.0
    go (Edge s) h = tt
    go Free h = tt

-- The named rule is tight: it is broken once the element's block or ruby is one half unit nearer the line's start and all else stands as it does.
pub tight : (es : List Element) (xs : List ℕ) → Sounds es → Written es → (i : ℕ) → i < length es → Tight es xs i (reason es xs i)
tight es xs s w i h = tightness.tight es xs s i h w (reason es xs i) (first es xs i).holds

-- So in every other setting that has the element one half unit nearer, and all elements before it where they are, that very rule fails between
-- that very pair.
pub broken : (es : List Element) (xs : List ℕ) → Sounds es → Written es → (i : ℕ) → i < length es →
    (ys : List ℕ) → ((k : ℕ) → k < i → org ys k ≡ org xs k) → suc (org ys i) ≡ org xs i → Rule es ys i (reason es xs i) → ⊥
broken es xs s w i h ys same less = tightness.broken es xs ys i same less (reason es xs i) (first es xs i).holds (tight es xs s w i h)

pub accounted : (es : List Element) → Sounds es → (i : ℕ) → i < length es → Accounted es (settle es) i
accounted es s i h =
    let some = held es s i h in
    let l : rank (reason es (settle es) i) < 11 = omega (arith, (first es (settle es) i).first some.0 some.1, some.2) in
    record {
      named = λ e. free (reason es (settle es) i) e l;
      wide = tightness.wide es (settle es) s i h (keeps es s) (reason es (settle es) i) (first es (settle es) i).holds l;
    }
  where
    free : (r : Reason) → r ≡ Free → rank r < 11 → ⊥
    free r e l = let m : rank r ≡ 11 = rw e in omega arith

-- Who walks a line from its start, element by element, gets the account of the line.
pub walked : (es : List Element) (xs : List ℕ) → Sounds es → Apart es xs → (i : ℕ) → i < length es →
    account_after i (standing es xs i) (el es i) (org xs i) ≡ account_of es xs i
walked es xs s a i h = law.step es xs s a i h
