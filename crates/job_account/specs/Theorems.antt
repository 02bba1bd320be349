-- The account of every line of a job that passes the door, and so of every accepted job: for each piece of the line the gap before it, and the first rule that
-- holds it there. What is proved of a line's account (proofs/Theorems of account) holds of it, with nothing left to be supposed.
use Rattle.std.specs.Prelude.{◌≡◌, List, ℕ, suc, ◌+◌, ◌≤◌, ◌<◌, length, get_or}
use Rattle.std.proofs.Common.{sym, subst, arith}
use Rattle.readings.specs.Standing.{between}
use Rattle.line.specs.declared.Element.{Element}
use Rattle.line.specs.declared.Side.{Side}
use Rattle.line.specs.declared.Side.TheVariants.{Right, Left}
use Rattle.line.specs.Rules.{ruby, HasRuby, org, Apart}
use Rattle.line.proofs.Theorems.{keeps}
use Rattle.door.specs.declared.Piece.{Piece}
use Rattle.door.specs.Job.{Job}
use Rattle.door.specs.Entries.{length-entries}
use Rattle.door.specs.Passed.{Passed}
use Rattle.job.specs.Line.{seen, pieces, line_of, origins, first_of, many_of, widths_of, count_of, widths_in}
use Rattle.job.specs.Promise.{piece_of}
use Rattle.job.specs.Words.{GoodPiece}
use Rattle.job.proofs.Pieces.{good-pieces}
use Rattle.job.proofs.Belong.{all-at}
use Rattle.job.specs.Laws.{entries_at}
use Rattle.job.proofs.Stretches.{reading-stands, some_of, seen-reading, el-seen, length-line}
use Rattle.job.proofs.Sound.{sounds}
use Rattle.account.specs.declared.Account.{Account}
use Rattle.account.specs.declared.Reason.{Reason}
use Rattle.account.specs.Reasons.{reason, account_of}
use Rattle.account.specs.Claims.{First, Written, Tight, Rule}
use Rattle.account.specs.Theorems.{Accounted}
use Rattle.account.proofs.Theorems as account

-- the account of piece i of the line from s up to e
abbrev pub account_in : Job → ℕ → ℕ → ℕ → Account
account_in job s e i = account_of (line_of job s e) (origins job s e) i

abbrev pub reason_in : Job → ℕ → ℕ → ℕ → Reason
reason_in job s e i = reason (line_of job s e) (origins job s e) i

-- a reading runs from its first character's start to its last one's end, and a character is at least one unit wide
pub written : (job : Job) → Passed job → (s e : ℕ) → Written (line_of job s e)
written job passed s e i h side t =
    let k : i < length (pieces job s e) = omega (arith, length-line job s e) in
    let good = all-at (GoodPiece job) (pieces job s e) (good-pieces job passed s e) i k in
    subst (λ (o : Element). (ruby side o).from + 2 ≤ (ruby side o).upto) (sym (el-seen job s e i k)) (go good (subst (HasRuby side) (el-seen job s e i k) t))
  where
    p : Piece
    p = piece_of job s e i

    wide : (side : Side) (k : ℕ) → k < count_of side job → 1 ≤ get_or (widths_of side job) k 0
    wide Right k l = (passed.ruby k l).some
    wide Left k l = (passed.left k l).some

    go : GoodPiece job p → HasRuby side (seen job p) → (ruby side (seen job p)).from + 2 ≤ (ruby side (seen job p)).upto
    go good t =
        let has = seen-reading job p good side t in
        let many = length-entries (widths_of side job) (first_of side p) (many_of side p) in
        let some = some_of job p good side has in
        let lies = between (reading-stands job p good side has) in
        let first : 0 < length (widths_in side job p) = omega (arith, many, some) in
        omega (
          arith,
          lies.low 0 first,
          lies.high 0 first,
          entries_at (widths_of side job) (first_of side p) (many_of side p) 0 some,
          wide side (first_of side p + 0) (omega (arith, some, good.reads side)),
        )

module _ (job : Job) (passed : Passed job) (s e : ℕ) where
  pub apart : Apart (line_of job s e) (origins job s e)
  unfolding origins
  apart = keeps (line_of job s e) (sounds job passed s e)

  -- Every piece has a reason, whose own numbers make the gap as wide as it is.
  pub accounted : (i : ℕ) → i < length (line_of job s e) → Accounted (line_of job s e) (origins job s e) i
  unfolding origins
  accounted i h = account.accounted (line_of job s e) (sounds job passed s e) i h

  -- The named rule is broken once the piece's block or ruby is one half unit nearer the line's start,
  pub tight : (i : ℕ) → i < length (line_of job s e) → Tight (line_of job s e) (origins job s e) i (reason_in job s e i)
  tight i h = account.tight (line_of job s e) (origins job s e) (sounds job passed s e) (written job passed s e) i h

  -- and in every setting that has the piece there, and all pieces before it where they are.
  pub broken : (i : ℕ) → i < length (line_of job s e) → (ys : List ℕ) → ((k : ℕ) → k < i → org ys k ≡ org (origins job s e) k) →
      suc (org ys i) ≡ org (origins job s e) i → Rule (line_of job s e) ys i (reason_in job s e i) → ⊥
  broken i h = account.broken (line_of job s e) (origins job s e) (sounds job passed s e) (written job passed s e) i h

  -- It is the first in the rules' order that holds of the piece, and there is only one such.
  pub determined : (i : ℕ) (r : Reason) → First (line_of job s e) (origins job s e) i r → r ≡ reason_in job s e i
  determined i r f = account.determined (line_of job s e) (origins job s e) i r (reason_in job s e i) f (account.first (line_of job s e) (origins job s e) i)
