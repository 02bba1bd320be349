-- The account of a job's lines by the rows of its table: piece by piece its place in the line, and why it stands there (specs/Join.antt: it is that of the job's lines).
use Rattle.std.specs.Prelude.{◌≡◌, cond, List, [], ◌∷◌, ◌++◌, ℕ, zero, suc, ◌+◌, ◌-◌, leb, ltb, length, get_or}
use Rattle.line.specs.declared.Element.{Element}
use Rattle.line.specs.declared.State.{State}
use Rattle.line.specs.Rules.{block_of}
use Rattle.line.specs.Setting.{start, origin}
use Rattle.cells.specs.Rows.{Rows}
use Rattle.cells.specs.Cells.{cell_at, word_at, piece, next, stop}
use Rattle.account.specs.declared.Account.{Account}
use Rattle.account.specs.declared.Before.{Before}
use Rattle.account.specs.Step.{account_after, passed, nothing, reason_after}
use Rattle.job_account.specs.declared.Told.{Told}
use Rattle.job_account.specs.declared.Place.{Place}
use Rattle.job_account.specs.Rows.{row}

-- element e as number j of its line, after a line of the state st, where b stands before it
abbrev pub told_of : Element → State → ℕ → Before → Told
told_of e st j b = let x = origin st e in record { account = account_after j b e x; start = (block_of e x).start; st = next st e; before = passed j b e x }

-- the piece from i up to c
abbrev pub told_at : Rows → ℕ → ℕ → State → ℕ → Before → Told
told_at t i c st j b = told_of (piece t i c) st j b

pub same : {a a' : Account} {x x' : ℕ} {st st' : State} {b b' : Before} → a ≡ a' → x ≡ x' → st ≡ st' → b ≡ b' →
    ◌≡◌ {A = Told} (record { account = a; start = x; st = st; before = b }) (record { account = a'; start = x'; st = st'; before = b' })
same p q r s = cc

-- How many elements end with the piece whose row is i, in a line up to e: none where the element goes on behind it, and a J that e cuts goes on in the next line.
abbrev pub ended : Rows → ℕ → ℕ → ℕ
ended t i e = cond (cell_at t i).more 0 (cond (leb (i + (cell_at t i).bases) e) 1 0)

-- the row of each of at most n pieces from i on up to e, the first of them of element k; ks has the elements' indexes of the pieces before it in its line
unfoldable pub rows_from : Rows → List ℕ → ℕ → ℕ → State → Before → ℕ → ℕ → List ℕ
unfolding word_at reason_after
rows_from t ks k zero st b i e = []
rows_from t ks k (suc n) st b i e =
    let r = told_at t i (stop t i e) st (length ks) b in
    cond (ltb i e)
    (row (λ j. get_or ks j 0) k r.start r.account ++ rows_from t (ks ++ (k ∷ [])) (k + ended t i e) n r.st r.before (i + (cell_at t i).bases) e) []

-- the rows of the line from s up to e, whose first element has the index k
abbrev pub line_rows : Rows → ℕ → ℕ → ℕ → List ℕ
line_rows t k s e = rows_from t [] k (e - s) start nothing s e

-- how many pieces there are from i on up to e, at most n,
unfoldable pub pieces_from : Rows → ℕ → ℕ → ℕ → ℕ
pieces_from t zero i e = 0
pieces_from t (suc n) i e = cond (ltb i e) (suc (pieces_from t n (i + (cell_at t i).bases) e)) 0

abbrev pub pieces_in : Rows → ℕ → ℕ → ℕ
pieces_in t s e = pieces_from t (e - s) s e

-- and how many elements end among them
unfoldable pub ended_from : Rows → ℕ → ℕ → ℕ → ℕ
ended_from t zero i e = 0
ended_from t (suc n) i e = cond (ltb i e) (ended t i e + ended_from t n (i + (cell_at t i).bases) e) 0

abbrev pub ended_in : Rows → ℕ → ℕ → ℕ
ended_in t s e = ended_from t (e - s) s e

-- where the walk stands at the job's start, and behind the line from s up to e
abbrev pub first : Place
first = record { k = 0; q = 0 }

abbrev pub behind : Rows → ℕ → ℕ → Place → Place
behind t s e at = record { k = at.k + ended_in t s e; q = at.q + pieces_in t s e }

-- the rows of lines that end at es, the first of them from s on, and for each line the count of pieces up to its end
abbrev pub rows_by : Rows → Place → ℕ → List ℕ → List ℕ
rows_by t at s [] = []
rows_by t at s (e ∷ es) = line_rows t at.k s e ++ rows_by t (behind t s e at) e es

abbrev pub counts_by : Rows → Place → ℕ → List ℕ → List ℕ
counts_by t at s [] = []
counts_by t at s (e ∷ es) = (behind t s e at).q ∷ counts_by t (behind t s e at) e es
