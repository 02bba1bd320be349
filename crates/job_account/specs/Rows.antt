-- The accounts of a line as a list of numbers, six for each piece.
use Rattle.std.specs.Prelude.{◌≡◌, refl, List, [], ◌∷◌, ◌++◌, ℕ, zero, suc, ◌+◌, ◌*◌, ◌^◌, ◌≤◌, ◌<◌, length, get_or, set}
use Rattle.std.proofs.Common.{ap, zero-le, arith, length-append}
use Rattle.std.proofs.lemmas.List.Edits.{sets}
use Rattle.line.specs.Rules.{block_at}
use Rattle.door.specs.Job.{Job}
use Rattle.job.specs.Line.{line_of, origins}
use Rattle.job.specs.Promise.{piece_of}
use Rattle.account.specs.declared.Account.{Account}
use Rattle.account.specs.declared.Reason.{Reason}
use Rattle.account.specs.declared.Reason.TheVariants.{Start, Block, Under, Over, Ruby, Edge, Free}
use Rattle.account.specs.Claims.{number, depth, Earlier}
use Rattle.job_account.specs.Theorems.{account_in}
use Rattle.job_account.specs.First.{first_in}

-- the other element's index in the job, 0 where there is none; `index` has those of the line's pieces, by their number in it
abbrev pub other_by : (ℕ → ℕ) → Reason → ℕ
other_by index Start = 0
other_by index (Block j) = index j
other_by index (Under s j d) = index j
other_by index (Over s j d) = index j
other_by index (Ruby s j) = index j
other_by index (Edge s) = 0
other_by index Free = 0

-- only indexes of earlier pieces are asked for
pub other_by_lem : (f g : ℕ → ℕ) (n : ℕ) (r : Reason) → Earlier n r → ((j : ℕ) → j < n → f j ≡ g j) → other_by f r ≡ other_by g r
other_by_lem f g n Start h e = refl
other_by_lem f g n (Block j) h e = e j h
other_by_lem f g n (Under s j d) h e = e j h
other_by_lem f g n (Over s j d) h e = e j h
other_by_lem f g n (Ruby s j) h e = e j h
other_by_lem f g n (Edge s) h e = refl
other_by_lem f g n Free h e = refl

pub other-few : (f : ℕ → ℕ) (n : ℕ) (r : Reason) → ((j : ℕ) → f j ≤ n) → other_by f r ≤ n
other-few f n Start h = zero-le
other-few f n (Block j) h = h j
other-few f n (Under s j d) h = h j
other-few f n (Over s j d) h = h j
other-few f n (Ruby s j) h = h j
other-few f n (Edge s) h = zero-le
other-few f n Free h = zero-le

-- the element's index in the job, its block's start, the gap, the reason's number, the other element and the depth
abbrev pub row : (ℕ → ℕ) → ℕ → ℕ → Account → List ℕ
row index k x a = k ∷ x ∷ a.gap ∷ number a.reason ∷ other_by index a.reason ∷ depth a.reason ∷ []

pub row_by : (f g : ℕ → ℕ) (n k x : ℕ) (a : Account) → Earlier n a.reason → ((j : ℕ) → j < n → f j ≡ g j) → row f k x a ≡ row g k x a
row_by f g n k x a h e = ap (λ o. k ∷ x ∷ a.gap ∷ number a.reason ∷ o ∷ depth a.reason ∷ []) (other_by_lem f g n a.reason h e)

-- by a list of rows: the index in the row of piece j, where the line's rows begin at row `first`
abbrev pub index_at : List ℕ → ℕ → ℕ → ℕ
index_at rows first j = get_or rows (6 * (first + j)) 0

-- The row of piece j of a line can be written: its numbers are small, the list has room for it, and the other element stands before it.
pub record RowReady (a : Account) (first j start : ℕ) (out : List ℕ) : Type 0 where
  pub gap : a.gap < 2 ^ 32
  pub near : start < 2 ^ 32
  pub begun : first ≤ 1024
  pub few : j ≤ 1024
  pub room : 6 * (first + j) + 6 ≤ length out
  pub earlier : Earlier j a.reason

-- where the block of piece i of the line from s up to e starts
abbrev pub start_in : Job → ℕ → ℕ → ℕ → ℕ
start_in job s e i = (block_at (line_of job s e) (origins job s e) i).start

-- the index of the element that piece i is of
abbrev pub index_in : Job → ℕ → ℕ → ℕ → ℕ
index_in job s e i = first_in job (piece_of job s e i).base

abbrev pub row_in : Job → ℕ → ℕ → ℕ → List ℕ
row_in job s e i = row (index_in job s e) (index_in job s e i) (start_in job s e i) (account_in job s e i)

-- the first n accounts of the line from s up to e, and all of them
abbrev pub rows_upto : Job → ℕ → ℕ → ℕ → List ℕ
rows_upto job s e zero = []
rows_upto job s e (suc n) = rows_upto job s e n ++ row_in job s e n

unfoldable pub rows_in : Job → ℕ → ℕ → List ℕ
unfolding first_in
rows_in job s e = rows_upto job s e (length (line_of job s e))

pub length-upto : (job : Job) (s e n : ℕ) → length (rows_upto job s e n) ≡ 6 * n
length-upto job s e zero = refl
length-upto job s e (suc n) = omega (arith, length-append (rows_upto job s e n) (row_in job s e n), length-upto job s e n)

pub length-rows : (job : Job) (s e : ℕ) → length (rows_in job s e) ≡ 6 * length (line_of job s e)
unfolding rows_in
length-rows job s e = length-upto job s e (length (line_of job s e))

-- six stores, one after the other
pub six : (t : List ℕ) (q a b c d e f : ℕ) → set (set (set (set (set (set t q a) (q + 1) b) (q + 2) c) (q + 3) d) (q + 4) e) (q + 5) f ≡ sets t q (a ∷ b ∷ c ∷ d ∷ e ∷ f ∷ [])
six t q a b c d e f = rw (one, two, three, four, five)
  where
    one : q + 1 ≡ suc q
    one = omega arith

    two : q + 2 ≡ suc (suc q)
    two = omega arith

    three : q + 3 ≡ suc (suc (suc q))
    three = omega arith

    four : q + 4 ≡ suc (suc (suc (suc q)))
    four = omega arith

    five : q + 5 ≡ suc (suc (suc (suc (suc q))))
    five = omega arith
