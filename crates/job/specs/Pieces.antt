-- A word among those before and after it, an element and a word of the job. `proofs/Pieces.antt` has what of a word stands in a line, case by case.
use Rattle.std.specs.Prelude.{◌≡◌, true, false, List, ◌∷◌, ◌++◌, ◌⊎◌, ℕ, ◌+◌, ◌≤◌, ◌<◌}
use Rattle.basics.specs.Lists.{All}
use Rattle.word.specs.Given.{has_ruby}
use Rattle.word.specs.Both.{apart}
use Rattle.door.specs.declared.Piece.{Piece}
use Rattle.door.specs.Job.{Job, elements}
use Rattle.door.specs.Passed.{GoodElement}
use Rattle.job.specs.Line.{part, words}

-- one of these, which stand one after the other: those before it end before it begins, and those after it begin after it ends
pub record Among (xs : List Piece) (x : Piece) : Type 0 where
  pub front : List Piece
  pub rest : List Piece
  pub split : xs ≡ front ++ (x ∷ rest)
  pub behind : All (λ y. y.base + y.bases ≤ x.base) front
  pub ahead : All (λ y. x.base + x.bases ≤ y.base) rest
  pub some : All (λ y. 0 < y.bases) rest

-- an element of the job, and the element that a word is of: itself, or the J with a mono left reading whose character it is
pub record IsElement (job : Job) (x : Piece) : Type 0 where
  pub good : GoodElement job x
  pub last : x.more ≡ false
  pub one : has_ruby x.form ≡ false → x.bases ≡ 1
  pub place : Among (elements job) x

pub record Single (job : Job) (y x : Piece) : Type 0 where
  pub separate : apart y.form y.gloss ≡ true
  pub at : ℕ
  pub there : at < y.bases
  pub is : x ≡ part job y at 1

pub record Of (job : Job) (x : Piece) : Type 0 where
  pub element : Piece
  pub good : IsElement job element
  pub word : (x ≡ element) ⊎ Single job element x

-- a word of the job
pub record IsWord (job : Job) (x : Piece) : Type 0 where
  pub front : List Piece
  pub rest : List Piece
  pub split : words job ≡ front ++ (x ∷ rest)
  pub good : GoodElement job x
  pub whole : apart x.form x.gloss ≡ false
  pub of : Of job x
  pub behind : All (λ y. y.base + y.bases ≤ x.base) front
  pub ahead : All (λ y. x.base + x.bases ≤ y.base) rest
  pub some : All (λ y. 0 < y.bases) rest
