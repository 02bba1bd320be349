-- The words that the lines are made of: "a J with a mono left reading is set as one such M for each character", and every other element is one word. `proofs/Apart.antt` has what
-- holds of them.
use Rattle.std.specs.Prelude.{◌≡◌, false, List, map}
use Rattle.basics.specs.Lists.{count}
use Rattle.word.specs.Both.{apart}
use Rattle.door.specs.declared.Piece.{Piece}
use Rattle.door.specs.Job.{Job}
use Rattle.door.specs.Passed.{GoodElement}
use Rattle.job.specs.Line.{part}

-- a word of the job
pub record GoodWord (job : Job) (x : Piece) : Type 0 where
  pub good : GoodElement job x
  pub whole : apart x.form x.gloss ≡ false

-- The characters of a J with a mono left reading, each a word.
abbrev pub one_by_one : Job → Piece → List Piece
one_by_one job x = map (λ i. part job x i 1) (count 0 x.bases)
