-- "1:2:1 must give today's positions" (R-4), by the result lists: with both ratios 1:2:1 each character of a piece without a left reading stands at the piece's origin plus the
-- place that document 01 gives it without any ratio. And a job without left readings is one that document 01 and R-4 speak of: each of its pieces stands as `Alone` of level one has it.
use Rattle.std.specs.Prelude.{◌≡◌, false, List, [], ℕ, ◌+◌, ◌<◌, length, get_or}
use Rattle.std.proofs.Math.Path.{refl}
use Rattle.std.proofs.Common.{ap, ◌∙◌}
use Rattle.spread.specs.Ratio.{usual}
use Rattle.word.specs.Alone as word
use Rattle.word.specs.Both.{has_left}
use Rattle.word.specs.Both as both
use Rattle.word.specs.Today.{places, as_today}
use Rattle.line.specs.declared.Side.TheVariants.{Right}
use Rattle.line.specs.Rules.{org}
use Rattle.door.specs.Job.{Job, given}
use Rattle.job.specs.Line.{pieces, origins, ends, alone}
use Rattle.job.specs.Promise.{IsLine, piece_of}
use Rattle.job.specs.Clear.{start}
use Rattle.job.proofs.Characters.{base-own, reading-own}
use Rattle.job.specs.Demands as demands

module _
    (job : Job) (base ruby left line : List ℕ) (accepted : demands.Accepted job base ruby left line) (usually : job.ratios ≡ usual)
    (s e : ℕ) (l : IsLine 0 (ends job) s e) (k : ℕ) (there : k < length (pieces job s e)) where
  -- a piece without a left reading stands as a word with one reading
  module _ (one : has_left (piece_of job s e k).gloss ≡ false) where
    pub as_one : let p = piece_of job s e k in ((alone job p).base ≡ (word.places p.form (given job p)).base) × ((alone job p).right ≡ (word.places p.form (given job p)).ruby) × ((alone job p).left ≡ [])
    unfolding both.places
    as_one = rw one (refl, refl, refl)

    pub base-today : (i : ℕ) → i < (piece_of job s e k).bases → let p = piece_of job s e k in
        start (demands.result job base ruby left line).base (p.base + i) ≡ org (origins job s e) k + get_or (places p.form (given job p)).base i 0
    base-today i h =
        let p = piece_of job s e k in
        base-own job base ruby left line accepted s e l k i there h
        ∙ ap (λ ps. org (origins job s e) k + get_or ps i 0) (as_one.0 ∙ ap (λ ps. ps.base) (as_today p.form (given job p) usually))

    pub ruby-today : (i : ℕ) → i < (piece_of job s e k).rubies → let p = piece_of job s e k in
        start (demands.result job base ruby left line).ruby (p.ruby + i) ≡ org (origins job s e) k + get_or (places p.form (given job p)).ruby i 0
    ruby-today i h =
        let p = piece_of job s e k in
        reading-own job base ruby left line accepted s e l Right k i there h
        ∙ ap (λ ps. org (origins job s e) k + get_or ps i 0) (as_one.1 ∙ ap (λ ps. ps.ruby) (as_today p.form (given job p) usually))
