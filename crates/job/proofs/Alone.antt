-- "What the word alone decides, its neighbours never alter", by the result lists: two pieces of one form, in lines of one job or of two, that are given alike
-- in what the form and the left reading read. Each character of the one stands as far from its first base character as the same character of the other.
use Rattle.std.specs.Prelude.{◌≡◌, List, ℕ, ◌+◌, ◌<◌, length, get_or}
use Rattle.std.proofs.Common.{sym, ap, ◌∙◌, add-zero, arith}
use Rattle.word.specs.Both.{places}
use Rattle.readings.specs.Alike.{AlikeBoth, both-alike}
use Rattle.line.specs.declared.Side.{Side}
use Rattle.line.specs.declared.Side.TheVariants.{Right, Left}
use Rattle.line.specs.Rules.{org}
use Rattle.door.specs.declared.Piece.{Piece}
use Rattle.door.specs.Job.{Job, given, gloss_of}
use Rattle.door.specs.Entries.{length-entries}
use Rattle.job.specs.Line.{origins, first_of, many_of, widths_of, widths_in, on_side, alone}
use Rattle.job.specs.Outcome.{readings}
use Rattle.job.specs.Promise.{piece_of}
use Rattle.job.specs.Clear.{start}
use Rattle.job.proofs.Characters.{piece-good, base-own, reading-own}
use Rattle.job.specs.Demands as demands
use Rattle.job.specs.Alone.{Set}

module _
    (job : Job) (base ruby left line : List ℕ) (s e k : ℕ) (set : Set job base ruby left line s e k)
    (job' : Job) (base' ruby' left' line' : List ℕ) (s' e' k' : ℕ) (set' : Set job' base' ruby' left' line' s' e' k') where
  abbrev p : Piece
  p = piece_of job s e k

  abbrev q : Piece
  q = piece_of job' s' e' k'

  abbrev base_start : ℕ → ℕ
  base_start i = start (demands.result job base ruby left line).base i

  abbrev reading_start : Side → ℕ → ℕ
  reading_start side i = start (readings (demands.result job base ruby left line) side) i

  abbrev base_start' : ℕ → ℕ
  base_start' i = start (demands.result job' base' ruby' left' line').base i

  abbrev reading_start' : Side → ℕ → ℕ
  reading_start' side i = start (readings (demands.result job' base' ruby' left' line') side) i

  module _ (form : p.form ≡ q.form) (alike : AlikeBoth p.form (given job p) (gloss_of job p) (given job' q) (gloss_of job' q)) where
    same : alone job p ≡ alone job' q
    same = both-alike p.form (given job p) (gloss_of job p) (given job' q) (gloss_of job' q) alike ∙ ap (λ f. places f (given job' q) (gloss_of job' q)) form

    bases-alike : p.bases ≡ q.bases
    bases-alike = sym (length-entries job.width p.base p.bases) ∙ ap length alike.given.width ∙ length-entries job'.width q.base q.bases

    widths-alike : (side : Side) → widths_in side job p ≡ widths_in side job' q
    widths-alike Right = alike.given.ruby_width
    widths-alike Left = alike.width

    many-alike : (side : Side) → many_of side p ≡ many_of side q
    many-alike side =
        sym (length-entries (widths_of side job) (first_of side p) (many_of side p)) ∙ ap length (widths-alike side) ∙ length-entries (widths_of side job') (first_of side q) (many_of side q)

    -- the first base character, from the piece's origin
    first : base_start p.base ≡ org (origins job s e) k + get_or (alone job p).base 0 0
    first =
        sym (ap base_start (add-zero p.base))
        ∙ base-own job base ruby left line set.accepted s e set.of_line k 0 set.there (piece-good job base ruby left line set.accepted s e set.of_line k set.there).some

    first' : base_start' q.base ≡ org (origins job' s' e') k' + get_or (alone job' q).base 0 0
    first' =
        sym (ap base_start' (add-zero q.base))
        ∙ base-own job' base' ruby' left' line' set'.accepted s' e' set'.of_line k' 0 set'.there
        (piece-good job' base' ruby' left' line' set'.accepted s' e' set'.of_line k' set'.there).some

    pub base_alone_lem : (i : ℕ) → i < p.bases → base_start (p.base + i) + base_start' q.base ≡ base_start' (q.base + i) + base_start p.base
    base_alone_lem i h =
        omega (
          arith,
          first,
          first',
          base-own job base ruby left line set.accepted s e set.of_line k i set.there h,
          base-own job' base' ruby' left' line' set'.accepted s' e' set'.of_line k' i set'.there (omega (arith, bases-alike)),
          ap (λ w. get_or w.base i 0) same,
          ap (λ w. get_or w.base 0 0) same,
        )

    pub reading-alone : (side : Side) (i : ℕ) → i < many_of side p → reading_start side (first_of side p + i) + base_start' q.base ≡ reading_start' side (first_of side q + i) + base_start p.base
    reading-alone side i h =
        omega (
          arith,
          first,
          first',
          reading-own job base ruby left line set.accepted s e set.of_line side k i set.there h,
          reading-own job' base' ruby' left' line' set'.accepted s' e' set'.of_line side k' i set'.there (omega (arith, many-alike side)),
          ap (λ w. get_or (on_side side w) i 0) same,
          ap (λ w. get_or w.base 0 0) same,
        )
