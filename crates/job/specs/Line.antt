-- The line of the job from base character s up to base character e: its pieces, its setting, where it may end and where its characters stand
-- (document 01, "The job", "Level one" and "Level two").
use Rattle.std.specs.Prelude.{Bool, cond, not, ◌&&◌, ◌||◌, List, [], ◌∷◌, ◌++◌, map, ℕ, zero, suc, ◌+◌, ◌-◌, ◌*◌, min, max, eqb, leb, ltb, get_or}
use Rattle.basics.specs.Lists.{sum, count, any, keep, each, last_or}
use Rattle.class.specs.declared.Depths.{Depths}
use Rattle.class.specs.Class.{depths_by}
use Rattle.word.specs.declared.Form.{Form}
use Rattle.word.specs.declared.Form.TheVariants.{P, M, G, J}
use Rattle.word.specs.declared.Word.{Word}
use Rattle.word.specs.declared.Reading as word-reading
use Rattle.word.specs.Given.{has_ruby, is_j}
use Rattle.word.specs.Alone.{split, any_longer}
use Rattle.word.specs.Both.{Both, has_left, apart, uncut, places}
use Rattle.word.specs.Sides as word
use Rattle.word.specs.Part.{form_of_part}
use Rattle.readings.specs.Parts.{left_of_part}
use Rattle.line.specs.declared.Element.{Element}
use Rattle.line.specs.declared.Reading.{Reading}
use Rattle.line.specs.declared.Side.{Side}
use Rattle.line.specs.declared.Side.TheVariants.{Right, Left}
use Rattle.line.specs.Rules.{extent}
use Rattle.line.specs.Setting.{origin, settle_from, settle}
use Rattle.door.specs.declared.Piece.{Piece}
use Rattle.door.specs.Job.{Job, base_count, ruby_count, left_count, entries, left_by_runs, elements, given, gloss_of}

-- "A J cut by a line end is two words: a part of one character is set as M, a part of more as J": the n base characters of a J from its i-th on,
-- "each with its own run", and with its own left run where the J has left runs. Of a J with a mono left reading the element goes on behind each part but the last.
unfoldable pub part : Job → Piece → ℕ → ℕ → Piece
part job x i n =
    let lefts = left_by_runs x.form x.gloss in
    record {
      form = form_of_part n;
      base = x.base + i;
      bases = n;
      ruby = x.ruby + sum (entries job.run x.run i);
      rubies = sum (entries job.run (x.run + i) n);
      run = x.run + i;
      gloss = left_of_part x.gloss n;
      left = x.left + cond lefts (sum (entries job.left_run x.leftrun i)) 0;
      lefts = cond lefts (sum (entries job.left_run (x.leftrun + i) n)) 0;
      leftrun = x.leftrun + i;
      more = apart x.form x.gloss && ltb (i + n) x.bases;
    }

-- "a J with a mono left reading is set as one such M for each character, each an element to the clearance rules": any other element is one word
unfoldable pub words_in : Job → Piece → List Piece
unfolding part
words_in job x = cond (apart x.form x.gloss) (map (λ i. part job x i 1) (count 0 x.bases)) (x ∷ [])

unfoldable pub words : Job → List Piece
unfolding elements words_in
words job = each (words_in job) (elements job)

-- "A J with a left G, or with a left J and a run longer than one em on either side, is taken as group on both sides and isn't cut; every other J is cut as in document 01."
unfoldable pub cuts : Job → Piece → Bool
cuts job x =
    let w = given job x in
    let g = gloss_of job x in
    is_j x.form && not (uncut x.gloss (any_longer job.em (split w.run w.ruby_width) || any_longer job.em (split g.run g.width)))

-- what of a word stands in the line from s up to e: nothing, the whole, or of a J that is cut a part
unfoldable pub in_line : Job → ℕ → ℕ → Piece → List Piece
unfolding part cuts
in_line job s e x =
    let i = max s x.base - x.base in
    let n = min e (x.base + x.bases) - (x.base + i) in
    cond (eqb n 0) [] (cond (cuts job x && ltb n x.bases) (part job x i n) x ∷ [])

-- "Elements take base and ruby characters in order": so do their pieces in the line
unfoldable pub pieces : Job → ℕ → ℕ → List Piece
unfolding words in_line
pieces job s e = each (in_line job s e) (words job)

-- "Level one: the word alone": of its form, its own characters and its own left reading
abbrev pub word_of : Job → Piece → Word
word_of job p = word.word_of p.form (given job p) (gloss_of job p)

-- "it may lie on the blank after the P element just before it .. or the blank before the P element just after it": no other element takes ruby on it
abbrev pub on_p : Form → ℕ → ℕ
on_p P depth = depth
on_p M depth = 0
on_p G depth = 0
on_p J depth = 0

-- how deep ruby may lie on base character i where it is a P, by its class, its width and its blanks, and whether it is the job's first
abbrev pub depths_at : Job → ℕ → Depths
depths_at job i = depths_by job.profile (eqb i 0) (get_or job.class i 0) (get_or job.width i 0) (get_or job.before i 0) (get_or job.after i 0) job.em

-- a reading as a line sees it
abbrev pub stretch : word-reading.Reading → Reading
stretch r = record { there = r.there; from = r.from; upto = r.upto }

-- a piece as a line sees it: its block, a reading on either side, and how deep a neighbour's ruby may lie on it
unfoldable pub seen : Job → Piece → Element
unfolding word.word_of depths_by
seen job p =
    let w = word_of job p in
    record {
      front = w.front;
      len = w.len;
      right = stretch w.right;
      left = stretch w.left;
      before = on_p p.form (depths_at job p.base).before;
      after = on_p p.form (depths_at job p.base).after;
    }

unfoldable pub line_of : Job → ℕ → ℕ → List Element
unfolding pieces seen
line_of job s e = map (seen job) (pieces job s e)

-- "Only whole elements move": the origin of each piece, by "the four rules of clearance" the least there is
unfoldable pub origins : Job → ℕ → ℕ → List ℕ
unfolding line_of settle_from origin
origins job s e = settle (line_of job s e)

-- "The line's extent is the furthest end of any block or ruby in it."
unfoldable pub extent_of : Job → ℕ → ℕ → ℕ
unfolding line_of origins extent
extent_of job s e = extent (line_of job s e) (origins job s e)

-- the line "can be set": "Nothing .. ends after the measure"
unfoldable pub can_set : Job → ℕ → ℕ → Bool
unfolding extent_of
can_set job s e = leb (extent_of job s e) (2 * job.measure)

-- "A line may end after the last base character of an element whose flag is 1, between any two base characters of a J", where it is cut
abbrev pub ends_in : Job → ℕ → Piece → Bool
ends_in job e x =
    (eqb e (x.base + x.bases) && eqb (get_or job.flag (e - 1) 0) 1)
    || (cuts job x && (ltb x.base e && ltb e (x.base + x.bases)))

-- "and at the job's end"
unfoldable pub permitted : Job → ℕ → Bool
unfolding elements base_count cuts
permitted job e = eqb e (base_count job) || any (ends_in job e) (elements job)

-- "Every permitted break ahead is a try, also one past a try that failed."
unfoldable pub tries : Job → ℕ → List ℕ
unfolding permitted base_count
tries job s = keep (permitted job) (count (suc s) (base_count job - s))

-- "each ends at the furthest permitted break whose line can be set"; 0 where there is none
unfoldable pub furthest : Job → ℕ → ℕ
unfolding tries can_set
furthest job s = last_or 0 (keep (can_set job s) (tries job s))

-- "Lines are filled from the first": the end of each of at most n lines from s on
unfoldable pub ends_from : Job → ℕ → ℕ → List ℕ
unfolding furthest
ends_from job zero s = []
ends_from job (suc n) s = let e = furthest job s in cond (eqb e 0) [] (e ∷ ends_from job n e)

-- "for each line the count of base characters up to its end"; a line has at least one
unfoldable pub ends : Job → List ℕ
unfolding ends_from base_count
ends job = ends_from job (base_count job) 0

-- what f gives for each piece and its origin, one after the other
abbrev pub along : (Piece → ℕ → List ℕ) → List Piece → List ℕ → List ℕ
along f [] xs = []
along f (p ∷ ps) [] = []
along f (p ∷ ps) (x ∷ xs) = f p x ++ along f ps xs

-- What a job and its pieces have of either side's readings: right is ruby, left is the left reading.
abbrev pub first_of : Side → Piece → ℕ
first_of Right p = p.ruby
first_of Left p = p.left

abbrev pub many_of : Side → Piece → ℕ
many_of Right p = p.rubies
many_of Left p = p.lefts

abbrev pub widths_of : Side → Job → List ℕ
widths_of Right job = job.ruby_width
widths_of Left job = job.left_width

abbrev pub count_of : Side → Job → ℕ
count_of Right job = ruby_count job
count_of Left job = left_count job

abbrev pub has_reading : Side → Piece → Bool
has_reading Right p = has_ruby p.form
has_reading Left p = has_left p.gloss

-- the widths of a piece's characters of one side
abbrev pub widths_in : Side → Job → Piece → List ℕ
widths_in side job p = entries (widths_of side job) (first_of side p) (many_of side p)

abbrev pub on_side : Side → Both → List ℕ
on_side Right b = b.right
on_side Left b = b.left

-- where the characters of a piece stand in the word alone
abbrev pub alone : Job → Piece → Both
alone job p = places p.form (given job p) (gloss_of job p)

-- where the characters of a piece whose origin is x stand: x, and their places in the word alone
unfoldable pub base_at : Job → Piece → ℕ → List ℕ
unfolding places
base_at job p x = map (λ y. x + y) (alone job p).base

unfoldable pub reading_at : Side → Job → Piece → ℕ → List ℕ
unfolding places
reading_at side job p x = map (λ y. x + y) (on_side side (alone job p))

-- "a position for each base character, one for each ruby character", of the line, and one for each left character
unfoldable pub base_in : Job → ℕ → ℕ → List ℕ
unfolding pieces origins base_at
base_in job s e = along (base_at job) (pieces job s e) (origins job s e)

unfoldable pub reading_in : Side → Job → ℕ → ℕ → List ℕ
unfolding pieces origins reading_at
reading_in side job s e = along (reading_at side job) (pieces job s e) (origins job s e)

-- line by line, from s on
abbrev pub by_line : (ℕ → ℕ → List ℕ) → ℕ → List ℕ → List ℕ
by_line f s [] = []
by_line f s (e ∷ es) = f s e ++ by_line f e es
