-- The text of an account, in bytes: the verdict of the page, then for each line its extent, and for each element its index, its block's start, the gap before it, the
-- rule and the other element, one a line. All lengths are in half units, as positions are.
use Rattle.std.specs.Prelude.{Bool, cond, List, [], ◌∷◌, ◌++◌, ℕ, ◌+◌, ◌-◌, ◌*◌, eqb, leb, length, get_or, take, drop}
use Rattle.basics.specs.Lists.{count, keep}
use Rattle.text.specs.Print.{decimal}
use Rattle.word.specs.Given.{has_ruby}
use Rattle.word.specs.Both.{has_left}
use Rattle.door.specs.Job.{Job, form_of, left_of, element_count}
use Rattle.job.specs.Line.{extent_of, ends, by_line}
use Rattle.result.specs.Text.{bytes}
use Rattle.job_account.specs.Rows.{rows_in}

-- a phrase and its number
unfoldable pub said : List ℕ → ℕ → List ℕ
unfolding decimal
said phrase n = phrase ++ decimal n

-- a phrase with the other element, and the depth
unfoldable pub deep : List ℕ → ℕ → ℕ → List ℕ
unfolding said
deep phrase other depth = said phrase other ++ said (bytes " at depth ") depth

-- What holds an element: which rule, and what of it touches what. Rule 2 lets ruby lie on a block to the depth that is said. `name` is what the ruby is called.

-- a phrase and the ruby
unfoldable pub named : List ℕ → List ℕ → List ℕ
named phrase name = phrase ++ name

unfoldable pub under_text : List ℕ → ℕ → ℕ → List ℕ
unfolding named deep
under_text name other depth = named (bytes " rule 2 block touches ") name ++ deep (bytes " of ") other depth

unfoldable pub over_text : List ℕ → ℕ → ℕ → List ℕ
unfolding named deep
over_text name other depth = named (bytes " rule 2 ") name ++ deep (bytes " touches block of ") other depth

unfoldable pub touch_text : List ℕ → ℕ → List ℕ
unfolding named said
touch_text name other = named (bytes " rule 3 ") name ++ (named (bytes " touches ") name ++ said (bytes " of ") other)

unfoldable pub edge_text : List ℕ → List ℕ
unfolding named
edge_text name = named (bytes " rule 4 ") name ++ bytes " touches start"

-- by the number of a reason of the right side
unfoldable pub ruby_text : List ℕ → ℕ → ℕ → ℕ → List ℕ
unfolding under_text over_text touch_text edge_text
ruby_text name reason other depth =
    cond (eqb reason 3) (under_text name other depth) (cond (eqb reason 4) (over_text name other depth) (cond (eqb reason 5) (touch_text name other) (edge_text name)))

-- by the reason's number (specs/Claims of account, `number`): a left ruby's is 4 more
unfoldable pub reason_text : ℕ → ℕ → ℕ → List ℕ
unfolding said ruby_text
reason_text reason other depth =
    cond (eqb reason 1) (bytes " rule 4 block touches start")
    (cond (eqb reason 2) (said (bytes " rule 1 block touches block of ") other)
    (cond (leb reason 6) (ruby_text (bytes "ruby") reason other depth) (ruby_text (bytes "left ruby") (reason - 4) other depth)))

-- one element: its index, its block's start, the gap before the block, and the reason
unfoldable pub row_text : ℕ → ℕ → ℕ → ℕ → ℕ → ℕ → List ℕ
unfolding said reason_text
row_text k start gap reason other depth = said (bytes "element ") k ++ (said (bytes " at ") start ++ (said (bytes " gap ") gap ++ (reason_text reason other depth ++ (10 ∷ []))))

-- a line of text for each row of six numbers
unfoldable pub rows_text : List ℕ → List ℕ
unfolding row_text
rows_text [] = []
rows_text (k ∷ []) = []
rows_text (k ∷ x ∷ []) = []
rows_text (k ∷ x ∷ g ∷ []) = []
rows_text (k ∷ x ∷ g ∷ n ∷ []) = []
rows_text (k ∷ x ∷ g ∷ n ∷ o ∷ []) = []
rows_text (k ∷ x ∷ g ∷ n ∷ o ∷ d ∷ rest) = row_text k x g n o d ++ rows_text rest

-- `line EXTENT`
unfoldable pub head_text : ℕ → List ℕ
unfolding said
head_text extent = said (bytes "line ") extent ++ (10 ∷ [])

-- `clear`, with the number of lines, of elements and of readings
unfoldable pub verdict_text : ℕ → ℕ → ℕ → List ℕ
unfolding said
verdict_text lines elements readings = said (bytes "clear lines ") lines ++ (said (bytes " elements ") elements ++ (said (bytes " readings ") readings ++ (10 ∷ [])))

-- how many of the n elements pass a test
abbrev pub many : (ℕ → Bool) → ℕ → ℕ
many test n = length (keep test (count 0 n))

-- a reading is the ruby of an M, a G or a J, and a left reading is another: those of n elements of these kinds, with left readings of these kinds
unfoldable pub readings_of : List ℕ → List ℕ → ℕ → ℕ
readings_of kinds glosses n = many (λ k. has_ruby (form_of (get_or kinds k 0))) n + many (λ k. has_left (left_of (get_or glosses k 0))) n

-- The account of an accepted job: the text of its lines, one after the other.
unfoldable pub line_text : Job → ℕ → ℕ → List ℕ
unfolding head_text rows_text extent_of rows_in
line_text job s e = head_text (extent_of job s e) ++ rows_text (rows_in job s e)

unfoldable pub account_text : Job → List ℕ
unfolding verdict_text readings_of line_text ends
account_text job = verdict_text (length (ends job)) (element_count job) (readings_of job.kind job.left_kind (element_count job)) ++ by_line (line_text job) 0 (ends job)

-- the extent that the shortest permitted line would need, and the measure, both in half units
unfoldable pub needs_text : ℕ → ℕ → List ℕ
unfolding said
needs_text needed measure = said (bytes "needs ") needed ++ (said (bytes " measure ") (2 * measure) ++ (10 ∷ []))

-- The same by lists: row q, the rows from q up to e, and the lines whose rows end where `told` says.
abbrev pub row_at : List ℕ → ℕ → List ℕ
row_at rows q = row_text (get_or rows (6 * q) 0) (get_or rows (6 * q + 1) 0) (get_or rows (6 * q + 2) 0) (get_or rows (6 * q + 3) 0) (get_or rows (6 * q + 4) 0) (get_or rows (6 * q + 5) 0)

abbrev pub segment : List ℕ → ℕ → ℕ → List ℕ
segment rows q e = take (6 * (e - q)) (drop (6 * q) rows)

unfoldable pub lines_text : List ℕ → ℕ → List ℕ → List ℕ → List ℕ
unfolding head_text rows_text
lines_text rows q [] wide = []
lines_text rows q (e ∷ es) [] = []
lines_text rows q (e ∷ es) (x ∷ xs) = (head_text x ++ rows_text (segment rows q e)) ++ lines_text rows e es xs

unfoldable pub lists_text : ℕ → ℕ → ℕ → List ℕ → List ℕ → List ℕ → List ℕ
unfolding verdict_text lines_text
lists_text lines elements readings rows told wide = verdict_text lines elements readings ++ lines_text rows 0 (take lines told) (take lines wide)
