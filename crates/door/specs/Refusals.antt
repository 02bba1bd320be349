-- The refusal list up to the lines: each row's condition, its number and place by the refusal's case, and their order (document 01, "Refusal list").
use Rattle.std.specs.Prelude.{Bool, true, false, not, ◌&&◌, ◌||◌, List, [], ◌∷◌, ◌++◌, map, ℕ, suc, ◌+◌, ◌%◌, eqb, ltb, get_or}
use Rattle.basics.specs.Lists.{sum, count, any, each}
use Rattle.class.specs.Class.{accepted, western, kana_like, blank_before, blank_after}
use Rattle.refusal.specs.declared.Refusal.{Refusal}
use Rattle.refusal.specs.declared.Refusal.TheVariants.{Range, Ratio, Profile, Count, Short, Character, Blanks, Element, LeftKind, Supply, BlankInside, JukugoBase, Mixed, WesternOver}
use Rattle.spread.specs.declared.Ratio.{Ratio as RatioNumbers}
use Rattle.word.specs.declared.Form.{Form}
use Rattle.word.specs.declared.Form.TheVariants.{P, M, G, J}
use Rattle.word.specs.declared.Left.{Left}
use Rattle.word.specs.Answer.{blank_inside, jukugo_base}
use Rattle.word.specs.Both.{takes}
use Rattle.word.specs.Answered.{mixed_both, western_both}
use Rattle.door.specs.declared.Piece.{Piece}
use Rattle.door.specs.Job.{Job, base_count, ruby_count, left_count, element_count, known, known_left, left_by_runs, left_by_count, elements, given, gloss_of}

abbrev pub outside : ℕ → ℕ → ℕ → Bool
outside a b n = ltb n a || ltb b n

-- 1: "em odd, or em or measure out of range"; em: "even, 2 to 4,096", measure: "1 to 4,000,000 units"
abbrev pub em_wrong : Job → Bool
em_wrong job = eqb (job.em % 2) 1 || outside 2 4096 job.em

abbrev pub measure_wrong : Job → Bool
measure_wrong job = outside 1 4000000 job.measure

-- 15: "a ratio number over 7 or all three 0"
abbrev pub ratio_wrong : RatioNumbers → Bool
ratio_wrong r = ltb 7 r.a || (ltb 7 r.m || (ltb 7 r.c || (eqb r.a 0 && (eqb r.m 0 && eqb r.c 0))))

-- 20: "a profile over 1"
abbrev pub profile_wrong : Job → Bool
profile_wrong job = ltb 1 job.profile

-- 12: "base list or line list below the base count, ruby list below the ruby count", the left list "as for right ones"; base, ruby, left and lines are the lengths of the result lists
abbrev pub list_short : Job → ℕ → ℕ → ℕ → ℕ → Bool
list_short job base ruby left lines = ltb base (base_count job) || (ltb lines (base_count job) || (ltb ruby (ruby_count job) || ltb left (left_count job)))

-- 3: "class, width or flag not accepted"
abbrev pub base_wrong : Job → ℕ → Bool
base_wrong job i = not (accepted (get_or job.class i 0)) || (outside 1 4096 (get_or job.width i 0) || ltb 1 (get_or job.flag i 0))

-- 3, of a ruby character or a left one, which have no flag: "class, width .. not accepted"
abbrev pub reading_wrong : List ℕ → List ℕ → ℕ → Bool
reading_wrong class width i = not (accepted (get_or class i 0)) || outside 1 4096 (get_or width i 0)

-- 4: "blanks against the class or over the width"
abbrev pub blanks_wrong : Job → ℕ → Bool
blanks_wrong job i =
    let c = get_or job.class i 0 in
    let before = get_or job.before i 0 in
    let after = get_or job.after i 0 in
    (ltb 0 before && not (blank_before c)) || ((ltb 0 after && not (blank_after c)) || ltb (get_or job.width i 0) (before + after))

-- 5: "element counts out of range": M "1 to 64 ruby characters"; G "1 to 32 base characters, 1 to 64 ruby characters"; J "1 to 32 base characters, each
-- with its own run of at least 1 ruby character, 64 in all at most"
abbrev pub counts_out : Form → ℕ → ℕ → List ℕ → Bool
counts_out P base ruby runs = false
counts_out M base ruby runs = outside 1 64 ruby
counts_out G base ruby runs = outside 1 32 base || outside 1 64 ruby
counts_out J base ruby runs = outside 1 32 base || (any (eqb 0) runs || ltb 64 ruby)

-- and of its left reading, "as for right ones"
abbrev pub left_out : Form → Left → ℕ → List ℕ → Bool
left_out form gloss lefts runs = (left_by_runs form gloss && (any (eqb 0) runs || ltb 64 lefts)) || (left_by_count form gloss && outside 1 64 lefts)

-- 5: "unknown kind, or element counts out of range", right first
abbrev pub counts_wrong : Job → ℕ → Piece → Bool
counts_wrong job k e =
    (not (known (get_or job.kind k 0)) || counts_out e.form e.bases e.rubies (given job e).run)
    || (not (known_left (get_or job.left_kind k 0)) || left_out e.form e.gloss e.lefts (gloss_of job e).run)

-- 16: "a left kind its element doesn't take"
abbrev pub left_kind_wrong : Piece → Bool
left_kind_wrong e = not (takes e.form e.gloss)

-- 6: "characters run out"
abbrev pub run_out : Job → Piece → Bool
run_out job e = ltb (base_count job) (e.base + e.bases) || (ltb (ruby_count job) (e.ruby + e.rubies) || ltb (left_count job) (e.left + e.lefts))

-- 6: "or some are left over"
abbrev pub left_over : Job → List Piece → Bool
left_over job es =
    ltb (sum (map (λ e. e.bases) es)) (base_count job)
    || (ltb (sum (map (λ e. e.rubies) es)) (ruby_count job) || ltb (sum (map (λ e. e.lefts) es)) (left_count job))

-- a refusal, where its condition holds
infix 66 ◌when◌
abbrev pub ◌when◌ : Refusal → Bool → List Refusal
r when true = r ∷ []
r when false = []

-- Rows of the list are refusals with their conditions, in order: those that hold, after what was found before them.
abbrev pub held_after : List Refusal → List (Refusal × Bool) → List Refusal
held_after found [] = found
held_after found (r ∷ rs) = held_after (found ++ r.0 when r.1) rs

-- the rows that hold
abbrev pub held : List (Refusal × Bool) → List Refusal
held [] = []
held (r ∷ rs) = held_after (r.0 when r.1) rs

-- "1, 2 and 12, each by lowest place", with 15 "checked after 1, place 0 for the ruby ratio, 1 for the base" and 20 "checked after 15": "At most 1,024 base characters, 2,048 ruby
-- characters, 1,024 elements", and of left characters as many as of right ones
abbrev pub job_table : Job → ℕ → ℕ → ℕ → ℕ → List (Refusal × Bool)
job_table job base ruby left lines =
    (Range 0, em_wrong job)
    ∷ (Range 1, measure_wrong job)
    ∷ (Ratio 0, ratio_wrong job.ratios.ruby)
    ∷ (Ratio 1, ratio_wrong job.ratios.base)
    ∷ (Profile, profile_wrong job)
    ∷ (Count 0, ltb 1024 (base_count job))
    ∷ (Count 1, ltb 2048 (ruby_count job))
    ∷ (Count 2, ltb 1024 (element_count job))
    ∷ (Count 3, ltb 2048 (left_count job))
    ∷ (Short, list_short job base ruby left lines)
    ∷ []

unfoldable pub job_faults : Job → ℕ → ℕ → ℕ → ℕ → List Refusal
unfolding base_count ruby_count left_count element_count
job_faults job base ruby left lines = held (job_table job base ruby left lines)

-- "then base characters and then ruby characters in turn, 3 before 4"; "ruby ones 1,024 + index"; left ones after them, "3,072 + index"
abbrev pub base_table : Job → ℕ → List (Refusal × Bool)
base_table job i = (Character i, base_wrong job i) ∷ (Blanks i, blanks_wrong job i) ∷ []

abbrev pub base_faults : Job → ℕ → List Refusal
base_faults job i = held (base_table job i)

abbrev pub reading_faults : ℕ → List ℕ → List ℕ → ℕ → List Refusal
reading_faults first class width i = held ((Character (first + i), reading_wrong class width i) ∷ [])

abbrev pub ruby_faults : Job → ℕ → List Refusal
ruby_faults job = reading_faults 1024 job.ruby_class job.ruby_width

abbrev pub gloss_faults : Job → ℕ → List Refusal
gloss_faults job = reading_faults 3072 job.left_class job.left_width

unfoldable pub char_faults : Job → List Refusal
unfolding base_count ruby_count left_count accepted blank_before blank_after
char_faults job = each (base_faults job) (count 0 (base_count job)) ++ (each (ruby_faults job) (count 0 (ruby_count job)) ++ each (gloss_faults job) (count 0 (left_count job)))

-- "then elements in turn, in the table's order from 5"; 7 to 10 are level one's own rows
abbrev pub element_table : Job → ℕ → Piece → List (Refusal × Bool)
element_table job k e =
    (Element k, counts_wrong job k e)
    ∷ (LeftKind k, left_kind_wrong e)
    ∷ (Supply k, run_out job e)
    ∷ (BlankInside k, blank_inside e.form (given job e))
    ∷ (JukugoBase k, jukugo_base e.form (given job e))
    ∷ (Mixed k, mixed_both e.form (given job e) (gloss_of job e))
    ∷ (WesternOver k, western_both e.form (given job e) (gloss_of job e))
    ∷ []

abbrev pub element_faults : Job → ℕ → Piece → List Refusal
element_faults job k e = held (element_table job k e)

unfoldable pub elements_faults : Job → ℕ → List Piece → List Refusal
unfolding base_count ruby_count left_count western kana_like
elements_faults job k [] = []
elements_faults job k (e ∷ es) = element_faults job k e ++ elements_faults job (suc k) es

-- "then leftover characters"; "left over: the element count"
unfoldable pub left_faults : Job → List Refusal
unfolding elements element_count base_count ruby_count left_count
left_faults job = Supply (element_count job) when left_over job (elements job)

-- all that the door looks at, in order; "then lines in turn" follow in `job`
unfoldable pub own_faults : Job → ℕ → ℕ → ℕ → ℕ → List Refusal
unfolding job_faults char_faults elements_faults elements left_faults
own_faults job base ruby left lines = job_faults job base ruby left lines ++ (char_faults job ++ (elements_faults job 0 (elements job) ++ left_faults job))
