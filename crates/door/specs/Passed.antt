-- What the door leaves: a job with no fault of its own has characters and elements within their limits, and its elements take all characters, one after
-- the other. What follows about lines asks for this and nothing else.
use Rattle.std.specs.Prelude.{◌≡◌, Bool, true, false, cond, not, ◌&&◌, ◌||◌, eqb, ltb, length, get_or}
use Rattle.std.proofs.Math.Path.{refl, subst}
use Rattle.std.proofs.Common.{sym, ◌∙◌, true≢false}
use Rattle.std.proofs.lemmas.Bool.{false≢true}
use mathlib.Core.List.{List, [], ◌∷◌, ◌++◌, map}
use Prim.Native.Nat.{ℕ, zero, suc, ◌+◌, ◌%◌, ◌≤◌, ◌<◌, zero-le}
use native.Mathlib.Omega.{arith}
use borrow.Author.Tests.{ltb-false, not-false}
use Rattle.basics.specs.Lists.{sum, count, any, each, All}
use Rattle.basics.specs.Laws.{or_none, all-count, all_map}
use Rattle.class.specs.Class.{accepted, blank_before, blank_after}
use Rattle.spread.specs.declared.Ratio.{Ratio}
use Rattle.spread.specs.Ratio.{Sound, Housed}
use Rattle.refusal.specs.declared.Refusal.{Refusal}
use Rattle.refusal.specs.declared.Refusal.TheVariants.{Character, Supply}
use Rattle.word.specs.declared.Form.{Form}
use Rattle.word.specs.declared.Form.TheVariants.{P, M, G, J}
use Rattle.word.specs.declared.Left.{Left}
use Rattle.word.specs.declared.Left.TheVariants as left
use Rattle.word.specs.declared.Answer.TheVariants.{Set}
use Rattle.word.specs.Given.{has_ruby, is_j}
use Rattle.word.specs.Answer.{blank_inside, jukugo_base}
use Rattle.word.specs.Both.{has_left}
use Rattle.word.specs.Both as both
use Rattle.word.specs.Sides.{word_of}
use Rattle.word.specs.Answered.{mixed_both, western_both, answer_both}
use Rattle.word.specs.Answered as answered
use Rattle.door.specs.declared.Taken.{Taken}
use Rattle.door.specs.declared.Piece.{Piece}
use Rattle.door.specs.Job.{Job, base_count, ruby_count, left_count, element_count, takes_base, takes_ruby, known, known_left, left_by_runs, left_by_count, takes_left, nothing, past, element, elements_from, elements, given, gloss_of}
use Rattle.door.specs.Refusals.{outside, em_wrong, measure_wrong, ratio_wrong, list_short, reading_wrong, counts_out, left_out, counts_wrong, left_kind_wrong, run_out, left_over, job_table, base_table, element_table, base_faults, reading_faults, ruby_faults, gloss_faults, element_faults, job_faults, char_faults, elements_faults, left_faults, own_faults}
use Rattle.door.specs.Verdict.{append_none, each_none, when_none, held_none}
use Rattle.door.specs.Entries.{length-entries, none-zero, some-sum}

-- a base character that passes 3 and 4
pub record GoodBase (job : Job) (i : ℕ) : Type 0 where
  pub class : accepted (get_or job.class i 0) ≡ true
  pub some : 1 ≤ get_or job.width i 0
  pub narrow : get_or job.width i 0 ≤ 4096
  pub flag : get_or job.flag i 0 ≤ 1
  pub blanks : get_or job.before i 0 + get_or job.after i 0 ≤ get_or job.width i 0

-- a ruby character or a left one that passes 3, of the classes cs and the widths ws
pub record GoodReading (cs ws : List ℕ) (i : ℕ) : Type 0 where
  pub class : accepted (get_or cs i 0) ≡ true
  pub some : 1 ≤ get_or ws i 0
  pub narrow : get_or ws i 0 ≤ 4096

-- the counts of an element that passes 5
pub record Few (form : Form) (bases rubies : ℕ) (runs : List ℕ) : Type 0 where
  pub some : 0 < bases
  pub few : bases ≤ 32
  pub reads : has_ruby form ≡ true → 0 < rubies
  pub plain : has_ruby form ≡ false → rubies ≡ 0
  pub few_ruby : rubies ≤ 64
  pub whole : is_j form ≡ true → rubies ≡ sum runs
  pub each : is_j form ≡ true → All (λ n. 0 < n) runs

-- and of its left reading, "as for right ones"
pub record FewLeft (form : Form) (gloss : Left) (lefts : ℕ) (runs : List ℕ) : Type 0 where
  pub reads : has_left gloss ≡ true → both.takes form gloss ≡ true → 0 < lefts
  pub none : has_left gloss ≡ false → lefts ≡ 0
  pub few : lefts ≤ 64
  pub whole : left_by_runs form gloss ≡ true → lefts ≡ sum runs
  pub each : left_by_runs form gloss ≡ true → All (λ n. 0 < n) runs

-- an element that passes 5, 16 and 6 to 10
pub record GoodElement (job : Job) (x : Piece) : Type 0 where
  pub counts : Few x.form x.bases x.rubies (given job x).run
  pub gloss : FewLeft x.form x.gloss x.lefts (gloss_of job x).run
  pub takes : both.takes x.form x.gloss ≡ true
  pub inside : x.base + x.bases ≤ base_count job
  pub reads : x.ruby + x.rubies ≤ ruby_count job
  pub left_reads : x.left + x.lefts ≤ left_count job
  pub seven : blank_inside x.form (given job x) ≡ false
  pub eight : jukugo_base x.form (given job x) ≡ false
  pub nine : mixed_both x.form (given job x) (gloss_of job x) ≡ false
  pub ten : western_both x.form (given job x) (gloss_of job x) ≡ false
  pub set : (place : ℕ) → answer_both x.form place (given job x) (gloss_of job x) ≡ Set (word_of x.form (given job x) (gloss_of job x))

-- pieces that begin at b and stand one after the other up to d; `first` is a piece's first character, `many` how many it has
abbrev pub Tiled : (Piece → ℕ) → (Piece → ℕ) → ℕ → List Piece → ℕ → Type 0
Tiled first many b [] d = b ≡ d
Tiled first many b (x ∷ xs) d = (first x ≡ b) × Tiled first many (b + many x) xs d

abbrev pub BaseTiled : ℕ → List Piece → ℕ → Type 0
BaseTiled = Tiled (λ p. p.base) (λ p. p.bases)

abbrev pub RubyTiled : ℕ → List Piece → ℕ → Type 0
RubyTiled = Tiled (λ p. p.ruby) (λ p. p.rubies)

abbrev pub LeftTiled : ℕ → List Piece → ℕ → Type 0
LeftTiled = Tiled (λ p. p.left) (λ p. p.lefts)

-- a job with no fault of its own
pub record Passed (job : Job) : Type 0 where
  pub em : job.em ≤ 4096
  pub measure : job.measure ≤ 4000000
  pub house : Housed job.ratios
  pub few_base : base_count job ≤ 1024
  pub few_ruby : ruby_count job ≤ 2048
  pub few_left : left_count job ≤ 2048
  pub few_elements : element_count job ≤ 1024
  pub base : (i : ℕ) → i < base_count job → GoodBase job i
  pub ruby : (i : ℕ) → i < ruby_count job → GoodReading job.ruby_class job.ruby_width i
  pub left : (i : ℕ) → i < left_count job → GoodReading job.left_class job.left_width i
  pub each : All (GoodElement job) (elements job)
  pub tiled : BaseTiled 0 (elements job) (base_count job)
  pub rubies : RubyTiled 0 (elements job) (ruby_count job)
  pub lefts : LeftTiled 0 (elements job) (left_count job)

-- Characters.

good-base : (job : Job) (i : ℕ) → base_faults job i ≡ [] → GoodBase job i
good-base job i e =
    let c = get_or job.class i 0 in
    let w = get_or job.width i 0 in
    let f = get_or job.flag i 0 in
    let b = get_or job.before i 0 in
    let a = get_or job.after i 0 in
    let p = held_none (base_table job i) e in
    let three = or_none (not (accepted c)) (outside 1 4096 w || ltb 1 f) p.0 in
    let rest = or_none (outside 1 4096 w) (ltb 1 f) three.1 in
    let width = or_none (ltb w 1) (ltb 4096 w) rest.0 in
    let four = or_none (ltb 0 b && not (blank_before c)) ((ltb 0 a && not (blank_after c)) || ltb w (b + a)) p.1.0 in
    record {
      class = not-false (accepted c) three.0;
      some = ltb-false w 1 width.0;
      narrow = ltb-false 4096 w width.1;
      flag = ltb-false 1 f rest.1;
      blanks = ltb-false w (b + a) (or_none (ltb 0 a && not (blank_after c)) (ltb w (b + a)) four.1).1;
    }

good-reading : (first : ℕ) (cs ws : List ℕ) (i : ℕ) → reading_faults first cs ws i ≡ [] → GoodReading cs ws i
good-reading first cs ws i e =
    let c = get_or cs i 0 in
    let w = get_or ws i 0 in
    let three = or_none (not (accepted c)) (outside 1 4096 w) (when_none (Character (first + i)) (reading_wrong cs ws i) e) in
    let width = or_none (ltb w 1) (ltb 4096 w) three.1 in
    record { class = not-false (accepted c) three.0; some = ltb-false w 1 width.0; narrow = ltb-false 4096 w width.1 }

-- faults in turn of which none is found
none-at : (f : ℕ → List Refusal) (n : ℕ) → each f (count 0 n) ≡ [] → (i : ℕ) → i < n → f i ≡ []
none-at f n e i h = all-count (λ i. f i ≡ []) 0 n (each_none f (count 0 n) e) i zero-le (omega arith)

module _ (job : Job) (none : char_faults job ≡ []) where
  abbrev bases : List Refusal
  bases = each (base_faults job) (count 0 (base_count job))

  abbrev rights : List Refusal
  rights = each (ruby_faults job) (count 0 (ruby_count job))

  abbrev lefts : List Refusal
  lefts = each (gloss_faults job) (count 0 (left_count job))

  chars : (bases ≡ []) × (rights ≡ []) × (lefts ≡ [])
  unfolding char_faults
  chars =
      let p = append_none bases (rights ++ lefts) none in
      let q = append_none rights lefts p.1 in
      (p.0, q.0, q.1)

  pub base-good : (i : ℕ) → i < base_count job → GoodBase job i
  base-good i h = good-base job i (none-at (base_faults job) (base_count job) chars.0 i h)

  pub ruby-good : (i : ℕ) → i < ruby_count job → GoodReading job.ruby_class job.ruby_width i
  ruby-good i h = good-reading 1024 job.ruby_class job.ruby_width i (none-at (ruby_faults job) (ruby_count job) chars.1 i h)

  pub left-good : (i : ℕ) → i < left_count job → GoodReading job.left_class job.left_width i
  left-good i h = good-reading 3072 job.left_class job.left_width i (none-at (gloss_faults job) (left_count job) chars.2 i h)

-- Elements.

within : (a b n : ℕ) → outside a b n ≡ false → (a ≤ n) × (n ≤ b)
within a b n e = let q = or_none (ltb n a) (ltb b n) e in (ltb-false n a q.0, ltb-false b n q.1)

-- the counts that a form takes, with its runs
pub few-of : (form : Form) (b r : ℕ) (runs : List ℕ) → length runs ≡ takes_base form b → counts_out form (takes_base form b) (takes_ruby form r (sum runs)) runs ≡ false →
    Few form (takes_base form b) (takes_ruby form r (sum runs)) runs
few-of P b r runs l e =
    record { some = omega arith; few = omega arith; reads = λ h. absurd (false≢true h); plain = λ h. refl; few_ruby = zero-le; whole = λ h. absurd (false≢true h); each = λ h. absurd (false≢true h) }
few-of M b r runs l e =
    let q = within 1 64 r e in
    record { some = omega arith; few = omega arith; reads = λ h. q.0; plain = λ h. absurd (true≢false h); few_ruby = q.1; whole = λ h. absurd (false≢true h); each = λ h. absurd (false≢true h) }
few-of G b r runs l e =
    let p = or_none (outside 1 32 b) (outside 1 64 r) e in
    let n = within 1 32 b p.0 in
    let q = within 1 64 r p.1 in
    record { some = n.0; few = n.1; reads = λ h. q.0; plain = λ h. absurd (true≢false h); few_ruby = q.1; whole = λ h. absurd (false≢true h); each = λ h. absurd (false≢true h) }
few-of J b r runs l e =
    let p = or_none (outside 1 32 b) (any (eqb 0) runs || ltb 64 (sum runs)) e in
    let n = within 1 32 b p.0 in
    let q = or_none (any (eqb 0) runs) (ltb 64 (sum runs)) p.1 in
    let a = none-zero runs q.0 in
    record { some = n.0; few = n.1; reads = λ h. some-sum runs (omega (arith, n.0)) a; plain = λ h. absurd (true≢false h); few_ruby = ltb-false 64 (sum runs) q.1; whole = λ h. refl; each = λ h. a }

-- a left reading that its element takes is read by runs or by a count, and none by neither
read_some : (form : Form) (gloss : Left) → has_left gloss ≡ true → both.takes form gloss ≡ true → (left_by_runs form gloss || left_by_count form gloss) ≡ true
read_some form left.N h t = absurd (false≢true h)
read_some P left.M h t = absurd (false≢true t)
read_some P left.G h t = absurd (false≢true t)
read_some P left.J h t = absurd (false≢true t)
read_some M left.M h t = refl
read_some M left.G h t = refl
read_some M left.J h t = refl
read_some G left.M h t = refl
read_some G left.G h t = refl
read_some G left.J h t = refl
read_some J left.M h t = refl
read_some J left.G h t = refl
read_some J left.J h t = refl

read_none : (form : Form) (gloss : Left) → has_left gloss ≡ false → (left_by_runs form gloss ≡ false) × (left_by_count form gloss ≡ false)
read_none form left.N h = (refl, refl)
read_none form left.M h = absurd (true≢false h)
read_none form left.G h = absurd (true≢false h)
read_none form left.J h = absurd (true≢false h)

-- the count that a left reading takes, with its runs
pub few_left-of : (form : Form) (gloss : Left) (l : ℕ) (runs : List ℕ) → 0 < length runs → left_out form gloss (takes_left form gloss l (sum runs)) runs ≡ false →
    FewLeft form gloss (takes_left form gloss l (sum runs)) runs
few_left-of form gloss l runs some e = go (left_by_runs form gloss) (left_by_count form gloss) refl refl e
  where
    go : (t s : Bool) → left_by_runs form gloss ≡ t → left_by_count form gloss ≡ s →
        let n = cond t (sum runs) (cond s l 0) in
        ((t && (any (eqb 0) runs || ltb 64 n)) || (s && outside 1 64 n)) ≡ false → FewLeft form gloss n runs
    go true s p q e =
        let o = or_none (any (eqb 0) runs) (ltb 64 (sum runs)) (or_none (any (eqb 0) runs || ltb 64 (sum runs)) (s && outside 1 64 (sum runs)) e).0 in
        let a = none-zero runs o.0 in
        record { reads = λ h t. some-sum runs some a; none = λ h. absurd (true≢false (sym p ∙ (read_none form gloss h).0)); few = ltb-false 64 (sum runs) o.1; whole = λ h. refl; each = λ h. a }
    go false true p q e =
        let o = within 1 64 l e in
        record { reads = λ h t. o.0; none = λ h. absurd (true≢false (sym q ∙ (read_none form gloss h).1)); few = o.1; whole = λ h. absurd (false≢true (sym p ∙ h)); each = λ h. absurd (false≢true (sym p ∙ h)) }
    go false false p q e =
        record {
          reads = λ h t. absurd (false≢true (sym (rw (p, q)) ∙ read_some form gloss h t));
          none = λ h. refl;
          few = zero-le;
          whole = λ h. absurd (false≢true (sym p ∙ h));
          each = λ h. absurd (false≢true (sym p ∙ h));
        }

-- rows 5, 16 and 6 to 10 of an element, none of which holds
pub record Rows (job : Job) (k : ℕ) (x : Piece) : Type 0 where
  pub five : counts_wrong job k x ≡ false
  pub sixteen : left_kind_wrong x ≡ false
  pub six : run_out job x ≡ false
  pub seven : blank_inside x.form (given job x) ≡ false
  pub eight : jukugo_base x.form (given job x) ≡ false
  pub nine : mixed_both x.form (given job x) (gloss_of job x) ≡ false
  pub ten : western_both x.form (given job x) (gloss_of job x) ≡ false

pub rows : (job : Job) (k : ℕ) (x : Piece) → element_faults job k x ≡ [] → Rows job k x
rows job k x e = let none = held_none (element_table job k x) e in search

-- what 5 leaves of the counts of an element
module _ (job : Job) (k : ℕ) (at : Taken) (five : counts_wrong job k (element job k at) ≡ false) where
  abbrev x : Piece
  x = element job k at

  sides : ((not (known (get_or job.kind k 0)) || counts_out x.form x.bases x.rubies (given job x).run) ≡ false)
      × ((not (known_left (get_or job.left_kind k 0)) || left_out x.form x.gloss x.lefts (gloss_of job x).run) ≡ false)
  sides = or_none _ _ five

  pub counts-few : Few x.form x.bases x.rubies (given job x).run
  unfolding element
  counts-few =
      few-of x.form (get_or job.element_base k 0) (get_or job.element_ruby k 0) (given job x).run (length-entries job.run x.run x.bases)
      (or_none (not (known (get_or job.kind k 0))) (counts_out x.form x.bases x.rubies (given job x).run) sides.0).1

  pub gloss-few : FewLeft x.form x.gloss x.lefts (gloss_of job x).run
  unfolding element
  gloss-few =
      few_left-of x.form x.gloss (get_or job.element_left k 0) (gloss_of job x).run (omega (arith, length-entries job.left_run x.leftrun x.bases, counts-few.some))
      (or_none (not (known_left (get_or job.left_kind k 0))) (left_out x.form x.gloss x.lefts (gloss_of job x).run) sides.1).1

-- what 6 leaves
pub supplied : (job : Job) (x : Piece) → run_out job x ≡ false → (x.base + x.bases ≤ base_count job) × (x.ruby + x.rubies ≤ ruby_count job) × (x.left + x.lefts ≤ left_count job)
supplied job x e =
    let p = or_none (ltb (base_count job) (x.base + x.bases)) (ltb (ruby_count job) (x.ruby + x.rubies) || ltb (left_count job) (x.left + x.lefts)) e in
    let q = or_none (ltb (ruby_count job) (x.ruby + x.rubies)) (ltb (left_count job) (x.left + x.lefts)) p.1 in
    (ltb-false _ _ p.0, ltb-false _ _ q.0, ltb-false _ _ q.1)

is_whole : (job : Job) (k : ℕ) (at : Taken) → (element job k at).more ≡ false
unfolding element
is_whole job k at = refl

pub good-element : (job : Job) (k : ℕ) (at : Taken) → Rows job k (element job k at) → GoodElement job (element job k at)
good-element job k at e =
    let x = element job k at in
    let s = supplied job x e.six in
    record {
      counts = counts-few job k at e.five;
      gloss = gloss-few job k at e.five;
      takes = not-false (both.takes x.form x.gloss) e.sixteen;
      inside = s.0;
      reads = s.1;
      left_reads = s.2;
      seven = e.seven;
      eight = e.eight;
      nine = e.nine;
      ten = e.ten;
      set = λ place. answered.set x.form place (given job x) (gloss_of job x) e.seven e.eight e.nine e.ten;
    }

good-from : (job : Job) (n k : ℕ) (at : Taken) → elements_faults job k (elements_from job n k at) ≡ [] → All (GoodElement job) (elements_from job n k at)
unfolding elements_faults elements_from
good-from job zero k at e = tt
good-from job (suc n) k at e =
    let x = element job k at in
    let p = append_none (element_faults job k x) (elements_faults job (suc k) (elements_from job n (suc k) (past at x))) e in
    (good-element job k at (rows job k x p.0), good-from job n (suc k) (past at x) p.1)

pub elements-good : (job : Job) → elements_faults job 0 (elements job) ≡ [] → All (GoodElement job) (elements job)
unfolding elements
elements-good job e = good-from job (element_count job) 0 nothing e

-- "Elements take base and ruby characters in order", and left ones: said once, of `here` among what is taken

-- none of them runs past the end
tiled-within : (first many : Piece → ℕ) (most : ℕ) (b d : ℕ) (xs : List Piece) → Tiled first many b xs d → b ≤ most → All (λ x. first x + many x ≤ most) xs → d ≤ most
tiled-within first many most b d [] t h a = omega arith
tiled-within first many most b d (x ∷ xs) t h a = tiled-within first many most (b + many x) d xs t.1 (omega (arith, a.0, t.0)) a.1

module _ (job : Job) (first many : Piece → ℕ) (here : Taken → ℕ) (starts : (k : ℕ) (at : Taken) → first (element job k at) ≡ here at) (goes : (at : Taken) (x : Piece) → here (past at x) ≡ here at + many x) where
  from-tiled : (n k : ℕ) (at : Taken) → Tiled first many (here at) (elements_from job n k at) (here at + sum (map many (elements_from job n k at)))
  unfolding elements_from
  from-tiled zero k at = omega arith
  from-tiled (suc n) k at =
      let x = element job k at in
      let rest = elements_from job n (suc k) (past at x) in
      (starts k at, step (here at) (many x) (sum (map many rest)) (here (past at x)) rest (goes at x) (from-tiled n (suc k) (past at x)))
    where
      step : (a m s c : ℕ) (rest : List Piece) → c ≡ a + m → Tiled first many c rest (c + s) → Tiled first many (a + m) rest (a + (m + s))
      step a m s c rest e t = subst (Tiled first many (a + m) rest) (omega arith) (subst (λ z. Tiled first many z rest (z + s)) e t)

  -- and nothing is left over
  all-tiled : (most : ℕ) → here nothing ≡ 0 → All (λ x. first x + many x ≤ most) (elements job) → ltb (sum (map many (elements job))) most ≡ false → Tiled first many 0 (elements job) most
  unfolding elements
  all-tiled most z a over =
      let es = elements job in
      let n = sum (map many es) in
      let t : Tiled first many 0 es (0 + n) = subst (λ c. Tiled first many c es (c + n)) z (from-tiled (element_count job) 0 nothing) in
      let under : 0 + n ≤ most = tiled-within first many most 0 (0 + n) es t zero-le a in
      let least : most ≤ n = ltb-false n most over in
      subst (Tiled first many 0 es) (omega arith) t

module _ (job : Job) (good : All (GoodElement job) (elements job)) (none : left_faults job ≡ []) where
  over : (ltb (sum (map (λ e. e.bases) (elements job))) (base_count job) ≡ false)
      × (ltb (sum (map (λ e. e.rubies) (elements job))) (ruby_count job) ≡ false)
      × (ltb (sum (map (λ e. e.lefts) (elements job))) (left_count job) ≡ false)
  unfolding left_faults
  over =
      let p = or_none _ _ (when_none (Supply (element_count job)) (left_over job (elements job)) none) in
      let q = or_none _ _ p.1 in
      (p.0, q.0, q.1)

  base-tiled : BaseTiled 0 (elements job) (base_count job)
  unfolding element
  base-tiled =
      all-tiled job (λ p. p.base) (λ p. p.bases) (λ a. a.base) (λ k a. refl) (λ a x. refl) (base_count job) refl
      (all_map (GoodElement job) (λ x. x.base + x.bases ≤ base_count job) (elements job) (λ x g. g.inside) good) over.0

  ruby-tiled : RubyTiled 0 (elements job) (ruby_count job)
  unfolding element
  ruby-tiled =
      all-tiled job (λ p. p.ruby) (λ p. p.rubies) (λ a. a.ruby) (λ k a. refl) (λ a x. refl) (ruby_count job) refl
      (all_map (GoodElement job) (λ x. x.ruby + x.rubies ≤ ruby_count job) (elements job) (λ x g. g.reads) good) over.1

  left-tiled : LeftTiled 0 (elements job) (left_count job)
  unfolding element
  left-tiled =
      all-tiled job (λ p. p.left) (λ p. p.lefts) (λ a. a.left) (λ k a. refl) (λ a x. refl) (left_count job) refl
      (all_map (GoodElement job) (λ x. x.left + x.lefts ≤ left_count job) (elements job) (λ x g. g.left_reads) good) over.2

-- The door's groups, one by one, and the job that passes them. base, ruby, gloss and lines are the lengths of the result lists.

pub record Groups (job : Job) (base ruby gloss lines : ℕ) : Type 0 where
  pub itself : job_faults job base ruby gloss lines ≡ []
  pub chars : char_faults job ≡ []
  pub parts : elements_faults job 0 (elements job) ≡ []
  pub left : left_faults job ≡ []

pub groups : (job : Job) (base ruby gloss lines : ℕ) → own_faults job base ruby gloss lines ≡ [] → Groups job base ruby gloss lines
unfolding own_faults
groups job base ruby gloss lines e =
    let three = elements_faults job 0 (elements job) ++ left_faults job in
    let p = append_none (job_faults job base ruby gloss lines) (char_faults job ++ three) e in
    let q = append_none (char_faults job) three p.1 in
    let r = append_none (elements_faults job 0 (elements job)) (left_faults job) q.1 in
    record { itself = p.0; chars = q.0; parts = r.0; left = r.1 }

-- rows 1, 2 and 12
pub record Limits (job : Job) (base ruby gloss lines : ℕ) : Type 0 where
  pub em : em_wrong job ≡ false
  pub measure : measure_wrong job ≡ false
  pub house : Housed job.ratios
  pub bases : base_count job ≤ 1024
  pub rubies : ruby_count job ≤ 2048
  pub elements : element_count job ≤ 1024
  pub lefts : left_count job ≤ 2048
  pub long : list_short job base ruby gloss lines ≡ false

-- a ratio that number 15 lets pass
sound : (r : Ratio) → ratio_wrong r ≡ false → Sound r
sound r e =
    let p = or_none (ltb 7 r.a) _ e in
    let q = or_none (ltb 7 r.m) _ p.1 in
    let s = or_none (ltb 7 r.c) _ q.1 in
    record { front = ltb-false _ _ p.0; middle = ltb-false _ _ q.0; rear = ltb-false _ _ s.0; some = more r.a r.m r.c s.1 }
  where
    more : (a m c : ℕ) → (eqb a 0 && (eqb m 0 && eqb c 0)) ≡ false → 0 < a + m + c
    more zero zero zero e = absurd (true≢false e)
    more zero zero (suc c) e = omega arith
    more zero (suc m) c e = omega arith
    more (suc a) m c e = omega arith

pub limits : (job : Job) (base ruby gloss lines : ℕ) → job_faults job base ruby gloss lines ≡ [] → Limits job base ruby gloss lines
unfolding job_faults
limits job base ruby gloss lines e = let none = held_none (job_table job base ruby gloss lines) e in search (ltb-false, sound)

pub passed : (job : Job) (base ruby gloss lines : ℕ) → own_faults job base ruby gloss lines ≡ [] → Passed job
passed job base ruby gloss lines e =
    let g = groups job base ruby gloss lines e in
    let l = limits job base ruby gloss lines g.itself in
    let good = elements-good job g.parts in
    record {
      em = (within 2 4096 job.em (or_none (eqb (job.em % 2) 1) (outside 2 4096 job.em) l.em).1).1;
      measure = (within 1 4000000 job.measure l.measure).1;
      house = l.house;
      few_base = l.bases;
      few_ruby = l.rubies;
      few_left = l.lefts;
      few_elements = l.elements;
      base = base-good job g.chars;
      ruby = ruby-good job g.chars;
      left = left-good job g.chars;
      each = good;
      tiled = base-tiled job good g.left;
      rubies = ruby-tiled job good g.left;
      lefts = left-tiled job good g.left;
    }
