-- The pieces of a line in order: each lies within its word, so a piece's characters come before those of every later piece, in the base and on either side.
-- The pieces of a line that ends at permitted breaks have just the line's base characters, and no base character stands in two lines.
use Rattle.std.specs.Prelude.{◌≡◌, Bool, ◌&&◌, eqb, length, get_or, refl, true, false, cond, List, [], ◌∷◌, ◌++◌, map, ℕ, zero, suc, ◌+◌, ◌-◌, ◌≤◌, ◌<◌, min, max}
use Rattle.std.proofs.Common.{sym, ap, ◌∙◌, subst, inl, inr, ltb-false, arith}
use Rattle.std.proofs.lemmas.Bool.{eqb-false}
use Rattle.std.proofs.Math.Dec.{ltb}
use Rattle.basics.specs.Lists.{sum, count, each, All}
use Rattle.word.specs.declared.Form.{Form}
use Rattle.word.specs.declared.Form.TheVariants.{P, M, J}
use Rattle.line.specs.declared.Side.{Side}
use Rattle.line.specs.declared.Side.TheVariants.{Right, Left}
use Rattle.door.specs.declared.Piece.{Piece}
use Rattle.door.specs.declared.Taken.{Taken}
use Rattle.door.specs.Job.{Job, base_count, element_count, entries, left_by_runs, takes_base, nothing, past, element, elements_from, elements}
use Rattle.door.specs.Passed.{Tiled, Passed}
use Rattle.job.specs.Line.{part, words_in, words, cuts, in_line, pieces, first_of, many_of, count_of}
use Rattle.job.specs.Laws.{all_append, all-each, both}
use Rattle.job.proofs.Pieces.{all_words, cut-is}
use Rattle.job.specs.Apart.{GoodWord}
use Rattle.job.proofs.Apart.{by_apart, good-words, words-tiled, readings-tiled}
use Rattle.job.specs.Words.{ruby-fits, left-fits}
use Rattle.job.specs.Tiles.{Fair}
use Rattle.job.proofs.Tiles.{all_fair, first-fair}
use Rattle.job.specs.Promise.{Chain, IsLine, nobody}

pub all-at : (Q : Piece → Type 0) (ps : List Piece) → All Q ps → (k : ℕ) → k < length ps → Q (get_or ps k nobody)
all-at Q [] a k h = absurd (omega arith)
all-at Q (p ∷ ps) a zero h = a.0
all-at Q (p ∷ ps) a (suc k) h = all-at Q ps a.1 k (omega arith)

-- What of a word stands in a line: nothing, the whole, or of a J that is cut a part.
module _ (job : Job) (s e : ℕ) (x : Piece) where
  skipped : ℕ
  skipped = max s x.base - x.base

  taken : ℕ
  unfolding skipped
  taken = min e (x.base + x.bases) - (x.base + skipped)

  in_cases : (Q : List Piece → Type 0) → Q [] → (max s x.base < min e (x.base + x.bases) → (cuts job x && ltb taken x.bases) ≡ false → Q (x ∷ [])) →
      (cuts job x ≡ true → 0 < taken → skipped + taken ≤ x.bases → Q (part job x skipped taken ∷ [])) → Q (in_line job s e x)
  unfolding in_line taken skipped
  in_cases Q none whole some = go (eqb taken 0) (cuts job x && ltb taken x.bases) refl refl
    where
      fits : (s e a b : ℕ) → (min e (a + b) - (a + (max s a - a)) ≡ 0 → ⊥) → (max s a - a) + (min e (a + b) - (a + (max s a - a))) ≤ b
      fits s e a b h = omega arith

      meets : (s e a b : ℕ) → (min e (a + b) - (a + (max s a - a)) ≡ 0 → ⊥) → max s a < min e (a + b)
      meets s e a b h = omega arith

      positive : (n : ℕ) → (n ≡ 0 → ⊥) → 0 < n
      positive n h = omega arith

      go : (z w : Bool) → eqb taken 0 ≡ z → (cuts job x && ltb taken x.bases) ≡ w → Q (cond z [] (cond w (part job x skipped taken) x ∷ []))
      go true w a b = none
      go false false a b = whole (meets s e x.base x.bases (eqb-false taken 0 a)) b
      go false true a b =
          let h = eqb-false taken 0 a in
          some (both (cuts job x) (ltb taken x.bases) b).0 (positive taken h) (fits s e x.base x.bases h)

-- Pieces in order.
module _ (first many : Piece → ℕ) where
  abbrev Sorted : ℕ → List Piece → Type 0
  Sorted b [] = Unit {0}
  Sorted b (p ∷ ps) = (b ≤ first p) × Sorted (first p + many p) ps

  sorted-later : (a b : ℕ) (ps : List Piece) → a ≤ b → Sorted b ps → Sorted a ps
  sorted-later a b [] h q = tt
  sorted-later a b (p ∷ ps) h q = (omega (arith, q.0), q.1)

  sorted-from : (b : ℕ) (ps : List Piece) → Sorted b ps → (l : ℕ) → l < length ps → b ≤ first (get_or ps l nobody)
  sorted-from b [] q l h = absurd (omega arith)
  sorted-from b (p ∷ ps) q zero h = q.0
  sorted-from b (p ∷ ps) q (suc l) h = omega (arith, q.0, sorted-from (first p + many p) ps q.1 l (omega arith))

  sorted-at : (b : ℕ) (ps : List Piece) → Sorted b ps → (k l : ℕ) → k < l → l < length ps → first (get_or ps k nobody) + many (get_or ps k nobody) ≤ first (get_or ps l nobody)
  sorted-at b [] q k l h i = absurd (omega arith)
  sorted-at b (p ∷ ps) q k zero h i = absurd (omega arith)
  sorted-at b (p ∷ ps) q zero (suc l) h i = sorted-from (first p + many p) ps q.1 l (omega arith)
  sorted-at b (p ∷ ps) q (suc k) (suc l) h i = sorted-at (first p + many p) ps q.1 k l (omega arith) (omega arith)

  module _ (job : Job) (s e : ℕ) where
    -- a part lies within its word
    abbrev Within : Piece → Type 0
    Within x = cuts job x ≡ true → (i n : ℕ) → 0 < n → i + n ≤ x.bases →
        (first x ≤ first (part job x i n)) × (first (part job x i n) + many (part job x i n) ≤ first x + many x)

    in_sorted : (x : Piece) (rest : List Piece) → Within x → Sorted (first x + many x) rest → Sorted (first x) (in_line job s e x ++ rest)
    in_sorted x rest w q =
        in_cases job s e x (λ ps. Sorted (first x) (ps ++ rest)) (sorted-later (first x) (first x + many x) rest (omega arith) q)
        (λ _ _. (omega arith, q))
        (λ j some fits.
        let v = w j (skipped job s e x) (taken job s e x) some fits in
        (v.0, sorted-later (first (part job x (skipped job s e x) (taken job s e x)) + many (part job x (skipped job s e x) (taken job s e x))) (first x + many x) rest v.1 q))

    each-sorted : (b d : ℕ) (xs : List Piece) → Tiled first many b xs d → All Within xs → Sorted b (each (in_line job s e) xs)
    each-sorted b d [] t a = tt
    each-sorted b d (x ∷ xs) t a =
        subst (λ (c : ℕ). Sorted c (in_line job s e x ++ each (in_line job s e) xs)) t.0
        (in_sorted x (each (in_line job s e) xs) a.0 (subst (λ (c : ℕ). Sorted (c + many x) (each (in_line job s e) xs)) (sym t.0) (each-sorted (b + many x) d xs t.1 a.1)))

module _ (job : Job) (passed : Passed job) where
  base-parts : (s e : ℕ) (xs : List Piece) → All (Within (λ p. p.base) (λ p. p.bases) job s e) xs
  unfolding part
  base-parts s e [] = tt
  base-parts s e (x ∷ xs) = (λ j i n some fits. (omega arith, omega arith), base-parts s e xs)

  reading-part : (side : Side) (x : Piece) → GoodWord job x → cuts job x ≡ true → (i n : ℕ) → 0 < n → i + n ≤ x.bases →
      (first_of side x ≤ first_of side (part job x i n)) × (first_of side (part job x i n) + many_of side (part job x i n) ≤ first_of side x + many_of side x)
  unfolding part
  reading-part Right x g c i n some fits = let q = cut-is job x c in (omega arith, omega (arith, ruby-fits job passed x g.good q.0 q.1 i n some fits))
  reading-part Left x g c i n some fits = go (left_by_runs x.form x.gloss) refl
    where
      go : (t : Bool) → left_by_runs x.form x.gloss ≡ t → let a = cond t (sum (entries job.left_run x.leftrun i)) 0 in let m = cond t (sum (entries job.left_run (x.leftrun + i) n)) 0 in
          (x.left ≤ x.left + a) × (x.left + a + m ≤ x.left + x.lefts)
      go true e = let q = cut-is job x c in (omega arith, omega (arith, left-fits job passed x g.good q.0 q.1 i n some fits e))
      go false e = (omega arith, omega arith)

  reading-parts : (side : Side) (s e : ℕ) (xs : List Piece) → All (GoodWord job) xs → All (Within (first_of side) (many_of side) job s e) xs
  reading-parts side s e [] a = tt
  reading-parts side s e (x ∷ xs) a = (λ c i n some fits. reading-part side x a.0 c i n some fits, reading-parts side s e xs a.1)

  -- the characters of a piece come before those of a later piece
  pub bases-sorted : (s e k l : ℕ) → k < l → l < length (pieces job s e) →
      (get_or (pieces job s e) k nobody).base + (get_or (pieces job s e) k nobody).bases ≤ (get_or (pieces job s e) l nobody).base
  unfolding pieces
  bases-sorted s e =
      sorted-at (λ p. p.base) (λ p. p.bases) 0 (pieces job s e)
      (each-sorted (λ p. p.base) (λ p. p.bases) job s e 0 (base_count job) (words job) (words-tiled job passed) (base-parts s e (words job)))

  pub readings-sorted : (side : Side) (s e k l : ℕ) → k < l → l < length (pieces job s e) →
      first_of side (get_or (pieces job s e) k nobody) + many_of side (get_or (pieces job s e) k nobody) ≤ first_of side (get_or (pieces job s e) l nobody)
  unfolding pieces
  readings-sorted side s e =
      sorted-at (first_of side) (many_of side) 0 (pieces job s e)
      (each-sorted (first_of side) (many_of side) job s e 0 (count_of side job) (words job) (readings-tiled job passed side) (reading-parts side s e (words job) (good-words job passed)))

-- A P has one base character.

abbrev Single : Piece → Type 0
Single p = p.form ≡ P → p.bases ≡ 1

single_from_lem : (job : Job) (n k : ℕ) (at : Taken) → All Single (elements_from job n k at)
unfolding elements_from element
single_from_lem job zero k at = tt
single_from_lem job (suc n) k at = (λ h. ap (λ (f : Form). takes_base f (get_or job.element_base k 0)) h, single_from_lem job n (suc k) (past at (element job k at)))

no_part : (t : Bool) → cond t M J ≡ P → ⊥
no_part true h = let z : ◌≡◌ {A = ℕ} 0 1 = cc in omega arith
no_part false h = let z : ◌≡◌ {A = ℕ} 0 1 = cc in omega arith

in_single : (job : Job) (s e : ℕ) (x : Piece) → Single x → All Single (in_line job s e x)
unfolding part
in_single job s e x h = in_cases job s e x (All Single) tt (λ _ _. (h, tt)) (λ j some fits. (λ q. absurd (no_part (eqb (taken job s e x) 1) q), tt))

-- a character of a J with a mono left reading is no P
word-single : (job : Job) (x : Piece) → Single x → All Single (words_in job x)
unfolding part
word-single job x h = by_apart job (All Single) x (λ _. go 0 x.bases) (λ _. (h, tt))
  where
    go : (a n : ℕ) → All Single (map (λ i. part job x i 1) (count a n))
    go a zero = tt
    go a (suc n) = (λ q. refl, go (suc a) n)

pub singles : (job : Job) (s e : ℕ) → All Single (pieces job s e)
unfolding pieces words elements
singles job s e =
    all-each Single Single (in_line job s e) (words job) (in_single job s e) (all-each Single Single (words_in job) (elements job) (word-single job) (single_from_lem job (element_count job) 0 nothing))

-- The pieces of a line have the line's base characters.

abbrev pub Between : ℕ → ℕ → Piece → Type 0
Between s e p = (s ≤ p.base) × (p.base + p.bases ≤ e)

in_between : (job : Job) (s e : ℕ) (x : Piece) → 0 < x.bases → Fair job s x → Fair job e x → All (Between s e) (in_line job s e x)
unfolding part taken skipped
in_between job s e x some p q =
    in_cases job s e x (All (Between s e)) tt (λ m w. (whole m w p q, tt))
    (λ j h f. ((low s x.base, high s e x.base x.bases h), tt))
  where
    low : (s b : ℕ) → s ≤ b + (max s b - b)
    low s b = omega arith

    high : (s e b m : ℕ) → 0 < min e (b + m) - (b + (max s b - b)) → b + (max s b - b) + (min e (b + m) - (b + (max s b - b))) ≤ e
    high s e b m h = omega arith

    long : (s e b m : ℕ) → max s b < min e (b + m) → m ≤ min e (b + m) - (b + (max s b - b)) → (s ≤ b) × (b + m ≤ e)
    long s e b m h k = omega arith

    from-j : max s x.base < min e (x.base + x.bases) → (cuts job x && ltb (taken job s e x) x.bases) ≡ false → cuts job x ≡ true → Between s e x
    from-j m w j = long s e x.base x.bases m (ltb-false (taken job s e x) x.bases (sym (rw j) ∙ w))

    whole : max s x.base < min e (x.base + x.bases) → (cuts job x && ltb (taken job s e x) x.bases) ≡ false → Fair job s x → Fair job e x → Between s e x
    whole m w (inr j) q = from-j m w j
    whole m w (inl p) (inr j) = from-j m w j
    whole m w (inl (inl a)) (inl (inl b)) = absurd (omega arith)
    whole m w (inl (inl a)) (inl (inr b)) = (a, b)
    whole m w (inl (inr a)) (inl (inl b)) = absurd (omega arith)
    whole m w (inl (inr a)) (inl (inr b)) = absurd (omega arith)

each-between : (job : Job) (s e : ℕ) (xs : List Piece) → All (GoodWord job) xs → All (Fair job s) xs → All (Fair job e) xs → All (Between s e) (each (in_line job s e) xs)
each-between job s e [] a p q = tt
each-between job s e (x ∷ xs) a p q =
    all_append (Between s e) (in_line job s e x) (each (in_line job s e) xs) (in_between job s e x a.0.good.counts.some p.0 q.0) (each-between job s e xs a.1 p.1 q.1)

-- Lines, one after the other.

pub line_after : (job : Job) (s d : ℕ) (es : List ℕ) → Chain job s es d → (a b : ℕ) → IsLine s es a b → (s ≤ a) × (a < b) × (b ≤ base_count job)
line_after job s d [] c a b l = absurd l
line_after job s d (e ∷ es) c a b (inl l) = (omega (arith, l.0), omega (arith, l.0, l.1, c.0.at.ahead), omega (arith, l.1, c.0.at.within))
line_after job s d (e ∷ es) c a b (inr l) = let q = line_after job e d es c.1 a b l in (omega (arith, c.0.at.ahead, q.0), q.1, q.2)

pub line-once : (job : Job) (s d : ℕ) (es : List ℕ) → Chain job s es d → (a b c f i : ℕ) → IsLine s es a b → IsLine s es c f → a ≤ i → i < b → c ≤ i → i < f → (a ≡ c) × (b ≡ f)
line-once job s d [] ch a b c f i l m p q u v = absurd l
line-once job s d (e ∷ es) ch a b c f i (inl l) (inl m) p q u v = (l.0 ∙ sym m.0, l.1 ∙ sym m.1)
line-once job s d (e ∷ es) ch a b c f i (inl l) (inr m) p q u v = absurd (omega (arith, l.1, (line_after job e d es ch.1 c f m).0))
line-once job s d (e ∷ es) ch a b c f i (inr l) (inl m) p q u v = absurd (omega (arith, m.1, (line_after job e d es ch.1 a b l).0))
line-once job s d (e ∷ es) ch a b c f i (inr l) (inr m) p q u v = line-once job e d es ch.1 a b c f i l m p q u v

module _ (job : Job) (passed : Passed job) where
  line-fair : (s d : ℕ) (es : List ℕ) → Chain job s es d → All (Fair job s) (words job) → (a b : ℕ) → IsLine s es a b → All (Fair job a) (words job) × All (Fair job b) (words job)
  line-fair s d [] c w a b l = absurd l
  line-fair s d (e ∷ es) c w a b (inl l) =
      (subst (λ (z : ℕ). All (Fair job z) (words job)) (sym l.0) w, subst (λ (z : ℕ). All (Fair job z) (words job)) (sym l.1) (all_fair job e c.0.at.permits (words job) (all_words job passed)))
  line-fair s d (e ∷ es) c w a b (inr l) = line-fair e d es c.1 (all_fair job e c.0.at.permits (words job) (all_words job passed)) a b l

  pub between : (d : ℕ) (es : List ℕ) → Chain job 0 es d → (s e : ℕ) → IsLine 0 es s e → All (Between s e) (pieces job s e)
  unfolding pieces
  between d es c s e l = let f = line-fair 0 d es c (first-fair job (words job)) s e l in each-between job s e (words job) (good-words job passed) f.0 f.1
