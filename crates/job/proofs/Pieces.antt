-- What of a word stands in a line, case by case, and a word among those before and after it. A line up to somewhere in a word is the line up to that word and what of the word
-- stands in it.
use Rattle.std.specs.Prelude.{◌≡◌, Bool, true, false, cond, not, ◌&&◌, List, [], ◌∷◌, ◌++◌, map, ◌⊎◌, eqb, get_or, refl, ℕ, zero, suc, ◌+◌, ◌-◌, ◌≤◌, ◌<◌, min, max}
use Rattle.std.proofs.Common.{sym, ap₂, ◌∙◌, true≢false, append-nil, append_assoc, inl, inr, arith, lt-ltb, le-ltb, ne_eqb, ap, subst}
use Rattle.std.proofs.lemmas.Bool.{false≢true, eqb-false}
use Rattle.std.proofs.Math.Decide.{dec_lt}
use Rattle.std.proofs.Math.Dec.{ltb}
use Rattle.std.proofs.Math.Seq.{append_snoc}
use Rattle.basics.specs.Lists.{count, each, All}
use Rattle.word.specs.declared.Form.{Form}
use Rattle.word.specs.declared.Form.TheVariants.{P, M, G, J}
use Rattle.word.specs.declared.Left.{Left as LeftKind}
use Rattle.word.specs.declared.Left.TheVariants as left
use Rattle.word.specs.Given.{has_ruby, is_j}
use Rattle.word.specs.Both.{apart, is_group, uncut}
use Rattle.word.specs.Kept.{LeftSized}
use Rattle.readings.specs.Standing.{runs_only}
use Rattle.door.specs.declared.Piece.{Piece}
use Rattle.door.specs.declared.Taken.{Taken}
use Rattle.door.specs.Job.{Job, base_count, element_count, form_of, takes_base, nothing, past, element, elements_from, elements, given, gloss_of}
use Rattle.door.specs.Passed.{GoodElement, Tiled, BaseTiled, Passed}
use Rattle.job.specs.Line.{part, words_in, words, cuts, word_of, in_line, pieces}
use Rattle.job.specs.Laws.{all_split, all-each, each_append, both}
use Rattle.job.specs.Words.{GoodPiece, is_j_lem, whole-piece, part-piece}
use Rattle.job.specs.Apart.{GoodWord, one_by_one}
use Rattle.job.proofs.Apart.{by_apart, good-words, words-tiled}
use Rattle.job.specs.Pieces.{Among, IsElement, Single, Of, IsWord}

module _ (job : Job) (s e : ℕ) (x : Piece) where
  -- n base characters from the i-th on
  pub in_by : (i n : ℕ) → max s x.base - x.base ≡ i → min e (x.base + x.bases) - (x.base + i) ≡ n →
      in_line job s e x ≡ cond (eqb n 0) [] (cond (cuts job x && ltb n x.bases) (part job x i n) x ∷ [])
  unfolding in_line
  in_by i n h k = rw (h, k)

  none-by : (i : ℕ) → max s x.base - x.base ≡ i → min e (x.base + x.bases) - (x.base + i) ≡ 0 → in_line job s e x ≡ []
  none-by i h k = in_by i 0 h k

  -- nothing of a word that begins at or after the line's end, or ends at or before its start
  pub in_ahead : e ≤ x.base → in_line job s e x ≡ []
  in_ahead h = none-by (max s x.base - x.base) refl (go x.base (x.base + x.bases) (max s x.base - x.base) h)
    where
      go : (b d i : ℕ) → e ≤ b → min e d - (b + i) ≡ 0
      go b d i h = omega arith

  pub in_behind : x.base + x.bases ≤ s → in_line job s e x ≡ []
  in_behind h = none-by (s - x.base) (first s x.base x.bases h) (go x.base x.bases h)
    where
      first : (s b n : ℕ) → b + n ≤ s → max s b - b ≡ s - b
      first s b n h = omega arith

      go : (b n : ℕ) → b + n ≤ s → min e (b + n) - (b + (s - b)) ≡ 0
      go b n h = omega arith

  -- the whole word that lies between them
  pub in_whole : 0 < x.bases → s ≤ x.base → x.base + x.bases ≤ e → in_line job s e x ≡ x ∷ []
  in_whole some h k =
      in_by 0 x.bases (first s x.base h) (go x.base x.bases k)
      ∙ rw (ne_eqb x.bases 0 (λ z. omega arith), le-ltb x.bases x.bases (omega arith)) (ap {B = List Piece} (λ y. y ∷ []) (same (cuts job x)))
    where
      first : (s b : ℕ) → s ≤ b → max s b - b ≡ 0
      first s b h = omega arith

      go : (b n : ℕ) → b + n ≤ e → min e (b + n) - (b + 0) ≡ n
      go b n h = omega arith

      same : (t : Bool) → cond (t && false) (part job x 0 x.bases) x ≡ x
      same true = refl
      same false = refl

  -- a part of a J that is cut
  pub in_cut : cuts job x ≡ true → (i n : ℕ) → max s x.base ≡ x.base + i → min e (x.base + x.bases) ≡ x.base + i + n → 0 < n → n < x.bases →
      in_line job s e x ≡ part job x i n ∷ []
  in_cut j i n h k some less =
      in_by i n (omega arith) (go x.base h k)
      ∙ rw (ne_eqb n 0 (λ z. omega arith), j, lt-ltb n x.bases less)
    where
      go : (b : ℕ) → max s b ≡ b + i → min e (x.base + x.bases) ≡ b + i + n → min e (x.base + x.bases) - (b + i) ≡ n
      go b h k = omega arith

-- a later end changes nothing of a word that has ended
pub in_past : (job : Job) (s d e : ℕ) (x : Piece) → x.base + x.bases ≤ d → x.base + x.bases ≤ e → in_line job s d x ≡ in_line job s e x
unfolding in_line
in_past job s d e x h k = rw (least d (x.base + x.bases) h, least e (x.base + x.bases) k)
  where
    least : (a b : ℕ) → b ≤ a → min a b ≡ b
    least a b h = omega arith

-- All of them.

pub all-ahead : (job : Job) (s e : ℕ) (xs : List Piece) → All (λ x. e ≤ x.base) xs → each (in_line job s e) xs ≡ []
all-ahead job s e [] a = refl
all-ahead job s e (x ∷ xs) a = rw (in_ahead job s e x a.0) (all-ahead job s e xs a.1)

pub all-behind : (job : Job) (s e : ℕ) (xs : List Piece) → All (λ x. x.base + x.bases ≤ s) xs → each (in_line job s e) xs ≡ []
all-behind job s e [] a = refl
all-behind job s e (x ∷ xs) a = rw (in_behind job s e x a.0) (all-behind job s e xs a.1)

pub all_past : (job : Job) (s d e : ℕ) (xs : List Piece) → All (λ x. x.base + x.bases ≤ d) xs → d ≤ e → each (in_line job s d) xs ≡ each (in_line job s e) xs
all_past job s d e [] a h = refl
all_past job s d e (x ∷ xs) a h = ap₂ (λ ys zs. ys ++ zs) (in_past job s d e x a.0 (omega (arith, a.0))) (all_past job s d e xs a.1 h)

-- Elements that stand one after the other.

module _ (first many : Piece → ℕ) where
  pub tiled_le : (b d : ℕ) (xs : List Piece) → Tiled first many b xs d → b ≤ d
  tiled_le b d [] t = omega arith
  tiled_le b d (x ∷ xs) t = omega (arith, tiled_le (b + many x) d xs t.1)

  pub tiled-ends : (b d : ℕ) (xs : List Piece) → Tiled first many b xs d → All (λ x. first x + many x ≤ d) xs
  tiled-ends b d [] t = tt
  tiled-ends b d (x ∷ xs) t = (omega (arith, t.0, tiled_le (b + many x) d xs t.1), tiled-ends (b + many x) d xs t.1)

  pub tiled-starts : (a b d : ℕ) (xs : List Piece) → Tiled first many b xs d → a ≤ b → All (λ x. a ≤ first x) xs
  tiled-starts a b d [] t h = tt
  tiled-starts a b d (x ∷ xs) t h = (omega (arith, t.0), tiled-starts a (b + many x) d xs t.1 (omega arith))

  pub tiled-split : (b d : ℕ) (xs ys : List Piece) → Tiled first many b (xs ++ ys) d → (m : ℕ) × Tiled first many b xs m × Tiled first many m ys d
  tiled-split b d [] ys t = (b, refl, t)
  tiled-split b d (x ∷ xs) ys t = let q = tiled-split (b + many x) d xs ys t.1 in (q.0, (t.0, q.1), q.2)

among : (xs : List Piece) (d : ℕ) → BaseTiled 0 xs d → All (λ y. 0 < y.bases) xs → (front rest : List Piece) (x : Piece) → xs ≡ front ++ (x ∷ rest) → Among xs x
among xs d tiled some front rest x e =
    let a = all_split (λ y. 0 < y.bases) front (x ∷ rest) (rw e at some) in
    let t = tiled-split (λ p. p.base) (λ p. p.bases) 0 d front (x ∷ rest) (subst (λ es. BaseTiled 0 es d) e tiled) in
    record {
      front = front;
      rest = rest;
      split = e;
      behind = subst (λ m. All (λ y. y.base + y.bases ≤ m) front) (sym t.2.0) (tiled-ends (λ p. p.base) (λ p. p.bases) 0 t.0 front t.1);
      ahead = tiled-starts (λ p. p.base) (λ p. p.bases) (x.base + x.bases) (t.0 + x.bases) d rest t.2.1 (omega (arith, t.2.0));
      some = a.1.1;
    }

-- all of them are, where each has what is asked besides
all_among : (Q : Piece → Type 0) (xs : List Piece) (d : ℕ) → BaseTiled 0 xs d → All (λ y. 0 < y.bases) xs → All Q xs → All (λ x. Q x × Among xs x) xs
all_among Q xs d tiled some each = go [] xs refl each
  where
    go : (front rest : List Piece) → xs ≡ front ++ rest → All Q rest → All (λ x. Q x × Among xs x) rest
    go front [] e a = tt
    go front (x ∷ rest) e a = ((a.0, among xs d tiled some front rest x e), go (front ++ (x ∷ [])) rest (e ∙ sym (append_snoc front x rest)) a.1)

elements-some : (job : Job) (xs : List Piece) → All (GoodElement job) xs → All (λ x. 0 < x.bases) xs
elements-some job [] a = tt
elements-some job (x ∷ xs) a = (a.0.counts.some, elements-some job xs a.1)

words-some : (job : Job) (xs : List Piece) → All (GoodWord job) xs → All (λ x. 0 < x.bases) xs
words-some job [] a = tt
words-some job (x ∷ xs) a = (a.0.good.counts.some, words-some job xs a.1)

takes_one : (form : Form) (n : ℕ) → has_ruby form ≡ false → takes_base form n ≡ 1
takes_one P n e = refl
takes_one M n e = absurd (true≢false e)
takes_one G n e = absurd (true≢false e)
takes_one J n e = absurd (true≢false e)

abbrev Alone : Piece → Type 0
Alone x = (x.more ≡ false) × (has_ruby x.form ≡ false → x.bases ≡ 1)

alone-from : (job : Job) (n k : ℕ) (at : Taken) → All Alone (elements_from job n k at)
unfolding elements_from element
alone-from job zero k at = tt
alone-from job (suc n) k at = ((refl, takes_one (form_of (get_or job.kind k 0)) (get_or job.element_base k 0)), alone-from job n (suc k) (past at (element job k at)))

pub all-elements : (job : Job) → Passed job → All (IsElement job) (elements job)
unfolding elements
all-elements job p =
    turn (elements job) (alone-from job (element_count job) 0 nothing) (all_among (GoodElement job) (elements job) (base_count job) p.tiled (elements-some job (elements job) p.each) p.each)
  where
    turn : (xs : List Piece) → All Alone xs → All (λ x. GoodElement job x × Among (elements job) x) xs → All (IsElement job) xs
    turn [] m a = tt
    turn (x ∷ xs) m a = (record { good = a.0.0; last = m.0.0; one = m.0.1; place = a.0.1 }, turn xs m.1 a.1)

words_of : (job : Job) → Passed job → All (Of job) (words job)
unfolding words
words_of job p = all-each (IsElement job) (Of job) (words_in job) (elements job) one (all-elements job p)
  where
    singles : (y : Piece) → IsElement job y → apart y.form y.gloss ≡ true → (a n : ℕ) → a + n ≤ y.bases → All (Of job) (map (λ i. part job y i 1) (count a n))
    singles y g e a zero h = tt
    singles y g e a (suc n) h =
        (record { element = y; good = g; word = inr (record { separate = e; at = a; there = omega arith; is = refl }) }, singles y g e (suc a) n (omega arith))

    one : (y : Piece) → IsElement job y → All (Of job) (words_in job y)
    one y g = by_apart job (All (Of job)) y (λ e. singles y g e 0 y.bases (omega arith)) (λ e. (record { element = y; good = g; word = inl refl }, tt))

pub is_word : (job : Job) → Passed job → (front rest : List Piece) (x : Piece) → words job ≡ front ++ (x ∷ rest) → IsWord job x
unfolding among
is_word job p front rest x e =
    let w = (all_split (GoodWord job) front (x ∷ rest) (subst (All (GoodWord job)) e (good-words job p))).1.0 in
    let m = among (words job) (base_count job) (words-tiled job p) (words-some job (words job) (good-words job p)) front rest x e in
    record {
      front = front;
      rest = rest;
      split = e;
      good = w.good;
      whole = w.whole;
      of = (all_split (Of job) front (x ∷ rest) (subst (All (Of job)) e (words_of job p))).1.0;
      behind = m.behind;
      ahead = m.ahead;
      some = m.some;
    }

-- every word of the job is one
pub all_words : (job : Job) → Passed job → All (IsWord job) (words job)
all_words job p = go [] (words job) refl
  where
    go : (front rest : List Piece) → words job ≡ front ++ rest → All (IsWord job) rest
    go front [] e = tt
    go front (x ∷ rest) e = (is_word job p front rest x e, go (front ++ (x ∷ [])) rest (e ∙ sym (append_snoc front x rest)))

counted : (job : Job) (x : Piece) (a n : ℕ) → All (IsWord job) (map (λ i. part job x i 1) (count a n)) → (k : ℕ) → a ≤ k → k < a + n → IsWord job (part job x k 1)
counted job x a zero all k l u = absurd (omega arith)
counted job x a (suc n) all k l u = go (dec_lt a k) (λ m. counted job x (suc a) n all.1 k m (omega arith))
  where
    go : Dec (a < k) → (suc a ≤ k → IsWord job (part job x k 1)) → IsWord job (part job x k 1)
    go (yes m) f = f (omega arith)
    go (no m) f = subst (λ (i : ℕ). IsWord job (part job x i 1)) (same a k l (omega arith)) all.0
      where
        same : (a k : ℕ) → a ≤ k → k ≤ a → a ≡ k
        same a k l m = omega arith

-- an element that is not taken apart is one, and of one that is each character
module _ (job : Job) (p : Passed job) (x : Piece) (at : IsElement job x) where
  element-words : All (IsWord job) (words_in job x)
  unfolding words
  element-words =
      let front = at.place.front in
      let rest = at.place.rest in
      let all = subst (All (IsWord job)) (ap (each (words_in job)) at.place.split ∙ each_append (words_in job) front (x ∷ rest)) (all_words job p) in
      (all_split (IsWord job) (words_in job x) (each (words_in job) rest) (all_split (IsWord job) (each (words_in job) front) (words_in job x ++ each (words_in job) rest) all).1).0

  pub whole_word : apart x.form x.gloss ≡ false → IsWord job x
  unfolding words_in
  whole_word e = (subst (λ (b : Bool). All (IsWord job) (cond b (one_by_one job x) (x ∷ []))) e element-words).0

  pub single-word : apart x.form x.gloss ≡ true → (k : ℕ) → k < x.bases → IsWord job (part job x k 1)
  unfolding words_in
  single-word e k h = counted job x 0 x.bases (subst (λ (b : Bool). All (IsWord job) (cond b (one_by_one job x) (x ∷ []))) e element-words) k (omega arith) (omega arith)

-- The line up to somewhere in a word.

module _ (job : Job) (x : Piece) (at : IsWord job x) where
  split-pieces : (s e : ℕ) → pieces job s e ≡ each (in_line job s e) at.front ++ (in_line job s e x ++ each (in_line job s e) at.rest)
  unfolding pieces
  split-pieces s e = ap (each (in_line job s e)) at.split ∙ each_append (in_line job s e) at.front (x ∷ at.rest)

  -- those after the word add nothing
  up_to : (s e : ℕ) → e ≤ x.base + x.bases → pieces job s e ≡ each (in_line job s e) at.front ++ in_line job s e x
  up_to s e h =
      split-pieces s e
      ∙ rw (all-ahead job s e at.rest (later at.rest at.ahead), append-nil (in_line job s e x))
    where
      later : (xs : List Piece) → All (λ y. x.base + x.bases ≤ y.base) xs → All (λ y. e ≤ y.base) xs
      later [] a = tt
      later (y ∷ ys) a = (omega (arith, a.0), later ys a.1)

  -- up to its first base character the line has just those before it
  pub before : (s : ℕ) → pieces job s x.base ≡ each (in_line job s x.base) at.front
  before s = up_to s x.base (omega arith) ∙ rw (in_ahead job s x.base x (omega arith)) (append-nil (each (in_line job s x.base) at.front))

  -- and past it what of it stands in the line
  pub into : (s e : ℕ) → x.base ≤ e → e ≤ x.base + x.bases → pieces job s e ≡ pieces job s x.base ++ in_line job s e x
  into s e l h =
      up_to s e h ∙ ap (λ ps. ps ++ in_line job s e x) (sym (all_past job s x.base e at.front at.behind l) ∙ sym (before s))

  -- a line that begins in it has none of those before it
  pub none_before : (s : ℕ) → x.base ≤ s → pieces job s x.base ≡ []
  none_before s h = before s ∙ all-behind job s x.base at.front (past at.front at.behind)
    where
      past : (xs : List Piece) → All (λ y. y.base + y.bases ≤ x.base) xs → All (λ y. y.base + y.bases ≤ s) xs
      past [] a = tt
      past (y ∷ ys) a = (omega (arith, a.0), past ys a.1)

  -- a longer line begins as the line up to the word's end
  pub beyond : (s e : ℕ) → x.base + x.bases ≤ e → pieces job s e ≡ pieces job s (x.base + x.bases) ++ each (in_line job s e) at.rest
  beyond s e h =
      split-pieces s e
      ∙ ap₂ (λ ps qs. ps ++ (qs ++ each (in_line job s e) at.rest))
      (sym (all_past job s (x.base + x.bases) e at.front (ended at.front at.behind) h)) (in_past job s e (x.base + x.bases) x h (omega arith))
      ∙ sym (append_assoc (each (in_line job s (x.base + x.bases)) at.front) (in_line job s (x.base + x.bases) x) (each (in_line job s e) at.rest))
      ∙ ap (λ ps. ps ++ each (in_line job s e) at.rest) (sym (up_to s (x.base + x.bases) (omega arith)))
    where
      ended : (xs : List Piece) → All (λ y. y.base + y.bases ≤ x.base) xs → All (λ y. y.base + y.bases ≤ x.base + x.bases) xs
      ended [] a = tt
      ended (y ∷ ys) a = (omega (arith, a.0), ended ys a.1)

-- Every piece of every line is good.

-- a J that is cut is not taken as group
pub cut-is : (job : Job) (x : Piece) → cuts job x ≡ true → (is_j x.form ≡ true) × (is_group x.gloss ≡ false)
unfolding cuts
cut-is job x e = let q = both (is_j x.form) _ e in (q.0, group x.gloss _ q.1)
  where
    group : (k : LeftKind) (longer : Bool) → not (uncut k longer) ≡ true → is_group k ≡ false
    group left.N longer e = refl
    group left.M longer e = refl
    group left.G longer e = absurd (false≢true e)
    group left.J longer e = refl

pub single-whole : (job : Job) (y : Piece) (i : ℕ) → cuts job (part job y i 1) ≡ false
unfolding cuts part
single-whole job y i = refl

-- a word that is cut is an element, and its element does not go on behind it
pub cut-last : (job : Job) (x : Piece) → IsWord job x → cuts job x ≡ true → x.more ≡ false
cut-last job x at c = go at.of.word
  where
    go : (x ≡ at.of.element) ⊎ Single job at.of.element x → x.more ≡ false
    go (inl e) = ap (λ (p : Piece). p.more) e ∙ at.of.good.last
    go (inr s) = absurd (true≢false (sym c ∙ ap (cuts job) s.is ∙ single-whole job at.of.element s.at))

-- a word whose reading stands run by run, on either side, is a J that is cut
pub runs-cut : (job : Job) (x : Piece) → LeftSized x.form (gloss_of job x) → ((word_of job x).right.runs ≡ true → cuts job x ≡ true) × ((word_of job x).left.runs ≡ true → cuts job x ≡ true)
unfolding cuts
runs-cut job x z =
    let q = runs_only x.form (given job x) (gloss_of job x) z in (q.0, λ e. (q.1 e).0)

-- a P has one base character
pub plain-one : (job : Job) (x : Piece) → IsWord job x → has_ruby x.form ≡ false → x.bases ≡ 1
unfolding part
plain-one job x at h = go at.of.word
  where
    go : (x ≡ at.of.element) ⊎ Single job at.of.element x → x.bases ≡ 1
    go (inl e) = ap (λ (p : Piece). p.bases) e ∙ at.of.good.one (sym (ap (λ (p : Piece). has_ruby p.form) e) ∙ h)
    go (inr s) = ap (λ (p : Piece). p.bases) s.is

module _ (job : Job) (passed : Passed job) where
  -- a part of a word that is cut
  pub cut-piece : (x : Piece) → GoodWord job x → cuts job x ≡ true → (i n : ℕ) → 0 < n → i + n ≤ x.bases → GoodPiece job (part job x i n)
  cut-piece x g e i n some fits =
      let q = cut-is job x e in
      part-piece job passed x g.good q.0 q.1 i n some fits (λ a. absurd (true≢false (sym (subst (λ f. apart f x.gloss ≡ true) (sym (is_j_lem x.form q.0)) a) ∙ g.whole)))

  -- what of a word stands in a line
  in_piece : (s e : ℕ) (x : Piece) → GoodWord job x → All (GoodPiece job) (in_line job s e x)
  unfolding in_line
  in_piece s e x g = go (eqb n 0) (cuts job x && ltb n x.bases) refl refl
    where
      i : ℕ
      i = max s x.base - x.base

      n : ℕ
      n = min e (x.base + x.bases) - (x.base + i)

      fits : (s e a b : ℕ) → (min e (a + b) - (a + (max s a - a)) ≡ 0 → ⊥) → (max s a - a) + (min e (a + b) - (a + (max s a - a))) ≤ b
      fits s e a b h = omega arith

      positive : (n : ℕ) → (n ≡ 0 → ⊥) → 0 < n
      positive n h = omega arith

      go : (z w : Bool) → eqb n 0 ≡ z → (cuts job x && ltb n x.bases) ≡ w → All (GoodPiece job) (cond z [] (cond w (part job x i n) x ∷ []))
      go true w a b = tt
      go false false a b = (whole-piece job passed x g.good g.whole, tt)
      go false true a b =
          let h = eqb-false n 0 a in
          (cut-piece x g (both (cuts job x) (ltb n x.bases) b).0 i n (positive n h) (fits s e x.base x.bases h), tt)

  -- every piece of every line
  pub good-pieces : (s e : ℕ) → All (GoodPiece job) (pieces job s e)
  unfolding pieces
  good-pieces s e = all-each (GoodWord job) (GoodPiece job) (in_line job s e) (words job) (in_piece s e) (good-words job passed)
