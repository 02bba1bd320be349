-- The pieces of the lines, one after the other, have each base character and each character of either side once and in order: a permitted break cuts no word but a J, and a J
-- between its runs. Shown for all kinds of character at once, by how many of a word's stand before a base character.
use Rattle.std.specs.Prelude.{◌≡◌, Bool, true, false, cond, leb, refl, List, [], ◌∷◌, ◌++◌, ℕ, ◌+◌, ◌-◌, ◌≤◌, ◌<◌, min, max}
use Rattle.std.proofs.Common.{◌∙◌, subst, true≢false, inl, inr, zero-add, leb-true, le-leb, sym, ap, ap₂, append-nil, zero-le, arith}
use Rattle.std.proofs.Math.Decide.{dec_le}
use Rattle.std.proofs.lemmas.Bool.{lt-leb}
use Rattle.basics.specs.Lists.{count, each, All}
use Rattle.basics.specs.Laws.{all_map}
use Rattle.line.specs.declared.Side.{Side}
use Rattle.line.specs.declared.Side.TheVariants.{Right, Left}
use Rattle.door.specs.declared.Piece.{Piece}
use Rattle.door.specs.Job.{Job, base_count, left_by_runs, elements}
use Rattle.door.specs.Passed.{GoodElement, Tiled, BaseTiled, Passed}
use Rattle.job.specs.Line.{part, words, cuts, in_line, pieces, permitted, by_line, first_of, many_of, count_of}
use Rattle.job.specs.Laws.{each_append, count_gone, count-join, entries-add}
use Rattle.job.specs.Pieces.{IsElement, IsWord}
use Rattle.job.proofs.Pieces.{in_ahead, in_behind, in_whole, in_cut, tiled_le, all-elements, all_words, cut-is}
use Rattle.job.specs.Words.{none_of-j}
use Rattle.job.specs.Apart.{GoodWord}
use Rattle.job.proofs.Apart.{good-words, words-tiled, readings-tiled}
use Rattle.job.proofs.Walk.{element-within, permitted-within}
use Rattle.job.specs.Promise.{Chain, Filled}
use Rattle.job.specs.Tiles.{Fair, Laid, Shares, bases_to, by_runs, run_sums, read_to}

-- where it is permitted by the word or the element that it stands within
fair-by : (job : Job) (c : ℕ) (x : Piece) → permitted job c ≡ true → (x.base < c → c < x.base + x.bases → permitted job c ≡ cuts job x) → Fair job c x
fair-by job c x h within =
    elim (dec_le c x.base) [
      | yes k ↦ inl (inl k)
      | no k ↦ elim (dec_le (x.base + x.bases) c) [
        | yes l ↦ inl (inr l)
        | no l ↦ inr (sym (within (other k) (other l)) ∙ h)
      ]
    ]
  where
    other : {a b : ℕ} → (a ≤ b → ⊥) → b < a
    other n = omega arith

pub all_fair : (job : Job) (c : ℕ) → permitted job c ≡ true → (xs : List Piece) → All (IsWord job) xs → All (Fair job c) xs
all_fair job c h xs = all_map (IsWord job) (Fair job c) xs (λ x at. fair-by job c x h (permitted-within job x at c))

pub first-fair : (job : Job) (xs : List Piece) → All (Fair job 0) xs
first-fair job [] = tt
first-fair job (x ∷ xs) = (inl (inl zero-le), first-fair job xs)

pub words-laid : (job : Job) → Passed job → Laid job (words job)
words-laid job passed =
    record {
      good = all_map (GoodWord job) (GoodElement job) (words job) (λ x g. g.good) (good-words job passed);
      bases = words-tiled job passed;
      readings = readings-tiled job passed;
      fair = λ c h. all_fair job c h (words job) (all_words job passed);
    }

pub elements_laid : (job : Job) → Passed job → Laid job (elements job)
elements_laid job passed =
    record {
      good = passed.each;
      bases = passed.tiled;
      readings = readings;
      fair = λ c h. all_map (IsElement job) (Fair job c) (elements job) (λ x at. fair-by job c x h (element-within job x at c)) (all-elements job passed);
    }
  where
    readings : (side : Side) → Tiled (first_of side) (many_of side) 0 (elements job) (count_of side job)
    readings Right = passed.rubies
    readings Left = passed.lefts

module _ (job : Job) (first many : Piece → ℕ) (sofar : Piece → ℕ → ℕ) where
  abbrev pub numbers_of : List Piece → List ℕ
  numbers_of ps = each (λ p. count (first p) (many p)) ps

  -- What of one word stands in the line.

  module _ (s e : ℕ) (le : s < e) (x : Piece) (some : 0 < x.bases) (share : Shares job first many sofar x) where
    abbrev Claim : List Piece → Type 0
    Claim ps = numbers_of ps ≡ count (first x + sofar x s) (sofar x e - sofar x s)

    nothing : sofar x e ≡ sofar x s → Claim []
    nothing h = count_gone (first x + sofar x s) (sofar x e - sofar x s) (omega arith)

    wholly : sofar x s ≡ 0 → sofar x e ≡ many x → Claim (x ∷ [])
    wholly h k =
        let at : first x ≡ first x + sofar x s = omega arith in
        let long : many x ≡ sofar x e - sofar x s = omega arith in
        append-nil (count (first x) (many x)) ∙ ap₂ count at long

    partly : cuts job x ≡ true → x.base < e → s < x.base + x.bases → (s ≤ x.base → x.base + x.bases ≤ e → ⊥) → Claim (in_line job s e x)
    partly j h k cut = rw (in_cut job s e x j i n (at_i s x.base) (at_n s e x.base x.bases le h k some) some-n (less s e x.base x.bases cut some)) go
      where
        i : ℕ
        i = max s x.base - x.base

        n : ℕ
        n = min e (x.base + x.bases) - max s x.base

        at_i : (s b : ℕ) → max s b ≡ b + (max s b - b)
        at_i s b = omega arith

        at_n : (s e b m : ℕ) → s < e → b < e → s < b + m → 0 < m → min e (b + m) ≡ b + (max s b - b) + (min e (b + m) - max s b)
        at_n s e b m le h k some = omega arith

        some-n : 0 < n
        some-n = omega arith

        less : (s e b m : ℕ) → (s ≤ b → b + m ≤ e → ⊥) → 0 < m → min e (b + m) - max s b < m
        less s e b m f some = elim (dec_le s b) [
          | yes p ↦ elim (dec_le (b + m) e) [
            | yes q ↦ absurd (f p q)
            | no q ↦ short p q
          ]
          | no p ↦ late p
        ]
          where
            short : s ≤ b → (b + m ≤ e → ⊥) → min e (b + m) - max s b < m
            short p q = omega arith

            late : (s ≤ b → ⊥) → min e (b + m) - max s b < m
            late p = omega arith

        fits : i + n ≤ x.bases
        fits = omega arith

        at-s : sofar x (x.base + i) ≡ sofar x s
        at-s =
            elim (dec_le s x.base) [
              | yes p ↦ share.none (x.base + i) (omega arith) ∙ sym (share.none s p)
              | no p ↦ ap (sofar x) (past p)
            ]
          where
            past : (s ≤ x.base → ⊥) → x.base + i ≡ s
            past p = omega arith

        at-e : sofar x (x.base + i + n) ≡ sofar x e
        at-e =
            elim (dec_le (x.base + x.bases) e) [
              | yes p ↦ share.all (x.base + i + n) (omega arith) ∙ sym (share.all e p)
              | no p ↦ ap (sofar x) (short p)
            ]
          where
            short : (x.base + x.bases ≤ e → ⊥) → x.base + i + n ≡ e
            short p = omega arith

        rest : (a b c : ℕ) → a ≡ b + c → c ≡ a - b
        rest a b c h = omega arith

        go : Claim (part job x i n ∷ [])
        go =
            append-nil (count (first (part job x i n)) (many (part job x i n)))
            ∙ ap₂ count (share.begins j i n fits ∙ ap (λ k. first x + k) at-s)
            (rest (sofar x e) (sofar x s) (many (part job x i n)) (sym at-e ∙ share.takes j i n fits ∙ ap (λ k. k + many (part job x i n)) at-s))

    in_one : Fair job s x → Fair job e x → Claim (in_line job s e x)
    in_one p q =
        elim (dec_le e x.base) [
          | yes h ↦ rw (in_ahead job s e x h) (nothing (share.none e h ∙ sym (share.none s (omega arith))))
          | no h ↦ elim (dec_le (x.base + x.bases) s) [
            | yes k ↦ rw (in_behind job s e x k) (nothing (share.all e (omega arith) ∙ sym (share.all s k)))
            | no k ↦ elim (dec_le s x.base) [
              | yes l ↦ elim (dec_le (x.base + x.bases) e) [
                | yes m ↦ rw (in_whole job s e x some l m) (wholly (share.none s l) (share.all e m))
                | no m ↦ partly (cut-end q h m) (other h) (other k) (λ _ b. m b)
              ]
              | no l ↦ partly (cut-start p l k) (other h) (other k) (λ a _. l a)
            ]
          ]
        ]
      where
        other : {a b : ℕ} → (a ≤ b → ⊥) → b < a
        other n = omega arith

        cut-end : Fair job e x → (e ≤ x.base → ⊥) → (x.base + x.bases ≤ e → ⊥) → cuts job x ≡ true
        cut-end (inl (inl a)) h m = absurd (h a)
        cut-end (inl (inr a)) h m = absurd (m a)
        cut-end (inr j) h m = j

        cut-start : Fair job s x → (s ≤ x.base → ⊥) → (x.base + x.bases ≤ s → ⊥) → cuts job x ≡ true
        cut-start (inl (inl a)) h m = absurd (h a)
        cut-start (inl (inr a)) h m = absurd (m a)
        cut-start (inr j) h m = j

  -- All words.

  up_to : List Piece → ℕ → ℕ
  up_to [] c = 0
  up_to (x ∷ xs) c = sofar x c + up_to xs c

  abbrev Each : List Piece → Type 0
  Each xs = All (Shares job first many sofar) xs

  up-zero : (c b d : ℕ) (xs : List Piece) → BaseTiled b xs d → Each xs → c ≤ b → up_to xs c ≡ 0
  unfolding up_to
  up-zero c b d [] t a h = refl
  up-zero c b d (x ∷ xs) t a h = omega (arith, a.0.none c (omega (arith, t.0)), up-zero c (b + x.bases) d xs t.1 a.1 (omega arith))

  up-mono : (s e : ℕ) (xs : List Piece) → s ≤ e → Each xs → up_to xs s ≤ up_to xs e
  unfolding up_to
  up-mono s e [] h a = zero-le
  up-mono s e (x ∷ xs) h a = omega (arith, a.0.more s e h, up-mono s e xs h a.1)

  up-all : (b d r f : ℕ) (xs : List Piece) → BaseTiled b xs d → Tiled first many r xs f → Each xs → r + up_to xs d ≡ f
  unfolding up_to
  up-all b d r f [] t w a = omega arith
  up-all b d r f (x ∷ xs) t w a =
      omega (arith, a.0.all d (omega (arith, t.0, tiled_le (λ p. p.base) (λ p. p.bases) (b + x.bases) d xs t.1)), up-all (b + x.bases) d (r + many x) f xs t.1 w.1 a.1)

  -- two joined stretches: the line begins after the first, ends before the second, or has some of both
  module _ (r v q p t o : ℕ) where
    abbrev Seam : Type 0
    Seam = count (r + v) (q - v) ++ count (r + p + t) (o - t) ≡ count (r + (v + t)) ((q + o) - (v + t))

    seam_late : v ≡ p → q ≡ p → Seam
    seam_late h k =
        let none : q - v ≡ 0 = omega arith in
        let at : r + p + t ≡ r + (v + t) = omega arith in
        let long : o - t ≡ (q + o) - (v + t) = omega arith in
        ap (λ m. count (r + v) m ++ count (r + p + t) (o - t)) none ∙ ap₂ count at long

    seam_early : t ≡ 0 → o ≡ 0 → Seam
    seam_early h k =
        let none : o - t ≡ 0 = omega arith in
        let at : r + v ≡ r + (v + t) = omega arith in
        let long : q - v ≡ (q + o) - (v + t) = omega arith in
        ap (λ m. count (r + v) (q - v) ++ count (r + p + t) m) none ∙ append-nil (count (r + v) (q - v)) ∙ ap₂ count at long

    seam_mid : t ≡ 0 → q ≡ p → v ≤ q → Seam
    seam_mid h k l =
        let at : r + v ≡ r + (v + t) = omega arith in
        count-join (r + v) (r + p + t) (q - v) (o - t) ((q + o) - (v + t)) (omega arith) (omega arith) ∙ ap (λ a. count a ((q + o) - (v + t))) at

  -- the line, word by word
  line-numbers : (s e : ℕ) → s < e → (b d r f : ℕ) (xs : List Piece) → BaseTiled b xs d → Tiled first many r xs f → All (λ x. 0 < x.bases) xs → Each xs →
      All (Fair job s) xs → All (Fair job e) xs → numbers_of (each (in_line job s e) xs) ≡ count (r + up_to xs s) (up_to xs e - up_to xs s)
  unfolding up_to
  line-numbers s e h b d r f [] t w m a p q = refl
  line-numbers s e h b d r f (x ∷ xs) t w m a p q =
      each_append (λ p. count (first p) (many p)) (in_line job s e x) (each (in_line job s e) xs)
      ∙ ap₂ (λ ys zs. ys ++ zs)
      (subst (λ r. numbers_of (in_line job s e x) ≡ count (r + sofar x s) (sofar x e - sofar x s)) w.0 (in_one s e h x m.0 a.0 p.0 q.0))
      (line-numbers s e h (b + x.bases) d (r + many x) f xs t.1 w.1 m.1 a.1 p.1 q.1)
      ∙ elim (dec_le (x.base + x.bases) s) [
        | yes k ↦ seam_late r _ _ (many x) _ _ (a.0.all s k) (a.0.all e (omega arith))
        | no k ↦ elim (dec_le e (x.base + x.bases)) [
          | yes l ↦ seam_early r _ _ (many x) _ _ (up-zero s (b + x.bases) d xs t.1 a.1 (omega (arith, t.0))) (up-zero e (b + x.bases) d xs t.1 a.1 (omega (arith, t.0)))
          | no l ↦ seam_mid r _ _ (many x) _ _ (up-zero s (b + x.bases) d xs t.1 a.1 (before k)) (a.0.all e (past l)) (a.0.more s e (omega arith))
        ]
      ]
    where
      before : (x.base + x.bases ≤ s → ⊥) → s ≤ b + x.bases
      before k = omega (arith, t.0)

      past : (e ≤ x.base + x.bases → ⊥) → x.base + x.bases ≤ e
      past l = omega arith

  -- all lines
  module _ {xs : List Piece} (laid : Laid job xs) (total : ℕ) (tiled : Tiled first many 0 xs total) (shares : Each xs) where
    somes : (ys : List Piece) → All (GoodElement job) ys → All (λ x. 0 < x.bases) ys
    somes [] a = tt
    somes (x ∷ ys) a = (a.0.counts.some, somes ys a.1)

    before : ℕ → ℕ
    before c = up_to xs c

    before-end : before (base_count job) ≡ total
    unfolding before
    before-end = sym (zero-add (up_to xs (base_count job))) ∙ up-all 0 (base_count job) 0 total xs laid.bases tiled shares

    chain-numbers : (s : ℕ) (es : List ℕ) → All (Fair job s) xs → Chain job s es (base_count job) → by_line (λ s e. numbers_of (each (in_line job s e) xs)) s es ≡ count (before s) (total - before s)
    unfolding before
    chain-numbers s [] w f = count_gone (before s) (total - before s) (omega (arith, ap before f, before-end))
    chain-numbers s (e ∷ es) w f =
        let v = laid.fair e f.0.at.permits in
        let h : s < e = f.0.at.ahead in
        let up : before s ≤ before e = up-mono s e xs (omega arith) shares in
        let top : before e ≤ before (base_count job) = up-mono e (base_count job) xs f.0.at.within shares in
        ap₂ (λ ys zs. ys ++ zs) (line-numbers s e h 0 (base_count job) 0 total xs laid.bases tiled (somes xs laid.good) shares w v) (chain-numbers e es v f.1)
        ∙ count-join (0 + before s) (before e) (before e - before s) (total - before e) (total - before s) (omega arith) (omega (arith, before-end))
        ∙ ap (λ a. count a (total - before s)) (zero-add (before s))

    pub all-numbers : (es : List ℕ) → Filled job es → by_line (λ s e. numbers_of (each (in_line job s e) xs)) 0 es ≡ count 0 total
    unfolding before
    all-numbers es f =
        let z : before 0 ≡ 0 = up-zero 0 0 (base_count job) xs laid.bases shares zero-le in
        let long : total - before 0 ≡ total = omega arith in
        chain-numbers 0 es (first-fair job xs) f ∙ ap₂ count z long

base_shares : (job : Job) (x : Piece) → Shares job (λ p. p.base) (λ p. p.bases) bases_to x
unfolding part
base_shares job x =
    record { none = λ c h. omega arith; all = λ c h. omega arith; more = λ c d h. up c d x.base (x.base + x.bases) h; begins = λ j i n h. omega arith; takes = λ j i n h. omega arith }
  where
    up : (c d a b : ℕ) → c ≤ d → min c b - a ≤ min d b - a
    up c d a b h = omega arith

-- what the runs of one side say of parts: where a part begins, how many characters it has, and that all runs have all of them
record Runs (side : Side) (job : Job) (x : Piece) : Type 0 where
  pub none : run_sums side job x 0 ≡ 0
  pub all : run_sums side job x x.bases ≡ many_of side x
  pub more : (i n : ℕ) → run_sums side job x i ≤ run_sums side job x (i + n)
  pub begins : (i n : ℕ) → i + n ≤ x.bases → first_of side (part job x i n) ≡ first_of side x + run_sums side job x i
  pub takes : (i n : ℕ) → i + n ≤ x.bases → run_sums side job x (i + n) ≡ run_sums side job x i + many_of side (part job x i n)

right_runs : (job : Job) (x : Piece) → GoodElement job x → cuts job x ≡ true → Runs Right job x
unfolding part
right_runs job x g c =
    record {
      none = refl;
      all = sym (g.counts.whole (cut-is job x c).0);
      more = λ i n. omega (arith, entries-add job.run x.run i n);
      begins = λ i n h. refl;
      takes = λ i n h. entries-add job.run x.run i n;
    }

left_runs_lem : (job : Job) (x : Piece) → GoodElement job x → left_by_runs x.form x.gloss ≡ true → Runs Left job x
unfolding part
left_runs_lem job x g e =
    record {
      none = refl;
      all = sym (g.gloss.whole e);
      more = λ i n. omega (arith, entries-add job.left_run x.leftrun i n);
      begins = λ i n h. rw e;
      takes = λ i n h. rw e (entries-add job.left_run x.leftrun i n);
    }

-- a J that is cut and has no left runs has no left characters, and neither have its parts
no-lefts : (job : Job) (x : Piece) → GoodElement job x → cuts job x ≡ true → left_by_runs x.form x.gloss ≡ false → (x.lefts ≡ 0) × ((i n : ℕ) → ((part job x i n).left ≡ x.left + 0) × ((part job x i n).lefts ≡ 0))
unfolding part
no-lefts job x g c e =
    let q = cut-is job x c in (g.gloss.none (none_of-j x.form x.gloss q.0 q.1 e), λ i n. rw e (refl, refl))

module _ (side : Side) (job : Job) (x : Piece) (g : GoodElement job x) where
  base : Shares job (λ p. p.base) (λ p. p.bases) bases_to x
  base = base_shares job x

  -- where the runs decide
  shares_by : by_runs side job x ≡ true → Runs side job x → Shares job (first_of side) (many_of side) (read_to side job) x
  shares_by j r =
      record {
        none = λ c h. is c ∙ ap (run_sums side job x) (base.none c h) ∙ r.none;
        all = λ c h. is c ∙ ap (run_sums side job x) (base.all c h) ∙ r.all;
        more = λ c d h. rw (is c, is d) (up (bases_to x c) (bases_to x d) (base.more c d h));
        begins = λ _ i n h. r.begins i n h ∙ ap (λ k. first_of side x + k) (sym (is (x.base + i) ∙ ap (run_sums side job x) (first i x.base x.bases (omega arith))));
        takes = λ _ i n h.
            is (x.base + i + n) ∙ ap (run_sums side job x) (last i n x.base x.bases h) ∙ r.takes i n h
            ∙ ap (λ k. k + many_of side (part job x i n)) (sym (is (x.base + i) ∙ ap (run_sums side job x) (first i x.base x.bases (omega arith))));
      }
    where
      is : (c : ℕ) → read_to side job x c ≡ run_sums side job x (bases_to x c)
      is c = rw j

      up : (a b : ℕ) → a ≤ b → run_sums side job x a ≤ run_sums side job x b
      up a b h = subst (λ k. run_sums side job x a ≤ run_sums side job x k) (sym (back a b h)) (r.more a (b - a))
        where
          back : (a b : ℕ) → a ≤ b → b ≡ a + (b - a)
          back a b h = omega arith

      first : (i b m : ℕ) → i ≤ m → min (b + i) (b + m) - b ≡ i
      first i b m h = omega arith

      last : (i n b m : ℕ) → i + n ≤ m → min (b + i + n) (b + m) - b ≡ i + n
      last i n b m h = omega arith

  -- where all stand or none: either the word is not cut, or it has none
  shares_whole : by_runs side job x ≡ false → (cuts job x ≡ true → (many_of side x ≡ 0) × ((i n : ℕ) → (first_of side (part job x i n) ≡ first_of side x + 0) × (many_of side (part job x i n) ≡ 0))) →
      Shares job (first_of side) (many_of side) (read_to side job) x
  shares_whole j empty =
      record {
        none = λ c h. is c ∙ rw (lt-leb (x.base + x.bases) c (omega (arith, g.counts.some)));
        all = λ c h. is c ∙ rw (le-leb (x.base + x.bases) c h);
        more = λ c d h. rw (is c, is d) (upward c d h);
        begins = λ k i n h. ((empty k).1 i n).0 ∙ ap (λ m. first_of side x + m) (sym (zero (x.base + i) (empty k).0));
        takes = λ k i n h. zero (x.base + i + n) (empty k).0 ∙ sym (omega (arith, zero (x.base + i) (empty k).0, ((empty k).1 i n).1));
      }
    where
      is : (c : ℕ) → read_to side job x c ≡ cond (leb (x.base + x.bases) c) (many_of side x) 0
      is c = rw j

      either : (t : Bool) (m : ℕ) → m ≡ 0 → cond t m 0 ≡ 0
      either true m e = e
      either false m e = refl

      zero : (c : ℕ) → many_of side x ≡ 0 → read_to side job x c ≡ 0
      zero c e = is c ∙ either (leb (x.base + x.bases) c) (many_of side x) e

      upward : (c d : ℕ) → c ≤ d → cond (leb (x.base + x.bases) c) (many_of side x) 0 ≤ cond (leb (x.base + x.bases) d) (many_of side x) 0
      upward c d h = two (leb (x.base + x.bases) c) refl
        where
          two : (t : Bool) → leb (x.base + x.bases) c ≡ t → cond t (many_of side x) 0 ≤ cond (leb (x.base + x.bases) d) (many_of side x) 0
          two false e = zero-le
          two true e = rw (le-leb (x.base + x.bases) d (omega (arith, leb-true (x.base + x.bases) c e))) (omega arith)

pub reading_shares : (side : Side) (job : Job) (x : Piece) → GoodElement job x → Shares job (first_of side) (many_of side) (read_to side job) x
reading_shares Right job x g = go (cuts job x) refl
  where
    go : (t : Bool) → cuts job x ≡ t → Shares job (λ p. p.ruby) (λ p. p.rubies) (read_to Right job) x
    go true c = shares_by Right job x g c (right_runs job x g c)
    go false c = shares_whole Right job x g c (λ k. absurd (true≢false (sym k ∙ c)))
reading_shares Left job x g = go (cuts job x) (left_by_runs x.form x.gloss) refl refl
  where
    go : (t u : Bool) → cuts job x ≡ t → left_by_runs x.form x.gloss ≡ u → Shares job (λ p. p.left) (λ p. p.lefts) (read_to Left job) x
    go true true c e = shares_by Left job x g (rw (c, e)) (left_runs_lem job x g e)
    go true false c e = shares_whole Left job x g (rw (c, e)) (λ k. no-lefts job x g c e)
    go false u c e = shares_whole Left job x g (rw c) (λ k. absurd (true≢false (sym k ∙ c)))

module _ (job : Job) where
  bases-share : (xs : List Piece) → All (Shares job (λ p. p.base) (λ p. p.bases) bases_to) xs
  bases-share [] = tt
  bases-share (x ∷ xs) = (base_shares job x, bases-share xs)

  readings-share : (side : Side) (xs : List Piece) → All (GoodElement job) xs → All (Shares job (first_of side) (many_of side) (read_to side job)) xs
  readings-share side xs = all_map (GoodElement job) (Shares job (first_of side) (many_of side) (read_to side job)) xs (reading_shares side job)

  -- the base characters of the lines are 0, 1, .. up to the base count, and so the characters of either side
  pub base-numbers_of : {xs : List Piece} → Laid job xs → (es : List ℕ) → Filled job es →
      by_line (λ s e. numbers_of job (λ p. p.base) (λ p. p.bases) bases_to (each (in_line job s e) xs)) 0 es ≡ count 0 (base_count job)
  base-numbers_of {xs} laid = all-numbers job (λ p. p.base) (λ p. p.bases) bases_to laid (base_count job) laid.bases (bases-share xs)

  pub reading-numbers_of : (side : Side) {xs : List Piece} → Laid job xs → (es : List ℕ) → Filled job es →
      by_line (λ s e. numbers_of job (first_of side) (many_of side) (read_to side job) (each (in_line job s e) xs)) 0 es ≡ count 0 (count_of side job)
  reading-numbers_of side {xs} laid = all-numbers job (first_of side) (many_of side) (read_to side job) laid (count_of side job) (laid.readings side) (readings-share side xs laid.good)

  -- of the pieces
  module _ (passed : Passed job) where
    pub base-numbers : (es : List ℕ) → Filled job es → by_line (λ s e. numbers_of job (λ p. p.base) (λ p. p.bases) bases_to (pieces job s e)) 0 es ≡ count 0 (base_count job)
    unfolding pieces
    base-numbers = base-numbers_of (words-laid job passed)

    pub reading-numbers : (side : Side) (es : List ℕ) → Filled job es → by_line (λ s e. numbers_of job (first_of side) (many_of side) (read_to side job) (pieces job s e)) 0 es ≡ count 0 (count_of side job)
    unfolding pieces
    reading-numbers side = reading-numbers_of side (words-laid job passed)
