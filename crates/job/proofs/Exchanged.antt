-- "if one element is exchanged for another and the line's breaks are kept" (document 02, R-9), of jobs: two jobs that differ in one element, and in both the line
-- that has it. The words of the other elements are the same one by one, and so is what of them stands in the lines (`exchanges`), so that `correction` holds: `one-element` at
-- the end is the theorem.
use Rattle.std.specs.Prelude.{◌≡◌, Bool, cond, ◌&&◌, ◌||◌, List, [], ◌∷◌, ◌++◌, map, ℕ, zero, suc, ◌+◌, ◌-◌, ◌≤◌, ◌<◌, min, max, eqb, ltb, length, get_or, take}
use Rattle.std.proofs.Math.Path.{refl, ap, ap₂}
use Rattle.std.proofs.Common.{sym, ◌∙◌, subst, subst₂, true≢false, append-nil, arith, length-append, get_or-append-add}
use Rattle.std.proofs.Math.Bool.{true, false, not}
use Rattle.std.proofs.lemmas.Bool.{false≢true, eqb-false}
use Rattle.std.proofs.Math.ListN.{get_or-append}
use Rattle.basics.specs.Lists.{sum, count, each, All}
use Rattle.word.specs.declared.Form.{Form}
use Rattle.word.specs.declared.Left.{Left as LeftKind}
use Rattle.word.specs.declared.Left.TheVariants as left
use Rattle.word.specs.Given.{Given, is_j}
use Rattle.word.specs.Alone.{split as by_runs_lem, any_longer}
use Rattle.word.specs.Both.{Gloss, has_left, apart, is_group, is_jukugo, uncut}
use Rattle.word.specs.Theorems.{Alike}
use Rattle.word.specs.Part as parts
use Rattle.readings.specs.Alike.{AlikeBoth}
use Rattle.readings.specs.Parts.{left_by, left_of_part, gloss_part, within_none}
use Rattle.door.specs.declared.Piece.{Piece}
use Rattle.door.specs.Job.{Job, base_count, entries, elements, given, gloss_of}
use Rattle.door.specs.Passed.{GoodElement, BaseTiled, Passed}
use Rattle.job.specs.Line.{part, words_in, words, cuts, in_line, pieces}
use Rattle.job.specs.Promise.{nobody}
use Rattle.job.specs.Laws.{all_split, each_append, both}
use Rattle.job.specs.Apart.{GoodWord, one_by_one}
use Rattle.job.proofs.Apart.{apart-is, by_apart, good-words_of, words-tiled-of}
use Rattle.job.proofs.Pieces.{in_by, in_whole, cut-is, tiled-split, tiled_le}
use Rattle.job.specs.Words.{jukugo-is, part-given, part-gloss}
use Rattle.job.specs.Correction.{Line, IsSet, SameElement, Corrected, from, upto, many, piece}
use Rattle.job.proofs.Correction.{same-bases, accepted, correction}
use Rattle.job.proofs.Demands as demands
use Rattle.job.specs.Exchanged.{element_of, ElementExchanged, BreaksKept, words_of, StandsFrom, Exchanges}

-- Pieces of two jobs, one by one the same element.
module _ (job job' : Job) where
  abbrev Pairs : List Piece → List Piece → Type 0
  Pairs [] [] = Unit {0}
  Pairs [] (q ∷ qs) = ⊥
  Pairs (p ∷ ps) [] = ⊥
  Pairs (p ∷ ps) (q ∷ qs) = SameElement job p job' q × Pairs ps qs

  pairs_append : (ps qs ps' qs' : List Piece) → Pairs ps ps' → Pairs qs qs' → Pairs (ps ++ qs) (ps' ++ qs')
  pairs_append [] qs [] qs' a b = b
  pairs_append [] qs (q ∷ ps') qs' a b = absurd a
  pairs_append (p ∷ ps) qs [] qs' a b = absurd a
  pairs_append (p ∷ ps) qs (q ∷ ps') qs' a b = (a.0, pairs_append ps qs ps' qs' a.1 b)

  pairs_long : (ps qs : List Piece) → Pairs ps qs → length ps ≡ length qs
  pairs_long [] [] a = refl
  pairs_long [] (q ∷ qs) a = absurd a
  pairs_long (p ∷ ps) [] a = absurd a
  pairs_long (p ∷ ps) (q ∷ qs) a = ap suc (pairs_long ps qs a.1)

  pairs_at : (ps qs : List Piece) → Pairs ps qs → (k : ℕ) → k < length ps → SameElement job (get_or ps k nobody) job' (get_or qs k nobody)
  pairs_at [] [] a k h = absurd (omega arith)
  pairs_at [] (q ∷ qs) a k h = absurd a
  pairs_at (p ∷ ps) [] a k h = absurd a
  pairs_at (p ∷ ps) (q ∷ qs) a zero h = a.0
  pairs_at (p ∷ ps) (q ∷ qs) a (suc k) h = pairs_at ps qs a.1 k (omega arith)

  pairs_of : (ps qs : List Piece) → length qs ≡ length ps → ((k : ℕ) → k < length ps → SameElement job (get_or ps k nobody) job' (get_or qs k nobody)) → Pairs ps qs
  pairs_of [] [] e f = tt
  pairs_of [] (q ∷ qs) e f = absurd (omega arith)
  pairs_of (p ∷ ps) [] e f = absurd (omega arith)
  pairs_of (p ∷ ps) (q ∷ qs) e f = (f 0 (omega arith), pairs_of ps qs (omega arith) (λ k h. f (suc k) (omega arith)))

  -- two lists that are the same but for entry j
  record Split (j : ℕ) (ps qs : List Piece) : Type 0 where
    pub a : List Piece
    pub a' : List Piece
    pub c : List Piece
    pub c' : List Piece
    pub was : ps ≡ a ++ (get_or ps j nobody ∷ c)
    pub now : qs ≡ a' ++ (get_or qs j nobody ∷ c')
    pub first : Pairs a a'
    pub rest : Pairs c c'

  split : (j : ℕ) (ps qs : List Piece) → j < length ps → length qs ≡ length ps →
      ((k : ℕ) → k < length ps → (k ≡ j → ⊥) → SameElement job (get_or ps k nobody) job' (get_or qs k nobody)) → Split j ps qs
  split j [] qs h e f = absurd (omega arith)
  split j (p ∷ ps) [] h e f = absurd (omega arith)
  split zero (p ∷ ps) (q ∷ qs) h e f =
      record { a = []; a' = []; c = ps; c' = qs; was = refl; now = refl; first = tt; rest = pairs_of ps qs (omega arith) (λ k l. f (suc k) (omega arith) (λ z. omega arith)) }
  split (suc j) (p ∷ ps) (q ∷ qs) h e f =
      let r = split j ps qs (omega arith) (omega arith) (λ k l n. f (suc k) (omega arith) (λ z. n (omega arith))) in
      record {
        a = p ∷ r.a;
        a' = q ∷ r.a';
        c = r.c;
        c' = r.c';
        was = ap {B = List Piece} (λ z. p ∷ z) r.was;
        now = ap {B = List Piece} (λ z. q ∷ z) r.now;
        first = (f 0 (omega arith) (λ z. omega arith), r.first);
        rest = r.rest;
      }

positive : (n : ℕ) → (n ≡ 0 → ⊥) → 0 < n
positive n h = omega arith

-- A part of a J is the same where the J is, if the J is not taken as group.
record SameGiven (form : Form) (v : Given) (f : Gloss) (w : Given) (g : Gloss) : Type 0 where
  pub alike : AlikeBoth form v f w g
  pub before : v.before ≡ w.before
  pub after : v.after ≡ w.after

left-was : (k : LeftKind) (one : Bool) → has_left (left_by k one) ≡ true → has_left k ≡ true
left-was left.N one e = absurd (false≢true e)
left-was left.M one e = refl
left-was left.G one e = refl
left-was left.J one e = refl

module _ (form : Form) (v : Given) (f : Gloss) (w : Given) (g : Gloss) (s : SameGiven form v f w g) (i n : ℕ) (j : is_j form ≡ true) (group : is_group f.kind ≡ false) where
  given-alike : Alike (parts.form_of_part n) (parts.part v i n) (parts.part w i n)
  unfolding parts.part
  given-alike =
      let a = s.alike.given in
      let c = a.class in
      let b = a.width in
      let d = a.ruby_class in
      let e = a.ruby_width in
      let r = a.run j in
      record { em = a.em; ratios = a.ratios; class = cc; width = cc; ruby_class = cc; ruby_width = cc; run = λ _. cc }

  -- the left characters of a part are those of its left runs; a J without a left reading has none
  abbrev ahead : Gloss → ℕ
  ahead h = sum (take i h.run)

  abbrev own : Gloss → ℕ
  own h = sum (parts.within i n h.run)

  left-same : (xs ys : List ℕ) → xs ≡ ys → (has_left f.kind ≡ false → xs ≡ []) → parts.within (ahead f) (own f) xs ≡ parts.within (ahead g) (own g) ys
  left-same xs ys e none = go (has_left f.kind) refl
    where
      go : (t : Bool) → has_left f.kind ≡ t → parts.within (ahead f) (own f) xs ≡ parts.within (ahead g) (own g) ys
      go true h = let r = s.alike.run j h group in cc
      go false h = within_none (ahead f) (own f) xs (none h) ∙ sym (within_none (ahead g) (own g) ys (sym e ∙ none h))

  part-alike : (has_left f.kind ≡ false → f.class ≡ []) → (has_left f.kind ≡ false → f.width ≡ []) →
      SameGiven (parts.form_of_part n) (parts.part v i n) (gloss_part f i n) (parts.part w i n) (gloss_part g i n)
  unfolding parts.part gloss_part
  part-alike noClass no_width =
      record {
        alike =
            record {
              given = given-alike;
              kind = ap (λ k. left_of_part k n) s.alike.kind;
              class = left-same f.class g.class s.alike.class noClass;
              width = left-same f.width g.width s.alike.width no_width;
              run = λ _ h _. ap (parts.within i n) (s.alike.run j (left-was f.kind (eqb n 1) h) group);
            };
        before = ap (parts.within i n) s.before;
        after = ap (parts.within i n) s.after;
      }

-- Whether an element may be cut, and whether it is taken apart.
uncut-same : (k : LeftKind) (a b : Bool) → (is_jukugo k ≡ true → a ≡ b) → uncut k a ≡ uncut k b
uncut-same left.N a b e = refl
uncut-same left.M a b e = refl
uncut-same left.G a b e = refl
uncut-same left.J a b e = e refl

part-form : (job : Job) (x : Piece) (i n : ℕ) → (part job x i n).form ≡ parts.form_of_part n
unfolding part
part-form job x i n = refl

-- some run of either side is longer than one em
abbrev longer : Job → Piece → Bool
longer job x = any_longer job.em (by_runs_lem (given job x).run (given job x).ruby_width) || any_longer job.em (by_runs_lem (gloss_of job x).run (gloss_of job x).width)

longer-by : {em em' : ℕ} {r r' w w' : List ℕ} → em ≡ em' → r ≡ r' → w ≡ w' → any_longer em (by_runs_lem r w) ≡ any_longer em' (by_runs_lem r' w')
longer-by e f g = rw (e, f, g)

module _ (job job' : Job) where
  same_by : job.profile ≡ job'.profile → (p q : Piece) (form : Form) (v : Given) (f : Gloss) (w : Given) (g : Gloss) → p.form ≡ form → q.form ≡ form →
      given job p ≡ v → gloss_of job p ≡ f → given job' q ≡ w → gloss_of job' q ≡ g → SameGiven form v f w g → SameElement job p job' q
  same_by h p q form v f w g e e' a b a' b' s =
      let t : SameGiven p.form (given job p) (gloss_of job p) (given job' q) (gloss_of job' q) = rw (e, a, b, a', b') s in
      record { profile = h; form = e ∙ sym e'; alike = t.alike; before = t.before; after = t.after }

  module _ (x x' : Piece) (same : SameElement job x job' x') where
    same-cuts : cuts job x ≡ cuts job' x'
    unfolding cuts
    same-cuts = go (is_j x.form) refl ∙ ap (λ t. t && not (uncut x'.gloss (longer job' x'))) (ap is_j same.form)
      where
        go : (t : Bool) → is_j x.form ≡ t → (t && not (uncut x.gloss (longer job x))) ≡ (t && not (uncut x'.gloss (longer job' x')))
        go false j = refl
        go true j = ap not (uncut-same x.gloss (longer job x) (longer job' x') long ∙ ap (λ k. uncut k (longer job' x')) same.alike.kind)
          where
            long : is_jukugo x.gloss ≡ true → longer job x ≡ longer job' x'
            long e =
                let q = jukugo-is x.gloss e in
                ap₂ (λ (s : Bool) (t : Bool). s || t)
                (longer-by same.alike.given.em (same.alike.given.run j) same.alike.given.ruby_width)
                (longer-by same.alike.given.em (same.alike.run j q.0 q.1) same.alike.width)

    same-apart : apart x.form x.gloss ≡ apart x'.form x'.gloss
    same-apart = ap₂ apart same.form same.alike.kind

  module _ (good : Passed job) (good' : Passed job') (x x' : Piece) (g : GoodElement job x) (g' : GoodElement job' x') (same : SameElement job x job' x') where
    part_same : (i n : ℕ) → is_j x.form ≡ true → is_group x.gloss ≡ false → 0 < n → i + n ≤ x.bases → SameElement job (part job x i n) job' (part job' x' i n)
    part_same i n j e h k =
        let j' = subst (λ f. is_j f ≡ true) same.form j in
        let e' = subst (λ f. is_group f ≡ false) same.alike.kind e in
        let k' : i + n ≤ x'.bases = omega (arith, same-bases job x job' x' same) in
        same_by same.profile (part job x i n) (part job' x' i n) (parts.form_of_part n)
        (parts.part (given job x) i n) (gloss_part (gloss_of job x) i n) (parts.part (given job' x') i n) (gloss_part (gloss_of job' x') i n)
        (part-form job x i n) (part-form job' x' i n)
        (part-given job good x g j e i n h k) (part-gloss job good x g j e i n h k) (part-given job' good' x' g' j' e' i n h k') (part-gloss job' good' x' g' j' e' i n h k')
        (part-alike x.form (given job x) (gloss_of job x) (given job' x') (gloss_of job' x') (record { alike = same.alike; before = same.before; after = same.after }) i n j e
        (λ a. ap (entries job.left_class x.left) (g.gloss.none a)) (λ a. ap (entries job.left_width x.left) (g.gloss.none a)))

    singles-same : apart x.form x.gloss ≡ true → (a n : ℕ) → a + n ≤ x.bases → Pairs job job' (map (λ i. part job x i 1) (count a n)) (map (λ i. part job' x' i 1) (count a n))
    singles-same e a zero h = tt
    singles-same e a (suc n) h =
        let q = apart-is x.form x.gloss e in
        (part_same a 1 q.0 (subst (λ k. is_group k ≡ false) (sym q.1) refl) (omega arith) (omega arith), singles-same e (suc a) n (omega arith))

    -- the words of an element: itself, or one for each of its characters
    words_same : Pairs job job' (words_in job x) (words_in job' x')
    words_same =
        by_apart job (λ ps. Pairs job job' ps (words_in job' x')) x
        (λ e. by_apart job' (Pairs job job' (one_by_one job x)) x'
        (λ _. subst (λ (n : ℕ). Pairs job job' (one_by_one job x) (map (λ i. part job' x' i 1) (count 0 n))) (same-bases job x job' x' same) (singles-same e 0 x.bases (omega arith)))
        (λ e'. absurd (true≢false (sym e ∙ same-apart x x' same ∙ e'))))
        (λ e. by_apart job' (Pairs job job' (x ∷ [])) x' (λ e'. absurd (false≢true (sym e ∙ same-apart x x' same ∙ e'))) (λ _. (same, tt)))

    -- what of a word stands in a line: as much in both jobs, from the same character of the word on
    in_same : (s e s' e' i n : ℕ) → max s x.base - x.base ≡ i → min e (x.base + x.bases) - (x.base + i) ≡ n →
        max s' x'.base - x'.base ≡ i → min e' (x'.base + x'.bases) - (x'.base + i) ≡ n → (0 < n → i + n ≤ x.bases) → Pairs job job' (in_line job s e x) (in_line job' s' e' x')
    in_same s e s' e' i n a b a' b' h =
        subst₂ (Pairs job job') (sym (in_by job s e x i n a b)) (sym (in_by job' s' e' x' i n a' b' ∙ ap (λ (t : Bool). cond (eqb n 0) [] (cond t (part job' x' i n) x' ∷ [])) cut))
        (go (eqb n 0) (cuts job x && ltb n x.bases) refl refl)
      where
        cut : (cuts job' x' && ltb n x'.bases) ≡ (cuts job x && ltb n x.bases)
        cut = ap₂ (λ (t : Bool) (m : ℕ). t && ltb n m) (sym (same-cuts x x' same)) (sym (same-bases job x job' x' same))

        go : (z w : Bool) → eqb n 0 ≡ z → (cuts job x && ltb n x.bases) ≡ w → Pairs job job' (cond z [] (cond w (part job x i n) x ∷ [])) (cond z [] (cond w (part job' x' i n) x' ∷ []))
        go true w p q = tt
        go false false p q = (same, tt)
        go false true p q =
            let m = positive n (eqb-false n 0 p) in
            let c = cut-is job x (both (cuts job x) (ltb n x.bases) q).0 in
            (part_same i n c.0 c.1 m (h m), tt)

module _ (job job' : Job) (good : Passed job) (good' : Passed job') where
  all_words-same : (xs xs' : List Piece) → Pairs job job' xs xs' → All (GoodElement job) xs → All (GoodElement job') xs' → Pairs job job' (each (words_in job) xs) (each (words_in job') xs')
  all_words-same [] [] p g g' = tt
  all_words-same [] (x' ∷ xs') p g g' = absurd p
  all_words-same (x ∷ xs) [] p g g' = absurd p
  all_words-same (x ∷ xs) (x' ∷ xs') p g g' =
      pairs_append job job' (words_in job x) (each (words_in job) xs) (words_in job' x') (each (words_in job') xs')
      (words_same job job' good good' x x' g.0 g'.0 p.0) (all_words-same xs xs' p.1 g.1 g'.1)

  -- The words before the exchanged element begin at the same base characters in both jobs, and end before either line does.
  in_before : (s e e' b d d' : ℕ) (a a' : List Piece) → Pairs job job' a a' → All (GoodWord job) a → All (GoodWord job') a' → BaseTiled b a d → BaseTiled b a' d' →
      d ≤ e → d' ≤ e' → Pairs job job' (each (in_line job s e) a) (each (in_line job' s e') a')
  in_before s e e' b d d' [] [] p g g' t t' h h' = tt
  in_before s e e' b d d' [] (x' ∷ a') p g g' t t' h h' = absurd p
  in_before s e e' b d d' (x ∷ a) [] p g g' t t' h h' = absurd p
  in_before s e e' b d d' (x ∷ a) (x' ∷ a') p g g' t t' h h' =
      let m = same-bases job x job' x' p.0 in
      let l = tiled_le (λ p. p.base) (λ p. p.bases) (b + x.bases) d a t.1 in
      let l' = tiled_le (λ p. p.base) (λ p. p.bases) (b + x'.bases) d' a' t'.1 in
      let i = max s b - b in
      let n = b + x.bases - (b + i) in
      pairs_append job job' (in_line job s e x) (each (in_line job s e) a) (in_line job' s e' x') (each (in_line job' s e') a')
      (in_same job job' good good' x x' g.0.good g'.0.good p.0 s e s e' i n (first s x.base b t.0) (ended e x.base b x.bases x.bases i t.0 refl (omega arith))
      (first s x'.base b t'.0) (ended e' x'.base b x'.bases x.bases i t'.0 (sym m) (omega arith)) (inside b x.bases i))
      (in_before s e e' (b + x.bases) d d' a a' p.1 g.1 g'.1 t.1 (subst (λ (k : ℕ). BaseTiled (b + k) a' d') (sym m) t'.1) h h')
    where
      first : (s c b : ℕ) → c ≡ b → max s c - c ≡ max s b - b
      first s c b e = ap (λ (k : ℕ). max s k - k) e

      ended : (e c b k m i : ℕ) → c ≡ b → k ≡ m → b + k ≤ e → min e (c + k) - (c + i) ≡ b + m - (b + i)
      ended e c b k m i p q h = omega arith

      inside : (b m i : ℕ) → 0 < b + m - (b + i) → i + (b + m - (b + i)) ≤ m
      inside b m i h = omega arith

  -- Those after it begin, in both jobs, as many base characters before their line's end.
  in_after : (s e s' e' b b' d d' : ℕ) (c c' : List Piece) → Pairs job job' c c' → All (GoodWord job) c → All (GoodWord job') c' → BaseTiled b c d → BaseTiled b' c' d' →
      s ≤ b → s' ≤ b' → e' + b ≡ e + b' → Pairs job job' (each (in_line job s e) c) (each (in_line job' s' e') c')
  in_after s e s' e' b b' d d' [] [] p g g' t t' h h' q = tt
  in_after s e s' e' b b' d d' [] (x' ∷ c') p g g' t t' h h' q = absurd p
  in_after s e s' e' b b' d d' (x ∷ c) [] p g g' t t' h h' q = absurd p
  in_after s e s' e' b b' d d' (x ∷ c) (x' ∷ c') p g g' t t' h h' q =
      let m = same-bases job x job' x' p.0 in
      let n = min e (x.base + x.bases) - (x.base + 0) in
      pairs_append job job' (in_line job s e x) (each (in_line job s e) c) (in_line job' s' e' x') (each (in_line job' s' e') c')
      (in_same job job' good good' x x' g.0.good g'.0.good p.0 s e s' e' 0 n (none s x.base (omega (arith, t.0))) refl (none s' x'.base (omega (arith, t'.0)))
      (shifted e e' x.base x'.base x.bases x'.bases (sym m) (omega (arith, t.0, t'.0))) (λ _. inside e x.base x.bases))
      (in_after s e s' e' (b + x.bases) (b' + x.bases) d d' c c' p.1 g.1 g'.1 t.1 (subst (λ (k : ℕ). BaseTiled (b' + k) c' d') (sym m) t'.1)
      (omega arith) (omega arith) (omega arith))
    where
      none : (s b : ℕ) → s ≤ b → max s b - b ≡ 0
      none s b h = omega arith

      shifted : (e e' b b' m m' : ℕ) → m' ≡ m → e' + b ≡ e + b' → min e' (b' + m') - (b' + 0) ≡ min e (b + m) - (b + 0)
      shifted e e' b b' m m' p q = omega arith

      inside : (e b m : ℕ) → 0 + (min e (b + m) - (b + 0)) ≤ m
      inside e b m = omega arith

pairs_tiled : (job job' : Job) (ps qs : List Piece) → Pairs job job' ps qs → (b d d' : ℕ) → BaseTiled b ps d → BaseTiled b qs d' → d ≡ d'
pairs_tiled job job' [] [] a b d d' t t' = sym t ∙ t'
pairs_tiled job job' [] (q ∷ qs) a b d d' t t' = absurd a
pairs_tiled job job' (p ∷ ps) [] a b d d' t t' = absurd a
pairs_tiled job job' (p ∷ ps) (q ∷ qs) a b d d' t t' =
    pairs_tiled job job' ps qs a.1 (b + p.bases) d d' t.1 (subst (λ (k : ℕ). BaseTiled (b + k) qs d') (sym (same-bases job p job' q a.0)) t'.1)

-- A line that has the whole of an element: what stands before it, its words, what stands after it.
words-around : (job : Job) (a c : List Piece) (x : Piece) → elements job ≡ a ++ (x ∷ c) → words job ≡ each (words_in job) a ++ (words_in job x ++ each (words_in job) c)
unfolding words
words-around job a c x split = ap (each (words_in job)) split ∙ each_append (words_in job) a (x ∷ c)

-- words that lie between the line's ends are in it as they are
all_whole : (job : Job) (s e b d : ℕ) (ws : List Piece) → BaseTiled b ws d → All (GoodWord job) ws → s ≤ b → d ≤ e → each (in_line job s e) ws ≡ ws
all_whole job s e b d [] t g h k = refl
all_whole job s e b d (w ∷ ws) t g h k =
    ap₂ (λ (ps : List Piece) (qs : List Piece). ps ++ qs)
    (in_whole job s e w g.0.good.counts.some (omega (arith, t.0)) (omega (arith, t.0, tiled_le (λ p. p.base) (λ p. p.bases) (b + w.bases) d ws t.1)))
    (all_whole job s e (b + w.bases) d ws t.1 g.1 (omega arith) k)

line-around : (job : Job) → Passed job → (s e : ℕ) (a c : List Piece) (x : Piece) → elements job ≡ a ++ (x ∷ c) → GoodElement job x → s ≤ x.base → x.base + x.bases ≤ e →
    pieces job s e ≡ each (in_line job s e) (each (words_in job) a) ++ (words_in job x ++ each (in_line job s e) (each (words_in job) c))
unfolding pieces
line-around job good s e a c x split g h k =
    let f = in_line job s e in
    let ws = words_in job x in
    let one = append-nil ws in
    let tiled = words-tiled-of job good x.base (x.base + x.bases) (x ∷ []) (refl, refl) (g, tt) in
    ap (each f) (words-around job a c x split)
    ∙ each_append f (each (words_in job) a) (ws ++ each (words_in job) c)
    ∙ ap (λ (ps : List Piece). each f (each (words_in job) a) ++ ps)
    (each_append f ws (each (words_in job) c)
    ∙ ap (λ (ps : List Piece). ps ++ each f (each (words_in job) c))
    (all_whole job s e x.base (x.base + x.bases) ws (subst (λ ps. BaseTiled x.base ps (x.base + x.bases)) one tiled)
    (subst (All (GoodWord job)) one (good-words_of job good (x ∷ []) (g, tt))) h k))

-- an element has words
some_words : (job : Job) (x : Piece) → GoodElement job x → 0 < length (words_in job x)
some_words job x g = by_apart job (λ ps. 0 < length ps) x (λ _. counted x.bases g.counts.some) (λ _. omega arith)
  where
    counted : (n : ℕ) → 0 < n → 0 < length (map (λ i. part job x i 1) (count 0 n))
    counted zero h = absurd (omega arith)
    counted (suc n) h = omega arith

-- the pieces of a line in three parts
module _ (ps bs cs : List Piece) where
  at_front : (k : ℕ) → k < length ps → get_or (ps ++ (bs ++ cs)) k nobody ≡ get_or ps k nobody
  at_front k h = get_or-append ps (bs ++ cs) nobody k h

  at_part : (n i : ℕ) → n ≡ length ps → i < length bs → get_or (ps ++ (bs ++ cs)) (n + i) nobody ≡ get_or bs i nobody
  at_part n i e h = ap (λ (k : ℕ). get_or (ps ++ (bs ++ cs)) (k + i) nobody) e ∙ get_or-append-add ps (bs ++ cs) i nobody ∙ get_or-append bs cs nobody i h

  at_rest : (n i : ℕ) → n ≡ length ps → get_or (ps ++ (bs ++ cs)) (n + length bs + i) nobody ≡ get_or cs i nobody
  at_rest n i e =
      ap (λ (k : ℕ). get_or (ps ++ (bs ++ cs)) k nobody) (omega arith) ∙ get_or-append-add ps (bs ++ cs) (length bs + i) nobody ∙ get_or-append-add bs cs i nobody

  all-long : length (ps ++ (bs ++ cs)) ≡ length ps + length bs + length cs
  all-long = omega (arith, length-append ps (bs ++ cs), length-append bs cs)

module _ (j : ℕ) (l l' : Line) (set : IsSet l) (set' : IsSet l') (exchanged : ElementExchanged j l.job l'.job) (kept : BreaksKept j l l') where
  abbrev x : Piece
  x = element_of l.job j

  abbrev x' : Piece
  x' = element_of l'.job j

  good : Passed l.job
  good = demands.good l.job l.base l.ruby l.left l.lines (accepted l set)

  good' : Passed l'.job
  good' = demands.good l'.job l'.base l'.ruby l'.left l'.lines (accepted l' set')

  parted : Split l.job l'.job j (elements l.job) (elements l'.job)
  parted = split l.job l'.job j (elements l.job) (elements l'.job) exchanged.there exchanged.each exchanged.others

  all : All (GoodElement l.job) parted.a × All (GoodElement l.job) (x ∷ parted.c)
  all = all_split (GoodElement l.job) parted.a (x ∷ parted.c) (subst (All (GoodElement l.job)) parted.was good.each)

  all' : All (GoodElement l'.job) parted.a' × All (GoodElement l'.job) (x' ∷ parted.c')
  all' = all_split (GoodElement l'.job) parted.a' (x' ∷ parted.c') (subst (All (GoodElement l'.job)) parted.now good'.each)

  abbrev Tiling : Job → List Piece → Piece → List Piece → Type 0
  Tiling job a x c = (m : ℕ) × BaseTiled 0 a m × BaseTiled m (x ∷ c) (base_count job)

  tiling : Tiling l.job parted.a x parted.c
  tiling = tiled-split (λ p. p.base) (λ p. p.bases) 0 (base_count l.job) parted.a (x ∷ parted.c) (subst (λ es. BaseTiled 0 es (base_count l.job)) parted.was good.tiled)

  tiling' : Tiling l'.job parted.a' x' parted.c'
  tiling' = tiled-split (λ p. p.base) (λ p. p.bases) 0 (base_count l'.job) parted.a' (x' ∷ parted.c') (subst (λ es. BaseTiled 0 es (base_count l'.job)) parted.now good'.tiled)

  -- the element begins at the same base character in both
  same_start : tiling.0 ≡ tiling'.0
  same_start = pairs_tiled l.job l'.job parted.a parted.a' parted.first 0 tiling.0 tiling'.0 tiling.1 tiling'.1

  behind' : tiling'.0 + x'.bases ≤ upto l'
  behind' = omega (arith, same_start, tiling.2.0, kept.behind, kept.ends)

  -- the words before the element and after it, and what of them stands in the lines
  abbrev ws : List Piece
  ws = each (words_in l.job) parted.a

  abbrev ws' : List Piece
  ws' = each (words_in l'.job) parted.a'

  abbrev vs : List Piece
  vs = each (words_in l.job) parted.c

  abbrev vs' : List Piece
  vs' = each (words_in l'.job) parted.c'

  abbrev before : List Piece
  before = each (in_line l.job (from l) (upto l)) ws

  abbrev before' : List Piece
  before' = each (in_line l'.job (from l') (upto l')) ws'

  abbrev after : List Piece
  after = each (in_line l.job (from l) (upto l)) vs

  abbrev after' : List Piece
  after' = each (in_line l'.job (from l') (upto l')) vs'

  is : pieces l.job (from l) (upto l) ≡ before ++ (words_of l j ++ after)
  is = line-around l.job good (from l) (upto l) parted.a parted.c x parted.was all.1.0 kept.ahead kept.behind

  is' : pieces l'.job (from l') (upto l') ≡ before' ++ (words_of l' j ++ after')
  is' =
      line-around l'.job good' (from l') (upto l') parted.a' parted.c' x' parted.now all'.1.0
      (omega (arith, kept.begins, kept.ahead, same_start, tiling.2.0, tiling'.2.0)) (omega (arith, behind', tiling'.2.0))

  pairs_before : Pairs l.job l'.job before before'
  pairs_before =
      subst (λ (s : ℕ). Pairs l.job l'.job before (each (in_line l'.job s (upto l')) ws')) (sym kept.begins)
      (in_before l.job l'.job good good' (from l) (upto l) (upto l') 0 tiling.0 tiling'.0 ws ws'
      (all_words-same l.job l'.job good good' parted.a parted.a' parted.first all.0 all'.0)
      (good-words_of l.job good parted.a all.0) (good-words_of l'.job good' parted.a' all'.0)
      (words-tiled-of l.job good 0 tiling.0 parted.a tiling.1 all.0) (words-tiled-of l'.job good' 0 tiling'.0 parted.a' tiling'.1 all'.0)
      (omega (arith, tiling.2.0, kept.behind)) (omega (arith, behind')))

  pairs_after : Pairs l.job l'.job after after'
  pairs_after =
      in_after l.job l'.job good good' (from l) (upto l) (from l') (upto l') (tiling.0 + x.bases) (tiling'.0 + x'.bases) (base_count l.job) (base_count l'.job) vs vs'
      (all_words-same l.job l'.job good good' parted.c parted.c' parted.rest all.1.1 all'.1.1)
      (good-words_of l.job good parted.c all.1.1) (good-words_of l'.job good' parted.c' all'.1.1)
      (words-tiled-of l.job good (tiling.0 + x.bases) (base_count l.job) parted.c tiling.2.1 all.1.1)
      (words-tiled-of l'.job good' (tiling'.0 + x'.bases) (base_count l'.job) parted.c' tiling'.2.1 all'.1.1)
      (omega (arith, tiling.2.0, kept.ahead)) (omega (arith, tiling.2.0, kept.ahead, kept.begins, same_start)) (omega (arith, same_start, kept.ends))

  front_long : length before ≡ length before'
  front_long = pairs_long l.job l'.job before before' pairs_before

  rest-long : length after ≡ length after'
  rest-long = pairs_long l.job l'.job after after' pairs_after

  long : many l ≡ length before + length (words_of l j) + length after
  long = ap length is ∙ all-long before (words_of l j) after

  long' : many l' ≡ length before' + length (words_of l' j) + length after'
  long' = ap length is' ∙ all-long before' (words_of l' j) after'

  same-front : (k : ℕ) → k < length before → SameElement l.job (piece l k) l'.job (piece l' k)
  same-front k h =
      subst₂ (λ p q. SameElement l.job p l'.job q)
      (sym (ap (λ ps. get_or ps k nobody) is ∙ at_front before (words_of l j) after k h))
      (sym (ap (λ ps. get_or ps k nobody) is' ∙ at_front before' (words_of l' j) after' k (omega (arith, front_long))))
      (pairs_at l.job l'.job before before' pairs_before k h)

  same_rest : (i : ℕ) → i < length after → SameElement l.job (piece l (length before + length (words_of l j) + i)) l'.job (piece l' (length before + length (words_of l' j) + i))
  same_rest i h =
      subst₂ (λ p q. SameElement l.job p l'.job q)
      (sym (ap (λ ps. get_or ps (length before + length (words_of l j) + i) nobody) is ∙ at_rest before (words_of l j) after (length before) i refl))
      (sym (ap (λ ps. get_or ps (length before + length (words_of l' j) + i) nobody) is' ∙ at_rest before' (words_of l' j) after' (length before) i front_long))
      (pairs_at l.job l'.job after after' pairs_after i h)

  pub exchanges : Exchanges j l l'
  exchanges =
      record {
        n = length before;
        old = λ i h. ap (λ ps. get_or ps (length before + i) nobody) is ∙ at_part before (words_of l j) after (length before) i refl h;
        new = λ i h. ap (λ ps. get_or ps (length before + i) nobody) is' ∙ at_part before' (words_of l' j) after' (length before) i front_long h;
        part =
            record {
              some = some_words l.job x all.1.0;
              some' = some_words l'.job x' all'.1.0;
              there = omega (arith, long);
              each = omega (arith, long, long', front_long, rest-long);
              before = same-front;
              after = λ i h. same_rest i (omega (arith, long));
              first = (λ e. kept.number ∙ e, λ e. sym kept.number ∙ e);
            };
      }

  -- R-9: "if one element is exchanged for another and the line's breaks are kept, every element before it stays where it was, and all elements from the second
  -- after it onward move by one and the same amount. Both lines must be settable." The element stands from piece n on in both lines.
  pub one-element : (n : ℕ) × StandsFrom n j l × StandsFrom n j l' × Corrected n (length (words_of l j)) (length (words_of l' j)) l l'
  one-element = (exchanges.n, exchanges.old, exchanges.new, correction exchanges.n _ _ l l' set set' exchanges.part)
