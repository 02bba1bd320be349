-- "What one correction may disturb" (document 02, R-9), of jobs, by the positions of the characters in the result lists: two jobs that are answered with lines, and a line of each;
-- the lines have the same pieces but for a part. `correction` is the theorem: the pieces before the part are seen alike in both lines, and so are those after it, so that
-- `exchange` of `line/proofs/Exchange.antt` holds of the two lines. Nothing is asked of the jobs outside of them; `Exchanged` has the two jobs that differ in one element.
use Rattle.std.specs.Prelude.{◌≡◌, refl, Bool, true, false, ◌&&◌, List, ◌∷◌, ◌++◌, ◌↔◌, ℕ, zero, suc, ◌+◌, ◌≤◌, ◌<◌, eqb, length, get_or, take, drop}
use Rattle.std.proofs.Common.{sym, ap, ap₂, ◌∙◌, subst, subst₂, arith, add-zero, eqb-true, eq-eqb, ne_eqb, length-drop, take-append-drop, ext_get_or, get_or-take, get_or-drop, drop-drop, length-take-le}
use Rattle.std.proofs.lemmas.Bool.{eqb-false}
use Rattle.word.specs.Both.{places}
use Rattle.word.specs.Sides as word
use Rattle.readings.specs.Alike.{both-alike, record_alike}
use Rattle.line.specs.declared.Element.{Element}
use Rattle.line.specs.declared.Side.{Side}
use Rattle.line.specs.declared.Side.TheVariants.{Right, Left}
use Rattle.line.specs.Rules.{el, org, Least, Sounds}
use Rattle.line.specs.Setting.{settle}
use Rattle.line.specs.Exchange.{Stayed, Moved}
use Rattle.line.specs.Exchange as line
use Rattle.line.proofs.Exchange as line_proofs
use Rattle.door.specs.declared.Piece.{Piece}
use Rattle.door.specs.Job.{Job, base_count, entries, given, gloss_of}
use Rattle.door.specs.Entries.{length-entries}
use Rattle.job.specs.Line.{pieces, word_of, depths_at, seen, line_of, origins, ends, first_of, many_of, widths_of, widths_in, on_side, alone}
use Rattle.job.specs.Outcome.{readings}
use Rattle.job.specs.Promise.{IsLine, Stands}
use Rattle.job.specs.Laws.{entries_at}
use Rattle.job.proofs.Sound.{sounds}
use Rattle.job.specs.Words.{GoodPiece}
use Rattle.job.proofs.Stretches.{el-seen, length-line}
use Rattle.job.proofs.Belong as belong
use Rattle.job.specs.Clear.{BaseOf, start}
use Rattle.job.proofs.Characters as characters
use Rattle.job.specs.Demands as demands
use Rattle.job.proofs.Demands as demands_proofs
use Rattle.job.specs.Correction.{Line, result, IsSet, from, upto, many, piece, SameElement, PartExchanged, Throughout, Corrected, SameLine}

-- One line that is set.
module _ (l : Line) (set : IsSet l) where
  pub accepted : demands.Accepted l.job l.base l.ruby l.left l.lines
  accepted = demands_proofs.set-accepted l.job l.base l.ruby l.left l.lines set.count set.answer

  is-line : (m : ℕ) → m < set.count → IsLine 0 (ends l.job) (get_or (0 ∷ (result l).lines) m 0) (get_or (result l).lines m 0)
  is-line = characters.is-line l.job l.base l.ruby l.left l.lines set.count set.answer

  this : IsLine 0 (ends l.job) (from l) (upto l)
  this = is-line l.number set.there

  stands : Stands l.job (from l) (upto l) (origins l.job (from l) (upto l))
  stands = demands_proofs.lines-stand l.job l.base l.ruby l.left l.lines accepted (from l) (upto l) this

  sound : Sounds (line_of l.job (from l) (upto l))
  sound = sounds l.job (demands_proofs.good l.job l.base l.ruby l.left l.lines accepted) (from l) (upto l)

  good : (k : ℕ) → k < many l → GoodPiece l.job (piece l k)
  good = characters.piece-good l.job l.base l.ruby l.left l.lines accepted (from l) (upto l) this

  base-own : (k i : ℕ) → k < many l → i < (piece l k).bases →
      start (result l).base ((piece l k).base + i) ≡ org (origins l.job (from l) (upto l)) k + get_or (alone l.job (piece l k)).base i 0
  base-own = characters.base-own l.job l.base l.ruby l.left l.lines accepted (from l) (upto l) this

  reading-own : (side : Side) (k i : ℕ) → k < many l → i < many_of side (piece l k) →
      start (readings (result l) side) (first_of side (piece l k) + i) ≡ org (origins l.job (from l) (upto l)) k + get_or (on_side side (alone l.job (piece l k))) i 0
  reading-own = characters.reading-own l.job l.base l.ruby l.left l.lines accepted (from l) (upto l) this

  -- a line past the first begins past base character 0
  ahead : (m : ℕ) → m < set.count → get_or (0 ∷ (result l).lines) m 0 < get_or (result l).lines m 0
  ahead m h =
      (belong.line_after l.job 0 (base_count l.job) (ends l.job) (demands_proofs.lines-filled l.job l.base l.ruby l.left l.lines accepted) _ _ (is-line m h)).1

  later : (l.number ≡ 0 → ⊥) → 0 < from l
  later h = go l.number set.there h
    where
      go : (m : ℕ) → m < set.count → (m ≡ 0 → ⊥) → 0 < get_or (0 ∷ (result l).lines) m 0
      go zero k h = absurd (h refl)
      go (suc m) k h = omega (arith, ahead m (omega arith))

  -- Piece k is the job's first exactly where the line is its first line and k is 0.
  sorted : (k m : ℕ) → k < m → m < many l → (piece l k).base + (piece l k).bases ≤ (piece l m).base
  sorted = belong.bases-sorted l.job (demands_proofs.good l.job l.base l.ruby l.left l.lines accepted) (from l) (upto l)

  opens : (k : ℕ) → k < many l → eqb (piece l k).base 0 ≡ (eqb l.number 0 && eqb k 0)
  opens k h = go (eqb l.number 0) (eqb k 0) refl refl
    where
      within : (from l ≤ (piece l k).base) × ((piece l k).base + (piece l k).bases ≤ upto l)
      within =
          belong.all-at (belong.Between (from l) (upto l)) (pieces l.job (from l) (upto l))
          (belong.between l.job (demands_proofs.good l.job l.base l.ruby l.left l.lines accepted) (base_count l.job) (ends l.job)
          (demands_proofs.lines-filled l.job l.base l.ruby l.left l.lines accepted) (from l) (upto l) this)
          k h

      zeroth : (m : ℕ) × BaseOf l.job (from l) (upto l) m 0 → k ≡ 0 → (piece l k).base ≡ 0
      zeroth (zero, b) e = ap (λ m. (piece l m).base) e ∙ omega (arith, b.low)
      zeroth (suc m, b) e = absurd (omega (arith, b.low, sorted 0 (suc m) (omega arith) b.there, (good 0 (omega arith)).some))

      go : (a b : Bool) → eqb l.number 0 ≡ a → eqb k 0 ≡ b → eqb (piece l k).base 0 ≡ (a && b)
      go true true a b =
          let s : from l ≡ 0 = ap (λ m. get_or (0 ∷ (result l).lines) m 0) (eqb-true l.number 0 a) in
          eq-eqb (piece l k).base 0
          (zeroth (characters.base_of l.job l.base l.ruby l.left l.lines accepted (from l) (upto l) this 0 (omega arith) (omega (arith, ahead l.number set.there)))
          (eqb-true k 0 b))
      go true false a b =
          let n = eqb-false k 0 b in
          ne_eqb (piece l k).base 0 (λ z. omega (arith, sorted 0 k (omega arith) h, (good 0 (omega arith)).some))
      go false b a c = ne_eqb (piece l k).base 0 (λ z. omega (arith, later (eqb-false l.number 0 a), within.0))

-- What a line sees of one element in two jobs is the same, if it is the first of both or of neither.
first_entry : (xs ys : List ℕ) (a b m n : ℕ) → 0 < m → 0 < n → entries xs a m ≡ entries ys b n → get_or xs a 0 ≡ get_or ys b 0
first_entry xs ys a b m n h k e =
    ap (λ i. get_or xs i 0) (sym (add-zero a)) ∙ sym (entries_at xs a m 0 h) ∙ ap (λ zs. get_or zs 0 0) e ∙ entries_at ys b n 0 k ∙ ap (λ i. get_or ys i 0) (add-zero b)

module _ (job : Job) (p : Piece) (job' : Job) (q : Piece) (same : SameElement job p job' q) where
  same_word : word_of job p ≡ word_of job' q
  same_word =
      record_alike p.form (given job p) (gloss_of job p) (given job' q) (gloss_of job' q) same.alike ∙ ap (λ f. word.word_of f (given job' q) (gloss_of job' q)) same.form

  same-places : alone job p ≡ alone job' q
  same-places = both-alike p.form (given job p) (gloss_of job p) (given job' q) (gloss_of job' q) same.alike ∙ ap (λ f. places f (given job' q) (gloss_of job' q)) same.form

  pub same-bases : p.bases ≡ q.bases
  same-bases = sym (length-entries job.width p.base p.bases) ∙ ap length same.alike.given.width ∙ length-entries job'.width q.base q.bases

  same-widths : (side : Side) → widths_in side job p ≡ widths_in side job' q
  same-widths Right = same.alike.given.ruby_width
  same-widths Left = same.alike.width

  same-many : (side : Side) → many_of side p ≡ many_of side q
  same-many side =
      sym (length-entries (widths_of side job) (first_of side p) (many_of side p)) ∙ ap length (same-widths side) ∙ length-entries (widths_of side job') (first_of side q) (many_of side q)

  same_depths : 0 < p.bases → 0 < q.bases → eqb p.base 0 ≡ eqb q.base 0 → depths_at job p.base ≡ depths_at job' q.base
  same_depths h k t =
      let c = first_entry job.class job'.class p.base q.base p.bases q.bases h k same.alike.given.class in
      let w = first_entry job.width job'.width p.base q.base p.bases q.bases h k same.alike.given.width in
      let b = first_entry job.before job'.before p.base q.base p.bases q.bases h k same.before in
      let a = first_entry job.after job'.after p.base q.base p.bases q.bases h k same.after in
      let m = same.alike.given.em in
      let f = same.profile in
      cc

  pub same_seen : 0 < p.bases → 0 < q.bases → eqb p.base 0 ≡ eqb q.base 0 → seen job p ≡ seen job' q
  unfolding seen
  same_seen h k t = let w = same_word in let d = same_depths h k t in let f = same.form in cc

-- The two lines.
same_test : (m n : ℕ) → (m ≡ 0) ↔ (n ≡ 0) → eqb m 0 ≡ eqb n 0
same_test zero zero h = refl
same_test zero (suc n) h = absurd (omega (arith, h.0 refl))
same_test (suc m) zero h = absurd (omega (arith, h.1 refl))
same_test (suc m) (suc n) h = ne_eqb (suc m) 0 (λ z. omega arith) ∙ sym (ne_eqb (suc n) 0 (λ z. omega arith))

abbrev elements_of : Line → List Element
elements_of l = line_of l.job (from l) (upto l)

abbrev origins_of : Line → List ℕ
origins_of l = origins l.job (from l) (upto l)

module _ (l l' : Line) (set : IsSet l) (set' : IsSet l') (first : (l.number ≡ 0) ↔ (l'.number ≡ 0)) where
  -- piece k of the one and piece k' of the other, both the first of their line or neither
  module _ (k k' : ℕ) (opening : eqb k 0 ≡ eqb k' 0) (h : k < many l) (h' : k' < many l') (same : SameElement l.job (piece l k) l'.job (piece l' k')) where
    same-opening : eqb (piece l k).base 0 ≡ eqb (piece l' k').base 0
    same-opening = opens l set k h ∙ ap₂ (λ s t. s && t) (same_test l.number l'.number first) opening ∙ sym (opens l' set' k' h')

    same-element : el (elements_of l') k' ≡ el (elements_of l) k
    same-element =
        el-seen l'.job (from l') (upto l') k' h'
        ∙ sym (same_seen l.job (piece l k) l'.job (piece l' k') same (good l set k h).some (good l' set' k' h').some same-opening)
        ∙ sym (el-seen l.job (from l) (upto l) k h)

    -- its characters stand where its origins put them: what holds of these, with any place in the word added, holds throughout
    through : (H : (was now : ℕ) → Type 0) → ((w : ℕ) → H (org (origins_of l) k + w) (org (origins_of l') k' + w)) → Throughout H l l' k k'
    through H f = record { bases = bases; readings = reads }
      where
        one : alone l.job (piece l k) ≡ alone l'.job (piece l' k')
        one = same-places l.job (piece l k) l'.job (piece l' k') same

        bases : (i : ℕ) → i < (piece l k).bases → H (start (result l).base ((piece l k).base + i)) (start (result l').base ((piece l' k').base + i))
        bases i m =
            subst₂ H (sym (base-own l set k i h m))
            (sym (base-own l' set' k' i h' (omega (arith, same-bases l.job (piece l k) l'.job (piece l' k') same))
            ∙ ap (λ w. org (origins_of l') k' + get_or w.base i 0) (sym one)))
            (f (get_or (alone l.job (piece l k)).base i 0))

        reads : (side : Side) (i : ℕ) → i < many_of side (piece l k) →
            H (start (readings (result l) side) (first_of side (piece l k) + i)) (start (readings (result l') side) (first_of side (piece l' k') + i))
        reads side i m =
            subst₂ H (sym (reading-own l set side k i h m))
            (sym (reading-own l' set' side k' i h' (omega (arith, same-many l.job (piece l k) l'.job (piece l' k') same side))
            ∙ ap (λ w. org (origins_of l') k' + get_or (on_side side w) i 0) (sym one)))
            (f (get_or (on_side side (alone l.job (piece l k))) i 0))

-- a line by the elements before the n-th, the m elements from there on, and the rest
three-parts : (es : List Element) (n m : ℕ) → es ≡ take n es ++ (take m (drop n es) ++ drop (n + m) es)
three-parts es n m =
    sym (take-append-drop n es) ∙ ap (λ zs. take n es ++ zs) (sym (take-append-drop m (drop n es)) ∙ ap (λ zs. take m (drop n es) ++ zs) (drop-drop m n es))

module _ (n m m' : ℕ) (l l' : Line) (set : IsSet l) (set' : IsSet l') (x : PartExchanged n m m' l l') where
  abbrev es : List Element
  es = elements_of l

  abbrev es' : List Element
  es' = elements_of l'

  long : length es ≡ many l
  long = length-line l.job (from l) (upto l)

  long' : length es' ≡ many l'
  long' = length-line l'.job (from l') (upto l')

  -- what stands before the part, the part, and what stands after it
  front_long : length (take n es) ≡ n
  front_long = length-take-le n es (omega (arith, long, x.there))

  part-long : length (take m (drop n es)) ≡ m
  part-long = length-take-le m (drop n es) (omega (arith, length-drop n es, long, x.there))

  part-long' : length (take m' (drop n es')) ≡ m'
  part-long' = length-take-le m' (drop n es') (omega (arith, length-drop n es', long', x.there, x.each))

  rest-long : length (drop (n + m) es) + (n + m) ≡ many l
  rest-long = omega (arith, length-drop (n + m) es, long, x.there)

  same-front : take n es' ≡ take n es
  same-front =
      ext_get_or _ (take n es') (take n es) (length-take-le n es' (omega (arith, long', x.there, x.each)) ∙ sym front_long)
      (λ k h. let b : k < n = omega (arith, length-take-le n es' (omega (arith, long', x.there, x.each))) in
      get_or-take n es' k _ b
      ∙ same-element l l' set set' x.first k k refl (omega (arith, x.there)) (omega (arith, x.there, x.each)) (x.before k b)
      ∙ sym (get_or-take n es k _ b))

  -- after it no piece is the first of its line
  inner : (i : ℕ) → eqb (n + m + i) 0 ≡ eqb (n + m' + i) 0
  inner i = ne_eqb (n + m + i) 0 (λ z. omega (arith, x.some)) ∙ sym (ne_eqb (n + m' + i) 0 (λ z. omega (arith, x.some')))

  same_rest : drop (n + m') es' ≡ drop (n + m) es
  same_rest =
      let k = length-drop (n + m') es' in
      ext_get_or _ (drop (n + m') es') (drop (n + m) es) (omega (arith, rest-long, long', x.each, x.there))
      (λ i h.
      get_or-drop (n + m') es' i _
      ∙ same-element l l' set set' x.first (n + m + i) (n + m' + i) (inner i) (omega (arith, long', x.each)) (omega (arith, long')) (x.after i (omega (arith, long', x.each)))
      ∙ sym (get_or-drop (n + m) es i _))

  is' : es' ≡ take n es ++ (take m' (drop n es') ++ drop (n + m) es)
  is' = three-parts es' n m' ∙ ap₂ (λ a c. a ++ (take m' (drop n es') ++ c)) same-front same_rest

  exchanged : line.Exchanged (take n es) (take m (drop n es)) (take m' (drop n es')) (drop (n + m) es) (origins_of l) (origins_of l')
  exchanged =
      line_proofs.exchange l.job.measure l'.job.measure (take n es) (take m (drop n es)) (take m' (drop n es')) (drop (n + m) es) (origins_of l) (origins_of l')
      (subst Sounds (three-parts es n m) (sound l set)) (subst Sounds is' (sound l' set'))
      (subst (λ es. Least l.job.measure es (origins_of l)) (three-parts es n m) (stands l set)) (subst (λ es. Least l'.job.measure es (origins_of l')) is' (stands l' set'))

  abbrev Shift : ℕ → ℕ → Type 0
  Shift = Moved exchanged.forth exchanged.back

  shifted : (i : ℕ) → 1 ≤ i → n + m + i < many l → Shift (org (origins_of l) (n + m + i)) (org (origins_of l') (n + m' + i))
  shifted i h k =
      subst₂ (λ a b. Shift (org (origins_of l) a) (org (origins_of l') b)) (ap₂ (λ a b. a + b + i) front_long part-long) (ap₂ (λ a b. a + b + i) front_long part-long')
      (exchanged.moves i h (omega (arith, rest-long))).origin

  -- R-9: "if one element is exchanged for another and the line's breaks are kept, every element before it stays where it was, and all elements from the second
  -- after it onward move by one and the same amount. Both lines must be settable."
  pub correction : Corrected n m m' l l'
  correction =
      record {
        stays = λ k h.
            let o = (exchanged.stays k (omega (arith, front_long))).origin in
            through l l' set set' x.first k k refl (omega (arith, x.there)) (omega (arith, x.there, x.each)) (x.before k h) Stayed (λ w. omega (arith, o));
        forth = exchanged.forth;
        back = exchanged.back;
        moves = λ i h k.
            let o = shifted i h k in
            through l l' set set' x.first (n + m + i) (n + m' + i) (inner i) k (omega (arith, x.each)) (x.after i k) Shift (λ w. omega (arith, o));
      }

pub untouched : (l l' : Line) → IsSet l → IsSet l' → SameLine l l' → (k : ℕ) → k < many l → Throughout Stayed l l' k k
unfolding origins
untouched l l' set set' x k h =
    let o : org (origins_of l) k ≡ org (origins_of l') k = ap (λ zs. org (settle zs) k) (sym same) in
    through l l' set set' x.first k k refl h (omega (arith, x.each)) (x.all k h) Stayed (λ w. omega (arith, o))
  where
    same : elements_of l' ≡ elements_of l
    same =
        let a = length-line l.job (from l) (upto l) in
        let b = length-line l'.job (from l') (upto l') in
        ext_get_or _ _ _ (omega (arith, x.each)) (λ i m. same-element l l' set set' x.first i i refl (omega (arith, x.each)) (omega arith) (x.all i (omega (arith, x.each))))
