-- The positions of a line by rows are those of the job's line, word by word: what stands before a word and what is put from it on make up the whole.
use Rattle.std.specs.Prelude.{◌≡◌, refl, Bool, true, false, ◌&&◌, ◌⊎◌, List, [], ◌∷◌, ◌++◌, ℕ, zero, suc, ◌+◌, ◌-◌, ◌≤◌, ◌<◌, min, max, ltb}
use Rattle.std.proofs.Math.Path.{sym, ap, ap₂}
use Rattle.std.proofs.Common.{◌∙◌, subst, true≢false, inl, inr, append-nil, append_assoc, arith, lt-ltb, ltb-false}
use Rattle.std.proofs.Math.Decide.{dec_lt}
use Rattle.std.proofs.Math.Seq.{append_snoc}
use Rattle.line.specs.declared.Side.{Side}
use Rattle.line.specs.declared.State.{State}
use Rattle.line.specs.Setting.{start, origin}
use Rattle.cells.specs.Rows.{Rows}
use Rattle.cells.specs.Cells.{cell_at, next, stop}
use Rattle.door.specs.declared.Piece.{Piece}
use Rattle.door.specs.Job.{Job, base_count}
use Rattle.door.specs.Passed.{Passed, BaseTiled}
use Rattle.job.specs.Line.{words, cuts, pieces, seen, permitted, base_at, reading_at, base_in, reading_in}
use Rattle.job.specs.Line as line
use Rattle.job.specs.Pieces.{IsWord}
use Rattle.job.proofs.Pieces.{is_word, into, none_before}
use Rattle.job.specs.Walk.{state_of}
use Rattle.job.proofs.Walk.{state-none, base_more, reading-more, base-none, reading-none, permitted-within}
use Rattle.job.specs.Promise.{Chain}
use Rattle.join.specs.Rows.{is_cut, upto, Holds}
use Rattle.join.specs.Join as join
use Rattle.positions.specs.Positions.{Sheet, piece_of, put_from, base_put, side_put, base_of, side_of, by_line}
use Rattle.positions.specs.Walk.{none_from}
use Rattle.posjoin.specs.Piece.{sheet_of, Same, same, base_put_lem, side_put_lem}

-- a line of the job may begin here
abbrev pub Begins : Job → ℕ → Type 0
Begins job s = (s ≡ 0) ⊎ (permitted job s ≡ true)

-- no line begins or ends within a word that may not be cut
uncut : (job : Job) (x : Piece) → IsWord job x → is_cut job x ≡ false → (e : ℕ) → permitted job e ≡ true → x.base < e → e < x.base + x.bases → ⊥
uncut job x at f e p h l = go (cuts job x) refl f
  where
    go : (b : Bool) → cuts job x ≡ b → (b && ltb 1 x.bases) ≡ false → ⊥
    go true j z = omega (arith, ltb-false 1 x.bases z)
    go false j z = true≢false (sym p ∙ permitted-within job x at e h l ∙ j)

-- so a line that begins in one begins with it
pub opens : (job : Job) (x : Piece) → IsWord job x → (s : ℕ) → Begins job s → s < x.base + x.bases → is_cut job x ≡ false → s ≤ x.base
opens job x at s (inl z) k j = omega arith
opens job x at s (inr z) k j = by (dec_lt x.base s)
  where
    by : Dec (x.base < s) → s ≤ x.base
    by (yes m) = absurd (uncut job x at j s z m k)
    by (no m) = omega arith

module _ (job : Job) (passed : Passed job) (t : Rows) (table : Holds job t) where
  abbrev g : Sheet
  g = sheet_of job t

  -- the piece of a word in the line from s up to e
  module _ (x : Piece) (at : IsWord job x) (s i e : ℕ) (from : max s x.base ≡ i) (before : i < x.base + x.bases) (ahead : i < e)
      (first : is_cut job x ≡ false → s ≤ x.base) (permits : permitted job e ≡ true) where
    abbrev d : ℕ
    d = min e (x.base + x.bases)

    lies : (x.base ≤ i) × (i < d) × (d ≤ x.base + x.bases)
    lies = (low s x.base from, least e (x.base + x.bases) ahead before, most e (x.base + x.bases))
      where
        low : (s b : ℕ) → max s b ≡ i → b ≤ i
        low s b e = omega arith

        least : (e z : ℕ) → i < e → i < z → i < min e z
        least e z h k = omega arith

        most : (e z : ℕ) → min e z ≤ z
        most e z = omega arith

    pub same-piece : Same job t i d (upto job x i d)
    same-piece = same job passed t table x at i d lies.0 lies.1 lies.2 (λ f. (start s x.base from (first f), last (x.base + x.bases) (closes f (dec_lt e (x.base + x.bases)))))
      where
        start : (s b : ℕ) → max s b ≡ i → s ≤ b → i ≡ b
        start s b e h = omega arith

        last : (z : ℕ) → z ≤ e → min e z ≡ z
        last z h = omega arith

        closes : is_cut job x ≡ false → Dec (e < x.base + x.bases) → x.base + x.bases ≤ e
        closes f (yes l) = absurd (uncut job x at f e permits (omega (arith, lies.0)) l)
        closes f (no l) = omega arith

    row-end : i + (cell_at t i).bases ≡ x.base + x.bases
    row-end = omega (arith, join.bases-at job passed t table x at i lies.0 before)

    pub stop_is : stop t i e ≡ d
    stop_is = ap (min e) row-end

    -- one piece more
    more : pieces job s d ≡ pieces job s x.base ++ (upto job x i d ∷ [])
    more = into job x at s d (omega (arith, lies.0, lies.1)) lies.2 ∙ ap (λ z. pieces job s x.base ++ z) (join.the_piece job passed t table x at s i d from lies.1 lies.2)

    seen-is : piece_of g i d ≡ seen job (upto job x i d)
    seen-is = join.piece-join job passed t table x at i d lies.0 lies.1 lies.2

    state-is : next (state_of job s x.base) (piece_of g i d) ≡ state_of job s d
    state-is = join.one job passed t table x at s i d from lies.1 lies.2

    -- what is put for the piece, and what the line's meaning has for it
    module _ (f : ℕ → ℕ → ℕ → List ℕ) (h : Piece → ℕ → List ℕ) (has : ℕ → ℕ → List ℕ)
        (puts : (i c : ℕ) (p : Piece) → Same job t i c p → (o : ℕ) → f i c o ≡ h p o)
        (adds : (s d e : ℕ) (p : Piece) → pieces job s e ≡ pieces job s d ++ (p ∷ []) → has s e ≡ has s d ++ h p (origin (state_of job s d) (seen job p))) where
      on : (k : ℕ) → (x.base + x.bases ≤ e → has s (x.base + x.bases) ++ put_from f g k (state_of job s (x.base + x.bases)) (x.base + x.bases) e ≡ has s e) →
          has s x.base ++ put_from f g (suc k) (state_of job s x.base) i e ≡ has s e
      unfolding put_from
      on k rest =
          rw (lt-ltb i e ahead, stop_is)
          (ap (λ z. has s x.base ++ (z ++ put_from f g k (next st (piece_of g i d)) (i + (cell_at t i).bases) e))
          (puts i d p same-piece (origin st (piece_of g i d)) ∙ ap (λ z. h p (origin st z)) seen-is)
          ∙ ap₂ (λ a b. has s x.base ++ (h p (origin st (seen job p)) ++ put_from f g k a b e)) state-is row-end
          ∙ sym (append_assoc (has s x.base) (h p (origin st (seen job p))) (put_from f g k (state_of job s d) end e))
          ∙ ap (λ z. z ++ put_from f g k (state_of job s d) end e) (sym (adds s x.base d p more))
          ∙ go (dec_lt e (x.base + x.bases)))
        where
          st : State
          st = state_of job s x.base

          end : ℕ
          end = x.base + x.bases

          p : Piece
          p = upto job x i (min e (x.base + x.bases))

          short : (e z : ℕ) → e < z → min e z ≡ e
          short e z l = omega arith

          long : (e z : ℕ) → z ≤ e → min e z ≡ z
          long e z l = omega arith

          go : Dec (e < x.base + x.bases) → has s d ++ put_from f g k (state_of job s d) end e ≡ has s e
          go (yes l) = ap (λ z. has s d ++ z) (none_from f g k (state_of job s d) end e (omega arith)) ∙ append-nil (has s d) ∙ ap (has s) (short e end l)
          go (no l) = ap (λ z. has s z ++ put_from f g k (state_of job s z) end e) (long e end (omega arith)) ∙ rest (omega arith)

  module _ (f : ℕ → ℕ → ℕ → List ℕ) (h : Piece → ℕ → List ℕ) (has : ℕ → ℕ → List ℕ)
      (puts : (i c : ℕ) (p : Piece) → Same job t i c p → (o : ℕ) → f i c o ≡ h p o)
      (adds : (s d e : ℕ) (p : Piece) → pieces job s e ≡ pieces job s d ++ (p ∷ []) → has s e ≡ has s d ++ h p (origin (state_of job s d) (seen job p)))
      (none : (s e : ℕ) → pieces job s e ≡ [] → has s e ≡ []) where
    most : (s b i : ℕ) → b ≡ i → s ≤ i → max s b ≡ i
    most s b i z l = omega arith

    -- on from a word's end
    walks : (front xs : List Piece) → words job ≡ front ++ xs → (i : ℕ) → BaseTiled i xs (base_count job) → (s e : ℕ) → s ≤ i → i ≤ e → e ≤ base_count job → permitted job e ≡ true →
        (k : ℕ) → e ≤ i + k → has s i ++ put_from f g k (state_of job s i) i e ≡ has s e
    walks front [] q i b s e l u n permits k room = ap (λ z. has s i ++ z) (none_from f g k (state_of job s i) i e (omega arith)) ∙ append-nil (has s i) ∙ ap (has s) (omega arith)
    walks front (x ∷ xs) q i b s e l u n permits k room =
        let at = is_word job passed front xs x q in
        go (dec_lt i e) at k room (λ m j v. walks (front ++ (x ∷ [])) xs (q ∙ sym (append_snoc front x xs)) (x.base + x.bases)
        (subst (λ z. BaseTiled (z + x.bases) xs (base_count job)) (sym b.0) b.1) s e (omega (arith, b.0)) j n permits m v)
      where
        go : Dec (i < e) → IsWord job x → (k : ℕ) → e ≤ i + k →
            ((m : ℕ) → x.base + x.bases ≤ e → e ≤ x.base + x.bases + m → has s (x.base + x.bases) ++ put_from f g m (state_of job s (x.base + x.bases)) (x.base + x.bases) e ≡ has s e) →
            has s i ++ put_from f g k (state_of job s i) i e ≡ has s e
        go (no m) at k r w = ap (λ z. has s i ++ z) (none_from f g k (state_of job s i) i e (omega arith)) ∙ append-nil (has s i) ∙ ap (has s) (omega arith)
        go (yes m) at zero r w = absurd (omega arith)
        go (yes m) at (suc k) r w =
            subst (λ z. has s z ++ put_from f g (suc k) (state_of job s z) i e ≡ has s e) b.0
            (on x at s i e (most s x.base i b.0 l) (omega (arith, b.0, at.good.counts.some)) m (λ _. omega (arith, b.0)) permits f h has puts adds k
            (λ j. w k j (omega (arith, b.0, at.good.counts.some))))

    -- a whole line
    pub line-join : (s e : ℕ) → Begins job s → s < e → e ≤ base_count job → permitted job e ≡ true → put_from f g (e - s) start s e ≡ has s e
    line-join s e begins l u permits =
        let v = join.covers job passed t table s (omega arith) in
        let x = v.x in
        let at = is_word job passed v.front v.rest x v.split in
        let empty = none_before job x at s v.from in
        ap (λ (z : ℕ). put_from f g z start s e) (one s e l)
        ∙ subst (λ z. z ++ put_from f g (suc (e - s - 1)) start s e ≡ has s e) (none s x.base empty)
        (subst (λ z. has s x.base ++ put_from f g (suc (e - s - 1)) z s e ≡ has s e) (state-none job s x.base empty)
        (on x at s s e (over s x.base v.from) v.ahead l (opens job x at s begins v.ahead) permits f h has puts adds (e - s - 1)
        (λ k. walks (v.front ++ (x ∷ [])) v.rest (v.split ∙ sym (append_snoc v.front x v.rest)) (x.base + x.bases) v.tiled s e
        (omega (arith, v.ahead)) k u permits (e - s - 1) (omega (arith, v.ahead)))))
      where
        one : (s e : ℕ) → s < e → e - s ≡ suc (e - s - 1)
        one s e l = omega arith

        over : (s b : ℕ) → b ≤ s → max s b ≡ s
        over s b h = omega arith

  -- THE JOIN: where the characters of a line stand by rows is where the job has them
  pub base-join : (s e : ℕ) → Begins job s → s < e → e ≤ base_count job → permitted job e ≡ true → base_of g s e ≡ base_in job s e
  unfolding base_of
  base-join s e b l u p = line-join (base_put g) (base_at job) (base_in job) (λ i c q w o. base_put_lem w o) (base_more job) (base-none job) s e b l u p

  pub reading-join : (side : Side) (s e : ℕ) → Begins job s → s < e → e ≤ base_count job → permitted job e ≡ true → side_of side g s e ≡ reading_in side job s e
  unfolding side_of
  reading-join side s e b l u p =
      line-join (side_put side g) (reading_at side job) (reading_in side job) (λ i c q w o. side_put_lem w side o) (λ s d e p more. reading-more job s d e p more side) (λ s e none. reading-none job s e none side) s e b l u p

  -- line by line
  by_lines : (f h : ℕ → ℕ → List ℕ) → ((s e : ℕ) → Begins job s → s < e → e ≤ base_count job → permitted job e ≡ true → f s e ≡ h s e) →
      (s : ℕ) (es : List ℕ) (d : ℕ) → Begins job s → Chain job s es d → by_line f s es ≡ line.by_line h s es
  by_lines f h q s [] d b c = refl
  by_lines f h q s (e ∷ es) d b c =
      let a = c.0.at in
      ap₂ (λ x y. x ++ y) (q s e b a.ahead a.within a.permits) (by_lines f h q e es d (inr a.permits) c.1)

  pub bases-join : (es : List ℕ) (d : ℕ) → Chain job 0 es d → by_line (base_of g) 0 es ≡ line.by_line (base_in job) 0 es
  bases-join es d c = by_lines (base_of g) (base_in job) base-join 0 es d (inl refl) c

  pub readings-join : (side : Side) (es : List ℕ) (d : ℕ) → Chain job 0 es d → by_line (side_of side g) 0 es ≡ line.by_line (reading_in side job) 0 es
  readings-join side es d c = by_lines (side_of side g) (reading_in side job) (reading-join side) 0 es d (inl refl) c
