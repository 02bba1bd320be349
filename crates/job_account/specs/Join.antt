-- Where table and job meet: for a job that passed the door and a table that holds it, what is told by rows is the account of the job's lines. Word by word, what is told of
-- the line before it and what its piece and those behind it add make up the whole.
use Rattle.std.specs.Prelude.{◌≡◌, refl, Bool, true, false, cond, ◌&&◌, List, [], ◌∷◌, ◌++◌, map, ltb, length}
use Rattle.std.proofs.Common.{sym, ◌∙◌, subst, append-nil, append_assoc, arith, lt-ltb, le-leb}
use Rattle.std.proofs.Math.Path.{ap, ap₂}
use Rattle.std.proofs.lemmas.List.{map-append, length-map}
use Prim.Native.Nat.{ℕ, zero, suc, ◌+◌, ◌-◌, ◌≤◌, ◌<◌, min, max}
use Rattle.std.proofs.Math.Decide.{dec_lt}
use Rattle.std.proofs.lemmas.Bool.{lt-leb}
use Rattle.std.proofs.Math.ListN.{get_or}
use Rattle.std.proofs.Math.Seq.{append_snoc}
use Rattle.line.specs.Setting.{start, furthest}
use Rattle.cells.specs.Rows.{Rows}
use Rattle.cells.specs.Cells.{cell_at, piece, stop}
use Rattle.door.specs.declared.Piece.{Piece}
use Rattle.door.specs.Job.{Job, base_count}
use Rattle.door.specs.Passed.{Passed, BaseTiled}
use Rattle.job.specs.Line.{part, words, cuts, pieces, seen, line_of, origins, by_line}
use Rattle.job.specs.Pieces.{IsWord}
use Rattle.job.proofs.Pieces.{is_word, into, none_before}
use Rattle.job.specs.Walk.{state_of}
use Rattle.job.proofs.Walk.{state-more, state-none, extent_of_lem}
use Rattle.job.specs.Promise.{nobody, Chain}
use Rattle.job.proofs.Stretches.{length-line}
use Rattle.account.specs.Step.{nothing}
use Rattle.account.proofs.Theorems.{earlier}
use Rattle.filling.specs.Lines.{extents_of}
use Rattle.join.specs.Rows.{upto, row_of, Holds}
use Rattle.join.specs.Join as join
use Rattle.job_account.specs.declared.Told.{Told}
use Rattle.job_account.specs.declared.Place.{Place}
use Rattle.job_account.specs.First.{first_in, within_word, behind-word}
use Rattle.job_account.specs.Rows.{row, row_by, start_in, index_in, row_in, rows_in}
use Rattle.job_account.specs.Theorems.{account_in}
use Rattle.job_account.specs.Tell.{count_in, standing_in}
use Rattle.job_account.specs.Tell as tell
use Rattle.job_account.specs.Table.{told_of, told_at, same, ended, rows_from, line_rows, pieces_from, pieces_in, ended_from, ended_in, behind, rows_by, counts_by}
use Rattle.job_account.specs.Line.{no_rows, no_pieces, none-ended}
use Rattle.job_account.specs.Lines.{counts_from, extents_from}

-- the indexes of the elements that the pieces of the line from s up to z are of
abbrev indexes : Job → ℕ → ℕ → List ℕ
indexes job s z = map (λ (p : Piece). first_in job p.base) (pieces job s z)

-- the rows from i on, of at most n pieces, the first of element k, once the line from s up to z is told
abbrev rows_on : Job → Rows → ℕ → ℕ → ℕ → ℕ → ℕ → ℕ → List ℕ
rows_on job t s e n z k i = rows_from t (indexes job s z) k n (state_of job s z) (standing_in job s z) i e

-- what is told of the line from s up to z, and the pieces from i on, make up the line from s up to e
record Joined (job : Job) (t : Rows) (s e n z k i : ℕ) : Type 0 where
  rows : rows_in job s z ++ rows_on job t s e n z k i ≡ rows_in job s e
  many : count_in job s z + pieces_from t n i e ≡ count_in job s e
  ends : k + ended_from t n i e ≡ first_in job e

-- a whole line
pub record LineJoined (job : Job) (t : Rows) (s e : ℕ) : Type 0 where
  pub rows : line_rows t (first_in job s) s e ≡ rows_in job s e
  pub many : pieces_in t s e ≡ count_in job s e
  pub ends : first_in job s + ended_in t s e ≡ first_in job e

-- a piece of a word begins in it
begins : (job : Job) (x : Piece) (i c : ℕ) → x.base ≤ i → i < x.base + x.bases → (x.base ≤ (upto job x i c).base) × ((upto job x i c).base < x.base + x.bases)
unfolding part
begins job x i c l h = go (cuts job x && ltb (c - i) x.bases)
  where
    go : (b : Bool) → let p = cond b (part job x (i - x.base) (c - i)) x in (x.base ≤ p.base) × (p.base < x.base + x.bases)
    go true = (omega arith, omega arith)
    go false = (omega arith, omega arith)

module _ (job : Job) (door : Passed job) (t : Rows) (table : Holds job t) (s e : ℕ) where
  -- nothing more is told where the line ends
  done : (n z k i : ℕ) → z ≡ e → e ≤ i → k ≡ first_in job e → Joined job t s e n z k i
  done n z k i h l f =
      record {
        rows = ap (λ r. rows_in job s z ++ r) (no_rows t (indexes job s z) k n (state_of job s z) (standing_in job s z) i e l) ∙ append-nil (rows_in job s z) ∙ ap (rows_in job s) h;
        many = omega (arith, no_pieces t n i e l, ap (count_in job s) h);
        ends = omega (arith, none-ended t n i e l, f);
      }

  -- the piece of a word in the line
  module _ (front : List Piece) (x : Piece) (xs : List Piece) (split : words job ≡ front ++ (x ∷ xs)) (i : ℕ) (from : max s x.base ≡ i) (before : i < x.base + x.bases)
      (ahead : i < e) where
    at : IsWord job x
    at = is_word job door front xs x split

    abbrev d : ℕ
    d = min e (x.base + x.bases)

    abbrev n : ℕ
    n = count_in job s x.base

    lies : (x.base ≤ i) × (i < d) × (d ≤ x.base + x.bases)
    lies = (low s x.base from, least e (x.base + x.bases) ahead before, most e (x.base + x.bases))
      where
        low : (s b : ℕ) → max s b ≡ i → b ≤ i
        low s b e = omega arith

        least : (e z : ℕ) → i < e → i < z → i < min e z
        least e z h k = omega arith

        most : (e z : ℕ) → min e z ≤ z
        most e z = omega arith

    row-end : i + (cell_at t i).bases ≡ x.base + x.bases
    row-end = omega (arith, join.bases-at job door t table x at i lies.0 before)

    stop_is : stop t i e ≡ d
    stop_is = ap (min e) row-end

    abbrev p : Piece
    p = upto job x i (min e (x.base + x.bases))

    -- one piece more
    more : pieces job s d ≡ pieces job s x.base ++ (p ∷ [])
    more = into job x at s d (omega (arith, lies.0, lies.1)) lies.2 ∙ ap (λ z. pieces job s x.base ++ z) (join.the_piece job door t table x at s i d from lies.1 lies.2)

    seen-is : piece t i d ≡ seen job p
    seen-is = join.piece-join job door t table x at i d lies.0 lies.1 lies.2

    told : told_at t i d (state_of job s x.base) n (standing_in job s x.base)
        ≡ record { account = account_in job s d n; start = start_in job s d n; st = state_of job s d; before = standing_in job s d }
    told =
        ap (λ z. told_of z (state_of job s x.base) n (standing_in job s x.base)) seen-is
        ∙ same (tell.account-is job door s x.base d p more) (tell.start_is job door s x.base d p more) (sym (state-more job s x.base d p more))
        (tell.stands-is job door s x.base d p more)

    one_more : count_in job s d ≡ n + 1
    one_more = tell.one_more job door s x.base d p more

    -- its element's index
    abbrev k : ℕ
    k = first_in job x.base

    own : first_in job p.base ≡ k
    own = let b = begins job x i d lies.0 before in within_word job x at p.base b.0 b.1

    indexes-more : indexes job s d ≡ indexes job s x.base ++ (k ∷ [])
    indexes-more =
        ap (map (λ (p : Piece). first_in job p.base)) more
        ∙ map-append (λ (p : Piece). first_in job p.base) (pieces job s x.base) (p ∷ [])
        ∙ ap (λ (z : ℕ). indexes job s x.base ++ (z ∷ [])) own

    count-indexes : length (indexes job s x.base) ≡ n
    count-indexes = length-map (pieces job s x.base) (λ (p : Piece). first_in job p.base) ∙ sym (length-line job s x.base)

    -- an index of the list is that of the piece
    index_at : (j : ℕ) → j < n → get_or (indexes job s x.base) j 0 ≡ index_in job s d j
    index_at j h =
        of (pieces job s x.base) j (omega (arith, length-line job s x.base))
        ∙ sym (tell.index-old job door s x.base d p more j h)
      where
        of : (ps : List Piece) (j : ℕ) → j < length ps → get_or (map (λ (p : Piece). first_in job p.base) ps) j 0 ≡ first_in job (get_or ps j nobody).base
        of [] j h = absurd (omega arith)
        of (p ∷ ps) zero h = refl
        of (p ∷ ps) (suc j) h = of ps j (omega arith)

    -- its row
    row_is : row (λ j. get_or (indexes job s x.base) j 0) k (start_in job s d n) (account_in job s d n) ≡ row_in job s d n
    row_is =
        row_by (λ j. get_or (indexes job s x.base) j 0) (index_in job s d) n k (start_in job s d n) (account_in job s d n)
        (earlier (line_of job s d) (origins job s d) n) index_at
        ∙ ap (λ z. row (index_in job s d) z (start_in job s d n) (account_in job s d n)) (sym (tell.index-new job door s x.base d p more ∙ own))

    -- and those behind it
    abbrev next : ℕ
    next = k + ended t i e

    step : (m : ℕ) → rows_on job t s e (suc m) x.base k i ≡ row_in job s d n ++ rows_on job t s e m d next (x.base + x.bases)
    unfolding rows_from
    step m =
        rw (lt-ltb i e ahead, stop_is, count-indexes)
        (ap₂ (λ (r : Told) z. row (λ j. get_or (indexes job s x.base) j 0) k r.start r.account
        ++ rows_from t (indexes job s x.base ++ (k ∷ [])) next m r.st r.before z e) told row-end
        ∙ ap₂ (λ r ks. r ++ rows_from t ks next m (state_of job s d) (standing_in job s d) (x.base + x.bases) e) row_is (sym indexes-more))

    rows_on_lem : (m : ℕ) → rows_in job s x.base ++ rows_on job t s e (suc m) x.base k i ≡ rows_in job s d ++ rows_on job t s e m d next (x.base + x.bases)
    rows_on_lem m =
        ap (λ r. rows_in job s x.base ++ r) (step m)
        ∙ sym (append_assoc (rows_in job s x.base) (row_in job s d n) (rows_on job t s e m d next (x.base + x.bases)))
        ∙ ap (λ r. r ++ rows_on job t s e m d next (x.base + x.bases)) (sym (tell.rows_more job door s x.base d p more))

    pieces-on : (m : ℕ) → pieces_from t (suc m) i e ≡ suc (pieces_from t m (x.base + x.bases) e)
    unfolding pieces_from
    pieces-on m = rw (lt-ltb i e ahead) (ap (λ (z : ℕ). suc (pieces_from t m z e)) row-end)

    ended-on : (m : ℕ) → ended_from t (suc m) i e ≡ ended t i e + ended_from t m (x.base + x.bases) e
    unfolding ended_from
    ended-on m = rw (lt-ltb i e ahead) (ap (λ (z : ℕ). ended t i e + ended_from t m z e) row-end)

    -- the index behind it, where the line goes on, and where it ends within it
    row_more : (cell_at t i).more ≡ x.more
    unfolding row_of
    row_more = ap (λ z. z.more) (join.has job door t table x at i lies.0 before)

    next-whole : x.base + x.bases ≤ e → next ≡ first_in job (x.base + x.bases)
    next-whole h = rw (row-end, row_more, le-leb (x.base + x.bases) e h) (sym (behind-word job x at))

    next-cut : e < x.base + x.bases → next ≡ first_in job e
    next-cut h = rw (row-end, lt-leb (x.base + x.bases) e h) (omega (arith, stays (cell_at t i).more, within_word job x at e (omega (arith, lies.0)) h))
      where
        stays : (m : Bool) → ◌≡◌ {A = ℕ} (cond m 0 0) 0
        stays true = refl
        stays false = refl

    on : (m : ℕ) → (x.base + x.bases ≤ e → Joined job t s e m (x.base + x.bases) (first_in job (x.base + x.bases)) (x.base + x.bases)) → Joined job t s e (suc m) x.base k i
    on m rest = go (dec_lt e (x.base + x.bases))
      where
        short : (e z : ℕ) → e < z → min e z ≡ e
        short e z l = omega arith

        long : (e z : ℕ) → z ≤ e → min e z ≡ z
        long e z l = omega arith

        go : Dec (e < x.base + x.bases) → Joined job t s e (suc m) x.base k i
        go (yes l) =
            let is = short e (x.base + x.bases) l in
            record {
              rows =
                  rows_on_lem m
                  ∙ ap (λ r. rows_in job s d ++ r) (no_rows t (indexes job s d) next m (state_of job s d) (standing_in job s d) (x.base + x.bases) e (omega arith))
                  ∙ append-nil (rows_in job s d) ∙ ap (rows_in job s) is;
              many = omega (arith, pieces-on m, no_pieces t m (x.base + x.bases) e (omega arith), one_more, ap (count_in job s) is);
              ends = omega (arith, ended-on m, next-cut l, none-ended t m (x.base + x.bases) e (omega arith));
            }
        go (no l) =
            let is = long e (x.base + x.bases) (omega arith) in
            let more = ap (count_in job s) is in
            let one = next-whole (omega arith) in
            let r = rest (omega arith) in
            record {
              rows =
                  rows_on_lem m
                  ∙ ap₂ (λ z k. rows_in job s z ++ rows_on job t s e m z k (x.base + x.bases)) is one ∙ r.rows;
              many = omega (arith, pieces-on m, one_more, more, r.many);
              ends = omega (arith, ended-on m, one, r.ends);
            }

  -- on from a word's end
  walks : (front xs : List Piece) → words job ≡ front ++ xs → (i : ℕ) → BaseTiled i xs (base_count job) → s ≤ i → i ≤ e → e ≤ base_count job →
      (n : ℕ) → e ≤ i + n → Joined job t s e n i (first_in job i) i
  walks front [] q i b l u w n room = let is : i ≡ e = omega arith in done n i (first_in job i) i is (omega arith) (ap (first_in job) is)
  walks front (x ∷ xs) q i b l u w n room =
      go (dec_lt i e) n room (is_word job door front xs x q).good.counts.some (λ m j v.
      walks (front ++ (x ∷ [])) xs (q ∙ sym (append_snoc front x xs)) (x.base + x.bases)
      (subst (λ z. BaseTiled (z + x.bases) xs (base_count job)) (sym b.0) b.1) (omega (arith, b.0)) j w m v)
    where
      most : (s b i : ℕ) → b ≡ i → s ≤ i → max s b ≡ i
      most s b i z l = omega arith

      go : Dec (i < e) → (n : ℕ) → e ≤ i + n → 0 < x.bases →
          ((m : ℕ) → x.base + x.bases ≤ e → e ≤ x.base + x.bases + m → Joined job t s e m (x.base + x.bases) (first_in job (x.base + x.bases)) (x.base + x.bases)) →
          Joined job t s e n i (first_in job i) i
      go (no m) n r some g = let is : i ≡ e = omega arith in done n i (first_in job i) i is (omega arith) (ap (first_in job) is)
      go (yes m) zero r some g = absurd (omega arith)
      go (yes m) (suc n) r some g =
          subst (λ (z : ℕ). Joined job t s e (suc n) z (first_in job z) i) b.0
          (on front x xs q i (most s x.base i b.0 l) (omega (arith, b.0)) m n (λ j. g n j (omega (arith, b.0))))

  -- THE JOIN: what is told of a line by rows is the account of the job's line
  pub line-join : s < e → e ≤ base_count job → LineJoined job t s e
  line-join l u = begun (join.covers job door t table s (omega arith))
    where
      one : (s e : ℕ) → s < e → e - s ≡ suc (e - s - 1)
      one s e l = omega arith

      over : (s b : ℕ) → b ≤ s → max s b ≡ s
      over s b h = omega arith

      begun : join.Covers job s → LineJoined job t s e
      begun v =
          let x = v.x in
          let at = is_word job door v.front v.rest x v.split in
          let empty = none_before job x at s v.from in
          let none = tell.count_none job s x.base empty in
          let first = within_word job x at s v.from v.ahead in
          let j = on v.front x v.rest v.split s (over s x.base v.from) v.ahead l (e - s - 1)
          (λ h. walks (v.front ++ (x ∷ [])) v.rest (v.split ∙ sym (append_snoc v.front x v.rest)) (x.base + x.bases) v.tiled
          (omega (arith, v.ahead)) h u (e - s - 1) (omega (arith, v.ahead))) in
          record {
            rows =
                ap₂ (λ n k. rows_from t [] k n start nothing s e) (one s e l) first
                ∙ ap (λ ks. rows_from t ks (first_in job x.base) (suc (e - s - 1)) start nothing s e) (sym (ap (map (λ (p : Piece). first_in job p.base)) empty))
                ∙ ap₂ (λ st b. rows_from t (indexes job s x.base) (first_in job x.base) (suc (e - s - 1)) st b s e)
                (sym (state-none job s x.base empty)) (sym (tell.stands-none job s x.base empty))
                ∙ ap (λ r. r ++ rows_on job t s e (suc (e - s - 1)) x.base (first_in job x.base) s) (sym (tell.rows_none job s x.base empty))
                ∙ j.rows;
            many = ap (λ (n : ℕ). pieces_from t n s e) (one s e l) ∙ omega (arith, none, j.many);
            ends = ap₂ (λ (k n : ℕ). k + ended_from t n s e) first (one s e l) ∙ j.ends;
          }

-- Line by line.
module _ (job : Job) (door : Passed job) (t : Rows) (table : Holds job t) where
  pub rows_join : (place : Place) (s : ℕ) (es : List ℕ) (d : ℕ) → place.k ≡ first_in job s → Chain job s es d → rows_by t place s es ≡ by_line (rows_in job) s es
  rows_join place s [] d f c = refl
  rows_join place s (e ∷ es) d f c =
      let a = c.0.at in
      let j = line-join job door t table s e a.ahead a.within in
      ap₂ (λ x y. x ++ y) (ap (λ k. line_rows t k s e) f ∙ j.rows) (rows_join (behind t s e place) e es d (ap (λ k. k + ended_in t s e) f ∙ j.ends) c.1)

  pub counts-join : (place : Place) (s : ℕ) (es : List ℕ) (d : ℕ) → Chain job s es d → counts_by t place s es ≡ counts_from job place.q s es
  counts-join place s [] d c = refl
  counts-join place s (e ∷ es) d c =
      let a = c.0.at in
      let j = ap (λ n. place.q + n) (line-join job door t table s e a.ahead a.within).many in
      ap₂ (λ x y. x ∷ y) j (counts-join (behind t s e place) e es d c.1 ∙ ap (λ q. counts_from job q e es) j)

  pub extents-join : (s : ℕ) (es : List ℕ) (d : ℕ) → Chain job s es d → extents_of t s es ≡ extents_from job s es
  extents-join s [] d c = refl
  extents-join s (e ∷ es) d c =
      let a = c.0.at in
      ap₂ (λ x y. x ∷ y) (ap furthest (join.state-join job door t table s e a.ahead a.within) ∙ sym (extent_of_lem job s e)) (extents-join e es d c.1)
