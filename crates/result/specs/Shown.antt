-- An element of the job by its rows, and with it a line: what is printed of the element from its first row in the line up to its last is what of the element stands there. A J with a mono
-- left reading has a piece for each character; the characters of either side are those from the first piece's first up to the last one's end.
use Rattle.std.specs.Prelude.{◌≡◌, Bool, true, false, cond, ◌&&◌, List, [], ◌∷◌, ◌++◌}
use Rattle.std.proofs.Math.Path.{refl, sym, ap, subst}
use Rattle.std.proofs.Common.{ap₂, ◌∙◌}
use Prim.Native.Nat.{ℕ, zero, suc, ◌+◌, ◌-◌, ◌≤◌, ◌<◌, min, max}
use native.Mathlib.Omega.{arith}
use Rattle.std.proofs.Math.Decide.{dec_lt}
use borrow.Author.Tests.{lt-ltb, le-ltb, ne_eqb}
use Rattle.std.proofs.Math.Dec.{ltb}
use Rattle.basics.specs.Lists.{each, All}
use Rattle.line.specs.declared.Side.{Side}
use Rattle.line.specs.declared.Side.TheVariants.{Right, Left}
use Rattle.word.specs.Both.{apart}
use Rattle.cells.specs.Rows.{Rows}
use Rattle.cells.specs.Cells.{cell_at, stop}
use Rattle.door.specs.declared.Piece.{Piece}
use Rattle.door.specs.Job.{Job, base_count, elements}
use Rattle.door.specs.Passed.{Passed, BaseTiled}
use Rattle.job.specs.Line.{part, cuts, in_line, permitted, first_of, many_of}
use Rattle.job.specs.Pieces.{IsElement, IsWord}
use Rattle.job.proofs.Pieces.{all-elements, whole_word, single-word, single-whole, in_by, in_ahead, in_behind}
use Rattle.job.specs.Tiles.{Shares, read_to}
use Rattle.job.proofs.Tiles.{reading_shares}
use Rattle.job.proofs.Walk.{apart-cuts}
use Rattle.join.specs.Rows.{is_cut, upto, Holds}
use Rattle.join.specs.Join as join
use Rattle.positions.specs.Positions.{first, reading_end}
use Rattle.posjoin.specs.Piece.{Same, same}
use Rattle.posjoin.specs.Join.{Begins, opens, same-piece, stop_is}
use Rattle.result.specs.Text.{bytes, letter, rows, of_reading, of_piece, printed}
use Rattle.result.specs.ByRows.{behind, last_piece, closes, side_rows, of_rows, elements_text}
use Rattle.result.specs.Element.{Table, last-next, last-here}

-- A piece by the numbers of its rows, from i up to c; the last of those that it is made of begins at z.
record Shown (t : Rows) (i z c : ℕ) (p : Piece) : Type 0 where
  pub base : p.base ≡ i
  pub bases : p.bases ≡ c - i
  pub first : (side : Side) → first_of side p ≡ first side t i
  pub end : (side : Side) → first_of side p + many_of side p ≡ reading_end side t z c

-- then their rows are the same
side-text : {t : Rows} {i z c : ℕ} {p : Piece} → Shown t i z c p → (side : Side) (positions : List ℕ) → side_rows side t positions i z c ≡ of_reading side positions p
unfolding side_rows of_reading
side-text {t} {i} {z} {c} {p} q side positions = ap₂ (rows (letter side) positions) (sym (q.first side)) (less (q.first side) (q.end side))
  where
    less : {r y a n : ℕ} → a ≡ r → a + n ≡ y → y - r ≡ n
    less e f = omega arith

element_text : (e : ℕ) {t : Rows} {i c : ℕ} {p : Piece} → closes t i e ≡ c → Shown t i (last_piece t i e) c p → (base ruby left : List ℕ) → of_rows t base ruby left i e ≡ of_piece base ruby left p
unfolding of_rows of_piece
element_text e {t} {i} {c} {p} k q base ruby left =
    rw k (ap₂ (λ x y. x ++ y) (ap₂ (rows (bytes "b") base) (sym q.base) (sym q.bases)) (ap₂ (λ x y. x ++ y) (side-text q Right ruby) (side-text q Left left)))

module _ (job : Job) (passed : Passed job) (t : Rows) (table : Holds job t) (s e : ℕ) (begins : Begins job s) (within : e ≤ base_count job) (permits : permitted job e ≡ true) where
  whole-table : Table t e
  whole-table = record { n = base_count job; sound = join.sound job passed t table; within = within }

  module _ (x : Piece) (at : IsElement job x) (i : ℕ) (from : max s x.base ≡ i) (before : i < x.base + x.bases) (ahead : i < e) where
    abbrev d : ℕ
    d = min e (x.base + x.bases)

    lies : (x.base ≤ i) × (i < d) × (d ≤ x.base + x.bases) × (d ≤ e)
    lies = (low s x.base from, least e (x.base + x.bases) ahead before, most e (x.base + x.bases), under e (x.base + x.bases))
      where
        low : (s b : ℕ) → max s b ≡ i → b ≤ i
        low s b e = omega arith

        least : (e z : ℕ) → i < e → i < z → i < min e z
        least e z h k = omega arith

        most : (e z : ℕ) → min e z ≤ z
        most e z = omega arith

        under : (e z : ℕ) → min e z ≤ e
        under e z = omega arith

    -- Of an element that is one word.
    module _ (one : apart x.form x.gloss ≡ false) where
      word : IsWord job x
      word = whole_word job passed x at one

      begun : is_cut job x ≡ false → s ≤ x.base
      begun = opens job x word s begins (omega (arith, from, before))

      whole-last : last_piece t i e ≡ i
      whole-last = last-here whole-table i ahead (omega (arith, ap (λ (b : Bool). cond b (i + (cell_at t i).bases) e) (join.more-at job passed t table x word i lies.0 before ∙ at.last)))

      whole-shown : (closes t i e ≡ d) × Shown t i (last_piece t i e) d (upto job x i d)
      whole-shown =
          let q = same-piece job passed t table x word s i e from before ahead begun permits in (
            ap (λ (z : ℕ). stop t z e) whole-last ∙ stop_is job passed t table x word s i e from before ahead begun permits,
            subst (λ (z : ℕ). Shown t i z d (upto job x i d)) (sym whole-last) (record { base = q.base; bases = q.bases; first = q.first; end = q.end }),
          )

    -- Of a J with a mono left reading: each of its characters is a word.
    module _ (many : apart x.form x.gloss ≡ true) where
      j : cuts job x ≡ true
      j = apart-cuts job x many

      share : (side : Side) → Shares job (first_of side) (many_of side) (read_to side job) x
      share side = reading_shares side job x at.good

      -- the row of its character y
      module _ (y : ℕ) (low : x.base ≤ y) (high : y < x.base + x.bases) where
        abbrev own : Piece
        own = part job x (y - x.base) 1

        single : IsWord job (part job x (y - x.base) 1)
        single = single-word job passed x at many (y - x.base) (omega arith)

        there : (own.base ≡ y) × (own.bases ≡ 1)
        unfolding part
        there = (omega arith, refl)

        row-bases : (cell_at t y).bases ≡ 1
        row-bases = omega (arith, join.bases-at job passed t table own single y (omega (arith, there.0)) (omega (arith, there)), there)

        row_more : (cell_at t y).more ≡ ltb (y - x.base + 1) x.bases
        unfolding part
        row_more = join.more-at job passed t table own single y (omega arith) (omega arith) ∙ rw many

        -- its characters
        single-same : Same job t y (y + 1) own
        unfolding part
        single-same =
            let uncut = ap (λ (b : Bool). b && ltb 1 1) (single-whole job x (y - x.base)) in
            subst (Same job t y (y + 1)) (join.upto-whole job passed t table own single uncut y (y + 1) (omega arith))
            (same job passed t table own single y (y + 1) (omega arith) (omega arith) (omega arith) (λ _. (omega arith, omega arith)))

        row_first : (side : Side) → first side t y ≡ first_of side x + read_to side job x y
        row_first side =
            sym (single-same.first side) ∙ (share side).begins j (y - x.base) 1 (omega arith) ∙ ap (λ (k : ℕ). first_of side x + read_to side job x k) (up x.base low)
          where
            up : (b : ℕ) → b ≤ y → b + (y - b) ≡ y
            up b h = omega arith

        row-end : (side : Side) → reading_end side t y (y + 1) ≡ first_of side x + read_to side job x (y + 1)
        row-end side =
            omega (
              arith,
              single-same.end side,
              (share side).begins j (y - x.base) 1 (omega arith),
              (share side).takes j (y - x.base) 1 (omega arith),
              ap (read_to side job x) (up x.base low),
            )
          where
            up : (b : ℕ) → b ≤ y → b + (y - b) + 1 ≡ y + 1
            up b h = omega arith

      -- the last piece is the last character in the line
      row-behind : (y : ℕ) → x.base ≤ y → y + 1 < d → behind t y e ≡ y + 1
      row-behind y low high = rw (row_more y low (omega (arith, lies)) ∙ lt-ltb (y - x.base + 1) x.bases (omega (arith, lies)), row-bases y low (omega (arith, lies)))

      last-behind : (y : ℕ) → x.base ≤ y → y + 1 ≡ d → e ≤ behind t y e
      last-behind y low q = go (dec_lt (y + 1) (x.base + x.bases))
        where
          short : (z : ℕ) → y + 1 ≡ min e z → y + 1 < z → e ≡ y + 1
          short z k l = omega arith

          go : Dec (y + 1 < x.base + x.bases) → e ≤ behind t y e
          go (yes l) =
              let h : y < x.base + x.bases = omega arith in
              rw (row_more y low h ∙ lt-ltb (y - x.base + 1) x.bases (omega arith), row-bases y low h) (omega (arith, short (x.base + x.bases) q l))
          go (no l) = rw (row_more y low (omega (arith, lies)) ∙ le-ltb (y - x.base + 1) x.bases (omega arith)) (omega arith)

      last-at : (k y : ℕ) → x.base ≤ y → y + 1 + k ≡ d → last_piece t y e ≡ d - 1
      last-at zero y low q = last-here whole-table y (omega (arith, lies)) (last-behind y low (omega arith)) ∙ omega arith
      last-at (suc k) y low q =
          let b = row-behind y low (omega arith) in
          last-next whole-table y (omega (arith, lies)) (omega (arith, b, lies)) ∙ ap (λ (z : ℕ). last_piece t z e) b ∙ last-at k (y + 1) (omega arith) (omega arith)

      last-is : last_piece t i e ≡ d - 1
      last-is = last-at (d - i - 1) i lies.0 (omega (arith, lies.1))

      closes-is : closes t i e ≡ d
      closes-is =
          ap (λ (z : ℕ). stop t z e) last-is ∙ ap (λ (z : ℕ). min e (d - 1 + z)) (row-bases (d - 1) (omega (arith, lies)) (omega (arith, lies))) ∙ under (x.base + x.bases) lies.1
        where
          under : (z : ℕ) → i < min e z → min e (min e z - 1 + 1) ≡ min e z
          under z h = omega arith

      -- where what stands in the line begins and ends
      abbrev Stands : Side → Type 0
      Stands side =
          (first_of side (upto job x i d) ≡ first_of side x + read_to side job x i)
          × (first_of side (upto job x i d) + many_of side (upto job x i d) ≡ first_of side x + read_to side job x d)

      part-stands : (side : Side) → Stands side
      part-stands side = go (dec_lt (d - i) x.bases)
        where
          sh : Shares job (first_of side) (many_of side) (read_to side job) x
          sh = share side

          low : (b : ℕ) → b ≤ i → b + (i - b) ≡ i
          low b h = omega arith

          high : (b c : ℕ) → b ≤ i → i < c → b + (i - b) + (c - i) ≡ c
          high b c h k = omega arith

          go : Dec (d - i < x.bases) → Stands side
          go (yes l) =
              let f = sh.begins j (i - x.base) (d - i) (omega (arith, lies)) in
              let g = sh.takes j (i - x.base) (d - i) (omega (arith, lies)) in
              let a = ap (read_to side job x) (low x.base lies.0) in
              let b = ap (read_to side job x) (high x.base d lies.0 lies.1) in
              rw (j, lt-ltb (d - i) x.bases l) (omega (arith, f, a), omega (arith, f, g, a, b))
          go (no l) =
              rw (j, le-ltb (d - i) x.bases (omega arith))
              (omega (arith, sh.none i (omega (arith, lies))), omega (arith, sh.all d (omega (arith, lies))))

      part-based : ((upto job x i d).base ≡ i) × ((upto job x i d).bases ≡ d - i)
      unfolding part
      part-based = go (dec_lt (d - i) x.bases)
        where
          go : Dec (d - i < x.bases) → ((upto job x i d).base ≡ i) × ((upto job x i d).bases ≡ d - i)
          go (yes l) = rw (j, lt-ltb (d - i) x.bases l) (omega (arith, lies.0), refl)
          go (no l) = rw (j, le-ltb (d - i) x.bases (omega arith)) (omega (arith, lies), omega (arith, lies))

      parts-shown : (closes t i e ≡ d) × Shown t i (last_piece t i e) d (upto job x i d)
      parts-shown = (
        closes-is,
        record {
          base = part-based.0;
          bases = part-based.1;
          first = λ side. (part-stands side).0 ∙ sym (row_first i lies.0 before side);
          end = λ side. (part-stands side).1 ∙ sym (last_end side);
        },
      )
        where
          one : (c : ℕ) → i < c → c - 1 + 1 ≡ c
          one c h = omega arith

          last_end : (side : Side) → reading_end side t (last_piece t i e) d ≡ first_of side x + read_to side job x d
          last_end side =
              ap₂ (reading_end side t) last-is (sym (one d lies.1)) ∙ row-end (d - 1) (omega (arith, lies)) (omega (arith, lies)) side
              ∙ ap (λ (k : ℕ). first_of side x + read_to side job x k) (one d lies.1)

    shown : (closes t i e ≡ d) × Shown t i (last_piece t i e) d (upto job x i d)
    shown = go (apart x.form x.gloss) refl
      where
        go : (b : Bool) → apart x.form x.gloss ≡ b → (closes t i e ≡ d) × Shown t i (last_piece t i e) d (upto job x i d)
        go true q = parts-shown q
        go false q = whole-shown q

    in_line_lem : in_line job s e x ≡ upto job x i d ∷ []
    in_line_lem = in_by job s e x (i - x.base) (d - i) (ap (λ z. z - x.base) from) (long x.base lies.0) ∙ rw (ne_eqb (d - i) 0 (λ z. omega (arith, lies.1)))
      where
        long : (b : ℕ) → b ≤ i → min e (x.base + x.bases) - (b + (i - b)) ≡ min e (x.base + x.bases) - i
        long b h = omega arith

  -- The line, element by element.
  module _ (base ruby left : List ℕ) (some : s < e) where
    no_text : (k i : ℕ) → e ≤ i → elements_text t base ruby left k i e ≡ []
    unfolding elements_text
    no_text zero i h = refl
    no_text (suc k) i h = rw (le-ltb i e h)

    abbrev Claim : List Piece → ℕ → ℕ → Type 0
    Claim xs b k = elements_text t base ruby left k (max s b) e ≡ each (of_piece base ruby left) (each (in_line job s e) xs)

    -- one element more: it stands in the line
    standing : (x : Piece) → IsElement job x → (xs : List Piece) (k : ℕ) → x.base < e → s < x.base + x.bases → Claim xs (x.base + x.bases) k → Claim (x ∷ xs) x.base (suc k)
    unfolding elements_text
    standing x at xs k l u rest =
        let i = max s x.base in
        let h : i < e = omega arith in
        let q = shown x at i refl (omega (arith, at.good.counts.some)) h in
        rw (lt-ltb i e h, in_line_lem x at i refl (omega (arith, at.good.counts.some)) h)
        (ap₂ (λ y z. y ++ z) (element_text e q.0 q.1 base ruby left)
        (ap (λ (c : ℕ). elements_text t base ruby left k c e) q.0 ∙ onward (dec_lt e (x.base + x.bases)) ∙ rest))
      where
        onward : Dec (e < x.base + x.bases) → elements_text t base ruby left k (min e (x.base + x.bases)) e ≡ elements_text t base ruby left k (max s (x.base + x.bases)) e
        onward (yes v) = no_text k (min e (x.base + x.bases)) (omega arith) ∙ sym (no_text k (max s (x.base + x.bases)) (omega arith))
        onward (no v) = ap (λ (c : ℕ). elements_text t base ruby left k c e) (same (x.base + x.bases) (omega arith) u)
          where
            same : (z : ℕ) → z ≤ e → s < z → min e z ≡ max s z
            same z a b = omega arith

    walks : (xs : List Piece) → All (IsElement job) xs → (b : ℕ) → BaseTiled b xs (base_count job) → (k : ℕ) → e ≤ max s b + k → Claim xs b k
    walks [] a b tiled k room = no_text k (max s b) (omega arith)
    walks (x ∷ xs) a b tiled k room =
        go (dec_lt s (x.base + x.bases)) (dec_lt x.base e) k room
        (walks xs a.1 (x.base + x.bases) (subst (λ (z : ℕ). BaseTiled (z + x.bases) xs (base_count job)) (sym tiled.0) tiled.1))
      where
        go : Dec (s < x.base + x.bases) → Dec (x.base < e) → (k : ℕ) → e ≤ max s b + k →
            ((m : ℕ) → e ≤ max s (x.base + x.bases) + m → Claim xs (x.base + x.bases) m) → Claim (x ∷ xs) b k
        go (no u) l k room rest =
            ap (λ (i : ℕ). elements_text t base ruby left k i e) (omega (arith, tiled.0)) ∙ rest k (omega (arith, tiled.0))
            ∙ sym (ap (λ ps. each (of_piece base ruby left) (ps ++ each (in_line job s e) xs)) (in_behind job s e x (omega arith)))
        go (yes u) (no l) k room rest =
            no_text k (max s b) (omega (arith, tiled.0)) ∙ sym (no_text k (max s (x.base + x.bases)) (omega arith)) ∙ rest k (omega (arith, tiled.0))
            ∙ sym (ap (λ ps. each (of_piece base ruby left) (ps ++ each (in_line job s e) xs)) (in_ahead job s e x (omega arith)))
        go (yes u) (yes l) zero room rest = absurd (omega (arith, tiled.0))
        go (yes u) (yes l) (suc k) room rest =
            subst (λ (z : ℕ). Claim (x ∷ xs) z (suc k)) tiled.0 (standing x a.0 xs k l u (rest k (omega (arith, tiled.0, a.0.good.counts.some))))

    -- what is printed of a line by rows is what is printed of the job's
    pub line-shown : elements_text t base ruby left (e - s) s e ≡ each (of_piece base ruby left) (printed job s e)
    unfolding printed
    line-shown = ap (λ (i : ℕ). elements_text t base ruby left (e - s) i e) (omega arith) ∙ walks (elements job) (all-elements job passed) 0 passed.tiled (e - s) (omega arith)
