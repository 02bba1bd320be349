-- The lines of an account from its lists: what is asked of them, and what each line adds to the text.
use Rattle.std.specs.Prelude.{◌≡◌, List, [], ◌∷◌, ◌++◌, ℕ, ◌+◌, ◌*◌, ◌≤◌, ◌<◌, get_or, take, drop}
use Rattle.std.proofs.Common.{sym, ap₂, ◌∙◌, add-one, arith, drop_of_length-le, drop-cons, get_or-take}
use Rattle.std.proofs.Math.Path.{subst}
use Rattle.std.proofs.Math.ListN.{length}
use Rattle.std.proofs.Math.Seq.{length-take-le}
use Rattle.text.specs.Print.{Wrote}
use Rattle.text.specs.Written.{then}
use Rattle.result.specs.Left.{Left, left-first, fits, left-next, left_end}
use Rattle.account_text.specs.Text.{head_text, verdict_text, rows_text, segment, lines_text, lists_text}
use Rattle.account_text.specs.Rows.{SegmentReady}

-- counts of rows that never fall, up to no more rows than there are
abbrev pub Rising : ℕ → ℕ → List ℕ → Type 0
Rising most q [] = Unit {0}
Rising most q (e ∷ es) = (q ≤ e) × (6 * e ≤ most) × (e ≤ 4096) × Rising most e es

-- the lists tell of n lines, and there is room for their text
pub record ListsReady (n elements readings : ℕ) (rows told wide out : List ℕ) : Type 0 where
  pub counts : n ≤ length told
  pub extents : n ≤ length wide
  pub rising : Rising (length rows) 0 (take n told)
  pub few : n ≤ 4096
  pub small : (elements ≤ 4096) × (readings ≤ 4096)
  pub room : length (lists_text n elements readings rows told wide) ≤ length out

-- before line l, whose rows begin with the q-th: what is written and what is left make up the text of the lines
pub record Going (n : ℕ) (rows told wide : List ℕ) (t : List ℕ) (from : ℕ) (all u : List ℕ) (at q l : ℕ) : Type 0 where
  pub counts : n ≤ length told
  pub extents : n ≤ length wide
  pub few : n ≤ 4096
  pub rising : Rising (length rows) q (drop l (take n told))
  pub left : Left t from all u at (lines_text rows q (drop l (take n told)) (drop l (take n wide)))

-- an entry of a list's front
entry : (xs : List ℕ) (n l : ℕ) → n ≤ length xs → l < n → drop l (take n xs) ≡ get_or xs l 0 ∷ drop (l + 1) (take n xs)
entry xs n l h k = drop-cons (take n xs) l 0 (omega (arith, length-take-le n xs h)) ∙ ap₂ {C = List ℕ} (λ x (m : ℕ). x ∷ drop m (take n xs)) (get_or-take n xs l 0 k) (sym (add-one l))

module _ {n elements readings : ℕ} {rows told wide out : List ℕ} (ready : ListsReady n elements readings rows told wide out) where
  abbrev verdict : List ℕ
  verdict = verdict_text n elements readings

  abbrev body : List ℕ
  body = lines_text rows 0 (take n told) (take n wide)

  room : 0 + length (lists_text n elements readings rows told wide) ≤ length out
  room = omega (arith, ready.room)

  whole : Left out 0 (lists_text n elements readings rows told wide) out 0 (verdict ++ body)
  unfolding lists_text
  whole = left-first room

  pub verdict-fits : length verdict ≤ length out
  verdict-fits = omega (arith, fits verdict body whole)

  pub going_first : {r : ℕ} {u : List ℕ} → Wrote out 0 verdict r u → Going n rows told wide u r body u r 0 0
  going_first {r} {u} w =
      let l = left-next verdict body whole w in
      record { counts = ready.counts; extents = ready.extents; few = ready.few; rising = ready.rising; left = left-first (omega (arith, l.room, l.long, l.next)) }

  -- after the last line
  pub written : {r : ℕ} {u : List ℕ} → Wrote out 0 verdict r u → {at : ℕ} {v : List ℕ} → Wrote u r body at v → Wrote out 0 (lists_text n elements readings rows told wide) at v
  unfolding lists_text
  written a b = then a b

module _ {n : ℕ} {rows told wide t : List ℕ} {from : ℕ} {all u : List ℕ} {at q l : ℕ} (going : Going n rows told wide t from all u at q l) where
  module _ (h : l < n) where
    abbrev e : ℕ
    e = get_or told l 0

    abbrev line : List ℕ
    line = head_text (get_or wide l 0) ++ rows_text (segment rows q e)

    abbrev later : List ℕ
    later = lines_text rows e (drop (l + 1) (take n told)) (drop (l + 1) (take n wide))

    left_line : Left t from all u at (line ++ later)
    unfolding lines_text
    left_line = subst (Left t from all u at) (ap₂ (lines_text rows q) (entry told n l going.counts h) (entry wide n l going.extents h)) going.left

    rises : (q ≤ e) × (6 * e ≤ length rows) × (e ≤ 4096) × Rising (length rows) e (drop (l + 1) (take n told))
    rises = subst (Rising (length rows) q) (entry told n l going.counts h) going.rising

    pub line-ready : SegmentReady u at q e rows line
    line-ready = record { ordered = rises.0; within = rises.1; small = rises.2; room = fits line later left_line }

    pub in_told : l < length told
    in_told = omega (arith, going.counts)

    pub in_wide : l < length wide
    in_wide = omega (arith, going.extents)

    pub going_next : {r : ℕ} {v : List ℕ} → Wrote u at line r v → Going n rows told wide t from all v r e (l + 1)
    going_next w = record { counts = going.counts; extents = going.extents; few = going.few; rising = rises.3; left = left-next line later left_line w }

  pub going_end : n ≤ l → Wrote t from all at u
  unfolding lines_text
  going_end h =
      let past : length (take n told) ≤ l = omega (arith, length-take-le n told going.counts) in
      left_end (subst (λ xs. Left t from all u at (lines_text rows q xs (drop l (take n wide)))) (drop_of_length-le (take n told) past) going.left)
