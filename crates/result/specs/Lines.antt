-- The text of all lines by rows: what is asked for, and the loop over the lines.
use Rattle.cells.specs.Rows.{Rows}
use Rattle.std.specs.Prelude.{◌≡◌, ℕ, zero, suc, ◌+◌, ◌-◌, ◌≤◌, ◌<◌, length, get_or, take, drop}
use Rattle.std.proofs.Math.Path.{refl, ap₂}
use Rattle.std.proofs.Common.{sym, ap, ◌∙◌, subst, inl, inr, zero-add, arith, length-take-le}
use mathlib.Core.List.{List, [], ◌∷◌, ◌++◌, append_assoc}
use Rattle.text.specs.Print.{Wrote}
use Rattle.text.specs.Written.{then}
use Rattle.positions.specs.Positions.{sheet}
use Rattle.positions.specs.Ready.{Begins, Chained, LinesReady}
use Rattle.positions.specs.Walk.{begins-behind}
use Rattle.result.specs.Text.{bytes, line_one}
use Rattle.result.specs.Left.{Left as Rest, left-first, left-next, left_end, fits}
use Rattle.result.specs.ByRows.{elements_text, line_text, lines_text, rows_text}
use Rattle.result.specs.Line.{LineReady}

-- `ends` and `extents` have at their front the ends and extents of n lines of a table that can be written, and there is room for the text.
pub record TextReady (t : Rows) (n : ℕ) (ends extents base ruby left out : List ℕ) : Type 0 where
  pub width : List ℕ
  pub ruby_width : List ℕ
  pub left_width : List ℕ
  pub lines : LinesReady (sheet t width ruby_width left_width) n ends base ruby left
  pub far : n ≤ length extents
  pub room : length (rows_text t n ends extents base ruby left) ≤ length out

-- what is left of a list
drop_more : (l : ℕ) (xs : List ℕ) → l < length xs → drop l xs ≡ get_or xs l 0 ∷ drop (suc l) xs
drop_more l [] h = absurd (omega arith)
drop_more zero (x ∷ xs) h = refl
drop_more (suc l) (x ∷ xs) h = drop_more l xs (omega arith)

get_take : (n l : ℕ) (xs : List ℕ) → l < n → get_or (take n xs) l 0 ≡ get_or xs l 0
get_take zero l xs h = absurd (omega arith)
get_take (suc n) l [] h = refl
get_take (suc n) zero (x ∷ xs) h = refl
get_take (suc n) (suc l) (x ∷ xs) h = get_take n l xs (omega arith)

drop-none : (l : ℕ) (xs : List ℕ) → length xs ≤ l → drop l xs ≡ []
drop-none zero [] h = refl
drop-none zero (x ∷ xs) h = absurd (omega arith)
drop-none (suc l) [] h = refl
drop-none (suc l) (x ∷ xs) h = drop-none l xs (omega arith)

take_more : (n l : ℕ) (xs : List ℕ) → l < n → n ≤ length xs → drop l (take n xs) ≡ get_or xs l 0 ∷ drop (suc l) (take n xs)
take_more n l xs h k = drop_more l (take n xs) (omega (arith, length-take-le n xs k)) ∙ ap (λ z. z ∷ drop (suc l) (take n xs)) (get_take n l xs h)

-- Before line l, which begins at base character s; the lines' text begins at `start`.
pub record Going (t : Rows) (n : ℕ) (ends extents base ruby left was : List ℕ) (start s l r : ℕ) (out : List ℕ) : Type 0 where
  pub width : List ℕ
  pub ruby_width : List ℕ
  pub left_width : List ℕ
  pub lines : LinesReady (sheet t width ruby_width left_width) n ends base ruby left
  pub begins : s < lines.n → Begins t s
  pub far : n ≤ length extents
  pub chained : Chained t lines.n s (drop l (take n ends))
  pub rest : Rest was start (lines_text t base ruby left 0 (take n ends) (take n extents)) out r (lines_text t base ruby left s (drop l (take n ends)) (drop l (take n extents)))

module _ {t : Rows} {n : ℕ} {ends extents base ruby left was : List ℕ} (ready : TextReady t n ends extents base ruby left was) where
  abbrev head : List ℕ
  head = line_one (bytes "lines") n

  abbrev body : List ℕ
  body = lines_text t base ruby left 0 (take n ends) (take n extents)

  same : rows_text t n ends extents base ruby left ≡ head ++ body
  unfolding rows_text
  same = refl

  whole : Rest was 0 (rows_text t n ends extents base ruby left) was 0 (head ++ body)
  whole = subst (Rest was 0 (rows_text t n ends extents base ruby left) was 0) same (left-first (rw zero-add ready.room))

  pub head-fits : 0 + length head ≤ length was
  head-fits = fits head body whole

  pub few : n ≤ 1024
  few = ready.lines.few

  module _ {start : ℕ} {begun : List ℕ} (first : Wrote was 0 head start begun) where
    pub going_first : Going t n ends extents base ruby left begun start 0 0 start begun
    going_first =
        let l = left-next head body whole first in
        record {
          begins = λ _. inr (inl refl);
          width = ready.width;
          ruby_width = ready.ruby_width;
          left_width = ready.left_width;
          lines = ready.lines;
          far = ready.far;
          chained = ready.lines.chained;
          rest = left-first (omega (arith, l.room, l.long, l.next));
        }

    -- after the last line nothing is left
    pub going_end : {s l r : ℕ} {out : List ℕ} → Going t n ends extents base ruby left begun start s l r out → n ≤ l → Wrote was 0 (rows_text t n ends extents base ruby left) r out
    going_end {s} {l} {r} {out} q h =
        let none = drop-none l (take n ends) (omega (arith, length-take-le n ends q.lines.held)) in
        subst (λ xs. Wrote was 0 xs r out) (sym same)
        (then first (left_end (subst (λ xs. Rest begun start body out r (lines_text t base ruby left s xs (drop l (take n extents)))) none q.rest)))

module _ {t : Rows} {n : ℕ} {ends extents base ruby left was : List ℕ} {start s l r : ℕ} {out : List ℕ} (q : Going t n ends extents base ruby left was start s l r out) (h : l < n) where
  abbrev e : ℕ
  e = get_or ends l 0

  abbrev x : ℕ
  x = get_or extents l 0

  pub within : (l < length ends) × (l < length extents) × (l < 1024)
  within = (omega (arith, q.lines.held), omega (arith, q.far), omega (arith, q.lines.few))

  chain : Chained t q.lines.n s (e ∷ drop (suc l) (take n ends))
  chain = subst (Chained t q.lines.n s) (take_more n l ends h q.lines.held) q.chained

  abbrev later : List ℕ
  later = lines_text t base ruby left e (drop (suc l) (take n ends)) (drop (suc l) (take n extents))

  abbrev all : List ℕ
  all = lines_text t base ruby left 0 (take n ends) (take n extents)

  split : lines_text t base ruby left s (drop l (take n ends)) (drop l (take n extents)) ≡ line_one (bytes "line") x ++ (elements_text t base ruby left (e - s) s e ++ later)
  unfolding line_text
  split =
      ap₂ (λ es xs. lines_text t base ruby left s es xs) (take_more n l ends h q.lines.held) (take_more n l extents h q.far)
      ∙ append_assoc (line_one (bytes "line") x) (elements_text t base ruby left (e - s) s e) later

  left_head_lem : Rest was start all out r (line_one (bytes "line") x ++ (elements_text t base ruby left (e - s) s e ++ later))
  left_head_lem = subst (Rest was start all out r) split q.rest

  pub told-fits : r + length (line_one (bytes "line") x) ≤ length out
  told-fits = fits (line_one (bytes "line") x) (elements_text t base ruby left (e - s) s e ++ later) left_head_lem

  module _ {p : ℕ} {now : List ℕ} (w : Wrote out r (line_one (bytes "line") x) p now) where
    left-pieces : Rest was start all now p (elements_text t base ruby left (e - s) s e ++ later)
    left-pieces = left-next (line_one (bytes "line") x) (elements_text t base ruby left (e - s) s e ++ later) left_head_lem w

    opens : Begins t s
    opens = q.begins (omega (arith, chain.0, chain.1))

    pub line-ready : LineReady t s e base ruby left now p
    line-ready =
        record {
          width = q.width;
          ruby_width = q.ruby_width;
          left_width = q.left_width;
          line =
              record {
                n = q.lines.n;
                m = q.lines.m;
                l = q.lines.l;
                table = q.lines.table;
                room = q.lines.room;
                room_ruby = q.lines.room_ruby;
                room_left = q.lines.room_left;
                ahead = chain.0;
                within = chain.1;
                begins = opens;
                permits = chain.2;
              };
          room = fits (elements_text t base ruby left (e - s) s e) later left-pieces;
        }

    pub going_next : {p2 : ℕ} {now2 : List ℕ} → Wrote now p (elements_text t base ruby left (e - s) s e) p2 now2 → Going t n ends extents base ruby left was start e (l + 1) p2 now2
    going_next {p2} {now2} v =
        record {
          begins = λ g. begins-behind q.lines.table e (omega (arith, chain.0)) g chain.2;
          width = q.width;
          ruby_width = q.ruby_width;
          left_width = q.left_width;
          lines = q.lines;
          far = q.far;
          chained = subst (λ k. Chained t q.lines.n e (drop k (take n ends))) (one l) chain.3;
          rest =
              subst (λ k. Rest was start all now2 p2 (lines_text t base ruby left e (drop k (take n ends)) (drop k (take n extents)))) (one l)
              (left-next (elements_text t base ruby left (e - s) s e) later left-pieces v);
        }
      where
        one : (l : ℕ) → suc l ≡ l + 1
        one l = omega arith
