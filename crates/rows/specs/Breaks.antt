-- Where a section breaks its form, and on which line: no line that the form allows stands where the next line must begin ("a missing line has the next line's number"). Theorems
-- `section-stuck` and `stuck-section`: a section is refused with 13 and a line exactly so.
use Rattle.std.specs.Prelude.{Bool, true, false, cond, List, [], ◌∷◌, ◌≡◌, refl, ℕ, zero, suc, ◌+◌, ◌≤◌, ◌<◌, ltb, length, Err, None, Option, Result, Some}
use Rattle.std.proofs.Common.{◌∙◌, ap, sym, add-zero, le_of_suc-le-suc, arith, le-ltb}
use Rattle.basics.specs.Lists.{All}
use Rattle.refusal.specs.declared.Refusal.TheVariants.{Form, Count}
use Rattle.text.specs.Stands.{Stands, stands-none, stands-then, stands-cut}
use Rattle.refusal.specs.declared.Refusal.{Refusal}
use Rattle.rows.specs.declared.Part.{Part}
use Rattle.rows.specs.Read.{Read}
use Rattle.rows.specs.Section.{on_place, on_part, fields, Rows, lines, head_of, rows_of, section}
use Rattle.rows.specs.Whole.{fields-count}
use Rattle.rows.specs.Print.{line_text, rows_text, Small, Counted}
use Rattle.rows.specs.Printed.{NumbersStand, fields-stands, stands-fields, HeadIs, broken, over, within, head-is, head-back}

-- no line of k numbers stands at a place
abbrev pub NoLine : ℕ → List ℕ → ℕ → Type 0
NoLine k s at = (r : List ℕ) (q : ℕ) → length r ≡ k → Small r → Stands s at (line_text r) q → ⊥

-- Of `left` lines from the place `at` on, the first with the number `line`: some stand there, fewer than must, and no line after them; l is the number of the line that is missing or broken.
pub record RowsBreak (k left : ℕ) (s : List ℕ) (at line l : ℕ) : Type 0 where
  pub rows : List (List ℕ)
  pub next : ℕ
  pub fewer : length rows < left
  pub wide : All (λ (r : List ℕ). length r ≡ k) rows
  pub small : All Small rows
  pub text : Stands s at (rows_text rows) next
  pub none : NoLine k s next
  pub place : l ≡ line + length rows

fields-none : (k : ℕ) (s : List ℕ) (at : ℕ) → (fields 10 k s at).end ≡ None → NoLine k s at
fields-none k s at e r q c a x =
    let f = rw c at (stands-fields 10 r s at q (omega arith) a x) in
    let g = ap (λ (t : _). t.end) f in
    let z : ◌≡◌ {A = ℕ} 0 1 = cc in
    omega arith

none-fields : (k : ℕ) (s : List ℕ) (at : ℕ) → NoLine k s at → (x : Option ℕ) → (fields 10 k s at).end ≡ x → x ≡ None
none-fields k s at none (Some q) e =
    let f = fields-stands 10 k s at q e in
    absurd (none (fields 10 k s at).values q (fields-count 10 k s at q e) f.small f.text)
none-fields k s at none None e = refl

lines-stuck-more : (k left : ℕ) (s : List ℕ) (at line l : ℕ) (r : List ℕ) (x : Option ℕ) → ((p : ℕ) → x ≡ Some p → (length r ≡ k) × NumbersStand 10 s at r p) → (x ≡ None → NoLine k s at) → (f : ℕ → Rows) →
    ((p : ℕ) → (f p).end ≡ Err (Form l) → RowsBreak k left s p (line + 1) l) →
    (on_place {A = Rows} x (record { rows = r ∷ []; end = Err (Form line) }) (λ p. record { rows = r ∷ (f p).rows; end = (f p).end })).end ≡ Err (Form l) →
    RowsBreak k (suc left) s at line l
unfolding on_place rows_text
lines-stuck-more k left s at line l r (Some p) h none f on e =
    let t = on p e in
    let u = h p refl in
    record {
      rows = r ∷ t.rows;
      next = t.next;
      fewer = omega (arith, t.fewer);
      wide = (u.0, t.wide);
      small = (u.1.small, t.small);
      text = stands-then u.1.text t.text;
      none = t.none;
      place = omega (arith, t.place);
    }
lines-stuck-more k left s at line l r None h none f on e =
    let g : line ≡ l = cc in
    record { rows = []; next = at; fewer = omega arith; wide = tt; small = tt; text = stands-none s at; none = none refl; place = omega arith }

pub lines-stuck : (k n left : ℕ) (s : List ℕ) (at line l : ℕ) → (lines k n left s at line).end ≡ Err (Form l) → RowsBreak k left s at line l
unfolding lines
lines-stuck k n zero s at line l e = absurd (let z : ◌≡◌ {A = ℕ} 0 1 = cc in omega arith)
lines-stuck k n (suc left) s at line l e =
    lines-stuck-more k left s at line l (fields 10 k s at).values (fields 10 k s at).end (λ p h. (fields-count 10 k s at p h, fields-stands 10 k s at p h)) (fields-none k s at)
    (λ p. lines k n left s p (line + 1))
    (λ p. lines-stuck k n left s p (line + 1) l)
    e

pub stuck-rows : (k n left : ℕ) (rows : List (List ℕ)) (s : List ℕ) (at line next : ℕ) → length rows < left → All (λ (r : List ℕ). length r ≡ k) rows → All Small rows →
    Stands s at (rows_text rows) next → NoLine k s next → (lines k n left s at line).end ≡ Err (Form (line + length rows))
unfolding lines rows_text on_place
stuck-rows k n zero rows s at line next h w a x none = absurd (omega arith)
stuck-rows k n (suc left) [] s at line next h w a x none =
    let q : next ≡ at = x.past ∙ add-zero at in
    let e = none-fields k s at (rw q at none) (fields 10 k s at).end refl in
    rw (e, add-zero)
stuck-rows k n (suc left) (r ∷ rows) s at line next h w a x none =
    let c = stands-cut (line_text r) (rows_text rows) x in
    let f = rw w.0 at (stands-fields 10 r s at c.mid (omega arith) a.0 c.first) in
    let t = stuck-rows k n left rows s c.mid (line + 1) next (le_of_suc-le-suc h) w.1 a.1 c.second none in
    let g : line + 1 + length rows ≡ line + suc (length rows) = omega arith in
    rw (f, ← g) t

pub stuck-lines : (k n left : ℕ) (s : List ℕ) (at line l : ℕ) → RowsBreak k left s at line l → (lines k n left s at line).end ≡ Err (Form l)
stuck-lines k n left s at line l x = rw x.place (stuck-rows k n left x.rows s at line x.next x.fewer x.wide x.small x.text x.none)

-- no count stands under the word, whatever the count
abbrev pub NoHead : List ℕ → List ℕ → ℕ → Type 0
NoHead w s at = (n q : ℕ) → Counted w s at n q → ⊥

head-form : (w : List ℕ) (top which : ℕ) (s : List ℕ) (at line l : ℕ) (h : Result Part Refusal) → HeadIs w top which s at line h → h ≡ Err (Form l) → l ≡ line
head-form w top which s at line l h broken e = cc
head-form w top which s at line l h (over n next c g) e = absurd (let z : ◌≡◌ {A = ℕ} 0 1 = cc in omega arith)
head-form w top which s at line l h (within n next c g) e = absurd (let z : ◌≡◌ {A = ℕ} 0 1 = cc in omega arith)

head-none : (w : List ℕ) (top which : ℕ) (s : List ℕ) (m at line l : ℕ) → head_of w top which s (Read m at line) ≡ Err (Form l) → NoHead w s at
head-none w top which s m at line l e n q c = go (ltb top n) (sym (head-back w top which s m at line n q c) ∙ e)
  where
    go : (b : Bool) → cond b (Err (Count which)) (Read n q (line + 1)) ≡ Err (Form l) → ⊥
    go true f = let z : ◌≡◌ {A = ℕ} 0 1 = cc in omega arith
    go false f = let z : ◌≡◌ {A = ℕ} 0 1 = cc in omega arith

none-head : (w : List ℕ) (top which : ℕ) (s : List ℕ) (at line : ℕ) → NoHead w s at → (h : Result Part Refusal) → HeadIs w top which s at line h → h ≡ Err (Form line)
none-head w top which s at line none h broken = refl
none-head w top which s at line none h (over n next c g) = absurd (none n next c)
none-head w top which s at line none h (within n next c g) = absurd (none n next c)

-- A section breaks its form on line l: its first line, or one of those that its count asks for.
pub data SectionBreaks (w : List ℕ) (k top : ℕ) (s : List ℕ) (at line l : ℕ) : Type 0 where
  no-head : l ≡ line → NoHead w s at → SectionBreaks w k top s at line l
  no_row : (n p : ℕ) → Counted w s at n p → n ≤ top → RowsBreak k n s p (line + 1) l → SectionBreaks w k top s at line l

-- by the section's first line, for sections of any lines
pub head-stuck : (w : List ℕ) (top which : ℕ) (s : List ℕ) (m at line l : ℕ) → head_of w top which s (Read m at line) ≡ Err (Form l) → (l ≡ line) × NoHead w s at
head-stuck w top which s m at line l e =
    (head-form w top which s at line l (head_of w top which s (Read m at line)) (head-is w top which s m at line) e, head-none w top which s m at line l e)

pub stuck-head : (w : List ℕ) (top which : ℕ) (s : List ℕ) (m at line : ℕ) → NoHead w s at → head_of w top which s (Read m at line) ≡ Err (Form line)
stuck-head w top which s m at line none = none-head w top which s at line none (head_of w top which s (Read m at line)) (head-is w top which s m at line)

section-stuck-by : (w : List ℕ) (k top which : ℕ) (s : List ℕ) (m at line l : ℕ) (h : Result Part Refusal) → head_of w top which s (Read m at line) ≡ h → HeadIs w top which s at line h →
    (rows_of k s h).end ≡ Err (Form l) → SectionBreaks w k top s at line l
unfolding rows_of on_part
section-stuck-by w k top which s m at line l h i broken e =
    let f : line ≡ l = cc in
    no-head (sym f) (head-none w top which s m at line line i)
section-stuck-by w k top which s m at line l h i (over n next c g) e = absurd (let z : ◌≡◌ {A = ℕ} 0 1 = cc in omega arith)
section-stuck-by w k top which s m at line l h i (within n next c g) e = no_row n next c g (lines-stuck k n n s next (line + 1) l e)

pub section-stuck : (w : List ℕ) (k top which : ℕ) (s : List ℕ) (m at line l : ℕ) → (section w k top which s (Read m at line)).end ≡ Err (Form l) → SectionBreaks w k top s at line l
section-stuck w k top which s m at line l e = section-stuck-by w k top which s m at line l (head_of w top which s (Read m at line)) refl (head-is w top which s m at line) e

pub stuck-section : (w : List ℕ) (k top which : ℕ) (s : List ℕ) (m at line l : ℕ) → SectionBreaks w k top s at line l → (section w k top which s (Read m at line)).end ≡ Err (Form l)
unfolding rows_of on_part
stuck-section w k top which s m at line l (no-head e none) = rw (stuck-head w top which s m at line none, e)
stuck-section w k top which s m at line l (no_row n p c h x) = rw (head-back w top which s m at line n p c, le-ltb top n h) (stuck-lines k n n s p (line + 1) l x)

-- the line is one of the section's
pub section-place : {w : List ℕ} {k top : ℕ} {s : List ℕ} {at line l : ℕ} → SectionBreaks w k top s at line l → l ≤ line + top
section-place (no-head e none) = omega (arith, e)
section-place (no_row n p c h x) = omega (arith, h, x.fewer, x.place)
