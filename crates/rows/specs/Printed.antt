-- Theorems: a section is read exactly where its text stands (`section-is`, `stands-section`), its numbers are those that were read, and its count is refused exactly where a count over
-- the maximum stands (`over-section`). Generic in the word, in k and in the maximum.
use Rattle.std.specs.Prelude.{Ok, Bool, true, false, cond, List, [], ◌∷◌, ◌++◌, map, ◌≡◌, refl, ℕ, zero, suc, ◌+◌, ◌*◌, ◌≤◌, ◌<◌, eqb, ltb, length, drop, Err, None, Option, Result, Some}
use Rattle.std.proofs.Common.{append_assoc, ◌∙◌, ap, ap₂, sym, add-zero, arith, ltb-true, ltb-false, lt-ltb, le-ltb, length-append}
use Rattle.std.proofs.Math.Dec.{eqb-suc-zero}
use Rattle.basics.specs.Lists.{All}
use Rattle.refusal.specs.declared.Refusal.{Refusal}
use Rattle.refusal.specs.declared.Refusal.TheVariants.{Form, Count}
use Rattle.text.specs.Text.{most, number, word, stop_of}
use Rattle.text.specs.Print.{decimal}
use Rattle.text.specs.Written.{length-decimal}
use Rattle.text.specs.Back.{wide}
use Rattle.text.specs.Unique.{ended}
use Rattle.text.specs.Stands.{Stands, stands-none, stands-then, stands-cut, number-stands, stands-number, word_stands, stands_word}
use Rattle.rows.specs.declared.Part.{Part}
use Rattle.rows.specs.Read.{Read, read_once}
use Rattle.rows.specs.Section.{on_number, on_place, on_part, word_at, number_at, Fields, fields, Rows, lines, head_of, rows_of, section}
use Rattle.rows.specs.Whole.{fields-count, lines-whole}
use Rattle.rows.specs.Print.{spaced, numbers_text, line_text, head_text, rows_text, section_text, Small, Kept, Counted}

-- What is read of a word or a number and then goes on: P holds of the whole if it holds where nothing is read, and wherever the word or the number stands.
module _ {A : Type 0} (P : A → Type 0) (off : A) (none : P off) (s : List ℕ) (at : ℕ) where
  placed : (w : List ℕ) (f : ℕ → A) (x : Option ℕ) → word w (drop at s) at ≡ x → ((p : ℕ) → Stands s at w p → P (f p)) → P (on_place x off f)
  unfolding on_place
  placed w f (Some p) e on = on p (word_stands w s at p e)
  placed w f None e on = none

  pub on_word : (w : List ℕ) (f : ℕ → A) → ((p : ℕ) → Stands s at w p → P (f p)) → P (on_place (word_at w s at) off f)
  on_word w f on = placed w f (word w (drop at s) at) refl on

  numbered : (stop : ℕ) (f : ℕ → ℕ → A) (x : Option (ℕ × ℕ)) → number (drop at s) stop at ≡ x → ((v p : ℕ) → v ≤ most → Stands s at (ended v stop) p → P (f v p)) → P (on_number x off f)
  unfolding on_number
  numbered stop f (Some read) e on = let o = number-stands s at read.0 stop read.1 e in on read.0 read.1 o.0 o.1
  numbered stop f None e on = none

  pub on_number_lem : (stop : ℕ) (f : ℕ → ℕ → A) → ((v p : ℕ) → v ≤ most → Stands s at (ended v stop) p → P (f v p)) → P (on_number (number_at s stop at) off f)
  on_number_lem stop f on = numbered stop f (number (drop at s) stop at) refl on

-- Numbers, ended by the byte `last`.

stop-small : (last k : ℕ) → last < 48 → stop_of last k < 48
stop-small last k h = go (eqb k 0)
  where
    go : (b : Bool) → cond b last 32 < 48
    go true = h
    go false = omega arith

-- what k numbers follow: the byte after it, and the numbers
pub spaced-numbers : (last : ℕ) (vs : List ℕ) → spaced vs ++ (last ∷ []) ≡ stop_of last (length vs) ∷ numbers_text last vs
unfolding spaced numbers_text
spaced-numbers last [] = refl
spaced-numbers last (v ∷ vs) = rw (eqb-suc-zero (length vs)) (ap {B = List ℕ} (λ l. 32 ∷ l) (append_assoc (decimal v) (spaced vs) (last ∷ [])))

-- a number, the byte after it, and the numbers after that
pub numbers-cons : (last v : ℕ) (vs : List ℕ) → numbers_text last (v ∷ vs) ≡ ended v (stop_of last (length vs)) ++ numbers_text last vs
unfolding numbers_text
numbers-cons last v vs = rw (spaced-numbers last vs) (sym (append_assoc (decimal v) (stop_of last (length vs) ∷ []) (numbers_text last vs)))

-- each takes two bytes at least
pub spaced-long : (vs : List ℕ) → Small vs → 2 * length vs ≤ length (spaced vs)
unfolding spaced
spaced-long [] a = omega arith
spaced-long (v ∷ vs) a = omega (arith, spaced-long vs a.1, length-append (decimal v) (spaced vs), length-decimal v, (wide v a.0).some)

pub record NumbersStand (last : ℕ) (s : List ℕ) (at : ℕ) (values : List ℕ) (next : ℕ) : Type 0 where
  pub small : Small values
  pub text : Stands s at (numbers_text last values) next

fields-more : (last k : ℕ) (s : List ℕ) (at next : ℕ) (x : Option (ℕ × ℕ)) → number (drop at s) (stop_of last k) at ≡ x → (f : ℕ → Fields) → ((p : ℕ) → (f p).end ≡ Some next → length (f p).values ≡ k) →
    ((p : ℕ) → (f p).end ≡ Some next → NumbersStand last s p (f p).values next) →
    let g = on_number {A = Fields} x (record { values = []; end = None }) (λ v p. record { values = v ∷ (f p).values; end = (f p).end }) in
    g.end ≡ Some next → NumbersStand last s at g.values next
unfolding on_number
fields-more last k s at next (Some read) h f count on e =
    let o = number-stands s at read.0 (stop_of last k) read.1 h in
    let t = on read.1 e in
    record { small = (o.0, t.small); text = rw (numbers-cons last read.0 (f read.1).values, count read.1 e) (stands-then o.1 t.text) }
fields-more last k s at next None h f count on e = absurd (let z : ◌≡◌ {A = ℕ} 0 1 = cc in omega arith)

-- numbers that were read stand there
pub fields-stands : (last k : ℕ) (s : List ℕ) (at next : ℕ) → (fields last k s at).end ≡ Some next → NumbersStand last s at (fields last k s at).values next
unfolding fields numbers_text
fields-stands last zero s at next e =
    let f : at ≡ next = cc in
    record { small = tt; text = rw (← f) (stands-none s at) }
fields-stands last (suc k) s at next e =
    fields-more last k s at next (number (drop at s) (stop_of last k) at) refl (λ p. fields last k s p) (λ p. fields-count last k s p next) (λ p. fields-stands last k s p next) e

-- and numbers that stand there are read
pub stands-fields : (last : ℕ) (vs s : List ℕ) (at next : ℕ) → last < 48 → Small vs → Stands s at (numbers_text last vs) next →
    fields last (length vs) s at ≡ record { values = vs; end = Some next }
unfolding fields numbers_text on_number
stands-fields last [] s at next h a x = ap (λ q. record { values = []; end = Some q }) (sym (x.past ∙ add-zero at))
stands-fields last (v ∷ vs) s at next h a x =
    let c = stands-cut (ended v (stop_of last (length vs))) (numbers_text last vs) (rw (numbers-cons last v vs) at x) in
    let n = stands-number s at v (stop_of last (length vs)) c.mid (stop-small last (length vs) h) a.0 c.first in
    let r = stands-fields last vs s c.mid next h a.1 c.second in
    rw (n, r)

-- The lines of a section.

pub record RowsStand (s : List ℕ) (at : ℕ) (rows : List (List ℕ)) (next : ℕ) : Type 0 where
  pub small : All Small rows
  pub text : Stands s at (rows_text rows) next

lines_more : (s : List ℕ) (at : ℕ) (r : List ℕ) (x : Option ℕ) → ((p : ℕ) → x ≡ Some p → NumbersStand 10 s at r p) → (f : ℕ → Rows) (broken : Rows) (q : Refusal) → broken.end ≡ Err q → (m next l : ℕ) →
    ((p : ℕ) → (f p).end ≡ Read m next l → RowsStand s p (f p).rows next) →
    let g = on_place x broken (λ p. record { rows = r ∷ (f p).rows; end = (f p).end }) in
    g.end ≡ Read m next l → RowsStand s at g.rows next
unfolding on_place rows_text
lines_more s at r (Some p) h f broken q b m next l on e =
    let t = on p e in
    let u = h p refl in
    record { small = (u.small, t.small); text = stands-then u.text t.text }
lines_more s at r None h f broken q b m next l on e = absurd (let z : ◌≡◌ {A = ℕ} 0 1 = cc in omega arith)

-- lines that were read are the lines of their numbers
pub lines-stands : (k n left : ℕ) (s : List ℕ) (at line m next l : ℕ) → (lines k n left s at line).end ≡ Read m next l → RowsStand s at (lines k n left s at line).rows next
unfolding lines rows_text
lines-stands k n zero s at line m next l e =
    let f = (read_once n at line m next l e).1 in
    record { small = tt; text = rw (← f) (stands-none s at) }
lines-stands k n (suc left) s at line m next l e =
    lines_more s at (fields 10 k s at).values (fields 10 k s at).end (λ p. fields-stands 10 k s at p) (λ p. lines k n left s p (line + 1))
    (record { rows = (fields 10 k s at).values ∷ []; end = Err (Form line) })
    (Form line)
    refl
    m
    next
    l
    (λ p. lines-stands k n left s p (line + 1) m next l)
    e

-- and the lines of some rows are read as them
pub stands-lines : (k n : ℕ) (rows : List (List ℕ)) (s : List ℕ) (at line next : ℕ) → All (λ (r : List ℕ). length r ≡ k) rows → All Small rows → Stands s at (rows_text rows) next →
    lines k n (length rows) s at line ≡ record { rows = rows; end = Read n next (line + length rows) }
unfolding lines rows_text on_place
stands-lines k n [] s at line next w a x = ap₂ (λ q l. record { rows = []; end = Read n q l }) (sym (x.past ∙ add-zero at)) (sym (add-zero line))
stands-lines k n (r ∷ rows) s at line next w a x =
    let c = stands-cut (line_text r) (rows_text rows) x in
    let f = rw w.0 at (stands-fields 10 r s at c.mid (omega arith) a.0 c.first) in
    let t = stands-lines k n rows s c.mid (line + 1) next w.1 a.1 c.second in
    let g : line + 1 + length rows ≡ line + suc (length rows) = omega arith in
    rw (f, t, g)

-- lines of one number each: the numbers
pub record Singles (rows : List (List ℕ)) : Type 0 where
  pub values : List ℕ
  pub is : rows ≡ map (λ (v : ℕ). v ∷ []) values
  pub count : length values ≡ length rows

one_number : (r : List ℕ) → length r ≡ 1 → (v : ℕ) × (r ≡ v ∷ [])
one_number [] e = absurd (omega arith)
one_number (v ∷ []) e = (v, refl)
one_number (v ∷ (w ∷ l)) e = absurd (omega arith)

pub singles-of : (rows : List (List ℕ)) → All (λ (r : List ℕ). length r ≡ 1) rows → Singles rows
singles-of [] w = record { values = []; is = refl; count = refl }
singles-of (r ∷ rows) w =
    let x = one_number r w.0 in
    let y = singles-of rows w.1 in
    record { values = x.0 ∷ y.values; is = ap₂ {C = List (List ℕ)} (λ a l. a ∷ l) x.1 y.is; count = ap suc y.count }

-- The line that begins a section.

pub head-back : (w : List ℕ) (top which : ℕ) (s : List ℕ) (m at line n next : ℕ) → Counted w s at n next →
    head_of w top which s (Read m at line) ≡ cond (ltb top n) (Err (Count which)) (Read n next (line + 1))
unfolding head_of head_text
head-back w top which s m at line n next c =
    let x = stands-cut w (ended n 10) c.text in
    rw (stands_word w s at x.mid x.first, stands-number s x.mid n 10 next (omega arith) c.small x.second)

-- the first line of a section as it was read: its form is broken, or a count stands there
pub data HeadIs (w : List ℕ) (top which : ℕ) (s : List ℕ) (at line : ℕ) : Result Part Refusal → Type 0 where
  broken : HeadIs w top which s at line (Err (Form line))
  over : (n next : ℕ) → Counted w s at n next → top < n → HeadIs w top which s at line (Err (Count which))
  within : (n next : ℕ) → Counted w s at n next → n ≤ top → HeadIs w top which s at line (Read n next (line + 1))

head-count : (w : List ℕ) (top which : ℕ) (s : List ℕ) (at line n next : ℕ) → Counted w s at n next → (b : Bool) → ltb top n ≡ b →
    HeadIs w top which s at line (cond b (Err (Count which)) (Read n next (line + 1)))
head-count w top which s at line n next c true e = over n next c (ltb-true top n e)
head-count w top which s at line n next c false e = within n next c (ltb-false top n e)

head-number : (w : List ℕ) (top which : ℕ) (s : List ℕ) (at line p : ℕ) → Stands s at w p → (x : Option (ℕ × ℕ)) → number (drop p s) 10 p ≡ x →
    HeadIs w top which s at line (on_number x (Err (Form line)) (λ n next. cond (ltb top n) (Err (Count which)) (Read n next (line + 1))))
unfolding on_number head_text
head-number w top which s at line p t (Some read) e =
    let o = number-stands s p read.0 10 read.1 e in
    head-count w top which s at line read.0 read.1 (record { small = o.0; text = stands-then t o.1 }) (ltb top read.0) refl
head-number w top which s at line p t None e = broken

head-place : (w : List ℕ) (top which : ℕ) (s : List ℕ) (at line : ℕ) (x : Option ℕ) → word w (drop at s) at ≡ x →
    HeadIs w top which s at line
    (on_place x (Err (Form line)) (λ p. on_number (number (drop p s) 10 p) (Err (Form line)) (λ n next. cond (ltb top n) (Err (Count which)) (Read n next (line + 1)))))
unfolding on_place
head-place w top which s at line (Some p) e = head-number w top which s at line p (word_stands w s at p e) (number (drop p s) 10 p) refl
head-place w top which s at line None e = broken

pub head-is : (w : List ℕ) (top which : ℕ) (s : List ℕ) (m at line : ℕ) → HeadIs w top which s at line (head_of w top which s (Read m at line))
unfolding head_of
head-is w top which s m at line = head-place w top which s at line (word w (drop at s) at) refl

-- The section whole.

-- lines that were not all read break the form
pub data FormOnly : Refusal → Type 0 where
  at-line : (l : ℕ) → FormOnly (Form l)

lines-form-more : (line : ℕ) (r : List ℕ) (x : Option ℕ) (f : ℕ → Rows) (q : Refusal) → ((p : ℕ) → (f p).end ≡ Err q → FormOnly q) →
    (on_place {A = Rows} x (record { rows = r ∷ []; end = Err (Form line) }) (λ p. record { rows = r ∷ (f p).rows; end = (f p).end })).end ≡ Err q → FormOnly q
unfolding on_place
lines-form-more line r (Some p) f q on e = on p e
lines-form-more line r None f q on e =
    let g : Form line ≡ q = cc in
    rw (← g) (at-line line)

lines-form : (k n left : ℕ) (s : List ℕ) (at line : ℕ) (q : Refusal) → (lines k n left s at line).end ≡ Err q → FormOnly q
unfolding lines
lines-form k n zero s at line q e = absurd (let z : ◌≡◌ {A = ℕ} 0 1 = cc in omega arith)
lines-form k n (suc left) s at line q e =
    lines-form-more line (fields 10 k s at).values (fields 10 k s at).end (λ p. lines k n left s p (line + 1)) q (λ p. lines-form k n left s p (line + 1) q) e

pub data RowsIs (k n : ℕ) (s : List ℕ) (at : ℕ) (t : Rows) : Type 0 where
  rows-broken : (l : ℕ) → t.end ≡ Err (Form l) → RowsIs k n s at t
  rows_whole : (next l : ℕ) → t.end ≡ Read n next l → length t.rows ≡ n → All (λ (r : List ℕ). length r ≡ k) t.rows → RowsStand s at t.rows next → RowsIs k n s at t

lines_end : (k n : ℕ) (s : List ℕ) (at line : ℕ) (p : Result Part Refusal) → (lines k n n s at line).end ≡ p → RowsIs k n s at (lines k n n s at line)
lines_end k n s at line (Ok part) e =
    let w = lines-whole k n n s at line part.count part.at part.line e in
    rows_whole part.at part.line (e ∙ ap (λ i. Read i part.at part.line) w.0) w.1.count w.1.wide (lines-stands k n n s at line part.count part.at part.line e)
lines_end k n s at line (Err q) e = form q (lines-form k n n s at line q e) e
  where
    form : (q : Refusal) → FormOnly q → (lines k n n s at line).end ≡ Err q → RowsIs k n s at (lines k n n s at line)
    form q (at-line l) e = rows-broken l e

pub lines-is : (k n : ℕ) (s : List ℕ) (at line : ℕ) → RowsIs k n s at (lines k n n s at line)
lines-is k n s at line = lines_end k n s at line (lines k n n s at line).end refl

-- a section as it was read: its form is broken, or its count is over the maximum, or it stands there
pub data SectionIs (w : List ℕ) (k top which : ℕ) (s : List ℕ) (at : ℕ) (t : Rows) : Type 0 where
  broken : (l : ℕ) → t.end ≡ Err (Form l) → SectionIs w k top which s at t
  over : (n next : ℕ) → Counted w s at n next → top < n → t.end ≡ Err (Count which) → SectionIs w k top which s at t
  stands : (next l : ℕ) → t.end ≡ Read (length t.rows) next l → Kept k top t.rows → Stands s at (section_text w t.rows) next → SectionIs w k top which s at t

section-lines-is : (w : List ℕ) (k top which : ℕ) (s : List ℕ) (at n p : ℕ) → Counted w s at n p → n ≤ top → (t : Rows) → RowsIs k n s p t → SectionIs w k top which s at t
unfolding section_text
section-lines-is w k top which s at n p c h t (rows-broken l e) = SectionIs.broken l e
section-lines-is w k top which s at n p c h t (rows_whole next l e count wide took) =
    stands next l (e ∙ ap (λ i. Read i next l) (sym count)) (record { few = omega arith; wide = wide; small = took.small })
    (rw count (stands-then c.text took.text))

section-head-is : (w : List ℕ) (k top which : ℕ) (s : List ℕ) (at line : ℕ) (h : Result Part Refusal) → HeadIs w top which s at line h → SectionIs w k top which s at (rows_of k s h)
unfolding rows_of on_part
section-head-is w k top which s at line h HeadIs.broken = SectionIs.broken line refl
section-head-is w k top which s at line h (HeadIs.over n next c g) = SectionIs.over n next c g refl
section-head-is w k top which s at line h (within n next c g) = section-lines-is w k top which s at n next c g (lines k n n s next (line + 1)) (lines-is k n s next (line + 1))

pub section-is : (w : List ℕ) (k top which : ℕ) (s : List ℕ) (m at line : ℕ) → SectionIs w k top which s at (section w k top which s (Read m at line))
section-is w k top which s m at line = section-head-is w k top which s at line (head_of w top which s (Read m at line)) (head-is w top which s m at line)

-- the text of a section is read as its rows
pub stands-section : (w : List ℕ) (k top which : ℕ) (s : List ℕ) (m at line next : ℕ) (rows : List (List ℕ)) → top ≤ most → Kept k top rows → Stands s at (section_text w rows) next →
    section w k top which s (Read m at line) ≡ record { rows = rows; end = Read (length rows) next (line + 1 + length rows) }
unfolding section_text rows_of on_part
stands-section w k top which s m at line next rows h a x =
    let c = stands-cut (head_text w (length rows)) (rows_text rows) x in
    let e = head-back w top which s m at line (length rows) c.mid (record { small = omega (arith, a.few); text = c.first }) in
    rw (e, le-ltb top (length rows) a.few) (stands-lines k (length rows) rows s c.mid (line + 1) next a.wide a.small c.second)

-- and a count over the maximum is refused
pub over-section : (w : List ℕ) (k top which : ℕ) (s : List ℕ) (m at line n next : ℕ) → Counted w s at n next → top < n → (section w k top which s (Read m at line)).end ≡ Err (Count which)
unfolding rows_of on_part
over-section w k top which s m at line n next c h = rw (head-back w top which s m at line n next c, lt-ltb top n h)
