-- A section that was read to its end: as many lines as its count, k numbers in each, and not more lines than the most.
use Rattle.std.specs.Prelude.{Ok, List, [], ◌∷◌, ◌≡◌, refl, ℕ, zero, suc, ◌+◌, ◌≤◌, length, drop, Err, None, Option, Result, Some}
use Rattle.std.proofs.Common.{sym, ap, arith}
use Rattle.basics.specs.Lists.{All}
use Rattle.refusal.specs.declared.Refusal.{Refusal}
use Rattle.refusal.specs.declared.Refusal.TheVariants.{Form}
use Rattle.text.specs.Text.{number, stop_of}
use Rattle.rows.specs.declared.Part.{Part}
use Rattle.rows.specs.Read.{Read, read_once}
use Rattle.rows.specs.Section.{on_number, on_place, on_part, Fields, fields, Rows, lines, head_of, rows_of, section, count_of, line_of}
use Rattle.rows.specs.Reading.{head_small}

pub record Whole (k n : ℕ) (t : Rows) : Type 0 where
  pub count : length t.rows ≡ n
  pub wide : All (λ (r : List ℕ). length r ≡ k) t.rows

-- a line that was read to its end has its k numbers
one_more : (k next : ℕ) (x : Option (ℕ × ℕ)) (f : ℕ → Fields) → ((p : ℕ) → (f p).end ≡ Some next → length (f p).values ≡ k) →
    let g = on_number {A = Fields} x (record { values = []; end = None }) (λ v p. record { values = v ∷ (f p).values; end = (f p).end }) in
    g.end ≡ Some next → length g.values ≡ suc k
unfolding on_number
one_more k next (Some read) f h e = ap suc (h read.1 e)
one_more k next None f h e = absurd (let z : ◌≡◌ {A = ℕ} 0 1 = cc in omega arith)

pub fields-count : (last k : ℕ) (s : List ℕ) (at next : ℕ) → (fields last k s at).end ≡ Some next → length (fields last k s at).values ≡ k
unfolding fields
fields-count last zero s at next e = refl
fields-count last (suc k) s at next e = one_more k next (number (drop at s) (stop_of last k) at) (λ p. fields last k s p) (λ p. fields-count last k s p next) e

-- lines that were read to their end
line-more : (k n left m next l : ℕ) (r : List ℕ) (x : Option ℕ) (f : ℕ → Rows) (broken : Rows) (q : Refusal) → broken.end ≡ Err q → ((p : ℕ) → x ≡ Some p → length r ≡ k) →
    ((p : ℕ) → (f p).end ≡ Read m next l → (m ≡ n) × Whole k left (f p)) →
    let g = on_place x broken (λ p. record { rows = r ∷ (f p).rows; end = (f p).end }) in
    g.end ≡ Read m next l → (m ≡ n) × Whole k (suc left) g
unfolding on_place
line-more k n left m next l r (Some p) f broken q b wide h e =
    let w = h p e in
    (w.0, record { count = ap suc w.1.count; wide = (wide p refl, w.1.wide) })
line-more k n left m next l r None f broken q b wide h e = absurd (let z : ◌≡◌ {A = ℕ} 0 1 = cc in omega arith)

pub lines-whole : (k n left : ℕ) (s : List ℕ) (at line m next l : ℕ) → (lines k n left s at line).end ≡ Read m next l → (m ≡ n) × Whole k left (lines k n left s at line)
unfolding lines
lines-whole k n zero s at line m next l e = (sym (read_once n at line m next l e).0, record { count = refl; wide = tt })
lines-whole k n (suc left) s at line m next l e =
    line-more k n left m next l (fields 10 k s at).values (fields 10 k s at).end (λ p. lines k n left s p (line + 1))
    (record { rows = (fields 10 k s at).values ∷ []; end = Err (Form line) })
    (Form line)
    refl
    (λ p. fields-count 10 k s at p)
    (λ p. lines-whole k n left s p (line + 1) m next l)
    e

-- and a line for each
line-counted : (line left : ℕ) (r : List ℕ) (x : Option ℕ) (f : ℕ → Rows) (broken : Rows) (q : Refusal) → broken.end ≡ Err q →
    ((p : ℕ) → line_of (f p).end ≤ line + 1 + left) → line_of (on_place x broken (λ p. record { rows = r ∷ (f p).rows; end = (f p).end })).end ≤ line + suc left
unfolding on_place
line-counted line left r (Some p) f broken q b h = omega (arith, h p)
line-counted line left r None f broken q b h = rw b (omega arith)

lines-counted : (k n left : ℕ) (s : List ℕ) (at line : ℕ) → line_of (lines k n left s at line).end ≤ line + left
unfolding lines
lines-counted k n zero s at line = omega arith
lines-counted k n (suc left) s at line =
    line-counted line left (fields 10 k s at).values (fields 10 k s at).end (λ p. lines k n left s p (line + 1))
    (record { rows = (fields 10 k s at).values ∷ []; end = Err (Form line) })
    (Form line)
    refl
    (λ p. lines-counted k n left s p (line + 1))

-- under a head
pub rows_whole : (k : ℕ) (s : List ℕ) (head : Result Part Refusal) (m next l : ℕ) → (rows_of k s head).end ≡ Read m next l → (m ≡ count_of head) × Whole k m (rows_of k s head)
unfolding rows_of on_part
rows_whole k s (Ok part) m next l e =
    let w = lines-whole k part.count part.count s part.at part.line m next l e in
    (w.0, rw w.0 w.1)
rows_whole k s (Err r) m next l e = absurd (let z : ◌≡◌ {A = ℕ} 0 1 = cc in omega arith)

pub rows-counted : (k : ℕ) (s : List ℕ) (head : Result Part Refusal) → line_of (rows_of k s head).end ≤ line_of head + count_of head
unfolding rows_of on_part
rows-counted k s (Ok part) = lines-counted k part.count part.count s part.at part.line
rows-counted k s (Err r) = omega arith

-- The section: its count is at most the most, its lines are whole, and the lines past it are few.
module _ (w : List ℕ) (k most which : ℕ) (s : List ℕ) (last : Result Part Refusal) where
  pub section-whole : (n next line : ℕ) → (section w k most which s last).end ≡ Read n next line → (n ≤ most) × Whole k n (section w k most which s last)
  section-whole n next line e =
      let h = rows_whole k s (head_of w most which s last) n next line e in
      (omega (arith, h.0, (head_small w s most which last).0), h.1)

  pub section-lines : line_of (section w k most which s last).end ≤ line_of last + 1 + most
  section-lines = omega (arith, rows-counted k s (head_of w most which s last), (head_small w s most which last).0, (head_small w s most which last).1)

-- What was read was reached: the part before it was read too.
pub record Came (p : Result Part Refusal) : Type 0 where
  pub count : ℕ
  pub at : ℕ
  pub line : ℕ
  pub is : p ≡ Read count at line

pub head_came : (w : List ℕ) (most which : ℕ) (s : List ℕ) (last : Result Part Refusal) → Came (head_of w most which s last) → Came last
unfolding head_of on_part
head_came w most which s (Ok part) c = record { count = part.count; at = part.at; line = part.line; is = refl }
head_came w most which s (Err r) c = absurd (let e = c.is in let z : ◌≡◌ {A = ℕ} 0 1 = cc in omega arith)

pub rows_came : (k : ℕ) (s : List ℕ) (head : Result Part Refusal) → Came (rows_of k s head).end → Came head
unfolding rows_of on_part
rows_came k s (Ok part) c = record { count = part.count; at = part.at; line = part.line; is = refl }
rows_came k s (Err r) c = absurd (let e = c.is in let z : ◌≡◌ {A = ℕ} 0 1 = cc in omega arith)
