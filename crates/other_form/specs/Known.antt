-- What a sound reading says of a sheet: its bytes are the text of its numbers, which are in form, and the counts are theirs. So it is known where each part of it stands.
use Rattle.refusal.specs.declared.Refusal.{Refusal}
use Rattle.std.specs.Prelude.{Result, List, [], ◌∷◌, ◌++◌, ◌≡◌, refl, ℕ, ◌+◌, length, drop, Ok}
use Rattle.std.proofs.Common.{◌∙◌, ap, sym, subst, add-zero, arith, append-nil}
use Rattle.std.proofs.Math.Seq.{drop-length}
use Rattle.text.specs.Print.{bytes}
use Rattle.text.specs.Stands.{Stands, stands-cut, whole-stands}
use Rattle.rows.specs.Print.{section_text}
use Rattle.elements.specs.declared.SheetForm.{SheetForm}
use Rattle.elements.specs.declared.SheetForm.TheVariants.{One, Two}
use Rattle.elements.specs.Print.{elements_text}
use Rattle.sheet.specs.declared.Counts.{Counts}
use Rattle.sheet.specs.Sheet.{Sheet, plain, singles, reading}
use Rattle.sheet.specs.Form.{Written, sheet_text, InForm, sheet_of, written_of}
use Rattle.sheet.specs.Reads.{sheet-reads}
use Rattle.sheet.proofs.Exact.{sound-exactly}
use Rattle.other_form.specs.Lines.{Passes, word-plain, passes_then, rows-passes, head-passes, section-passes}
use Rattle.other_form.specs.Text.{numbers_part, rows_part, head_part, plain_text, none_text, text-one, text-two}

pub record Known (s : List ℕ) (n : Counts) : Type 0 where
  pub form : InForm (reading s).form (written_of (reading s))
  pub text : s ≡ sheet_text (reading s).form (written_of (reading s))
  pub is : reading s ≡ sheet_of (reading s).form (written_of (reading s))
  pub bases : n.bases ≡ length (written_of (reading s)).base
  pub rubies : n.rubies ≡ length (written_of (reading s)).ruby
  pub lefts : n.lefts ≡ length (written_of (reading s)).left
  pub elements : n.elements ≡ length (written_of (reading s)).elem

sound-one : {a b : Counts} → ◌≡◌ {A = Result Counts Refusal} (Ok a) (Ok b) → a ≡ b
sound-one e = cc

pub known : {s : List ℕ} {n : Counts} → (reading s).end ≡ Ok n → Known s n
unfolding sheet_of
known {s} {n} e =
    let f = (reading s).form in
    let r = written_of (reading s) in
    let p = (sound-exactly s f r).0 (record { counts = n; sound = e; form = refl; numbers = refl }) in
    let is = sheet-reads s f r p.0 p.1 in
    let end = sym e ∙ ap (λ (t : Sheet). t.end) is in
    let same = sound-one end in
    record {
      form = p.0;
      text = p.1;
      is = is;
      bases = ap (λ (c : Counts). c.bases) same;
      rubies = ap (λ (c : Counts). c.rubies) same;
      lefts = ap (λ (c : Counts). c.lefts) same;
      elements = ap (λ (c : Counts). c.elements) same;
    }

-- Lines of the parts.

pub numbers-passes : (r : Written) → Passes 2 (numbers_part r)
unfolding numbers_part
numbers-passes r = rows-passes 0 (singles (r.em ∷ r.measure ∷ [])) (refl, (refl, tt))

pub rows_part-passes : (r : Written) {f : SheetForm} → InForm f r → (k : ℕ) → k ≡ length r.base + length r.ruby + 2 → Passes k (rows_part r)
unfolding rows_part
rows_part-passes r form k e =
    let b = section-passes (bytes "base ") 4 r.base (word-plain (bytes "base ") refl) form.base.wide in
    let p = passes_then b (section-passes (bytes "ruby ") 1 r.ruby (word-plain (bytes "ruby ") refl) form.ruby.wide) in
    subst (λ q. Passes q (section_text (bytes "base ") r.base ++ section_text (bytes "ruby ") r.ruby)) (more (length r.base) (length r.ruby) e) p
  where
    more : (b r : ℕ) → k ≡ b + r + 2 → 1 + b + (1 + r) ≡ k
    more b r e = omega arith

pub head_part-passes : (r : Written) → Passes 1 (head_part r)
unfolding head_part
head_part-passes r = head-passes (bytes "elem ") (length r.elem) (word-plain (bytes "elem ") refl)

-- Where the parts of a sheet stand: em and measure behind the first line, up to the place a; `base` and `ruby` x bytes behind it, up to b; the first line of `elem` y bytes behind that, up to c. Form
-- two has the seven numbers and the line `left` between them.

pub record Parts (x y : ℕ) (s : List ℕ) (r : Written) (last : List ℕ) : Type 0 where
  pub a : ℕ
  pub b : ℕ
  pub c : ℕ
  pub numbers : Stands s 6 (numbers_part r) a
  pub rows : Stands s (a + x) (rows_part r) b
  pub head : Stands s (b + y) (head_part r) c
  pub lines : drop c s ≡ last
  pub size : length s ≡ c + length last

first-line : {s w t : List ℕ} {m q : ℕ} → length w ≡ 6 → Stands s 0 w m → Stands s m t q → Stands s 6 t q
first-line {s} {w} {t} {m} {q} e x y = let f : m ≡ 6 = omega (arith, x.past, e) in subst (λ m. Stands s m t q) f y

last-lines : {s t : List ℕ} {c : ℕ} → Stands s c t (length s) → drop c s ≡ t
last-lines {s} {t} {c} x = x.text ∙ ap (λ l. t ++ l) (drop-length s) ∙ append-nil t

at_once : {s t : List ℕ} {m q : ℕ} → Stands s m t q → Stands s (m + 0) t q
at_once {s} {t} {m} {q} x = subst (λ m. Stands s m t q) (sym (add-zero m)) x

pub one-parts : (s : List ℕ) (r : Written) → s ≡ sheet_text One r → Parts 0 0 s r (elements_text One r.elem)
one-parts s r e =
    let last = elements_text One r.elem in
    let w = stands-cut (bytes "set 2\n") (numbers_part r ++ (rows_part r ++ (head_part r ++ last))) (whole-stands s _ (e ∙ text-one r)) in
    let x = stands-cut (numbers_part r) (rows_part r ++ (head_part r ++ last)) (first-line refl w.first w.second) in
    let y = stands-cut (rows_part r) (head_part r ++ last) x.second in
    let z = stands-cut (head_part r) last y.second in
    record { a = x.mid; b = y.mid; c = z.mid; numbers = x.first; rows = at_once y.first; head = at_once z.first; lines = last-lines z.second; size = z.second.past }

pub two-parts : (s : List ℕ) (r : Written) → r.house ≡ plain → r.left ≡ [] → s ≡ sheet_text Two r → Parts 14 7 s r (elements_text Two r.elem)
two-parts s r h l e =
    let last = elements_text Two r.elem in
    let tail = none_text ++ (head_part r ++ last) in
    let w = stands-cut (bytes "set 9\n") (numbers_part r ++ (plain_text ++ (rows_part r ++ tail))) (whole-stands s _ (e ∙ text-two r h l)) in
    let x = stands-cut (numbers_part r) (plain_text ++ (rows_part r ++ tail)) (first-line refl w.first w.second) in
    let u = stands-cut plain_text (rows_part r ++ tail) x.second in
    let y = stands-cut (rows_part r) tail u.second in
    let v = stands-cut none_text (head_part r ++ last) y.second in
    let z = stands-cut (head_part r) last v.second in
    record {
      a = x.mid;
      b = y.mid;
      c = z.mid;
      numbers = x.first;
      rows = subst (λ m. Stands s m (rows_part r) y.mid) u.first.past y.first;
      head = subst (λ m. Stands s m (head_part r) z.mid) v.first.past z.first;
      lines = last-lines z.second;
      size = z.second.past;
    }
