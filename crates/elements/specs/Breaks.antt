-- Where the section `elem` breaks its form, form one or form two, and on which line: no element's text stands where the next line must begin. Theorems `section-stuck` and `stuck-section`: the section is
-- refused with 13 and a line exactly so.
use Rattle.std.specs.Prelude.{List, [], ◌∷◌, ◌≡◌, refl, ℕ, zero, suc, ◌+◌, ◌≤◌, ◌<◌, length, Result, Err, None}
use Rattle.std.proofs.Common.{◌∙◌, ap, sym, add-zero, le_of_suc-le-suc, arith, le-ltb}
use Rattle.refusal.specs.declared.Refusal.TheVariants.{Form}
use Rattle.text.specs.Stands.{Stands, stands-none, stands-then, stands-cut}
use Rattle.refusal.specs.declared.Refusal.{Refusal}
use Rattle.rows.specs.declared.Part.{Part}
use Rattle.rows.specs.Read.{Read as PartRead}
use Rattle.rows.specs.Section.{on_part, head_of}
use Rattle.rows.specs.Print.{Counted}
use Rattle.rows.specs.Printed.{HeadIs, head-is, head-back}
use Rattle.rows.specs.Breaks.{NoHead, head-stuck, stuck-head}
use Rattle.elements.specs.declared.Element.{Element}
use Rattle.elements.specs.declared.SheetForm.{SheetForm}
use Rattle.elements.specs.Element.{on_line, Taken, element}
use Rattle.elements.specs.Elements.{Listed, broke, joined, lines, elements}
use Rattle.elements.specs.Print.{Entry, element_text, Fit, element_of, taken_of, elements_text}
use Rattle.elements.specs.Printed.{ElementIs, broken, stands, element-is, element-back, ElementsStand}

-- no element stands at a place
abbrev pub NoElement : SheetForm → List ℕ → ℕ → Type 0
NoElement f s at = (e : Entry) (q : ℕ) → Fit f e → Stands s at (element_text f e) q → ⊥

-- Of `left` lines from the place `at` on, the first with the number `line`: some elements stand there, fewer than must, and none after them; l is the number of the line that is missing or
-- broken.
pub record ElementsBreak (f : SheetForm) (left : ℕ) (s : List ℕ) (at line l : ℕ) : Type 0 where
  pub elements : List Entry
  pub next : ℕ
  pub fewer : length elements < left
  pub took : ElementsStand f s at elements next
  pub none : NoElement f s next
  pub place : l ≡ line + length elements

broken-none : (f : SheetForm) (s : List ℕ) (at : ℕ) → (element f s at).line ≡ None → NoElement f s at
unfolding taken_of
broken-none f s at h e q fit x =
    let g = ap (λ (t : Taken). t.line) (element-back f e s at q fit x) in
    let z : ◌≡◌ {A = ℕ} 0 1 = cc in
    omega arith

none-broken : (f : SheetForm) (s : List ℕ) (at : ℕ) → NoElement f s at → ElementIs f s at (element f s at) → (element f s at).line ≡ None
none-broken f s at none (broken e) = e
none-broken f s at none (stands e q fit x same) = absurd (none e q fit x)

line-stuck : (f : SheetForm) (left : ℕ) (s : List ℕ) (at line l : ℕ) (g : Taken) → (g.line ≡ None → NoElement f s at) → ElementIs f s at g → (k : Element → ℕ → Listed) →
    ((e : Element) (p : ℕ) → (k e p).end ≡ Err (Form l) → ElementsBreak f left s p (line + 1) l) →
    (on_line g.line (broke g line) (λ e p. joined g e (k e p))).end ≡ Err (Form l) → ElementsBreak f (suc left) s at line l
unfolding on_line taken_of elements_text
line-stuck f left s at line l g none (broken h) k on e =
    let i = rw h at e in
    let j : line ≡ l = cc in
    record { elements = []; next = at; fewer = omega arith; took = record { fit = tt; text = stands-none s at }; none = none h; place = omega arith }
line-stuck f left s at line l g none (stands x p fit took same) k on e =
    let t = on (element_of x) p (rw same at e) in
    record {
      elements = x ∷ t.elements;
      next = t.next;
      fewer = omega (arith, t.fewer);
      took = record { fit = (fit, t.took.fit); text = stands-then took t.took.text };
      none = t.none;
      place = omega (arith, t.place);
    }

pub lines-stuck : (f : SheetForm) (n left : ℕ) (s : List ℕ) (at line used lused l : ℕ) → (lines f n left s at line used lused).end ≡ Err (Form l) → ElementsBreak f left s at line l
unfolding lines
lines-stuck f n zero s at line used lused l e = absurd (let z : ◌≡◌ {A = ℕ} 0 1 = cc in omega arith)
lines-stuck f n (suc left) s at line used lused l e =
    line-stuck f left s at line l (element f s at) (broken-none f s at) (element-is f s at) (λ x p. lines f n left s p (line + 1) (used + x.runs) (lused + x.lruns))
    (λ x p. lines-stuck f n left s p (line + 1) (used + x.runs) (lused + x.lruns) l)
    e

stuck-elements : (f : SheetForm) (n left : ℕ) (es : List Entry) (s : List ℕ) (at line used lused next : ℕ) → length es < left → ElementsStand f s at es next → NoElement f s next →
    (lines f n left s at line used lused).end ≡ Err (Form (line + length es))
unfolding lines elements_text on_line taken_of
stuck-elements f n zero es s at line used lused next h x none = absurd (omega arith)
stuck-elements f n (suc left) [] s at line used lused next h x none =
    let q : next ≡ at = x.text.past ∙ add-zero at in
    let e = none-broken f s at (rw q at none) (element-is f s at) in
    rw (e, add-zero)
stuck-elements f n (suc left) (e ∷ es) s at line used lused next h x none =
    let c = stands-cut (element_text f e) (elements_text f es) x.text in
    let b = element-back f e s at c.mid x.fit.0 c.first in
    let t =
    stuck-elements f n left es s c.mid (line + 1) (used + (element_of e).runs) (lused + (element_of e).lruns) next (le_of_suc-le-suc h) (record { fit = x.fit.1; text = c.second }) none in
    let g : line + 1 + length es ≡ line + suc (length es) = omega arith in
    rw (b, ← g) t

pub stuck-lines : (f : SheetForm) (n left : ℕ) (s : List ℕ) (at line used lused l : ℕ) → ElementsBreak f left s at line l → (lines f n left s at line used lused).end ≡ Err (Form l)
stuck-lines f n left s at line used lused l x = rw x.place (stuck-elements f n left x.elements s at line used lused x.next x.fewer x.took x.none)

-- The section breaks its form on line l: its first line, or one of those that its count asks for.
pub data SectionBreaks (f : SheetForm) (w : List ℕ) (top : ℕ) (s : List ℕ) (at line l : ℕ) : Type 0 where
  no-head : l ≡ line → NoHead w s at → SectionBreaks f w top s at line l
  no-element : (n p : ℕ) → Counted w s at n p → n ≤ top → ElementsBreak f n s p (line + 1) l → SectionBreaks f w top s at line l

section-stuck-by : (f : SheetForm) (w : List ℕ) (top which : ℕ) (s : List ℕ) (m at line l : ℕ) (h : Result Part Refusal) → head_of w top which s (PartRead m at line) ≡ h → HeadIs w top which s at line h →
    (elements f s h).end ≡ Err (Form l) → SectionBreaks f w top s at line l
unfolding elements on_part
section-stuck-by f w top which s m at line l h i HeadIs.broken e =
    let j : line ≡ l = cc in
    no-head (sym j) (head-stuck w top which s m at line line i).1
section-stuck-by f w top which s m at line l h i (HeadIs.over n next c g) e = absurd (let z : ◌≡◌ {A = ℕ} 0 1 = cc in omega arith)
section-stuck-by f w top which s m at line l h i (HeadIs.within n next c g) e = no-element n next c g (lines-stuck f n n s next (line + 1) 0 0 l e)

pub section-stuck : (f : SheetForm) (w : List ℕ) (top which : ℕ) (s : List ℕ) (m at line l : ℕ) → (elements f s (head_of w top which s (PartRead m at line))).end ≡ Err (Form l) →
    SectionBreaks f w top s at line l
section-stuck f w top which s m at line l e = section-stuck-by f w top which s m at line l (head_of w top which s (PartRead m at line)) refl (head-is w top which s m at line) e

pub stuck-section : (f : SheetForm) (w : List ℕ) (top which : ℕ) (s : List ℕ) (m at line l : ℕ) → SectionBreaks f w top s at line l →
    (elements f s (head_of w top which s (PartRead m at line))).end ≡ Err (Form l)
unfolding elements on_part
stuck-section f w top which s m at line l (no-head e none) = rw (stuck-head w top which s m at line none, e)
stuck-section f w top which s m at line l (no-element n p c h x) = rw (head-back w top which s m at line n p c, le-ltb top n h) (stuck-lines f n n s p (line + 1) 0 0 l x)

-- the line is one of the section's
pub section-place : {f : SheetForm} {w : List ℕ} {top : ℕ} {s : List ℕ} {at line l : ℕ} → SectionBreaks f w top s at line l → l ≤ line + top
section-place (no-head e none) = omega (arith, e)
section-place (no-element n p c h x) = omega (arith, h, x.fewer, x.place)
