-- Every reading of a sheet is one of three (`sheet-is`): its form is broken, a count is over its maximum, or the bytes are the text of numbers in form. And such a text is read as its numbers
-- (`sheet-reads`, `over_reads`, `breaks-reads`). Said once for both forms: the first line tells the form, and the sections between `set` and `elem` are a chain.
-- `sheet-is` and `breaks-reads` are in `proofs/Came.antt`.
use Rattle.std.specs.Prelude.{Bool, cond, ◌≡◌, refl, ℕ, suc, ◌+◌, ◌≤◌, ◌<◌, eqb, ltb, drop, Ok, Err, Result, Some, None, Option}
use Rattle.std.proofs.Math.Bool.{true, false}
use mathlib.Core.List.{List, [], ◌∷◌, ◌++◌, append-nil}
use Rattle.std.proofs.Common.{◌∙◌, zero-add, arith, ltb-true, ltb-false, lt-ltb, le-ltb, eq-eqb}
use Rattle.std.proofs.Math.Path.{ap, ap₂, sym, subst}
use Rattle.std.proofs.Math.ListN.{length, length-append}
use Rattle.std.proofs.lemmas.List.{length-map}
use Rattle.basics.specs.Lists.{All}
use Rattle.refusal.specs.declared.Refusal.{Refusal}
use Rattle.refusal.specs.declared.Refusal.TheVariants.{Form, Count}
use Rattle.text.specs.Text.{word}
use Rattle.text.specs.Print.{bytes, decimal}
use Rattle.text.specs.Stands.{Stands, stands-cut, word_stands, stands_word, whole-stands}
use Rattle.rows.specs.declared.Part.{Part}
use Rattle.rows.specs.Read.{Read}
use Rattle.rows.specs.Section.{on_place, on_part, Rows, lines, head_of, rows_of, count_of}
use Rattle.rows.specs.Whole.{Came, rows_whole, rows_came, head_came}
use Rattle.rows.specs.Print.{rows_text, head_text, section_text, Small}
use Rattle.rows.specs.Printed.{stands-lines}
use Rattle.rows.specs.Breaks.{RowsBreak, stuck-lines}
use Rattle.rows.specs.Chain.{chain, chain_text, lines_in, ChainKept, section_handed, Tops, ChainRead, stands-chain, over-chain}
use Rattle.elements.specs.declared.SheetForm.{SheetForm}
use Rattle.elements.specs.declared.SheetForm.TheVariants.{One, Two}
use Rattle.elements.specs.declared.Elements.{Elements}
use Rattle.elements.specs.Read.{Read as ElementsRead}
use Rattle.elements.specs.Elements.{Listed, elements}
use Rattle.elements.specs.Print.{Entry, elem_text, KeptElements, all_runs, all_left, listed_of}
use Rattle.elements.specs.Printed as elem
use Rattle.sheet.specs.Sheet.{set_word, numbers_in, elem_word, opening, form_by, form_of, set_of, plain, singles, house, base_from, ruby_from, left_head, left_from, elem_from, base_of, ruby_of, left_of, elem_of, end_of}
use Rattle.sheet.specs.Sheet.{Sheet, reading}
use Rattle.sheet.specs.Form.{Written, set_text, numbers_of, sections, tables_by, sheet_text, Shown, InForm, Begins, Over, in_rows, in_elem, sheet_of}
use Rattle.sheet.specs.Breaks.{Breaks, tables-kept}

pub data OpenIs (s : List ℕ) : Result Part Refusal → Type 0 where
  long : 65535 < length s → OpenIs s (Err (Form 0))
  none : length s ≤ 65535 → ((f : SheetForm) (p : ℕ) → Stands s 0 (set_word f) p → ⊥) → OpenIs s (Err (Form 1))
  begins : (f : SheetForm) (p : ℕ) → length s ≤ 65535 → Stands s 0 (set_word f) p → OpenIs s (Read (numbers_in f) p 2)

off-none : (w s : List ℕ) (p : ℕ) → word w s 0 ≡ None → Stands s 0 w p → ⊥
off-none w s p e x =
    let i = stands_word w s 0 p x in
    let z : ◌≡◌ {A = ℕ} 0 1 = cc in
    omega arith

neither : (s : List ℕ) → word (set_word One) s 0 ≡ None → word (set_word Two) s 0 ≡ None → (f : SheetForm) (p : ℕ) → Stands s 0 (set_word f) p → ⊥
neither s a b One p x = off-none (set_word One) s p a x
neither s a b Two p x = off-none (set_word Two) s p b x

open_two : (s : List ℕ) → length s ≤ 65535 → word (set_word One) s 0 ≡ None → (y : Option ℕ) → word (set_word Two) s 0 ≡ y → OpenIs s (on_place y (Err (Form 1)) (λ p. Read 9 p 2))
unfolding on_place numbers_in
open_two s h a (Some p) e = begins Two p h (word_stands (set_word Two) s 0 p e)
open_two s h a None e = none h (neither s a e)

open_one : (s : List ℕ) → length s ≤ 65535 → (x : Option ℕ) → word (set_word One) s 0 ≡ x →
    OpenIs s (on_place x (on_place (word (set_word Two) s 0) (Err (Form 1)) (λ p. Read 9 p 2)) (λ p. Read 2 p 2))
unfolding on_place numbers_in
open_one s h (Some p) e = begins One p h (word_stands (set_word One) s 0 p e)
open_one s h None e = open_two s h e (word (set_word Two) s 0) refl

open_tested : (s : List ℕ) (b : Bool) → ltb 65535 (length s) ≡ b →
    OpenIs s (cond b (Err (Form 0)) (on_place (word (set_word One) s 0) (on_place (word (set_word Two) s 0) (Err (Form 1)) (λ p. Read 9 p 2)) (λ p. Read 2 p 2)))
open_tested s true e = long (ltb-true 65535 (length s) e)
open_tested s false e = open_one s (ltb-false 65535 (length s) e) (word (set_word One) s 0) refl

pub open_is : (s : List ℕ) → OpenIs s (opening s)
unfolding opening
open_is s = open_tested s (ltb 65535 (length s)) refl

-- the first line of a form tells it
pub open_stands : (f : SheetForm) (s : List ℕ) (p : ℕ) → length s ≤ 65535 → Stands s 0 (set_word f) p → opening s ≡ Read (numbers_in f) p 2
unfolding opening on_place numbers_in set_word
open_stands One s p h x =
    let w : word (set_word One) s 0 ≡ Some p = stands_word (set_word One) s 0 p x in
    rw (le-ltb 65535 (length s) h, w)
open_stands Two s p h x =
    let w : word (set_word Two) s 0 ≡ Some p = stands_word (set_word Two) s 0 p x in
    rw (le-ltb 65535 (length s) h, other s x.text, w)
  where
    other : (s : List ℕ) {t : List ℕ} → s ≡ bytes "set 9\n" ++ t → word (bytes "set 2\n") s 0 ≡ None
    other s e = rw e

told : (f : SheetForm) (p line : ℕ) → form_by (Read (numbers_in f) p line) ≡ f
unfolding form_by numbers_in
told One p line = refl
told Two p line = refl

form-told : (f : SheetForm) (s : List ℕ) (p : ℕ) → length s ≤ 65535 → Stands s 0 (set_word f) p → form_of s ≡ f
unfolding form_of
form-told f s p h x = ap form_by (open_stands f s p h x) ∙ told f p 2

set-head : (f : SheetForm) → head_text (bytes "set ") (numbers_in f) ≡ set_word f
unfolding head_text decimal numbers_in set_word
set-head One = refl
set-head Two = refl

pub single-count : (vs : List ℕ) → length (singles vs) ≡ length vs
single-count vs = length-map vs (λ (v : ℕ). v ∷ [])

pub set_text_lem : (f : SheetForm) (vs : List ℕ) → length vs ≡ numbers_in f → set_text vs ≡ set_word f ++ rows_text (singles vs)
unfolding set_text section_text
set_text_lem f vs e = ap (λ n. head_text (bytes "set ") n ++ rows_text (singles vs)) (single-count vs ∙ e) ∙ ap (λ l. l ++ rows_text (singles vs)) (set-head f)

pub single-wide : (vs : List ℕ) → All (λ (r : List ℕ). length r ≡ 1) (singles vs)
single-wide [] = tt
single-wide (v ∷ vs) = (refl, single-wide vs)

single-small : (vs : List ℕ) → Small vs → All Small (singles vs)
single-small [] a = tt
single-small (v ∷ vs) a = ((a.0, tt), single-small vs a.1)

pub small-single : (vs : List ℕ) → All Small (singles vs) → Small vs
small-single [] a = tt
small-single (v ∷ vs) a = (a.0.0, small-single vs a.1)

module _ (f : SheetForm) (s : List ℕ) (p : ℕ) (b : Begins f s p) where
  pub set-read : set_of s ≡ record { rows = singles b.numbers; end = Read (numbers_in f) p (2 + numbers_in f) }
  unfolding set_of rows_of on_part
  set-read =
      let c = stands-cut (set_word f) (rows_text (singles b.numbers)) (rw (set_text_lem f b.numbers b.count) at b.text) in
      let n : length (singles b.numbers) ≡ numbers_in f = single-count b.numbers ∙ b.count in
      let l = stands-lines 1 (numbers_in f) (singles b.numbers) s c.mid 2 p (single-wide b.numbers) (single-small b.numbers b.small) c.second in
      rw (open_stands f s c.mid b.short c.first) (rw n at l)

  pub form-begins : form_of s ≡ f
  form-begins =
      let c = stands-cut (set_word f) (rows_text (singles b.numbers)) (rw (set_text_lem f b.numbers b.count) at b.text) in
      form-told f s c.mid b.short c.first

left_handed : (f : SheetForm) (s : List ℕ) (last : Result Part Refusal) (q : Refusal) → last ≡ Err q → (left_from f s last).end ≡ Err q
unfolding rows_of left_head head_of on_part
left_handed One s last q e = rw e
left_handed Two s last q e = rw e

elem_handed : (f : SheetForm) (s : List ℕ) (last : Result Part Refusal) (q : Refusal) → last ≡ Err q → (elem_from f s last).end ≡ Err q
unfolding elements head_of on_part
elem_handed f s last q e = rw e

end_handed : (s : List ℕ) (b c l : Result Part Refusal) (d : Result Elements Refusal) (q : Refusal) → d ≡ Err q → end_of s b c l d ≡ Err q
unfolding end_of
end_handed s b c l d q e = rw e

module _ (s : List ℕ) (q : Refusal) where
  pub from-elem : (elem_of s).end ≡ Err q → (reading s).end ≡ Err q
  unfolding reading
  from-elem e = end_handed s (base_of s).end (ruby_of s).end (left_of s).end (elem_of s).end q e

  from-left : (left_of s).end ≡ Err q → (reading s).end ≡ Err q
  unfolding elem_of
  from-left e = from-elem (elem_handed (form_of s) s (left_of s).end q e)

  pub from-set : (set_of s).end ≡ Err q → (reading s).end ≡ Err q
  unfolding left_of ruby_of base_of
  from-set e =
      from-left (left_handed (form_of s) s (ruby_of s).end q
      (section_handed (bytes "ruby ") 2 2048 1 s (base_of s).end q (section_handed (bytes "base ") 5 1024 0 s (set_of s).end q e)))

abbrev left_part : SheetForm → List ℕ → Result Part Refusal → Rows
left_part f s p = left_from f s (ruby_from s (base_from s p).end).end

pub tops : (f : SheetForm) → Tops (sections f)
unfolding sections
tops One = (omega arith, (omega arith, tt))
tops Two = (omega arith, (omega arith, (omega arith, tt)))

left-refused : (f : SheetForm) (s : List ℕ) (p : Result Part Refusal) (q : Refusal) → (chain (sections f) s p).end ≡ Err q → (left_part f s p).end ≡ Err q
unfolding chain sections left_head
left-refused One s p q e = left_handed One s (ruby_from s (base_from s p).end).end q e
left-refused Two s p q e = e

left-read : (f : SheetForm) (s : List ℕ) (p : Result Part Refusal) (n at line : ℕ) → (chain (sections f) s p).end ≡ Read n at line → (m : ℕ) × ((left_part f s p).end ≡ Read m at line)
unfolding chain sections left_head on_part rows_of lines
left-read One s p n at line e = (0, skip (ruby_from s (base_from s p).end).end e)
  where
    skip : (x : Result Part Refusal) → x ≡ Read n at line → (left_from One s x).end ≡ Read 0 at line
    skip x e = rw e
left-read Two s p n at line e = (n, e)

chain-tables : (f : SheetForm) (s : List ℕ) (p : Result Part Refusal) → (chain (sections f) s p).tables ≡ tables_by f (base_from s p).rows (ruby_from s (base_from s p).end).rows (left_part f s p).rows
unfolding chain sections tables_by left_head
chain-tables One s p = refl
chain-tables Two s p = refl

-- of form one there are no left characters
left-none : (s : List ℕ) (last : Result Part Refusal) → (left_from One s last).rows ≡ []
unfolding left_head on_part rows_of lines
left-none s (Ok part) = refl
left-none s (Err r) = refl

module _ (f : SheetForm) (s : List ℕ) (p : ℕ) (b : Begins f s p) where
  abbrev pub first : Result Part Refusal
  first = Read (numbers_in f) p (2 + numbers_in f)

  set-end : (set_of s).end ≡ first
  set-end = ap (λ (t : Rows). t.end) (set-read f s p b)

  left_part_lem : left_of s ≡ left_part f s first
  unfolding left_of ruby_of base_of
  left_part_lem = ap₂ (λ i e. left_part i s e) (form-begins f s p b) set-end

  pub from-chain : (q : Refusal) → (chain (sections f) s first).end ≡ Err q → (reading s).end ≡ Err q
  from-chain q e = from-left s q (ap (λ (t : Rows). t.end) left_part_lem ∙ left-refused f s first q e)

  pub elem-part : (n at line : ℕ) → (chain (sections f) s first).end ≡ Read n at line → (m : ℕ) × (elem_of s ≡ elem_from f s (Read m at line))
  unfolding elem_of
  elem-part n at line e =
      let m = left-read f s first n at line e in
      (m.0, ap₂ (λ i x. elem_from i s x) (form-begins f s p b) (ap (λ (t : Rows). t.end) left_part_lem ∙ m.1))

-- what the end of the elements says of the sheet
end_of_lem : (s : List ℕ) (n u v at line : ℕ) → (elem_of s).end ≡ ElementsRead n u v at line → (c : _) × ((reading s).end ≡ cond (eqb at (length s)) (Ok c) (Err (Form line)))
unfolding end_of reading
end_of_lem s n u v at line e = (_, ap (end_of s (base_of s).end (ruby_of s).end (left_of s).end) e)

counted-rows : (k : ℕ) (s : List ℕ) (head : Result Part Refusal) → Came (rows_of k s head).end → count_of (rows_of k s head).end ≡ length (rows_of k s head).rows
counted-rows k s head c = ap count_of c.is ∙ sym (rows_whole k s head c.count c.at c.line c.is).1.count

pub left_came : (f : SheetForm) (s : List ℕ) (last : Result Part Refusal) → Came (left_head f s last) → Came last
unfolding left_head on_part
left_came One s (Ok part) c = record { count = part.count; at = part.at; line = part.line; is = refl }
left_came One s (Err r) c = absurd (let e = c.is in let z : ◌≡◌ {A = ℕ} 0 1 = cc in omega arith)
left_came Two s last c = head_came (bytes "left ") 2048 3 s last c

-- a count is that of the rows, where all sections between `set` and `elem` were read
record RowCounts (s : List ℕ) (base ruby left : Rows) : Type 0 where
  bases : count_of base.end ≡ length base.rows
  rubies : count_of ruby.end ≡ length ruby.rows
  lefts : count_of left.end ≡ length left.rows

all-counted : (f : SheetForm) (s : List ℕ) (p : Result Part Refusal) → Came (left_part f s p).end → RowCounts s (base_from s p) (ruby_from s (base_from s p).end) (left_part f s p)
all-counted f s p l =
    let c = left_came f s (ruby_from s (base_from s p).end).end (rows_came 2 s (left_head f s (ruby_from s (base_from s p).end).end) l) in
    let h = rows_came 2 s (head_of (bytes "ruby ") 2048 1 s (base_from s p).end) c in
    let b = head_came (bytes "ruby ") 2048 1 s (base_from s p).end h in
    record {
      bases = counted-rows 5 s (head_of (bytes "base ") 1024 0 s p) b;
      rubies = counted-rows 2 s (head_of (bytes "ruby ") 2048 1 s (base_from s p).end) c;
      lefts = counted-rows 2 s (left_head f s (ruby_from s (base_from s p).end).end) l;
    }

-- the sections of a form are the same only where their rows are
same_base : (f : SheetForm) (b c l b' c' l' : List (List ℕ)) → tables_by f b c l ≡ tables_by f b' c' l' → (b ≡ b') × (c ≡ c')
unfolding tables_by
same_base One b c l b' c' l' e = (cc, cc)
same_base Two b c l b' c' l' e = (cc, cc)

same_left : (f : SheetForm) (s : List ℕ) (p : Result Part Refusal) (r : Written) → Shown f r →
    tables_by f (base_from s p).rows (ruby_from s (base_from s p).end).rows (left_part f s p).rows ≡ tables_by f r.base r.ruby r.left → (left_part f s p).rows ≡ r.left
unfolding tables_by Shown
same_left One s p r h e = left-none s (ruby_from s (base_from s p).end).end ∙ sym h.1
same_left Two s p r h e = cc

-- all nine numbers of `set`
all-nine : (f : SheetForm) (r : Written) (p : ℕ) → Shown f r → singles (numbers_of f r) ++ house (Read (numbers_in f) p (2 + numbers_in f)) ≡ singles (r.em ∷ (r.measure ∷ r.house))
unfolding numbers_of numbers_in house Shown
all-nine One r p h = ap (λ l. singles (r.em ∷ (r.measure ∷ l))) (sym h.0)
all-nine Two r p h = append-nil (singles (r.em ∷ (r.measure ∷ r.house)))

form-numbers : (f : SheetForm) (r : Written) → InForm f r → (length (numbers_of f r) ≡ numbers_in f) × Small (numbers_of f r)
unfolding numbers_of numbers_in Shown
form-numbers One r form = (refl, (form.em, (form.measure, tt)))
form-numbers Two r form = (ap (λ n. suc (suc n)) form.shown.0, (form.em, (form.measure, form.shown.1)))

-- the sheet of what was read of its sections
abbrev sheet_from : SheetForm → List ℕ → Rows → Rows → Rows → Rows → Listed → Sheet
sheet_from g s a b c l d =
    record {
      form = g;
      set = a.rows ++ house a.end;
      base = b.rows;
      ruby = c.rows;
      left = l.rows;
      elem = d.rows;
      runs = d.runs;
      lruns = d.lruns;
      end = end_of s b.end c.end l.end d.end;
    }

sheet_from_lem : (s : List ℕ) → reading s ≡ sheet_from (form_of s) s (set_of s) (base_of s) (ruby_of s) (left_of s) (elem_of s)
unfolding reading
sheet_from_lem s = refl

sheet-same : (s : List ℕ) {g g' : SheetForm} {a a' b b' c c' l l' : Rows} {d d' : Listed} → g ≡ g' → a ≡ a' → b ≡ b' → c ≡ c' → l ≡ l' → d ≡ d' → sheet_from g s a b c l d ≡ sheet_from g' s a' b' c' l' d'
sheet-same s eg ea eb ec el ed = rw (eg, ea, eb, ec, el, ed)

all_read : (s : List ℕ) (f : SheetForm) (r : Written) (a b c l : Rows) (k : ℕ) → a.rows ++ house a.end ≡ singles (r.em ∷ (r.measure ∷ r.house)) →
    RowCounts s b c l → b.rows ≡ r.base → c.rows ≡ r.ruby → l.rows ≡ r.left → sheet_from f s a b c l (listed_of r.elem (length r.elem) 0 0 (length s) k) ≡ sheet_of f r
unfolding sheet_of end_of listed_of
all_read s f r a b c l k es counts eb ec el =
    rw (
      es,
      eq-eqb (length s) (length s) refl,
      zero-add (length (all_runs r.elem)),
      zero-add (length (all_left r.elem)),
      counts.bases,
      counts.rubies,
      counts.lefts,
      eb,
      ec,
      el,
    )

module _ (s : List ℕ) (f : SheetForm) (r : Written) (form : InForm f r) where
  abbrev wanted : List (List (List ℕ))
  wanted = tables_by f r.base r.ruby r.left

  abbrev line_on : ℕ
  line_on = 2 + numbers_in f + lines_in wanted

  -- a sheet that begins with the text of r, up to the place `next`
  record Parts (next : ℕ) : Type 0 where
    mid : ℕ
    last : ℕ
    begins : Begins f s mid
    numbers : begins.numbers ≡ numbers_of f r
    rows : ChainRead wanted last line_on (chain (sections f) s (Read (numbers_in f) mid (2 + numbers_in f)))
    elem : elem_of s ≡ listed_of r.elem (length r.elem) 0 0 next (line_on + 1 + length r.elem)

  parts : (next : ℕ) → length s ≤ 65535 → Stands s 0 (sheet_text f r) next → Parts next
  unfolding sheet_text
  parts next short x =
      let c = stands-cut (set_text (numbers_of f r)) (chain_text (sections f) wanted ++ elem_text f elem_word r.elem) x in
      let d = stands-cut (chain_text (sections f) wanted) (elem_text f elem_word r.elem) c.second in
      let n = form-numbers f r form in
      let b : Begins f s c.mid = record { short = short; numbers = numbers_of f r; count = n.0; small = n.1; text = c.first } in
      let t = stands-chain (sections f) wanted s (numbers_in f) c.mid (2 + numbers_in f) d.mid (tops f) (tables-kept f r form) d.first in
      let e = elem-part f s c.mid b t.count d.mid line_on t.end in
      record {
        mid = c.mid;
        last = d.mid;
        begins = b;
        numbers = refl;
        rows = t;
        elem = e.1 ∙ elem.stands-section f elem_word 1024 2 s e.0 d.mid line_on next r.elem (omega arith) form.elem d.second;
      }

  -- the text of numbers in form is read as them
  pub sheet-reads : s ≡ sheet_text f r → reading s ≡ sheet_of f r
  unfolding base_of ruby_of
  sheet-reads e =
      let short : length s ≤ 65535 = subst (λ (l : List ℕ). length l ≤ 65535) (sym e) form.short in
      let p = parts (length s) short (whole-stands s (sheet_text f r) e) in
      let first = Read (numbers_in f) p.mid (2 + numbers_in f) in
      let set = set-read f s p.mid p.begins in
      let at = ap (λ (t : Rows). t.end) set in
      let m = left-read f s first p.rows.count p.last line_on p.rows.end in
      let t = sym (chain-tables f s first) ∙ p.rows.tables in
      let same = same_base f (base_from s first).rows (ruby_from s (base_from s first).end).rows (left_part f s first).rows r.base r.ruby r.left t in
      let counts = all-counted f s first (record { count = m.0; at = p.last; line = line_on; is = m.1 }) in
      let nine = ap (λ (vs : List ℕ). singles vs ++ house first) p.numbers ∙ all-nine f r p.mid form.shown in
      sheet_from_lem s
      ∙ (sheet-same s (form-begins f s p.mid p.begins) set (ap (base_from s) at) (ap (λ q. ruby_from s (base_from s q).end) at) (left_part_lem f s p.mid p.begins) p.elem
      ∙ all_read s f r (record { rows = singles p.begins.numbers; end = first }) (base_from s first) (ruby_from s (base_from s first).end) (left_part f s first) _ nine counts same.0 same.1
      (same_left f s first r form.shown t))

-- a count over its maximum is refused
pub over_reads : {s : List ℕ} {which : ℕ} → Over s which → (reading s).end ≡ Err (Count which)
over_reads {s} (in_rows f p which b o) = from-chain f s p b (Count which) (over-chain (numbers_in f) (2 + numbers_in f) (tops f) o)
over_reads {s} (in_elem f p ts q n next b k x c h) =
    let t = stands-chain (sections f) ts s (numbers_in f) p (2 + numbers_in f) q (tops f) k x in
    let e = elem-part f s p b t.count q (2 + numbers_in f + lines_in ts) t.end in
    from-elem s (Count 2) (ap (λ (d : Listed). d.end) e.1 ∙ elem.over-section f elem_word 1024 2 s e.0 q (2 + numbers_in f + lines_in ts) n next c h)

-- and a broken form, with its line
pub set-refused : (s : List ℕ) (q : Refusal) → opening s ≡ Err q → (set_of s).end ≡ Err q
unfolding set_of rows_of on_part
set-refused s q e = rw e

pub set-stuck : (f : SheetForm) (s : List ℕ) (p l : ℕ) → opening s ≡ Read (numbers_in f) p 2 → RowsBreak 1 (numbers_in f) s p 2 l → (set_of s).end ≡ Err (Form l)
unfolding set_of rows_of on_part
set-stuck f s p l e x = rw e (stuck-lines 1 (numbers_in f) (numbers_in f) s p 2 l x)

pub open_long : (s : List ℕ) → 65535 < length s → opening s ≡ Err (Form 0)
unfolding opening
open_long s h = rw (lt-ltb 65535 (length s) h)

pub open_none : (s : List ℕ) → length s ≤ 65535 → ((f : SheetForm) (p : ℕ) → Stands s 0 (set_word f) p → ⊥) → (o : Result Part Refusal) → OpenIs s o → o ≡ Err (Form 1)
open_none s h n o (long g) = absurd (omega arith)
open_none s h n o (none g k) = refl
open_none s h n o (begins f p g x) = absurd (n f p x)

pub longer : (s t rest : List ℕ) → s ≡ t ++ rest → (rest ≡ [] → ⊥) → length t ≡ length s → ⊥
longer s t [] e h g = h refl
longer s t (x ∷ rest) e h g = omega (arith, ap length e, length-append t (x ∷ rest))

past-last : (a b c : ℕ) → 2 + a + b + 1 + c ≡ 3 + a + b + c
past-last a b c = omega arith

-- what the end says of a sheet that begins with the text of r
pub after_read : (s : List ℕ) (f : SheetForm) (r : Written) → InForm f r → length s ≤ 65535 → (p : ℕ) → Stands s 0 (sheet_text f r) p →
    (c : _) × ((reading s).end ≡ cond (eqb p (length s)) (Ok c) (Err (Form (3 + numbers_in f + lines_in (tables_by f r.base r.ruby r.left) + length r.elem))))
unfolding listed_of
after_read s f r form short p x =
    let w = parts s f r form p short x in
    let e = end_of_lem s _ _ _ p _ (ap (λ (t : Listed). t.end) w.elem) in
    let n = past-last (numbers_in f) (lines_in (tables_by f r.base r.ruby r.left)) (length r.elem) in
    (e.0, e.1 ∙ ap (λ i. cond (eqb p (length s)) (Ok e.0) (Err (Form i))) n)

pub data SheetIs (s : List ℕ) : Type 0 where
  broken : (l : ℕ) → Breaks s l → SheetIs s
  over : (which : ℕ) → Over s which → SheetIs s
  stands : (f : SheetForm) (r : Written) → InForm f r → s ≡ sheet_text f r → SheetIs s

pub something : (s t : List ℕ) (p : ℕ) → Stands s 0 t p → (p ≡ length s → ⊥) → drop p s ≡ [] → ⊥
something s t p x h e = h (x.past ∙ (zero-add (length t) ∙ ap length (sym (x.text ∙ (ap (λ l. t ++ l) e ∙ append-nil t)))))

-- the numbers of `set`, the sections between, and the elements are those of some numbers in form
pub record Says (f : SheetForm) (vs : List ℕ) (ts : List (List (List ℕ))) (es : List Entry) : Type 0 where
  pub written : Written
  pub numbers : numbers_of f written ≡ vs
  pub tables : tables_by f written.base written.ruby written.left ≡ ts
  pub elem : written.elem ≡ es
  pub form : length (sheet_text f written) ≤ 65535 → KeptElements f 1024 es → InForm f written

pub says : (f : SheetForm) (vs : List ℕ) (ts : List (List (List ℕ))) (es : List Entry) → length vs ≡ numbers_in f → Small vs → ChainKept (sections f) ts → Says f vs ts es
unfolding ChainKept sections numbers_in numbers_of tables_by Shown
says One (a ∷ (b ∷ [])) (t ∷ (u ∷ [])) es c small k =
    record {
      written = record { em = a; measure = b; house = plain; base = t; ruby = u; left = []; elem = es };
      numbers = refl;
      tables = refl;
      elem = refl;
      form = λ short e. record { em = small.0; measure = small.1.0; base = k.0; ruby = k.1.0; shown = (refl, refl); elem = e; short = short };
    }
says One [] ts es c small k = absurd (omega arith)
says One (a ∷ []) ts es c small k = absurd (omega arith)
says One (a ∷ (b ∷ (d ∷ vs))) ts es c small k = absurd (omega arith)
says One (a ∷ (b ∷ [])) [] es c small k = absurd k
says One (a ∷ (b ∷ [])) (t ∷ []) es c small k = absurd k.1
says One (a ∷ (b ∷ [])) (t ∷ (u ∷ (w ∷ ts))) es c small k = absurd k.1.1
says Two (a ∷ (b ∷ vs)) (t ∷ (u ∷ (w ∷ []))) es c small k =
    record {
      written = record { em = a; measure = b; house = vs; base = t; ruby = u; left = w; elem = es };
      numbers = refl;
      tables = refl;
      elem = refl;
      form = λ short e. record { em = small.0; measure = small.1.0; base = k.0; ruby = k.1.0; shown = (omega arith, small.1.1, k.1.1.0); elem = e; short = short };
    }
says Two [] ts es c small k = absurd (omega arith)
says Two (a ∷ []) ts es c small k = absurd (omega arith)
says Two (a ∷ (b ∷ vs)) [] es c small k = absurd k
says Two (a ∷ (b ∷ vs)) (t ∷ []) es c small k = absurd k.1
says Two (a ∷ (b ∷ vs)) (t ∷ (u ∷ [])) es c small k = absurd k.1.1
says Two (a ∷ (b ∷ vs)) (t ∷ (u ∷ (w ∷ (v ∷ ts)))) es c small k = absurd k.1.1.1
