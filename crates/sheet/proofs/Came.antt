-- Every reading of a sheet is one of three (`sheet-is`): its form is broken, a count is over its maximum, or the bytes are the text of numbers in form. And such a text is read as its numbers
-- (`sheet-reads`, `over_reads`, `breaks-reads`). Said once for both forms: the first line tells the form, and the sections between `set` and `elem` are a chain.
use Rattle.std.specs.Prelude.{Bool, ◌≡◌, refl, ℕ, ◌+◌, ◌≤◌, eqb, drop, Err, Result}
use Rattle.refusal.specs.declared.Refusal.{Refusal}
use Rattle.std.proofs.Math.Bool.{true, false}
use mathlib.Core.List.{List}
use Rattle.std.proofs.Common.{◌∙◌, arith, eqb-true, ne_eqb}
use Rattle.std.proofs.Math.Path.{ap, sym, subst}
use Rattle.std.proofs.lemmas.Bool.{eqb-false}
use Rattle.std.proofs.Math.ListN.{length, length-append}
use Rattle.basics.specs.Lists.{All}
use Rattle.refusal.specs.declared.Refusal.TheVariants.{Form}
use Rattle.text.specs.Stands.{Stands, stands-then, stands-whole, begins-stands}
use Rattle.rows.specs.declared.Part.{Part}
use Rattle.rows.specs.Read.{Read}
use Rattle.rows.specs.Section.{Rows, lines}
use Rattle.rows.specs.Print.{rows_text, Small}
use Rattle.rows.specs.Printed as rows
use Rattle.rows.specs.Printed.{RowsIs, lines-is, stands-lines, singles-of}
use Rattle.rows.specs.Breaks.{lines-stuck}
use Rattle.rows.specs.Chain.{Chained, chain, chain_text, lines_in, ChainKept, ChainIs, chain-is, stands-chain}
use Rattle.rows.specs.Chain.{stuck-chain}
use Rattle.elements.specs.declared.SheetForm.{SheetForm}
use Rattle.elements.specs.Elements.{Listed}
use Rattle.elements.specs.Print.{Entry, elem_text, KeptElements}
use Rattle.elements.specs.Printed as elem
use Rattle.elements.specs.Breaks as elem-form
use Rattle.sheet.specs.Sheet.{set_word, numbers_in, elem_word, opening, elem_from}
use Rattle.sheet.specs.Sheet.{reading}
use Rattle.sheet.specs.Form.{sections, sheet_text, Begins, in_rows, in_elem}
use Rattle.sheet.specs.Breaks as breaks
use Rattle.sheet.specs.Breaks.{Breaks, too_long, no-set, in_set, after, tables-kept}
use Rattle.sheet.specs.Reads.{OpenIs, long, none, begins, open_is, open_stands, set_text_lem, small-single, from-elem, from-set, tops, from-chain, elem-part, set-refused, set-stuck, open_long, open_none, longer, after_read, SheetIs, broken, over, stands, something, says}

-- The first line.

-- The section `set`.

-- A refusal is handed on.

-- The sections between `set` and `elem` are the chain of the form.

-- What is printed is read.

pub breaks-reads : (s : List ℕ) (l : ℕ) → Breaks s l → (reading s).end ≡ Err (Form l)
breaks-reads s l (too_long e h) = from-set s (Form l) (set-refused s (Form l) (open_long s h ∙ ap (λ i. Err (Form i)) (sym e)))
breaks-reads s l (no-set e h n) = from-set s (Form l) (set-refused s (Form l) (open_none s h n (opening s) (open_is s) ∙ ap (λ i. Err (Form i)) (sym e)))
breaks-reads s l (in_set f p h x y) = from-set s (Form l) (set-stuck f s p l (open_stands f s p h x) y)
breaks-reads s l (breaks.in_rows f p b y) = from-chain f s p b (Form l) (stuck-chain (numbers_in f) (tops f) y)
breaks-reads s l (breaks.in_elem f p ts q b k x y) =
    let t = stands-chain (sections f) ts s (numbers_in f) p (2 + numbers_in f) q (tops f) k x in
    let e = elem-part f s p b t.count q (2 + numbers_in f + lines_in ts) t.end in
    from-elem s (Form l) (ap (λ (d : Listed). d.end) e.1 ∙ elem-form.stuck-section f elem_word 1024 2 s e.0 q (2 + numbers_in f + lines_in ts) l y)
breaks-reads s l (after f r rest short form e some is) =
    let x = begins-stands s (sheet_text f r) rest e in
    let read = after_read s f r form short (length (sheet_text f r)) x in
    read.1 ∙ rw (ne_eqb (length (sheet_text f r)) (length s) (longer s (sheet_text f r) rest e some), is)

-- The other way: every sheet is one of three.

module _ (f : SheetForm) (s : List ℕ) where
  module _ (p : ℕ) (b : Begins f s p) where
    module _ (ts : List (List (List ℕ))) (k : ChainKept (sections f) ts) (q : ℕ) (x : Stands s p (chain_text (sections f) ts) q) where
      whole_is : (es : List Entry) (next : ℕ) → KeptElements f 1024 es → Stands s q (elem_text f elem_word es) next → (t : Bool) → eqb next (length s) ≡ t → SheetIs s
      unfolding sheet_text
      whole_is es next ke z true e =
          let w = says f b.numbers ts es b.count b.small k in
          let y : Stands s 0 (sheet_text f w.written) next = rw (w.numbers, w.tables, w.elem) (stands-then b.text (stands-then x z)) in
          let same : s ≡ sheet_text f w.written = stands-whole s (sheet_text f w.written) (rw (eqb-true next (length s) e) at y) in
          stands f w.written (w.form (subst (λ (l : List ℕ). length l ≤ 65535) same b.short) ke) same
      whole_is es next ke z false e =
          let w = says f b.numbers ts es b.count b.small k in
          let y : Stands s 0 (sheet_text f w.written) next = rw (w.numbers, w.tables, w.elem) (stands-then b.text (stands-then x z)) in
          let n = ap length y.text ∙ length-append (sheet_text f w.written) (drop next s) in
          broken _ (after f w.written (drop next s) b.short (w.form (omega (arith, n, b.short)) ke) y.text (something s (sheet_text f w.written) next y (eqb-false next (length s) e)) refl)

      elem_is : (d : Listed) → d ≡ elem_from f s (Read 0 q (2 + numbers_in f + lines_in ts)) → elem.SectionIs f elem_word 1024 2 s q d → SheetIs s
      elem_is d i (elem.SectionIs.broken l e) =
          broken l (breaks.in_elem f p ts q b k x (elem-form.section-stuck f elem_word 1024 2 s 0 q (2 + numbers_in f + lines_in ts) l (ap (λ (t : Listed). t.end) (sym i) ∙ e)))
      elem_is d i (elem.SectionIs.over n next c h e) = over 2 (in_elem f p ts q n next b k x c h)
      elem_is d i (elem.SectionIs.stands es next l ke z e) = whole_is es next ke z (eqb next (length s)) refl

    chain-stage : (c : Chained) → ChainIs (sections f) s p (2 + numbers_in f) c → SheetIs s
    chain-stage c (ChainIs.broken l y e) = broken l (breaks.in_rows f p b y)
    chain-stage c (ChainIs.over which o e) = over which (in_rows f p which b o)
    chain-stage c (ChainIs.stands n q k y e) = elem_is c.tables k q y (elem_from f s (Read 0 q (2 + numbers_in f + lines_in c.tables))) refl
        (elem.section-is f elem_word 1024 2 s 0 q (2 + numbers_in f + lines_in c.tables))

  set-stage : (p : ℕ) → length s ≤ 65535 → Stands s 0 (set_word f) p → (t : Rows) → t ≡ lines 1 (numbers_in f) (numbers_in f) s p 2 → RowsIs 1 (numbers_in f) s p t → SheetIs s
  set-stage p h x t i (rows.rows-broken l e) = broken l (in_set f p h x (lines-stuck 1 (numbers_in f) (numbers_in f) s p 2 l (ap (λ (t : Rows). t.end) (sym i) ∙ e)))
  set-stage p h x t i (rows.rows_whole next l e count wide took) =
      let one = singles-of t.rows wide in
      let c = one.count ∙ count in
      chain-stage next
      (record {
        short = h;
        numbers = one.values;
        count = c;
        small = small-single one.values (subst (All Small) one.is took.small);
        text = rw (set_text_lem f one.values c) (stands-then x (subst (λ r. Stands s p (rows_text r) next) one.is took.text));
      })
      (chain (sections f) s (Read 0 next (2 + numbers_in f)))
      (chain-is (sections f) s 0 next (2 + numbers_in f) (tops f))

pub sheet-is : (s : List ℕ) → SheetIs s
sheet-is s = go (opening s) (open_is s)
  where
    go : (o : Result Part Refusal) → OpenIs s o → SheetIs s
    go o (long h) = broken 0 (too_long refl h)
    go o (none h n) = broken 1 (no-set refl h n)
    go o (begins f p h x) = set-stage f s p h x (lines 1 (numbers_in f) (numbers_in f) s p 2) refl (lines-is 1 (numbers_in f) s p 2)
