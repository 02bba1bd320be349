-- A sound sheet: its counts are those of the lines that were read, each within its maximum, and every line has all its numbers. So it is said once for both forms: a sound sheet is the text of numbers
-- in form, and what is read of it are these.
-- That a sound sheet is so is shown in `proofs/Sound.antt`.
use Rattle.std.specs.Prelude.{List, ◌∷◌, ◌++◌, ◌≡◌, ℕ, suc, ◌≤◌, length, Ok}
use Rattle.std.proofs.Common.{◌∙◌, ap, sym, arith, length-append}
use Rattle.basics.specs.Lists.{All}
use Rattle.rows.specs.Print.{head_text}
use Rattle.rows.specs.Chain.{chain_text}
use Rattle.elements.specs.declared.SheetForm.{SheetForm}
use Rattle.elements.specs.declared.SheetForm.TheVariants.{One, Two}
use Rattle.elements.specs.Print.{elements_text, elem_text, rows-many, rows-wide, all_runs, all_left}
use Rattle.elements.specs.Printed.{elements-long}
use Rattle.sheet.specs.declared.Counts.{Counts}
use Rattle.sheet.specs.Sheet.{elem_word, Sheet}
use Rattle.sheet.specs.Form.{Written, InForm, Shown, numbers_of, set_text, sections, tables_by, sheet_text, sheet_of}
use Rattle.sheet.specs.Reads.{single-count, single-wide}

-- n lines of k numbers, at most so many
pub record Lines (k most n : ℕ) (rows : List (List ℕ)) : Type 0 where
  pub count : length rows ≡ n
  pub few : n ≤ most
  pub wide : All (λ (r : List ℕ). length r ≡ k) rows

pub record SoundSheet (t : Sheet) (c : Counts) : Type 0 where
  pub set : Lines 1 9 9 t.set
  pub base : Lines 5 1024 c.bases t.base
  pub ruby : Lines 2 2048 c.rubies t.ruby
  pub left : Lines 2 2048 c.lefts t.left
  pub elem : Lines 5 1024 c.elements t.elem
  pub runs : length t.runs ≡ c.runs
  pub few_runs : c.runs ≤ 32768
  pub lruns : length t.lruns ≡ c.lruns
  pub few_lruns : c.lruns ≤ 32768

-- the numbers of `set` are nine in both forms, and there are at most 2,048 left characters
nine-numbers : (f : SheetForm) (r : Written) → Shown f r → length (r.em ∷ (r.measure ∷ r.house)) ≡ 9
unfolding Shown
nine-numbers One r h = ap (λ (l : List ℕ). suc (suc (length l))) h.0
nine-numbers Two r h = ap (λ n. suc (suc n)) h.0

few_left_lem : (f : SheetForm) (r : Written) → Shown f r → (length r.left ≤ 2048) × All (λ (l : List ℕ). length l ≡ 2) r.left
unfolding Shown
few_left_lem One r h = rw h.1 (omega arith, tt)
few_left_lem Two r h = (h.2.few, h.2.wide)

-- a run takes two bytes of the sheet at least
few_runs_lem : (f : SheetForm) (r : Written) → InForm f r → (length (all_runs r.elem) ≤ 32768) × (length (all_left r.elem) ≤ 32768)
unfolding sheet_text elem_text
few_runs_lem f r form =
    let e = elements-long f r.elem form.elem.fit in
    let h = head_text elem_word (length r.elem) in
    let t = chain_text (sections f) (tables_by f r.base r.ruby r.left) in
    let a = length-append (set_text (numbers_of f r)) (t ++ (h ++ elements_text f r.elem)) in
    let b = length-append t (h ++ elements_text f r.elem) in
    let c = length-append h (elements_text f r.elem) in
    let s = form.short in
    (omega arith, omega arith)

pub sound-of : (f : SheetForm) (r : Written) → InForm f r → (c : Counts) → (sheet_of f r).end ≡ Ok c → SoundSheet (sheet_of f r) c
unfolding sheet_of
sound-of f r form c e =
    let bases : c.bases ≡ length r.base = cc in
    let rubies : c.rubies ≡ length r.ruby = cc in
    let lefts : c.lefts ≡ length r.left = cc in
    let elements : c.elements ≡ length r.elem = cc in
    let runs : c.runs ≡ length (all_runs r.elem) = cc in
    let lruns : c.lruns ≡ length (all_left r.elem) = cc in
    let l = few_left_lem f r form.shown in
    let u = few_runs_lem f r form in
    record {
      set = record { count = single-count (r.em ∷ (r.measure ∷ r.house)) ∙ nine-numbers f r form.shown; few = omega arith; wide = single-wide (r.em ∷ (r.measure ∷ r.house)) };
      base = record { count = sym bases; few = omega (arith, form.base.few); wide = form.base.wide };
      ruby = record { count = sym rubies; few = omega (arith, form.ruby.few); wide = form.ruby.wide };
      left = record { count = sym lefts; few = omega (arith, l.0); wide = l.1 };
      elem = record { count = rows-many r.elem ∙ sym elements; few = omega (arith, form.elem.few); wide = rows-wide r.elem };
      runs = sym runs;
      few_runs = omega (arith, u.0);
      lruns = sym lruns;
      few_lruns = omega (arith, u.1);
    }
