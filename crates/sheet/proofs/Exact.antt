-- What the reading of a sheet says of its bytes, without following the reader, for both forms: it is sound exactly of bytes that keep a form, 2 is given exactly where a count over its maximum is
-- the first fault, and 13 exactly of all other bytes. Printing and reading undo each other.
use Rattle.std.specs.Prelude.{List, ◌↔◌, ◌≡◌, refl, ℕ, Ok, Err}
use Rattle.std.proofs.Common.{◌∙◌, ap, ap₂, sym, subst, arith}
use Rattle.refusal.specs.declared.Refusal.{Refusal}
use Rattle.refusal.specs.declared.Refusal.TheVariants.{Form, Count}
use Rattle.elements.specs.declared.SheetForm.{SheetForm}
use Rattle.sheet.specs.declared.Counts.{Counts}
use Rattle.sheet.specs.Sheet.{reading}
use Rattle.sheet.specs.Form.{Written, InForm, sheet_text, KeepsForm, Over, written_of}
use Rattle.sheet.specs.Breaks.{Breaks}
use Rattle.sheet.specs.Reads.{SheetIs, broken, over, stands, sheet-reads, over_reads}
use Rattle.sheet.proofs.Came.{sheet-is, breaks-reads}
use Rattle.sheet.specs.Exact.{SoundAs, sheet-sound}

module _ (s : List ℕ) where
  pub sound-not : (c : Counts) {q : Refusal} → (reading s).end ≡ Ok c → (reading s).end ≡ Err q → ⊥
  sound-not c e f = let z : ◌≡◌ {A = ℕ} 0 1 = cc in omega arith

  keeps-sound : (f : SheetForm) (r : Written) → InForm f r → s ≡ sheet_text f r → SoundAs s f r
  keeps-sound f r form e = sheet-sound s f r form (sheet-reads s f r form e)

  -- the reading is sound with the numbers of r exactly if these keep the limits of the form and the bytes are their text
  pub sound-exactly : (f : SheetForm) (r : Written) → SoundAs s f r ↔ (InForm f r × (s ≡ sheet_text f r))
  sound-exactly f r = (λ a. go a (sheet-is s), λ p. keeps-sound f r p.0 p.1)
    where
      same : SoundAs s f r → (g : SheetForm) (q : Written) → SoundAs s g q → InForm g q → s ≡ sheet_text g q → InForm f r × (s ≡ sheet_text f r)
      same a g q b form text =
          let i : g ≡ f = sym b.form ∙ a.form in
          let j : q ≡ r = sym b.numbers ∙ a.numbers in
          (rw (← i, ← j) form, rw (← i, ← j) text)

      go : SoundAs s f r → SheetIs s → InForm f r × (s ≡ sheet_text f r)
      go a (broken l b) = absurd (sound-not a.counts a.sound (breaks-reads s l b))
      go a (over which o) = absurd (sound-not a.counts a.sound (over_reads o))
      go a (stands g q form text) = same a g q (keeps-sound g q form text) form text

  -- the reading is sound exactly of bytes that are a sheet
  pub sound-keeps : ((c : Counts) × ((reading s).end ≡ Ok c)) ↔ KeepsForm s
  sound-keeps = (λ p. go p.0 p.1 (sheet-is s), λ k. back (keeps-sound k.form k.numbers k.keeps k.text))
    where
      go : (c : Counts) → (reading s).end ≡ Ok c → SheetIs s → KeepsForm s
      go c e (broken l b) = absurd (sound-not c e (breaks-reads s l b))
      go c e (over which o) = absurd (sound-not c e (over_reads o))
      go c e (stands f r form text) = record { form = f; numbers = r; keeps = form; text = text }

      back : {f : SheetForm} {r : Written} → SoundAs s f r → (c : Counts) × ((reading s).end ≡ Ok c)
      back a = (a.counts, a.sound)

  stands-not : (f : SheetForm) (r : Written) → InForm f r → s ≡ sheet_text f r → {q : Refusal} → (reading s).end ≡ Err q → ⊥
  stands-not f r form text e =
      let a = keeps-sound f r form text in
      sound-not a.counts a.sound e

  -- 2 exactly where a count over its maximum is the first fault met
  pub two-exactly : (which : ℕ) → ((reading s).end ≡ Err (Count which)) ↔ Over s which
  two-exactly which = (λ e. go e (sheet-is s), over_reads)
    where
      go : (reading s).end ≡ Err (Count which) → SheetIs s → Over s which
      go e (broken l b) = absurd (let f = breaks-reads s l b in let z : ◌≡◌ {A = ℕ} 0 1 = cc in omega arith)
      go e (over w o) =
          let f = over_reads o in
          let i : w ≡ which = cc in
          subst (Over s) i o
      go e (stands f r form text) = absurd (stands-not f r form text e)

  -- 13 with line l exactly where the bytes break the form on line l
  pub place-exactly : (l : ℕ) → ((reading s).end ≡ Err (Form l)) ↔ Breaks s l
  place-exactly l = (λ e. go e (sheet-is s), breaks-reads s l)
    where
      go : (reading s).end ≡ Err (Form l) → SheetIs s → Breaks s l
      go e (broken m b) =
          let f = breaks-reads s m b in
          let i : m ≡ l = cc in
          subst (Breaks s) i b
      go e (over w o) = absurd (let f = over_reads o in let z : ◌≡◌ {A = ℕ} 0 1 = cc in omega arith)
      go e (stands f r form text) = absurd (stands-not f r form text e)

  -- 13 exactly of all bytes that are no sheet, and in which no count over its maximum is the first fault
  pub thirteen_exactly : ((l : ℕ) × ((reading s).end ≡ Err (Form l))) ↔ ((KeepsForm s → ⊥) × ((which : ℕ) → Over s which → ⊥))
  thirteen_exactly = (λ p. (λ k. stands-not k.form k.numbers k.keeps k.text p.1, λ w o. other w p.0 (over_reads o) p.1), λ n. go n.0 n.1 (sheet-is s))
    where
      other : (w l : ℕ) → (reading s).end ≡ Err (Count w) → (reading s).end ≡ Err (Form l) → ⊥
      other w l e f = let z : ◌≡◌ {A = ℕ} 0 1 = cc in omega arith

      go : (KeepsForm s → ⊥) → ((which : ℕ) → Over s which → ⊥) → SheetIs s → (l : ℕ) × ((reading s).end ≡ Err (Form l))
      go a b (broken l x) = (l, breaks-reads s l x)
      go a b (over which o) = absurd (b which o)
      go a b (stands f r form text) = absurd (a (record { form = f; numbers = r; keeps = form; text = text }))

  -- what was read is printed as the same bytes
  pub read_print : (c : Counts) → (reading s).end ≡ Ok c → sheet_text (reading s).form (written_of (reading s)) ≡ s
  read_print c e =
      let k = sound-keeps.0 (c, e) in
      let a = keeps-sound k.form k.numbers k.keeps k.text in
      ap₂ sheet_text a.form a.numbers ∙ sym k.text

-- what is printed is read as the same numbers, in the same form
pub print_read : (f : SheetForm) (r : Written) → InForm f r → SoundAs (sheet_text f r) f r
print_read f r form = keeps-sound (sheet_text f r) f r form refl

-- so that no two numbers in form have one text, in whatever forms
pub one-text : (f g : SheetForm) (r q : Written) → InForm f r → InForm g q → sheet_text f r ≡ sheet_text g q → (f ≡ g) × (r ≡ q)
one-text f g r q h k e =
    let a = print_read f r h in
    let b = print_read g q k in
    (sym a.form ∙ (ap (λ s. (reading s).form) e ∙ b.form), sym a.numbers ∙ (ap (λ s. written_of (reading s)) e ∙ b.numbers))
