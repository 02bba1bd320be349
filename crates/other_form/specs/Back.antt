-- There and back (document 02, R-6: "to form two and back to the same bytes"): a sheet that form one can hold, written in the other form, is a sound sheet of that form with the same numbers, if it
-- is not over-long; so its own other form is the first sheet. Form one is never longer than form two.
use Rattle.std.specs.Prelude.{false, List, [], ◌∷◌, ◌++◌, ◌≡◌, refl, ℕ, ◌+◌, ◌≤◌, Ok}
use Rattle.std.proofs.Common.{true≢false, ◌∙◌, ap₂, arith, length-append}
use Rattle.std.proofs.Math.Path.{ap, sym, subst}
use Rattle.std.proofs.Math.ListN.{length}
use Rattle.basics.specs.Lists.{All}
use Rattle.text.specs.Print.{bytes}
use Rattle.rows.specs.Print.{Small, Kept}
use Rattle.elements.specs.declared.SheetForm.{SheetForm}
use Rattle.elements.specs.declared.SheetForm.TheVariants.{One, Two}
use Rattle.elements.specs.Print.{Entry, P, word, none, mono, group, jukugo, right_text, left_text, element_text, elements_text, LeftFit, Fit}
use Rattle.sheet.specs.declared.Counts.{Counts}
use Rattle.sheet.specs.Sheet.{Sheet, plain, reading}
use Rattle.sheet.specs.Form.{Written, InForm, Shown, sheet_text, sheet_of, written_of}
use Rattle.sheet.specs.Reads.{sheet-reads}
use Rattle.sheet.specs.Exact.{SoundAs}
use Rattle.sheet.proofs.Exact.{print_read}
use Rattle.other_form.specs.Other.{other, other_text, has_left, Holds}
use Rattle.other_form.specs.Text.{numbers_part, rows_part, head_part, plain_text, none_text, text-one, text-two}
use Rattle.other_form.specs.Known.{known}

-- form one shows nothing that it can't hold
none_left : (es : List Entry) → All (Fit One) es → All (λ e. has_left e ≡ false) es
unfolding Fit
none_left [] a = tt
none_left (P ∷ es) a = (refl, none_left es a.1)
none_left (word r l ∷ es) a = (ap (λ l. has_left (word r l)) a.0.1, none_left es a.1)

pub one_holds : (r : Written) → InForm One r → Holds r
unfolding Shown
one_holds r f = record { house = f.shown.0; left = f.shown.1; letters = none_left r.elem f.elem.fit }

-- lines that are in form in both
fit-two : (es : List Entry) → All (Fit One) es → All (Fit Two) es
unfolding Fit LeftFit
fit-two [] a = tt
fit-two (P ∷ es) a = (tt, fit-two es a.1)
fit-two (word r l ∷ es) a = ((a.0.0, rw a.0.1 tt), fit-two es a.1)

fit-one : (es : List Entry) → All (Fit Two) es → All (λ e. has_left e ≡ false) es → All (Fit One) es
unfolding Fit
fit-one [] a h = tt
fit-one (P ∷ es) a h = (tt, fit-one es a.1 h.1)
fit-one (word r none ∷ es) a h = ((a.0.0, refl), fit-one es a.1 h.1)
fit-one (word r (mono counts) ∷ es) a h = absurd (true≢false h.0)
fit-one (word r (group count) ∷ es) a h = absurd (true≢false h.0)
fit-one (word r (jukugo counts) ∷ es) a h = absurd (true≢false h.0)

-- form one's lines are the shorter ones
shorter-lines : (es : List Entry) → length (elements_text One es) ≤ length (elements_text Two es)
unfolding elements_text element_text
shorter-lines [] = omega arith
shorter-lines (P ∷ es) = omega (arith, shorter-lines es)
shorter-lines (word r l ∷ es) =
    omega (
      arith,
      shorter-lines es,
      length-append (right_text r ++ bytes "\n") (elements_text One es),
      length-append (right_text r) (bytes "\n"),
      length-append (right_text r ++ (bytes " " ++ (left_text l ++ bytes "\n"))) (elements_text Two es),
      length-append (right_text r) (bytes " " ++ (left_text l ++ bytes "\n")),
      length-append (left_text l) (bytes "\n"),
    )

module _ (a b c d e f g : List ℕ) where
  long-five : length (a ++ (b ++ (c ++ (d ++ e)))) ≡ length a + (length b + (length c + (length d + length e)))
  long-five = simp length-append

  long-seven : length (a ++ (b ++ (c ++ (d ++ (e ++ (f ++ g)))))) ≡ length a + (length b + (length c + (length d + (length e + (length f + length g)))))
  long-seven = simp length-append

small_plain : Small plain
small_plain = (omega arith, (omega arith, (omega arith, (omega arith, (omega arith, (omega arith, (omega arith, tt)))))))

kept-none : Kept 2 2048 []
kept-none = record { few = omega arith; wide = tt; small = tt }

module _ (r : Written) where
  -- how long the two texts are, by their parts
  long-one : length (sheet_text One r) ≡ 6 + (length (numbers_part r) + (length (rows_part r) + (length (head_part r) + length (elements_text One r.elem))))
  long-one = ap length (text-one r) ∙ long-five (bytes "set 2\n") (numbers_part r) (rows_part r) (head_part r) (elements_text One r.elem) [] []

  pub long-two : r.house ≡ plain → r.left ≡ [] →
      length (sheet_text Two r) ≡ 6 + (length (numbers_part r) + (14 + (length (rows_part r) + (7 + (length (head_part r) + length (elements_text Two r.elem))))))
  long-two h l = ap length (text-two r h l) ∙ long-seven (bytes "set 9\n") (numbers_part r) plain_text (rows_part r) none_text (head_part r) (elements_text Two r.elem)

  pub shorter : Holds r → length (sheet_text One r) ≤ length (sheet_text Two r)
  shorter h = omega (arith, long-one, long-two h.house h.left, shorter-lines r.elem)

  pub two-form : InForm One r → length (sheet_text Two r) ≤ 65535 → InForm Two r
  unfolding Shown
  two-form f short =
      record {
        em = f.em;
        measure = f.measure;
        base = f.base;
        ruby = f.ruby;
        shown = (ap length f.shown.0, subst Small (sym f.shown.0) small_plain, subst (Kept 2 2048) (sym f.shown.1) kept-none);
        elem = record { few = f.elem.few; fit = fit-two r.elem f.elem.fit };
        short = short;
      }

  pub one_form : InForm Two r → Holds r → InForm One r
  unfolding Shown
  one_form f h =
      record {
        em = f.em;
        measure = f.measure;
        base = f.base;
        ruby = f.ruby;
        shown = (h.house, h.left);
        elem = record { few = f.elem.few; fit = fit-one r.elem f.elem.fit h.letters };
        short = omega (arith, shorter h, f.short);
      }

-- the numbers are in the other form's limits too
other-form : (f : SheetForm) (r : Written) → InForm f r → Holds r → length (sheet_text (other f) r) ≤ 65535 → InForm (other f) r
unfolding other
other-form One r f h short = two-form r f short
other-form Two r f h short = one_form r f h

twice : (f : SheetForm) → other (other f) ≡ f
unfolding other
twice One = refl
twice Two = refl

other_by_lem : (s : List ℕ) → other_text s ≡ sheet_text (other (reading s).form) (written_of (reading s))
unfolding other_text
other_by_lem s = refl

-- a sheet that has another form: it is sound, form one can hold it, and the other sheet is not over-long
pub record Goes (s : List ℕ) (n : Counts) : Type 0 where
  pub sound : (reading s).end ≡ Ok n
  pub holds : Holds (written_of (reading s))
  pub short : length (other_text s) ≤ 65535

module _ {s : List ℕ} {n : Counts} (goes : Goes s n) where
  abbrev f : SheetForm
  f = (reading s).form

  abbrev r : Written
  r = written_of (reading s)

  form : InForm (other f) r
  form = other-form f r (known goes.sound).form goes.holds (omega (arith, ap length (other_by_lem s), goes.short))

  -- the other sheet is sound, of the other form, and says the same numbers
  pub other-sound : SoundAs (other_text s) (other f) r
  other-sound = rw (other_by_lem s) (print_read (other f) r form)

  -- and its own other sheet is the first
  pub there_and_back : other_text (other_text s) ≡ s
  there_and_back = other_by_lem (other_text s) ∙ ap₂ sheet_text (ap other other-sound.form ∙ twice f) other-sound.numbers ∙ sym (known goes.sound).text

  -- all that is read of the two sheets is the same but for the form
  pub same-reading : (A : Type 0) (what : Sheet → A) → ((r : Written) → what (sheet_of One r) ≡ what (sheet_of Two r)) → what (reading (other_text s)) ≡ what (reading s)
  unfolding other
  same-reading A what alike = ap what (sheet-reads (other_text s) (other f) r form (other_by_lem s)) ∙ swap f ∙ sym (ap what (known goes.sound).is)
    where
      swap : (f : SheetForm) → what (sheet_of (other f) r) ≡ what (sheet_of f r)
      swap One = sym (alike r)
      swap Two = alike r

-- the way back is never over-long
pub back-short : (s : List ℕ) (n : Counts) → (reading s).end ≡ Ok n → Holds (written_of (reading s)) → (reading s).form ≡ Two → length (other_text s) ≤ 65535
unfolding other
back-short s n e h two =
    let r = written_of (reading s) in
    let f = subst (λ f. InForm f r) two (known e).form in
    omega (arith, ap length (other_by_lem s ∙ ap (λ f. sheet_text (other f) r) two), shorter r h, f.short)
