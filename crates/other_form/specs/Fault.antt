-- The first line at fault, by the tables that a sheet was read to: they hold its numbers column by column, so that it is the one that the document means (`line_by_lem`).
use Rattle.std.proofs.lemmas.Bool.Decides.{nat_tests}
use Rattle.std.specs.Prelude.{Bool, true, false, cond, ◌||◌, ◌≡◌, refl, ℕ, suc, ◌+◌, ◌-◌, ◌≤◌, ◌<◌, eqb, ltb, length, get_or, drop, Ok, Option, Some, None}
use mathlib.Core.List.{List, [], ◌∷◌, ◌++◌}
use Rattle.std.proofs.Common.{◌∙◌, sym, arith, eq-eqb, ne_eqb, eqb-true, drop_of_length-le, take_all}
use Rattle.std.proofs.Math.Path.{ap}
use Rattle.std.proofs.lemmas.List.{length-map}
use Rattle.text.specs.Places.{drop_at}
use Rattle.basics.specs.Lists.{any, other}
use Rattle.rows.specs.Table.{laid, column, length-laid}
use Rattle.rows.specs.Columns.{column-part}
use Rattle.elements.specs.declared.SheetForm.{SheetForm}
use Rattle.elements.specs.declared.SheetForm.TheVariants.{One, Two}
use Rattle.elements.specs.Print.{Entry, P, word, none, mono, group, jukugo, element_of, rows_of, rows-many, rows-wide}
use Rattle.sheet.specs.declared.Counts.{Counts}
use Rattle.sheet.specs.Sheet.{Sheet, plain, singles, reading, Tables, Into}
use Rattle.sheet.specs.Form.{Written, Shown, sheet_of, written_of}
use Rattle.sheet.specs.Reads.{single-wide}
use Rattle.sheet.specs.Exact.{column-singles}
use Rattle.other_form.specs.Other.{unlike, first_or, left_line, has_left, faults, fault_line}
use Rattle.other_form.specs.Parts.{part}
use Rattle.other_form.specs.Ready.{FaultReady}
use Rattle.other_form.specs.Known.{Known, known}

-- seven numbers, the count of left characters, and the letters of the left kinds
unfoldable pub line_by : Counts → List ℕ → List ℕ → ℕ
unfolding unlike
line_by n set elem =
    first_or 0 (unlike 4 (drop 2 set) plain ++ cond (ltb 0 n.lefts || any (other 78) (part 3072 (3072 + n.elements) elem)) (left_line n.bases n.rubies ∷ []) [])

-- as the code tells it: none where there is no such line, since lines are counted from 1
unfoldable pub line_told : ℕ → Option ℕ
line_told line = cond (eqb line 0) None (Some line)

-- One step, for the code: a number that is the one of form one, and one that is not.
module _ (set : List ℕ) (line i : ℕ) (in_set : i + 2 < length set) (in-plain : i < 7) where
  one_more : unlike line (drop (i + 2) set) (drop i plain) ≡ cond (eqb (get_or set (i + 2) 0) (get_or plain i 0)) [] (line ∷ []) ++ unlike (line + 1) (drop (i + 2 + 1) set) (drop (i + 1) plain)
  unfolding unlike
  one_more = rw (drop_at set (i + 2) in_set, drop_at plain i in-plain)

  pub unlike-here : (get_or set (i + 2) 0 ≡ get_or plain i 0 → ⊥) → first_or 0 (unlike line (drop (i + 2) set) (drop i plain)) ≡ line
  unlike-here h = rw (one_more, ne_eqb (get_or set (i + 2) 0) (get_or plain i 0) h)

  pub unlike-on : get_or set (i + 2) 0 ≡ get_or plain i 0 → unlike line (drop (i + 2) set) (drop i plain) ≡ unlike (line + 1) (drop (i + 1 + 2) set) (drop (i + 1) plain)
  unlike-on h = rw (one_more, eq-eqb (get_or set (i + 2) 0) (get_or plain i 0) h) (ap (λ q. unlike (line + 1) (drop q set) (drop (i + 1) plain)) (shift i))
    where
      shift : (i : ℕ) → i + 2 + 1 ≡ i + 1 + 2
      shift i = omega arith

pub unlike-none : (set : List ℕ) (line i : ℕ) → length set ≡ 9 → 7 ≤ i → unlike line (drop (i + 2) set) (drop i plain) ≡ []
unfolding unlike
unlike-none set line i h g = let e : drop (i + 2) set ≡ [] = drop_of_length-le set {i = i + 2} (omega arith) in rw e

-- the same by the index of the number
pub unlike_next : (set : List ℕ) (i : ℕ) → i + 2 < length set → i < 7 → get_or set (i + 2) 0 ≡ get_or plain i 0 →
    unlike (i + 4) (drop (i + 2) set) (drop i plain) ≡ unlike (i + 1 + 4) (drop (i + 1 + 2) set) (drop (i + 1) plain)
unlike_next set i l h e = unlike-on set (i + 4) i l h e ∙ ap (λ q. unlike q (drop (i + 1 + 2) set) (drop (i + 1) plain)) (shift i)
  where
    shift : (i : ℕ) → i + 4 + 1 ≡ i + 1 + 4
    shift i = omega arith

-- lines at fault have numbers over 0
some-line : (line : ℕ) (vs ps : List ℕ) → 0 < line → first_or 0 (unlike line vs ps) ≡ 0 → unlike line vs ps ≡ []
unfolding unlike
some-line line [] ps h e = refl
some-line line (v ∷ vs) [] h e = refl
some-line line (v ∷ vs) (p ∷ ps) h e = go (eqb v p) (unlike (line + 1) vs ps) (some-line (line + 1) vs ps (omega arith)) e
  where
    go : (t : Bool) (rest : List ℕ) → (first_or 0 rest ≡ 0 → rest ≡ []) → first_or 0 (cond t [] (line ∷ []) ++ rest) ≡ 0 → cond t [] (line ∷ []) ++ rest ≡ []
    go true rest f e = f e
    go false rest f e = absurd (omega arith)

some-told : (line : ℕ) → 0 < line → Some line ≡ line_told line
unfolding line_told
some-told line h = rw (ne_eqb line 0 (λ e. absurd (omega arith)))

zero-told : (line : ℕ) → None ≡ line_told line → line ≡ 0
unfolding line_told
zero-told line e = go (eqb line 0) refl e
  where
    go : (t : Bool) → eqb line 0 ≡ t → None ≡ cond t None (Some line) → line ≡ 0
    go true z e = eqb-true line 0 z
    go false z e = absurd (let z : ◌≡◌ {A = ℕ} 0 1 = cc in omega arith)

-- the numbers at fault are first, then the line `left`
module _ (n : Counts) (set elem : List ℕ) where
  abbrev found : List ℕ
  found = unlike 4 (drop 2 set) plain

  abbrev letter : Bool
  letter = any (other 78) (part 3072 (3072 + n.elements) elem)

  pub by_number : {l : ℕ} → Some l ≡ line_told (first_or 0 found) → Some l ≡ line_told (line_by n set elem)
  unfolding line_by line_told
  by_number {l} e = go found e (cond (ltb 0 n.lefts || letter) (left_line n.bases n.rubies ∷ []) [])
    where
      go : (fs : List ℕ) → Some l ≡ line_told (first_or 0 fs) → (rest : List ℕ) → Some l ≡ line_told (first_or 0 (fs ++ rest))
      go [] e rest = absurd (let z : ◌≡◌ {A = ℕ} 0 1 = cc in omega arith)
      go (f ∷ fs) e rest = e

  -- no number is at fault where none was found: the lines begin with 4
  none_found : None ≡ line_told (first_or 0 found) → found ≡ []
  none_found z = some-line 4 (drop 2 set) plain (omega arith) (zero-told (first_or 0 found) z)

  pub by_left : None ≡ line_told (first_or 0 found) → (ltb 0 n.lefts || letter) ≡ true → Some (left_line n.bases n.rubies) ≡ line_told (line_by n set elem)
  unfolding line_by
  by_left z t = rw (none_found z, t) (some-told (left_line n.bases n.rubies) (omega arith))

  pub by-none : None ≡ line_told (first_or 0 found) → (ltb 0 n.lefts || letter) ≡ false → None ≡ line_told (line_by n set elem)
  unfolding line_by line_told
  by-none z t = rw (none_found z, t)

-- a letter
letters-any : (es : List Entry) → any (other 78) (column 3 (rows_of es)) ≡ any has_left es
unfolding rows_of element_of
letters-any [] = refl
letters-any (P ∷ es) = letters-any es
letters-any (word r none ∷ es) = letters-any es
letters-any (word r (mono counts) ∷ es) = refl
letters-any (word r (group count) ∷ es) = refl
letters-any (word r (jukugo counts) ∷ es) = refl

-- seven numbers stand behind em and measure in both forms
pub house-seven : (f : SheetForm) (r : Written) → Shown f r → length r.house ≡ 7
unfolding Shown
house-seven One r h = ap length h.0
house-seven Two r h = h.0

-- The tables of a sound sheet.
module _ {s : List ℕ} {was t : Tables} {n : Counts} (into : Into s was (Ok n) t) (nine : length was.set ≡ 9) (long : length was.elem ≡ 5120) where
  abbrev r : Written
  r = written_of (reading s)

  k : Known s n
  k = known (sym into.answer)

  set_is : (reading s).set ≡ singles (r.em ∷ r.measure ∷ r.house)
  unfolding sheet_of
  set_is = ap (λ (x : Sheet). x.set) k.is

  elem_is : (reading s).elem ≡ rows_of r.elem
  unfolding sheet_of
  elem_is = ap (λ (x : Sheet). x.elem) k.is

  seven : length r.house ≡ 7
  seven = house-seven (reading s).form r k.form.shown

  set_holds_lem : t.set ≡ r.em ∷ r.measure ∷ r.house
  set_holds_lem =
      let vs = r.em ∷ r.measure ∷ r.house in
      let l = laid was.set 0 9 (singles vs) in
      let h : length l ≤ 9 = omega (arith, length-laid was.set 0 9 (singles vs)) in
      let c = column-part 1 9 0 9 (singles vs) was.set (omega arith) (length-map vs (λ v. v ∷ []) ∙ ap (λ (m : ℕ). suc (suc m)) seven) (omega arith) (single-wide vs) (omega arith) 0 9 refl refl in
      into.set_holds ∙ ap (laid was.set 0 9) set_is ∙ sym (take_all 9 l h) ∙ c ∙ column-singles vs

  letters_hold : part 3072 (3072 + n.elements) t.elem ≡ column 3 (rows_of r.elem)
  letters_hold =
      let count : length (rows_of r.elem) ≡ n.elements = rows-many r.elem ∙ sym k.elements in
      ap (λ l. part 3072 (3072 + n.elements) l) (into.elem_holds ∙ ap (laid was.elem 0 1024) elem_is)
      ∙ column-part 5 1024 3 n.elements (rows_of r.elem) was.elem (omega arith) count (omega (arith, k.elements, k.form.elem.few)) (rows-wide r.elem) (omega arith) 3072
      (3072 + n.elements - 3072) refl (omega arith)

  pub fault-ready : FaultReady n t.set t.elem
  fault-ready =
      record {
        nine = ap length into.set_holds ∙ length-laid was.set 0 9 (reading s).set ∙ nine;
        long = ap length into.elem_holds ∙ length-laid was.elem 0 1024 (reading s).elem ∙ long;
        few = omega (arith, k.bases, k.rubies, k.form.base.few, k.form.ruby.few);
        elements = omega (arith, k.elements, k.form.elem.few);
      }

  -- the line found by the tables is the first line at fault
  pub line_by_lem : line_by n t.set t.elem ≡ fault_line r
  unfolding line_by fault_line faults
  line_by_lem = rw (set_holds_lem, letters_hold, letters-any r.elem, k.lefts, k.bases, k.rubies)

pub ruleset unlike_steps = (unlike-here, unlike_next, unlike-none)

pub ruleset fault_steps = (by_number, by_left, by-none, nat_tests)
