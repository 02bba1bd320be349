-- Each section begins where the one before it ended: what a call answers, handed to the next.
use Rattle.std.specs.Prelude.{Ok, Bool, true, false, cond, List, [], ◌++◌, ◌≡◌, refl, ℕ, eqb, length, Err, Result}
use Rattle.std.proofs.Common.{append-nil, ◌∙◌, sym, zero-add, eqb-true}
use Rattle.std.proofs.Math.Path.{ap, ap₂, subst}
use Rattle.refusal.specs.declared.Refusal.{Refusal}
use Rattle.rows.specs.declared.Part.{Part}
use Rattle.rows.specs.Section.{rows_of, section, head_of}
use Rattle.rows.specs.Table.{laid, laid_append}
use Rattle.rows.specs.Determined.{RowsRead, SectionRead}
use Rattle.rows.specs.Whole.{rows_whole}
use Rattle.elements.specs.declared.SheetForm.{SheetForm}
use Rattle.elements.specs.declared.Elements.{Elements}
use Rattle.elements.specs.Elements.{Listed, elements}
use Rattle.elements.specs.Determined.{ListRead}
use Rattle.sheet.specs.declared.Counts.{Counts}
use Rattle.sheet.specs.Sheet.{base_word, ruby_word, elem_word, opening, form_by, form_of, set_of, plain, singles, house, left_head, base_of, ruby_of, left_of, elem_of, end_of, reading}

module _ (s : List ℕ) where
  pub form-told : {o : Result Part Refusal} {f : SheetForm} → o ≡ opening s → f ≡ form_by o → f ≡ form_of s
  unfolding form_of
  form-told h e = e ∙ ap form_by h

  pub set-end : {o a : Result Part Refusal} → o ≡ opening s → a ≡ (rows_of 1 s o).end → a ≡ (set_of s).end
  unfolding set_of
  set-end h e = e ∙ ap (λ p. (rows_of 1 s p).end) h

  pub base_end : {a b : Result Part Refusal} → a ≡ (set_of s).end → b ≡ (section base_word 5 1024 0 s a).end → b ≡ (base_of s).end
  unfolding base_of
  base_end h e = e ∙ ap (λ p. (section base_word 5 1024 0 s p).end) h

  pub ruby_end : {b c : Result Part Refusal} → b ≡ (base_of s).end → c ≡ (section ruby_word 2 2048 1 s b).end → c ≡ (ruby_of s).end
  unfolding ruby_of
  ruby_end h e = e ∙ ap (λ p. (section ruby_word 2 2048 1 s p).end) h

  pub left_head_lem : {f : SheetForm} {c g : Result Part Refusal} → f ≡ form_of s → c ≡ (ruby_of s).end → g ≡ left_head f s c → g ≡ left_head (form_of s) s (ruby_of s).end
  left_head_lem i h e = e ∙ ap₂ (λ f p. left_head f s p) i h

  pub left_end : {g l : Result Part Refusal} → g ≡ left_head (form_of s) s (ruby_of s).end → l ≡ (rows_of 2 s g).end → l ≡ (left_of s).end
  unfolding left_of
  left_end h e = e ∙ ap (λ p. (rows_of 2 s p).end) h

  pub head-end : {l h : Result Part Refusal} → l ≡ (left_of s).end → h ≡ head_of elem_word 1024 2 s l → h ≡ head_of elem_word 1024 2 s (left_of s).end
  head-end h e = e ∙ ap (head_of elem_word 1024 2 s) h

-- the numbers that form one does not show are stored behind the two that it shows
house-case : (was : List ℕ) (rows : List (List ℕ)) (n : ℕ) (b : Bool) → eqb n 2 ≡ b → length rows ≡ n → laid (laid was 0 9 rows) 2 9 (cond b (singles plain) []) ≡ laid was 0 9 (rows ++ cond b (singles plain) [])
unfolding laid
house-case was rows n true e c = ap (λ i. laid (laid was 0 9 rows) i 9 (singles plain)) (sym (zero-add (length rows) ∙ (c ∙ eqb-true n 2 e))) ∙ sym (laid_append was 0 9 rows (singles plain))
house-case was rows n false e c = ap (laid was 0 9) (sym (append-nil rows))

house-by : (s was : List ℕ) (o p : Result Part Refusal) → (rows_of 1 s o).end ≡ p → laid (laid was 0 9 (rows_of 1 s o).rows) 2 9 (house p) ≡ laid was 0 9 ((rows_of 1 s o).rows ++ house p)
unfolding house laid
house-by s was o (Ok part) e =
    let w = rows_whole 1 s o part.count part.at part.line e in
    house-case was (rows_of 1 s o).rows part.count (eqb part.count 2) refl w.1.count
house-by s was o (Err r) e = ap (laid was 0 9) (sym (append-nil (rows_of 1 s o).rows))

set-laid : (s was : List ℕ) → laid (laid was 0 9 (set_of s).rows) 2 9 (house (set_of s).end) ≡ laid was 0 9 ((set_of s).rows ++ house (set_of s).end)
unfolding set_of
set-laid s was = house-by s was (opening s) (rows_of 1 s (opening s)).end refl

-- what the tables hold, and the answer, by what each section began behind
module _ (s was : List ℕ) {t : List ℕ} where
  pub set_holds_lem : {o a : Result Part Refusal} {u : List ℕ} → o ≡ opening s → RowsRead 1 9 s o was a t → u ≡ laid t 2 9 (house a) → u ≡ laid was 0 9 (reading s).set
  unfolding reading set_of
  set_holds_lem {o} {a} h e i =
      let t-is : t ≡ laid was 0 9 (set_of s).rows = e.1 ∙ ap (λ p. laid was 0 9 (rows_of 1 s p).rows) h in
      let a-is : a ≡ (set_of s).end = set-end s h e.0 in
      i ∙ ap₂ (λ v p. laid v 2 9 (house p)) t-is a-is ∙ set-laid s was

  pub base_holds_lem : {a b : Result Part Refusal} → a ≡ (set_of s).end → SectionRead base_word 5 1024 0 s a was b t → t ≡ laid was 0 1024 (reading s).base
  unfolding reading base_of
  base_holds_lem h e = e.1 ∙ ap (λ p. laid was 0 1024 (section base_word 5 1024 0 s p).rows) h

  pub ruby_holds_lem : {b c : Result Part Refusal} → b ≡ (base_of s).end → SectionRead ruby_word 2 2048 1 s b was c t → t ≡ laid was 0 2048 (reading s).ruby
  unfolding reading ruby_of
  ruby_holds_lem h e = e.1 ∙ ap (λ p. laid was 0 2048 (section ruby_word 2 2048 1 s p).rows) h

  pub left_holds_lem : {g l : Result Part Refusal} → g ≡ left_head (form_of s) s (ruby_of s).end → RowsRead 2 2048 s g was l t → t ≡ laid was 0 2048 (reading s).left
  unfolding reading left_of
  left_holds_lem h e = e.1 ∙ ap (λ p. laid was 0 2048 (rows_of 2 s p).rows) h

module _ (s : List ℕ) {f : SheetForm} {h : Result Part Refusal} {was wasRuns wasLeft t runs lruns : List ℕ} {d : Result Elements Refusal} where
  pub elem-read : f ≡ form_of s → h ≡ head_of elem_word 1024 2 s (left_of s).end → ListRead (elements f s h) was wasRuns wasLeft d t runs lruns → ListRead (elem_of s) was wasRuns wasLeft d t runs lruns
  unfolding elem_of
  elem-read i e x = subst (λ (u : Listed). ListRead u was wasRuns wasLeft d t runs lruns) (ap₂ (λ f p. elements f s p) i e) x

pub ended : (s : List ℕ) {b c l : Result Part Refusal} {d : Result Elements Refusal} {r : Result Counts Refusal} → b ≡ (base_of s).end → c ≡ (ruby_of s).end → l ≡ (left_of s).end → d ≡ (elem_of s).end → r ≡ end_of s b c l d → r ≡ (reading s).end
unfolding reading
ended s g h i j e = e ∙ rw (g, h, i, j)
