-- Refusal 17 exactly (document 02, R-6): `refused 17 L` is written exactly of a sound sheet that form one can't hold, and L is its first line at fault. The reading gives 13 and 2 alone, the refusal
-- list gives 17 to no job, and a sheet begins with another letter.
use Rattle.std.specs.Prelude.{true, List, ◌++◌, ◌↔◌, ◌≡◌, ℕ, ◌≤◌, ◌<◌, length, Ok, Err}
use Rattle.std.proofs.lemmas.Bool.{false≢true}
use Rattle.std.proofs.Math.Option.{some}
use Rattle.std.proofs.Math.Path.{refl, ap}
use Rattle.std.proofs.Common.{◌∙◌, sym, subst, arith}
use Rattle.std.proofs.Math.ListN.{get_or}
use Rattle.text.specs.Print.{bytes, decimal}
use Rattle.text.specs.Unique.{decimal-one}
use Rattle.refusal.specs.declared.Refusal.{Refusal}
use Rattle.refusal.specs.declared.Refusal.TheVariants.{OtherForm}
use Rattle.refusal.specs.Refusal.{number_of, place_of, by_paper, of_number}
use Rattle.elements.specs.declared.SheetForm.{SheetForm}
use Rattle.elements.specs.declared.SheetForm.TheVariants.{One, Two}
use Rattle.sheet.specs.declared.Counts.{Counts}
use Rattle.sheet.specs.Sheet.{reading}
use Rattle.sheet.specs.Form.{Written, written_of}
use Rattle.sheet.specs.Faults.{ours}
use Rattle.sheet.proofs.Faults.{thirteen_or_two}
use Rattle.job.specs.Table.{First}
use Rattle.job.specs.Order.{given-first}
use Rattle.result.specs.Text.{line_two}
use Rattle.result.specs.Refused.{refused-is}
use Rattle.sheet_job.specs.Tables.{sheet_job}
use Rattle.other_form.specs.Other.{other_text, Holds}
use Rattle.other_form.specs.Text.{text-one, text-two}
use Rattle.other_form.specs.Joined.{other-one, other-two}
use Rattle.other_form.specs.Known.{known}
use Rattle.other_form.specs.First.{AtFault, number, reads, FirstFault}
use Rattle.converter.specs.Convert.{given, convert_text}
use Rattle.converter.specs.Exact.{ConvertIs, unread, unheld, declined, written}
use Rattle.converter.proofs.Exact.{by-fault, convert_is}
use Rattle.converter.specs.Seventeen.{line_seventeen, text_of}

is-other : (r : Refusal) → number_of r ≡ 17 → r ≡ OtherForm (place_of r)
unfolding by_paper
is-other r e = of_number r 17 e

-- a line at fault is one of the sheet's
fault-most : (r : Written) (l : ℕ) → length r.base ≤ 1024 → length r.ruby ≤ 2048 → AtFault r l → l < 1000000000
fault-most r l h g (number i k n) = omega arith
fault-most r l h g (reads e) = omega arith

module _ (s : List ℕ) where
  abbrev r : Written
  r = written_of (reading s)

  -- the other sheet begins with `set`
  not-sheet : (p : ℕ) → Holds r → other_text s ≡ line_two (bytes "refused") 17 p → ⊥
  unfolding line_two
  not-sheet p h e = go (reading s).form refl
    where
      go : (f : SheetForm) → (reading s).form ≡ f → ⊥
      go One i = omega (arith, ap (λ l. get_or l 0 0) (sym (other-one s i ∙ text-two r h.house h.left) ∙ e))
      go Two i = omega (arith, ap (λ l. get_or l 0 0) (sym (other-two s i ∙ text-one r) ∙ e))

  not-read : (why : Refusal) → (reading s).end ≡ Err why → number_of why ≡ 17 → ⊥
  not-read why e n = false≢true (subst (λ q. ours q ≡ true) (is-other why n) (thirteen_or_two s why e))

  not-job : (why : Refusal) → given (reading s) ≡ some why → number_of why ≡ 17 → ⊥
  unfolding given
  not-job why g n = (subst (First (sheet_job (reading s)) 1024 2048 2048 1024) (is-other why n) (given-first (sheet_job (reading s)) 1024 2048 2048 1024 why g)).holds

  pub seventeen_exactly : (l : ℕ) → (convert_text s ≡ bytes "refused 17 " ++ (decimal l ++ bytes "\n")) ↔ ((c : Counts) × ((reading s).end ≡ Ok c) × FirstFault r l)
  seventeen_exactly l = (λ e. go (convert_text s) (convert_is s) (e ∙ line_seventeen l), λ p. by-fault s l p.0 p.1 p.2 ∙ text_of l ∙ sym (line_seventeen l))
    where
      go : (t : List ℕ) → ConvertIs s t → t ≡ line_two (bytes "refused") 17 l → (c : Counts) × ((reading s).end ≡ Ok c) × FirstFault r l
      go t (unread why i) e = absurd (not-read why i (refused-is why 17 l (omega arith) e).0)
      go t (unheld c k i f) e =
          let w = (known i).form in
          let small = fault-most r k w.base.few w.ruby.few f.there in
          let same : l ≡ k = decimal-one l k small (sym (refused-is (OtherForm k) 17 l (omega arith) e).1) in
          (c, i, subst (FirstFault r) (sym same) f)
      go t (declined c why i h g) e = absurd (not-job why g (refused-is why 17 l (omega arith) e).0)
      go t (written c i h g) e = absurd (not-sheet l h e)
