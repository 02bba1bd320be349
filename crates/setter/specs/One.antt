-- What form one does not show (document 02, R-6): the job of such a sheet has both ratios 1:2:1, profile 0 and no left reading.
use Rattle.std.specs.Prelude.{List, [], ◌∷◌, ◌≡◌, refl, ℕ, length, replicate}
use Rattle.std.proofs.Common.{ap}
use Rattle.basics.specs.Lists.{All}
use Rattle.rows.specs.Table.{column}
use Rattle.elements.specs.declared.SheetForm.TheVariants.{One}
use Rattle.elements.specs.Print.{Right, M, G, J, none, Entry, P, word, Fit, letter_of, left_count, left_runs, element_of, lruns_of, rows_of, all_runs, all_left}
use Rattle.sheet.specs.Form.{Written, InForm, Shown, sheet_of}
use Rattle.spread.specs.Ratio.{usual_lists}
use Rattle.door.specs.Job.{job_of}
use Rattle.sheet_job.specs.Tables.{sheet_job}

uncounted : (r : Right) → left_count r none ≡ 0
unfolding left_count
uncounted (M n) = refl
uncounted (G b n) = refl
uncounted (J runs) = refl

unrun : (r : Right) → left_runs r none ≡ []
unfolding left_runs
unrun (M n) = refl
unrun (G b n) = refl
unrun (J runs) = refl

-- each element's left kind is none, `N` (78), its left count 0, and there are no left runs
none_left : (es : List Entry) → All (Fit One) es → (column 3 (rows_of es) ≡ replicate (length es) 78) × (column 4 (rows_of es) ≡ replicate (length es) 0) × (all_left es ≡ [])
unfolding rows_of all_left element_of lruns_of Fit letter_of
none_left [] h = (refl, refl, refl)
none_left (P ∷ es) h =
    let n = none_left es h.1 in
    (ap (λ (l : List ℕ). 78 ∷ l) n.0, ap (λ (l : List ℕ). 0 ∷ l) n.1, n.2)
none_left (word r l ∷ es) h =
    let n = none_left es h.1 in
    (rw (h.0.1, n.0), rw (h.0.1, uncounted r, n.1), rw (h.0.1, unrun r, n.2))

pub one_means : (r : Written) → InForm One r →
    sheet_job (sheet_of One r)
    ≡ job_of r.em r.measure usual_lists 0 (column 0 r.base) (column 1 r.base) (column 2 r.base) (column 3 r.base) (column 4 r.base) (column 0 r.ruby) (column 1 r.ruby) [] []
    (column 0 (rows_of r.elem)) (column 1 (rows_of r.elem)) (column 2 (rows_of r.elem)) (replicate (length r.elem) 78) (replicate (length r.elem) 0) (all_runs r.elem) []
unfolding sheet_job sheet_of Shown
one_means r form =
    let n = none_left r.elem form.elem.fit in
    rw (form.shown.0, form.shown.1, n.0, n.1, n.2)
