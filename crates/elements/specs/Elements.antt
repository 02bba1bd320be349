-- The section `elem` over the bytes of a sheet of either form: its lines in order, the runs of all its J elements in order, and all left runs.
use Rattle.std.specs.Prelude.{List, [], ◌∷◌, ◌++◌, ℕ, zero, suc, ◌+◌, Result, Err}
use Rattle.refusal.specs.declared.Refusal.TheVariants.{Form}
use Rattle.refusal.specs.declared.Refusal.{Refusal}
use Rattle.rows.specs.declared.Part.{Part}
use Rattle.rows.specs.Section.{on_part}
use Rattle.elements.specs.declared.Element.{Element}
use Rattle.elements.specs.declared.SheetForm.{SheetForm}
use Rattle.elements.specs.declared.Elements.{Elements}
use Rattle.elements.specs.Read.{Read}
use Rattle.elements.specs.Element.{on_line, Taken, element, row_of}

-- The elements that were read, the runs and left runs that were read, and how the reading ended.
pub record Listed : Type 0 where
  pub rows : List (List ℕ)
  pub runs : List ℕ
  pub lruns : List ℕ
  pub end : Result Elements Refusal

-- a line that breaks its form, and a line before those that follow
abbrev pub broke : Taken → ℕ → Listed
broke t line = record { rows = []; runs = t.runs; lruns = t.lruns; end = Err (Form line) }

abbrev pub joined : Taken → Element → Listed → Listed
joined t e rest = record { rows = row_of e ∷ rest.rows; runs = t.runs ++ rest.runs; lruns = t.lruns ++ rest.lruns; end = rest.end }

-- the lines of a section of n of which some are left, after so many runs and left runs
unfoldable pub lines : SheetForm → ℕ → ℕ → List ℕ → ℕ → ℕ → ℕ → ℕ → Listed
unfolding on_line element
lines f n zero s at line used lused = record { rows = []; runs = []; lruns = []; end = Read n used lused at line }
lines f n (suc left) s at line used lused =
    on_line (element f s at).line (broke (element f s at) line)
    (λ e next. joined (element f s at) e (lines f n left s next (line + 1) (used + e.runs) (lused + e.lruns)))

-- the lines under the section's first line; a refusal is handed on
unfoldable pub elements : SheetForm → List ℕ → Result Part Refusal → Listed
unfolding on_part lines
elements f s head = on_part head (λ r. record { rows = []; runs = []; lruns = []; end = Err r }) (λ n at line. lines f n n s at line 0 0)
