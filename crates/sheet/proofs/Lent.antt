-- The tables after a sound reading, for those who lend their parts: the part of a table from a on, m long, is one field of all lines. `into` is what `read_sheet` ensures, `is` that it answered `Ok c`.
use Rattle.std.specs.Prelude.{List, ◌≡◌, refl, ℕ, ◌*◌, ◌<◌, length, get_or, take, drop, Ok, Result}
use Rattle.refusal.specs.declared.Refusal.{Refusal}
use Rattle.std.proofs.Common.{◌∙◌, ap, sym, arith, take_all}
use Rattle.std.proofs.Math.Seq.{length-sets}
use Rattle.rows.specs.Table.{column, length-laid}
use Rattle.sheet.specs.declared.Counts.{Counts}
use Rattle.sheet.specs.Sheet.{reading, set_at, Tables, Into}
use Rattle.sheet.proofs.Sound as sheet
use Rattle.sheet.specs.Sound.{SoundSheet}
use Rattle.sheet.specs.Lent.{lines-part, list-part}

module _ {s : List ℕ} {was : Tables} {r : Result Counts Refusal} {t : Tables} (into : Into s was r t) where
  -- a table keeps its length, however the reading ends
  pub set_long : length t.set ≡ length was.set
  set_long = ap length into.set_holds ∙ length-laid was.set 0 9 (reading s).set

  pub base-long : length t.base ≡ length was.base
  base-long = ap length into.base_holds ∙ length-laid was.base 0 1024 (reading s).base

  pub ruby-long : length t.ruby ≡ length was.ruby
  ruby-long = ap length into.ruby_holds ∙ length-laid was.ruby 0 2048 (reading s).ruby

  pub left-long : length t.left ≡ length was.left
  left-long = ap length into.left_holds ∙ length-laid was.left 0 2048 (reading s).left

  pub elem-long : length t.elem ≡ length was.elem
  elem-long = ap length into.elem_holds ∙ length-laid was.elem 0 1024 (reading s).elem

  pub runs-long : length t.runs ≡ length was.runs
  runs-long = ap length into.runs_hold ∙ length-sets was.runs 0 (reading s).runs

  pub lruns-long : length t.lruns ≡ length was.lruns
  lruns-long = ap length into.lruns_hold ∙ length-sets was.lruns 0 (reading s).lruns

  module _ {c : Counts} (is : r ≡ Ok c) where
    pub sound : SoundSheet (reading s) c
    sound = sheet.sound s c (sym into.answer ∙ is)

    -- field j of all base characters: class, width, blank before, blank after, flag
    pub base-part : length was.base ≡ 5120 → (j a m : ℕ) → j < 5 → a ≡ j * 1024 → m ≡ c.bases → take m (drop a t.base) ≡ column j (reading s).base
    base-part = lines-part 5 1024 c.bases 5120 (reading s).base was.base t.base (omega arith) sound.base into.base_holds

    -- field j of all ruby characters, and of all left characters: class, width
    pub ruby-part : length was.ruby ≡ 4096 → (j a m : ℕ) → j < 2 → a ≡ j * 2048 → m ≡ c.rubies → take m (drop a t.ruby) ≡ column j (reading s).ruby
    ruby-part = lines-part 2 2048 c.rubies 4096 (reading s).ruby was.ruby t.ruby (omega arith) sound.ruby into.ruby_holds

    pub left_part_lem : length was.left ≡ 4096 → (j a m : ℕ) → j < 2 → a ≡ j * 2048 → m ≡ c.lefts → take m (drop a t.left) ≡ column j (reading s).left
    left_part_lem = lines-part 2 2048 c.lefts 4096 (reading s).left was.left t.left (omega arith) sound.left into.left_holds

    -- field j of all elements: kind, base count, ruby count, left kind, left count
    pub elem-part : length was.elem ≡ 5120 → (j a m : ℕ) → j < 5 → a ≡ j * 1024 → m ≡ c.elements → take m (drop a t.elem) ≡ column j (reading s).elem
    elem-part = lines-part 5 1024 c.elements 5120 (reading s).elem was.elem t.elem (omega arith) sound.elem into.elem_holds

    -- the runs, and the left runs
    pub runs-part : length was.runs ≡ 32768 → (m : ℕ) → m ≡ c.runs → take m t.runs ≡ (reading s).runs
    runs-part = list-part (reading s).runs was.runs t.runs c.runs 32768 sound.runs sound.few_runs into.runs_hold

    pub lruns-part : length was.lruns ≡ 32768 → (m : ℕ) → m ≡ c.lruns → take m t.lruns ≡ (reading s).lruns
    lruns-part = list-part (reading s).lruns was.lruns t.lruns c.lruns 32768 sound.lruns sound.few_lruns into.lruns_hold

    -- the nine numbers of `set`, one after the other: em, measure, the ruby ratio, the base ratio, the profile
    set-part : length was.set ≡ 9 → t.set ≡ column 0 (reading s).set
    set-part l =
        sym (take_all 9 t.set (omega (arith, set_long)))
        ∙ lines-part 1 9 9 9 (reading s).set was.set t.set (omega arith) sound.set into.set_holds l 0 0 9 (omega arith) (omega arith) refl

    pub set_at_lem : length was.set ≡ 9 → (i : ℕ) → get_or t.set i 0 ≡ set_at (reading s) i
    set_at_lem l i = ap (λ (u : List ℕ). get_or u i 0) (set-part l)
