-- Counts and line numbers of a sheet are small: what each section asks of its caller.
use Rattle.std.specs.Prelude.{Ok, Bool, true, false, cond, List, ◌≡◌, ℕ, ◌+◌, ◌≤◌, ltb, length, Err, None, Option, Result, Some}
use Rattle.std.proofs.Math.Path.{refl}
use Rattle.std.proofs.Common.{arith, ltb-false}
use Rattle.refusal.specs.declared.Refusal.TheVariants.{Form}
use Rattle.text.specs.Text.{word}
use Rattle.refusal.specs.declared.Refusal.{Refusal}
use Rattle.rows.specs.declared.Part.{Part}
use Rattle.rows.specs.Read.{Read}
use Rattle.rows.specs.Section.{on_place, on_part, count_of, line_of, head_of}
use Rattle.rows.specs.Table.{RowsReady, SectionReady}
use Rattle.rows.specs.Reading.{head_small}
use Rattle.rows.specs.Whole.{Came, rows-counted, section-lines, head_came, rows_came}
use Rattle.elements.specs.declared.SheetForm.{SheetForm}
use Rattle.elements.specs.declared.SheetForm.TheVariants.{One, Two}
use Rattle.elements.specs.Ready.{ElementsReady}
use Rattle.sheet.specs.Sheet.{set_word, base_word, ruby_word, left_word, elem_word, opening, set_of, left_head, form_of, base_of, ruby_of, left_of}
use Rattle.sheet.specs.Reads.{left_came}

Few : Result Part Refusal → Type 0
Few p = (count_of p ≤ 9) × (line_of p ≤ 2)

few-read : (n p : ℕ) → n ≤ 9 → Few (Read n p 2)
unfolding Few
few-read n p h = (h, omega arith)

few-off : (line : ℕ) → Few (Err (Form line))
unfolding Few
few-off line = (omega arith, omega arith)

two-placed : (x : Option ℕ) → Few (on_place x (Err (Form 1)) (λ p. Read 9 p 2))
unfolding on_place
two-placed (Some p) = few-read 9 p (omega arith)
two-placed None = few-off 1

one_placed : (x y : Option ℕ) → Few (on_place x (on_place y (Err (Form 1)) (λ p. Read 9 p 2)) (λ p. Read 2 p 2))
unfolding on_place
one_placed (Some p) y = few-read 2 p (omega arith)
one_placed None y = two-placed y

open_tested : (b : Bool) (p : Result Part Refusal) → Few p → Few (cond b (Err (Form 0)) p)
open_tested true p h = few-off 0
open_tested false p h = h

short_tested : (b : Bool) (s : List ℕ) (p : Result Part Refusal) → ltb 65535 (length s) ≡ b → Came (cond b (Err (Form 0)) p) → length s ≤ 65535
short_tested true s p e c = absurd (let f = c.is in let z : ◌≡◌ {A = ℕ} 0 1 = cc in omega arith)
short_tested false s p e c = ltb-false 65535 (length s) e

-- the line that begins the section `left`, or none
left_head-small : (f : SheetForm) (s : List ℕ) (last : Result Part Refusal) → (count_of (left_head f s last) ≤ 2048) × (line_of (left_head f s last) ≤ line_of last + 1)
unfolding left_head on_part
left_head-small One s (Ok part) = (omega arith, omega arith)
left_head-small One s (Err r) = (omega arith, omega arith)
left_head-small Two s last = head_small left_word s 2048 3 last

module _ (s : List ℕ) where
  pub open_small : (count_of (opening s) ≤ 9) × (line_of (opening s) ≤ 2)
  unfolding opening Few
  open_small = open_tested (ltb 65535 (length s)) _ (one_placed (word (set_word One) s 0) (word (set_word Two) s 0))

  open_short : Came (opening s) → length s ≤ 65535
  unfolding opening
  open_short c = short_tested (ltb 65535 (length s)) s _ refl c

  pub set_line : line_of (set_of s).end ≤ 11
  unfolding set_of
  set_line = omega (arith, rows-counted 1 s (opening s), open_small.0, open_small.1)

  pub base-line : line_of (base_of s).end ≤ 1036
  unfolding base_of
  base-line = omega (arith, section-lines base_word 5 1024 0 s (set_of s).end, set_line)

  pub ruby-line : line_of (ruby_of s).end ≤ 3085
  unfolding ruby_of
  ruby-line = omega (arith, section-lines ruby_word 2 2048 1 s (base_of s).end, base-line)

  pub left_line : line_of (left_of s).end ≤ 5134
  unfolding left_of
  left_line =
      let h = left_head-small (form_of s) s (ruby_of s).end in
      omega (arith, rows-counted 2 s (left_head (form_of s) s (ruby_of s).end), h.0, h.1, ruby-line)

  -- what is reached of a sheet is not over-long
  pub short : Came (head_of elem_word 1024 2 s (left_of s).end) → length s ≤ 65535
  unfolding left_of ruby_of base_of set_of
  short c =
      let l = head_came elem_word 1024 2 s (left_of s).end c in
      let r = left_came (form_of s) s (ruby_of s).end (rows_came 2 s (left_head (form_of s) s (ruby_of s).end) l) in
      let b = head_came ruby_word 2048 1 s (base_of s).end (rows_came 2 s (head_of ruby_word 2048 1 s (base_of s).end) r) in
      let a = head_came base_word 1024 0 s (set_of s).end (rows_came 5 s (head_of base_word 1024 0 s (set_of s).end) b) in
      open_short (rows_came 1 s (opening s) a)

  pub set-ready : (t : List ℕ) → length t ≡ 9 → RowsReady 1 9 (opening s) t
  set-ready t h = record { few = open_small.0; room = omega arith; small = omega arith; lines = omega (arith, open_small.0, open_small.1) }

  pub base-ready : (t : List ℕ) → length t ≡ 5120 → SectionReady 5 1024 (set_of s).end t
  base-ready t h = record { room = omega arith; small = omega arith; lines = omega (arith, set_line) }

  pub ruby-ready : (t : List ℕ) → length t ≡ 4096 → SectionReady 2 2048 (base_of s).end t
  ruby-ready t h = record { room = omega arith; small = omega arith; lines = omega (arith, base-line) }

  pub left-ready : (t : List ℕ) → length t ≡ 4096 → RowsReady 2 2048 (left_head (form_of s) s (ruby_of s).end) t
  left-ready t h =
      let l = left_head-small (form_of s) s (ruby_of s).end in
      record { few = l.0; room = omega arith; small = omega arith; lines = omega (arith, l.0, l.1, ruby-line) }

  pub elem-ready : (t u v : List ℕ) → length t ≡ 5120 → length u ≡ 32768 → length v ≡ 32768 → ElementsReady s (head_of elem_word 1024 2 s (left_of s).end) t u v
  elem-ready t u v h i k =
      let l = head_small elem_word s 1024 2 (left_of s).end in
      record {
        few = l.0;
        lines = omega (arith, l.0, l.1, left_line);
        room = omega arith;
        short = short;
        held = record { right = omega arith; left = omega arith; small_right = omega arith; small_left = omega arith };
      }
