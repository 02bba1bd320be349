-- How the loops come along: what is left to read, stored after what was read, makes up the whole.
use Rattle.std.specs.Prelude.{ok_or, Ok, Bool, true, false, cond, List, [], ◌∷◌, ◌≡◌, ltb, drop, set, Err, None, Option, Result, Some}
use Rattle.std.proofs.Math.Path.{refl, ap}
use Rattle.std.proofs.Common.{◌∙◌, sym, mul-le-mul_right, ltb-false}
use Prim.Native.Nat.{ℕ, suc, ◌+◌, ◌-◌, ◌*◌, ◌^◌, ◌≤◌, ◌<◌}
use Rattle.std.proofs.Math.Nat.{suc-mul, sub-zero}
use native.Mathlib.Omega.{arith}
use Rattle.std.proofs.Math.ListN.{length, length-set}
use Rattle.refusal.specs.declared.Refusal.TheVariants.{Form, Count}
use Rattle.text.specs.Text.{number, word, stop_of}
use Rattle.text.specs.Stands.{number_past}
use Rattle.refusal.specs.declared.Refusal.{Refusal}
use Rattle.rows.specs.declared.Part.{Part}
use Rattle.rows.specs.Read.{Read}
use Rattle.rows.specs.Section.{on_number, on_place, on_part, fields, lines, head_of, rows_of, count_of, line_of}
use Rattle.rows.specs.Table.{strided, laid, length-strided, FieldsReady, RowsReady, SectionReady}

-- A line: `left` of its k numbers are still to be read.

pub record FieldsLeft (s : List ℕ) (from last k : ℕ) (was : List ℕ) (to step : ℕ) (out : List ℕ) (at p left : ℕ) : Type 0 where
  pub room : (j : ℕ) → j ≤ left → at + 2 * j ≤ length s → p + j * step < length out + step
  pub long : length out ≡ length was
  pub end : (fields last left s at).end ≡ (fields last k s from).end
  pub stored : strided out p step (fields last left s at).values ≡ strided was to step (fields last k s from).values

pub fields-first : {s : List ℕ} {from k to step : ℕ} {out : List ℕ} (last : ℕ) → FieldsReady s from k to step out → FieldsLeft s from last k out to step out from to k
fields-first last ready = record { room = ready.room; long = refl; end = refl; stored = refl }

module _ {s : List ℕ} {from last k : ℕ} {was : List ℕ} {to step : ℕ} {out : List ℕ} {at p left : ℕ} (inv : FieldsLeft s from last k was to step out at p left) where
  pub fields-done : left ≤ 0 → (Some at ≡ (fields last k s from).end) × (out ≡ strided was to step (fields last k s from).values)
  unfolding fields strided
  fields-done h =
      let e : left ≡ 0 = omega arith in
      (rw e at inv.end, rw e at inv.stored)

  module _ (some : 0 < left) where
    one_more : left ≡ suc (left - 1)
    one_more = omega arith

    module _ (stop : ℕ) (stops : stop ≡ stop_of last (left - 1)) where
      -- a number that was read has its place
      pub place : (v next : ℕ) → Some (v, next) ≡ number (drop at s) stop at → p < length out
      place v next h =
          let past = number_past s at v stop next (sym h) in
          let fits : at + 2 * 1 ≤ length s = omega (arith, past.0, past.1) in
          omega (arith, inv.room 1 (omega arith) fits)

      step-fields : fields last left s at ≡
          on_number (number (drop at s) stop at)
          (record { values = []; end = None })
          (λ v next. record { values = v ∷ (fields last (left - 1) s next).values; end = (fields last (left - 1) s next).end })
      unfolding fields
      step-fields = ap (λ n. fields last n s at) one_more ∙ rw stops

      pub fields-fault : None ≡ number (drop at s) stop at → (None ≡ (fields last k s from).end) × (out ≡ strided was to step (fields last k s from).values)
      unfolding on_number strided
      fields-fault h = (rw (step-fields, ← h) at inv.end, rw (step-fields, ← h) at inv.stored)

      pub fields-next : (v next : ℕ) → Some (v, next) ≡ number (drop at s) stop at → FieldsLeft s from last k was to step (set out p v) next (p + step) (left - 1)
      unfolding on_number strided
      fields-next v next h =
          record {
            room = λ j few fits. omega (arith, length-set out p v, inv.room (suc j) (omega arith) (omega (arith, (number_past s at v stop next (sym h)).0)), suc-mul j step);
            long = length-set out p v ∙ inv.long;
            end = rw (step-fields, ← h) at inv.end;
            stored = rw (step-fields, ← h) at inv.stored;
          }

-- A section's lines: i of n are read.

pub record RowsLeft (s : List ℕ) (k n from first most : ℕ) (was out : List ℕ) (at line i : ℕ) : Type 0 where
  pub within : i ≤ n
  pub counted : line ≡ first + i
  pub long : length out ≡ length was
  pub end : (lines k n (n - i) s at line).end ≡ (lines k n n s from first).end
  pub stored : laid out i most (lines k n (n - i) s at line).rows ≡ laid was 0 most (lines k n n s from first).rows

pub rows-first : (s : List ℕ) (k n from first most : ℕ) (out : List ℕ) → RowsLeft s k n from first most out out from first 0
rows-first s k n from first most out = record { within = omega arith; counted = omega arith; long = refl; end = rw sub-zero; stored = rw sub-zero }

module _ {s : List ℕ} {k n from first most : ℕ} {was out : List ℕ} {at line i : ℕ} (inv : RowsLeft s k n from first most was out at line i) where
  pub rows-done : n ≤ i → (Read n at line ≡ (lines k n n s from first).end) × (out ≡ laid was 0 most (lines k n n s from first).rows)
  unfolding lines laid
  rows-done h =
      let e : n - i ≡ 0 = omega arith in
      (rw e at inv.end, rw e at inv.stored)

  module _ (more : i < n) where
    pub fields-ready : RowsReady k most (Read n from first) was → FieldsReady s at k i most out
    fields-ready ready =
        record {
          room = λ j few fits. omega (arith, ready.few, ready.room, inv.long, mul-le-mul_right most few);
          small = omega (arith, ready.small, inv.long);
        }

    pub line-fits : RowsReady k most (Read n from first) was → line + 1 < 2 ^ 32
    line-fits ready = omega (arith, ready.lines, inv.counted)

    one_line : lines k n (n - i) s at line ≡
        on_place (fields 10 k s at).end
        (record { rows = (fields 10 k s at).values ∷ []; end = Err (Form line) })
        (λ next. record { rows = (fields 10 k s at).values ∷ (lines k n (n - (i + 1)) s next (line + 1)).rows; end = (lines k n (n - (i + 1)) s next (line + 1)).end })
    unfolding lines
    one_line =
        let e : n - i ≡ suc (n - (i + 1)) = omega arith in
        ap (λ m. lines k n m s at line) e

    module _ (now : List ℕ) (put : now ≡ strided out i most (fields 10 k s at).values) where
      pub rows-broken : None ≡ (fields 10 k s at).end → (Err (Form line) ≡ (lines k n n s from first).end) × (now ≡ laid was 0 most (lines k n n s from first).rows)
      unfolding on_place laid
      rows-broken h = (rw (one_line, ← h) at inv.end, put ∙ (rw (one_line, ← h) at inv.stored))

      -- as `ok_or` and `?` hand it on
      pub rows-refused : (r : Option ℕ) (q : Refusal) → r ≡ (fields 10 k s at).end → ok_or r (Form line) ≡ Err q → (Err q ≡ (lines k n n s from first).end) × (now ≡ laid was 0 most (lines k n n s from first).rows)
      rows-refused None q h e =
          let z = rows-broken h in
          let f : ◌≡◌ {A = Refusal} q (Form line) = cc in
          (ap Err f ∙ z.0, z.1)
      rows-refused (Some next) q h e = absurd (let z : ◌≡◌ {A = ℕ} 0 1 = cc in omega arith)

      pub rows_next : (next : ℕ) → Some next ≡ (fields 10 k s at).end → RowsLeft s k n from first most was now next (line + 1) (i + 1)
      unfolding on_place laid
      rows_next next h =
          record {
            within = omega arith;
            counted = omega (arith, inv.counted);
            long = ap length put ∙ (length-strided out i most (fields 10 k s at).values ∙ inv.long);
            end = rw (one_line, ← h) at inv.end;
            stored = rw put (rw (one_line, ← h) at inv.stored);
          }

-- the lines under a head that was read
pub rows_of_lem : (k : ℕ) (s : List ℕ) (head : Result Part Refusal) (n at line : ℕ) → head ≡ Read n at line → rows_of k s head ≡ lines k n n s at line
unfolding rows_of on_part
rows_of_lem k s head n at line e = rw e

-- and under one that is refused: nothing is read, and the table stays
pub rows_none : (k : ℕ) (s : List ℕ) (head : Result Part Refusal) (q : Refusal) → head ≡ Err q → rows_of k s head ≡ record { rows = []; end = Err q }
unfolding rows_of on_part
rows_none k s head q e = rw e

pub laid_none : (out : List ℕ) (most : ℕ) → out ≡ laid out 0 most []
unfolding laid
laid_none out most = refl

-- A section's first line: its count is at most the most, and it is one line.

module _ (w s : List ℕ) (most which : ℕ) where
  counts : (n next line : ℕ) (b : Bool) → ltb most n ≡ b → let h = cond b (Err (Count which)) (Read n next (line + 1)) in (count_of h ≤ most) × (line_of h ≤ line + 1)
  counts n next line true e = (omega arith, omega arith)
  counts n next line false e = (ltb-false most n e, omega arith)

  numbered : (line : ℕ) (n : Option (ℕ × ℕ)) →
      let h = on_number n (Err (Form line)) (λ n next. cond (ltb most n) (Err (Count which)) (Read n next (line + 1))) in (count_of h ≤ most) × (line_of h ≤ line + 1)
  unfolding on_number
  numbered line (Some read) = counts read.0 read.1 line (ltb most read.0) refl
  numbered line None = (omega arith, omega arith)

  placed : (line : ℕ) (p : Option ℕ) →
      let h =
      on_place p (Err (Form line)) (λ p. on_number (number (drop p s) 10 p) (Err (Form line)) (λ n next. cond (ltb most n) (Err (Count which)) (Read n next (line + 1)))) in
      (count_of h ≤ most) × (line_of h ≤ line + 1)
  unfolding on_place
  placed line (Some p) = numbered line (number (drop p s) 10 p)
  placed line None = (omega arith, omega arith)

  pub head_small : (last : Result Part Refusal) → (count_of (head_of w most which s last) ≤ most) × (line_of (head_of w most which s last) ≤ line_of last + 1)
  unfolding head_of on_part
  head_small (Ok part) = placed part.line (word w (drop part.at s) part.at)
  head_small (Err r) = (omega arith, omega arith)

  pub rows-ready : {k : ℕ} {last : Result Part Refusal} {out : List ℕ} → SectionReady k most last out → RowsReady k most (head_of w most which s last) out
  rows-ready {k} {last} {out} ready =
      record {
        few = (head_small last).0;
        room = ready.room;
        small = ready.small;
        lines = omega (arith, (head_small last).0, (head_small last).1, ready.lines);
      }

  -- as `?` hands it on
  pub head_ready : {k : ℕ} {last : Result Part Refusal} {out : List ℕ} (head : Result Part Refusal) → SectionReady k most last out → head ≡ head_of w most which s last → RowsReady k most head out
  head_ready head ready e = rw e (rows-ready ready)

pub ruleset field_steps = (fields-first, fields-fault, place, fields-next, fields-done)

pub ruleset row_steps = (rows-first, rows-broken, rows_next, rows-done, rows_of_lem, rows_none, laid_none, fields-ready, line-fits)
