-- How the loop over the elements comes along: what is left to read, stored after what was read, makes up the whole. A run takes two bytes of the sheet at least, so that the tables have room.
use Rattle.std.specs.Prelude.{ok_or, Ok, List, ◌++◌, ◌≡◌, refl, Result, Err, None, Option, Some}
use Rattle.std.proofs.lemmas.Option.{some_pair_parts}
use Rattle.std.proofs.Common.{◌∙◌, ap₂, sym}
use Rattle.std.proofs.Math.Path.{ap}
use Prim.Native.Nat.{ℕ, suc, ◌+◌, ◌-◌, ◌*◌, ◌^◌, ◌≤◌, ◌<◌}
use Rattle.std.proofs.Math.Nat.{sub-zero}
use native.Mathlib.Omega.{arith}
use Rattle.std.proofs.Math.ListN.{length}
use Rattle.std.proofs.lemmas.List.Edits.{sets}
use Rattle.std.proofs.Math.Seq.{length-sets}
use Rattle.basics.specs.Laws.{sets_append}
use Rattle.refusal.specs.declared.Refusal.TheVariants.{Form}
use Rattle.refusal.specs.declared.Refusal.{Refusal}
use Rattle.rows.specs.declared.Part.{Part}
use Rattle.rows.specs.Read.{Read as PartRead}
use Rattle.rows.specs.Section.{on_part}
use Rattle.rows.specs.Table.{strided, laid, length-strided}
use Rattle.elements.specs.declared.Element.{Element}
use Rattle.elements.specs.declared.SheetForm.{SheetForm}
use Rattle.elements.specs.Read.{Read}
use Rattle.elements.specs.Element.{on_line, Taken, element, row_of}
use Rattle.elements.specs.Elements.{Listed, broke, joined, lines, elements}
use Rattle.elements.specs.Ready.{LineReady, PutReady, LinesReady, ElementsReady}
use Rattle.elements.specs.Print.{taken_of}
use Rattle.elements.specs.Printed.{ElementIs, broken, stands, element-is, element-long, runs-counted}
use Rattle.elements.specs.Determined.{ListRead}

-- A line that was read has as many runs and left runs as its element says, and two bytes or more for each.
pub record LineRuns (at : ℕ) (e : Element) (next : ℕ) (t : Taken) : Type 0 where
  pub count : length t.runs ≡ e.runs
  pub count_left : length t.lruns ≡ e.lruns
  pub few : at + 2 * e.runs ≤ next
  pub few_left : at + 2 * e.lruns ≤ next

line-runs-by : (f : SheetForm) (s : List ℕ) (at : ℕ) (t : Taken) (e : Element) (next : ℕ) → t.line ≡ Some (e, next) → ElementIs f s at t → LineRuns at e next t
unfolding taken_of
line-runs-by f s at t e next h (broken b) = absurd (let z : ◌≡◌ {A = ℕ} 0 1 = cc in omega arith)
line-runs-by f s at t e next h (stands x p fit took same) =
    let l = sym h ∙ ap (λ (u : Taken). u.line) same in
    let q = some_pair_parts _ _ _ _ l in
    let i = q.0 in
    let j = q.1 in
    let k = runs-counted x in
    let m = element-long f x fit in
    record {
      count = rw (same, i) (sym k.0);
      count_left = rw (same, i) (sym k.1);
      few = rw i (omega (arith, j, k.0, m.0, took.past));
      few_left = rw i (omega (arith, j, k.1, m.1, took.past));
    }

pub line-runs : (f : SheetForm) (s : List ℕ) (at : ℕ) (e : Element) (next : ℕ) → Some (e, next) ≡ (element f s at).line → LineRuns at e next (element f s at)
line-runs f s at e next h = line-runs-by f s at (element f s at) e next (sym h) (element-is f s at)

-- Of n lines i are read.

pub record LinesLeft (s : List ℕ) (f : SheetForm) (n from first : ℕ) (wasTable wasRuns wasLeft table runs lruns : List ℕ) (at line used lused i : ℕ) : Type 0 where
  pub within : i ≤ n
  pub counted : line ≡ first + i
  pub few : 2 * used ≤ at
  pub few_left : 2 * lused ≤ at
  pub long : length table ≡ length wasTable
  pub long_runs : length runs ≡ length wasRuns
  pub long_left : length lruns ≡ length wasLeft
  pub end : (lines f n (n - i) s at line used lused).end ≡ (lines f n n s from first 0 0).end
  pub stored : laid table i 1024 (lines f n (n - i) s at line used lused).rows ≡ laid wasTable 0 1024 (lines f n n s from first 0 0).rows
  pub kept : sets runs used (lines f n (n - i) s at line used lused).runs ≡ sets wasRuns 0 (lines f n n s from first 0 0).runs
  pub kept_left : sets lruns lused (lines f n (n - i) s at line used lused).lruns ≡ sets wasLeft 0 (lines f n n s from first 0 0).lruns

pub lines-first : (s : List ℕ) (f : SheetForm) (n from first : ℕ) (table runs lruns : List ℕ) → LinesLeft s f n from first table runs lruns table runs lruns from first 0 0 0
lines-first s f n from first table runs lruns =
    record {
      within = omega arith;
      counted = omega arith;
      few = omega arith;
      few_left = omega arith;
      long = refl;
      long_runs = refl;
      long_left = refl;
      end = rw sub-zero;
      stored = rw sub-zero;
      kept = rw sub-zero;
      kept_left = rw sub-zero;
    }

-- runs stored after those before, of either side
runs-next : (was runs xs rest all nowRuns : List ℕ) (used k : ℕ) → length xs ≡ k → nowRuns ≡ sets runs used xs → sets runs used (xs ++ rest) ≡ sets was 0 all →
    sets nowRuns (used + k) rest ≡ sets was 0 all
runs-next was runs xs rest all nowRuns used k c put e = ap₂ (λ l i. sets l (used + i) rest) put (sym c) ∙ (sym (sets_append runs xs rest used) ∙ e)

module _ {s : List ℕ} {f : SheetForm} {n from first : ℕ} {wasTable wasRuns wasLeft table runs lruns : List ℕ} {at line used lused i : ℕ}
    (inv : LinesLeft s f n from first wasTable wasRuns wasLeft table runs lruns at line used lused i) where
  abbrev whole : Listed
  whole = lines f n n s from first 0 0

  pub lines-done : n ≤ i → ListRead whole wasTable wasRuns wasLeft (Read n used lused at line) table runs lruns
  unfolding lines laid
  lines-done h =
      let e : n - i ≡ 0 = omega arith in
      record { end = rw e at inv.end; rows = rw e at inv.stored; right = rw e at inv.kept; left = rw e at inv.kept_left }

  module _ (more : i < n) where
    module _ (ready : LinesReady s n first wasTable wasRuns wasLeft) where
      pub line-ready : LineReady s at used lused runs lruns
      line-ready =
          let h = ready.held in
          record {
            right = record { few = inv.few; short = ready.short; room = omega (arith, inv.long_runs, h.right); small = omega (arith, inv.long_runs, h.small_right) };
            left = record { few = inv.few_left; short = ready.short; room = omega (arith, inv.long_left, h.left); small = omega (arith, inv.long_left, h.small_left) };
          }

      pub put-ready : PutReady i table
      put-ready = record { few = omega (arith, ready.few); room = omega (arith, inv.long, ready.room) }

      pub line-fits : line + 1 < 2 ^ 32
      line-fits = omega (arith, ready.lines, inv.counted)

    pub used_fits : (e : Element) (next : ℕ) → Some (e, next) ≡ (element f s at).line → (used + e.runs ≤ next) × (lused + e.lruns ≤ next)
    used_fits e next h =
        let r = line-runs f s at e next h in
        (omega (arith, inv.few, r.few), omega (arith, inv.few_left, r.few_left))

    one_line : lines f n (n - i) s at line used lused ≡
        on_line (element f s at).line (broke (element f s at) line)
        (λ e next. joined (element f s at) e (lines f n (n - (i + 1)) s next (line + 1) (used + e.runs) (lused + e.lruns)))
    unfolding lines
    one_line =
        let e : n - i ≡ suc (n - (i + 1)) = omega arith in
        ap (λ m. lines f n m s at line used lused) e

    module _ (nowRuns nowLeft : List ℕ) (put : nowRuns ≡ sets runs used (element f s at).runs) (putLeft : nowLeft ≡ sets lruns lused (element f s at).lruns) where
      pub lines-broken : None ≡ (element f s at).line → ListRead whole wasTable wasRuns wasLeft (Err (Form line)) table nowRuns nowLeft
      unfolding on_line laid
      lines-broken h =
          record {
            end = rw (one_line, ← h) at inv.end;
            rows = rw (one_line, ← h) at inv.stored;
            right = put ∙ (rw (one_line, ← h) at inv.kept);
            left = putLeft ∙ (rw (one_line, ← h) at inv.kept_left);
          }

      -- as `ok_or` and `?` hand it on
      pub lines-refused : (r : Option (Element × ℕ)) (q : Refusal) → r ≡ (element f s at).line → ok_or r (Form line) ≡ Err q → ListRead whole wasTable wasRuns wasLeft (Err q) table nowRuns nowLeft
      lines-refused None q h e = let g : ◌≡◌ {A = Refusal} (Form line) q = cc in rw (← g) (lines-broken h)
      lines-refused (Some read) q h e = absurd (let z : ◌≡◌ {A = ℕ} 0 1 = cc in omega arith)

      pub lines_next : (e : Element) (next : ℕ) → Some (e, next) ≡ (element f s at).line → (nowTable : List ℕ) → nowTable ≡ strided table i 1024 (row_of e) →
          LinesLeft s f n from first wasTable wasRuns wasLeft nowTable nowRuns nowLeft next (line + 1) (used + e.runs) (lused + e.lruns) (i + 1)
      unfolding on_line laid
      lines_next e next h nowTable put-row =
          let r = line-runs f s at e next h in
          let t = element f s at in
          let rest = lines f n (n - (i + 1)) s next (line + 1) (used + e.runs) (lused + e.lruns) in
          record {
            within = omega arith;
            counted = omega (arith, inv.counted);
            few = omega (arith, inv.few, r.few);
            few_left = omega (arith, inv.few_left, r.few_left);
            long = ap length put-row ∙ (length-strided table i 1024 (row_of e) ∙ inv.long);
            long_runs = ap length put ∙ (length-sets runs used t.runs ∙ inv.long_runs);
            long_left = ap length putLeft ∙ (length-sets lruns lused t.lruns ∙ inv.long_left);
            end = rw (one_line, ← h) at inv.end;
            stored = rw put-row (rw (one_line, ← h) at inv.stored);
            kept = runs-next wasRuns runs t.runs rest.runs whole.runs nowRuns used e.runs r.count put (rw (one_line, ← h) at inv.kept);
            kept_left = runs-next wasLeft lruns t.lruns rest.lruns whole.lruns nowLeft lused e.lruns r.count_left putLeft (rw (one_line, ← h) at inv.kept_left);
          }

-- the lines under a head that was read
pub lines-ready : (s : List ℕ) (head : Result Part Refusal) (table runs lruns : List ℕ) (n at line : ℕ) → head ≡ PartRead n at line → ElementsReady s head table runs lruns → LinesReady s n line table runs lruns
lines-ready s head table runs lruns n at line e ready =
    let h = rw e at ready in
    record { few = h.few; lines = h.lines; room = h.room; short = h.short (record { count = n; at = at; line = line; is = refl }); held = h.held }

pub part_ready : (s : List ℕ) (head : Result Part Refusal) (p : Part) (table runs lruns : List ℕ) → head ≡ Ok p → ElementsReady s head table runs lruns → LinesReady s p.count p.line table runs lruns
part_ready s head p table runs lruns e ready = lines-ready s head table runs lruns p.count p.at p.line e ready

pub elements_of : (f : SheetForm) (s : List ℕ) (head : Result Part Refusal) (n at line : ℕ) → head ≡ PartRead n at line → elements f s head ≡ lines f n n s at line 0 0
unfolding elements on_part
elements_of f s head n at line e = rw e

pub part_read : (f : SheetForm) (s : List ℕ) (head : Result Part Refusal) (p : Part) → head ≡ Ok p → elements f s head ≡ lines f p.count p.count s p.at p.line 0 0
part_read f s head p e = elements_of f s head p.count p.at p.line e

-- and under one that is refused: nothing is read, and the tables stay
pub none_read : (f : SheetForm) (s : List ℕ) (head : Result Part Refusal) (q : Refusal) (table runs lruns : List ℕ) → head ≡ Err q → ListRead (elements f s head) table runs lruns (Err q) table runs lruns
unfolding elements on_part laid
none_read f s head q table runs lruns e = rw e (record { end = refl; rows = refl; right = refl; left = refl })

pub ruleset line_steps = (lines-first, line-ready, lines-broken, put-ready, line-fits, used_fits, lines_next, lines-done)

pub ruleset element_steps = (part_ready, part_read, none_read)
