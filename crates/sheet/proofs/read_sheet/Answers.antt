-- Each section begins where the one before it ended (`Chain`), and counts and line numbers stay small (`Small`);
-- so what the calls say, put together, is the reading.
use Rattle.std.specs.Prelude.{◌≡◌, List, ℕ}
use Rattle.std.proofs.Common.{rules, arith}
use Rattle.rows.specs.Section.{head_of}
use Rattle.sheet.specs.Sheet.{elem_word, form_of, set_of, base_of, ruby_of, left_head, left_of, reading}
use Rattle.sheet.specs.Small as small
use Rattle.sheet.specs.Chain as chain
use Rattle.sheet.proofs.read_sheet.Goals as goal
use Rattle.sheet.proofs.read_sheet.Goals.{After-head_at-h, After-left_head-g, After-opening_of-o, After-rows_at-a, After-rows_at-l, After-section_at-b, After-section_at-c}

-- the bytes, and the way from each section to the one before it
abbrev sheet : After-opening_of-o → List ℕ
sheet o = o.args.s.now

-- what is answered there
abbrev bytes_of : After-section_at-c → List ℕ
bytes_of r = sheet (goal.at.After-section_at-c r).After-opening_of-o

set_told : (a : After-rows_at-a) → a.rows_at-a.result ≡ (set_of (sheet (goal.at.After-rows_at-a a).After-opening_of-o)).end
set_told a = chain.set-end _ a.opening_of-o.ensures a.rows_at-a.ensures.0

base-told : (b : After-section_at-b) → b.section_at-b.result ≡ (base_of (sheet (goal.at.After-section_at-b b).After-opening_of-o)).end
base-told b = chain.base_end _ (set_told (goal.at.After-section_at-b b).After-rows_at-a) b.section_at-b.ensures.0

ruby-told : (r : After-section_at-c) → r.section_at-c.result ≡ (ruby_of (bytes_of r)).end
ruby-told r = chain.ruby_end _ (base-told (goal.at.After-section_at-c r).After-section_at-b) r.section_at-c.ensures.0

form-told : (r : After-section_at-c) → r.form_of-form.result ≡ form_of (bytes_of r)
form-told r = chain.form-told _ r.opening_of-o.ensures r.form_of-form.ensures

begun : (g : After-left_head-g) → g.left_head-g.result ≡ left_head (form_of (bytes_of (goal.at.After-left_head-g g).After-section_at-c)) (bytes_of (goal.at.After-left_head-g g).After-section_at-c) (ruby_of (bytes_of (goal.at.After-left_head-g g).After-section_at-c)).end
begun g = chain.left_head_lem _ (form-told (goal.at.After-left_head-g g).After-section_at-c) (ruby-told (goal.at.After-left_head-g g).After-section_at-c) g.left_head-g.ensures

left-told : (l : After-rows_at-l) → l.rows_at-l.result ≡ (left_of (bytes_of (goal.at.After-rows_at-l l).After-section_at-c)).end
left-told l = chain.left_end _ (begun (goal.at.After-rows_at-l l).After-left_head-g) l.rows_at-l.ensures.0

abbrev bytes_at : After-head_at-h → List ℕ
bytes_at h = bytes_of (goal.at.After-head_at-h h).After-section_at-c

head-told : (h : After-head_at-h) → h.head_at-h.result ≡ head_of elem_word 1024 2 (bytes_at h) (left_of (bytes_at h)).end
head-told h = chain.head-end _ (left-told (goal.at.After-head_at-h h).After-rows_at-l) h.head_at-h.ensures

pub rows_at-a-requires : goal.rows_at-a-requires
rows_at-a-requires c = rw c.opening_of-o.ensures (small.set-ready _ _ (search rules))

pub section_at-b-requires : goal.section_at-b-requires
section_at-b-requires c = rw (set_told (goal.at.section_at-b-requires c).After-rows_at-a) (small.base-ready _ _ (search rules))

pub section_at-c-requires : goal.section_at-c-requires
section_at-c-requires c = rw (base-told (goal.at.section_at-c-requires c).After-section_at-b) (small.ruby-ready _ _ (search rules))

pub left_head-g-requires : goal.left_head-g-requires
left_head-g-requires c = rw (ruby-told c) (omega (arith, small.ruby-line (bytes_of c)))

pub rows_at-l-requires : goal.rows_at-l-requires
rows_at-l-requires c = rw (begun (goal.at.rows_at-l-requires c).After-left_head-g) (small.left-ready _ _ (search rules))

pub head_at-h-requires : goal.head_at-h-requires
head_at-h-requires c = rw (left-told (goal.at.head_at-h-requires c).After-rows_at-l) (omega (arith, small.left_line (bytes_of (goal.at.head_at-h-requires c).After-section_at-c)))

pub elements_at-d-requires : goal.elements_at-d-requires
elements_at-d-requires c =
    rw (head-told (goal.at.elements_at-d-requires c).After-head_at-h)
    (small.elem-ready _ _ _ _ (search rules) (search rules) (search rules))

pub returns : goal.returns
unfolding reading
returns c =
    let e = chain.elem-read _ (form-told (goal.at.returns c).After-section_at-c) (head-told (goal.at.returns c).After-head_at-h) c.elements_at-d.ensures in
    record {
      answer = chain.ended _ (base-told (goal.at.returns c).After-section_at-b) (ruby-told (goal.at.returns c).After-section_at-c) (left-told (goal.at.returns c).After-rows_at-l) e.end c.ending.ensures;
      set_holds = chain.set_holds_lem _ _ c.opening_of-o.ensures c.rows_at-a.ensures c.put_house.ensures;
      base_holds = chain.base_holds_lem _ _ (set_told (goal.at.returns c).After-rows_at-a) c.section_at-b.ensures;
      ruby_holds = chain.ruby_holds_lem _ _ (base-told (goal.at.returns c).After-section_at-b) c.section_at-c.ensures;
      left_holds = chain.left_holds_lem _ _ (begun (goal.at.returns c).After-left_head-g) c.rows_at-l.ensures;
      elem_holds = e.rows;
      runs_hold = e.right;
      lruns_hold = e.left;
    }
