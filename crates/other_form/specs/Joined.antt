-- The parts of a sheet, cut and put together anew, are the other sheet: what `cuts_of` finds are the places where its parts stand, and the words between them and the letters are what the other form
-- has there.
use mathlib.Core.List.{List, [], ◌++◌, append_assoc}
use Rattle.std.specs.Prelude.{◌≡◌, refl, Bool, true, false, ℕ, ◌+◌, ◌≤◌, eqb, length, get_or, drop}
use Rattle.std.proofs.Common.{◌∙◌, subst, true≢false, arith, eq-eqb, ne_eqb, length-append}
use Rattle.std.proofs.Math.Path.{ap, sym}
use Rattle.text.specs.Print.{bytes, Wrote}
use Rattle.text.specs.Written.{then, same-long}
use Rattle.elements.specs.declared.SheetForm.{SheetForm}
use Rattle.elements.specs.declared.SheetForm.TheVariants.{One, Two}
use Rattle.elements.specs.Print.{elements_text}
use Rattle.sheet.specs.declared.Counts.{Counts}
use Rattle.sheet.specs.Sheet.{reading}
use Rattle.sheet.specs.Form.{Written, InForm, sheet_text, written_of}
use Rattle.other_form.specs.declared.Cuts.{Cuts}
use Rattle.other_form.specs.Other.{other, other_text, Holds}
use Rattle.other_form.specs.Bytes.{past_lines, letters_on, letters_off}
use Rattle.other_form.specs.Lines.{past-stands, stands-part, on-elements, off-elements}
use Rattle.other_form.specs.Text.{numbers_part, rows_part, head_part, plain_text, none_text, text-one, text-two}
use Rattle.other_form.specs.Known.{known, Parts, numbers-passes, rows_part-passes, head_part-passes, one-parts, two-parts}
use Rattle.other_form.specs.Parts.{parts_text, cuts_of, cut-a, cut-b, cuts_are}
use Rattle.other_form.specs.Ready.{CutsReady, PartsReady, OtherReady, SheetReady}

-- what a call with the cuts k, and a room for `all`, asks for
pub record Cutting (s : List ℕ) (k : Cuts) (first house left all last : List ℕ) : Type 0 where
  pub order1 : 6 ≤ k.a
  pub order2 : k.a2 ≤ k.b
  pub order3 : k.b2 ≤ k.c
  pub within1 : k.a ≤ length s
  pub within2 : k.b ≤ length s
  pub within3 : k.c ≤ length s
  pub text : parts_text k s first house left ≡ all
  pub rest : drop k.c s ≡ last

module _ {x y : ℕ} {s : List ℕ} {r : Written} {last : List ℕ} (p : Parts x y s r last) {f : SheetForm} (form : InForm f r) (n : Counts) (bases : n.bases ≡ length r.base)
    (rubies : n.rubies ≡ length r.ruby) where
  a-is : p.a ≡ past_lines 2 (drop 6 s) 6
  a-is = sym (past-stands (numbers-passes r) p.numbers)

  b-is : p.b ≡ past_lines (n.bases + n.rubies + 2) (drop (p.a + x) s) (p.a + x)
  b-is = sym (past-stands (rows_part-passes r form (n.bases + n.rubies + 2) (omega arith)) p.rows)

  c-is : p.c ≡ past_lines 1 (drop (p.b + y) s) (p.b + y)
  c-is = sym (past-stands (head_part-passes r) p.head)

  cuts : record { a = p.a; a2 = p.a + x; b = p.b; b2 = p.b + y; c = p.c } ≡ cuts_of s n x y
  cuts = cuts_are s n x y p.a p.b a-is b-is p.c c-is

  order : (6 ≤ p.a) × (p.a + x ≤ p.b) × (p.b + y ≤ p.c) × (p.c ≤ length s)
  order = (omega (arith, p.numbers.past), omega (arith, p.rows.past), omega (arith, p.head.past), omega (arith, p.size))

  pub cuts-ready : length s ≤ 65535 → CutsReady s n x y
  cuts-ready h =
      let o = order in
      record {
        few = omega (arith, form.base.few, form.ruby.few);
        small = h;
        first = omega arith;
        second = omega (arith, cut-a s n x y p.a p.b a-is b-is);
        third = omega (arith, cut-b s n x y p.a p.b a-is b-is);
      }

  pub cutting : (k : Cuts) (first house left : List ℕ) → k ≡ cuts_of s n x y →
      Cutting s k first house left (first ++ (numbers_part r ++ (house ++ (rows_part r ++ (left ++ head_part r))))) last
  unfolding parts_text
  cutting k first house left e =
      let o = order in
      rw (e, ← cuts)
      (record {
        order1 = o.0;
        order2 = o.1;
        order3 = o.2;
        within1 = omega arith;
        within2 = omega arith;
        within3 = o.3;
        text = rw (stands-part p.numbers, stands-part p.rows, stands-part p.head);
        rest = p.lines;
      })

pub parts-ready : {s : List ℕ} {k : Cuts} {first house left all last out : List ℕ} → Cutting s k first house left all last → length all ≤ length out → PartsReady k s first house left out
parts-ready c h =
    record {
      order1 = c.order1;
      order2 = c.order2;
      order3 = c.order3;
      within1 = c.within1;
      within2 = c.within2;
      within3 = c.within3;
      room = omega (arith, ap length c.text);
    }

-- a head h and lines t, written one after the other
pub record Halves (h t all : List ℕ) : Type 0 where
  pub joined : h ++ t ≡ all

module _ (out : List ℕ) {h t all : List ℕ} (halves : Halves h t all) (room : length all ≤ length out) where
  pub head-room : length h ≤ length out
  head-room = omega (arith, ap length halves.joined, length-append h t)

  module _ {parts u : List ℕ} {p : ℕ} (head : Wrote out 0 parts p u) (is : parts ≡ h) where
    pub lines-room : p + length t ≤ length u
    lines-room = omega (arith, ap length halves.joined, length-append h t, ap length is, head.next, same-long head)

    pub both_wrote : {v : List ℕ} {q : ℕ} → Wrote u p t q v → Wrote out 0 all q v
    both_wrote {v} {q} lines = subst (λ l. Wrote out 0 l q v) (ap (λ l. l ++ t) is ∙ halves.joined) (then head lines)

-- heads and lines joined otherwise
module _ (a n h b l e t : List ℕ) where
  join-two : (a ++ (n ++ (h ++ (b ++ (l ++ e))))) ++ t ≡ a ++ (n ++ (h ++ (b ++ (l ++ (e ++ t)))))
  join-two = simp append_assoc

  join_one : (a ++ (n ++ (b ++ e))) ++ t ≡ a ++ (n ++ (b ++ (e ++ t)))
  join_one = simp append_assoc

-- the other form of a sheet whose form is known
pub other-one : (s : List ℕ) → (reading s).form ≡ One → other_text s ≡ sheet_text Two (written_of (reading s))
unfolding other_text other
other-one s e = ap (λ f. sheet_text (other f) (written_of (reading s))) e

pub other-two : (s : List ℕ) → (reading s).form ≡ Two → other_text s ≡ sheet_text One (written_of (reading s))
unfolding other_text other
other-two s e = ap (λ f. sheet_text (other f) (written_of (reading s))) e

-- what form two has before the lines of `elem`, and what form one has there
unfoldable pub head_two : Written → List ℕ
unfolding numbers_part rows_part head_part
head_two r = bytes "set 9\n" ++ (numbers_part r ++ (plain_text ++ (rows_part r ++ (none_text ++ head_part r))))

unfoldable pub head_one : Written → List ℕ
unfolding numbers_part rows_part head_part
head_one r = bytes "set 2\n" ++ (numbers_part r ++ (rows_part r ++ head_part r))

-- form one in form two
module _ {s : List ℕ} {n : Counts} {out : List ℕ} (q : SheetReady One s n out) where
  abbrev r : Written
  r = written_of (reading s)

  form-one : InForm One r
  form-one = subst (λ f. InForm f r) q.form (known q.ready.sound).form

  bytes_one : s ≡ sheet_text One r
  bytes_one = subst (λ f. s ≡ sheet_text f r) q.form (known q.ready.sound).text

  pub two_ready : CutsReady s n 0 0
  two_ready =
      let k = known q.ready.sound in
      cuts-ready (one-parts s r bytes_one) form-one n k.bases k.rubies (omega (arith, ap length bytes_one, form-one.short))

  pub two-cutting : {k : Cuts} → k ≡ cuts_of s n 0 0 → Cutting s k (bytes "set 9\n") plain_text none_text (head_two r) (elements_text One r.elem)
  unfolding head_two
  two-cutting {k} e =
      let w = known q.ready.sound in
      cutting (one-parts s r bytes_one) form-one n w.bases w.rubies k (bytes "set 9\n") plain_text none_text e

  pub two-joined : {t : List ℕ} → t ≡ elements_text One r.elem → Halves (head_two r) (letters_on 10 t) (other_text s)
  unfolding head_two
  two-joined {t} e = record {
    joined = ap (λ l. head_two r ++ l) (ap (λ t. letters_on 10 t) e ∙ on-elements r.elem form-one.elem.fit)
        ∙ join-two (bytes "set 9\n") (numbers_part r) plain_text (rows_part r) none_text (head_part r) (elements_text Two r.elem)
        ∙ sym (other-one s q.form ∙ text-two r q.ready.holds.house q.ready.holds.left);
  }

-- form two in form one
module _ {s : List ℕ} {n : Counts} {out : List ℕ} (q : SheetReady Two s n out) where
  abbrev w : Written
  w = written_of (reading s)

  form-two : InForm Two w
  form-two = subst (λ f. InForm f w) q.form (known q.ready.sound).form

  bytes-two : s ≡ sheet_text Two w
  bytes-two = subst (λ f. s ≡ sheet_text f w) q.form (known q.ready.sound).text

  two : Parts 14 7 s w (elements_text Two w.elem)
  two = two-parts s w q.ready.holds.house q.ready.holds.left bytes-two

  pub one-ready : CutsReady s n 14 7
  one-ready =
      let k = known q.ready.sound in
      cuts-ready two form-two n k.bases k.rubies (omega (arith, ap length bytes-two, form-two.short))

  pub one-cutting : {k : Cuts} → k ≡ cuts_of s n 14 7 → Cutting s k (bytes "set 2\n") [] [] (head_one w) (elements_text Two w.elem)
  unfolding head_one
  one-cutting {k} e =
      let v = known q.ready.sound in
      cutting two form-two n v.bases v.rubies k (bytes "set 2\n") [] [] e

  pub one-joined : {t : List ℕ} → t ≡ elements_text Two w.elem → Halves (head_one w) (letters_off t) (other_text s)
  unfolding head_one
  one-joined {t} e = record {
    joined = ap (λ l. head_one w ++ l) (ap letters_off e ∙ off-elements w.elem q.ready.holds.letters)
        ∙ join_one (bytes "set 2\n") (numbers_part w) [] (rows_part w) [] (head_part w) (elements_text One w.elem)
        ∙ sym (other-two s q.form ∙ text-one w);
  }

-- which form it is: "Form two begins with `set 9`"
abbrev pub is_two : SheetForm → Bool
is_two One = false
is_two Two = true

told : (f : SheetForm) (r : Written) → Holds r → eqb (get_or (sheet_text f r) 4 0) 57 ≡ is_two f
told One r h = ap (λ l. eqb (get_or l 4 0) 57) (text-one r)
told Two r h = ap (λ l. eqb (get_or l 4 0) 57) (text-two r h.house h.left)

pub form-told : {s : List ℕ} {n : Counts} {out : List ℕ} → OtherReady s n out → eqb (get_or s 4 0) 57 ≡ is_two (reading s).form
form-told {s} q = ap (λ l. eqb (get_or l 4 0) 57) (known q.sound).text ∙ told (reading s).form (written_of (reading s)) q.holds

pub is_two_lem : {s : List ℕ} {n : Counts} {out : List ℕ} → OtherReady s n out → get_or s 4 0 ≡ 57 → SheetReady Two s n out
is_two_lem {s} {n} {out} q e = go (reading s).form refl (sym (eq-eqb (get_or s 4 0) 57 e) ∙ form-told q)
  where
    go : (f : SheetForm) → (reading s).form ≡ f → true ≡ is_two (reading s).form → SheetReady Two s n out
    go One i h = absurd (true≢false (h ∙ ap is_two i))
    go Two i h = record { form = i; ready = q }

pub is_one : {s : List ℕ} {n : Counts} {out : List ℕ} → OtherReady s n out → (get_or s 4 0 ≡ 57 → ⊥) → SheetReady One s n out
is_one {s} {n} {out} q e = go (reading s).form refl (sym (ne_eqb (get_or s 4 0) 57 e) ∙ form-told q)
  where
    go : (f : SheetForm) → (reading s).form ≡ f → false ≡ is_two (reading s).form → SheetReady One s n out
    go One i h = record { form = i; ready = q }
    go Two i h = absurd (true≢false (sym (h ∙ ap is_two i)))
