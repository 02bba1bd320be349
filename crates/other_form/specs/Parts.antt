-- A sheet's lines cut and put together anew: the three parts that both forms have, between the lines that only one of them has.
use Rattle.std.specs.Prelude.{List, ◌++◌, ◌≡◌, ℕ, ◌+◌, ◌-◌, ◌≤◌, length, take, drop}
use Rattle.std.proofs.Math.Path.{sym}
use Rattle.std.proofs.Common.{arith, length-append, length-take, length-drop}
use Rattle.sheet.specs.declared.Counts.{Counts}
use Rattle.other_form.specs.declared.Cuts.{Cuts}
use Rattle.other_form.specs.Bytes.{past_lines}

-- the bytes from one place up to another
abbrev pub part : ℕ → ℕ → List ℕ → List ℕ
part from upto s = take (upto - from) (drop from s)

-- behind the first line two lines; behind x bytes the sections `base` and `ruby`, each after its first line; behind y bytes the first line of `elem`
unfoldable pub cuts_of : List ℕ → Counts → ℕ → ℕ → Cuts
unfolding past_lines
cuts_of s n x y =
    let a = past_lines 2 (drop 6 s) 6 in
    let b = past_lines (n.bases + n.rubies + 2) (drop (a + x) s) (a + x) in
    record { a = a; a2 = a + x; b = b; b2 = b + y; c = past_lines 1 (drop (b + y) s) (b + y) }

module _ (s : List ℕ) (n : Counts) (x y a b : ℕ) (first : a ≡ past_lines 2 (drop 6 s) 6) (second : b ≡ past_lines (n.bases + n.rubies + 2) (drop (a + x) s) (a + x)) where
  pub cut-a : (cuts_of s n x y).a ≡ a
  unfolding cuts_of
  cut-a = sym first

  pub cut-b : (cuts_of s n x y).b ≡ b
  unfolding cuts_of
  cut-b = rw (← first, ← second)

  pub cuts_are : (c : ℕ) → c ≡ past_lines 1 (drop (b + y) s) (b + y) → record { a = a; a2 = a + x; b = b; b2 = b + y; c = c } ≡ cuts_of s n x y
  unfolding cuts_of
  cuts_are c third = rw (← first, ← second, ← third)

-- the parts, each behind a word
unfoldable pub parts_text : Cuts → List ℕ → List ℕ → List ℕ → List ℕ → List ℕ
parts_text k s first house left = first ++ (part 6 k.a s ++ (house ++ (part k.a2 k.b s ++ (left ++ part k.b2 k.c s))))

-- how long they are
pub length_part : (from upto : ℕ) (s : List ℕ) → from ≤ upto → upto ≤ length s → length (part from upto s) ≡ upto - from
length_part from upto s h l = simp (length-take, length-drop) (omega arith)

pub length-parts : (k : Cuts) (s first house left : List ℕ) →
    length (parts_text k s first house left) ≡ length first + (length (part 6 k.a s) + (length house + (length (part k.a2 k.b s) + (length left + length (part k.b2 k.c s)))))
unfolding parts_text
length-parts k s first house left = simp length-append

pub ruleset cut_steps = (cut-a, cut-b, cuts_are)
