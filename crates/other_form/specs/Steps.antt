-- One step of each definition of Bytes, for the code; and what is left to write, from which a loop that writes piece by piece takes one piece at a time.
use Rattle.std.specs.Prelude.{Bool, true, false, cond, List, [], ◌∷◌, ◌++◌, ◌≡◌, refl, ℕ, zero, suc, ◌+◌, ◌-◌, ◌≤◌, ◌<◌, eqb, length, get_or, drop}
use Rattle.std.proofs.Common.{◌∙◌, ap, sym, add-zero, arith, eq-eqb, ne_eqb, length-append, drop_of_length-le, get_or-drop}
use Rattle.std.proofs.lemmas.List.Edits.{sets}
use Rattle.std.proofs.lemmas.Bool.Decides.{nat_tests}
use Rattle.basics.specs.Laws.{sets_append}
use Rattle.text.specs.Print.{Wrote}
use Rattle.text.specs.Places.{drop_at}
use Rattle.text.specs.Written.{same-long}
use Rattle.other_form.specs.Bytes.{past_lines, on_by, letters_on, off_by, letters_off}

-- lines counted
pub past-step : (s : List ℕ) (k at : ℕ) → 0 < k → at < length s → past_lines k (drop at s) at ≡ past_lines (cond (eqb (get_or s at 0) 10) (k - 1) k) (drop (at + 1) s) (at + 1)
unfolding past_lines
past-step s k at h l =
    let f : k ≡ suc (k - 1) = omega arith in
    ap (λ q. past_lines q (drop at s) at) f ∙ rw (drop_at s at l) (go (eqb (get_or s at 0) 10) f)
  where
    go : (t : Bool) → k ≡ suc (k - 1) →
        cond t (past_lines (k - 1) (drop (at + 1) s) (at + 1)) (past_lines (suc (k - 1)) (drop (at + 1) s) (at + 1)) ≡ past_lines (cond t (k - 1) k) (drop (at + 1) s) (at + 1)
    go true f = refl
    go false f = ap (λ q. past_lines q (drop (at + 1) s) (at + 1)) (sym f)

pub past-none : (s : List ℕ) (k at : ℕ) → k ≡ 0 → at ≡ past_lines k (drop at s) at
unfolding past_lines
past-none s k at e = rw e

pub past_end : (s : List ℕ) (k at : ℕ) → length s ≤ at → at ≡ past_lines k (drop at s) at
unfolding past_lines
past_end s k at h = rw (drop_of_length-le s h) (go k)
  where
    go : (k : ℕ) → at ≡ past_lines k [] at
    go zero = refl
    go (suc k) = refl

-- a byte with the letter, by what it is
pub on-other : (last b : ℕ) → (b ≡ 10 → ⊥) → on_by last b ≡ b ∷ []
on-other last b h = rw (ne_eqb b 10 h)

pub on-plain : (last b : ℕ) → b ≡ 10 → last ≡ 80 → on_by last b ≡ 10 ∷ []
on-plain last b e f = rw (eq-eqb b 10 e, eq-eqb last 80 f)

pub on-letter : (last b : ℕ) → b ≡ 10 → (last ≡ 80 → ⊥) → on_by last b ≡ 32 ∷ 78 ∷ 10 ∷ []
on-letter last b e f = rw (eq-eqb b 10 e, ne_eqb last 80 f)

pub on_step : (s : List ℕ) (last at : ℕ) → at < length s → letters_on last (drop at s) ≡ on_by last (get_or s at 0) ++ letters_on (get_or s at 0) (drop (at + 1) s)
unfolding letters_on
on_step s last at h = rw (drop_at s at h)

pub on_end : (s : List ℕ) (last at : ℕ) → length s ≤ at → letters_on last (drop at s) ≡ []
unfolding letters_on
on_end s last at h = rw (drop_of_length-le s h)

-- and without it
pub off-letter : (b next : ℕ) → b ≡ 78 → off_by b next ≡ []
off-letter b next e = rw (eq-eqb b 78 e)

pub off-other : (b next : ℕ) → (b ≡ 78 → ⊥) → (b ≡ 32 → ⊥) → off_by b next ≡ b ∷ []
off-other b next h g = rw (ne_eqb b 78 h, ne_eqb b 32 g)

pub off-before : (b next : ℕ) → b ≡ 32 → next ≡ 78 → off_by b next ≡ []
off-before b next e f = rw (e, eq-eqb next 78 f)

pub off-space : (b next : ℕ) → b ≡ 32 → (next ≡ 78 → ⊥) → off_by b next ≡ 32 ∷ []
off-space b next e f = rw (e, ne_eqb next 78 f)

pub off-step : (s : List ℕ) (at : ℕ) → at < length s → letters_off (drop at s) ≡ off_by (get_or s at 0) (get_or s (at + 1) 0) ++ letters_off (drop (at + 1) s)
unfolding letters_off
off-step s at h =
    let e : get_or (drop (at + 1) s) 0 0 ≡ get_or s (at + 1) 0 = rw (get_or-drop, add-zero) in
    rw (drop_at s at h, e)

pub off-end : (s : List ℕ) (at : ℕ) → length s ≤ at → letters_off (drop at s) ≡ []
unfolding letters_off
off-end s at h = rw (drop_of_length-le s h)

-- From the place p on `rest` is left to write into u, so that t holds `all` from the place `to` on.
pub record ToWrite (t : List ℕ) (to : ℕ) (all : List ℕ) (u : List ℕ) (p : ℕ) (rest : List ℕ) : Type 0 where
  pub place : p + length rest ≡ to + length all
  pub holds : sets t to all ≡ sets u p rest
  pub same : length u ≡ length t

pub write_all : (t : List ℕ) (to : ℕ) (all : List ℕ) → ToWrite t to all t to all
write_all t to all = record { place = refl; holds = refl; same = refl }

pub write_step : {t : List ℕ} {to : ℕ} {all u : List ℕ} {p : ℕ} {v : List ℕ} {q : ℕ} (now xs rest : List ℕ) → now ≡ xs ++ rest → ToWrite t to all u p now → Wrote u p xs q v → ToWrite t to all v q rest
write_step {t} {to} {all} {u} {p} {v} {q} now xs rest e w x =
    record {
      place = omega (arith, w.place, x.next, ap length e, length-append xs rest);
      holds = w.holds ∙ ap (λ l. sets u p l) e ∙ sets_append u xs rest p ∙ rw (x.holds, x.next);
      same = same-long x ∙ w.same;
    }

pub write_done : {t : List ℕ} {to : ℕ} {all u : List ℕ} {p : ℕ} (now : List ℕ) → now ≡ [] → ToWrite t to all u p now → Wrote t to all p u
write_done {t} {to} {all} {u} {p} now e w = record { next = omega (arith, w.place, ap length e); holds = sym (w.holds ∙ ap (λ l. sets u p l) e) }

-- nothing written
pub wrote_none : (t : List ℕ) (at : ℕ) (xs : List ℕ) → xs ≡ [] → Wrote t at xs at t
wrote_none t at xs e = record { next = omega (arith, ap length e); holds = sym (ap (λ l. sets t at l) e) }

pub ruleset past_steps = (past-step, past-none, past_end, nat_tests)

pub ruleset on_cases = (on-other, on-plain, on-letter)

pub ruleset off_cases = (off-letter, off-other, off-before, off-space, wrote_none)

pub ruleset on_steps = (on_step, on_end, write_all, write_step, write_done, length-append)

pub ruleset off_steps = (off-step, off-end, write_all, write_step, write_done, length-append)
