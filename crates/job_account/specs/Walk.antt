-- All lines, one after the other: what is told and what the lines from here on add make up the whole; and their extents, copied.
use Rattle.std.specs.Prelude.{◌≡◌, refl, Bool, true, false, cond, List, [], ◌∷◌, ◌++◌, ℕ, zero, suc, ◌+◌, ◌-◌, ◌*◌, ◌^◌, ◌≤◌, ◌<◌, ltb, length, take, drop, get_or, set}
use Rattle.std.proofs.Common.{sym, ap, ap₂, ◌∙◌, subst, zero-le, add-one, arith, length-append, length-set, drop_of_length-le, drop-cons, get_or-take, length-take-le}
use Rattle.std.proofs.lemmas.List.Edits.{sets}
use Rattle.std.proofs.Math.Seq.{length-sets}
use Rattle.basics.specs.Laws.{sets_append}
use Rattle.line.specs.declared.State.{State}
use Rattle.line.specs.Setting.{start}
use Rattle.cells.specs.Rows.{Rows}
use Rattle.cells.specs.Cells.{cell_at, stop}
use Rattle.cells.specs.Sound.{Sound}
use Rattle.account.specs.declared.Before.{Before}
use Rattle.account.specs.Step.{nothing}
use Rattle.job_account.specs.declared.Place.{Place}
use Rattle.job_account.specs.Rows.{row}
use Rattle.job_account.specs.Table.{told_at, ended, rows_from, line_rows, pieces_from, pieces_in, first, behind, rows_by, counts_by}
use Rattle.job_account.specs.Line.{LineReady, pieces-few, ended-few}

-- lines from s on, one after the other in m rows
abbrev pub Chained : ℕ → ℕ → List ℕ → Type 0
Chained m s [] = Unit
Chained m s (e ∷ es) = (s < e) × (e ≤ m) × Chained m e es

-- `ends` has at its front the ends of n lines of a sound table, and the lists have six places for each of its rows and one for each line.
pub record LinesReady (t : Rows) (n : ℕ) (ends rows told : List ℕ) : Type 0 where
  pub m : ℕ
  pub sound : Sound t m
  pub held : n ≤ length ends
  pub few : n ≤ 1024
  pub lines : Chained m 0 (take n ends)
  pub room : 6 * m ≤ length rows
  pub room_told : n ≤ length told

-- six numbers for each piece
rows_long : (t : Rows) (ks : List ℕ) (k n : ℕ) (st : State) (b : Before) (i e : ℕ) → length (rows_from t ks k n st b i e) ≡ 6 * pieces_from t n i e
unfolding rows_from pieces_from
rows_long t ks k zero st b i e = refl
rows_long t ks k (suc n) st b i e =
    let r = told_at t i (stop t i e) st (length ks) b in
    go (ltb i e) (row (λ j. get_or ks j 0) k r.start r.account) (rows_from t (ks ++ (k ∷ [])) (k + ended t i e) n r.st r.before (i + (cell_at t i).bases) e)
    (pieces_from t n (i + (cell_at t i).bases) e) refl (rows_long t (ks ++ (k ∷ [])) (k + ended t i e) n r.st r.before (i + (cell_at t i).bases) e)
  where
    go : (p : Bool) (xs ys : List ℕ) (z : ℕ) → length xs ≡ 6 → length ys ≡ 6 * z → length (cond p (xs ++ ys) []) ≡ 6 * cond p (suc z) 0
    go true xs ys z h l = omega (arith, length-append xs ys)
    go false xs ys z h l = refl

-- Before line l, which begins at base character s.
pub record Going (t : Rows) (n : ℕ) (ends was wasTold : List ℕ) (at : Place) (s l : ℕ) (rows told : List ℕ) : Type 0 where
  pub ready : LinesReady t n ends was wasTold
  pub lines : Chained ready.m s (drop l (take n ends))
  pub index : at.k ≤ s
  pub few : at.q ≤ s
  pub accounts : sets rows (6 * at.q) (rows_by t at s (drop l (take n ends))) ≡ sets was 0 (rows_by t first 0 (take n ends))
  pub counts : sets told l (counts_by t at s (drop l (take n ends))) ≡ sets wasTold 0 (counts_by t first 0 (take n ends))
  pub long : length rows ≡ length was
  pub long_told : length told ≡ length wasTold

pub going_first : {t : Rows} {n : ℕ} {ends was wasTold : List ℕ} → LinesReady t n ends was wasTold → Going t n ends was wasTold first 0 0 was wasTold
going_first ready = record { ready = ready; lines = ready.lines; index = zero-le; few = zero-le; accounts = refl; counts = refl; long = refl; long_told = refl }

module _ {t : Rows} {n : ℕ} {ends was wasTold : List ℕ} {at : Place} {s l : ℕ} {rows told : List ℕ} (going : Going t n ends was wasTold at s l rows told) where
  abbrev ready : LinesReady t n ends was wasTold
  ready = going.ready

  abbrev es : List ℕ
  es = take n ends

  many : length (take n ends) ≡ n
  many = length-take-le n ends ready.held

  module _ (h : l < n) where
    abbrev e : ℕ
    e = get_or ends l 0

    split : drop l es ≡ e ∷ drop (suc l) es
    split = drop-cons es l 0 (omega (arith, many)) ∙ ap (λ (x : ℕ). x ∷ drop (suc l) es) (get_or-take n ends l 0 h)

    chained : Chained ready.m s (e ∷ drop (suc l) es)
    chained = subst (λ xs. Chained ready.m s xs) split going.lines

    pub line-ready : LineReady t s e at rows
    line-ready =
        record {
          n = ready.m;
          sound = ready.sound;
          ahead = chained.0;
          within = chained.1;
          index = going.index;
          few = going.few;
          room = omega (arith, ready.room, going.long);
        }

    pub place : l < length told
    place = omega (arith, ready.room_told, going.long_told)

    module _ {next : Place} {rows2 : List ℕ} (line : (next ≡ behind t s e at) × (rows2 ≡ sets rows (6 * at.q) (line_rows t at.k s e))) where
      next-few : (next.k ≤ e) × (next.q ≤ e)
      next-few =
          let k = ap (λ z. z.k) line.0 in
          let q = ap (λ z. z.q) line.0 in
          (omega (arith, k, ended-few t (e - s) s e, going.index, chained.0), omega (arith, q, pieces-few t (e - s) s e, going.few, chained.0))

      pub count_small : next.q < 2 ^ 32
      count_small = omega (arith, next-few.1, chained.1, ready.sound.few)

      pub going_next : Going t n ends was wasTold next e (l + 1) rows2 (set told l next.q)
      going_next =
          rw (add-one l) (record {
            ready = ready;
            lines = chained.2;
            index = next-few.0;
            few = next-few.1;
            accounts =
                ap₂ (λ o (z : Place). sets o (6 * z.q) (rows_by t z e (drop (suc l) es))) line.1 line.0
                ∙ ap (λ k. sets (sets rows (6 * at.q) (line_rows t at.k s e)) k (rows_by t (behind t s e at) e (drop (suc l) es))) six
                ∙ sym (sets_append rows (line_rows t at.k s e) (rows_by t (behind t s e at) e (drop (suc l) es)) (6 * at.q))
                ∙ ap (λ xs. sets rows (6 * at.q) (rows_by t at s xs)) (sym split)
                ∙ going.accounts;
            counts =
                ap (λ (z : Place). sets told l (z.q ∷ counts_by t z e (drop (suc l) es))) line.0
                ∙ ap (λ xs. sets told l (counts_by t at s xs)) (sym split)
                ∙ going.counts;
            long = ap length line.1 ∙ length-sets rows (6 * at.q) (line_rows t at.k s e) ∙ going.long;
            long_told = length-set told l next.q ∙ going.long_told;
          })
        where
          six : 6 * (at.q + pieces_in t s e) ≡ 6 * at.q + length (line_rows t at.k s e)
          six = omega (arith, rows_long t [] at.k (e - s) start nothing s e)

  -- after the last line all is told
  pub going_end : n ≤ l → (rows ≡ sets was 0 (rows_by t first 0 es)) × (told ≡ sets wasTold 0 (counts_by t first 0 es))
  going_end h =
      let past : length es ≤ l = omega (arith, many) in
      let none : drop l es ≡ [] = drop_of_length-le es past in (
        ap (λ xs. sets rows (6 * at.q) (rows_by t at s xs)) (sym none) ∙ going.accounts,
        ap (λ xs. sets told l (counts_by t at s xs)) (sym none) ∙ going.counts,
      )
