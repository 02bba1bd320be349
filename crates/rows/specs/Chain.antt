-- Sections of numbers one after the other, each given by its word, the numbers in a line, its maximum and its place in a refusal 2 (documents 01 and 02, "Sections in a fixed order"). What
-- `Printed` and `Breaks` say of one section holds of a chain of any of them: read exactly where its text stands (`chain-is`, `stands-chain`), refused with 2 exactly where a count over its maximum
-- is the first fault (`over-chain`), and with 13 by the line on which the form is broken (`stuck-chain`).
use Rattle.std.specs.Prelude.{List, [], ◌∷◌, ◌++◌, ◌≡◌, refl, ℕ, ◌+◌, ◌≤◌, ◌<◌, length, Err, Result}
use Rattle.std.proofs.Common.{◌∙◌, ap, sym, subst, add-zero, arith}
use Rattle.basics.specs.Lists.{All}
use Rattle.refusal.specs.declared.Refusal.{Refusal}
use Rattle.refusal.specs.declared.Refusal.TheVariants.{Form, Count}
use Rattle.text.specs.Text.{most}
use Rattle.text.specs.Stands.{Stands, stands-none, stands-then, stands-cut}
use Rattle.rows.specs.declared.Part.{Part}
use Rattle.rows.specs.Read.{Read}
use Rattle.rows.specs.Section.{on_part, Rows, head_of, rows_of, section}
use Rattle.rows.specs.Print.{section_text, Kept, Counted}
use Rattle.rows.specs.Printed as rows
use Rattle.rows.specs.Printed.{SectionIs, section-is, stands-section, over-section}
use Rattle.rows.specs.Breaks.{SectionBreaks, section-stuck, stuck-section, section-place}

pub record Section : Type 0 where
  pub word : List ℕ
  pub wide : ℕ
  pub top : ℕ
  pub which : ℕ

-- what is read of each, and how the reading ended
pub record Chained : Type 0 where
  pub tables : List (List (List ℕ))
  pub end : Result Part Refusal

abbrev pub section_by : Section → List ℕ → Result Part Refusal → Rows
section_by x s last = section x.word x.wide x.top x.which s last

-- each section begins where the one before it ended
unfoldable pub chain : List Section → List ℕ → Result Part Refusal → Chained
unfolding rows_of head_of
chain [] s last = record { tables = []; end = last }
chain (x ∷ xs) s last =
    record {
      tables = (section_by x s last).rows ∷ (chain xs s (section_by x s last).end).tables;
      end = (chain xs s (section_by x s last).end).end;
    }

-- the sections as text, and how many lines that is
unfoldable pub chain_text : List Section → List (List (List ℕ)) → List ℕ
unfolding section_text
chain_text (x ∷ xs) (t ∷ ts) = section_text x.word t ++ chain_text xs ts
chain_text (x ∷ xs) [] = []
chain_text [] ts = []

abbrev pub lines_in : List (List (List ℕ)) → ℕ
lines_in [] = 0
lines_in (t ∷ ts) = 1 + length t + lines_in ts

-- rows that the sections can have
unfoldable pub ChainKept : List Section → List (List (List ℕ)) → Type 0
ChainKept [] [] = Unit {0}
ChainKept (x ∷ xs) (t ∷ ts) = Kept x.wide x.top t × ChainKept xs ts
ChainKept [] (t ∷ ts) = ⊥
ChainKept (x ∷ xs) [] = ⊥

-- From the place `at` on, a count over its maximum is the first fault, of a section with the place `which`: the sections before it stand, and so does its own word with the count.
pub data ChainOver (s : List ℕ) : List Section → ℕ → ℕ → Type 0 where
  here : (x : Section) (xs : List Section) (at n next : ℕ) → Counted x.word s at n next → x.top < n → ChainOver s (x ∷ xs) at x.which
  behind : (x : Section) (xs : List Section) (at which : ℕ) (t : List (List ℕ)) (p : ℕ) → Kept x.wide x.top t → Stands s at (section_text x.word t) p → ChainOver s xs p which →
      ChainOver s (x ∷ xs) at which

-- From there on, where the line has the number `line`, the form is broken on line l: the sections before it stand.
pub data ChainBreaks (s : List ℕ) (l : ℕ) : List Section → ℕ → ℕ → Type 0 where
  here : (x : Section) (xs : List Section) (at line : ℕ) → SectionBreaks x.word x.wide x.top s at line l → ChainBreaks s l (x ∷ xs) at line
  behind : (x : Section) (xs : List Section) (at line : ℕ) (t : List (List ℕ)) (p : ℕ) → Kept x.wide x.top t → Stands s at (section_text x.word t) p →
      ChainBreaks s l xs p (line + 1 + length t) → ChainBreaks s l (x ∷ xs) at line

-- a refusal is handed on
pub section_handed : (w : List ℕ) (k top which : ℕ) (s : List ℕ) (last : Result Part Refusal) (q : Refusal) → last ≡ Err q → (section w k top which s last).end ≡ Err q
unfolding rows_of head_of on_part
section_handed w k top which s last q e = rw e

pub chain_handed : (xs : List Section) (s : List ℕ) (last : Result Part Refusal) (q : Refusal) → last ≡ Err q → (chain xs s last).end ≡ Err q
unfolding chain
chain_handed [] s last q e = e
chain_handed (x ∷ xs) s last q e = chain_handed xs s (section_by x s last).end q (section_handed x.word x.wide x.top x.which s last q e)

-- a chain as it was read: its form is broken, or a count is over its maximum, or it stands there
pub data ChainIs (xs : List Section) (s : List ℕ) (at line : ℕ) (c : Chained) : Type 0 where
  broken : (l : ℕ) → ChainBreaks s l xs at line → c.end ≡ Err (Form l) → ChainIs xs s at line c
  over : (which : ℕ) → ChainOver s xs at which → c.end ≡ Err (Count which) → ChainIs xs s at line c
  stands : (n next : ℕ) → ChainKept xs c.tables → Stands s at (chain_text xs c.tables) next → c.end ≡ Read n next (line + lines_in c.tables) → ChainIs xs s at line c

-- the maxima are numbers that a sheet can show
abbrev pub Tops : List Section → Type 0
Tops xs = All (λ (x : Section). x.top ≤ most) xs

count-lines : (a b c : ℕ) → a + 1 + b + c ≡ a + (1 + b + c)
count-lines a b c = omega arith

-- what stands before the rest of a chain
more-is : (x : Section) (xs : List Section) (s : List ℕ) (at line : ℕ) (t : List (List ℕ)) (p : ℕ) → Kept x.wide x.top t → Stands s at (section_text x.word t) p → (c : Chained) →
    ChainIs xs s p (line + 1 + length t) c → ChainIs (x ∷ xs) s at line (record { tables = t ∷ c.tables; end = c.end })
unfolding chain_text ChainKept
more-is x xs s at line t p k y c (broken l b e) = broken l (behind x xs at line t p k y b) e
more-is x xs s at line t p k y c (over which o e) = over which (behind x xs at which t p k y o) e
more-is x xs s at line t p k y c (stands n next j z e) =
    stands n next (k, j) (stands-then y z) (e ∙ ap (λ i. Read n next i) (count-lines line (length t) (lines_in c.tables)))

first-is : (x : Section) (xs : List Section) (s : List ℕ) (m at line : ℕ) → x.top ≤ most → ((n p i : ℕ) → ChainIs xs s p i (chain xs s (Read n p i))) →
    SectionIs x.word x.wide x.top x.which s at (section_by x s (Read m at line)) → ChainIs (x ∷ xs) s at line (chain (x ∷ xs) s (Read m at line))
unfolding chain
first-is x xs s m at line h rest (rows.SectionIs.broken l e) =
    broken l (here x xs at line (section-stuck x.word x.wide x.top x.which s m at line l e)) (chain_handed xs s (section_by x s (Read m at line)).end (Form l) e)
first-is x xs s m at line h rest (rows.SectionIs.over n next c g e) =
    over x.which (here x xs at n next c g) (chain_handed xs s (section_by x s (Read m at line)).end (Count x.which) e)
first-is x xs s m at line h rest (rows.SectionIs.stands next l e k y) =
    let t = (section_by x s (Read m at line)).rows in
    let f = ap (λ (r : Rows). r.end) (stands-section x.word x.wide x.top x.which s m at line next t h k y) in
    more-is x xs s at line t next k y (chain xs s (section_by x s (Read m at line)).end)
    (subst (λ i. ChainIs xs s next (line + 1 + length t) (chain xs s i)) (sym f) (rest (length t) next (line + 1 + length t)))

pub chain-is : (xs : List Section) (s : List ℕ) (m at line : ℕ) → Tops xs → ChainIs xs s at line (chain xs s (Read m at line))
unfolding chain chain_text ChainKept
chain-is [] s m at line h = stands m at tt (stands-none s at) (ap (λ i. Read m at i) (sym (add-zero line)))
chain-is (x ∷ xs) s m at line h =
    first-is x xs s m at line h.0 (λ n p i. chain-is xs s n p i h.1) (section-is x.word x.wide x.top x.which s m at line)

-- The other way. The rows of a chain that was read, and its end.
pub record ChainRead (ts : List (List (List ℕ))) (next line : ℕ) (c : Chained) : Type 0 where
  pub tables : c.tables ≡ ts
  pub count : ℕ
  pub end : c.end ≡ Read count next line

pub stands-chain : (xs : List Section) (ts : List (List (List ℕ))) (s : List ℕ) (m at line next : ℕ) → Tops xs → ChainKept xs ts → Stands s at (chain_text xs ts) next →
    ChainRead ts next (line + lines_in ts) (chain xs s (Read m at line))
unfolding chain chain_text ChainKept
stands-chain [] [] s m at line next h k x =
    let e : at ≡ next = sym (x.past ∙ add-zero at) in
    record { tables = refl; count = m; end = rw (e, add-zero) }
stands-chain [] (t ∷ ts) s m at line next h k x = absurd k
stands-chain (y ∷ xs) [] s m at line next h k x = absurd k
stands-chain (y ∷ xs) (t ∷ ts) s m at line next h k x =
    let c = stands-cut (section_text y.word t) (chain_text xs ts) x in
    let e = stands-section y.word y.wide y.top y.which s m at line c.mid t h.0 k.0 c.first in
    let r = stands-chain xs ts s (length t) c.mid (line + 1 + length t) next h.1 k.1 c.second in
    record {
      tables = ap (λ (i : Rows). i.rows ∷ (chain xs s i.end).tables) e ∙ ap {B = List (List (List ℕ))} (λ l. t ∷ l) r.tables;
      count = r.count;
      end = ap (λ (i : Rows). (chain xs s i.end).end) e ∙ (r.end ∙ ap (λ i. Read r.count next i) (count-lines line (length t) (lines_in ts)));
    }

pub over-chain : {s : List ℕ} {xs : List Section} {at which : ℕ} (m line : ℕ) → Tops xs → ChainOver s xs at which → (chain xs s (Read m at line)).end ≡ Err (Count which)
unfolding chain
over-chain {s} m line h (here x xs at n next c g) =
    chain_handed xs s (section_by x s (Read m at line)).end (Count x.which) (over-section x.word x.wide x.top x.which s m at line n next c g)
over-chain {s} m line h (behind x xs at which t p k y o) =
    ap (λ (i : Rows). (chain xs s i.end).end) (stands-section x.word x.wide x.top x.which s m at line p t h.0 k y)
    ∙ over-chain (length t) (line + 1 + length t) h.1 o

pub stuck-chain : {s : List ℕ} {l : ℕ} {xs : List Section} {at line : ℕ} (m : ℕ) → Tops xs → ChainBreaks s l xs at line → (chain xs s (Read m at line)).end ≡ Err (Form l)
unfolding chain
stuck-chain {s} {l} m h (here x xs at line b) =
    chain_handed xs s (section_by x s (Read m at line)).end (Form l) (stuck-section x.word x.wide x.top x.which s m at line l b)
stuck-chain {s} {l} m h (behind x xs at line t p k y b) =
    ap (λ (i : Rows). (chain xs s i.end).end) (stands-section x.word x.wide x.top x.which s m at line p t h.0 k y)
    ∙ stuck-chain (length t) h.1 b

-- the lines of a chain are at most those that its maxima allow
abbrev pub most_lines : List Section → ℕ
most_lines [] = 0
most_lines (x ∷ xs) = 1 + x.top + most_lines xs

pub kept-lines : (xs : List Section) (ts : List (List (List ℕ))) → ChainKept xs ts → lines_in ts ≤ most_lines xs
unfolding ChainKept
kept-lines [] [] k = omega arith
kept-lines [] (t ∷ ts) k = absurd k
kept-lines (x ∷ xs) [] k = absurd k
kept-lines (x ∷ xs) (t ∷ ts) k = omega (arith, k.0.few, kept-lines xs ts k.1)

pub chain-place : {s : List ℕ} {l : ℕ} {xs : List Section} {at line : ℕ} → ChainBreaks s l xs at line → l ≤ line + most_lines xs
chain-place (here x xs at line b) = omega (arith, section-place b)
chain-place (behind x xs at line t p k y b) = omega (arith, k.few, chain-place b)
