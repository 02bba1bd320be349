-- A word's rows, and level one's answer taken apart: what the ways of an element with one reading and of one with two share.
use Rattle.std.specs.Prelude.{◌≡◌, refl, Bool, true, false, List, ℕ, Result, Ok, Err, ⊤, ◌+◌, ◌-◌, ◌≤◌, ◌<◌, eqb, length, get_or}
use Rattle.std.proofs.Common.{sym, ◌∙◌, subst, add-zero, arith}
use Rattle.refusal.specs.declared.Refusal.{Refusal}
use Rattle.refusal.specs.declared.Refusal.TheVariants.{Element}
use Rattle.spread.specs.Ratio.{Housed}
use Rattle.word.specs.declared.Word.{Word}
use Rattle.word.specs.declared.Answer.{Answer}
use Rattle.word.specs.declared.Answer.TheVariants as answered
use Rattle.word.specs.Sized.{Small}
use Rattle.cells.specs.declared.Cell.{Cell}
use Rattle.door.specs.declared.Piece.{Piece}
use Rattle.door.specs.Job.{Job, given}
use Rattle.job.specs.Line.{cuts}
use Rattle.join.specs.Rows.{row_by}
use Rattle.word_rows.specs.Runs.{jukugo_row}

-- the row of base character i of an element that is one word and is not cut
abbrev pub word_row : Piece → Word → Bool → ℕ → ℕ → ℕ → Cell
word_row p w ends before after i =
    record {
      bases = p.base + p.bases - i;
      cut = false;
      ends = ends;
      word = w;
      before = before;
      after = after;
      ruby = p.ruby;
      rubies = p.rubies;
      left = 0;
      lefts = 0;
      own = 0;
      wide = 0;
      over = 0;
      western = false;
      ownleft = 0;
      more = false;
    }

pub word_row_lem : (job : Job) (x : Piece) (w : Word) (ends : Bool) (before after i : ℕ) → cuts job x ≡ false → word_row x w ends before after i ≡ row_by job x w ends before after i
word_row_lem job x w ends before after i c = rw (c, add-zero x.ruby)

pub jukugo_row_lem : (job : Job) (x : Piece) (w : Word) (ends : Bool) (i : ℕ) → cuts job x ≡ true → jukugo_row job x w ends i ≡ row_by job x w ends 0 0 i
jukugo_row_lem job x w ends i c = rw c

-- "hands its refusal up unchanged"; a word is no refusal, and if one were handed in, its element would be told as number 5
abbrev pub stop_by : ℕ → Answer → Result Piece Refusal
stop_by place (answered.Refused why) = Err why
stop_by place (answered.Set w) = Err (Element place)

abbrev pub stop_at : ℕ → Result ⊤ Refusal → Result Piece Refusal
stop_at place (Err why) = Err why
stop_at place (Ok tt) = Err (Element place)

-- the flag of its last base character is 1
abbrev pub flagged : Job → Piece → Bool
flagged job x = eqb (get_or job.flag (x.base + x.bases - 1) 0) 1

-- a word with ruby within the lists that every form reads, and room for its rows
pub record WordReady (job : Job) (x : Piece) (t : List Cell) : Type 0 where
  pub some : 0 < x.bases
  pub few : x.base + x.bases ≤ 1024
  pub few_ruby : x.ruby + x.rubies ≤ 4096
  pub width : x.base + x.bases ≤ length job.width
  pub before : x.base + x.bases ≤ length job.before
  pub after : x.base + x.bases ≤ length job.after
  pub flag : x.base + x.bases ≤ length job.flag
  pub ruby_width : x.ruby + x.rubies ≤ length job.ruby_width
  pub small : Small (given job x).width (given job x).ruby_width
  pub house : Housed job.ratios
  pub room : x.base + x.bases ≤ length t

-- Level one's answer taken apart: a refusal goes up and leaves the table, a word has its rows.
pub record Judged (a : Answer) (Done : Word → Type 0) (x : Piece) (was t : List Cell) (s : Result Piece Refusal) : Type 0 where
  pub long : length t ≡ length was
  pub stops : (q : Refusal) → a ≡ answered.Refused q → (s ≡ Err q) × (t ≡ was)
  pub goes : (w : Word) → a ≡ answered.Set w → (s ≡ Ok x) × Done w

not-both : {q : Refusal} {w : Word} → answered.Refused q ≡ answered.Set w → ⊥
not-both e = let z : ◌≡◌ {A = ℕ} 0 1 = cc in omega arith

module _ {a : Answer} {Done : Word → Type 0} {x : Piece} {was : List Cell} where
  pub judged-stops : {q : Refusal} {s : Result Piece Refusal} → a ≡ answered.Refused q → s ≡ Err q → Judged a Done x was was s
  judged-stops {q} {s} e h = record { long = refl; stops = λ r d. (h ∙ same (sym e ∙ d), refl); goes = λ w d. absurd (not-both (sym e ∙ d)) }
    where
      same : {r : Refusal} → answered.Refused q ≡ answered.Refused r → ◌≡◌ {A = Result Piece Refusal} (Err q) (Err r)
      same d = cc

  pub judged-goes : {t : List Cell} {w : Word} → a ≡ answered.Set w → length t ≡ length was → Done w → Judged a Done x was t (Ok x)
  judged-goes {t} {w} e l h =
      record {
        long = l;
        stops = λ r d. absurd (not-both (sym d ∙ e));
        goes = λ v d. (refl, subst Done (same (sym e ∙ d)) h);
      }
    where
      same : {v : Word} → answered.Set w ≡ answered.Set v → w ≡ v
      same d = cc

-- by other names
pub judged_as : {a b : Answer} {Done Also : Word → Type 0} {x : Piece} {was t : List Cell} {s : Result Piece Refusal} → a ≡ b → ((w : Word) → b ≡ answered.Set w → Done w → Also w) →
    Judged a Done x was t s → Judged b Also x was t s
judged_as e h j =
    record {
      long = j.long;
      stops = λ q d. j.stops q (e ∙ d);
      goes = λ w d. ((j.goes w (e ∙ d)).0, h w d (j.goes w (e ∙ d)).1);
    }
