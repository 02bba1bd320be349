-- An answer as a caller in C gets it, and what `bv_set_job` and `bv_account_job` leave.
use Rattle.std.specs.Prelude.{List, ◌≡◌, refl, ℕ, ◌≤◌}
use Rattle.std.proofs.Common.{ap, sym, ◌∙◌, arith}
use Rattle.refusal.specs.Refusal.{number_of, place_of}
use Rattle.door.specs.Job.{Job, base_count}
use Rattle.job.specs.declared.Answer.{Answer}
use Rattle.job.specs.declared.Answer.TheVariants.{Set, Refused}
use Rattle.job.specs.Line.{ends}
use Rattle.job.specs.Outcome.{Outcome, outcome}
use Rattle.job.proofs.Filled.{chain-few}
use Rattle.job.proofs.Demands.{lines-filled}
use Rattle.result.specs.Set.{accepted, many, door}
use Rattle.job_account.specs.Outcome.{Telling, telling}
use Rattle.job_account.specs.Outcome as account
use Rattle.exports.specs.declared.Answer as exported

-- number 0 and the number of lines, or a refusal's "number and a place"
abbrev pub told : Answer → exported.Answer
told (Set n) = record { number = 0; place = n }
told (Refused r) = record { number = number_of r; place = place_of r }

-- no more lines than base characters
abbrev pub Few : Answer → Type 0
Few (Set n) = n ≤ 1024
Few (Refused r) = Unit {0}

few : (a : Answer) → ((n : ℕ) → a ≡ Set n → n ≤ 1024) → Few a
few (Set n) h = h n refl
few (Refused r) h = tt

-- the answer is told, and the lists are the outcome's
pub record Left (job : Job) (base ruby left lines : List ℕ) (r : exported.Answer) (newBase newRuby newLeft newLines : List ℕ) : Type 0 where
  pub answer : r ≡ told (outcome job base ruby left lines).answer
  pub bases : newBase ≡ (outcome job base ruby left lines).base
  pub rubies : newRuby ≡ (outcome job base ruby left lines).ruby
  pub lefts : newLeft ≡ (outcome job base ruby left lines).left
  pub ends : newLines ≡ (outcome job base ruby left lines).lines

module _ {job : Job} {base ruby left lines : List ℕ} {o : Outcome} (e : o ≡ outcome job base ruby left lines) where
  pub leaves : {r : exported.Answer} → r ≡ told o.answer → Left job base ruby left lines r o.base o.ruby o.left o.lines
  leaves h =
      record {
        answer = h ∙ ap (λ (x : Outcome). told x.answer) e;
        bases = ap (λ (x : Outcome). x.base) e;
        rubies = ap (λ (x : Outcome). x.ruby) e;
        lefts = ap (λ (x : Outcome). x.left) e;
        ends = ap (λ (x : Outcome). x.lines) e;
      }

pub few-lines : (job : Job) (base ruby left lines : List ℕ) (o : Outcome) → o ≡ outcome job base ruby left lines → Few o.answer
few-lines job base ruby left lines o e = few o.answer (λ n is. most n (ap (λ (x : Outcome). x.answer) (sym e) ∙ is))
  where
    most : (n : ℕ) → (outcome job base ruby left lines).answer ≡ Set n → n ≤ 1024
    most n set =
        omega (arith, many job base ruby left lines set, chain-few job 0 (base_count job) (ends job) (lines-filled job base ruby left lines (accepted job base ruby left lines set)), (door job base ruby left lines set).few_base)

-- The same of the account: the answer is told, and the lists are the account's.
pub record Accounted (job : Job) (rows counts wide : List ℕ) (r : exported.Answer) (newRows newCounts newWide : List ℕ) : Type 0 where
  pub answer : r ≡ told (telling job rows counts wide).answer
  pub new_rows_are : newRows ≡ (telling job rows counts wide).rows
  pub new_counts_are : newCounts ≡ (telling job rows counts wide).told
  pub new_wide_are : newWide ≡ (telling job rows counts wide).extents

module _ {job : Job} {rows counts wide : List ℕ} {o : Telling} (e : o ≡ telling job rows counts wide) where
  pub accounted : {r : exported.Answer} → r ≡ told o.answer → Accounted job rows counts wide r o.rows o.told o.extents
  accounted h =
      record {
        answer = h ∙ ap (λ (x : Telling). told x.answer) e;
        new_rows_are = ap (λ (x : Telling). x.rows) e;
        new_counts_are = ap (λ (x : Telling). x.told) e;
        new_wide_are = ap (λ (x : Telling). x.extents) e;
      }

pub few-told : (job : Job) (rows counts wide : List ℕ) (o : Telling) → o ≡ telling job rows counts wide → Few o.answer
few-told job rows counts wide o e = few o.answer (λ n is. account.few-lines job rows counts wide (ap (λ (x : Telling). x.answer) (sym e) ∙ is))
