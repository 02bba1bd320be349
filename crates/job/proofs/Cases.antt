-- The claims over the cases of `specs/Cases.antt`: K1 to K12, the job of document 01's sheet, and what document 02 adds. All are computed.
use Rattle.std.specs.Prelude.{◌≡◌, refl, [], ◌∷◌, map, ℕ, zero, suc, ◌<◌, length}
use Rattle.std.proofs.Common.{ap, arith}
use Rattle.door.specs.declared.Piece.{Piece}
use Rattle.door.specs.Job.{Job, elements, given, gloss_of}
use Rattle.job.specs.Line.{words_in}
use Rattle.job.specs.Outcome.{outcome}
use Rattle.job.specs.Correction.{IsSet, SameElement, Corrected}
use Rattle.job.specs.Exchanged.{element_of, words_of, StandsFrom, ElementExchanged, BreaksKept}
use Rattle.job.proofs.Exchanged.{one-element}
use Rattle.job.specs.Cases.{Case, cases, got, wanted, openings, glosses, was, now, then, line_in}

-- the one claim: "K1 to K12 form a single list with a single proved claim about all of them"
pub all-cases : map got cases ≡ map wanted cases
unfolding got wanted cases
all-cases = refl

pub all-openings : map got openings ≡ map wanted openings
unfolding got wanted openings
all-openings = refl

pub all-glosses : map got glosses ≡ map wanted glosses
unfolding got wanted glosses
all-glosses = refl

pub one-correction : map got (was ∷ now ∷ then ∷ []) ≡ map wanted (was ∷ now ∷ then ∷ [])
unfolding got wanted
one-correction = refl

set : IsSet (line_in was) × IsSet (line_in now) × IsSet (line_in then)
unfolding outcome
set = (
  record { count = 1; answer = refl; there = omega arith },
  record { count = 1; answer = refl; there = omega arith },
  record { count = 1; answer = refl; there = omega arith },
)

-- an element that is given alike in all its fields
same : (job : Job) (p : Piece) (job' : Job) (q : Piece) → job.profile ≡ job'.profile → p.form ≡ q.form → given job p ≡ given job' q → gloss_of job p ≡ gloss_of job' q →
    SameElement job p job' q
same job p job' q h f e g =
    record {
      profile = h;
      form = f;
      alike =
          record {
            given =
                record {
                  em = ap (λ w. w.em) e;
                  ratios = ap (λ w. w.ratios) e;
                  class = ap (λ w. w.class) e;
                  width = ap (λ w. w.width) e;
                  ruby_class = ap (λ w. w.ruby_class) e;
                  ruby_width = ap (λ w. w.ruby_width) e;
                  run = λ _. ap (λ w. w.run) e;
                };
            kind = ap (λ w. w.kind) g;
            class = ap (λ w. w.class) g;
            width = ap (λ w. w.width) g;
            run = λ _ _ _. ap (λ w. w.run) g;
          };
      before = ap (λ w. w.before) e;
      after = ap (λ w. w.after) e;
    }

-- element k is the same in two of them; and so are the three behind the first
abbrev Same : Case → Case → ℕ → Type 0
Same c d k = SameElement (line_in c).job (element_of (line_in c).job k) (line_in d).job (element_of (line_in d).job k)

others : (c d : Case) → Same c d 1 → Same c d 2 → Same c d 3 → (k : ℕ) → k < 4 → (k ≡ 0 → ⊥) → Same c d k
others c d x y z zero h n = absurd (n refl)
others c d x y z (suc zero) h n = x
others c d x y z (suc (suc zero)) h n = y
others c d x y z (suc (suc (suc zero))) h n = z
others c d x y z (suc (suc (suc (suc k)))) h n = absurd (omega arith)

exchanged : ElementExchanged 0 (line_in was).job (line_in now).job × ElementExchanged 0 (line_in now).job (line_in then).job
unfolding elements
exchanged = (
  record { there = omega arith; each = refl; others = others was now (same _ _ _ _ refl refl refl refl) (same _ _ _ _ refl refl refl refl) (same _ _ _ _ refl refl refl refl) },
  record { there = omega arith; each = refl; others = others now then (same _ _ _ _ refl refl refl refl) (same _ _ _ _ refl refl refl refl) (same _ _ _ _ refl refl refl refl) },
)

kept : BreaksKept 0 (line_in was) (line_in now) × BreaksKept 0 (line_in now) (line_in then)
unfolding elements outcome
kept = (
  record { number = refl; begins = refl; ahead = omega arith; behind = omega arith; ends = refl },
  record { number = refl; begins = refl; ahead = omega arith; behind = omega arith; ends = refl },
)

-- what the theorem says of them: one piece exchanged for one, and one for two
pub corrected : (n : ℕ) × StandsFrom n 0 (line_in was) × StandsFrom n 0 (line_in now) × Corrected n (length (words_of (line_in was) 0)) (length (words_of (line_in now) 0)) (line_in was) (line_in now)
corrected = one-element 0 (line_in was) (line_in now) set.0 set.1 exchanged.0 kept.0

pub corrected-apart :
    (n : ℕ) × StandsFrom n 0 (line_in now) × StandsFrom n 0 (line_in then) × Corrected n (length (words_of (line_in now) 0)) (length (words_of (line_in then) 0)) (line_in now) (line_in then)
corrected-apart = one-element 0 (line_in now) (line_in then) set.1 set.2 exchanged.1 kept.1

pub many-words : map (λ l. length (words_of l 0)) (line_in was ∷ line_in now ∷ line_in then ∷ []) ≡ 1 ∷ 1 ∷ 2 ∷ []
unfolding elements words_in
many-words = refl
