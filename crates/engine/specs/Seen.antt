-- What a call leaves: its answer, and what its result lists hold at exit.
use Rattle.std.specs.Prelude.{List, ◌≡◌, ℕ}
use Rattle.job.specs.declared.Answer.{Answer}
use Rattle.job.specs.Outcome.{Outcome}
use Rattle.engine.specs.declared.Results.{Results}

abbrev pub left_in : Answer → List ℕ → List ℕ → List ℕ → List ℕ → Outcome
left_in answer base ruby left lines = record { answer = answer; base = base; ruby = ruby; left = left; lines = lines }

abbrev pub leaves : Answer → Results → Outcome
leaves answer r = left_in answer r.base.now r.ruby.now r.left.now r.lines.now

-- the result lists are those that were lent
pub record SameLists (old new : Results) : Type 0 where
  pub base : new.base.ghost_name ≡ old.base.ghost_name
  pub ruby : new.ruby.ghost_name ≡ old.ruby.ghost_name
  pub left : new.left.ghost_name ≡ old.left.ghost_name
  pub lines : new.lines.ghost_name ≡ old.lines.ghost_name
