-- The settings passed, by the job's own counts.
use mathlib.Core.Path.{◌≡◌, sym, subst, ◌∙◌}
use Rattle.std.specs.Prelude.{Ok}
use Rattle.door.specs.Lent.{job_in}
use Rattle.door.specs.Values.{sizes_of, settings, CharactersHold}
use Rattle.door.specs.Verdict.{verdict}
use Rattle.door.specs.Whole.{characters_hold}
use Rattle.door.proofs.Job.check.Goals as goal

pub check_characters-requires : goal.check_characters-requires
check_characters-requires c =
    let job = job_in c.args.self.now in
    let passes : verdict (settings job (sizes_of job) c.args.lengths) ≡ Ok tt =
    subst (λ n. verdict (settings job n c.args.lengths) ≡ Ok tt) c.sizes-sizes.ensures (sym c.check_settings.ensures ∙ c.in_ok-check_settings.was) in
    subst (CharactersHold job) (sym c.sizes-sizes.ensures) (characters_hold job c.args.lengths passes)
