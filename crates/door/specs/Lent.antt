-- The job that lent lists hold.
use Rattle.spread.specs.Ratio.{ratios_of}
use Rattle.door.specs.declared.Job as lent
use Rattle.door.specs.Job.{Job}

abbrev pub job_in : lent.Job → Job
job_in j =
    record {
      em = j.em;
      measure = j.measure;
      ratios = ratios_of j.ratios;
      profile = j.profile;
      class = j.base.class.now;
      width = j.base.width.now;
      before = j.base.before.now;
      after = j.base.after.now;
      flag = j.base.flag.now;
      ruby_class = j.ruby.class.now;
      ruby_width = j.ruby.width.now;
      left_class = j.left.class.now;
      left_width = j.left.width.now;
      kind = j.elements.kind.now;
      element_base = j.elements.bases.now;
      element_ruby = j.elements.rubies.now;
      left_kind = j.elements.left_kind.now;
      element_left = j.elements.lefts.now;
      run = j.runs.now;
      left_run = j.left_runs.now;
    }
