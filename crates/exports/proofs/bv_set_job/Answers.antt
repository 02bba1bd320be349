-- The entry point's answer is told as two numbers, and its lists stay as it left them.
use Rattle.exports.specs.Told.{leaves, few-lines}
use Rattle.exports.proofs.bv_set_job.Goals as goal

pub answer_of-requires : goal.answer_of-requires
answer_of-requires c = few-lines _ _ _ _ _ _ c.set_job-answer.ensures

pub returns : goal.returns
returns c = leaves c.set_job-answer.ensures c.answer_of.ensures
