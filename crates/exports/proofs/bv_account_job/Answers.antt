-- The account's answer is told as two numbers, and its lists stay as it left them.
use Rattle.exports.specs.Told.{accounted, few-told}
use Rattle.exports.proofs.bv_account_job.Goals as goal

pub answer_of-requires : goal.answer_of-requires
answer_of-requires c = few-told _ _ _ _ _ c.account_job-answer.ensures

pub returns : goal.returns
returns c = accounted c.account_job-answer.ensures c.answer_of.ensures
