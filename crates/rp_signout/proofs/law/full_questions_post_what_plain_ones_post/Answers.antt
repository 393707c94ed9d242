use Rattle.rp_signout.proofs.PostedQuestions.{questions_post}
use Rattle.rp_signout.proofs.law.full_questions_post_what_plain_ones_post.Goals as goal

pub returns : goal.returns
returns c = questions_post
