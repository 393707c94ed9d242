use Rattle.rp_response.proofs.ReplyLaws.{front_page_leaves}
use Rattle.rp_response.proofs.law.full_front_pages_leave.Goals as goal

pub returns : goal.returns
returns c = front_page_leaves
