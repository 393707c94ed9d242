use Rattle.web_requests.proofs.FollowedRequests.{request_followed_read}
use Rattle.web_requests.proofs.law.authorization_requests_are_followed.Goals as goal

pub returns : goal.returns
returns c = λ configuration n state nonce browser from jar may. request_followed_read configuration n state nonce may jar from browser
