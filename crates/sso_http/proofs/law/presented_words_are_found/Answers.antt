use Rattle.sso_http.proofs.PresentedCookies.{presented_found}
use Rattle.sso_http.proofs.law.presented_words_are_found.Goals as goal

pub returns : goal.returns
returns c name words h = presented_found name words h
