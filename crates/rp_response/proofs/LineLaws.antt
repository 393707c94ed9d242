-- What lines tell, and what they do not.
use Rattle.std.proofs.Common.{◌≡◌, ℕ, codes, refl, sym, ap, ◌∙◌}
use Rattle.std.proofs.lemmas.List.{append_cancel_left}
use Rattle.sso_base.specs.Words.{Word, Text}
use Rattle.sso_base.specs.declared.message.Message.{Message}
use Rattle.oidc_words.specs.declared.errors.AuthError.{AuthError}
use Rattle.oidc_words.specs.Errors.{error_text, error_of}
use Rattle.oidc_words.proofs.ErrorCodes.{error_of-error_text}
use Rattle.rp_exchange.specs.declared.no.RpNo.TheVariants as no
use Rattle.rp_exchange.specs.declared.reply.RpReply.TheVariants as reply
use Rattle.rp_response.specs.Lines.{line_of}

pub session_tells : (v w : Word) (sub other : Text) → line_of (reply.Entered v sub) ≡ line_of (reply.Entered w other) → sub ≡ other
unfolding line_of
session_tells v w sub other e = append_cancel_left (codes "session ") sub other e

pub user_tells : (sub other : Text) → line_of (reply.User sub) ≡ line_of (reply.User other) → sub ≡ other
unfolding line_of
user_tells sub other e = append_cancel_left (codes "user ") sub other e

pub code_is_told : (code other : AuthError) → line_of (reply.Refused (no.Provider code)) ≡ line_of (reply.Refused (no.Provider other)) → code ≡ other
unfolding line_of
code_is_told code other e =
    let same = append_cancel_left (codes "refused Provider ") (error_text code) (error_text other) e in
    sym (error_of-error_text code) ∙ ap error_of same ∙ error_of-error_text other

pub exchange_alike : (v w : Word) (m k : Message) → line_of (reply.Exchange v m) ≡ line_of (reply.Exchange w k)
unfolding line_of
exchange_alike v w m k = refl

pub fetch_alike : (v w : Word) (m k : Message) → line_of (reply.Fetch v m) ≡ line_of (reply.Fetch w k)
unfolding line_of
fetch_alike v w m k = refl

pub ask_alike : (to other : Text) (v w : Word) → line_of (reply.Ask to v) ≡ line_of (reply.Ask other w)
unfolding line_of
ask_alike to other v w = refl

pub session_alike : (v w : Word) (sub : Text) → line_of (reply.Entered v sub) ≡ line_of (reply.Entered w sub)
unfolding line_of
session_alike v w sub = refl

pub twice_alike : (name other : Text) → line_of (reply.Refused (no.Twice name)) ≡ line_of (reply.Refused (no.Twice other))
unfolding line_of
twice_alike name other = refl

pub seen_alike : (place other : ℕ) → line_of (reply.Refused (no.Seen place)) ≡ line_of (reply.Refused (no.Seen other))
unfolding line_of
seen_alike place other = refl

pub ended_sid_alike : (place other : ℕ) → line_of (reply.Refused (no.EndedSid place)) ≡ line_of (reply.Refused (no.EndedSid other))
unfolding line_of
ended_sid_alike place other = refl
