-- A login that asks for UserInfo after the token response: its past is legal, and the laws say of it who sent and who entered.
use Rattle.std.proofs.Common.{◌≡◌, true, [], Some, Ok, codes, refl, sym, subst, arith}
use Rattle.std.specs.Str.{IsUtf8, bytes_eq}
use Rattle.json.proofs.Printed.Utf8.{IsUtf8-are_ascii}
use Rattle.sso_base.specs.Words.{Text, word_text}
use Rattle.sso_base.proofs.RowLaws.{bytes_same}
use Rattle.sso_base.proofs.WordUtf8.{IsUtf8-word_text}
use Rattle.id_token.specs.HalfHash.{half_hash_of}
use Rattle.login_request.specs.Request.{login_location}
use Rattle.rp_login.specs.declared.rows.Stage.TheVariants as stage
use Rattle.rp_exchange.specs.Values.{IsIdValue}
use Rattle.rp_exchange.specs.declared.reply.RpReply.TheVariants.{Ask}
use Rattle.rp_answer.specs.Answering.{rp_answer}
use Rattle.rp_answer.specs.Legal.{IsLegalRp, LoginEntered, EnteredBy, SentBy}
use Rattle.rp_answer.proofs.Sample.{word, pair_of, op, shop_client, mail, mail_setup}
use Rattle.rp_answer.proofs.FirstVisit.{begin_entry, claims}
use Rattle.rp_answer.proofs.EachRefusal.{hybrid_response, hybrid_exchange}
use Rattle.rp_answer.proofs.Fetching.{past_mail_begin, past_mail, late_tokens_fetch, past_fetch, asking, info_entry, entered_late, info_enters, past_info, late_visit}
use Rattle.rp_answer.proofs.Exchanges.{pendings_are_sent}
use Rattle.rp_answer.proofs.Entering.{sessions_need_a_login}
use Rattle.rp_answer.proofs.Sessions.{visits_are_drawn}
use Rattle.rp_answer.proofs.Legality.{is_word, are_words, claims_are_values}

mail_begins : rp_answer mail_setup [] begin_entry ≡ Ask (login_location shop_client mail op (word 2) (word 3)) (word 1)
unfolding rp_answer
mail_begins = refl

mail_exchanges : (code t h : Text) → bytes_eq t (word_text (word 3)) ≡ true → bytes_eq h (half_hash_of code) ≡ true
    → rp_answer mail_setup past_mail_begin (hybrid_response code t h) ≡ hybrid_exchange code
unfolding rp_answer
mail_exchanges code t h nonce hash = rw (nonce, hash) refl

begin_is_legal : IsLegalRp mail_setup past_mail_begin
begin_is_legal = (tt, record { moment = omega arith; four = refl; words = are_words 1 refl refl refl refl; ask = tt }, omega arith, sym mail_begins)

hash_spelled : (code : Text) → IsUtf8 (half_hash_of code)
hash_spelled code = IsUtf8-word_text _

with_code_hash : (t h : Text) → IsUtf8 t → IsUtf8 h → IsIdValue (record (claims t) { c_hash = Some h })
with_code_hash t h spelled hash =
    let c = claims_are_values t spelled in
    record {
      iss = c.iss;
      sub = c.sub;
      aud = c.aud;
      azp = c.azp;
      exp = c.exp;
      iat = c.iat;
      auth_time = c.auth_time;
      nonce = c.nonce;
      sid = c.sid;
      at_hash = c.at_hash;
      c_hash = hash;
      more = c.more;
    }

module _ (code t h : Text) (spelled : IsUtf8 code) (nonce : bytes_eq t (word_text (word 3)) ≡ true) (hash : bytes_eq h (half_hash_of code) ≡ true) where
  t_spelled : IsUtf8 t
  t_spelled = subst IsUtf8 (sym (bytes_same t (word_text (word 3)) nonce)) (IsUtf8-word_text (word 3))

  h_spelled : IsUtf8 h
  h_spelled = subst IsUtf8 (sym (bytes_same h (half_hash_of code) hash)) (hash_spelled code)

  exchange_is_legal : IsLegalRp mail_setup (past_mail code t h)
  exchange_is_legal = (
    begin_is_legal,
    record {
      moment = omega arith;
      four = refl;
      words = are_words 17 refl refl refl refl;
      ask = (record { state = is_word 2 refl; code = spelled; access = tt; id = IsUtf8-are_ascii (codes "id") refl }, with_code_hash t h t_spelled h_spelled, is_word 1 refl);
    },
    omega arith,
    sym (mail_exchanges code t h nonce hash),
  )

  fetch_is_legal : IsLegalRp mail_setup (past_fetch code t h)
  fetch_is_legal = (
    exchange_is_legal,
    record {
      moment = omega arith;
      four = refl;
      words = are_words 25 refl refl refl refl;
      ask = (is_word 17 refl, (IsUtf8-are_ascii (codes "access") refl, IsUtf8-are_ascii (codes "id") refl), claims_are_values t t_spelled);
    },
    omega arith,
    sym (late_tokens_fetch code t h nonce),
  )

  mail_is_legal : IsLegalRp mail_setup (past_info code t h)
  mail_is_legal = (
    fetch_is_legal,
    record {
      moment = omega arith;
      four = refl;
      words = are_words 29 refl refl refl refl;
      ask = (is_word 17 refl, IsUtf8-are_ascii (codes "alice") refl);
    },
    omega arith,
    sym (info_enters code t h),
  )

  question_was_sent : SentBy mail_setup (past_fetch code t h) (asking code) stage.Info
  question_was_sent = pendings_are_sent mail_setup (past_fetch code t h) (word 17) (asking code) fetch_is_legal refl

  alice_entered : LoginEntered mail_setup (past_fetch code t h) (info_entry 1169 (Ok (codes "alice"))) (word 30) (codes "alice")
  alice_entered = sessions_need_a_login mail_setup [] (past_fetch code t h) (pair_of (info_entry 1169 (Ok (codes "alice"))) entered_late) (word 30) (codes "alice") mail_is_legal refl

  alice_was_let_in : EnteredBy mail_setup (past_info code t h) late_visit
  alice_was_let_in = visits_are_drawn mail_setup (past_info code t h) (word 30) late_visit mail_is_legal refl
