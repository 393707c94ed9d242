-- What the second party asks for, the news: its response type is `id_token token`, so it is answered in the fragment.
use Rattle.std.proofs.Common.{Bool, false, true, [], Some, None, codes, refl, arith}
use Rattle.sso_base.specs.Words.{Text}
use Rattle.sso_base.proofs.Utf8Bytes.{IsUtf8-are_ascii}
use Rattle.auth_request.specs.Values.{IsWishValue}
use Rattle.auth_request.specs.declared.wish.Wish.{Wish}
use Rattle.rp_exchange.proofs.Sample.{front}
use Rattle.sso_places.proofs.LoginByCode.{state_text, nonce_text}
use Rattle.honest_places.specs.Login.{Visitor}
use Rattle.honest_worlds.proofs.FirstPlaces.{alice}

-- who logs in there
abbrev pub reader : Visitor
reader = record alice { party = 1 }

-- the query of its authorization request
abbrev pub news_query : Text
news_query =
    codes "response_type=id_token+token&client_id=news-client&redirect_uri=http%3A%2F%2F127.0.0.1%3A8082%2Fcb&scope=openid&state=AAAAAAAAAAAAAAAAAAAAAAAAAAAAAAAAAAAAAAAAAAI&nonce=AAAAAAAAAAAAAAAAAAAAAAAAAAAAAAAAAAAAAAAAAAM"

-- its wish, where no page may be shown or where one may
abbrev pub news_wish : Bool → Wish
news_wish none =
    record {
      client = 1;
      redirect = codes "http://127.0.0.1:8082/cb";
      types = front;
      scopes = record { openid = true; profile = false; email = false; address = false; phone = false };
      state = Some state_text;
      nonce = Some nonce_text;
      none = none;
      login = false;
      consent = false;
      max_age = None;
      subs = None;
      id_asked = [];
      info_asked = [];
    }

pub wish_is_value : (none : Bool) → IsWishValue (news_wish none)
wish_is_value none = record {
  client = omega arith;
  redirect = IsUtf8-are_ascii (news_wish none).redirect refl;
  state = IsUtf8-are_ascii state_text refl;
  nonce = IsUtf8-are_ascii nonce_text refl;
  max_age = tt;
  subs = tt;
  id_asked = tt;
  info_asked = tt;
}
