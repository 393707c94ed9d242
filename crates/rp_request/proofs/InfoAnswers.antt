-- What is asked by UserInfo's answer: its subject.
use Rattle.std.proofs.Common.{◌≡◌, Result, Ok, Err, ap}
use Rattle.sso_base.specs.Words.{Word, Text}
use Rattle.sso_base.specs.declared.message.Answered.{Answered}
use Rattle.userinfo.specs.declared.no.InfoNo.{InfoNo}
use Rattle.userinfo.specs.Answer.{info_read, IsUserInfo}
use Rattle.userinfo.proofs.Answering.{read_is_info, info_is_read}
use Rattle.rp_exchange.specs.declared.ask.RpAsk.TheVariants as ask
use Rattle.rp_request.specs.Prepared.{info_prepared}

record HasInfo (pending : Word) (r : Result Text InfoNo) (w : Word) (sub : Text) : Type 0 where
  own : w ≡ pending
  read : r ≡ Ok sub

info_in : (pending : Word) (r : Result Text InfoNo) (w : Word) (sub : Text) → ask.Info pending r ≡ ask.Info w (Ok sub) → HasInfo pending r w sub
info_in pending r w sub h =
    let own : w ≡ pending = cc in
    let read : r ≡ Ok sub = cc in
    record { own = own; read = read }

module _ (pending : Word) (answer : Answered) where
  pub has_info : (w : Word) (sub : Text) → info_prepared pending answer ≡ ask.Info w (Ok sub) → (w ≡ pending) × IsUserInfo answer sub
  unfolding info_prepared
  has_info w sub h =
      let made = info_in pending (info_read answer) w sub h in
      (made.own, read_is_info answer sub made.read)

  pub reads_info : (sub : Text) → IsUserInfo answer sub → info_prepared pending answer ≡ ask.Info pending (Ok sub)
  unfolding info_prepared
  reads_info sub is = ap (ask.Info pending) (info_is_read answer sub is)

  pub refuses_info : (why : InfoNo) → info_read answer ≡ Err why → info_prepared pending answer ≡ ask.Info pending (Err why)
  unfolding info_prepared
  refuses_info why is = ap (ask.Info pending) is
