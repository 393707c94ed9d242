-- Two logout tokens of one `jti` are accepted 661 seconds or more apart, since the first is remembered so long.
use Rattle.std.proofs.Common.{◌≡◌, ◌≤◌, ◌<◌, ◌+◌, ℕ, Bool, true, false, nat_lt, cond, ◌∷◌, ◌++◌, [], length, Option, Some, None, Ok, option_map, option_and_then, inl, inr, refl, sym, ◌∙◌, ap, subst, arith}
use Rattle.sso_base.specs.Words.{Text}
use Rattle.sso_base.specs.Rows.{row_of, if_lives}
use Rattle.sso_base.specs.Legal.{last_moment}
use Rattle.sso_base.specs.Stands as stands
use Rattle.sso_base.proofs.Decided.{above_false}
use Rattle.sso_base.proofs.Histories.{earlier_is_legal, legal_reply}
use Rattle.sso_base.proofs.RowLaws.{bool_cases, option_cases, bytes_true, row_of-more}
use Rattle.oidc_words.specs.Lives.{seen_life}
use Rattle.logout_token.specs.declared.claims.LogoutClaims.{LogoutClaims}
use Rattle.logout_token.proofs.Good.{passes_good, good_before}
use Rattle.rp_login.specs.declared.rows.SeenRow.{SeenRow}
use Rattle.rp_login.specs.Rows.{seen_name, seen_begun}
use Rattle.rp_exchange.specs.declared.ask.RpAsk.{RpAsk}
use Rattle.rp_exchange.specs.declared.ask.RpAsk.TheVariants as ask
use Rattle.rp_exchange.specs.declared.reply.RpReply.{RpReply}
use Rattle.rp_exchange.specs.Values.{IsRpAsk}
use Rattle.rp_answer.specs.Past.{RpPair, RpPast}
use Rattle.rp_answer.specs.Setup.{PartySetup, client_of}
use Rattle.rp_answer.specs.Asked.{token_accepted}
use Rattle.rp_answer.specs.Seens.{seens, seen_of, seen_by, seen_made, seen_kept, live_seen}
use Rattle.rp_answer.specs.Answering.{rp_answer}
use Rattle.rp_answer.specs.Causes.{EndedCause, LogoutAccepted}
use Rattle.rp_answer.specs.Legal.{IsLegalRp}
use Rattle.rp_answer.specs.Endings.{Accepts}
use Rattle.rp_answer.proofs.Answers.{ended_has_a_cause}
use Rattle.rp_answer.proofs.KeptNames.{some_same, seen_names}

-- a token of this `jti` is remembered, as accepted at this moment or later
record SeenSince (past : RpPast) (jti : Text) (at : ℕ) : Type 0 where
  row : SeenRow
  found : row_of seen_name jti (seens past) ≡ Some row
  since : at ≤ row.accepted
  order : at ≤ last_moment past

no_sooner : (n : ℕ) → n ≤ n
no_sooner n = omega arith

pub in_order : (a b c : ℕ) → a ≤ b → b ≤ c → a ≤ c
in_order a b c first second = omega (arith, first, second)

far_apart : (a b c n : ℕ) → a ≤ b → b + n ≤ c → a + n ≤ c
far_apart a b c n first second = omega (arith, first, second)

sooner_by : (a b c : ℕ) → c ≡ b → a ≤ b → a ≤ c
sooner_by a b c same first = omega (arith, same, first)

-- the row of the name after one more pair, by what the pair makes
abbrev after : Text → Option SeenRow → Option SeenRow → Option SeenRow
after jti held made = cond (stands.is_named seen_name jti made) made held

one_more : (q : RpPair) (past : RpPast) (jti : Text) (row : SeenRow) → row_of seen_name jti (seens past) ≡ Some row
    → row_of seen_name jti (seens (q ∷ past)) ≡ after jti (Some row) (seen_made (seens past) past q)
one_more q past jti row found =
    let m : Option SeenRow = seen_made (seens past) past q in
    let H : Option SeenRow → Option SeenRow = λ o. after jti (option_and_then (seen_kept past q) o) m in
    row_of-more seen_name seen_made seen_kept seen_names jti q past ∙ ap H found

accepted_then : (n at : ℕ) (told : Option LogoutClaims) (row : SeenRow) → option_map (seen_of n at) told ≡ Some row → row.accepted ≡ at
accepted_then n at None row h = cc
accepted_then n at (Some claims) row h = let A : SeenRow → ℕ = λ r. r.accepted in sym (ap A (some_same (seen_of n at claims) row h))

-- where a pair accepts it
seen_first : (p : RpPair) (earlier : RpPast) (claims : LogoutClaims) → Accepts p claims → SeenSince (p ∷ earlier) claims.jti p.entry.at
seen_first p earlier claims accepts =
    let row : SeenRow = seen_of (length earlier) p.entry.at claims in
    let held : Option SeenRow = option_and_then (seen_kept earlier p) (row_of seen_name claims.jti (seens earlier)) in
    let A : RpAsk → Option SeenRow = λ a. seen_by (length earlier) p.entry.at a p.reply in
    let R : RpReply → Option SeenRow = λ r. seen_by (length earlier) p.entry.at (ask.Logout (Ok claims)) r in
    let made : seen_made (seens earlier) earlier p ≡ Some row = ap A accepts.asked ∙ ap R accepts.replied in
    let M : Option SeenRow → Option SeenRow = λ o. after claims.jti held o in
    let F : Bool → Option SeenRow = λ b. cond b (Some row) held in
    record {
      row = row;
      found = row_of-more seen_name seen_made seen_kept seen_names claims.jti p earlier ∙ ap M made ∙ ap F (bytes_true claims.jti claims.jti refl);
      since = no_sooner p.entry.at;
      order = no_sooner p.entry.at;
    }

-- it stays, or one of the same `jti` takes its place, which was accepted no sooner
seen_more : (q : RpPair) (past : RpPast) (jti : Text) (at : ℕ) → last_moment past ≤ q.entry.at → SeenSince past jti at → SeenSince (q ∷ past) jti at
seen_more q past jti at next seen =
    let M : Option SeenRow → Option SeenRow = λ o. after jti (Some seen.row) o in
    let now : at ≤ q.entry.at = in_order at (last_moment past) q.entry.at seen.order next in
    let told = one_more q past jti seen.row seen.found in
    elim (option_cases (seen_made (seens past) past q)) [
      | inl none ↦ record { row = seen.row; found = told ∙ ap M none; since = seen.since; order = now }
      | inr made ↦
          (let F : Bool → Option SeenRow = λ b. cond b (Some made.0) (Some seen.row) in
          elim (bool_cases (stands.is_named seen_name jti (Some made.0))) [
            | inl e ↦ record {
              row = made.0;
              found = told ∙ ap M made.1 ∙ ap F e;
              since = sooner_by at q.entry.at made.0.accepted (accepted_then (length past) q.entry.at (token_accepted q.entry.ask q.reply) made.0 made.1) now;
              order = now;
            }
            | inr e ↦ record { row = seen.row; found = told ∙ ap M made.1 ∙ ap F e; since = seen.since; order = now }
          ])
    ]

seen_after : (s : PartySetup) (between earlier : RpPast) (p : RpPair) (claims : LogoutClaims) → IsLegalRp s (between ++ p ∷ earlier) → Accepts p claims
    → SeenSince (between ++ p ∷ earlier) claims.jti p.entry.at
seen_after s [] earlier p claims legal accepts = seen_first p earlier claims accepts
seen_after s (q ∷ between) earlier p claims legal accepts =
    seen_more q (between ++ p ∷ earlier) claims.jti p.entry.at legal.2 (seen_after s between earlier p claims legal.0 accepts)

dead : (b : Bool) (row : SeenRow) → cond b (Some row) None ≡ None → b ≡ false
dead true row h = cc
dead false row h = refl

pub over : (life : ℕ) (row : SeenRow) (at : ℕ) → if_lives life seen_begun at row ≡ None → row.accepted + life ≤ at
over life row at h = above_false (row.accepted + life) at (dead (nat_lt at (row.accepted + life)) row h)

-- a pair of a legal past that accepts one has the cause of that
pub cause_of : (s : PartySetup) (past : RpPast) (p : RpPair) (claims : LogoutClaims) → p.reply ≡ rp_answer s past p.entry → (accepts : Accepts p claims) → LogoutAccepted s past p.entry claims accepts.count
cause_of s past p claims answered accepts =
    let C : RpAsk → Type 0 = λ a. EndedCause s past p.entry a accepts.count in
    subst C accepts.asked (ended_has_a_cause s past p.entry accepts.count (sym answered ∙ accepts.replied))

too_soon : (a b n : ℕ) → a + n ≤ b → b < a + n → ⊥
too_soon a b n first second = omega (arith, first, second)

module _ (s : PartySetup) (later between earlier : RpPast) (p q : RpPair) (legal : IsLegalRp s (later ++ q ∷ (between ++ p ∷ earlier))) where
  abbrev past : RpPast
  past = between ++ p ∷ earlier

  here : IsLegalRp s (q ∷ past)
  here = earlier_is_legal IsRpAsk (rp_answer s) later (q ∷ past) legal

  pub tokens_apart : (first second : LogoutClaims) → Accepts p first → Accepts q second → first.jti ≡ second.jti → p.entry.at + 661 ≤ q.entry.at
  tokens_apart first second accepts again same =
      let seen = seen_after s between earlier p first here.0 accepts in
      let cause = cause_of s past q second here.3 again in
      let J : Text → Option SeenRow = λ jti. live_seen past q.entry.at jti in
      let A : Option SeenRow → Option SeenRow = λ o. option_and_then (if_lives seen_life seen_begun q.entry.at) o in
      far_apart p.entry.at seen.row.accepted q.entry.at 661 seen.since (over 661 seen.row q.entry.at (sym (ap A seen.found) ∙ ap J same ∙ cause.unseen))

  -- and none is good for so long
  pub tokens_once : (claims : LogoutClaims) → Accepts p claims → Accepts q claims → ⊥
  tokens_once claims accepts again =
      let first = cause_of s earlier p claims (legal_reply IsRpAsk (rp_answer s) between earlier p here.0) accepts in
      let second = cause_of s past q claims here.3 again in
      let issuer : Text = s.provider.issuer in
      let client : Text = (client_of s).id in
      let good = passes_good issuer client claims p.entry.at first.judged in
      let still = passes_good issuer client claims q.entry.at second.judged in
      too_soon p.entry.at q.entry.at 661 (tokens_apart claims claims accepts again refl) (good_before issuer client claims p.entry.at q.entry.at good still)
