-- At most as many session identifiers are remembered as logout tokens: each came with a token, and is remembered as long.
use Rattle.std.proofs.Common.{◌≡◌, ◌≤◌, ◌+◌, ℕ, Bool, true, false, nat_lt, cond, List, [], ◌∷◌, ◌++◌, length, filter_map, Option, Some, None, Ok, option_map, option_and_then, inl, inr, refl, sym, ◌∙◌, ap, subst, arith}
use Rattle.std.specs.Str.{bytes_eq}
use Rattle.std.proofs.lemmas.List.{length-append}
use Rattle.std.proofs.lemmas.List.Elements.{filter-append}
use Rattle.sso_base.specs.Words.{Word, Text}
use Rattle.sso_base.specs.Rows.{without, put, row_of, lives, if_lives, live_rows}
use Rattle.sso_base.specs.Legal.{last_moment}
use Rattle.sso_base.proofs.Decided.{not_above}
use Rattle.sso_base.proofs.Lives.{live_without}
use Rattle.sso_base.proofs.RowLaws.{bool_cases, rows_distinct}
use Rattle.held_rows.proofs.Kept.{all_kept, without_none}
use Rattle.held_rows.proofs.RowOf.{row_of-live_rows}
use Rattle.oidc_words.specs.Lives.{seen_life}
use Rattle.logout_token.specs.declared.claims.LogoutClaims.{LogoutClaims}
use Rattle.rp_login.specs.declared.rows.SeenRow.{SeenRow}
use Rattle.rp_login.specs.declared.rows.DeadRow.{DeadRow}
use Rattle.rp_login.specs.Rows.{seen_name, seen_begun, dead_name, dead_begun}
use Rattle.rp_exchange.specs.declared.ask.RpAsk.{RpAsk}
use Rattle.rp_exchange.specs.declared.ask.RpAsk.TheVariants as ask
use Rattle.rp_exchange.specs.declared.reply.RpReply.{RpReply}
use Rattle.rp_exchange.specs.declared.reply.RpReply.TheVariants as reply
use Rattle.rp_answer.specs.Past.{RpPair, RpPast}
use Rattle.rp_answer.specs.Setup.{PartySetup}
use Rattle.rp_answer.specs.Seens.{seens, seen_of, seen_by, seen_made, seen_kept, live_seens}
use Rattle.rp_answer.specs.Deads.{deads, dead_at, dead_by, dead_made, dead_kept, live_deads}
use Rattle.rp_answer.specs.Causes.{LogoutAccepted}
use Rattle.rp_answer.specs.Legal.{IsLegalRp}
use Rattle.rp_answer.proofs.KeptNames.{seen_names}
use Rattle.rp_answer.proofs.TokensOnce.{in_order, over, cause_of}

-- ---- lengths

pub fewer : {R : Type 0} (name : R → Word) (w : Word) (rows : List R) → length (without name w rows) ≤ length rows
fewer name w [] = omega arith
fewer {R} name w (r ∷ rs) =
    let again : length (without name w rs) ≤ length rs = fewer name w rs in
    let F : Bool → Type 0 = λ b. length (cond b (without name w rs) (r ∷ without name w rs)) ≤ length (r ∷ rs) in
    elim (bool_cases (bytes_eq (name r) w)) [
      | inl e ↦ subst F (sym e) (omega (arith, again))
      | inr e ↦ subst F (sym e) (omega (arith, again))
    ]

-- what lives of rows without one, and one more
one_more : {R : Type 0} (name : R → Word) (begun : R → ℕ) (at : ℕ) (w : Word) (rows : List R) (row : R)
    → length (live_rows seen_life begun at (without name w rows ++ row ∷ [])) ≡ length (without name w (live_rows seen_life begun at rows)) + length (live_rows seen_life begun at (row ∷ []))
one_more {R} name begun at w rows row =
    let p : R → Bool = λ x. lives seen_life (begun x) at in
    let last : List R = live_rows seen_life begun at (row ∷ []) in
    let L : List R → ℕ = λ xs. length (xs ++ last) in
    ap length (filter-append p (without name w rows) (row ∷ [])) ∙ ap L (live_without name seen_life begun at w rows)
    ∙ length-append (without name w (live_rows seen_life begun at rows)) last

-- both live, or neither
alike : (b : Bool) (dead : DeadRow) (seen : SeenRow) → length (cond b (dead ∷ []) []) ≡ length (cond b (seen ∷ []) [])
alike true dead seen = refl
alike false dead seen = refl

-- ---- a `jti` that is not remembered is not remembered later

unseen_later : (at now : ℕ) → at ≤ now → (found : Option SeenRow) → option_and_then (if_lives seen_life seen_begun at) found ≡ None → option_and_then (if_lives seen_life seen_begun now) found ≡ None
unseen_later at now order None h = refl
unseen_later at now order (Some row) h =
    let C : Bool → Option SeenRow = λ b. cond b (Some row) None in
    ap C (not_above (row.accepted + 661) now (in_order (row.accepted + 661) at now (over 661 row at h) order))

-- ---- one more pair

module _ (past : RpPast) (now : ℕ) where
  abbrev held : List SeenRow
  held = live_seens past now

  -- a token is accepted whose `jti` is not remembered
  with_sid : (n at : ℕ) (claims : LogoutClaims) (sid : Option Text) → row_of seen_name claims.jti held ≡ None → length (live_deads past now) ≤ length held
      → length (live_rows seen_life dead_begun now (put dead_name (option_map (dead_at n at) sid) (deads past)))
      ≤ length (live_rows seen_life seen_begun now (put seen_name (Some (seen_of n at claims)) (seens past)))
  with_sid n at claims None unseen few =
      let more = one_more seen_name seen_begun now claims.jti (seens past) (seen_of n at claims) in
      let all : length (without seen_name claims.jti held) ≡ length held = ap length (without_none seen_name claims.jti held unseen) in
      omega (arith, few, more, all)
  with_sid n at claims (Some sid) unseen few =
      let seen : SeenRow = seen_of n at claims in
      let dead : DeadRow = dead_at n at sid in
      let more = one_more seen_name seen_begun now claims.jti (seens past) seen in
      let all : length (without seen_name claims.jti held) ≡ length held = ap length (without_none seen_name claims.jti held unseen) in
      let most = one_more dead_name dead_begun now sid (deads past) dead in
      let rest : length (without dead_name sid (live_deads past now)) ≤ length (live_deads past now) = fewer dead_name sid (live_deads past now) in
      let same : length (live_rows seen_life dead_begun now (dead ∷ [])) ≡ length (live_rows seen_life seen_begun now (seen ∷ [])) = alike (nat_lt now (at + 661)) dead seen in
      omega (arith, few, more, all, most, rest, same)

  put_by : (n at : ℕ) (asked : RpAsk) (told : RpReply) → ((claims : LogoutClaims) (count : ℕ) → asked ≡ ask.Logout (Ok claims) → told ≡ reply.Ended count → row_of seen_name claims.jti held ≡ None)
      → length (live_deads past now) ≤ length held
      → length (live_rows seen_life dead_begun now (put dead_name (dead_by n at asked told) (deads past))) ≤ length (live_rows seen_life seen_begun now (put seen_name (seen_by n at asked told) (seens past)))
  put_by n at (ask.Logout (Ok claims)) (reply.Ended count) unseen few = with_sid n at claims claims.sid (unseen claims count refl refl) few
  put_by n at asked told unseen few = few

at_most : (a b c d : ℕ) → a ≡ c → b ≡ d → c ≤ d → a ≤ b
at_most a b c d left right order = omega (arith, left, right, order)

module _ (s : PartySetup) where
  few_now : (past : RpPast) → IsLegalRp s past → (now : ℕ) → last_moment past ≤ now → length (live_deads past now) ≤ length (live_seens past now)
  few_now [] legal now order = omega arith
  few_now (q ∷ past) legal now order =
      let before : length (live_deads past now) ≤ length (live_seens past now) = few_now past legal.0 now (in_order (last_moment past) q.entry.at now legal.2 order) in
      let unseen : (claims : LogoutClaims) (count : ℕ) → q.entry.ask ≡ ask.Logout (Ok claims) → q.reply ≡ reply.Ended count → row_of seen_name claims.jti (live_seens past now) ≡ None =
      λ claims count asked told.
      (let cause : LogoutAccepted s past q.entry claims count = cause_of s past q claims legal.3 (record { asked = asked; count = count; replied = told }) in
      row_of-live_rows seen_name seen_life seen_begun now claims.jti (seens past) (rows_distinct seen_name seen_made seen_kept seen_names past)
      ∙ unseen_later q.entry.at now order (row_of seen_name claims.jti (seens past)) cause.unseen) in
      let D : List DeadRow → ℕ = λ rows. length (live_rows seen_life dead_begun now (put dead_name (dead_made (deads past) past q) rows)) in
      let S : List SeenRow → ℕ = λ rows. length (live_rows seen_life seen_begun now (put seen_name (seen_made (seens past) past q) rows)) in
      at_most (D (filter_map (dead_kept past q) (deads past))) (S (filter_map (seen_kept past q) (seens past))) (D (deads past)) (S (seens past))
      (ap D (all_kept (dead_kept past q) (deads past) (λ r. refl)))
      (ap S (all_kept (seen_kept past q) (seens past) (λ r. refl)))
      (put_by past now (length past) q.entry.at q.entry.ask q.reply unseen before)

  pub few_deads : (past : RpPast) (p : RpPair) → IsLegalRp s (p ∷ past) → length (live_deads past p.entry.at) ≤ length (live_seens past p.entry.at)
  few_deads past p legal = few_now past legal.0 p.entry.at legal.2
