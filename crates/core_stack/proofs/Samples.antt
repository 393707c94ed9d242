-- The definitions computed at the steps of a first login of the provider alone, where each request has the mark 7: what each accepts,
-- and what it refuses.
use Rattle.std.proofs.Common.{◌≡◌, ◌∙◌, ℕ, ◌+◌, Bool, true, false, List, [], ◌∷◌, reverse, Option, Some, None, refl, inl, inr, arith}
use Rattle.auth_request.specs.declared.wish.PageNo.TheVariants.{Browser}
use Rattle.op_exchange.specs.declared.ask.OpAsk.{OpAsk}
use Rattle.op_exchange.specs.declared.ask.OpAsk.TheVariants as ask
use Rattle.op_exchange.specs.declared.reply.OpReply.{OpReply}
use Rattle.op_exchange.specs.declared.reply.OpReply.TheVariants as told
use Rattle.op_exchange.specs.Values.{IsOpAsk}
use Rattle.op_exchange.specs.Weight.{ask_weight}
use Rattle.op_exchange.proofs.Sample.{word, sample, wish}
use Rattle.op_answer.specs.Answering.{op_answer}
use Rattle.op_answer.specs.Past.{OpPair}
use Rattle.op_answer.specs.Legal.{IsLegalHistory, IsLegalOp}
use Rattle.op_answer.proofs.FirstLogin.{pair_of, authorize_entry, authorize_gets_login, login_page, past_login, login_entry, consent_page, past_consent, consent_entry, code_answer, past_code}
use Rattle.sso_base.specs.Journal.{most_of}
use Rattle.sso_base.proofs.Histories.{beginning_is_legal}
use Rattle.core_stack.specs.declared.kept.Kept.{Kept}
use Rattle.core_stack.specs.declared.kept.Kept.TheVariants as kept
use Rattle.core_stack.specs.declared.marks.TurnMark.{TurnMark}
use Rattle.core_stack.specs.Stacks.{may_be_own, provider_pair, AddsPair, AddsGiven, AreNotices}
use Rattle.core_stack.specs.OpStack.{op_adds, op_notices_are}
use Rattle.core_stack.specs.Marks.{turn_mark, marked_turns, marked_turn, code_mark, marked_codes, marked_code, mark_in_code}
use Rattle.core_stack.specs.Asked.{TurnAsked, CodeAtForm}
use Rattle.core_stack.specs.Kept.{passed_count, merged}
use Rattle.core_stack.specs.Stacked.{IsStack, IsProvided}
use Rattle.core_stack.specs.Holding.{HoldMarks}

abbrev plain : OpAsk → Option OpAsk
plain asked = Some asked

abbrev given : OpReply → Option OpReply
given reply = Some reply

abbrev seven : OpAsk → ℕ
seven asked = 7

-- ---- the rows with marks

-- the page of an authorization request begins a turn, which stays through the login, and ends with the response
turn_is_marked : marked_turns plain given seven past_login ≡ turn_mark (word 6) 7 1000 ∷ []
turn_is_marked = refl

turn_stays : marked_turns plain given seven past_consent ≡ turn_mark (word 6) 7 1000 ∷ []
turn_stays = refl

turn_has_ended : marked_turns plain given seven past_code ≡ []
turn_has_ended = refl

-- so does a wrong password let it stay
turn_stays_again : marked_turns plain given seven (pair_of login_entry (told.LoginPage (word 6) (word 5) true) ∷ past_login) ≡ turn_mark (word 6) 7 1000 ∷ []
turn_stays_again = refl

-- it lives for 600 seconds
turn_lives : marked_turn plain given seven past_login 1599 (Some (word 6)) ≡ Some (turn_mark (word 6) 7 1000)
turn_lives = refl

turn_is_over : marked_turn plain given seven past_login 1600 (Some (word 6)) ≡ None
turn_is_over = refl

-- the code has the mark of its turn, for 3,720 seconds
code_is_marked : marked_codes plain given seven 0 past_code ≡ code_mark (word 15) 7 1000 ∷ []
code_is_marked = refl

code_is_kept : mark_in_code 0 (marked_code plain given seven 0 past_code 4719 (Some (word 15))) ≡ 7
code_is_kept = refl

code_is_over : mark_in_code 0 (marked_code plain given seven 0 past_code 4720 (Some (word 15))) ≡ 0
code_is_over = refl

-- ---- which request they answer

turn_was_asked : TurnAsked plain given seven past_login (word 6) 7 wish
turn_was_asked =
    record {
      later = [];
      maker = pair_of authorize_entry login_page;
      earlier = [];
      parts = refl;
      browser = None;
      presented = None;
      asked = refl;
      page = login_page;
      answered = refl;
      turn_is = refl;
      mark_is = refl;
    }

not_with_another_mark : TurnAsked plain given seven past_login (word 6) 8 wish → ⊥
not_with_another_mark h = let k : ◌≡◌ {A = ℕ} 7 8 = h.mark_is in absurd (omega (arith, k))

code_was_asked : CodeAtForm plain given seven past_code (word 15) 7 wish
code_was_asked =
    record {
      later = [];
      form = pair_of consent_entry code_answer;
      earlier = past_consent;
      parts = refl;
      request = ask.Consent (Some (word 6)) true (Some (word 5)) (Some (word 9));
      asked = refl;
      response = code_answer;
      answered = refl;
      code_is = refl;
      turn = word 6;
      named = refl;
      begun = record {
        later = pair_of login_entry consent_page ∷ [];
        maker = pair_of authorize_entry login_page;
        earlier = [];
        parts = refl;
        browser = None;
        presented = None;
        asked = refl;
        page = login_page;
        answered = refl;
        turn_is = refl;
        mark_is = refl;
      };
    }

-- ---- the tables

tables_hold : HoldMarks plain given seven 0 past_login 1000 (turn_mark (word 6) 7 1000 ∷ []) []
tables_hold = record { turns_live = refl; turns_begun = refl; codes_live = refl; codes_begun = refl }

-- a row whose life is over need not be there
tables_forget : HoldMarks plain given seven 0 past_login 1600 [] []
tables_forget = record { turns_live = refl; turns_begun = refl; codes_live = refl; codes_begun = refl }

not_without_the_turn : HoldMarks plain given seven 0 past_login 1000 [] [] → ⊥
not_without_the_turn h = let k : ◌≡◌ {A = List (TurnMark ℕ)} [] (turn_mark (word 6) 7 1000 ∷ []) = h.turns_live in absurd (cc)

-- ---- what a step adds

login_is_added : AddsPair 1000 authorize_entry.fresh (Some authorize_entry.ask) login_page [] (pair_of authorize_entry login_page ∷ [])
login_is_added = op_adds [] (pair_of authorize_entry login_page)

refusal_adds_nothing : AddsGiven 1000 [] (Some authorize_entry.ask) None [] []
refusal_adds_nothing = inl refl

error_page_is_hidden : AddsGiven 1000 [] (Some ask.Twice) None [] (provider_pair 1000 [] ask.Twice (told.ErrorPage Browser) ∷ [])
error_page_is_hidden = inr (record { pair = provider_pair 1000 [] ask.Twice (told.ErrorPage Browser); added = refl; moment = refl; words = refl; hidden = refl })

page_is_not_its_own : may_be_own login_page ≡ false
page_is_not_its_own = refl

-- the provider alone is a core that the provider is in
provider_is_a_stack : IsStack plain given (λ h. h) (IsLegalHistory sample) sample
provider_is_a_stack =
    record {
      begins = refl;
      beginnings = beginning_is_legal IsOpAsk (op_answer sample) ask_weight (most_of sample.lasting);
      provider = λ h legal. legal.past;
      adds = λ h p legal. op_adds h p;
    }

-- each legal past of it, whatever it weighs, is one over which the laws of cores around it are said
pub is_provided : (h : List OpPair) → IsLegalOp sample (reverse h) → IsProvided plain given given (λ l. l) sample h
is_provided h legal = record { provider = legal; adds = λ front rest p parts. op_adds front p; gives = λ front rest p r parts is own. is }

-- and no other
another_reply-is_not_provided : IsProvided plain given given (λ l. l) sample (pair_of authorize_entry told.NotHere ∷ []) → ⊥
another_reply-is_not_provided is = let led : told.NotHere ≡ login_page = is.provider.3 ∙ authorize_gets_login in cc

-- ---- messages

abbrev sign_out_pair : OpPair
sign_out_pair = provider_pair 1000 [] (ask.SignOut None) (told.SignedOut [])

sign_out-has_messages : AreNotices (Some []) [] (sign_out_pair ∷ [])
sign_out-has_messages = (sign_out_pair, refl, refl)

sign_out-has_not_none : AreNotices None [] (sign_out_pair ∷ []) → ⊥
sign_out-has_not_none h = let k : ◌≡◌ {A = Bool} true false = h sign_out_pair refl in absurd (cc)

page-has_none : AreNotices None [] (pair_of authorize_entry login_page ∷ [])
page-has_none = op_notices_are [] (pair_of authorize_entry login_page)

-- ---- what is kept

abbrev kept_three : List (Kept ℕ ℕ)
kept_three = kept.Passed 1 ∷ kept.Own 2 ∷ kept.Passed 3 ∷ []

two_are_passed : passed_count kept_three ≡ 2
two_are_passed = refl

in_their_order : merged (λ (k p : ℕ). k + p) (λ (e : ℕ). e) kept_three (10 ∷ 20 ∷ []) ≡ 11 ∷ 2 ∷ 23 ∷ []
in_their_order = refl
