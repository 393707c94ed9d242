-- A party that was asked for no logout has accepted no logout token.
use Rattle.std.proofs.Common.{◌≡◌, Bool, true, false, [], ◌∷◌, ◌++◌, sym, ap, ◌∙◌, subst, true≢false}
use Rattle.std.specs.List.{AllByRecursion}
use Rattle.sso_base.specs.Words.{Text}
use Rattle.rp_exchange.specs.declared.ask.RpAsk.{RpAsk}
use Rattle.rp_exchange.specs.declared.ask.RpAsk.TheVariants.{Logout}
use Rattle.rp_answer.specs.Past.{RpPair, RpPast}
use Rattle.honest_places.specs.Alive.{IsNotNamed}

abbrev is_logout : RpAsk → Bool
is_logout (Logout claims) = true
is_logout asked = false

abbrev pub HasNoLogout : RpPast → Type 0
HasNoLogout past = AllByRecursion (λ (p : RpPair). is_logout p.entry.ask ≡ false) past

each_is_none : (later earlier : RpPast) (p : RpPair) → HasNoLogout (later ++ p ∷ earlier) → is_logout p.entry.ask ≡ false
each_is_none [] earlier p none = none.0
each_is_none (q ∷ later) earlier p none = each_is_none later earlier p none.1

pub not_named : (past : RpPast) (sid : Text) → HasNoLogout past → IsNotNamed past sid
not_named past sid none later earlier p claims parts accepts named =
    let asked : is_logout p.entry.ask ≡ true = ap is_logout accepts.asked in
    let quiet : is_logout p.entry.ask ≡ false = each_is_none later earlier p (subst HasNoLogout parts none) in
    true≢false (sym asked ∙ quiet)
