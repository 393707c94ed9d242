-- The endpoint of a path is that of a route that is listed, and the other way round.
use Rattle.std.proofs.Common.{◌≡◌, inl, inr, List, [], ◌∷◌, Bool, true, false, cond, Some, refl, sym, subst}
use Rattle.std.specs.List.{AllByRecursion}
use Rattle.std.specs.Str.{bytes_eq}
use Rattle.std.proofs.lemmas.Slice.Eq.{bytes_eq-Decides}
use Rattle.sso_base.specs.Lists.{Has}
use Rattle.sso_base.specs.Words.{Text}
use Rattle.oidc_words.specs.Routes.{Route, endpoint_of}

module _ {E : Type 0} where
  one_endpoint : (d e : E) → Some d ≡ Some e → d ≡ e
  one_endpoint d e h = cc

  same_route : (r : Route E) (path : Text) (e : E) → r.0 ≡ path → r.1 ≡ e → r ≡ (path, e)
  same_route r path e p q = λ i. (p i, q i)

  listed_at : (r : Route E) (rs : List (Route E)) (path : Text) (e : E) (b : Bool) → bytes_eq path r.0 ≡ b
      → (endpoint_of rs path ≡ Some e → Has rs (path, e))
      → cond b (Some r.1) (endpoint_of rs path) ≡ Some e → Has (r ∷ rs) (path, e)
  listed_at r rs path e true is later h = inl (same_route r path e (sym ((bytes_eq-Decides path r.0).0 is)) (one_endpoint r.1 e h))
  listed_at r rs path e false is later h = inr (later h)

  pub found_listed : (rs : List (Route E)) (path : Text) (e : E) → endpoint_of rs path ≡ Some e → Has rs (path, e)
  found_listed [] path e h = absurd (cc)
  found_listed (r ∷ rs) path e h = listed_at r rs path e (bytes_eq path r.0) refl (found_listed rs path e) h

  -- each of the routes is the first of its path
  abbrev pub AreFirst : List (Route E) → List (Route E) → Type 0
  AreFirst all rs = AllByRecursion (λ (r : Route E). endpoint_of all r.0 ≡ Some r.1) rs

  pub listed_found : (all rs : List (Route E)) → AreFirst all rs → (p : Route E) → Has rs p → endpoint_of all p.0 ≡ Some p.1
  listed_found all [] first p h = absurd h
  listed_found all (r ∷ rs) first p (inl is) = subst (λ (q : Route E). endpoint_of all q.0 ≡ Some q.1) is first.0
  listed_found all (r ∷ rs) first p (inr later) = listed_found all rs first.1 p later
