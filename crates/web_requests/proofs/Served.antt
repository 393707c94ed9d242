-- What a role reads at a path that it serves.
use Rattle.std.proofs.Common.{◌≡◌, ◌<◌, ◌++◌, ℕ, [], length, codes, false, Option, Some, option_and_then, refl, ap, ◌∙◌, subst}
use Rattle.std.specs.Prelude.{IfSome}
use Rattle.std.specs.Str.{bytes_eq}
use Rattle.sso_base.specs.Words.{Text}
use Rattle.sso_base.specs.declared.http.Ask.{Ask}
use Rattle.sso_base.proofs.RowLaws.{bytes_true, bytes_turn}
use Rattle.oidc_words.specs.Paths.{leave_path}
use Rattle.oidc_words.specs.Routes.{endpoint_of}
use Rattle.client_registry.specs.declared.records.Party.{Party}
use Rattle.client_registry.specs.Configuration.{Configuration}
use Rattle.client_registry.specs.Numbers.{party_row, party_client, no_party}
use Rattle.client_registry.specs.Registered.{IsRegistry}
use Rattle.op_request.specs.Routes as op_routes
use Rattle.op_request.specs.Prepared as op
use Rattle.op_request.proofs.Routing.{below_front}
use Rattle.rp_request.specs.Routes as rp_routes
use Rattle.rp_request.specs.Prepared as rp
use Rattle.rp_request.proofs.Parties.{redirects_elsewhere, IsApart, logs_out_elsewhere}
use Rattle.web_requests.proofs.RegistryRows.{some_row}

-- ---- paths that another route does not hide: a path without a name of its own stands for the endpoint

leave_route : (redirection : Text) (logout : Option Text) → bytes_eq leave_path redirection ≡ false → endpoint_of (rp_routes.post_routes redirection logout) leave_path ≡ endpoint_of (rp_routes.post_routes [] logout) leave_path
leave_route redirection logout h = rw h refl

logout_route : (redirection path : Text) → bytes_eq path redirection ≡ false → bytes_eq path leave_path ≡ false
    → endpoint_of (rp_routes.post_routes redirection (Some path)) path ≡ endpoint_of (rp_routes.post_routes [] (Some (codes "/l"))) (codes "/l")
logout_route redirection path h k = rw (h, k, bytes_true path path refl) refl

-- ---- the roles

-- the provider, below the path of its issuer
pub provider_reads : (c : Configuration) (request : Ask) (rest : Text) → request.path ≡ c.prefix ++ rest → op.prepared c request ≡ op.asked_at c request (endpoint_of (op_routes.routes_of request.method) rest)
unfolding op.prepared
provider_reads c request rest is =
    ap (λ path. op.asked_at c request (option_and_then (endpoint_of (op_routes.routes_of request.method)) (op_routes.below c.prefix path))) is
    ∙ ap (λ o. op.asked_at c request (option_and_then (endpoint_of (op_routes.routes_of request.method)) o)) (below_front c.prefix rest)

module _ (c : Configuration) (n : ℕ) (r : IsRegistry c) (low : n < length c.parties) where
  abbrev party : Party
  party = party_row c n

  -- a party of the registry
  pub party_reads : (request : Ask)
      → rp.prepared c n request ≡ rp.asked_at (party_client c n) party.types request (rp_routes.endpoint_asked party.redirect_url.path (rp.logout_path c party) request)
  unfolding rp.prepared
  party_reads request =
      ap (λ o. rp.asked_at (party_client c n) party.types request (option_and_then (λ (p : Party). rp_routes.endpoint_asked p.redirect_url.path (rp.logout_path c p) request) o)) (some_row c.parties n no_party low)

  leaves_elsewhere : bytes_eq leave_path party.redirect_url.path ≡ false
  leaves_elsewhere = bytes_turn party.redirect_url.path leave_path (redirects_elsewhere c n party r (some_row c.parties n no_party low)).leave

  pub leave_asked : endpoint_of (rp_routes.post_routes party.redirect_url.path (rp.logout_path c party)) leave_path ≡ endpoint_of (rp_routes.post_routes [] (rp.logout_path c party)) leave_path
  leave_asked = leave_route party.redirect_url.path (rp.logout_path c party) leaves_elsewhere

  pub logout_asked : (path : Text) → rp.logout_path c party ≡ Some path
      → endpoint_of (rp_routes.post_routes party.redirect_url.path (rp.logout_path c party)) path ≡ endpoint_of (rp_routes.post_routes [] (Some (codes "/l"))) (codes "/l")
  logout_asked path is =
      let P : Option Text → Type 0 = λ o. IfSome o (IsApart party) in
      let apart : IsApart party path = subst P is (logs_out_elsewhere c n party r (some_row c.parties n no_party low)) in
      ap (λ o. endpoint_of (rp_routes.post_routes party.redirect_url.path o) path) is ∙ logout_route party.redirect_url.path path apart.redirect apart.leave
