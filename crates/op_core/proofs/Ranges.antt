-- The numbers that rows hold are small, where their wishes and users are of the registry.
use Rattle.std.proofs.Common.{◌≡◌, ◌<◌, ◌≤◌, ℕ, Bool, true, false, ◌&&◌, length, refl, arith}
use Rattle.std.proofs.lemmas.Bool.{ltb-true, and_from}
use Rattle.client_registry.specs.Configuration.{Configuration}
use Rattle.client_registry.specs.Numbers.{is_client, is_user}
use Rattle.client_registry.specs.Registered.{IsRegistry}
use Rattle.auth_request.specs.declared.wish.Wish.{Wish}
use Rattle.auth_request.specs.Values.{is_short_nonce}
use Rattle.op_exchange.specs.Asks.{is_prepared_wish}

first_true : (a b c : Bool) → (a && b && c) ≡ true → a ≡ true
first_true true b c h = refl
first_true false b c h = cc

pub user_in_range : (c : Configuration) (user : ℕ) → IsRegistry c → is_user c user ≡ true → user < 512
user_in_range c user registry h =
    let low : user < length c.users = ltb-true user (length c.users) h in
    let most : length c.users ≤ 512 = registry.users in
    omega (arith, low, most)

pub client_in_range : (c : Configuration) (wish : Wish) → IsRegistry c → is_prepared_wish c wish ≡ true → wish.client < 128
client_in_range c wish registry h =
    let client : is_client c wish.client ≡ true = first_true (is_client c wish.client) (is_short_nonce wish.nonce) wish.scopes.openid h in
    let low : wish.client < length c.clients = ltb-true wish.client (length c.clients) client in
    let most : length c.clients ≤ 128 = registry.clients in
    omega (arith, low, most)

-- a token of a user and a wish of the registry is an own one
pub token_is_own : (c : Configuration) (wish : Wish) (user : ℕ) → is_user c user ≡ true → is_prepared_wish c wish ≡ true → (is_user c user && is_client c wish.client) ≡ true
token_is_own c wish user known h = and_from (is_user c user) (is_client c wish.client) known (first_true (is_client c wish.client) (is_short_nonce wish.nonce) wish.scopes.openid h)
