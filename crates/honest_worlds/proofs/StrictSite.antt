-- The small registry with stricter parties: the shop wants a sign-in of the last minute, and the news lets nobody be asked.
use Rattle.std.proofs.Common.{◌≡◌, ℕ, true, [], ◌∷◌, Option, Some, None, codes, refl, arith}
use Rattle.url.proofs.OnLiterals.{url_on_literals}
use Rattle.sso_base.specs.Words.{Text}
use Rattle.registered_url.specs.Rule.{parts_of}
use Rattle.client_registry.specs.declared.records.Party.{Party}
use Rattle.client_registry.specs.Configuration.{Configuration}
use Rattle.client_registry.specs.Registered.{is_prompt_or_none, is_age_or_none, IsParty, FitsClient, IsRegistry}
use Rattle.rp_answer.proofs.Sample.{shop, news, shop_client, news_client}
use Rattle.sso_places.proofs.SmallSite.{configuration, registry}

abbrev pub recent_shop : Party
recent_shop = record shop { max_age = Some 60 }

abbrev pub silent_news : Party
silent_news = record news { prompt = Some (codes "none") }

abbrev pub strict : Configuration
strict = record configuration { parties = recent_shop ∷ silent_news ∷ [] }

-- another prompt and another age change none of the other rules
keeps : (p : Party) (prompt : Option Text) (age : Option ℕ) → is_prompt_or_none prompt ≡ true → is_age_or_none age ≡ true → IsParty p → IsParty (record p { prompt = prompt; max_age = age })
keeps p prompt age words seconds before = record {
  name = before.name;
  listen = before.listen;
  redirect = before.redirect;
  path = before.path;
  names = before.names;
  scope = before.scope;
  prompt = words;
  age = seconds;
  settings = before.settings;
}

shop_fits : FitsClient recent_shop shop_client
shop_fits = record { redirect = refl; logout = refl; logout_of = record { server = refl; path = refl }; number = 0; types = refl; has_type = refl }

news_fits : FitsClient silent_news news_client
news_fits = record { redirect = refl; logout = refl; logout_of = tt; number = 2; types = refl; has_type = refl }

-- what is not of the parties is as before
pub strict_registry : IsRegistry strict
unfolding url_on_literals parts_of
strict_registry =
    record {
      users = registry.users;
      clients = registry.clients;
      parties = omega arith;
      user_ids = registry.user_ids;
      client_ids = registry.client_ids;
      secrets = registry.secrets;
      redirects = registry.redirects;
      issuer_apart = registry.issuer_apart;
      party_names = (refl, (refl, tt));
      not_op = (refl, (refl, tt));
      known = (omega arith, (omega arith, tt));
      fitting = (shop_fits, (news_fits, tt));
      one_party = (refl, (refl, tt));
      rows = registry.rows;
      subjects = registry.subjects;
      subject_rules = registry.subject_rules;
      salt = registry.salt;
      salted = record { within = registry.salted.within; bytes = registry.salted.bytes; made = registry.salted.made };
      issuer = registry.issuer;
      issuer_url = record { query = refl; prefix = refl; secure = refl };
      short_issuer = registry.short_issuer;
      provider = registry.provider;
      listen = registry.listen;
      user_claims = registry.user_claims;
      user_rules = registry.user_rules;
      client_rules = registry.client_rules;
      party_rules = (keeps shop None (Some 60) refl refl registry.party_rules.0, (keeps news (Some (codes "none")) None refl refl registry.party_rules.1.0, tt));
      settings = record { issuer_https = refl; parties_https = refl; workers = refl };
    }
