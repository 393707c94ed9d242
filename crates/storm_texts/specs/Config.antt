-- The configuration of a storm: two users, and three clients, each of which is a party and has the users' consent.
use Rattle.std.specs.Prelude.{◌++◌, codes}
use Rattle.sso_base.specs.Words.{Text}

-- the version, and a provider on this machine
unfoldable pub provider_text : Text
provider_text =
    codes "version = 1\n"
    ++ codes "[provider]\n"
    ++ codes "issuer = \"http://127.0.0.1:8080\"\n"
    ++ codes "listen = \"127.0.0.1:8080\"\n"
    ++ codes "salt = \"00112233445566778899aabbccddeeff\"\n"

-- the users `alice` and `bob`, both with the password `password`
unfoldable pub users_text : Text
users_text =
    codes "[[user]]\n"
    ++ codes "id = \"alice\"\n"
    ++ codes "salt = \"73616c74\"\n"
    ++ codes "rounds = 1\n"
    ++ codes "proof = \"120fb6cffcf8b32c43e7225256c4f837a86548c92ccc35480805987cb70be17b\"\n"
    ++ codes "[user.claims]\n"
    ++ codes "name = \"Alice Adams\"\n"
    ++ codes "email = \"alice@example.org\"\n"
    ++ codes "email_verified = true\n"
    ++ codes "[[user]]\n"
    ++ codes "id = \"bob\"\n"
    ++ codes "salt = \"73616c74\"\n"
    ++ codes "rounds = 2\n"
    ++ codes "proof = \"ae4d0c95af6b46d32d0adff928f06dd02a303f8ef3c251dfd6e2d85a95474c43\"\n"

-- the clients of the parties
unfoldable pub clients_text : Text
clients_text =
    codes "[[client]]\n"
    ++ codes "id = \"shop-client\"\n"
    ++ codes "secret = \"shop-secret-shop-secret-shop-secret\"\n"
    ++ codes "consent = \"given\"\n"
    ++ codes "redirect_uris = [\"http://127.0.0.1:8081/cb\"]\n"
    ++ codes "logout_uri = \"http://127.0.0.1:8081/logout\"\n"
    ++ codes "logout_session = true\n"
    ++ codes "[[client]]\n"
    ++ codes "id = \"news-client\"\n"
    ++ codes "secret = \"news-secret-news-secret-news-secret\"\n"
    ++ codes "redirect_uris = [\"http://127.0.0.1:8082/cb\"]\n"
    ++ codes "response_types = [\"id_token token\"]\n"
    ++ codes "consent = \"given\"\n"
    ++ codes "logout_uri = \"http://127.0.0.1:8082/logout\"\n"
    ++ codes "[[client]]\n"
    ++ codes "id = \"mail-client\"\n"
    ++ codes "secret = \"mail-secret-mail-secret-mail-secret\"\n"
    ++ codes "redirect_uris = [\"http://127.0.0.1:8083/cb\"]\n"
    ++ codes "response_types = [\"code id_token\"]\n"
    ++ codes "consent = \"given\"\n"

-- the parties `shop`, `news` and `mail`: one each for the code flow, the implicit flow and the hybrid flow
unfoldable pub parties_text : Text
parties_text =
    codes "[[party]]\n"
    ++ codes "name = \"shop\"\n"
    ++ codes "client = \"shop-client\"\n"
    ++ codes "redirect_uri = \"http://127.0.0.1:8081/cb\"\n"
    ++ codes "listen = \"127.0.0.1:8081\"\n"
    ++ codes "scope = \"openid profile\"\n"
    ++ codes "[[party]]\n"
    ++ codes "name = \"news\"\n"
    ++ codes "client = \"news-client\"\n"
    ++ codes "redirect_uri = \"http://127.0.0.1:8082/cb\"\n"
    ++ codes "listen = \"127.0.0.1:8082\"\n"
    ++ codes "response_type = \"id_token token\"\n"
    ++ codes "[[party]]\n"
    ++ codes "name = \"mail\"\n"
    ++ codes "client = \"mail-client\"\n"
    ++ codes "redirect_uri = \"http://127.0.0.1:8083/cb\"\n"
    ++ codes "listen = \"127.0.0.1:8083\"\n"
    ++ codes "response_type = \"code id_token\"\n"
    ++ codes "scope = \"openid email\"\n"
    ++ codes "userinfo = true\n"
    ++ codes "signed = true\n"

unfoldable pub config_text : Text
config_text = provider_text ++ users_text ++ clients_text ++ parties_text
