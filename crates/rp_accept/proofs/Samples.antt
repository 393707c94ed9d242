-- Which setups are served: one that is, and those that are not.
use Rattle.std.proofs.Common.{◌≡◌, ◌<◌, true, false, codes, refl, ap, arith}
use Rattle.std.specs.Str.{bytes_eq}
use Rattle.rp_accept.specs.Serving.{setup_of, MayServe}
use Rattle.rp_answer.proofs.Sample.{op, sample, shop_setup, hybrid_setup}

the_setup_is_what_it_was_made_of : setup_of sample 0 op ≡ shop_setup
the_setup_is_what_it_was_made_of = refl

a_party_by_code_may_be_served : MayServe shop_setup
a_party_by_code_may_be_served = record { known = omega arith; issuer = refl }

a_hybrid_party_may_too : MayServe hybrid_setup
a_hybrid_party_may_too = record { known = omega arith; issuer = refl }

a_number_of_no_party_may_not : MayServe (record shop_setup { number = 2 }) → ⊥
a_number_of_no_party_may_not may = (let k : 2 < 2 = may.known in absurd (omega (arith, k)))

nor_one_that_trusts_another_issuer : MayServe (record shop_setup { provider = record op { issuer = codes "http://127.0.0.1:8081" } }) → ⊥
nor_one_that_trusts_another_issuer may = (let k : false ≡ true = ap (λ t. bytes_eq t (codes "http://127.0.0.1:8080")) may.issuer in cc)
