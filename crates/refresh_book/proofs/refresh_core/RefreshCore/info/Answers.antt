use Rattle.std.proofs.Common.{◌≡◌, ap, sym, subst, true}
use Rattle.std.specs.Option.{option_copied}
use Rattle.client_registry.specs.Configuration.{Configuration}
use Rattle.refresh_book.specs.Keeps.{is_own_family}
use Rattle.refresh_book.proofs.refresh_core.RefreshCore.info.Goals as goal

pub family_info-requires : goal.family_info-requires
family_info-requires g c =
    let K = λ (r : Configuration). is_own_family r c.in-Some-access_family.family.now ≡ true in
    subst K (sym (ap (λ x. x.registry) c.self.view_is)) (c.access_family.ensures.own c.in-Some-access_family.family.now (ap option_copied c.in-Some-access_family.is))
