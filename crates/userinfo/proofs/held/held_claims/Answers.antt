use Rattle.userinfo.proofs.UserTexts.{user_holds}
use Rattle.userinfo.proofs.held.held_claims.Goals as goal

pub wanted_claims-requires : goal.wanted_claims-requires
wanted_claims-requires c = user_holds c.args.registry.now c.args.user c.user.result.now c.users-users.ensures.registry c.user.ensures
