use Rattle.sso_places.proofs.Objects.{objects_carried}
use Rattle.sso_places.proofs.law.logins_carry_the_written_objects.Goals as goal

pub returns : goal.returns
returns c = objects_carried
