-- The name of a member, and the moment at which it begins.
use Rattle.std.specs.Prelude.{ℕ}
use Rattle.sso_base.specs.Words.{Text}
use Rattle.base_cases.specs.declared.members.Member.{Member}

abbrev pub member_name : Member → Text
member_name member = member.name

abbrev pub member_begun : Member → ℕ
member_begun member = member.begun
