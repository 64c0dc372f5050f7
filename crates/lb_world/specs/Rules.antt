-- The keys that a registry of a world gives: by identity or by address. In the place of a caller's rule there is identity.
use Rattle.std.specs.Prelude.{◌≡◌}
use Rattle.lb_select_base.specs.Backends.{Member}
use Rattle.lb_health_core.specs.Keys.{by_identity, rule_gives}
use Rattle.lb_health_core.specs.declared.keys.Rule.{Rule}
use Rattle.lb_world.specs.declared.rule.ByIdentity.{ByIdentity}

abbrev pub identity_gives : ByIdentity → Member → Member → Type 0
identity_gives rule b k = k ≡ by_identity b

abbrev pub key_gives : Rule ByIdentity → Member → Member → Type 0
key_gives = rule_gives identity_gives

abbrev pub WorldRule : Type 0
WorldRule = Rule ByIdentity
