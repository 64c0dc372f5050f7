-- Health keys: backends of one key share their health. A key is a backend with nothing attached.
-- Upstream keys health by the backend's hash; here identity and address are keys themselves, and a caller's rule gives numbers.
use Rattle.std.specs.Prelude.{◌≡◌, ℕ, [], ◌∷◌}
use Rattle.lb_select_base.specs.AddressText.{bare_member}
use Rattle.lb_select_base.specs.Backends.{Member, ipv4}
use Rattle.lb_health_core.specs.declared.keys.Rule.{Rule}
use Rattle.lb_health_core.specs.declared.keys.Rule.TheVariants.{Identity, Address, Equivalence}

-- the key of a backend by its address and weight
abbrev pub by_identity : Member → Member
by_identity b = bare_member b.weight b.address

-- the key of a backend by its address alone
abbrev pub by_address : Member → Member
by_address b = bare_member 0 b.address

-- the key of a number
abbrev pub by_number : ℕ → Member
by_number n = bare_member n (ipv4 (0 ∷ 0 ∷ 0 ∷ 0 ∷ []) 0)

-- the rule, which may give these keys, is this function of the backend
abbrev pub IsRuleOf : {R : Type 0} → (R → Member → Member → Type 0) → R → (Member → Member) → Type 0
IsRuleOf gives rule key_of = (b k : Member) → gives rule b k → k ≡ key_of b

-- the keys that a rule gives, where those of a caller's rule are given
abbrev pub rule_gives : {N : Type 0} → (N → Member → Member → Type 0) → Rule N → Member → Member → Type 0
rule_gives gives Identity b k = k ≡ by_identity b
rule_gives gives Address b k = k ≡ by_address b
rule_gives gives (Equivalence rule) b k = gives rule b k
