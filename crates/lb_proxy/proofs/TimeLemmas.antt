-- Ends of a text, and the units that they name.
use Rattle.std.proofs.Common.{◌≡◌, ℕ, ◌≤◌, ◌+◌, List, length, Option, Some, None, MatchOption, option_map}
use Rattle.std.proofs.Common.{Bor, refl, sym, true, false, eqb, arith}
use Rattle.std.proofs.lemmas.Str.Pattern.{ends_text}
use Rattle.std.specs.List.{ends_with}
use Rattle.std.specs.Str.Pattern.{StripsSuffix, FindsTextSuffix}
use Rattle.lb_proxy.specs.Config.{cut}

within : (a b c : ℕ) → a + b ≡ c → b ≤ c
within a b c e = grind arith

-- a text that has the end, and one that has not
cut_some : (end text x : List ℕ) → StripsSuffix (FindsTextSuffix end) text x → Some x ≡ cut end text
cut_some end text x (k, (same, split, bound), is, count) =
    let has : ends_with eqb text end ≡ true =
    sym (ends_text true end text (k, (same, split, bound), within (length x) k (length text) count, rw same bound)) in
    rw (has, is, same) refl

cut_none : (end text : List ℕ) → FindsTextSuffix end text None → None ≡ cut end text
cut_none end text none = rw (← ends_text false end text none) refl

pub cut_is : (end text : List ℕ) (r : Option (Bor (List ℕ)))
    → MatchOption r (FindsTextSuffix end text None) (λ x. StripsSuffix (FindsTextSuffix end) text x.now)
    → option_map (λ rest. rest.now) r ≡ cut end text
cut_is end text None h = cut_none end text h
cut_is end text (Some x) h = cut_some end text x.now h
