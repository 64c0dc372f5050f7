-- Which fields a table has, as its entries are gone over.
use Rattle.std.proofs.Common.{◌≡◌, ◌||◌, ℕ, true, false, map, eqb, List, [], ◌∷◌, Option, Some, IsSome}
use Rattle.std.proofs.Common.{String, Global, string_bytes}
use Rattle.std.proofs.Common.{Ordering, Less, Equal, Greater, nat_cmp, is_eq, refl, ap, sym, subst, ◌∙◌}
use Rattle.std.proofs.lemmas.Cmp.{nat_list_cmp_total, tied_itself}
use Rattle.std.proofs.lemmas.Bool.{false≢true}
use Rattle.std.specs.List.{list_any}
use Rattle.std.specs.Cmp.Lexicographic.{pointwise, slice_cmp, bytes_decides, texts_ties}
use Rattle.std.specs.Ordering.{match_ordering}
use Rattle.toml.specs.Data.{Data, get_member}
use Rattle.toml.specs.View.{members_view}
use Rattle.toml.specs.declared.value.Value.{Value}
use Rattle.lb_proxy.specs.Config.{Part, Said, HasOnly, IsUnknown, is_among}
use Rattle.lb_proxy.specs.declared.config_fault.Cause.TheVariants as cause

-- what is left of the entries has all that may be wrong with the fields, and no field that the table has not
pub record StillOnly (known : List (List ℕ)) (part : Part) (rest : List (String Global × Value)) : Type 0 where
  pub all : HasOnly known (part.0, members_view rest) → HasOnly known part
  pub some : (field : List ℕ) → IsSome (get_member field (members_view rest)) → IsSome (get_member field part.1)

pub whole : (known : List (List ℕ)) (part : Part) (es : List (String Global × Value)) → part.1 ≡ members_view es → StillOnly known part es
whole known part es is = record {
  all = λ h field there. h field (subst (λ ms. IsSome (get_member field ms)) is there);
  some = λ field there. subst (λ ms. IsSome (get_member field ms)) (sym is) there;
}

-- a name that compares as equal is the same
same_field : (a b : List ℕ) → slice_cmp nat_cmp a b ≡ Equal → a ≡ b
same_field a b e = (bytes_decides a b).0 (texts_ties a b ∙ ap is_eq e)

-- one entry more
more_by : (o : Ordering) (g : Option Data) (d : Data) → IsSome g → IsSome (match_ordering o g (Some d) g)
more_by Less g d h = h
more_by Equal g d h = refl
more_by Greater g d h = h

here_by : (o : Ordering) (g : Option Data) (d : Data) → o ≡ Equal → IsSome (match_ordering o g (Some d) g)
here_by Less g d e = absurd (cc)
here_by Equal g d e = refl
here_by Greater g d e = absurd (cc)

known_by : (known : List (List ℕ)) (field name : List ℕ) (o : Ordering) (g : Option Data) (d : Data) → o ≡ slice_cmp nat_cmp field name
    → (IsSome g → is_among known field ≡ true) → is_among known name ≡ true → IsSome (match_ordering o g (Some d) g)
    → is_among known field ≡ true
known_by known field name Less g d is rest here h = rest h
known_by known field name Equal g d is rest here h = subst (λ n. is_among known n ≡ true) (sym (same_field field name (sym is))) here
known_by known field name Greater g d is rest here h = rest h

pub one_known : (known : List (List ℕ)) (part : Part) (k : String Global) (v : Value) (rest : List (String Global × Value))
    → StillOnly known part ((k, v) ∷ rest) → is_among known (string_bytes k) ≡ true → StillOnly known part rest
one_known known part k v rest still is = record {
  all = λ h. still.all (λ field there. known_by known field (string_bytes k) _ _ _ refl (h field) is there);
  some = λ field there. still.some field (more_by (slice_cmp nat_cmp field (string_bytes k)) _ _ there);
}

pub none_left : (known : List (List ℕ)) (part : Part) → StillOnly known part [] → HasOnly known part
none_left known part still = still.all (λ field there. absurd (false≢true there))

pub is_there : (known : List (List ℕ)) (part : Part) (k : String Global) (v : Value) (rest : List (String Global × Value))
    → StillOnly known part ((k, v) ∷ rest) → IsSome (get_member (string_bytes k) part.1)
is_there known part k v rest still =
    still.some (string_bytes k) (here_by (slice_cmp nat_cmp (string_bytes k) (string_bytes k)) _ _
    (tied_itself nat_list_cmp_total (string_bytes k)))

-- names as they are seen
pub among_seen : {A : Type 0} (f : A → List ℕ) (known : List A) (name : List ℕ)
    → list_any (λ other. pointwise eqb (f other) name) known ≡ is_among (map f known) name
among_seen f [] name = refl
among_seen f (k ∷ ks) name = ap (λ rest. pointwise eqb (f k) name || rest) (among_seen f ks name)

-- a fault of a name that the part has, and that is none of the known ones
pub unknown_there : (known : List (List ℕ)) (part : Part) (fault : Said) (name bytes : List ℕ) → fault ≡ (part.0, name, cause.Unknown)
    → name ≡ bytes → IsSome (get_member bytes part.1) → is_among known bytes ≡ false → IsUnknown known part fault
unknown_there known part fault name bytes is same there other =
    subst (IsUnknown known part) (sym (is ∙ ap (λ n. (part.0, n, cause.Unknown)) same)) (record {
      there = there;
      unknown = other;
      says = refl;
    })
