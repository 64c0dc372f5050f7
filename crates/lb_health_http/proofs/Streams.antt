-- What calls did to the known bytes of a reader, joined.
use Rattle.std.proofs.Common.{◌≡◌, ℕ, List, [], ◌∷◌, Option, None, Some, Result, Ok, subst}
use Rattle.lb_stream.specs.Stream.{OnBytes, GivesByte}

-- two calls, one after the other
pub OnBytes-then : (P Q S : List ℕ → List ℕ → Type 0) (a b c : Option (List ℕ)) → OnBytes a b P → OnBytes b c Q
    → ((x y z : List ℕ) → P x y → Q y z → S x z) → OnBytes a c S
OnBytes-then P Q S None b c p q f = tt
OnBytes-then P Q S (Some x) None c p q f = absurd p
OnBytes-then P Q S (Some x) (Some y) None p q f = absurd q
OnBytes-then P Q S (Some x) (Some y) (Some z) p q f = f x y z p q

-- one call, in other words
pub OnBytes-map : (P Q : List ℕ → List ℕ → Type 0) (a b : Option (List ℕ)) → OnBytes a b P
    → ((x y : List ℕ) → P x y → Q x y) → OnBytes a b Q
OnBytes-map P Q None b p f = tt
OnBytes-map P Q (Some x) None p f = absurd p
OnBytes-map P Q (Some x) (Some y) p f = f x y p

-- no call
pub OnBytes-here : (P : List ℕ → List ℕ → Type 0) (a : Option (List ℕ)) → ((x : List ℕ) → P x x) → OnBytes a a P
OnBytes-here P None f = tt
OnBytes-here P (Some x) f = f x

-- a call that gave a byte
pub gave_byte : {E : Type 0} (a b : Option (List ℕ)) (r : Result (Option ℕ) E) → OnBytes a b (GivesByte r) → (x : ℕ)
    → r ≡ Ok (Some x) → OnBytes a b (λ s t. s ≡ x ∷ t)
gave_byte {E} a b r g x e = subst (λ (q : Result (Option ℕ) E). OnBytes a b (GivesByte q)) e g

-- and one that found the end
pub gave_none : {E : Type 0} (a b : Option (List ℕ)) (r : Result (Option ℕ) E) → OnBytes a b (GivesByte r)
    → r ≡ Ok None → OnBytes a b (λ s t. (s ≡ []) × (t ≡ []))
gave_none {E} a b r g e = subst (λ (q : Result (Option ℕ) E). OnBytes a b (GivesByte q)) e g
