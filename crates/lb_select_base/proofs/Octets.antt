-- Octets compare one by one as the numbers that they spell, the most significant octet first.
use Rattle.std.specs.Prelude.{◌≡◌, ℕ, ◌+◌, ◌*◌, ◌<◌, ◌≤◌, List, [], ◌∷◌, length, refl}
use Rattle.std.proofs.Common.{sym, ap, ◌∙◌, arith, suc, get_or}
use Rattle.std.specs.Cmp.Lexicographic.{slice_cmp}
use Rattle.std.specs.Int.{w32, w128, from_be_bytes}
use Rattle.std.specs.declared.cmp.Ordering.{Ordering}
use Rattle.std.specs.declared.cmp.Ordering.TheVariants.{Less, Equal, Greater}
use Rattle.std.specs.Ordering.{nat_cmp, ordering_then}
use Rattle.std.proofs.lemmas.Bool.Decides.{nat_tests}
use Rattle.std.proofs.lemmas.Cmp.{ranked, by_ranked}
use Rattle.std.proofs.lemmas.Nat.{mul-le}

less : (a b : ℕ) → a < b → nat_cmp a b ≡ Less
less a b h = grind (arith, nat_tests)

greater : (a b : ℕ) → b < a → nat_cmp a b ≡ Greater
greater a b h = grind (arith, nat_tests)

same : (a : ℕ) → nat_cmp a a ≡ Equal
same a = grind (arith, nat_tests)

-- numbers with the same digits above the last
last_digit : (m p q : ℕ) → nat_cmp (m + p) (m + q) ≡ nat_cmp p q
last_digit m p q =
    by_ranked (p < q) (p ≡ q) (q < p) (nat_cmp p q) (ranked p q _ refl)
    (λ e h. less (m + p) (m + q) (omega arith) ∙ sym e)
    (λ e h. ap (λ z. nat_cmp (m + z) (m + q)) h ∙ same (m + q) ∙ sym e)
    (λ e h. greater (m + p) (m + q) (omega arith) ∙ sym e)

-- two numbers of two digits in base k
pub two_digits : (k x y p q : ℕ) → p < k → q < k → nat_cmp (x * k + p) (y * k + q) ≡ ordering_then (nat_cmp x y) (nat_cmp p q)
two_digits k x y p q hp hq =
    by_ranked (x < y) (x ≡ y) (y < x) (nat_cmp x y) (ranked x y _ refl)
    (λ e h. let room : suc x * k ≤ y * k = mul-le (suc x) k y k (omega arith) (omega arith) in
    less (x * k + p) (y * k + q) (omega arith) ∙ sym (ap (λ o. ordering_then o (nat_cmp p q)) e))
    (λ e h. ap (λ z. nat_cmp (z * k + p) (y * k + q)) h ∙ last_digit (y * k) p q ∙ sym (ap (λ o. ordering_then o (nat_cmp p q)) e))
    (λ e h. let room : suc y * k ≤ x * k = mul-le (suc y) k x k (omega arith) (omega arith) in
    greater (x * k + p) (y * k + q) (omega arith) ∙ sym (ap (λ o. ordering_then o (nat_cmp p q)) e))

-- the number that the octets spell after n
abbrev spelt : ℕ → List ℕ → ℕ
spelt n [] = n
spelt n (b ∷ bs) = spelt (n * 256 + b) bs

then_nothing : (o : Ordering) → o ≡ ordering_then o Equal
then_nothing Less = refl
then_nothing Equal = refl
then_nothing Greater = refl

then_assoc : (o p q : Ordering) → ordering_then (ordering_then o p) q ≡ ordering_then o (ordering_then p q)
then_assoc Less p q = refl
then_assoc Equal p q = refl
then_assoc Greater p q = refl

spelt_cmp : (xs ys : List ℕ) (a b : ℕ) → length xs ≡ length ys → ((i : ℕ) → get_or xs i 0 < 256) → ((i : ℕ) → get_or ys i 0 < 256)
    → nat_cmp (spelt a xs) (spelt b ys) ≡ ordering_then (nat_cmp a b) (slice_cmp nat_cmp xs ys)
spelt_cmp [] [] a b e p q = then_nothing (nat_cmp a b)
spelt_cmp [] (y ∷ ys) a b e p q = absurd (omega arith)
spelt_cmp (x ∷ xs) [] a b e p q = absurd (omega arith)
spelt_cmp (x ∷ xs) (y ∷ ys) a b e p q =
    spelt_cmp xs ys (a * 256 + x) (b * 256 + y) (omega arith) (λ i. p (suc i)) (λ i. q (suc i))
    ∙ ap (λ o. ordering_then o (slice_cmp nat_cmp xs ys)) (two_digits 256 a b x y (p 0) (q 0))
    ∙ then_assoc (nat_cmp a b) (nat_cmp x y) (slice_cmp nat_cmp xs ys)

four_spelt : (xs : List ℕ) → length xs ≡ 4 → from_be_bytes w32 xs ≡ spelt 0 xs
four_spelt (a ∷ b ∷ c ∷ d ∷ []) e = omega arith
four_spelt [] e = absurd (omega arith)
four_spelt (a ∷ []) e = absurd (omega arith)
four_spelt (a ∷ b ∷ []) e = absurd (omega arith)
four_spelt (a ∷ b ∷ c ∷ []) e = absurd (omega arith)
four_spelt (a ∷ b ∷ c ∷ d ∷ f ∷ xs) e = absurd (omega arith)

-- four octets, as those of IPv4
pub four_octets : (xs ys : List ℕ) → length xs ≡ 4 → length ys ≡ 4 → ((i : ℕ) → get_or xs i 0 < 256) → ((i : ℕ) → get_or ys i 0 < 256)
    → nat_cmp (from_be_bytes w32 xs) (from_be_bytes w32 ys) ≡ slice_cmp nat_cmp xs ys
four_octets xs ys l m p q =
    ap (λ x. nat_cmp x (from_be_bytes w32 ys)) (four_spelt xs l) ∙ ap (nat_cmp (spelt 0 xs)) (four_spelt ys m)
    ∙ spelt_cmp xs ys 0 0 (omega arith) p q

sixteen_spelt : (xs : List ℕ) → length xs ≡ 16 → from_be_bytes w128 xs ≡ spelt 0 xs
sixteen_spelt (a ∷ b ∷ c ∷ d ∷ e ∷ f ∷ g ∷ h ∷ i ∷ j ∷ k ∷ l ∷ m ∷ n ∷ o ∷ p ∷ []) r = omega arith
sixteen_spelt [] r = absurd (omega arith)
sixteen_spelt (a ∷ []) r = absurd (omega arith)
sixteen_spelt (a ∷ b ∷ []) r = absurd (omega arith)
sixteen_spelt (a ∷ b ∷ c ∷ []) r = absurd (omega arith)
sixteen_spelt (a ∷ b ∷ c ∷ d ∷ []) r = absurd (omega arith)
sixteen_spelt (a ∷ b ∷ c ∷ d ∷ e ∷ []) r = absurd (omega arith)
sixteen_spelt (a ∷ b ∷ c ∷ d ∷ e ∷ f ∷ []) r = absurd (omega arith)
sixteen_spelt (a ∷ b ∷ c ∷ d ∷ e ∷ f ∷ g ∷ []) r = absurd (omega arith)
sixteen_spelt (a ∷ b ∷ c ∷ d ∷ e ∷ f ∷ g ∷ h ∷ []) r = absurd (omega arith)
sixteen_spelt (a ∷ b ∷ c ∷ d ∷ e ∷ f ∷ g ∷ h ∷ i ∷ []) r = absurd (omega arith)
sixteen_spelt (a ∷ b ∷ c ∷ d ∷ e ∷ f ∷ g ∷ h ∷ i ∷ j ∷ []) r = absurd (omega arith)
sixteen_spelt (a ∷ b ∷ c ∷ d ∷ e ∷ f ∷ g ∷ h ∷ i ∷ j ∷ k ∷ []) r = absurd (omega arith)
sixteen_spelt (a ∷ b ∷ c ∷ d ∷ e ∷ f ∷ g ∷ h ∷ i ∷ j ∷ k ∷ l ∷ []) r = absurd (omega arith)
sixteen_spelt (a ∷ b ∷ c ∷ d ∷ e ∷ f ∷ g ∷ h ∷ i ∷ j ∷ k ∷ l ∷ m ∷ []) r = absurd (omega arith)
sixteen_spelt (a ∷ b ∷ c ∷ d ∷ e ∷ f ∷ g ∷ h ∷ i ∷ j ∷ k ∷ l ∷ m ∷ n ∷ []) r = absurd (omega arith)
sixteen_spelt (a ∷ b ∷ c ∷ d ∷ e ∷ f ∷ g ∷ h ∷ i ∷ j ∷ k ∷ l ∷ m ∷ n ∷ o ∷ []) r = absurd (omega arith)
sixteen_spelt (a ∷ b ∷ c ∷ d ∷ e ∷ f ∷ g ∷ h ∷ i ∷ j ∷ k ∷ l ∷ m ∷ n ∷ o ∷ p ∷ q ∷ xs) r = absurd (omega arith)

-- sixteen octets, as those of IPv6
pub sixteen_octets : (xs ys : List ℕ) → length xs ≡ 16 → length ys ≡ 16 → ((i : ℕ) → get_or xs i 0 < 256) → ((i : ℕ) → get_or ys i 0 < 256)
    → nat_cmp (from_be_bytes w128 xs) (from_be_bytes w128 ys) ≡ slice_cmp nat_cmp xs ys
sixteen_octets xs ys l m p q =
    ap (λ x. nat_cmp x (from_be_bytes w128 ys)) (sixteen_spelt xs l) ∙ ap (nat_cmp (spelt 0 xs)) (sixteen_spelt ys m)
    ∙ spelt_cmp xs ys 0 0 (omega arith) p q
