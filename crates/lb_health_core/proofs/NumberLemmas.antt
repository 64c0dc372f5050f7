-- The numbering of a change's keys, one by one, with the cells that it stores; and how many keys start.
use Rattle.std.proofs.Common.{◌≡◌, ◌<◌, ◌≤◌, ◌+◌, ◌^◌, ℕ, Bool, true, false, cond, not, List, [], ◌∷◌, ◌++◌, length, reverse, filter}
use Rattle.std.proofs.Common.{count_by, Option, Some, None, refl, sym, ap, subst, ◌∙◌, arith, length-append, ◌≢◌}
use Rattle.std.proofs.lemmas.List.{length-reverse}
use Rattle.std.proofs.lemmas.List.Sums.{length-filter}
use Rattle.std.proofs.lemmas.Option.{same_Some}
use Rattle.std.specs.declared.cmp.Ordering.{Ordering}
use Rattle.std.specs.BTreeMap.{is_at}
use Rattle.std.specs.Cmp.{IsTotalOrder, eq_by_cmp_equiv, unsigned_tied}
use Rattle.std.specs.Option.{IsSomeAnd, is_some}
use Rattle.std.specs.Ordering.{eq_by_cmp, nat_cmp}
use borrow.Author.Tests.{ne_eqb}
use Rattle.lb_health_core.specs.declared.table.Cell.{Cell}
use Rattle.lb_health_core.specs.Internal.Changing.{AreStored}
use Rattle.lb_health_core.specs.Starts.{is_target, starts, latest_start, cell_now, value_at, IsNumbered}
use Rattle.lb_health_core.specs.Verdicts.{IsHealthAfter}
use Rattle.lb_health_core.proofs.CellLemmas.{either, cond_is, cell_now-same, cell_now-lt, cell_now-some, starts-push, starts-grow}
use Rattle.lb_health_core.proofs.CellLemmas.{cell_now-push, number_of}

-- another number is at another place
pub below_apart : (c d : ℕ) → d < c → d ≢ c
below_apart c d l e = omega arith

pub apart : (c d : ℕ) → d < c → is_at (nat_cmp c) d ≡ false
apart c d l = let ne : c ≡ d → ⊥ = λ e. omega arith in unsigned_tied c d ∙ ne_eqb c d ne

module _ {K : Type 0} {cmp : K → K → Ordering} (total : IsTotalOrder cmp) where
  -- no key of the change yet
  pub numbered-none :
      (all : List (List K)) (by_key : List (K × ℕ)) (next : ℕ) → IsNumbered cmp all by_key next → IsNumbered cmp ([] ∷ all) [] next
  numbered-none all by_key next n = record { given = n.given; cells = λ q. refl }

  pub stored-none : (all : List (List K)) (first : ℕ) (start : Bool) (cells : List (ℕ × Cell K))
      → AreStored cmp first start ([] ∷ all) cells
  stored-none all first start cells k c e l = absurd (cc)

  -- one more key, which keeps its cell
  pub numbered-had :
      (all : List (List K)) (xs : List K) (x : K) (by_key more : List (K × ℕ)) (next cell : ℕ)
      → IsNumbered cmp (xs ∷ all) by_key next → cell_now (eq_by_cmp cmp) all x ≡ Some cell
      → ((q : K) → value_at cmp more q ≡ cond (is_at (cmp x) q) (Some cell) (value_at cmp by_key q))
      → IsNumbered cmp ((xs ++ x ∷ []) ∷ all) more next
  numbered-had all xs x by_key more next cell n had u =
      let same : K → K → Bool = eq_by_cmp cmp in
      let laws = eq_by_cmp_equiv total in
      let t : is_target same all x ≡ true = (cond_is (is_target same all x) (latest_start same (starts same all) x) cell had).0 in
      let number : number_of laws all xs x ≡ Some cell
      = ap (λ b. cond b (cell_now same all x) (Some (length (starts same (xs ∷ all))))) t ∙ had in
      record {
        given =
            n.given ∙ ap length (sym (starts-push laws all xs x
            ∙ ap (λ b. cond b (starts same (xs ∷ all)) (x ∷ starts same (xs ∷ all))) t));
        cells = λ q.
            u q ∙ ap (cond (same x q) (Some cell)) (n.cells q)
            ∙ sym (cell_now-push laws all xs x q ∙ ap (λ o. cond (same x q) o (cell_now same (xs ∷ all) q)) number);
      }

  -- one more key, which starts
  pub numbered-new :
      (all : List (List K)) (xs : List K) (x : K) (by_key more : List (K × ℕ)) (next : ℕ)
      → IsNumbered cmp (xs ∷ all) by_key next → is_target (eq_by_cmp cmp) all x ≡ false
      → ((q : K) → value_at cmp more q ≡ cond (is_at (cmp x) q) (Some next) (value_at cmp by_key q))
      → IsNumbered cmp ((xs ++ x ∷ []) ∷ all) more (next + 1)
  numbered-new all xs x by_key more next n f u =
      let same : K → K → Bool = eq_by_cmp cmp in
      let laws = eq_by_cmp_equiv total in
      let number : number_of laws all xs x ≡ Some next
      = ap (λ b. cond b (cell_now same all x) (Some (length (starts same (xs ∷ all))))) f ∙ ap Some (sym n.given) in
      let longer : length (starts same ((xs ++ x ∷ []) ∷ all)) ≡ length (x ∷ starts same (xs ∷ all))
      = ap length (starts-push laws all xs x ∙ ap (λ b. cond b (starts same (xs ∷ all)) (x ∷ starts same (xs ∷ all))) f) in
      record {
        given = omega (arith, n.given, longer);
        cells = λ q.
            u q ∙ ap (cond (same x q) (Some next)) (n.cells q)
            ∙ sym (cell_now-push laws all xs x q ∙ ap (λ o. cond (same x q) o (cell_now same (xs ∷ all) q)) number);
      }

  -- the cells of targets with numbers below a bound are stored still, where all below it stayed
  pub stored-stays :
      (all : List (List K)) (first : ℕ) (start : Bool) (cells more : List (ℕ × Cell K)) (bound : ℕ)
      → length (starts (eq_by_cmp cmp) all) ≤ bound → ((c : ℕ) → c < bound → value_at nat_cmp more c ≡ value_at nat_cmp cells c)
      → AreStored cmp first start all cells → AreStored cmp first start all more
  stored-stays all first start cells more bound fits same stored k c e l =
      let P : Option (Cell K) → Type 0 = λ o. IsSomeAnd o (λ x. (eq_by_cmp cmp k x.key ≡ true) × IsHealthAfter start [] x.health) in
      let lt : c < length (starts (eq_by_cmp cmp) all) = cell_now-lt (eq_by_cmp_equiv total) all k c e in
      subst P (sym (same c (omega arith))) (stored k c e l)

  -- the cell of a key after one more key of a change: that key's, or the one before
  cell_after :
      (all : List (List K)) (xs : List K) (x k : K) (c : ℕ) (b : Bool) → eq_by_cmp cmp x k ≡ b
      → cell_now (eq_by_cmp cmp) ((xs ++ x ∷ []) ∷ all) k ≡ Some c
      → cond b (number_of (eq_by_cmp_equiv total) all xs x) (cell_now (eq_by_cmp cmp) (xs ∷ all) k) ≡ Some c
  cell_after all xs x k c b s e =
      let laws = eq_by_cmp_equiv total in
      sym (ap (λ t. cond t (number_of laws all xs x) (cell_now (eq_by_cmp cmp) (xs ∷ all) k)) s) ∙ sym (cell_now-push laws all xs x k) ∙ e

  pub stored-had :
      (all : List (List K)) (xs : List K) (x : K) (cell first : ℕ) (start : Bool) (cells : List (ℕ × Cell K))
      → cell_now (eq_by_cmp cmp) all x ≡ Some cell → AreStored cmp first start all cells → AreStored cmp first start (xs ∷ all) cells
      → AreStored cmp first start ((xs ++ x ∷ []) ∷ all) cells
  stored-had all xs x cell first start cells had before stored k c e l =
      let same : K → K → Bool = eq_by_cmp cmp in
      let laws = eq_by_cmp_equiv total in
      let t : is_target same all x ≡ true = (cond_is (is_target same all x) (latest_start same (starts same all) x) cell had).0 in
      either (same x k)
      (λ s.
      let number : number_of laws all xs x ≡ Some c = cell_after all xs x k c true s e in
      let here : cell_now same all x ≡ Some c
      = sym (ap (λ b. cond b (cell_now same all x) (Some (length (starts same (xs ∷ all))))) t) ∙ number in
      before k c (cell_now-same laws all k x (laws.symm k x ∙ s) ∙ here) l)
      (λ s. stored k c (cell_after all xs x k c false s e) l)

  pub stored-new :
      (all : List (List K)) (xs : List K) (x : K) (next first : ℕ) (start : Bool) (cells more : List (ℕ × Cell K)) (made : Cell K)
      → is_target (eq_by_cmp cmp) all x ≡ false → next ≡ length (starts (eq_by_cmp cmp) (xs ∷ all))
      → made.key ≡ x → IsHealthAfter start [] made.health
      → value_at nat_cmp more next ≡ Some made → ((c : ℕ) → c < next → value_at nat_cmp more c ≡ value_at nat_cmp cells c)
      → AreStored cmp first start (xs ∷ all) cells → AreStored cmp first start ((xs ++ x ∷ []) ∷ all) more
  stored-new all xs x next first start cells more made f given key health at others stored k c e l =
      let same : K → K → Bool = eq_by_cmp cmp in
      let laws = eq_by_cmp_equiv total in
      let P : Option (Cell K) → Type 0 = λ o. IsSomeAnd o (λ y. (same k y.key ≡ true) × IsHealthAfter start [] y.health) in
      either (same x k)
      (λ s.
      let number : number_of laws all xs x ≡ Some c = cell_after all xs x k c true s e in
      let here : Some (length (starts same (xs ∷ all))) ≡ Some c
      = sym (ap (λ b. cond b (cell_now same all x) (Some (length (starts same (xs ∷ all))))) f) ∙ number in
      let is_next : next ≡ c = given ∙ same_Some (length (starts same (xs ∷ all))) c here in
      let it : P (Some made) = (ap (same k) key ∙ laws.symm k x ∙ s, health) in
      subst P (sym (ap (value_at nat_cmp more) (sym is_next) ∙ at)) it)
      (λ s.
      let old : cell_now same (xs ∷ all) k ≡ Some c = cell_after all xs x k c false s e in
      let lt : c < length (starts same (xs ∷ all)) = cell_now-lt laws (xs ∷ all) k c old in
      subst P (sym (others c (omega arith))) (stored k c old l))

  -- a key without a number is no target
  pub untargeted :
      (all : List (List K)) (by_key : List (K × ℕ)) (next : ℕ) (x : K) → IsNumbered cmp all by_key next → value_at cmp by_key x ≡ None
      → is_target (eq_by_cmp cmp) all x ≡ false
  untargeted all by_key next x n none = sym (cell_now-some (eq_by_cmp_equiv total) all x) ∙ ap is_some (sym (n.cells x) ∙ none)

  -- a key that starts where no number is left
  pub exhausted_by :
      (all : List (List K)) (xs ys keys : List K) (x : K) (next : ℕ) → next ≡ length (starts (eq_by_cmp cmp) (xs ∷ all))
      → is_target (eq_by_cmp cmp) all x ≡ false → keys ≡ (xs ++ x ∷ []) ++ ys → 2 ^ 64 ≤ next + 1
      → 2 ^ 64 ≤ length (starts (eq_by_cmp cmp) (keys ∷ all))
  exhausted_by all xs ys keys x next given f whole full =
      let same : K → K → Bool = eq_by_cmp cmp in
      let laws = eq_by_cmp_equiv total in
      let longer : length (starts same ((xs ++ x ∷ []) ∷ all)) ≡ length (x ∷ starts same (xs ∷ all))
      = ap length (starts-push laws all xs x ∙ ap (λ b. cond b (starts same (xs ∷ all)) (x ∷ starts same (xs ∷ all))) f) in
      let all_of : length (starts same (keys ∷ all)) ≡ length (starts same (((xs ++ x ∷ []) ++ ys) ∷ all)) =
      ap (λ ks. length (starts same (ks ∷ all))) whole in
      omega (arith, given, longer, all_of, starts-grow laws all (xs ++ x ∷ []) ys, full)

  -- how many of the keys start, counted by the numbers that there are
  pub starting :
      (all : List (List K)) (by_key : List (K × ℕ)) (next : ℕ) (keys : List K) → IsNumbered cmp all by_key next
      → length (starts (eq_by_cmp cmp) (keys ∷ all)) ≡ count_by (λ k. not (is_some (value_at cmp by_key k))) keys + next
  starting all by_key next keys n =
      let same : K → K → Bool = eq_by_cmp cmp in
      let fresh : K → Bool = λ q. not (is_target same all q) in
      let told : (k : K) → not (is_some (value_at cmp by_key k)) ≡ fresh k
      = λ k. ap (λ o. not (is_some o)) (n.cells k) ∙ ap not (cell_now-some (eq_by_cmp_equiv total) all k) in
      omega (
        arith,
        n.given,
        length-append (reverse (filter fresh keys)) (starts same all),
        length-reverse (filter fresh keys),
        length-filter fresh keys,
        count_alike told keys,
      )
    where
      count_alike : {p q : K → Bool} → ((k : K) → p k ≡ q k) → (ks : List K) → count_by p ks ≡ count_by q ks
      count_alike {p} {q} told ks = let all_same : p ≡ q = λ i k. told k i in ap (λ r. count_by r ks) all_same
