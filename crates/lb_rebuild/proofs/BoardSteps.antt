-- Each step of a board keeps its rule: a load by any pass, a raise by the pass that writes, and the load with which a pass comes.
use Rattle.std.proofs.Common.{◌≡◌, ◌≢◌, ◌∙◌, ◌≤◌, ◌<◌, ◌+◌, ℕ, zero, suc, max, Bool, true, false, List, [], ◌∷◌, ◌++◌, length, map}
use Rattle.std.proofs.Common.{replicate, refl, sym, ap, subst, ⊎_elim, set, get_or, length-set, get_or-set_same, get_or-set_other, arith}
use Rattle.std.proofs.lemmas.Bool.{false≢true}
use Rattle.std.proofs.lemmas.List.{length-map, length-replicate, set-get_or, set_past}
use Rattle.std.specs.List.{slice_index}
use mathlib.Core.Option.{some}
use mathlib.Core.Logic.{dite}
use native.Mathlib.Decide.{ℕ_discrete, dec_le}
use lib.ListN.{get_elem?}
use Rattle.atomic_table.specs.Table.{Me, Allows, Enters, keeps}
use Rattle.atomic_table.proofs.Lists.{at_set, at_snoc}
use Rattle.lb_rebuild.specs.BoardRule.{IsLed, Fits, Kept, Loaded, Raised, Came, blank, first_record, loaded, raised}
use Rattle.lb_rebuild.specs.Pass.{PassValue, IsLoad, total}
use Rattle.lb_rebuild.specs.declared.board_rule.Record.{Record}

-- what is found at a place, after one place was written
pub at_write : (l : List ℕ) (i j n : ℕ) (P : ℕ → Type 0) → (j ≡ i → P n) → P (slice_index l j) → P (slice_index (set l i n) j)
at_write l i j n P here there =
    dite (ℕ_discrete j i)
    (λ e. at_place e (dec_le (suc i) (length l)))
    (λ ne. subst P (sym (get_or-set_other l i j n 0 ne)) there)
  where
    at_place : j ≡ i → Dec (suc i ≤ length l) → P (slice_index (set l i n) j)
    at_place e (yes in_) =
        subst P (sym (subst (λ (k : ℕ). get_or (set l i n) k 0 ≡ n) (sym e) (get_or-set_same l i n 0 in_))) (here e)
    at_place e (no out) = subst (λ (m : List ℕ). P (slice_index m j)) (sym (set_past l i n (omega (arith, out)))) there

-- a number that is written over a smaller one lowers nothing
pub not_below : (l : List ℕ) (i n : ℕ) → slice_index l i ≤ n → (j : ℕ) → slice_index l j ≤ slice_index (set l i n) j
not_below l i n less j =
    at_write l i j n (λ x. slice_index l j ≤ x) (λ e. subst (λ (k : ℕ). slice_index l k ≤ n) (sym e) less) (omega arith)

-- a load by any pass
fits_loaded : (words : List ℕ) (id i : ℕ) (v : Record) → Fits words id v → Fits words id (loaded v i (slice_index words i))
fits_loaded words id i v f = record {
  values = length-set v.values i (slice_index words i) ∙ f.values;
  loads = length-set v.loads i (slice_index v.loads i + 1) ∙ f.loads;
  seen = λ j. at_write v.values i j (slice_index words i) (λ x. x ≤ slice_index words j)
      (λ e. subst (λ (k : ℕ). slice_index words i ≤ slice_index words k) (sym e) (omega arith)) (f.seen j);
  writer = λ writes.
      let w = f.writer writes in
      (w.0, ap (λ (l : List ℕ). set l i (slice_index words i)) w.1 ∙ set-get_or words i 0);
}

kept_loaded : (slots id i : ℕ) (words : List ℕ) (views : List Record) (v : Record) → Kept slots words views → get_elem? views id ≡ some v
    → Kept slots words (set views id (loaded v i (slice_index words i)))
kept_loaded slots id i words views v k at = record {
  count = k.count;
  led = k.led;
  each = λ id' v' e.
      ⊎_elim
      (λ t. subst (λ (r : Record). Fits words id' r) t.1 (subst (λ (d : ℕ). Fits words d (loaded v i (slice_index words i))) (sym t.0)
      (fits_loaded words id i v (k.each id v at))))
      (λ t. k.each id' v' t.1)
      (at_set views id id' (loaded v i (slice_index words i)) v' e);
}

pub loads_as : {S : Type 0} (slots homes id i : ℕ) (me : Me S Record) → me.1 ≡ []
    → Allows {S = S} {V = Record} (λ s. Kept slots s.words s.views) homes id me i (λ n. n) (λ n w. Loaded i me n w)
loads_as {S} slots homes id i me none s k _ at _ =
    let f = k.each id me.0 at in
    let n : ℕ = slice_index s.words i in (
      loaded me.0 i n,
      keeps,
      tt,
      subst (λ (l : List ℕ). Kept slots l (set s.views id (loaded me.0 i n))) (sym (set-get_or s.words i 0))
          (kept_loaded slots id i s.words s.views me.0 k at),
      (
        ap (λ (l : List (ℕ × S)). (loaded me.0 i n, l)) none,
        f.seen i,
        λ writes. ap (λ (l : List ℕ). slice_index l i) (sym (f.writer writes).1),
      ),
    )

-- a raise by the pass that writes
fits_higher : (words : List ℕ) (id i n : ℕ) (v : Record) → slice_index words i ≤ n → v.writes ≡ false → Fits words id v
    → Fits (set words i n) id v
fits_higher words id i n v less reads f = record {
  values = f.values ∙ sym (length-set words i n);
  loads = f.loads ∙ sym (length-set words i n);
  seen = λ j. let low = f.seen j in let high = not_below words i n less j in omega arith;
  writer = λ writes. absurd (false≢true (sym reads ∙ writes));
}

fits_raised : (id i k : ℕ) (v : Record) → id ≡ 0 → length v.loads ≡ length v.values → Fits (raised v i k).values id (raised v i k)
fits_raised id i k v first loads = record {
  values = refl;
  loads = length-set v.loads i (slice_index v.loads i + 1) ∙ loads ∙ sym (length-set v.values i (max (slice_index v.values i) k));
  seen = λ j. omega arith;
  writer = λ _. (first, refl);
}

only_one : (words : List ℕ) (id id' : ℕ) (v : Record) → id ≡ 0 → id' ≢ id → Fits words id' v → v.writes ≡ false
only_one words id id' v first apart f =
    elim v.writes as (λ b. v.writes ≡ b → b ≡ false)
    [ true ↦ λ e. absurd (apart ((f.writer e).0 ∙ sym first)) | false ↦ λ e. refl ] refl

raised_led : (l : List ℕ) (i n : ℕ) → slice_index l i ≤ n → n ≤ slice_index (set l i n) 0 → IsLed l → IsLed (set l i n)
raised_led l i n less led all j =
    at_write l i j n (λ x. x ≤ slice_index (set l i n) 0) (λ _. led) (let below = all j in let high = not_below l i n less 0 in omega arith)

-- the newest word stays the greatest one
newest_leads : (l : List ℕ) (i n : ℕ) → 0 < length l → (i ≢ 0 → n ≤ slice_index l 0) → n ≤ slice_index (set l i n) 0
newest_leads l i n there below =
    dite (ℕ_discrete i 0)
    (λ e. subst (λ (k : ℕ). n ≤ slice_index (set l k n) 0) (sym e) (subst (λ (m : ℕ). n ≤ m) (sym (get_or-set_same l 0 n 0 there))
    (omega arith)))
    (λ apart. subst (λ (m : ℕ). n ≤ m) (sym (get_or-set_other l i 0 n 0 (λ e. apart (sym e)))) (below apart))

kept_raised : (slots id i k : ℕ) (views : List Record) (v : Record) → v.writes ≡ true
    → (i ≢ 0 → k ≤ slice_index v.values 0) → Kept slots v.values views → get_elem? views id ≡ some v
    → Kept slots (raised v i k).values (set views id (raised v i k))
kept_raised slots id i k views v writes below h at =
    let n : ℕ = max (slice_index v.values i) k in
    let led = newest_leads v.values i n (omega (arith, h.count)) (λ apart. let new = below apart in let old = h.led i in omega arith) in
    let less : slice_index v.values i ≤ n = omega arith in
    let mine = h.each id v at in
    let first : id ≡ 0 = (mine.writer writes).0 in
    record {
      count = length-set v.values i n ∙ h.count;
      led = raised_led v.values i n less led h.led;
      each = λ id' v' e.
          ⊎_elim
          (λ t. subst (λ (r : Record). Fits (raised v i k).values id' r) t.1 (fits_raised id' i k v (t.0 ∙ first) mine.loads))
          (λ t. let other = h.each id' v' t.1 in fits_higher v.values id' i n v' less (only_one v.values id id' v' first t.0 other) other)
          (at_set views id id' (raised v i k) v' e);
    }

pub raises_as : {S : Type 0} (slots homes id i k : ℕ) (me : Me S Record) → me.1 ≡ [] → me.0.writes ≡ true
    → (i ≢ 0 → k ≤ slice_index me.0.values 0)
    → Allows {S = S} {V = Record} (λ s. Kept slots s.words s.views) homes id me i (λ n. max n k) (λ n w. Raised i k me w)
raises_as {S} slots homes id i k me none writes led s h _ at _ =
    let own : me.0.values ≡ s.words = ((h.each id me.0 at).writer writes).1 in (
      raised me.0 i k,
      keeps,
      tt,
      subst (λ (l : List ℕ). Kept slots (set l i (max (slice_index l i) k)) (set s.views id (raised me.0 i k))) own
          (kept_raised slots id i k s.views me.0 writes led (subst (λ (l : List ℕ). Kept slots l s.views) (sym own) h) at),
      ap (λ (l : List (ℕ × S)). (raised me.0 i k, l)) none,
    )

-- one more at a place that is there is one more in all
pub total_set : (l : List ℕ) (i : ℕ) → i < length l → total (set l i (slice_index l i + 1)) ≡ total l + 1
total_set [] i there = absurd (omega (arith, there))
total_set (x ∷ xs) zero there = omega arith
total_set (x ∷ xs) (suc i) there = let more = total_set xs i (omega (arith, there)) in omega (arith, more)

pub total_none : (n : ℕ) → total (replicate n 0) ≡ 0
total_none zero = refl
total_none (suc n) = let rest = total_none n in omega (arith, rest)

-- the load with which a pass comes
pub zeros : (l : List ℕ) (j : ℕ) → slice_index (map (λ (n : ℕ). 0) l) j ≡ 0
zeros [] j = refl
zeros (x ∷ xs) zero = refl
zeros (x ∷ xs) (suc j) = zeros xs j

pub length_zeros : (l : List ℕ) → length {A = ℕ} (map (λ (n : ℕ). 0) l) ≡ length l
length_zeros [] = refl
length_zeros (x ∷ xs) = ap suc (length_zeros xs)

fits_blank : (slots : ℕ) (words : List ℕ) (id : ℕ) → length words ≡ slots + 1 → Fits words id (blank (first_record slots))
fits_blank slots words id count =
    let long : length {A = ℕ} (map (λ (n : ℕ). 0) (replicate (slots + 1) 0)) ≡ length words =
    length_zeros (replicate (slots + 1) 0) ∙ length-replicate (slots + 1) 0 ∙ sym count in
    record {
      values = long;
      loads = long;
      seen = λ j. let none = zeros (replicate (slots + 1) 0) j in omega arith;
      writer = λ writes. absurd (false≢true writes);
    }

pub comes : {S : Type 0} (slots homes i : ℕ)
    → Enters {S = S} {V = Record} (λ s. Kept slots s.words s.views) homes i (λ n w. Came {S = S} (first_record slots, []) (w, []))
comes {S} slots homes i s h _ _ = (
  blank (first_record slots),
  record {
    count = h.count;
    led = h.led;
    each = λ id v e.
        ⊎_elim (λ t. h.each id v t) (λ t. subst (λ (r : Record). Fits s.words id r) t (fits_blank slots s.words id h.count))
        (at_snoc s.views (blank (first_record slots)) v id e);
  },
  refl,
)

-- what a load leaves of the pass
pub loaded_pass : (p q : PassValue) (i n : ℕ) → q.board ≡ p.board → q.values ≡ set p.values i n
    → q.loads ≡ set p.loads i (slice_index p.loads i + 1)
    → i < length p.values → i < length p.loads → slice_index p.values i ≤ n → IsLoad p i n q
loaded_pass p q i n board values loads few_values few_loads rises = record {
  board = board;
  value = ap (λ (l : List ℕ). slice_index l i) values ∙ get_or-set_same p.values i n 0 few_values;
  rises = rises;
  count = ap (λ (l : List ℕ). slice_index l i) loads ∙ get_or-set_same p.loads i (slice_index p.loads i + 1) 0 few_loads;
  others = λ j ne. (
    ap (λ (l : List ℕ). slice_index l j) values ∙ get_or-set_other p.values i j n 0 ne,
    ap (λ (l : List ℕ). slice_index l j) loads ∙ get_or-set_other p.loads i j (slice_index p.loads i + 1) 0 ne,
  );
}
