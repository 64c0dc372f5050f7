-- The laws: verdicts of different cells commute, targets keep their cells, numbers are new, and each target has a cell.
use Rattle.std.proofs.Common.{◌≡◌, ◌≢◌, ◌≤◌, ℕ, ◌==◌, Bool, true, false, cond, ◌||◌, List, [], ◌∷◌, length, Option, Some, None, suc}
use Rattle.std.proofs.Common.{true≢false, refl, sym, ap, subst, ◌∙◌}
use Rattle.std.proofs.lemmas.Map.Entries.{length-values_of}
use Rattle.std.proofs.lemmas.Option.{same_Some}
use Rattle.std.specs.declared.cmp.Ordering.{Ordering}
use Rattle.std.specs.List.{list_any, filter_map, cons_option, AllByRecursion as Each}
use Rattle.std.specs.Map.{values_of}
use Rattle.std.specs.Option.{IsSomeAnd, is_some, option_map}
use Rattle.std.specs.Ordering.{eq_by_cmp, nat_cmp}
use borrow.Author.Tests.{eqb-true}
use Rattle.lb_select_base.specs.Backends.{Member, same_member}
use Rattle.lb_health_core.specs.declared.targets.TargetPlace.{TargetPlace}
use Rattle.lb_health_core.specs.declared.targets.Target.{Target}
use Rattle.lb_health_core.specs.CellEvents.{CellEvent, Observed, verdicts_of, start_of, health_of}
use Rattle.lb_health_core.specs.Registry.{target_at, targets_after}
use Rattle.lb_health_core.specs.RegistryEvents.{Event, Applied, changes_after, views_after, cell_health}
use Rattle.lb_health_core.specs.Starts.{is_target, starts, latest_start, cell_now, value_at}
use Rattle.lb_health_core.specs.Table.{TableValue, IsTableAfter}
use Rattle.lb_health_core.specs.Targets.{live, targets_in, target_keys}
use Rattle.lb_health_core.specs.Verdicts.{Verdict, IsHealthAfter, health_after}
use Rattle.lb_health_core.proofs.CellLemmas.{cond_is, latest-kept, latest-fresh, latest-some}
use Rattle.lb_health_core.proofs.TargetLemmas.{member_laws}

commute_by :
    (a b : Bool) (v w : Verdict) (vs : List Verdict) → (a ≡ true → b ≡ true → ⊥)
    → cond a (v ∷ cond b (w ∷ vs) vs) (cond b (w ∷ vs) vs) ≡ cond b (w ∷ cond a (v ∷ vs) vs) (cond a (v ∷ vs) vs)
commute_by true true v w vs h = absurd (h refl refl)
commute_by true false v w vs h = refl
commute_by false true v w vs h = refl
commute_by false false v w vs h = refl

-- each cell has the same verdicts, in the same order
verdicts-commute :
    {K : Type 0} (events : List (CellEvent K)) (c d e : ℕ) (v w : Verdict) → c ≢ d
    → verdicts_of e (Observed c v ∷ Observed d w ∷ events) ≡ verdicts_of e (Observed d w ∷ Observed c v ∷ events)
verdicts-commute events c d e v w ne =
    commute_by (c == e) (d == e) v w (verdicts_of e events) (λ s t. ne (eqb-true c e s ∙ sym (eqb-true d e t)))

pub health-commutes :
    {K : Type 0} (same : K → K → Bool) (events : List (CellEvent K)) (c d e : ℕ) (v w : Verdict) → c ≢ d
    → health_of same e (Observed c v ∷ Observed d w ∷ events) ≡ health_of same e (Observed d w ∷ Observed c v ∷ events)
health-commutes same events c d e v w ne = ap (health_after (start_of same e events)) (verdicts-commute events c d e v w ne)

pub table-commutes :
    {K : Type 0} (cmp : K → K → Ordering) (events : List (CellEvent K)) (c d : ℕ) (v w : Verdict) (t : TableValue K) → c ≢ d
    → IsTableAfter cmp (Observed c v ∷ Observed d w ∷ events) t → IsTableAfter cmp (Observed d w ∷ Observed c v ∷ events) t
table-commutes cmp events c d v w t ne table =
    record {
      numbering = table.numbering;
      start = table.start;
      holds = table.holds;
      targets = table.targets;
      kept = λ e h.
          let V : List Verdict → Type 0 = λ vs. IsSomeAnd (value_at nat_cmp t.cells e)
          (λ x. IsHealthAfter (start_of (eq_by_cmp cmp) e events) vs x.health) in
          subst V (verdicts-commute events c d e v w ne) (table.kept e h);
      ungiven = λ e l. (sym (verdicts-commute events c d e v w ne) ∙ (table.ungiven e l).0, (table.ungiven e l).1);
    }

-- a key that stays a target keeps its cell
pub kept_cell :
    (all : List (List Member)) (keys : List Member) (k : Member)
    → is_target same_member all k ≡ true → is_target same_member (keys ∷ all) k ≡ true
    → cell_now same_member (keys ∷ all) k ≡ cell_now same_member all k
kept_cell all keys k was is =
    ap (λ b. cond b (latest_start same_member (starts same_member (keys ∷ all)) k) None) is ∙ latest-kept member_laws all keys k was
    ∙ sym (ap (λ b. cond b (latest_start same_member (starts same_member all) k) None) was)

-- a key that becomes a target gets a new number
pub new_number :
    (all : List (List Member)) (keys : List Member) (k : Member) (c : ℕ) → is_target same_member all k ≡ false
    → cell_now same_member (keys ∷ all) k ≡ Some c → length (starts same_member all) ≤ c
new_number all keys k c was is =
    let now = cond_is (is_target same_member (keys ∷ all) k) (latest_start same_member (starts same_member (keys ∷ all)) k) c is in
    let high = latest-fresh member_laws all keys k was now.0 in
    let same : high.number ≡ c = same_Some high.number c (sym high.is ∙ now.1) in
    let AboveIt : ℕ → Type 0 = λ n. length (starts same_member all) ≤ n in
    subst AboveIt same high.above

-- what holds of each key that is listed holds of the key of each entry
each_entry :
    (Q : Member → Type 0) (es : List (TargetPlace × Member)) → ((k : Member) → list_any (same_member k) (values_of es) ≡ true → Q k)
    → Each (λ (e : TargetPlace × Member). Q e.1) es
each_entry Q [] h = tt
each_entry Q (e ∷ es) h = (
  h e.1 (ap (λ b. b || list_any (same_member e.1) (values_of es)) (member_laws.refl e.1)),
  each_entry Q es (λ k m. h k (ap (λ b. same_member k e.1 || b) m ∙ or_true (same_member k e.1))),
)
  where
    or_true : (b : Bool) → (b || true) ≡ true
    or_true true = refl
    or_true false = refl

-- nothing is left out where there is something for each
there_by : {B : Type 0} (o : Option B) (rest : List B) (n : ℕ) → is_some o ≡ true → length rest ≡ n → length (cons_option o rest) ≡ suc n
there_by None rest n s e = absurd (true≢false (sym s))
there_by (Some y) rest n s e = ap suc e

all_there :
    {A : Type 0} {B : Type 0} (f : A → Option B) (Q : A → Type 0) → ((x : A) → Q x → is_some (f x) ≡ true)
    → (xs : List A) → Each Q xs → length (filter_map f xs) ≡ length xs
all_there f Q h [] all = refl
all_there f Q h (x ∷ xs) all = there_by (f x) (filter_map f xs) (length xs) (h x all.0) (all_there f Q h xs all.1)

some_mapped : {A B : Type 0} (f : A → B) (o : Option A) → is_some o ≡ true → is_some (option_map f o) ≡ true
some_mapped f None e = e
some_mapped f (Some x) e = refl

abbrev target_of : (Member → Member) → List Event → Member → ℕ → Target
target_of key_of events b c = record { backend = b; cell = c; healthy = cell_health key_of c (Applied ∷ events) }

-- each target has a cell
pub each_target :
    (key_of : Member → Member) (events : List Event)
    → length (targets_after key_of (Applied ∷ events)) ≡ length (target_keys key_of (views_after (Applied ∷ events)))
each_target key_of events =
    let es = targets_in key_of (live (views_after events)) in
    let all = changes_after key_of (Applied ∷ events) in
    let HasCell : Member → Type 0 = λ k. is_some (cell_now same_member all k) ≡ true in
    let has : (k : Member) → list_any (same_member k) (values_of es) ≡ true → HasCell k
    = λ k m. ap (λ b. is_some (cond b (latest_start same_member (starts same_member all) k) None)) m ∙ latest-some member_laws all k m in
    all_there (target_at key_of (Applied ∷ events)) (λ (e : TargetPlace × Member). HasCell e.1)
    (λ e h. some_mapped (λ (c : ℕ). target_of key_of events e.0.backend c) (cell_now same_member all e.1) h)
    es (each_entry HasCell es has)
    ∙ sym (length-values_of es)
