-- What an update leaves of a view's membership and of its history.
use Rattle.std.proofs.Common.{◌≡◌, ◌∙◌, Bool, true, false, not, ℕ, List, [], ◌∷◌, Option, Some, None, Result, Ok, Err, refl, sym, ap}
use Rattle.std.specs.Prelude.{if◌then◌else◌, is_some, MatchOption, OnOk, OnErr}
use Rattle.std.specs.List.{list_any}
use Rattle.lb_select_base.specs.Backends.{Member, same_member}
use Rattle.lb_select_base.specs.Memberships.{same_members}
use Rattle.lb_health_view.specs.RegistrySide.{after_settings, with_membership}
use Rattle.lb_health_view.specs.Snapshots.{ViewValue}
use Rattle.lb_health_view.specs.ViewEvents.{ViewEvent, Set, Shown, membership_after}
use Rattle.lb_health_view.specs.Views.{IsFounded, IsViewAfter}

by-setting : (b : Bool) (m : Member) (on : Bool) (views : List ViewEvent)
    → membership_after (if b then Set m on ∷ views else views) ≡ membership_after views
by-setting true m on views = refl
by-setting false m on views = refl

settings-members : (settings : List (Member × Bool)) (views : List ViewEvent)
    → membership_after (after_settings settings views) ≡ membership_after views
settings-members [] views = refl
settings-members (e ∷ rest) views =
    settings-members rest (if list_any (same_member e.0) (membership_after views) then Set e.0 e.1 ∷ views else views)
    ∙ by-setting (list_any (same_member e.0) (membership_after views)) e.0 e.1 views

-- another membership is the newest
pub new-members : (settings : List (Member × Bool)) (members : List Member) (cells : List (Member × ℕ)) (views : List ViewEvent)
    → same_members members (membership_after views) ≡ false
    → membership_after (after_settings settings (with_membership members cells views)) ≡ members
new-members settings members cells views other =
    let shown : with_membership members cells views ≡ Shown members cells ∷ views = rw other refl in
    settings-members settings (with_membership members cells views) ∙ ap membership_after shown

-- some history explains what an update leaves
pub founded-after : {A E : Type 0} (r : Result A E) (settings : List (Member × Bool)) (members : List Member) {v w : ViewValue}
    → IsFounded v
    → OnOk r ((cells : List (Member × ℕ)) × ((views : List ViewEvent) → IsViewAfter views v
    → IsViewAfter (after_settings settings (with_membership members cells views)) w))
    → OnErr r ((views : List ViewEvent) → IsViewAfter views v → IsViewAfter views w) → IsFounded w
founded-after (Ok a) settings members p ok err = (after_settings settings (with_membership members ok.0 p.0), ok.1 p.0 p.1)
founded-after (Err e) settings members p ok err = (p.0, err p.0 p.1)

-- an answer is there where the membership is another one
pub changed-is : {A : Type 0} (Q : A → Type 0) (answer : Option A) (changed same : Bool) → changed ≡ is_some answer
    → MatchOption answer (same ≡ true) (λ t. (same ≡ false) × Q t) → changed ≡ not same
changed-is Q None changed same is told = is ∙ sym (ap not told)
changed-is Q (Some t) changed same is told = is ∙ sym (ap not told.0)

pub is-other : (changed same : Bool) → changed ≡ not same → changed ≡ true → same ≡ false
is-other changed true is up = sym up ∙ is
is-other changed false is up = refl

pub is-same : (changed same : Bool) → changed ≡ not same → changed ≡ false → same ≡ true
is-same changed true is up = refl
is-same changed false is up = sym up ∙ is
