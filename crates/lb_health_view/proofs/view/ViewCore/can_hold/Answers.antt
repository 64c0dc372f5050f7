use Rattle.std.proofs.Common.{◌≡◌, ◌<◌, ◌^◌, ◌+◌, ℕ, ◌==◌, true, not, ◌||◌, nat_lt, List, get_or, sym, ap, ◌∙◌, rules}
use Rattle.std.proofs.lemmas.List.Sums.{AllPass-from_list_all, list_all-from_AllPass}
use Rattle.std.specs.List.{list_all}
use borrow.Author.Tests.{eqb-true, ltb-true, lt-ltb}
use Rattle.std.proofs.lemmas.Bool.{eq-eqb}
use Rattle.lb_health_core.proofs.CellLemmas.{either}
use Rattle.lb_health_view.specs.Snapshots.{SnapshotValue, can_hold}
use Rattle.lb_health_view.proofs.view.ViewCore.can_hold.Goals as goal

room : (g : ℕ) (s : SnapshotValue) → can_hold g s ≡ true → s.generation ≡ g → s.holds + 1 < 2 ^ 64
room g s e same =
    ltb-true (s.holds + 1) (2 ^ 64) (sym (ap (λ b. not b || nat_lt (s.holds + 1) (2 ^ 64)) (eq-eqb s.generation g same)) ∙ e)

has_room : (g : ℕ) (s : SnapshotValue) → (s.generation ≡ g → s.holds + 1 < 2 ^ 64) → can_hold g s ≡ true
has_room g s h =
    either (s.generation == g)
    (λ t. ap (λ b. not b || nat_lt (s.holds + 1) (2 ^ 64)) t ∙ lt-ltb (s.holds + 1) (2 ^ 64) (h (eqb-true s.generation g t)))
    (λ f. ap (λ b. not b || nat_lt (s.holds + 1) (2 ^ 64)) f)

pub returns : goal.returns
returns c =
    let ss : List SnapshotValue = c.args.self.now.snapshots in
    let n = c.args.generation in
    let told : c.have_room.result ≡ list_all (can_hold n) ss = search rules in (
      λ e k d l same. room n (get_or ss k d) (AllPass-from_list_all (can_hold n) ss (sym told ∙ e) k d l) same,
      λ all. told ∙ list_all-from_AllPass (can_hold n) ss (λ k d l. has_room n (get_or ss k d) (all k d l)),
    )
