use Rattle.std.proofs.Common.{◌≡◌, ◌&&◌, true, map, sym, ap, ◌∙◌, rules}
use Rattle.std.proofs.lemmas.List.Folds.{list_all-map}
use Rattle.std.specs.List.{list_all}
use Rattle.lb_health_view.specs.Snapshots.{snapshot_of, can_hold}
use Rattle.lb_health_view.proofs.snapshot.have_room.Goals as goal

pub returns : goal.returns
returns c =
    let n = c.args.generation in
    let others = c.args.others.now in
    let room : c.has_room.result ≡ true = search rules in
    let here : can_hold n (snapshot_of c.args.current.now) ≡ true = sym c.has_room.ensures ∙ room in
    c.others_have_room.ensures ∙ sym (list_all-map (can_hold n) snapshot_of others)
    ∙ sym (ap (λ b. b && list_all (can_hold n) (map snapshot_of others)) here)
