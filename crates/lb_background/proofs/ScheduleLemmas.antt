-- Lemmas on schedules.
use Rattle.std.proofs.Common.{◌≡◌, ◌∙◌, ℕ, List, [], ◌∷◌, Option, Some, None, refl, ap}
use Rattle.lb_background.specs.Schedule.{next_of, after_finish, schedule_value, schedule_after}
use Rattle.lb_background.specs.Laws.{Done, update, check, done, all_done, updates, checks}

pub finish_next : (t : Option (Option ℕ)) (made base : ℕ) (bases : List ℕ) → after_finish t base ≡ next_of t made (base ∷ bases)
finish_next None made base bases = refl
finish_next (Some None) made base bases = refl
finish_next (Some (Some f)) made base bases = refl

pub finishes : (u c : Option (Option ℕ)) (made : ℕ) (ds : List Done)
    → all_done ds (schedule_after u c made [] []) ≡ schedule_after u c made (updates ds) (checks ds)
finishes u c made [] = refl
finishes u c made (update base ∷ ds) =
    ap (done (update base)) (finishes u c made ds)
    ∙ ap (λ n. schedule_value u n c (next_of c made (checks ds))) (finish_next u made base (updates ds))
finishes u c made (check base ∷ ds) =
    ap (done (check base)) (finishes u c made ds)
    ∙ ap (λ n. schedule_value u (next_of u made (updates ds)) c n) (finish_next c made base (checks ds))
