use Rattle.std.proofs.Common.{◌≡◌, [], ◌∷◌, ◌++◌, sym, subst, ap, ◌∙◌, rules, List}
use Rattle.std.proofs.lemmas.List.{append-nil}
use Rattle.lb_health_core.specs.Internal.Gathering.{Gathers}
use Rattle.lb_health_core.specs.Targets.{Candidate, candidates_of}
use Rattle.lb_health_core.proofs.TargetLemmas.{gathering-known, gathering-first}
use Rattle.lb_health_core.proofs.targets.gather.Goals as goal

pub returns-clause-ok : goal.returns-clause-ok
returns-clause-ok g c =
    λ key_of before rule start.
    let so = c.loop-backend.invariant key_of before rule start in
    let over : c.loop-backend.backend-iterator ≡ [] = search rules in
    let whole : so.passed ≡ before ++ candidates_of key_of c.args.id c.args.members.now.keys
    = sym (append-nil so.passed) ∙ ap (λ ms. so.passed ++ candidates_of key_of c.args.id ms) (sym over) ∙ so.left in
    let GathersIt : List Candidate → Type 0 = λ cs. Gathers cs c.loop-backend.gathered in
    subst GathersIt whole so.gathers

pub loop-backend-preserved : goal.loop-backend-preserved
loop-backend-preserved g c =
    λ key_of before rule start.
    let step : c.loop-backend.backend-iterator ≡ c.in-Some.backend.now ∷ c.next.new.self = search rules in
    gathering-known key_of c.args.id c.loop-backend.backend-iterator c.next.new.self _ c.loop-backend.gathered c.in-Some.backend.now
    c.in_ok-key.key
    (c.loop-backend.invariant key_of before rule start) step (rule _ _ c.in_ok-key.ensures.ok) (sym c.contains.ensures
    ∙ c.if-not-contains.false)

pub loop-backend-preserved-in_ok-insert-2 : goal.loop-backend-preserved-in_ok-insert-2
loop-backend-preserved-in_ok-insert-2 g c =
    λ key_of before rule start.
    let step : c.loop-backend.backend-iterator ≡ c.in-Some.backend.now ∷ c.next.new.self = search rules in
    gathering-first key_of c.args.id c.loop-backend.backend-iterator c.next.new.self _ c.loop-backend.gathered _ c.in-Some.backend.now
    c.in_ok-clone.field-0 c.in_ok-key.key c.in_ok-clone-2.field-0
    (c.loop-backend.invariant key_of before rule start) step (rule _ _ c.in_ok-key.ensures.ok) (sym c.contains.ensures
    ∙ c.if-not-contains.true)
    c.in_ok-clone.ensures.cases c.in_ok-clone-2.ensures.cases c.in_ok-insert.ensures.updates.0 c.in_ok-insert-2.ensures.entries

pub loop-backend-preserved-in_ok-insert-2-2 : goal.loop-backend-preserved-in_ok-insert-2-2
loop-backend-preserved-in_ok-insert-2-2 g c =
    λ key_of before rule start.
    let step : c.loop-backend.backend-iterator ≡ c.in-Some.backend.now ∷ c.next.new.self = search rules in
    gathering-first key_of c.args.id c.loop-backend.backend-iterator c.next.new.self _ c.loop-backend.gathered _ c.in-Some.backend.now
    c.in_ok-clone.field-0 c.in_ok-key.key c.in_ok-clone-2.field-0
    (c.loop-backend.invariant key_of before rule start) step (rule _ _ c.in_ok-key.ensures.ok) (sym c.contains.ensures
    ∙ c.if-not-contains.true)
    c.in_ok-clone.ensures.cases c.in_ok-clone-2.ensures.cases c.in_ok-insert.ensures.updates.0 c.in_ok-insert-2.ensures.entries
