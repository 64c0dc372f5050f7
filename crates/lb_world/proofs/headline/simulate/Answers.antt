-- A new world is in the state after the empty history, so what a run promises of every history holds of that one.
use Rattle.std.specs.Prelude.{List, [], map, Result, Ok, Err, IfOk}
use Rattle.lb_world.specs.Answers.{IsRun}
use Rattle.lb_world.specs.Headline.{Headline, KeepsPromises}
use Rattle.lb_world.specs.History.{History, after}
use Rattle.lb_world.specs.Meanings.{Meaning, meaning_of}
use Rattle.lb_world.specs.Stands.{Stands}
use Rattle.lb_world.specs.Steps.{Step, step_seen}
use Rattle.lb_world.specs.Views.{WorldValue}
use Rattle.lb_world.specs.declared.answer.Answer.{Answer}
use Rattle.lb_world.proofs.headline.simulate.Goals as goal

from-first :
    {C A E : Type 0} (M : Meaning C) (w : WorldValue C) → Stands M w [] → (steps : List (Step C)) (P Q : History C → Type 0)
    → ((h : History C) → P h → Q h) → (r : Result A E) (items : A → List Answer)
    → IfOk r (λ a. (h : History C) → Stands M w h → P (after h steps (items a))) → IfOk r (λ a. Q (after [] steps (items a)))
from-first M w new steps P Q follows (Ok a) items all = follows _ (all [] new)
from-first M w new steps P Q follows (Err e) items all = all

pub returns-clause-headline : goal.returns-clause-headline
returns-clause-headline g c =
    let m : Meaning g.row.S-Config.Denot = meaning_of g.S.BackendSelection in
    from-first m c.new-world.result c.new-world.ensures (map step_seen c.args.steps.items) (KeepsPromises m) (Headline m)
    (λ h kept. kept.headline) c.run.result (λ answers. answers.items) c.run.ensures.promises

pub returns-clause-promises : goal.returns-clause-promises
returns-clause-promises g c =
    let m : Meaning g.row.S-Config.Denot = meaning_of g.S.BackendSelection in
    from-first m c.new-world.result c.new-world.ensures (map step_seen c.args.steps.items) (KeepsPromises m) (KeepsPromises m)
    (λ h kept. kept) c.run.result (λ answers. answers.items) c.run.ensures.promises

pub returns-clause-run : goal.returns-clause-run
returns-clause-run g c =
    let m : Meaning g.row.S-Config.Denot = meaning_of g.S.BackendSelection in
    from-first m c.new-world.result c.new-world.ensures (map step_seen c.args.steps.items) (IsRun m) (IsRun m) (λ h run. run) c.run.result
    (λ answers. answers.items) c.run.ensures.run
