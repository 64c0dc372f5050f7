-- A loop over the steps, in which the world is in the state after the history so far; the promises are laws of every run.
use Rattle.lb_world.proofs.Kept.{keeps-promises}
use Rattle.lb_world.specs.Steps.{step_seen}
use Rattle.lb_world.proofs.Words.{◌++◌, ◌∙◌, ◌∷◌, ◌≡◌, [], after, Answer, ap, arith, History, IsRun, length, length-map, length_push, List}
use Rattle.lb_world.proofs.Words.{map, map-append, map-id, Meaning, meaning_of, refl, Stands, Step, sym, YieldsList-end}
use Rattle.lb_world.proofs.Words.{YieldsList-from_vec, ℕ}
use Rattle.lb_world.proofs.Tables.{stands-unrefused}
use Rattle.lb_world.proofs.world.World.run.Goals as goal

-- one step more, with its answer
after-push :
    {C : Type 0} (h : History C) (steps : List (Step C)) (answers : List Answer) (st : Step C) (a : Answer)
    → length steps ≡ length answers → after h (steps ++ st ∷ []) (answers ++ a ∷ []) ≡ (st, a) ∷ after h steps answers
after-push h [] [] st a e = refl
after-push h [] (b ∷ bs) st a e = absurd (omega arith)
after-push h (s ∷ ss) [] st a e = absurd (omega arith)
after-push h (s ∷ ss) (b ∷ bs) st a e = after-push ((s, b) ∷ h) ss bs st a (omega arith)

pub loop-step-preserved : goal.loop-step-preserved
loop-step-preserved g c =
    let longer = ap length c.push_reserved.ensures.items ∙ length_push c.loop-step.answers.items c.step.result in
    let further = length_push c.loop-step.yielded c.in-Some.step in
    let lengths = length-map c.loop-step.yielded step_seen ∙ sym c.loop-step.invariant.answered in
    record {
      answered = omega (arith, longer, further, c.loop-step.invariant.answered);
      room = c.push_reserved.ensures.capacity ∙ c.loop-step.invariant.room;
      stood =
          λ h stands.
          rw (
            c.push_reserved.ensures.items,
            map-append step_seen c.loop-step.yielded (c.in-Some.step ∷ []),
            after-push h (map step_seen c.loop-step.yielded) c.loop-step.answers.items (step_seen c.in-Some.step) c.step.result lengths,
          )
          (c.step.ensures _ (c.loop-step.invariant.stood h stands));
    }

pub returns : goal.returns
returns g c =
    let gives = c.into_iter-step-iterator.ensures.into_iter_gives in
    let all =
    YieldsList-end
    (YieldsList-from_vec c.args.steps.items gives.0 (gives.1 ∙ c.args.steps.ok.0)) c.loop-step.yielded c.loop-step.step-iterator
    c.loop-step.yielded_by c.next.result c.next.new.self c.in-None.is c.next.ensures.steps in
    let taken = sym (map-id c.loop-step.yielded) ∙ all.0 in
    let m : Meaning g.row.S-Config.Denot = meaning_of g.S.BackendSelection in
    let stood : (h : History g.row.S-Config.Denot) → Stands m c.args.self.now h
    → Stands m c.loop-step.self (after h (map step_seen c.args.steps.items) c.loop-step.answers.items) =
    λ h stands. rw taken at (c.loop-step.invariant.stood h stands) in
    record {
      stands = stood;
      run = λ h stands. (stood h stands).run;
      each = omega (arith, c.loop-step.answers.ok.0, c.args.steps.ok.0, c.loop-step.invariant.answered, ap length taken);
      promises = λ h stands. keeps-promises m g.met.S.BackendSelection.few_words _ (stood h stands).run;
      unrefused = λ h stands. stands-unrefused m c.loop-step.self _ (stood h stands);
      err = tt;
    }
