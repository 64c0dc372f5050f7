-- Every run keeps what is promised: each promise is a law of runs, so it holds of each step and after each.
use Rattle.std.proofs.Common.{[], ◌∷◌, ℕ}
use Rattle.lb_world.specs.Steps.{Step}
use Rattle.lb_world.specs.declared.answer.Answer.{Answer}
use Rattle.lb_world.specs.Meanings.{Meaning}
use Rattle.lb_world.specs.History.{History}
use Rattle.lb_world.specs.Answers.{IsRun}
use Rattle.lb_world.specs.Ever.{Always, EachStep, JudgedByOwn}
use Rattle.lb_world.specs.Headline.{Headline, KeepsPromises}
use Rattle.lb_world.specs.Promises.{NewestServed, NeverFalls, FreeGatesGrant, OneExtra, Counted, Ledger, ReadersExact, MembersKept, Bounded}
use Rattle.lb_world.specs.Promises.{Raises, DestroysExactly, ViewFollows, LivesExactly}
use Rattle.lb_world.specs.Refused.{RefusedStays}
use Rattle.lb_world.specs.Selected.{FirstAccepted}
use Rattle.lb_world.proofs.Counting.{counted, one-extra}
use Rattle.lb_world.proofs.Drawing.{DrawsFew, refused-stays}
use Rattle.lb_world.proofs.Joining.{judged-by, view-follows}
use Rattle.lb_world.proofs.Living.{lives-exactly}
use Rattle.lb_world.proofs.Promised.{free-gates-grant, ledger, members-kept, never-falls, newest-served, within}
use Rattle.lb_world.proofs.Readers.{counts}
use Rattle.lb_world.proofs.Selecting.{first-accepted}
use Rattle.lb_world.proofs.Steps.{destroys, raises}

module _ {C : Type 0} (M : Meaning C) where
  each-step : (P : History C → Step C → Answer → Type 0)
      → ((h : History C) (st : Step C) (a : Answer) → IsRun M ((st, a) ∷ h) → P h st a) → (h : History C) → IsRun M h → EachStep P h
  each-step P law [] run = tt
  each-step P law ((st, a) ∷ h) run = (law h st a run, each-step P law h run.0)

  always : (P : History C → Type 0) → ((h : History C) → IsRun M h → P h) → (h : History C) → IsRun M h → Always P h
  always P law [] run = law [] run
  always P law ((st, a) ∷ h) run = (law ((st, a) ∷ h) run, always P law h run.0)

  pub headline : (h : History C) → IsRun M h → Headline M h
  headline h run =
      record {
        first_accepted = each-step (FirstAccepted M) (first-accepted M) h run;
        newest_served = always NewestServed (λ k past. newest-served k) h run;
        never_falls = each-step NeverFalls (never-falls M) h run;
        free_gates_grant = each-step FreeGatesGrant (free-gates-grant M) h run;
        one_extra = always OneExtra (one-extra M) h run;
      }

  pub keeps-promises : DrawsFew M → (h : History C) → IsRun M h → KeepsPromises M h
  keeps-promises few h run =
      record {
        headline = headline h run;
        counted = always Counted (counted M) h run;
        ledger = always Ledger (ledger M) h run;
        readers_exact = always ReadersExact (counts M) h run;
        destroys_exactly = each-step DestroysExactly (destroys M) h run;
        bounded = always Bounded (λ k past. within k) h run;
        raises = each-step Raises (raises M) h run;
        members_kept = always MembersKept (λ k past. members-kept k) h run;
        view_follows = always (λ k. (g : ℕ) → ViewFollows g k) (view-follows M) h run;
        lives_exactly = always LivesExactly (lives-exactly M) h run;
        judged = always JudgedByOwn (judged-by M) h run;
        refused_stays = each-step (RefusedStays M) (refused-stays M few) h run;
      }
