-- The reader of the lane entered the slot, selects, and is kept in the lane.
use Rattle.lb_balancer_core.specs.Looks.{Answers}
use Rattle.lb_threads_group.specs.Kept.{SelectedFrom}
use Rattle.lb_threads_group.proofs.Selections.{refused_holds, kept_finds}
use Rattle.lb_threads_group.proofs.group.SharedGroup.select_at.Goals as goal

pub returns-in_err-copy-in-Ok-Some : goal.returns-in_err-copy-in-Ok-Some
returns-in_err-copy-in-Ok-Some g c =
    let found =
    kept_finds g.R.KeyRule.gives (λ b ready a. Answers g.F.Fn c.args.accept.now b ready a) c.args.max_iterations
    g.S.BackendSelection.walks c.args.key.now c.args.self.now c.args.slot _ _ c.in-Some-entry_of.ensures.0
    c.in-Some-entry_of.ensures.1.0 c.find_as.result c.find_as.ensures in
    let both = rw (c.in-Ok-Some.is, c.in-Ok-Some.field-0-is) at found in
    refused_holds
    (SelectedFrom g.R.KeyRule.gives (λ b ready a. Answers g.F.Fn c.args.accept.now b ready a) c.args.max_iterations
    g.S.BackendSelection.walks c.args.key.now c.args.self.now c.args.slot)
    c.from_residual.result c.from_residual.ensures.1 both.1

pub returns-in_ok-copy-in-Ok-Some : goal.returns-in_ok-copy-in-Ok-Some
returns-in_ok-copy-in-Ok-Some g c =
    let found =
    kept_finds g.R.KeyRule.gives (λ b ready a. Answers g.F.Fn c.args.accept.now b ready a) c.args.max_iterations
    g.S.BackendSelection.walks c.args.key.now c.args.self.now c.args.slot _ _ c.in-Some-entry_of.ensures.0
    c.in-Some-entry_of.ensures.1.0 c.find_as.result c.find_as.ensures in
    let both = rw (c.in-Ok-Some.is, c.in-Ok-Some.field-0-is) at found in rw c.in_ok-copy-in-Ok-Some.ensures both.0

pub returns-in-Ok-None : goal.returns-in-Ok-None
returns-in-Ok-None g c =
    let found =
    kept_finds g.R.KeyRule.gives (λ b ready a. Answers g.F.Fn c.args.accept.now b ready a) c.args.max_iterations
    g.S.BackendSelection.walks c.args.key.now c.args.self.now c.args.slot _ _ c.in-Some-entry_of.ensures.0
    c.in-Some-entry_of.ensures.1.0 c.find_as.result c.find_as.ensures in
    rw (c.in-Ok-None.is, c.in-Ok-None.field-0-is) at found

pub returns-in-Err : goal.returns-in-Err
returns-in-Err g c =
    let found =
    kept_finds g.R.KeyRule.gives (λ b ready a. Answers g.F.Fn c.args.accept.now b ready a) c.args.max_iterations
    g.S.BackendSelection.walks c.args.key.now c.args.self.now c.args.slot _ _ c.in-Some-entry_of.ensures.0
    c.in-Some-entry_of.ensures.1.0 c.find_as.result c.find_as.ensures in
    rw c.in-Err.is at found
