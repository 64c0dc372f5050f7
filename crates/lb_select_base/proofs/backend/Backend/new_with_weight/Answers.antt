use Rattle.std.proofs.lemmas.Result.{MatchResult-from_err}
use Rattle.lb_select_base.proofs.AddressTexts.{internet_found, internet_absent, found_in_ok, absent_in_err}
use Rattle.lb_select_base.proofs.backend.Backend.new_with_weight.Goals as goal

pub returns-in_err-inet-clause-spelled : goal.returns-in_err-inet-clause-spelled
returns-in_err-inet-clause-spelled c =
    MatchResult-from_err _ _ _ c.from_residual.ensures.0 (λ e. internet_absent _ (absent_in_err _ _ _ c.in_err-inet.ensures.value))

pub returns-clause-spelled : goal.returns-clause-spelled
returns-clause-spelled c = rw c.bare.ensures (internet_found _ _ (found_in_ok _ _ _ c.in_ok-inet.ensures.value))
