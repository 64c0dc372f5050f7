use Rattle.std.proofs.Common.{◌≡◌, ◌<◌, None, arith, length, sym, ◌∙◌}
use Rattle.std.proofs.lemmas.Option.{none-some}
use Rattle.std.proofs.lemmas.Bool.Decides.{nat_tests}
use Rattle.lb_select_base.specs.AddressText.{path_of_text}
use Rattle.lb_select_base.proofs.AddressTexts.{path_named, path_empty, path_lacking, refuses_path, refuses_internet}
use Rattle.lb_select_base.proofs.backend.Backend.from_text.Goals as goal
use Rattle.lb_select_base.proofs.backend.Backend.from_text.Goals.{in_default-via-in-Some+else-not-is_empty, in_default-via-in_default}

pub returns-in-Some-clause-made : goal.returns-in-Some-clause-made
returns-in-Some-clause-made c =
    let some : 0 < length c.in-Some.path.now = grind (arith, nat_tests) in
    refuses_path _ _ _ _ (path_named _ _ c.in-Some.ensures.cases some) some c.unix.ensures

pub returns-in-Some-clause-internet : goal.returns-in-Some-clause-internet
returns-in-Some-clause-internet c =
    let some : 0 < length c.in-Some.path.now = grind (arith, nat_tests) in
    λ none. absurd (none-some _ (sym none ∙ path_named _ _ c.in-Some.ensures.cases some))

pub returns-in_default-clause-made : goal.returns-in_default-clause-made
returns-in_default-clause-made c =
    let none : path_of_text c.args.text.now ≡ None =
    elim c.in_default.branch [
      | in_default-via-in-Some+else-not-is_empty w ↦ path_empty _ _ w.in-Some.ensures.cases (grind (arith, nat_tests))
      | in_default-via-in_default w ↦ path_lacking _ w.in_default.ensures.cases
    ] in refuses_internet _ _ _ none c.new_with_weight.ensures.made
