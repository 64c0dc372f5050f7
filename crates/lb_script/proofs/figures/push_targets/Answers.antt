-- The targets, one after the other.
use Rattle.std.proofs.Common.{◌∙◌, ◌++◌, ◌∷◌, [], codes, decimal, length, take, sym, ap}
use Rattle.std.proofs.lemmas.List.{take_more}
use Rattle.lb_health_core.specs.declared.targets.Target.{Target}
use Rattle.lb_script.specs.Texts.{targets_text}
use Rattle.lb_script.proofs.FiguresLemmas.{text_more}
use Rattle.lb_script.proofs.figures.push_targets.Goals as goal

pub loop-target-preserved : goal.loop-target-preserved
loop-target-preserved c =
    let old = c.args.text.now.items in
    let ts = c.args.targets.now in
    let i = c.loop-target.target-index in
    let item = c.target-item.result in
    let front = codes "targets " ++ decimal (length ts) in
    c.in_ok-push_target.ensures ∙ text_more old front c.loop-target.text.items (take i ts) item c.loop-target.invariant
    ∙ ap (λ l. old ++ (front ++ targets_text l))
    (sym (take_more ts i item c.loop-target-test.true ∙ ap (λ (t : Target). take i ts ++ t ∷ []) (sym c.target-item.is)))
