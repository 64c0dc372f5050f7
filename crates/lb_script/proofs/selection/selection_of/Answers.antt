use Rattle.lb_script.proofs.SelectionLemmas.{read_words}
use Rattle.lb_script.proofs.selection.selection_of.Goals as goal

pub returns : goal.returns
returns c =
    read_words c.args.words.now c.in_ok-group.rest.now c.in_ok-slot.rest.now c.in_ok-key.rest.now c.in_ok-key.key.now
    c.in_ok-group.group c.in_ok-slot.slot c.in_ok-limit.limit
    c.in_ok-group.ensures c.in_ok-slot.ensures c.in_ok-key.ensures c.in_ok-limit.ensures
