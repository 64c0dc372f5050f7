-- Each lock so far has the key.
use Rattle.std.proofs.Common.{◌≡◌, All}
use Rattle.lb_threads_group.proofs.group.words_of.Given as goal

abbrev pub invariant-loop : goal.invariant-loop
invariant-loop g l = All (λ f. f.table.shared.key ≡ l.site) l.words.items
