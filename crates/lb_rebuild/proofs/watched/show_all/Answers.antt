-- Each raise shows one word more.
use Rattle.std.proofs.Common.{◌≡◌, ◌≢◌, ◌≤◌, ◌+◌, ◌∙◌, ap, sym, subst, arith}
use Rattle.std.specs.List.{slice_index}
use Rattle.lb_rebuild.specs.Pass.{WriterValue}
use Rattle.lb_rebuild.specs.Watched.{words_of}
use Rattle.lb_rebuild.proofs.Shown.{shown_none, shown_more, shown_all, slot_serves, beyond_slots, words_long, newest_told}
use Rattle.lb_rebuild.proofs.watched.show_all.Goals as goal

pub loop-slot-init : goal.loop-slot-init
loop-slot-init g c =
    let v = c.args.core.now.group in
    let long = words_long v in (
      ap (λ (w : WriterValue). w.board) c.raise.ensures ∙ c.requires.board.0,
      shown_more (words_of v) c.args.writer.now.words _ 0 c.newest-newest.result
          (shown_none (words_of v) c.args.writer.now.words (c.args.slots + 1) c.requires.words (omega (arith, long, c.requires.slots)))
          (omega (arith, long)) (newest_told c.past.ensures c.newest-newest.ensures) (ap (λ (w : WriterValue). w.words) c.raise.ensures),
    )

pub unreachable-requires : goal.unreachable-requires
unreachable-requires g c =
    let past = beyond_slots c.past.ensures c.served.ensures c.in_default.is in
    omega (arith, past, c.loop-slot-test.true, c.requires.slots)

pub raise-requires-in-loop-slot-clause-led : goal.raise-requires-in-loop-slot-clause-led
raise-requires-in-loop-slot-clause-led g c _ =
    let there = slot_serves c.past.ensures c.served.ensures c.in-Some.is in
    let first = c.loop-slot.invariant.1.done 0 (omega arith) in
    omega (arith, there.2, first)

pub loop-slot-preserved : goal.loop-slot-preserved
loop-slot-preserved g c =
    let v = c.args.core.now.group in
    let long = words_long v in
    let there = slot_serves c.past.ensures c.served.ensures c.in-Some.is in (
      ap (λ (w : WriterValue). w.board) c.raise-in-loop-slot.ensures ∙ c.loop-slot.invariant.0,
      shown_more (words_of v) c.loop-slot.writer.words _ (c.loop-slot.slot + 1) c.in-Some.served c.loop-slot.invariant.1
          (omega (arith, long, there.0)) (sym there.1)
          (ap (λ (w : WriterValue). w.words) c.raise-in-loop-slot.ensures),
    )

pub returns-clause-words : goal.returns-clause-words
returns-clause-words g c =
    let v = c.args.core.now.group in
    let long = words_long v in
    shown_all (words_of v) _ _ c.loop-slot.invariant.1 (omega (arith, long, c.requires.slots))
