use Rattle.std.proofs.Common.{◌≡◌, ◌∙◌, sym, subst, true, false, ◌^◌}
use Rattle.lb_script.specs.Numbers.{has_plain_front}
use Rattle.lb_script.proofs.NumbersLemmas.{parse_number, no_number}
use Rattle.lb_script.proofs.numbers.number.Goals as goal

pub returns-then-has_plain_front : goal.returns-then-has_plain_front
returns-then-has_plain_front c =
    let plain : has_plain_front c.args.word.now ≡ true =
    subst (λ bytes. has_plain_front bytes ≡ true) c.as_bytes-bytes.ensures.value (sym c.has_plain_front.ensures
    ∙ c.if-has_plain_front.true) in
    c.ok.ensures.value ∙ parse_number 64 c.args.word.now c.parse.result c.parse.ensures.value.0 plain

pub returns-else-has_plain_front : goal.returns-else-has_plain_front
returns-else-has_plain_front c =
    let not_plain : has_plain_front c.args.word.now ≡ false =
    subst (λ bytes. has_plain_front bytes ≡ false) c.as_bytes-bytes.ensures.value (sym c.has_plain_front.ensures
    ∙ c.if-has_plain_front.false) in
    sym (no_number (2 ^ 64) c.args.word.now not_plain)
