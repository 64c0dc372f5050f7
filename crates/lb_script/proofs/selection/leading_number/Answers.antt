use Rattle.std.proofs.Common.{◌≡◌, ◌+◌, ◌∙◌, true, sym, arith, get_or}
use Rattle.std.specs.Char.{is_ascii_digit}
use Rattle.lb_script.proofs.SelectionLemmas.{digit_back, number_more, digits_more}
use Rattle.lb_script.proofs.selection.leading_number.Goals as goal

pub loop-count-preserved : goal.loop-count-preserved
loop-count-preserved c =
    let bytes = c.args.bytes.now in
    let count = c.loop-count.count in
    let digit : is_ascii_digit (get_or bytes count 0) ≡ true = sym c.is_ascii_digit.ensures.value ∙ c.if-is_ascii_digit.true in
    let byte : c.from.result + 48 ≡ get_or bytes count 0 = digit_back (get_or bytes count 0) c.from.result digit c.from.ensures in
    record {
      within = omega arith;
      value = number_more bytes count c.loop-count.n c.from.result c.loop-count-test.true c.loop-count.invariant.value digit byte;
      digits = digits_more bytes count c.loop-count-test.true c.loop-count.invariant.digits digit;
    }
