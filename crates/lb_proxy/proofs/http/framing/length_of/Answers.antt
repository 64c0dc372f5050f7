use Rattle.std.proofs.Common.{◌≡◌, ◌+◌, ◌*◌, ◌^◌, ◌++◌, ◌∷◌, [], true, slice_index_or, take, arith, rules}
use Rattle.std.specs.Char.{is_ascii_digit, digit_value}
use Rattle.std.specs.Int.{IsInRange}
use Rattle.std.proofs.lemmas.Int.Digits.{digits_value_push}
use Rattle.std.proofs.lemmas.Str.{digit_value_digit}
use Rattle.std.proofs.lemmas.Grind.{pow_more}
use Rattle.std.proofs.lemmas.List.{take_more}
use Rattle.lb_proxy.proofs.HttpLengthLemmas.{value_small, all_more}
use Rattle.lb_proxy.proofs.http.framing.length_of.Goals as goal

pub overflow_mul-value : goal.overflow_mul-value
overflow_mul-value c =
    let few = c.loop-digit-test.true in
    let short = c.loop-digit.invariant.short in
    let small = value_small c.loop-digit.value c.loop-digit.digit-index c.loop-digit.invariant.small (omega arith) in
    omega arith

pub overflow_add-value : goal.overflow_add-value
overflow_add-value c =
    let few = c.loop-digit-test.true in
    let short = c.loop-digit.invariant.short in
    let small = value_small c.loop-digit.value c.loop-digit.digit-index c.loop-digit.invariant.small (omega arith) in
    omega (arith, c.type_inv.digits c.loop-digit.digit-index)

pub loop-digit-preserved : goal.loop-digit-preserved
loop-digit-preserved c =
    let i = c.loop-digit.digit-index in
    let xs = c.args.digits.now in
    let d = slice_index_or xs i 0 in
    let few = c.loop-digit-test.true in
    let is : is_ascii_digit d ≡ true = search rules in
    let range : IsInRange 48 57 d = search rules in
    let at : digit_value d + 48 ≡ d = digit_value_digit d range in
    let more : take (i + 1) xs ≡ take i xs ++ d ∷ [] = take_more xs i 0 (omega arith) in
    let power : 10 ^ (i + 1) ≡ 10 ^ i * 10 = pow_more 10 i in
    let value = c.loop-digit.invariant.value in
    let small = c.loop-digit.invariant.small in
    record {
      short = c.loop-digit.invariant.short;
      some = c.loop-digit.invariant.some;
      digits = rw more (all_more is_ascii_digit (take i xs) d c.loop-digit.invariant.digits is);
      value = rw (more, digits_value_push) (omega arith);
      small = omega arith;
    }
