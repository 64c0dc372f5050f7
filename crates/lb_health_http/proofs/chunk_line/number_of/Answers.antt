use Rattle.std.proofs.Common.{◌≡◌, ◌<◌, ◌+◌, ◌*◌, slice_index_or, take, arith}
use Rattle.std.specs.Char.{digit_value}
use Rattle.std.specs.Str.Parse.{digits_value}
use Rattle.std.proofs.lemmas.Int.Digits.{digits_value_more}
use Rattle.lb_health_http.proofs.ChunkLineLemmas.{hexdigit_small, hex_more, hex_room}
use Rattle.lb_health_http.proofs.chunk_line.number_of.Goals as goal

pub overflow_mul-number : goal.overflow_mul-number
overflow_mul-number c =
    let few = c.requires.few in
    let small = c.loop-digit.invariant.small in
    let room = hex_room c.loop-digit.digit-index c.loop-digit.number (omega arith) small in
    omega arith

pub overflow_add-number : goal.overflow_add-number
overflow_add-number c =
    let few = c.requires.few in
    let small = c.loop-digit.invariant.small in
    let d = slice_index_or c.args.digits.now c.loop-digit.digit-index 0 in
    let digit : digit_value d < 16 = hexdigit_small d (c.requires.hexadecimal c.loop-digit.digit-index 0 (omega arith)) in
    let same = c.digit_of.ensures in
    let room = hex_room c.loop-digit.digit-index c.loop-digit.number (omega arith) small in
    omega arith

pub loop-digit-preserved : goal.loop-digit-preserved
loop-digit-preserved c =
    let xs = c.args.digits.now in
    let i = c.loop-digit.digit-index in
    let d = slice_index_or xs i 0 in
    let digit : digit_value d < 16 = hexdigit_small d (c.requires.hexadecimal i 0 (omega arith)) in
    let same = c.digit_of.ensures in
    let more : digits_value 16 (take (i + 1) xs) ≡ digits_value 16 (take i xs) * 16 + digit_value d =
    digits_value_more 16 xs i (omega arith) in
    let value = c.loop-digit.invariant.value in
    record {
      value = omega arith;
      small = hex_more i c.loop-digit.number c.digit_of.result c.loop-digit.invariant.small (omega arith);
    }
