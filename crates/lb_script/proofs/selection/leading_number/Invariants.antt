use Rattle.std.proofs.Common.{◌≡◌, ◌≤◌, ◌-◌, true, length, take}
use Rattle.std.specs.Char.{is_ascii_digit}
use Rattle.std.specs.List.{list_all}
use Rattle.std.specs.Str.Parse.{digits_value}
use Rattle.lb_script.proofs.selection.leading_number.Given as goal

abbrev pub invariant-loop-count : goal.invariant-loop-count
invariant-loop-count l = record {
  within : l.count ≤ length l.bytes;
  value : l.n ≡ digits_value 10 (take l.count l.bytes);
  digits : list_all is_ascii_digit (take l.count l.bytes) ≡ true;
}

abbrev pub decreases-loop-count : goal.decreases-loop-count
decreases-loop-count l = length l.bytes - l.count
