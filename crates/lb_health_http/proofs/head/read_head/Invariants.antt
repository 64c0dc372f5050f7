use Rattle.std.proofs.Common.{◌≡◌, ◌≤◌}
use Rattle.lb_stream.specs.Counted.{inner_of, has_failed}
use Rattle.lb_stream.specs.Stream.{OnBytes}
use Rattle.lb_health_http.specs.Head.{AfterBlank}
use Rattle.lb_health_http.proofs.HeadLemmas.{HeadSoFar}
use Rattle.lb_health_http.proofs.RoomLemmas.{BeginsWithText, feeds}
use Rattle.lb_health_http.proofs.head.read_head.Given as goal

abbrev pub invariant-loop : goal.invariant-loop
invariant-loop g l = record {
  read : OnBytes (g.R.Read.remaining (inner_of l.fn.reader)) (g.R.Read.remaining (inner_of l.reader)) (AfterBlank l.counter l.bytes.items);
  so_far : HeadSoFar l.bytes.items l.counter;
  text : BeginsWithText l.bytes.items;
  counted : l.lines ≡ feeds l.bytes.items;
  room : l.lines ≤ 65;
  kept : has_failed l.reader ≡ has_failed l.fn.reader;
}
