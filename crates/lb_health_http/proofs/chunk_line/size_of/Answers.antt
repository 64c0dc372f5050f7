use Rattle.std.proofs.Common.{rules, arith}
use Rattle.lb_health_http.specs.ChunkLines.{EndsChunkLine}
use Rattle.lb_health_http.proofs.ChunkLineLemmas.{split_line, read_here, not_here, empty_front, some_front, not_true, is_true}
use Rattle.lb_health_http.proofs.chunk_line.size_of.Goals as goal
use Rattle.lb_health_http.proofs.chunk_line.size_of.Goals.{then-is_empty-via-then-is_empty}
use Rattle.lb_health_http.proofs.chunk_line.size_of.Goals.{then-is_empty-via-else-is_empty+then-digits-gt-DIGIT_LIMIT}
use Rattle.lb_health_http.proofs.chunk_line.size_of.Goals.{then-is_empty-via-else-is_empty+else-digits-gt-DIGIT_LIMIT+then-not-ends_line}

pub ends_line-requires : goal.ends_line-requires
ends_line-requires c =
    (split_line _ _ _ _ _ _ c.requires c.count_of.ensures.reached c.split_at.ensures.front c.split_at.ensures.back
    c.count_of-2.ensures.reached c.split_at-2.ensures.back).ending

pub returns-then-is_empty : goal.returns-then-is_empty
returns-then-is_empty c =
    let parts = split_line _ _ _ _ _ _ c.requires c.count_of.ensures.reached c.split_at.ensures.front c.split_at.ensures.back
    c.count_of-2.ensures.reached c.split_at-2.ensures.back in
    not_here _ _ _ parts (elim c.then-is_empty.branch [
      | then-is_empty-via-then-is_empty w ↦ λ some few ending. empty_front c.split_at.result.0.now c.is_empty.result c.is_empty.ensures
          w.if-is_empty.true some
      | then-is_empty-via-else-is_empty+then-digits-gt-DIGIT_LIMIT w ↦ λ some few ending.
          let many = w.if-digits-gt-DIGIT_LIMIT.true in absurd (omega arith)
      | then-is_empty-via-else-is_empty+else-digits-gt-DIGIT_LIMIT+then-not-ends_line w ↦
          λ some few ending. not_true (EndsChunkLine c.split_at-2.result.1.now) w.ends_line.result w.ends_line.ensures (search rules) ending
    ])

pub number_of-requires-clause-hexadecimal : goal.number_of-requires-clause-hexadecimal
number_of-requires-clause-hexadecimal c =
    (split_line _ _ _ _ _ _ c.requires c.count_of.ensures.reached c.split_at.ensures.front c.split_at.ensures.back
    c.count_of-2.ensures.reached c.split_at-2.ensures.back).hexadecimal

pub returns : goal.returns
returns c =
    let parts = split_line _ _ _ _ _ _ c.requires c.count_of.ensures.reached c.split_at.ensures.front c.split_at.ensures.back
    c.count_of-2.ensures.reached c.split_at-2.ensures.back in
    read_here _ _ _ parts (some_front _ c.is_empty.result c.is_empty.ensures c.if-is_empty.false) c.if-digits-gt-DIGIT_LIMIT.false
    (is_true _ c.ends_line.result c.ends_line.ensures (search rules)) c.number_of.result c.number_of.ensures
