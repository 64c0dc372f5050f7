use Rattle.lb_health_http.proofs.ChunkLineLemmas.{ends_plain, ends_semicolon}
use Rattle.lb_health_http.proofs.chunk_line.ends_line.Goals as goal

pub returns-then-rest-ne59 : goal.returns-then-rest-ne59
returns-then-rest-ne59 c = ends_plain c.is_end.result c.args.rest.now c.if-rest-ne59.true c.is_end.ensures

pub returns : goal.returns
returns c =
    ends_semicolon c.is_end-2.result c.args.rest.now c.split_at.result.1.now c.count_of.result c.requires c.if-rest-ne59.false
    c.count_of.ensures.reached c.split_at.ensures.back c.is_end-2.ensures
