use Rattle.lb_proxy.proofs.HttpFrameLemmas.{at_frame}
use Rattle.lb_proxy.proofs.http.body.after_byte.Goals as goal

pub returns-in-Size : goal.returns-in-Size
returns-in-Size c = at_frame c.args.frame _ c.args.byte c.after_size.result c.in-Size.is c.after_size.ensures

pub returns-in-Extension : goal.returns-in-Extension
returns-in-Extension c = at_frame c.args.frame _ c.args.byte c.after_extension.result c.in-Extension.is c.after_extension.ensures

pub returns-in-Trailer : goal.returns-in-Trailer
returns-in-Trailer c = at_frame c.args.frame _ c.args.byte c.after_start.result c.in-Trailer.is c.after_start.ensures

pub returns-in-Name : goal.returns-in-Name
returns-in-Name c = at_frame c.args.frame _ c.args.byte c.after_name.result c.in-Name.is c.after_name.ensures

pub returns-in-Value : goal.returns-in-Value
returns-in-Value c = at_frame c.args.frame _ c.args.byte c.after_value.result c.in-Value.is c.after_value.ensures

pub returns-in-ValueFeed : goal.returns-in-ValueFeed
returns-in-ValueFeed c = at_frame c.args.frame _ c.args.byte c.after_trailer.result c.in-ValueFeed.is c.after_trailer.ensures
