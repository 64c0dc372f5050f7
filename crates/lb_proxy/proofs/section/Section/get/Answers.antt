use Rattle.toml.proofs.Views.{table_get}
use Rattle.lb_proxy.proofs.section.Section.get.Goals as goal

pub returns : goal.returns
returns c = table_get c.get.result c.args.field.now c.args.self.now.table.now.entries c.get.ensures.value
