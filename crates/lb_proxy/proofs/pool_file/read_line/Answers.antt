use Rattle.std.proofs.Common.{◌≡◌, Some, arith}
use Rattle.std.proofs.lemmas.Grind.{common_steps}
use Rattle.lb_select_base.specs.AddressText.{address_of_text, bare_member}
use Rattle.lb_proxy.proofs.PoolFileLemmas.{memory_address}
use Rattle.lb_proxy.proofs.pool_file.read_line.Goals as goal

pub returns-in-Err-OutOfMemory : goal.returns-in-Err-OutOfMemory
returns-in-Err-OutOfMemory c =
    let made = rw c.in-Err-OutOfMemory.field-0-is at c.in-Err-OutOfMemory.ensures.made in
    let found = memory_address (address_of_text c.in-Ok.address.now) made in
    let is : address_of_text c.in-Ok.address.now ≡ Some found.0 = found.1 in
    (record { backend = bare_member c.in-Ok.weight found.0; enabled = c.strip_mark-enabled.result.0 }, grind (arith, common_steps))
