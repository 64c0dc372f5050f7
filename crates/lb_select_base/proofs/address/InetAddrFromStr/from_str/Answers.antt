use Rattle.lb_select_base.proofs.AddressTexts.{internet_read, internet_unread, map_ok_or}
use Rattle.lb_select_base.proofs.address.InetAddrFromStr.from_str.Goals as goal

pub returns-in-Ok : goal.returns-in-Ok
returns-in-Ok c = rw (c.ok_or.ensures.value, map_ok_or, c.inet_of.ensures, internet_read _ _ c.in-Ok.ensures.value)

pub returns-in-Err : goal.returns-in-Err
returns-in-Err c = rw (internet_unread _ c.in-Err.ensures.value)
