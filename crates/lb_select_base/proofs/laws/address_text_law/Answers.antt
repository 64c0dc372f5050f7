use Rattle.std.proofs.Common.{◌<◌, ◌∙◌, ap, length, string_bytes}
use Rattle.lb_select_base.specs.Backends.{unix}
use Rattle.lb_select_base.specs.Seen.{address_seen}
use Rattle.lb_select_base.proofs.AddressRoundTrip.{internet_back, path_back, filled}
use Rattle.lb_select_base.proofs.laws.address_text_law.Goals as goal

pub returns-in-Inet : goal.returns-in-Inet
returns-in-Inet c = rw c.in-Inet.is (internet_back _ c.internet_text_law.ensures)

pub returns-in_default : goal.returns-in_default
returns-in_default c =
    let path = string_bytes c.in_default.field-0 in
    let some : 0 < length path = filled path (λ none. c.requires (ap address_seen c.in_default.is ∙ ap unix none)) in
    rw c.in_default.is (path_back path some)
