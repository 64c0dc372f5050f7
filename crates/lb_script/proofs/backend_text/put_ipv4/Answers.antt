use Rattle.std.proofs.Common.{◌≡◌, append_assoc, append-nil, arith, drop, []}
use Rattle.std.proofs.lemmas.List.{drop_all}
use Rattle.lb_script.proofs.backend_text.put_ipv4.Goals as goal

pub returns-clause-text : goal.returns-clause-text
returns-clause-text c =
    rw (
      c.put_number.ensures.text,
      c.put_byte-at-5.ensures.text,
      c.put_number-at-5.ensures.text,
      c.put_byte-at-4.ensures.text,
      c.put_number-at-4.ensures.text,
      c.put_byte-at-3.ensures.text,
      c.put_number-at-3.ensures.text,
      c.put_byte-at-2.ensures.text,
      c.put_number-at-2.ensures.text,
      c.put_byte-at.ensures.text,
      c.put_number-at.ensures.text,
    )
    (simp (append_assoc, append-nil) (rw (c.from-5.ensures, c.from-4.ensures, c.from-3.ensures, c.from-2.ensures, c.from.ensures)))
