use Rattle.lb_select.proofs.Crcs.{word_by_tables}
use Rattle.lb_select.proofs.crc.state_after_word.Goals as goal

pub returns : goal.returns
returns c = word_by_tables c.args.state c.args.word c.ranges.state.fits c.ranges.word.fits
