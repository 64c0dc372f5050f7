-- What the call ensures, where it sees no gate or no registry: these stay as they are.
use Rattle.lb_world.proofs.entry.Entry.take.Goals as goal

pub returns-in-Update : goal.returns-in-Update
returns-in-Update g c = rw c.in-Update.is (c.update.ensures _)

pub returns-in-Ask : goal.returns-in-Ask
returns-in-Ask g c = rw c.in-Ask.is (c.ask.ensures _)

pub returns-in-Lost : goal.returns-in-Lost
returns-in-Lost g c = rw c.in-Lost.is (c.lost.ensures _ _)

pub returns-in-Publish : goal.returns-in-Publish
returns-in-Publish g c = rw c.in-Publish.is (c.publish.ensures _ _)

pub returns-in-Abandon : goal.returns-in-Abandon
returns-in-Abandon g c = rw c.in-Abandon.is (c.abandon.ensures _ _)

pub returns-in-Enable : goal.returns-in-Enable
returns-in-Enable g c = rw c.in-Enable.is (c.set_enable.ensures _ _)

pub returns-in-Disable : goal.returns-in-Disable
returns-in-Disable g c = rw c.in-Disable.is (c.set_enable-in-Disable.ensures _ _)

pub returns-in-Cancel : goal.returns-in-Cancel
returns-in-Cancel g c = rw c.in-Cancel.is (c.cancel.ensures _)

pub returns-in-Counts : goal.returns-in-Counts
returns-in-Counts g c = rw c.in-Counts.is (c.counts.ensures _ _)

pub returns-in-Timing : goal.returns-in-Timing
returns-in-Timing g c = rw c.in-Timing.is (c.timing.ensures _ _)

pub returns-in-Load : goal.returns-in-Load
returns-in-Load g c = rw c.in-Load.is (c.load.ensures _ _)
