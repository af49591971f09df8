use Rattle.schedule.proofs.note.Goals as goal

pub returns-in-Threads : goal.returns-in-Threads
returns-in-Threads c = rw c.in-Threads.is

pub returns-in-Slots : goal.returns-in-Slots
returns-in-Slots c = rw c.in-Slots.is

pub returns-in-Plain : goal.returns-in-Plain
returns-in-Plain c = rw c.in-Plain.is

pub returns-in-Flag : goal.returns-in-Flag
returns-in-Flag c = rw c.in-Flag.is

pub returns-in-Steps : goal.returns-in-Steps
returns-in-Steps c = rw c.in-Steps.is
