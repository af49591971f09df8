use Rattle.texts.proofs.OnlySchedules.{schedule_only_text}
use Rattle.texts.proofs.ReadSchedules.{schedule_read_back}
use Rattle.promises.proofs.schedules_have_one_text.Goals as goal

pub returns : goal.returns
returns c = (schedule_read_back, schedule_only_text)
