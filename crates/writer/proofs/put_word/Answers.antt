use mathlib.Core.Path.{sym, ap}
use lib.ListN.{length}
use Rattle.measure.proofs.Widths.{word_front}
use Rattle.writer.proofs.put_word.Goals as goal

pub slice_bounds-put_bytes-end : goal.slice_bounds-put_bytes-end
slice_bounds-put_bytes-end c = rw c.word_width-n.ensures (sym (ap length (word_front c.args.w.now)))

pub returns : goal.returns
returns c = rw (c.word_width-n.ensures, word_front c.args.w.now) at c.put_bytes.ensures
