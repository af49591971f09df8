use mathlib.Core.Path.{◌≡◌, refl, sym, ◌∙◌}
use Prim.Native.Nat.{◌+◌, ◌-◌}
use native.Mathlib.Omega.{arith}
use lib.ListN.{length}
use lib.Seq.{paste, sets, sets-eq, take-length}
use Rattle.std.proofs.lemmas.Slice.{put_mid-paste}
use Rattle.words.proofs.write_words.Goals as goal

pub returns : goal.returns
returns c =
    let p = c.args.p in
    let w = c.args.words.now in
    let e : paste c.args.buf.now p w (length w) ≡ sets c.args.buf.now p w =
    rw (take-length w) (sym (sets-eq w c.args.buf.now p (omega arith))) in
    record {
      next = refl;
      list = put_mid-paste p (p + length w - p) c.args.buf.now _ w (length w) c.copy_from_slice.ensures.after (omega arith) refl ∙ e;
    }
