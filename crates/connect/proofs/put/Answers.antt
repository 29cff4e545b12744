use mathlib.Core.Path.{sym, ◌∙◌}
use Prim.Native.Nat.{◌/◌}
use native.Mathlib.Omega.{arith}
use lib.ListN.{length-take}
use Rattle.connect.proofs.Writes.{half_size, body_stored}
use Rattle.connect.proofs.put.Goals as goal

pub slice_bounds-words-end : goal.slice_bounds-words-end
slice_bounds-words-end c = half_size c.args.c.compression c.size_of-n.ensures

pub slice_bounds-put_words-end : goal.slice_bounds-put_words-end
slice_bounds-put_words-end c =
    let h = half_size c.args.c.compression c.size_of-n.ensures in
    sym (length-take (c.size_of-n.result / 2) _ ∙ omega arith)

pub returns : goal.returns
returns c =
    (c.size_of-n.ensures, body_stored c.args.c c.requires.0 c.requires.1 c.args.out.now c.size_of-n.ensures c.flags_of-flags.ensures c.put_words.ensures)
