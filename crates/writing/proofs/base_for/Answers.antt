use mathlib.Core.Path.{ap, ◌∙◌}
use Prim.Native.Nat.{◌%◌}
use lib.Bits.{and_mask}
use borrow.Author.Tests.{eq-eqb, ne_eqb}
use Rattle.channel.specs.Channel.{modulus}
use Rattle.receiving.specs.declared.Receiving.{Receiving}
use Rattle.writing.specs.Write.{base_for}
use Rattle.writing.proofs.base_for.Goals as goal

pub returns-then-channel-eq0 : goal.returns-then-channel-eq0
unfolding base_for
returns-then-channel-eq0 c = rw (eq-eqb _ _ c.if-channel-eq0.true)

pub returns : goal.returns
unfolding base_for
returns c =
    rw (ne_eqb _ _ c.if-channel-eq0.false) (and_mask c.receiving.result.next 14 ∙ ap (λ (r : Receiving). r.next % modulus) c.receiving.ensures)
