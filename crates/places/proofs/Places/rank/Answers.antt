use Rattle.std.proofs.Common.{◌≡◌, sym, ap, ◌∙◌, arith, add-one}
use Rattle.places.specs.Places.{mask_of, set_below}
use Rattle.places.proofs.Ranks.{rank_is, rank_missing, set_in, set_out}
use Rattle.places.proofs.Places.rank.Goals as goal
use Rattle.places.proofs.Places.rank.Goals.{then-has+else-left-eq0, else-has}

pub loop-i-init : goal.loop-i-init
unfolding set_below
loop-i-init c = omega arith

pub returns-then-left-eq0 : goal.returns-then-left-eq0
returns-then-left-eq0 c =
    sym (rank_is (mask_of c.args.self) c.args.rank c.loop-i.i (omega arith) (sym c.has.ensures ∙ c.if-has.true) (omega arith))

pub loop-i-preserved : goal.loop-i-preserved
loop-i-preserved c =
    let m = mask_of c.args.self in
    let i = c.loop-i.i in
    rw (add-one i) (elim c.if-has.branch [
      | then-has+else-left-eq0 w ↦ omega (arith, w.left-is, set_in m i (sym c.has.ensures ∙ w.if-has.true))
      | else-has w ↦ omega (arith, w.left-is, set_out m i (sym c.has.ensures ∙ w.if-has.false))
    ])

pub returns : goal.returns
returns c =
    let m = mask_of c.args.self in
    let end : c.loop-i.i ≡ c.reach-i-end.result = omega arith in
    sym (rank_missing m c.args.rank c.reach-i-end.result c.reach-i-end.ensures.above (omega (arith, ap (set_below m) end)))
