use Rattle.std.proofs.Common.{◌≡◌, ℕ, ◌<◌, ◌/◌, ◌^◌, inl, inr, Bool, true, false, not, eqb, sym, ap, ◌∙◌, arith}
use Rattle.std.proofs.lemmas.Bool.{cases_lt}
use Rattle.std.proofs.lemmas.Grind.{common_steps}
use Rattle.ground.proofs.Every.{every_all, every_not, below_suc}
use Rattle.places.specs.Places.{mask_of}
use Rattle.places.specs.declared.Places.{Places}
use Rattle.places.proofs.Bits.{bit_past}
use Rattle.places.proofs.Masks.{mask_is}
use Rattle.places.proofs.Walks.{walk_at, walk_on, walk_below, walk_ends}
use Rattle.channel.specs.Sizes.{size_at, sizes_fit}
use Rattle.channel.proofs.sizes.sizes_fit.Goals as goal
use Rattle.channel.proofs.sizes.sizes_fit.Goals.{else-has-via-then-has+else-not-size_fits, else-has-via-else-has}

-- in the loop's body place i is one of the window's
at_loop : (set rest : Places) (i w : ℕ) (r : Bool) → mask_of rest ≡ mask_of set / 2 ^ i → mask_of set < 2 ^ w → r ≡ eqb (mask_of rest) 0 → r ≡ false → i < w
at_loop set rest i w r e h s t = walk_below (mask_of set) i (mask_of rest) e w h (ap not (sym s ∙ t))

pub returns-then-not-size_fits : goal.returns-then-not-size_fits
unfolding sizes_fit
returns-then-not-size_fits c =
    let a = c.args in
    let l = c.loop-sizes in
    let test = size_at a.window a.largest a.sizes (mask_of a.set) a.origin in
    let within = at_loop a.set l.rest l.i a.window _ l.invariant.1 c.requires.2 c.empty.ensures c.loop-sizes-test.true in
    let b = walk_at (mask_of a.set) l.i (mask_of l.rest) l.invariant.1 in
    let lost : test l.i ≡ false = grind (arith, common_steps) in
    sym (every_not test a.window l.i within lost)

pub loop-sizes-smaller : goal.loop-sizes-smaller
loop-sizes-smaller c =
    let l = c.loop-sizes in
    let within = at_loop c.args.set l.rest l.i c.args.window _ l.invariant.1 c.requires.2 c.empty.ensures c.loop-sizes-test.true in
    omega arith

pub loop-sizes-preserved : goal.loop-sizes-preserved
loop-sizes-preserved c =
    let a = c.args in
    let l = c.loop-sizes in
    let m = mask_of a.set in
    let test = size_at a.window a.largest a.sizes m a.origin in
    let within = at_loop a.set l.rest l.i a.window _ l.invariant.1 c.requires.2 c.empty.ensures c.loop-sizes-test.true in
    let b = walk_at m l.i (mask_of l.rest) l.invariant.1 in
    let here : test l.i ≡ true = grind (arith, common_steps) in (
      omega arith,
      mask_is _ c.dropped-rest.ensures ∙ walk_on m l.i (mask_of l.rest) l.invariant.1,
      λ j p. below_suc (λ k. test k ≡ true) l.i l.invariant.2 here j (omega arith),
    )

pub returns : goal.returns
unfolding sizes_fit
returns c =
    let a = c.args in
    let l = c.loop-sizes in
    let m = mask_of a.set in
    let reach = walk_ends m l.i (mask_of l.rest) l.invariant.1 (ap not (sym c.empty.ensures ∙ c.loop-sizes-test.false)) in
    sym (every_all (size_at a.window a.largest a.sizes m a.origin) a.window (λ j _. elim (cases_lt j l.i) [
      | inl p ↦ l.invariant.2 j p
      | inr p ↦ rw (bit_past m l.i j reach p)
    ]))
