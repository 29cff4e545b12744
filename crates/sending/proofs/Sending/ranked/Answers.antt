use Prim.Native.Nat.{◌-◌}
use mathlib.Core.Path.{sym, ap, ◌∙◌}
use native.Mathlib.Omega.{arith}
use Rattle.sending.specs.Sending.{held_at, held_of}
use Rattle.channel.proofs.Distances.{place_lt}
use Rattle.places.proofs.Ranks.{rank_below}
use Rattle.places.specs.Places.{mask_of}
use Rattle.sending.proofs.Sending.ranked.Goals as goal

pub place-at-requires : goal.place-at-requires
place-at-requires c =
    let s = c.args.self in
    omega (arith, rank_below (mask_of s.unacked) c.args.rank _ (s.taken - s.base) c.requires.masked (sym c.rank.ensures ∙ c.in_ok-i.was), c.requires)

pub bounds-self-at : goal.bounds-self-at
bounds-self-at c =
    let s = c.args.self in
    let k = rank_below (mask_of s.unacked) c.args.rank _ (s.taken - s.base) c.requires.masked (sym c.rank.ensures ∙ c.in_ok-i.was) in
    omega (
      arith,
      c.place-at.ensures,
      place_lt c.args.window c.args.self.origin c.in_ok-i.i
          c.requires.placed (omega (arith, c.requires)),
      c.requires,
    )

pub overflow_add-result : goal.overflow_add-result
overflow_add-result c =
    let s = c.args.self in
    omega (arith, rank_below (mask_of s.unacked) c.args.rank _ (s.taken - s.base) c.requires.masked (sym c.rank.ensures ∙ c.in_ok-i.was), c.requires)

pub returns : goal.returns
unfolding held_of
returns c =
    let s = c.args in
    rw c.place-at.ensures (ap (held_at s.window s.self) (sym c.in_ok-i.was ∙ c.rank.ensures))

pub returns-in_err-i : goal.returns-in_err-i
unfolding held_of
returns-in_err-i c =
    let s = c.args in
    c.from_residual.ensures ∙ ap (held_at s.window s.self) (sym c.in_err-i.was ∙ c.rank.ensures)
