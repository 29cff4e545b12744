-- What a line has for each of its two channels.
-- Assumes nothing.
use Rattle.std.specs.Prelude.{ℕ, eqb}
use Rattle.ground.specs.Pick.{pick}
use Rattle.line.specs.declared.Sides.{Sides}

module _ {A : Type 0} where
  -- that of channel 1, or else of channel 2
  abbrev pub side_of : Sides A → ℕ → A
  side_of s channel = pick (eqb channel 1) s.one s.two

  -- both, with another one of a channel
  abbrev pub with_side : Sides A → ℕ → A → Sides A
  with_side s channel a = record { one = pick (eqb channel 1) a s.one; two = pick (eqb channel 1) s.two a }
