-- The arrays of a line's record have the lengths that its declaration gives them: so has every record that a program can hold.
-- Assumes nothing.
use Rattle.std.specs.Prelude.{◌≡◌, length}
use Rattle.places.specs.Places.{widest}
use Rattle.line.specs.declared.Line.{Line}

pub record Shaped (l : Line) : Type 0 where
  pub sending1 : length l.sending.one.sizes ≡ widest
  pub sending2 : length l.sending.two.sizes ≡ widest
  pub receiving1 : length l.receiving.one.sizes ≡ widest
  pub receiving2 : length l.receiving.two.sizes ≡ widest
