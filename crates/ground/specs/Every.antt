-- A test that holds of each number below a bound.
-- Assumes nothing.
use Rattle.std.specs.Prelude.{ℕ, zero, suc, Bool, true, ◌&&◌}

-- the test holds of each number below n
unfoldable pub every : ℕ → (ℕ → Bool) → Bool
every zero P = true
every (suc n) P = every n P && P n
