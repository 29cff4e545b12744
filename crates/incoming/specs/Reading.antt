-- What is read of a packet before it takes effect: its head and its acknowledgements, beside the line that it is for.
-- Assumes nothing.
use Rattle.std.specs.Prelude.{ℕ, List}
use Rattle.packet.specs.Read.{head_at, acks_at}
use Rattle.incoming.specs.declared.Arriving.{Arriving}

abbrev pub arriving_at : ℕ → List ℕ → Arriving
arriving_at line s = record { line = line; head = head_at s; acks = acks_at s }
