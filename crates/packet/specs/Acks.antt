-- Acknowledgements: words of 16 bits, at most three (RULES 2.2), and which of them are served.
-- Assumes nothing.
use Rattle.std.specs.Prelude.{ℕ, Bool, true, List, [], ◌∷◌, take, ltb, eqb}
use Rattle.ground.specs.Pick.{pick, all_hold}
use Rattle.field.specs.Word.{served}
use Rattle.packet.specs.declared.Acks.{Acks}

-- the acknowledgements as a list
abbrev pub ack_list : Acks → List ℕ
ack_list a = take a.count (a.one ∷ a.two ∷ a.three ∷ [])

-- of n acknowledgements the k-th, from 0, names a channel that is served, if it is there
abbrev pub named : ℕ → ℕ → ℕ → Bool
named n k w = pick (ltb k n) (served w) true

-- if the k-th of n is not there, its word is 0
abbrev pub blank : ℕ → ℕ → ℕ → Bool
blank n k w = pick (ltb k n) true (eqb w 0)

-- each acknowledgement that is there names channel 1 or 2 (RULES 13.6)
unfoldable pub acks_served : Acks → Bool
acks_served a = all_hold (named a.count 0 a.one ∷ named a.count 1 a.two ∷ named a.count 2 a.three ∷ [])

-- each word past the count is 0 (RULES 14.18)
unfoldable pub acks_blank : Acks → Bool
acks_blank a = all_hold (blank a.count 0 a.one ∷ blank a.count 1 a.two ∷ blank a.count 2 a.three ∷ [])
