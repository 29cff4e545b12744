-- THE NOTES ARE TRUE. Demand 3's premise is measured on what is noted beside each packet (`Packet`), in full numbers. This says that the notes hide
-- nothing: they are what the packet's octets say, in 14 bits, and it is true of the end that wrote it.
-- Assumes nothing.
use Rattle.std.specs.Prelude.{ℕ, ◌%◌, ◌≤◌, ◌≡◌, true, false, List, [], ◌∷◌, map, Ok}
use Rattle.ground.specs.Refusal.{verdict}
use Rattle.field.specs.Word.{word_of}
use Rattle.packet.specs.Acks.{ack_list}
use Rattle.packet.specs.Read.{head_at, acks_at, payload_of, head_tests, list_tests, payload_fits}
use Rattle.channel.specs.Channel.{largest, modulus}
use Rattle.relay.specs.RelayTests.{reliable}
use Rattle.flow.specs.Flow.{Message, Receives, Have, Data}
use Rattle.promise.specs.Past.{Mark, Packet}
use Rattle.promise.specs.Run.{Each}

abbrev pub mark : ℕ → ℕ → Mark
mark channel number = record { channel = channel; number = number }

-- a message as a packet names it: its channel and the 14 bits of its number
abbrev pub mark_word : Mark → ℕ
mark_word m = word_of m.channel (m.number % modulus)

-- What an end shows of a channel is `views` of the channel, and `taken` are the messages taken there, by channel.

-- a message of a reliable channel that has come to the end: it was handed out, or is stored
pub record HasCome (views : ℕ → Receives) (m : Mark) : Type 0 where
  pub served : reliable m.channel ≡ true
  pub have : Have (views m.channel) m.number

-- what is noted of a packet's base: nothing on channel 0; else a number that its writer has reached, of which the packet has the 14 bits
pub data Names (views : ℕ → Receives) (channel base : ℕ) : List Mark → Type 0 where
  nothing : reliable channel ≡ false → Names views channel base []
  reached : (b : ℕ) → reliable channel ≡ true → base ≡ b % modulus → b ≤ (views channel).R → Names views channel base (mark channel b ∷ [])

-- what is noted of its payload: nothing where there is none; else the message that was taken as number n, octet for octet, of which the packet has the
-- 14 bits
pub data Carries (taken : ℕ → List Message) (channel number : ℕ) (payload : Message) : List Mark → Type 0 where
  nothing : payload ≡ [] → Carries taken channel number payload []
  message : (n : ℕ) → reliable channel ≡ true → number ≡ n % modulus → Data (taken channel) n payload → Carries taken channel number payload (mark channel n ∷ [])

-- the notes beside packet k
pub record Noted (identifier kind : ℕ) (taken : ℕ → List Message) (views : ℕ → Receives) (k : Packet) : Type 0 where
  -- its octets pass every test of an arrival, and are for the line
  pub plain : verdict (head_tests k.octets) ≡ Ok tt
  pub listed : verdict (list_tests k.octets) ≡ Ok tt
  pub sized : payload_fits k.octets largest ≡ true
  pub named : (head_at k.octets).identifier ≡ identifier
  pub typed : (head_at k.octets).kind ≡ kind
  -- its acknowledgements, one by one and in their order, are those noted, and each of these messages has come to the writer
  pub words : ack_list (acks_at k.octets) ≡ map mark_word k.acks
  pub acks : Each (HasCome views) k.acks
  pub names : Names views (head_at k.octets).channel (head_at k.octets).base k.names
  pub carries : Carries taken (head_at k.octets).channel (head_at k.octets).number (payload_of k.octets) k.carries
