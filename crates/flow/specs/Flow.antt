-- One way of one channel, seen with full numbers: what each end shows, the moves that the steps are, and what holds between the two
-- ends at all times. Of `held` only the numbers from h to S - 1 count, of `stored` those from R on.
-- Assumes nothing.
use Rattle.std.specs.Prelude.{ℕ, zero, suc, ◌+◌, ◌-◌, ◌≤◌, ◌<◌, max, ◌≡◌, ◌≢◌, List, [], ◌∷◌, length, get_or, take}

-- a message has at least one octet (RULES 3.4); the empty list stands for no message
abbrev pub Message : Type 0
Message = List ℕ

abbrev pub Full : Message → Type 0
Full [] = ⊥
Full (a ∷ x) = Unit {0}

-- "in which case the first stays" (RULES 4.8)
abbrev pub first_stays : Message → Message → Message
first_stays [] x = x
first_stays (a ∷ m) x = a ∷ m

-- a sending end: S, h, and the octets of each message that is held
pub record Sends : Type 0 where
  pub S : ℕ
  pub h : ℕ
  pub held : ℕ → Message

-- a receiving end: R, and the octets of each message that is stored
pub record Receives : Type 0 where
  pub R : ℕ
  pub stored : ℕ → Message

-- message n has come: it was handed out or is stored
abbrev pub Have : Receives → ℕ → Type 0
Have r n = r.R ≤ n → Full (r.stored n)

-- The moves, with full numbers.

-- message x is taken (RULES 5.1)
pub record TakeMove (s t : Sends) (x : Message) : Type 0 where
  pub count : t.S ≡ suc s.S
  pub base : t.h ≡ s.h
  pub new : t.held s.S ≡ x
  pub old : (n : ℕ) → s.h ≤ n → n < s.S → t.held n ≡ s.held n

-- base b is heard (RULES 4.3, RULES 4.4)
pub record BaseMove (s t : Sends) (b : ℕ) : Type 0 where
  pub count : t.S ≡ s.S
  pub base : t.h ≡ max s.h b
  pub old : (n : ℕ) → t.h ≤ n → n < s.S → t.held n ≡ s.held n

-- message k is acknowledged (RULES 4.5)
pub record AckMove (s t : Sends) (k : ℕ) : Type 0 where
  pub count : t.S ≡ s.S
  pub base : t.h ≡ s.h
  pub gone : s.h ≤ k → k < s.S → t.held k ≡ []
  pub old : (n : ℕ) → s.h ≤ n → n < s.S → n ≢ k → t.held n ≡ s.held n

-- message n arrives with octets x (RULES 4.7, RULES 4.8)
pub record PayloadMove (r t : Receives) (n : ℕ) (x : Message) : Type 0 where
  pub next : t.R ≡ r.R
  pub here : r.R ≤ n → t.stored n ≡ first_stays (r.stored n) x
  pub old : (m : ℕ) → r.R ≤ m → m ≢ n → t.stored m ≡ r.stored m

-- message R is handed out (RULES 5.8)
pub record HandOutMove (r t : Receives) : Type 0 where
  pub next : t.R ≡ suc r.R
  pub old : (m : ℕ) → r.R < m → t.stored m ≡ r.stored m

-- What holds between a sending end, its peer's receiving end, the messages taken and those handed out, at all times: the window, what
-- lies where, and that a message no longer held has come.
pub record Flow (w : ℕ) (s : Sends) (r : Receives) (taken handed : List Message) : Type 0 where
  pub count : length taken ≡ s.S
  pub low : s.h ≤ r.R
  pub mid : r.R ≤ s.S
  pub high : s.S ≤ s.h + w
  pub solid : (n : ℕ) → n < s.S → Full (get_or taken n [])
  pub sends : (n : ℕ) → s.h ≤ n → n < s.S → Full (s.held n) → s.held n ≡ get_or taken n []
  pub keeps : (n : ℕ) → r.R ≤ n → Full (r.stored n) → (n < s.S) × (r.stored n ≡ get_or taken n [])
  pub safe : (n : ℕ) → r.R ≤ n → n < s.S → s.held n ≡ [] → Full (r.stored n)
  pub out : handed ≡ take r.R taken

-- a payload of number n with octets x is the message taken as number n
pub record Data (taken : List Message) (n : ℕ) (x : Message) : Type 0 where
  pub known : n < length taken
  pub same : x ≡ get_or taken n []

-- what a receiving end's packets say stays true
pub record Grows (r t : Receives) : Type 0 where
  pub next : r.R ≤ t.R
  pub have : (n : ℕ) → Have r n → Have t n

-- the k messages from number n on, each read from the end that has it
abbrev pub span : Sends → Receives → ℕ → ℕ → List Message
span s r n zero = []
span s r n (suc k) = first_stays (r.stored n) (s.held n) ∷ span s r (suc n) k

-- the messages that wait, oldest first
unfoldable pub waiting : Sends → Receives → List Message
waiting s r = span s r r.R (s.S - r.R)
