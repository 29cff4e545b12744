-- ISOLATION, asked of any build: what comes of the calls and packets of a line depends on that line alone, on its record and on its part of the store. What
-- the other lines are, what is called there, which packets come for them and what lies in their parts of the store: nothing of it shows.
-- It is said of an open line: to open it once more is TAKEN, whatever the others are. The opening of a closed line is outside: whether it is accepted depends
-- on the others, as TAKEN asks for their identifiers and for those that rest.
-- Assumes nothing.
use Rattle.std.specs.Prelude.{ℕ, ◌≡◌, Bool, true, false, ◌&&◌, List, [], ◌∷◌}
use Rattle.ground.specs.Answer.{Answer}
use Rattle.ground.specs.Pick.{pick}
use Rattle.line.specs.Line.{is_open}
use Rattle.book.specs.Book.{resting_of}
use Rattle.book.specs.Shape.{BookShaped}
use Rattle.calls.specs.Call.{Call}
use Rattle.laws.specs.Reached.{is_closing}
use Rattle.laws.specs.LineCalls.{for_line, SameOnLine}
use Rattle.promise.specs.Build.{Does, Build}
use Rattle.promise.specs.Run.{Gateway, does, after, line_at, part_in}
use Rattle.promise.specs.Demand2.{Ready}

-- Two gateways that have the same line i: it is open, with one record and the same octets in its part of the store. All else may differ, also where the
-- part lies.
pub record SameLine (i : ℕ) (g h : Gateway) : Type 0 where
  pub here : Ready g i
  pub there : Ready h i
  pub line : line_at g i ≡ line_at h i
  pub part : part_in g i ≡ part_in h i

-- a call, and the output that it is lent
pub record Calling : Type 0 where
  pub call : Call
  pub out : List ℕ

-- what its caller is told: the answer, and what the output holds then
pub record Told : Type 0 where
  pub answer : Answer
  pub out : List ℕ

-- of a sequence of calls those for line i: the ones that name it, and the packets with its identifier
abbrev pub calls_for : ℕ → ℕ → List Calling → List Calling
calls_for i identifier [] = []
calls_for i identifier (c ∷ cs) = pick (for_line i identifier c.call) (c ∷ calls_for i identifier cs) (calls_for i identifier cs)

-- Calls at a gateway, one after another, each on what the one before it left; nothing else writes the book and the store.
module _ (f : Does) where
  -- what they leave
  abbrev pub after_all : Gateway → List Calling → Gateway
  after_all g [] = g
  after_all g (c ∷ cs) = after_all (after f g c.call c.out) cs

  -- what is told on line i, one after another: the answer to each call for the line, and its output
  abbrev pub told_on : ℕ → ℕ → Gateway → List Calling → List Told
  told_on i identifier g [] = []
  told_on i identifier g (c ∷ cs) =
      let d = does f g c.call c.out in
      let later = told_on i identifier (after f g c.call c.out) cs in
      pick (for_line i identifier c.call) (record { answer = d.answer; out = d.out } ∷ later) later

  -- the calls for line i are made while it is open
  abbrev pub while_open : ℕ → ℕ → Gateway → List Calling → Bool
  while_open i identifier g [] = true
  while_open i identifier g (c ∷ cs) =
      let later = while_open i identifier (after f g c.call c.out) cs in
      pick (for_line i identifier c.call) (is_open (line_at g i) && later) later

-- a line has the identifier, if it is open
abbrev pub Has : Gateway → ℕ → ℕ → Type 0
Has g i identifier = is_open (line_at g i) ≡ true → (line_at g i).identifier ≡ identifier

pub record Isolated (b : Build) : Type 0 where
  -- a call for the line, or a packet with its identifier: it comes to the same wherever the line is the same
  pub own : (i : ℕ) (g h : Gateway) → SameLine i g h → (c : Call) → for_line i (line_at g i).identifier c ≡ true → (out : List ℕ)
      → SameOnLine i (does b.does g c out) (does b.does h c out)
  -- every other call leaves the line and its part of the store as they were, whatever the book
  pub others : (i identifier : ℕ) (g : Gateway) → Has g i identifier → BookShaped g.book → (c : Call) → for_line i identifier c ≡ false → (out : List ℕ)
      → (line_at (after b.does g c out) i ≡ line_at g i) × (part_in (after b.does g c out) i ≡ part_in g i)
  -- So over any two sequences of calls that have the same calls and packets of line i in the same order, made while the line is open, whatever else is called in them and
  -- whatever packets come for the other lines: the same is told on the line, the slip of its closing included, and the line and its part are left the same.
  pub runs : (i : ℕ) (g h : Gateway) → SameLine i g h → (cs ds : List Calling)
      → let x = (line_at g i).identifier in calls_for i x cs ≡ calls_for i x ds → while_open b.does i x g cs ≡ true
      → (told_on b.does i x g cs ≡ told_on b.does i x h ds)
      × (line_at (after_all b.does g cs) i ≡ line_at (after_all b.does h ds) i)
      × (part_in (after_all b.does g cs) i ≡ part_in (after_all b.does h ds) i)
  -- "So is one among the last 16 closed": which identifiers rest is changed by closings alone
  pub rests : (g : Gateway) (c : Call) → is_closing c ≡ false → (out : List ℕ) → resting_of (after b.does g c out).book ≡ resting_of g.book
