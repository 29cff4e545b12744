-- How far a gateway is with its line, and the end that the line is: before the opening one that nobody uses, whatever line i is used for till then.
-- Assumes nothing.
use Prim.Native.Nat.{ℕ, ◌≤◌, ◌<◌}
use mathlib.Core.Path.{◌≡◌, refl, sym, ap, subst, transport, ◌∙◌}
use mathlib.Core.Bool.{true, false}
use mathlib.Core.List.{List}
use native.Mathlib.Omega.{arith}
use lib.ListN.{length}
use Rattle.ground.specs.Pick.{pick}
use Rattle.ground.proofs.Picks.{clash}
use Rattle.line.specs.Line.{is_open, closed_line}
use Rattle.line.specs.Part.{part_length}
use Rattle.line.specs.declared.Line.{Line}
use Rattle.line.proofs.Keeps.{closed_fits}
use Rattle.line.proofs.Same.{SameOpening}
use Rattle.book.specs.Book.{book_fits}
use Rattle.book.specs.Parts.{store_length}
use Rattle.book.specs.Shape.{BookShaped}
use Rattle.book.proofs.Parts.{starts_same, part_long}
use Rattle.calls.specs.Call.{Call}
use Rattle.laws.proofs.Keeps.{every_call_keeps, store_length_lem}
use Rattle.promise.specs.Past.{Past, nothing_yet, just_opened}
use Rattle.promise.specs.Run.{Gateway, line_at, part_in, Relays}
use Rattle.promise.specs.Promise.{line_in}
use Rattle.promise.specs.Ours.{after}
use Rattle.promise.proofs.Ends.{End, Joined}
use Rattle.promise.proofs.Fresh.{Unused, closed_unused, unused_joined}

-- the end that line i of a gateway is
abbrev pub end_of : Gateway → ℕ → Past → End
end_of g i p = record { line = line_in g i p; part = part_in g i; past = p }

-- the line was opened as the run says
pub record Open (identifier kind : ℕ) (l : Line) : Type 0 where
  pub opened : is_open l ≡ true
  pub named : l.identifier ≡ identifier
  pub typed : l.kind ≡ kind

-- not opened yet; opened, and nothing has become of it; or in modem relay
pub data Phase (i identifier kind : ℕ) (g : Gateway) : Past → Type 0 where
  closed : Phase i identifier kind g nothing_yet
  unused : Open identifier kind (line_at g i) → Unused (line_at g i) → Phase i identifier kind g just_opened
  relaying : {p : Past} → Open identifier kind (line_at g i) → p.opened ≡ true → Relays g i → Phase i identifier kind g p

-- what holds of a gateway by itself
pub record Sound (i identifier kind : ℕ) (g : Gateway) (p : Past) : Type 0 where
  pub fits : book_fits g.book ≡ true
  pub shaped : BookShaped g.book
  pub long : store_length g.book ≤ length g.store
  pub small : i < 4
  pub phase : Phase i identifier kind g p

-- every call leaves the store as long as it was, and no book asks for more
pub long_after : {i identifier kind : ℕ} {g : Gateway} {p : Past} → Sound i identifier kind g p → (c : Call) (out : List ℕ) → store_length (after g c out).book ≤ length (after g c out).store
long_after {g = g} s c out = omega (arith, s.long, store_length_lem c g.book g.store out, starts_same g.book (after g c out).book 4 (λ j l. refl))

-- no call breaks the book
pub sound_after : {i identifier kind : ℕ} {g : Gateway} {p p' : Past} → Sound i identifier kind g p → (c : Call) (out : List ℕ) → Phase i identifier kind (after g c out) p'
    → Sound i identifier kind (after g c out) p'
sound_after {g = g} s c out phase =
    let k = every_call_keeps c g.book g.store out s.fits s.shaped in
    record { fits = k.0; shaped = k.1; long = long_after s c out; small = s.small; phase = phase }

-- the line's part is there
pub part_there : (g : Gateway) (i : ℕ) → store_length g.book ≤ length g.store → i < 4 → part_length (line_at g i) ≤ length (part_in g i)
part_there g i long small = omega (arith, part_long g.book g.store long i small)

pub is_open_lem : {i identifier kind : ℕ} {g : Gateway} {p : Past} → Phase i identifier kind g p → p.opened ≡ true → Open identifier kind (line_at g i)
is_open_lem closed e = clash e
is_open_lem (unused o u) e = o
is_open_lem (relaying o t r) e = o

-- what opening named, where it stays
pub open_same : {identifier kind : ℕ} {l m : Line} → SameOpening l m → Open identifier kind l → Open identifier kind m
open_same s o = record { opened = s.opened ∙ o.opened; named = s.identifier ∙ o.named; typed = s.kind ∙ o.typed }

-- the end once the line is open, by what its record and its part of the store are
pub end_now : (g : Gateway) (i : ℕ) (p : Past) {l : Line} {part : List ℕ} → p.opened ≡ true → line_at g i ≡ l → part_in g i ≡ part
    → end_of g i p ≡ record { line = l; part = part; past = p }
end_now g i p o e s = (λ t. record { line = pick (o t) (line_at g i) closed_line; part = part_in g i; past = p }) ∙ (λ t. record { line = e t; part = s t; past = p })

-- What stays of the line: its record, and its part of the store.
module _ (g h : Gateway) (i : ℕ) (same : line_at h i ≡ line_at g i) where
  pub phase_stays : {identifier kind : ℕ} {p : Past} → Phase i identifier kind g p → Phase i identifier kind h p
  phase_stays closed = closed
  phase_stays {identifier} {kind} (unused o u) = unused (subst (Open identifier kind) (sym same) o) (subst Unused (sym same) u)
  phase_stays {identifier} {kind} (relaying o t r) = relaying (subst (Open identifier kind) (sym same) o) t (ap (λ (l : Line). l.modes.local) same ∙ r)

  pub joined_stays : (p : Past) {f : End} → part_in h i ≡ part_in g i → Joined (end_of g i p) f → Joined (end_of h i p) f
  joined_stays p {f} part j = transport (λ t. Joined (record { line = pick p.opened (sym same t) closed_line; part = sym part t; past = p }) f) j

-- before the opening anything may become of the gateway
module _ (g h : Gateway) (i : ℕ) (long : part_length closed_line ≤ length (part_in h i)) where
  pub before_kept : {identifier kind : ℕ} {p : Past} {f : End} → Phase i identifier kind g p → p.opened ≡ false → Joined (end_of g i p) f → Phase i identifier kind h p × Joined (end_of h i p) f
  before_kept closed e j = (closed, unused_joined j closed_line (part_in h i) false closed_unused closed_unused (closed_fits closed_line refl) long refl)
  before_kept (unused o u) e j = clash (sym e)
  before_kept (relaying o t r) e j = clash (sym e ∙ t)
