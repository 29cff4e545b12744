-- Refusing everything fails both demands, and a constant body fails demand 2.
-- Assumes nothing.
use Rattle.book.specs.Book.{fresh_book}
use Rattle.book.specs.Parts.{store_octets}
use Rattle.book.proofs.Parts.{store_length_lem}
use Prim.Native.Nat.{ℕ, ◌≤◌}
use mathlib.Core.Bool.{true, false}
use mathlib.Core.Path.{◌≡◌, refl, sym, ap, ◌∙◌}
use mathlib.Core.List.{List, [], ◌∷◌}
use native.Mathlib.Omega.{arith}
use lib.Dec.{lit≤, lit<}
use lib.ListN.{length, drop, get_or, replicate}
use lib.Seq.{take-append_seam}
use borrow.Author.Tests.{eqb-true}
use Rattle.ground.specs.Refusal.{number_of}
use Rattle.ground.specs.Answer.{Answer}
use Rattle.ground.specs.declared.Refusal.{Refusal}
use Rattle.ground.proofs.Numbers.{number_some}
use Rattle.connect.specs.Spans.{numbers_fit, sizes_fit}
use Rattle.connect.specs.Write.{connect_octets, size_fields}
use Rattle.connect.specs.declared.Connect.{Connect}
use Rattle.breaks.specs.Break.{break_fits}
use Rattle.breaks.specs.declared.Break.{Break}
use Rattle.promise.specs.Build.{octets_left, Build}
use Rattle.promise.specs.Demand2.{Demand2}
use Rattle.promise.specs.Demand3.{Demand3}
use Rattle.refuted.specs.Idle.{refuser, constant_body}

-- a BREAK body from a source
abbrev from : ℕ → Break
from source = record { source = source; kind = 0; lasts = 0 }

abbrev two : List ℕ
two = 0 ∷ 0 ∷ []

-- the body must be written
pub refuser_fails : (r : Refusal) → Demand2 (refuser r) → ⊥
unfolding break_fits
refuser_fails r d = let n = (d.break_back (from 0) two refl).written in omega (arith, n, number_some r)

-- nor does it open a line
pub refuser_opens_nothing : (r : Refusal) → Demand3 (refuser r) → ⊥
refuser_opens_nothing r d =
    let long : store_octets ≤ length {A = ℕ} (replicate store_octets 0) = lit≤ tt in
    let e = (d.begins (replicate store_octets 0) (omega (arith, long, store_length_lem fresh_book)) 0 (lit< tt) (record { identifier = 5; kind = 98; vbd = true; relay = true }) refl refl 0 0 (lit≤ tt) []).accepted in
    let n : number_of r ≡ 0 = eqb-true _ _ e in
    omega (arith, n, number_some r)

-- two bodies cannot both be read from the one: of no build that gives the same octets wherever it writes a BREAK, or a CONNECT
pub constant_break_fails : (b : Build) (s : List ℕ) → ((c : Break) (out : List ℕ) → (b.bodies.break_write c out).answer.number ≡ 0 → octets_left (b.bodies.break_write c out) ≡ s) → Demand2 b → ⊥
unfolding break_fits
constant_break_fails b s same d =
    let one = d.break_back (from 0) two refl in
    let other = d.break_back (from 1) two refl in
    let e = sym one.reads ∙ ap b.bodies.break_read (same (from 0) two one.written ∙ sym (same (from 1) two other.written)) ∙ other.reads in
    let n : ◌≡◌ {A = ℕ} 0 1 = ap (λ (a : Answer). get_or a.values 0 0) e in
    omega (arith, n)

abbrev plain : ℕ → Connect
plain modulation =
    record {
      modulation = modulation;
      direction = 0;
      compression = 0;
      correction = 0;
      transmit = record { rate = 0; dictionary = 0; string = 0; history = 0 };
      receive = record { rate = 0; dictionary = 0; string = 0; history = 0 };
      dlci = false;
      octet = false;
      rawbit = false;
      frame = false;
      charstat = false;
      chardyn = false;
    }

pub constant_connect_fails : (b : Build) (s : List ℕ) → ((c : Connect) (out : List ℕ) → (b.bodies.connect_write c out).answer.number ≡ 0 → octets_left (b.bodies.connect_write c out) ≡ s) → Demand2 b → ⊥
unfolding numbers_fit sizes_fit connect_octets size_fields
constant_connect_fails b s same d =
    let eight : List ℕ = replicate 8 0 in
    let one = d.connect_back (plain 0) eight refl in
    let other = d.connect_back (plain 1) eight refl in
    let e = sym one.reads ∙ ap b.bodies.connect_read (same (plain 0) eight one.written ∙ sym (same (plain 1) eight other.written)) ∙ other.reads in
    let n : ◌≡◌ {A = ℕ} 0 1 = ap (λ (a : Answer). get_or a.values 0 0) e in
    omega (arith, n)

pub constant_body_fails : (s : List ℕ) → Demand2 (constant_body s) → ⊥
constant_body_fails s = constant_break_fails (constant_body s) s (λ c out e. take-append_seam s (drop (length s) out))
