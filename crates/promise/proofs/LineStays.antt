-- Calls that leave the line as it is, or change its modes only: the two ends stay joined.
-- Assumes nothing.
use Prim.Native.Nat.{ℕ}
use mathlib.Core.Path.{◌≡◌, refl, sym, ap, subst, ◌∙◌}
use mathlib.Core.Bool.{true, false}
use mathlib.Core.List.{List, [], ◌∷◌}
use native.Mathlib.Omega.{arith}
use borrow.Author.Tests.{le-leb}
use Rattle.ground.proofs.Either.{by_test}
use Rattle.ground.proofs.Picks.{clash}
use Rattle.ground.proofs.Verdicts.{passes}
use Rattle.mode.specs.Acts.{Act, outcome}
use Rattle.mode.specs.Given.{modem}
use Rattle.mode.specs.declared.Channels.{Channels}
use Rattle.mode.specs.declared.Channels.TheVariants.{Stay, Fresh, Emptied}
use Rattle.mode.specs.declared.Modes.{Modes}
use Rattle.mode.proofs.Emptying.{channels_by, by_local}
use Rattle.line.specs.Fit.{line_fits}
use Rattle.line.specs.Line.{opened_line}
use Rattle.line.specs.Mode.{stepped_to}
use Rattle.line.specs.declared.Line.{Line}
use Rattle.line.specs.declared.Settings.{Settings}
use Rattle.line.proofs.Same.{stepped_opening}
use Rattle.book.specs.Book.{line_of, with_line}
use Rattle.book.specs.Parts.{part_of}
use Rattle.book.specs.declared.Book.{Book}
use Rattle.book.proofs.Parts.{parts_alike}
use Rattle.book.proofs.OtherLines.{line_same}
use Rattle.book.proofs.Facts.{line_fits_lem}
use Rattle.calls.specs.Call.{Call}
use Rattle.calls.specs.Call as call
use Rattle.calls.specs.Order.{line_for}
use Rattle.calls.specs.Stages.{fit_book, line_number, must_be_open}
use Rattle.calls.specs.Result.{CallResult, result_with, result_of, effect}
use Rattle.calls.proofs.Results.{moved_did}
use Rattle.laws.proofs.Keeps.{every_call_keeps}
use Rattle.laws.proofs.Others.{others_stay, parts_stay, part_where}
use Rattle.promise.specs.Past.{Past, just_opened}
use Rattle.promise.specs.Run.{Gateway, accepts, line_at, part_in, Relays}
use Rattle.promise.specs.Ours.{does, after}
use Rattle.promise.proofs.Ends.{End, Joined}
use Rattle.promise.proofs.Fresh.{Unused, closed_unused, opened_unused, stepped_unused, unused_joined, moded_joined}
use Rattle.promise.proofs.Phases.{end_of, Open, Phase, closed, unused, relaying, Sound, long_after, part_there, is_open_lem, open_same, end_now, phase_stays, joined_stays}
use Rattle.promise.proofs.OwnLine.{call_passes, call_refused, line_left, part_stays}
use Rattle.promise.proofs.CallsKeep.{Left}

-- the same store has the same part for the line, whatever is in the book
pub part_same : (g h : Gateway) (i : ℕ) → h.store ≡ g.store → part_in h i ≡ part_in g i
part_same g h i e = parts_alike h.book g.book i (λ j. refl) h.store ∙ ap (part_of g.book i) e

module _ {i identifier kind : ℕ} {g : Gateway} {p : Past} (s : Sound i identifier kind g p) {f : End} (j : Joined (end_of g i p) f) (c : Call) (out : List ℕ) where
  -- the line's record stays, and so does its part of the store
  stays : line_at (after g c out) i ≡ line_at g i → part_in (after g c out) i ≡ part_in g i → Left i identifier kind f (after g c out) p
  stays same part = (phase_stays g (after g c out) i same s.phase, joined_stays g (after g c out) i same p part j)

  -- "a call that is refused .. adds nothing"
  pub refused_kept : accepts (does g c out) ≡ false → Left i identifier kind f (after g c out) p
  refused_kept e =
      let u = call_refused g c out e in
      stays (ap (λ (b : Book). line_of b i) u.book) (part_same g (after g c out) i u.store)

  -- "other lines may do anything"
  pub elsewhere_kept : (line_for c g.book ≡ i → ⊥) → Left i identifier kind f (after g c out) p
  elsewhere_kept n =
      stays (others_stay c g.book g.store out i n)
      (part_where c g.book g.store out i (after g c out).store ∙ parts_stay c g.book g.store out s.shaped i n)

-- a report changes nothing, whatever the answer
pub report_kept : {i identifier kind : ℕ} {g : Gateway} {p : Past} → Sound i identifier kind g p → {f : End} → Joined (end_of g i p) f → (channel : ℕ) (out : List ℕ)
    → Left i identifier kind f (after g (call.report i channel) out) p
unfolding line_for effect
report_kept {i} {g = g} s j channel out =
    let c = call.report i channel in
    by_test (accepts (does g c out))
    (λ e.
    let pass = call_passes g c out e in
    stays s j c out (line_left s c out refl pass) (part_stays s c out refl pass refl))
    (λ e. refused_kept s j c out e)

-- "open a line with one identifier and payload type"
pub opens_kept : {i identifier kind : ℕ} {g : Gateway} {p : Past} → Sound i identifier kind g p → p.opened ≡ false → {f : End} → Joined (end_of g i p) f
    → (x : Settings) (time : ℕ) (out : List ℕ) → x.identifier ≡ identifier → x.kind ≡ kind → accepts (does g (call.opening i x time) out) ≡ true
    → Left i identifier kind f (after g (call.opening i x time) out) just_opened
unfolding line_for effect
opens_kept {i} {identifier} {kind} {g} s e {f} j x time out a b t = go s.phase e j
  where
    h : Gateway
    h = after g (call.opening i x time) out

    line : line_at h i ≡ opened_line x time
    line = line_left s (call.opening i x time) out refl (call_passes g (call.opening i x time) out t)

    fits : line_fits (line_at h i) ≡ true
    fits = line_fits_lem h.book (every_call_keeps (call.opening i x time) g.book g.store out s.fits s.shaped).0 i

    go : {p : Past} → Phase i identifier kind g p → p.opened ≡ false → Joined (end_of g i p) f → Left i identifier kind f h just_opened
    go closed e j =
        let u : Unused (line_at h i) = subst Unused (sym line) (opened_unused x time) in (
          unused (subst (Open identifier kind) (sym line) (record { opened = refl; named = a; typed = b })) u,
          unused_joined j (line_at h i) (part_in h i) true closed_unused u fits (part_there h i (long_after s (call.opening i x time) out) s.small) refl,
        )
    go (unused o u) e j = clash (sym e)
    go (relaying o t r) e j = clash (sym e ∙ t)

-- a change of modes leaves what opening named
pub stepped_open : {identifier kind : ℕ} (l : Line) (m : Modes) (k : Channels) → Open identifier kind l → Open identifier kind (stepped_to l m k)
stepped_open l m k = open_same (stepped_opening l m k)

pub stepped_modes : (l : Line) (m : Modes) (k : Channels) → (stepped_to l m k).modes ≡ m
unfolding stepped_to
stepped_modes l m Stay = refl
stepped_modes l m Fresh = refl
stepped_modes l m Emptied = refl

-- A mode call on the line, whatever it answers: "each stay in modem relay once there".
module _ {i identifier kind : ℕ} {g : Gateway} {p : Past} (s : Sound i identifier kind g p) (opened : p.opened ≡ true) {f : End} (j : Joined (end_of g i p) f) (a : Act) (out : List ℕ) where
  abbrev c : Call
  c = call.mode i a

  abbrev h : Gateway
  h = after g c out

  abbrev l : Line
  l = line_at g i

  abbrev next : Modes
  next = (outcome l.modes a).modes

  abbrev then : Line
  then = stepped_to l next (outcome l.modes a).channels

  its : result_of c g.book g.store out ≡ result_with (outcome l.modes a).said (with_line g.book i then) g.store out
  its =
      sym (moved_did g.book i a refl
      (passes (fit_book g.book ∷ line_number i ∷ must_be_open l ∷ []) (s.fits, (le-leb i 3 (omega (arith, s.small)), ((is_open_lem s.phase opened).opened, tt)))) g.store out)

  pub mode_line : line_at h i ≡ then
  mode_line = ap (λ (d : CallResult). line_of d.book i) its ∙ line_same g.book s.shaped i s.small then

  store : h.store ≡ g.store
  store = ap (λ (d : CallResult). d.store) its

  fits : line_fits (line_at h i) ≡ true
  fits = line_fits_lem h.book (every_call_keeps c g.book g.store out s.fits s.shaped).0 i

  pub mode_open : Open identifier kind (line_at h i)
  mode_open = subst (Open identifier kind) (sym mode_line) (stepped_open l next (outcome l.modes a).channels (is_open_lem s.phase opened))

  -- in modem relay before and after: the channels are left alone
  alone : Relays g i → Relays h i → (outcome l.modes a).channels ≡ Stay
  alone r t =
      let inside : next.local ≡ modem = ap (λ (m : Modes). m.local) (sym (ap (λ (x : Line). x.modes) mode_line ∙ stepped_modes l next (outcome l.modes a).channels)) ∙ t in
      by_local l.modes a
      ∙ channels_by (λ (k : Channels). k ≡ Stay) l.modes.local next.local (λ n _. absurd (n r)) (λ _ n. absurd (n inside)) (λ _ _. refl) (λ n _. absurd (n r))

  pub moded_kept : (Relays g i → Relays h i) → Left i identifier kind f h p
  moded_kept stay = go s.phase opened j
    where
      go : {p : Past} → Phase i identifier kind g p → p.opened ≡ true → Joined (end_of g i p) f → Left i identifier kind f h p
      go closed e j = clash e
      go (unused o u) e j =
          let v : Unused (line_at h i) = subst Unused (sym mode_line) (stepped_unused l next (outcome l.modes a).channels u) in
          (unused mode_open v, unused_joined j (line_at h i) (part_in h i) true u v fits (part_there h i (long_after s c out) s.small) refl)
      go {p} (relaying o t r) e j =
          let same : line_at h i ≡ stepped_to l next Stay = mode_line ∙ ap (stepped_to l next) (alone r (stay r)) in
          let k : Joined (record { line = l; part = part_in g i; past = p }) f = subst (λ (x : End). Joined x f) (end_now g i p e refl refl) j in (
            relaying mode_open e (stay r),
            subst (λ (x : End). Joined x f) (sym (end_now h i p e same (part_same g h i store)))
                (moded_joined k next (subst (λ (x : Line). line_fits x ≡ true) same fits)),
          )
