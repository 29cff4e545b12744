use Rattle.ground.proofs.Settled.{handed_on}
use Rattle.arriving.proofs.Arrivals.{list_refused, list_said, list_is, arrive_refused, arrive_passed, arrive_large}
use Rattle.arriving.specs.Arrive.{arrive_tests}
use Rattle.packet.specs.Read.{head_at, acks_at, header_length, size_fits, payload_fits, list_tests, acks_read}
use Rattle.ground.proofs.Verdicts.{passed}
use Rattle.line.specs.Figures.{receive_largest}
use Prim.Native.Nat.{◌+◌, ◌-◌, ◌*◌, ◌≤◌}
use lib.ListN.{length}
use Rattle.packet.specs.declared.Acks.{Acks}
use Rattle.packet.specs.declared.Head.{Head}
use borrow.Author.Tests.{eq-eqb, ne_eqb, leb-true, not-true, not-false}
use mathlib.Core.Bool.{not}
use mathlib.Core.Path.{◌≡◌, sym, ap, ◌∙◌}
use borrow.Author.Rules.{rules}
use Rattle.std.specs.Prelude.{Ok}
use Rattle.arriving.proofs.may_arrive.Goals as goal

pub returns-then-head-l : goal.returns-then-head-l
unfolding arrive_tests
returns-then-head-l c =
    let kind_is : (head_at c.args.s.now).kind ≡ c.args.head.kind = sym (ap (λ (h : Head). h.kind) c.requires) in
    simp (kind_is, ne_eqb _ _ c.if-head-l.true)

pub returns-then-l-ne-MODEM : goal.returns-then-l-ne-MODEM
unfolding arrive_tests
returns-then-l-ne-MODEM c =
    let kind_is : (head_at c.args.s.now).kind ≡ c.args.head.kind = sym (ap (λ (h : Head). h.kind) c.requires) in
    simp (kind_is, eq-eqb _ _ c.if-head-l.false, ne_eqb _ _ c.if-l-ne-MODEM.true)

pub overflow_sub-s : goal.overflow_sub-s
unfolding acks_at
overflow_sub-s c =
    let list_read : acks_read c.args.s.now ≡ Ok c.in_ok-acks.acks = sym c.read_acks.ensures.is ∙ c.in_ok-acks.was in
    let list_in : let s = c.args.s.now in header_length s ≤ length s = let s = c.args.s.now in leb-true _ _ (passed (list_tests s) (list_said s (list_read))).0 in
    let header_is : c.header.result ≡ header_length c.args.s.now = c.header.ensures ∙ ap (λ (k : Acks). 6 + 2 * k.count) (list_is c.args.s.now (list_read)) in
    let h = list_in in
    let e = header_is in
    search rules

pub returns-in_err-acks : goal.returns-in_err-acks
returns-in_err-acks c =
    let kind_is : (head_at c.args.s.now).kind ≡ c.args.head.kind = sym (ap (λ (h : Head). h.kind) c.requires) in
    let s = c.args.s.now in
    handed_on c.from_residual.result c.from_residual.ensures.1 ∙ arrive_refused c.args.l s (kind_is ∙ c.if-head-l.false) c.if-l-ne-MODEM.false (list_refused s (sym c.read_acks.ensures.is ∙ c.in_err-acks.was))

pub returns : goal.returns
unfolding acks_at head_at
returns c =
    let list_read : acks_read c.args.s.now ≡ Ok c.in_ok-acks.acks = sym c.read_acks.ensures.is ∙ c.in_ok-acks.was in
    let kind_is : (head_at c.args.s.now).kind ≡ c.args.head.kind = sym (ap (λ (h : Head). h.kind) c.requires) in
    let header_is : c.header.result ≡ header_length c.args.s.now = c.header.ensures ∙ ap (λ (k : Acks). 6 + 2 * k.count) (list_is c.args.s.now (list_read)) in
    let size_is : let a = c.args in c.size_fits.result ≡ payload_fits a.s.now (receive_largest a.l) = let s = c.args.s.now in
    c.size_fits.ensures ∙ (λ i. size_fits (c.requires i).channel (length s - header_is i) (c.receive_largest-largest.ensures i)) in
    let s = c.args.s.now in
    let e = list_read in
    ap (λ (k : Acks). Ok k) (list_is s e) ∙ arrive_passed c.args.l s (kind_is ∙ c.if-head-l.false) c.if-l-ne-MODEM.false (list_said s e) (sym (size_is) ∙ not-false _ (ap not c.if-not-size_fits.false))

pub returns-then-not-size_fits : goal.returns-then-not-size_fits
unfolding acks_at head_at
returns-then-not-size_fits c =
    let kind_is : (head_at c.args.s.now).kind ≡ c.args.head.kind = sym (ap (λ (h : Head). h.kind) c.requires) in
    let list_read : acks_read c.args.s.now ≡ Ok c.in_ok-acks.acks = sym c.read_acks.ensures.is ∙ c.in_ok-acks.was in
    let header_is : c.header.result ≡ header_length c.args.s.now = c.header.ensures ∙ ap (λ (k : Acks). 6 + 2 * k.count) (list_is c.args.s.now (list_read)) in
    let size_is : let a = c.args in c.size_fits.result ≡ payload_fits a.s.now (receive_largest a.l) = let s = c.args.s.now in
    c.size_fits.ensures ∙ (λ i. size_fits (c.requires i).channel (length s - header_is i) (c.receive_largest-largest.ensures i)) in
    let s = c.args.s.now in
    arrive_large c.args.l s (kind_is ∙ c.if-head-l.false) c.if-l-ne-MODEM.false (list_said s (list_read)) (sym (size_is) ∙ not-true _ (ap not c.if-not-size_fits.true))
