use Rattle.arriving.proofs.Effects.{heard_relaying}
use Rattle.arriving.proofs.Arrivals.{payload_rest, news_relaying, number_lt, acks_few, arrive_relaying, arrive_size, arrive_reliable, news_all, part_all, payload_line, payload_part, payload_length}
use Prim.Native.Nat.{◌+◌, ◌*◌, ◌≤◌, ◌<◌, ℕ}
use Rattle.arriving.specs.Effect.{Relaying, heard_line, acked_all, stored_line, stored_part}
use Rattle.arriving.specs.Arrive.{news_line}
use Rattle.packet.specs.declared.Acks.{Acks}
use Rattle.packet.specs.declared.Head.{Head}
use Rattle.packet.specs.Read.{head_at, acks_at, header_length, payload_of}
use Rattle.packet.specs.Acks.{ack_list}
use lib.ListN.{length}
use native.Mathlib.Omega.{arith}
use mathlib.Core.List.{List}
use mathlib.Core.Path.{◌≡◌, ap, ◌∙◌}
use Rattle.arriving.proofs.arrive.Goals as goal

pub base_heard-heard-requires : goal.base_heard-heard-requires
base_heard-heard-requires c =
    let relaying : Relaying c.args.l = arrive_relaying c.args.l c.args.s.now c.requires.3 c.requires.0 c.requires.1 in
    relaying

pub acks_heard-news-requires : goal.acks_heard-news-requires
acks_heard-news-requires c =
    let heard : let a = c.args in c.base_heard-heard.result ≡ heard_line a.l (head_at a.s.now).channel (head_at a.s.now).base = c.base_heard-heard.ensures ∙ ap (λ (h : Head). heard_line c.args.l h.channel h.base) c.requires.4 in
    let relaying : Relaying c.args.l = arrive_relaying c.args.l c.args.s.now c.requires.3 c.requires.0 c.requires.1 in
    (rw (heard) (heard_relaying c.args.l (relaying) (head_at c.args.s.now).channel (head_at c.args.s.now).base), rw c.requires.5 (acks_few c.args.s.now))

pub returns-then-s-at : goal.returns-then-s-at
unfolding acks_at news_line
returns-then-s-at c =
    let header_is : c.header-at.result ≡ header_length c.args.s.now = c.header-at.ensures ∙ ap (λ (k : Acks). 6 + 2 * k.count) c.requires.5 in
    let heard : let a = c.args in c.base_heard-heard.result ≡ heard_line a.l (head_at a.s.now).channel (head_at a.s.now).base = c.base_heard-heard.ensures ∙ ap (λ (h : Head). heard_line c.args.l h.channel h.base) c.requires.4 in
    let news : let a = c.args in c.acks_heard-news.result ≡ news_line a.l a.s.now = c.acks_heard-news.ensures ∙ (λ i. acked_all (heard i) (ack_list (c.requires.5 i))) in
    let a = c.args in
    let q : length a.s.now ≤ header_length a.s.now = omega (arith, c.if-s-at.true, header_is) in
    (news ∙ news_all a.l a.s.now q, part_all a.l a.s.now q a.part.now)

pub payload_stored-requires : goal.payload_stored-requires
unfolding acks_at news_line
payload_stored-requires c =
    let header_is : c.header-at.result ≡ header_length c.args.s.now = c.header-at.ensures ∙ ap (λ (k : Acks). 6 + 2 * k.count) c.requires.5 in
    let heard : let a = c.args in c.base_heard-heard.result ≡ heard_line a.l (head_at a.s.now).channel (head_at a.s.now).base = c.base_heard-heard.ensures ∙ ap (λ (h : Head). heard_line c.args.l h.channel h.base) c.requires.4 in
    let news : let a = c.args in c.acks_heard-news.result ≡ news_line a.l a.s.now = c.acks_heard-news.ensures ∙ (λ i. acked_all (heard i) (ack_list (c.requires.5 i))) in
    let relaying : Relaying c.args.l = arrive_relaying c.args.l c.args.s.now c.requires.3 c.requires.0 c.requires.1 in
    let s : List ℕ = c.args.s.now in
    let p : 0 < length (payload_of s) = omega (arith, c.if-s-at.false, header_is, payload_length s) in
    rw (news, c.requires.4, payload_rest s c.header-at.result (header_is))
    (news_relaying c.args.l (relaying) s, c.requires.2, arrive_reliable c.args.l s c.requires.3 p, number_lt s, arrive_size c.args.l s c.requires.3)

pub returns : goal.returns
unfolding acks_at news_line
returns c =
    let header_is : c.header-at.result ≡ header_length c.args.s.now = c.header-at.ensures ∙ ap (λ (k : Acks). 6 + 2 * k.count) c.requires.5 in
    let heard : let a = c.args in c.base_heard-heard.result ≡ heard_line a.l (head_at a.s.now).channel (head_at a.s.now).base = c.base_heard-heard.ensures ∙ ap (λ (h : Head). heard_line c.args.l h.channel h.base) c.requires.4 in
    let news : let a = c.args in c.acks_heard-news.result ≡ news_line a.l a.s.now = c.acks_heard-news.ensures ∙ (λ i. acked_all (heard i) (ack_list (c.requires.5 i))) in
    let l = c.args.l in
    let s : List ℕ = c.args.s.now in
    let part : List ℕ = c.args.part.now in
    let q : header_length s < length s = omega (arith, c.if-s-at.false, header_is) in
    let r = payload_rest s c.header-at.result (header_is) in
    let m = news in (
      c.payload_stored.ensures.0 ∙ (λ i. stored_line (m i) (c.requires.4 i).channel (c.requires.4 i).number (length (r i))) ∙ payload_line l s q,
      c.payload_stored.ensures.1 ∙ (λ i. stored_part (m i) (c.requires.4 i).channel (c.requires.4 i).number (r i) part) ∙ payload_part l s q part,
    )
