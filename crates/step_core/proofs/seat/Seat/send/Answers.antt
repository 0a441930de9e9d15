use Rattle.std.proofs.Common.{◌∙◌, Some, ap, sym, subst}
use Rattle.walk_proto.specs.Rules.{IsReply}
use Rattle.walk_proto.specs.declared.messages.Reply.{Reply}
use Rattle.proxy.specs.Party.{told}
use Rattle.server_conn.specs.Handling.{receipt_for}
use Rattle.server_conn.specs.declared.receipt.Receipt.{Receipt}
use Rattle.step_core.specs.Inside.{sitting_of}
use Rattle.step_core.proofs.seat.Seat.send.Goals as goal

pub answer-requires-clause-asks : goal.answer-requires-clause-asks
unfolding sitting_of
answer-requires-clause-asks g c = c.requires.1.asks

pub carried-requires : goal.carried-requires
unfolding sitting_of receipt_for
carried-requires g c =
    subst IsReply (sym (c.reply.ensures ∙ ap (λ (x : Receipt). x.reply) (c.in_ok-receipt.ensures.receipt c.requires.0 c.requires.1.comes))) c.requires.1.answer

pub returns-clause-went : goal.returns-clause-went
unfolding sitting_of receipt_for
returns-clause-went g c = λ came is. record {
  party =
      c.in_ok-self.ensures.moves
      ∙ ap (λ (r : Reply). told (Some r) c.args.self.now.proxy)
      (c.in_ok-reply.ensures ∙ c.reply.ensures ∙ ap (λ (x : Receipt). x.reply) (c.in_ok-receipt.ensures.receipt came is));
  conn = c.in_ok-receipt.ensures.conn came is;
  turns = c.in_ok-receipt.ensures.turns came is;
  current = c.in_ok-receipt.ensures.current came is;
  first = c.in_ok-receipt.ensures.first came is;
}
