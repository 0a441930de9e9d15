use Rattle.std.proofs.Common.{◌≡◌, ◌++◌, ◌∷◌, [], List, Some, refl, sym, subst}
use Rattle.mope_base.specs.declared.numbers.SessionNo.{SessionNo}
use Rattle.walk_proto.specs.declared.messages.Request.{Request}
use Rattle.server_conn.specs.Handling.{receipt_for}
use Rattle.server_conn.specs.declared.receipt.Receipt.{Receipt}
use Rattle.step_core.specs.Inside.{sitting_of}
use Rattle.step_core.specs.Outcomes.{outcome}
use Rattle.step_core.proofs.Exchanged.{never-strange, seat-waits, seat-finished, seat-can, same-waits, not-both, done-said, same-seat}
use Rattle.step_core.proofs.seat.Seat.exchange.Goals as goal

pub take_request-requires : goal.take_request-requires
take_request-requires g c = λ want got is. never-strange c.args.self.now c.args.state.now want got c.requires.«open» c.requires.said is

pub send-requires : goal.send-requires
unfolding sitting_of
send-requires g c = seat-can c.args.self.now c.args.state.now c.in-Some.request c.requires.«open» (seat-waits c.args.self.now c.args.state.now c.take_request.result c.in-Some.request c.requires.«open» c.requires.said c.take_request.ensures.sends c.take_request.ensures.done c.in-Some.is)

pub returns-in_err-send-in-Some-clause-unchanged :
    goal.returns-in_err-send-in-Some-clause-unchanged
returns-in_err-send-in-Some-clause-unchanged g c = λ is. not-both c.args.self.now.proxy.phase c.in-Some.request (seat-waits c.args.self.now c.args.state.now c.take_request.result c.in-Some.request c.requires.«open» c.requires.said c.take_request.ensures.sends c.take_request.ensures.done c.in-Some.is) is

pub returns-in_err-send-in-Some-clause-silent : goal.returns-in_err-send-in-Some-clause-silent
returns-in_err-send-in-Some-clause-silent g c = λ is. not-both c.args.self.now.proxy.phase c.in-Some.request (seat-waits c.args.self.now c.args.state.now c.take_request.result c.in-Some.request c.requires.«open» c.requires.said c.take_request.ensures.sends c.take_request.ensures.done c.in-Some.is) is

pub returns-in-None-clause-said : goal.returns-in-None-clause-said
returns-in-None-clause-said g c = done-said c.args.self.now.proxy.phase c.take_request.new.said (seat-finished c.args.self.now c.args.state.now c.take_request.result c.requires.«open» c.requires.said c.take_request.ensures.sends c.in-None.is) c.take_request.ensures.left

pub returns-in-None-clause-sent : goal.returns-in-None-clause-sent
returns-in-None-clause-sent g c = λ r is. not-both c.args.self.now.proxy.phase r is (seat-finished c.args.self.now c.args.state.now c.take_request.result c.requires.«open» c.requires.said c.take_request.ensures.sends c.in-None.is)

pub returns-in-None-clause-went : goal.returns-in-None-clause-went
returns-in-None-clause-went g c = λ r came is out. not-both c.args.self.now.proxy.phase r is (seat-finished c.args.self.now c.args.state.now c.take_request.result c.requires.«open» c.requires.said c.take_request.ensures.sends c.in-None.is)

pub returns-in-None-clause-shows : goal.returns-in-None-clause-shows
returns-in-None-clause-shows g c = λ r came is out. not-both c.args.self.now.proxy.phase r is (seat-finished c.args.self.now c.args.state.now c.take_request.result c.requires.«open» c.requires.said c.take_request.ensures.sends c.in-None.is)

pub returns-in-None-clause-unchanged : goal.returns-in-None-clause-unchanged
returns-in-None-clause-unchanged g c = λ is. (same-seat c.args.self.now c.take_request.new.said is c.requires.said c.take_request.ensures.left, refl)

pub returns-in_ok-send-in-Some-clause-went : goal.returns-in_ok-send-in-Some-clause-went
unfolding sitting_of
returns-in_ok-send-in-Some-clause-went g c = λ r came is out.
    c.in_ok-send-in-Some.ensures.went came
    (subst (λ (q : Request). outcome c.args.self.now.session c.args.state.now.current q c.args.self.now.conn.conn ≡ Some came) (same-waits c.args.self.now.proxy.phase r c.in-Some.request is (seat-waits c.args.self.now c.args.state.now c.take_request.result c.in-Some.request c.requires.«open» c.requires.said c.take_request.ensures.sends c.take_request.ensures.done c.in-Some.is)) out)

pub returns-in_ok-send-in-Some-clause-shows : goal.returns-in_ok-send-in-Some-clause-shows
returns-in_ok-send-in-Some-clause-shows g c = λ r came is out.
    subst
    (λ (q : Request). outcome c.args.self.now.session c.args.state.now.current q c.args.self.now.conn.conn ≡ Some came
    → (earlier : List (SessionNo × Receipt)) → g.H.Watch.tells c.args.watch.now earlier → g.H.Watch.tells c.send.new.watch (earlier ++ (c.args.self.now.session, receipt_for (Some q) came.reply) ∷ []))
    (sym (same-waits c.args.self.now.proxy.phase r c.in-Some.request is (seat-waits c.args.self.now c.args.state.now c.take_request.result c.in-Some.request c.requires.«open» c.requires.said c.take_request.ensures.sends c.take_request.ensures.done c.in-Some.is))) (c.in_ok-send-in-Some.ensures.shows came) out

pub returns-in_ok-send-in-Some-clause-ended : goal.returns-in_ok-send-in-Some-clause-ended
returns-in_ok-send-in-Some-clause-ended g c = λ is. not-both c.args.self.now.proxy.phase c.in-Some.request (seat-waits c.args.self.now c.args.state.now c.take_request.result c.in-Some.request c.requires.«open» c.requires.said c.take_request.ensures.sends c.take_request.ensures.done c.in-Some.is) is

pub returns-in_ok-send-in-Some-clause-unchanged : goal.returns-in_ok-send-in-Some-clause-unchanged
returns-in_ok-send-in-Some-clause-unchanged g c = λ is. not-both c.args.self.now.proxy.phase c.in-Some.request (seat-waits c.args.self.now c.args.state.now c.take_request.result c.in-Some.request c.requires.«open» c.requires.said c.take_request.ensures.sends c.take_request.ensures.done c.in-Some.is) is

pub returns-in_ok-send-in-Some-clause-silent : goal.returns-in_ok-send-in-Some-clause-silent
returns-in_ok-send-in-Some-clause-silent g c = λ is. not-both c.args.self.now.proxy.phase c.in-Some.request (seat-waits c.args.self.now c.args.state.now c.take_request.result c.in-Some.request c.requires.«open» c.requires.said c.take_request.ensures.sends c.take_request.ensures.done c.in-Some.is) is
