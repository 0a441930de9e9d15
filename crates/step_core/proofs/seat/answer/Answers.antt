use Rattle.std.proofs.Common.{◌≡◌, ◌∙◌, Some, sym, subst}
use Rattle.server_conn.specs.Handling.{Seen, running}
use Rattle.server_conn.specs.Serving.{serve}
use Rattle.step_core.specs.Outcomes.{Outcome, outcome}
use Rattle.step_core.specs.Sittings.{AsksOn}
use Rattle.step_core.proofs.Exchanged.{HasCome, comes}
use Rattle.step_core.proofs.seat.answer.Goals as goal

pub settle-requires : goal.settle-requires
unfolding running
settle-requires c = (
  c.args.request.now,
  (serve c.args.request.now c.args.conn.now.conn).served,
  c.in_ok-served.ensures.served c.args.request.now c.requires.readable c.in_ok-bytes.ensures.fits (c.as_slice.ensures ∙ c.in_ok-bytes.ensures.spelled),
  subst (λ (s : Seen). AsksOn c.args.state.now (serve c.args.request.now c.args.conn.now.conn).served s.conn)
      (sym (c.in_ok-served.ensures.conn c.args.request.now c.requires.readable c.in_ok-bytes.ensures.fits (c.as_slice.ensures ∙ c.in_ok-bytes.ensures.spelled))) c.requires.asks,
)

has-come : (c : goal.After-drop-bytes-inside-2) (came : Outcome) → outcome c.args.session c.args.state.now.current c.args.request.now c.args.conn.now.conn ≡ Some came
    → HasCome c.args.request.now came c.args.state.now c.settle.new.state c.settle.new.conn c.in_ok-receipt.receipt
has-come c came is =
    comes c.args.session c.args.state.now c.settle.new.state c.args.request.now c.args.conn.now.conn c.in_ok-served.served c.serve_bytes.new.self c.settle.new.conn c.in_ok-receipt.receipt
    (c.in_ok-served.ensures.served c.args.request.now c.requires.readable c.in_ok-bytes.ensures.fits (c.as_slice.ensures ∙ c.in_ok-bytes.ensures.spelled))
    (c.in_ok-served.ensures.conn c.args.request.now c.requires.readable c.in_ok-bytes.ensures.fits (c.as_slice.ensures ∙ c.in_ok-bytes.ensures.spelled))
    c.in_ok-receipt.ensures came is

pub returns-clause-receipt : goal.returns-clause-receipt
returns-clause-receipt c = λ came is. (has-come c came is).receipt

pub returns-clause-conn : goal.returns-clause-conn
returns-clause-conn c = λ came is. (has-come c came is).conn

pub returns-clause-turns : goal.returns-clause-turns
returns-clause-turns c = λ came is. (has-come c came is).turns

pub returns-clause-current : goal.returns-clause-current
returns-clause-current c = λ came is. (has-come c came is).current

pub returns-clause-first : goal.returns-clause-first
returns-clause-first c = λ came is. (has-come c came is).first
