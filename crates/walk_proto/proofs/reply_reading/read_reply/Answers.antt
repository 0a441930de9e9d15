use Rattle.std.proofs.Common.{◌≡◌, None, sym, subst, ◌∙◌}
use Rattle.walk_proto.specs.Faults.{reply_fault}
use Rattle.walk_proto.proofs.FaultlessBytes.{fault_named}
use Rattle.walk_proto.proofs.ShapesOf.{reply_shape}
use Rattle.walk_proto.proofs.ReadBack.{same_reply}
use Rattle.walk_proto.proofs.SpelledBytes.{reply_faultless}
use Rattle.walk_proto.proofs.RulesOf.{reply_rules}
use Rattle.walk_proto.proofs.reply_reading.read_reply.Goals as goal

pub reply_of-requires : goal.reply_of-requires
reply_of-requires c = reply_shape c.args.bytes.now (sym c.in-None.ensures)

pub returns-in-Some-clause-fault : goal.returns-in-Some-clause-fault
unfolding reply_fault
returns-in-Some-clause-fault c = sym c.in-Some.ensures ∙ sym (fault_named _ c.args.bytes.now c.in-Some.fault (sym c.in-Some.ensures))

pub returns-in_ok-reply_of-in-None-clause-rules : goal.returns-in_ok-reply_of-in-None-clause-rules
returns-in_ok-reply_of-in-None-clause-rules c = reply_rules c.in_ok-reply_of-in-None.field-0 c.in_ok-reply_of-in-None.ensures.fits (subst (λ b. reply_fault b ≡ None) c.in_ok-reply_of-in-None.ensures.spelled (sym c.in-None.ensures))

pub returns-in-Some-clause-complete : goal.returns-in-Some-clause-complete
returns-in-Some-clause-complete c r ok fits e =
    let none : reply_fault c.args.bytes.now ≡ None = subst (λ b. reply_fault b ≡ None) (sym e) (reply_faultless r fits ok) in
    absurd (cc (c.in-Some.ensures))

pub returns-in_ok-reply_of-in-None-clause-complete : goal.returns-in_ok-reply_of-in-None-clause-complete
returns-in_ok-reply_of-in-None-clause-complete c r ok fits e =
    let read = c.in_ok-reply_of-in-None.field-0 in
    let spelled = c.in_ok-reply_of-in-None.ensures.spelled in
    let rules = reply_rules read c.in_ok-reply_of-in-None.ensures.fits (subst (λ b. reply_fault b ≡ None) spelled (sym c.in-None.ensures)) in
    same_reply read r rules ok c.in_ok-reply_of-in-None.ensures.fits fits (sym spelled ∙ e)
