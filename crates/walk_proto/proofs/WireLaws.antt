-- The laws of messages.
use Rattle.std.proofs.Common.{◌≡◌, None, refl, sym, subst, ◌∙◌}
use Rattle.walk_proto.specs.Faults.{request_fault, reply_fault}
use Rattle.walk_proto.specs.Laws.{SomeBytesGiveRequests, SomeBytesGiveReplies, RequestsHaveOneSpelling, RepliesHaveOneSpelling}
use Rattle.walk_proto.specs.Spelling.{request_bytes, reply_bytes}
use Rattle.walk_proto.proofs.ReadBack.{same_request, same_reply}
use Rattle.walk_proto.proofs.RulesOf.{request_rules, reply_rules}
use Rattle.walk_proto.proofs.SpelledBytes.{request_faultless, reply_faultless}

pub requests_given : SomeBytesGiveRequests
requests_given r fits = (λ ok. (request_bytes r, record { spelled = refl; faultless = request_faultless r ok }), λ given. request_rules r (subst (λ b. request_fault b ≡ None) given.1.spelled given.1.faultless))

pub replies_given : SomeBytesGiveReplies
replies_given r fits = (λ ok. (reply_bytes r, record { spelled = refl; faultless = reply_faultless r fits ok }), λ given. reply_rules r fits (subst (λ b. reply_fault b ≡ None) given.1.spelled given.1.faultless))

pub requests_once : RequestsHaveOneSpelling
requests_once bytes r q fr fq gr gq =
    let okr = request_rules r (subst (λ b. request_fault b ≡ None) gr.spelled gr.faultless) in
    let okq = request_rules q (subst (λ b. request_fault b ≡ None) gq.spelled gq.faultless) in
    same_request r q okr okq fr fq (sym gr.spelled ∙ gq.spelled)

pub replies_once : RepliesHaveOneSpelling
replies_once bytes r q fr fq gr gq =
    let okr = reply_rules r fr (subst (λ b. reply_fault b ≡ None) gr.spelled gr.faultless) in
    let okq = reply_rules q fq (subst (λ b. reply_fault b ≡ None) gq.spelled gq.faultless) in
    same_reply r q okr okq fr fq (sym gr.spelled ∙ gq.spelled)
