use Rattle.std.proofs.Common.{sym, subst, ap, ◌≡◌, ◌∙◌, ◌++◌, None}
use Rattle.walk_proto.proofs.SpelledBytes.{reply_faultless}
use Rattle.walk_proto.specs.Faults.{reply_fault}
use Rattle.walk_proto.specs.Spelling.{reply_bytes}
use Rattle.walk_proto.proofs.writing.write_reply.Goals as goal

pub returns-clause-faultless : goal.returns-clause-faultless
returns-clause-faultless c = subst (λ bytes. reply_fault bytes ≡ None) (sym (c.from_vec.ensures ∙ c.in_ok-put_reply.ensures.spelled ∙ ap (λ xs. xs ++ reply_bytes c.args.r.now) c.in_ok-out.ensures.items)) (reply_faultless c.args.r.now c.in_ok-put_reply.ensures.fits c.requires)
