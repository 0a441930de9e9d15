use Rattle.std.proofs.Common.{sym, subst, ap, ◌≡◌, ◌∙◌, ◌++◌, None}
use Rattle.walk_proto.proofs.SpelledBytes.{request_faultless}
use Rattle.walk_proto.specs.Faults.{request_fault}
use Rattle.walk_proto.specs.Spelling.{request_bytes}
use Rattle.walk_proto.proofs.writing.write_request.Goals as goal

pub returns-clause-faultless : goal.returns-clause-faultless
returns-clause-faultless c = subst (λ bytes. request_fault bytes ≡ None) (sym (c.from_vec.ensures ∙ c.in_ok-put_request.ensures.spelled ∙ ap (λ xs. xs ++ request_bytes c.args.r.now) c.in_ok-out.ensures.items)) (request_faultless c.args.r.now c.requires)
