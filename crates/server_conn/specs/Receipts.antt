-- What contracts see of a receipt.
use Rattle.std.specs.Prelude.{Option}
use Rattle.walk_proto.specs.declared.messages.Reply.{Reply}
use Rattle.walk_proto.specs.declared.messages.Request.{Request}

-- an exchange that a connection answered: what was asked, none where the bytes spelled no request, and what was answered
pub record Exchanged : Type 0 where
  pub request : Option Request
  pub reply : Reply
