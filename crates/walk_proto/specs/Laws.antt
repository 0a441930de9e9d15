-- Laws of messages: the statements that this crate's functions without a body prove.
use Rattle.std.specs.Prelude.{◌≡◌, ◌↔◌, ℕ, List, Result, Ok, Err, None}
use Rattle.walk_proto.specs.Faults.{request_fault, reply_fault}
use Rattle.walk_proto.specs.Rules.{IsRequest, IsReply}
use Rattle.walk_proto.specs.Shapes.{RequestFits, ReplyFits}
use Rattle.walk_proto.specs.Spelling.{request_bytes, reply_bytes}
use Rattle.walk_proto.specs.declared.faults.WireStop.{WireStop}
use Rattle.walk_proto.specs.declared.faults.WireStop.TheVariants.{OutOfMemory}
use Rattle.walk_proto.specs.declared.messages.Reply.{Reply}
use Rattle.walk_proto.specs.declared.messages.Request.{Request}

-- the bytes are the request's, and no fault is in them
pub record GivesRequest (bytes : List ℕ) (r : Request) : Type 0 where
  pub spelled : bytes ≡ request_bytes r
  pub faultless : request_fault bytes ≡ None

pub record GivesReply (bytes : List ℕ) (r : Reply) : Type 0 where
  pub spelled : bytes ≡ reply_bytes r
  pub faultless : reply_fault bytes ≡ None

-- the rules of the fields hold exactly where some bytes give the request
abbrev pub SomeBytesGiveRequests : Type 0
SomeBytesGiveRequests = (r : Request) → RequestFits r → IsRequest r ↔ ((bytes : List ℕ) × GivesRequest bytes r)

abbrev pub SomeBytesGiveReplies : Type 0
SomeBytesGiveReplies = (r : Reply) → ReplyFits r → IsReply r ↔ ((bytes : List ℕ) × GivesReply bytes r)

-- no bytes give two messages
abbrev pub RequestsHaveOneSpelling : Type 0
RequestsHaveOneSpelling = (bytes : List ℕ) (r q : Request) → RequestFits r → RequestFits q → GivesRequest bytes r → GivesRequest bytes q → r ≡ q

abbrev pub RepliesHaveOneSpelling : Type 0
RepliesHaveOneSpelling = (bytes : List ℕ) (r q : Reply) → ReplyFits r → ReplyFits q → GivesReply bytes r → GivesReply bytes q → r ≡ q

-- the message was read, unless memory did not suffice
abbrev pub IsReadAs : {M : Type 0} → M → Result M WireStop → Type 0
IsReadAs message (Ok read) = read ≡ message
IsReadAs message (Err stop) = stop ≡ OutOfMemory
