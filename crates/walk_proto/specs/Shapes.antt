-- What is known of bytes without a fault, by their kind, and the words of messages that fit their bytes.
use Rattle.std.specs.Prelude.{◌≡◌, ◌≤◌, ◌<◌, ℕ, ◌+◌, ◌-◌, ◌*◌, ◌^◌, List, [], ◌∷◌, length, take, drop, replicate, Option, None, Some, IfSome}
use Rattle.byteorder.specs.Endian.{big_number}
use Rattle.mope_base.specs.declared.body.Body.{Body}
use Rattle.walk_proto.specs.Faults.{at}
use Rattle.walk_proto.specs.declared.faults.WireStop.{WireStop}
use Rattle.walk_proto.specs.declared.faults.WireStop.TheVariants.{Short, Kind, Length, Value, OutOfMemory}
use Rattle.walk_proto.specs.declared.messages.Reply.{Reply}
use Rattle.walk_proto.specs.declared.messages.Reply.TheVariants.{Node, Placed, Rows, Count, Ended, No}
use Rattle.walk_proto.specs.declared.messages.Request.{Request}
use Rattle.walk_proto.specs.declared.messages.Request.TheVariants.{Begin, WalkStart, Go, Found, Insert, Query, End, Rebuild}

-- the fault of the bytes for which reading stopped: none where it was for want of memory
abbrev pub fault_in : WireStop → Option WireStop
fault_in (Short offset) = Some (Short offset)
fault_in (Kind offset) = Some (Kind offset)
fault_in (Length offset) = Some (Length offset)
fault_in (Value offset) = Some (Value offset)
fault_in OutOfMemory = None

-- the words of each body have 64 bits
unfoldable pub BodiesFit : List Body → Type 0
BodiesFit [] = Unit {0}
BodiesFit (body ∷ rest) = (body.nonce < 2 ^ 64) × (body.masked < 2 ^ 64) × BodiesFit rest

-- each number of more than a byte fits its bytes, as those of the program do
abbrev pub RequestFits : Request → Type 0
RequestFits Begin = Unit {0}
RequestFits (WalkStart table column) = Unit {0}
RequestFits (Go side) = Unit {0}
RequestFits Found = Unit {0}
RequestFits (Insert table bodies) = BodiesFit bodies
RequestFits (Query asked) = IfSome asked.limit (λ limit. limit < 2 ^ 64)
RequestFits (End commit) = Unit {0}
RequestFits (Rebuild table column) = Unit {0}

abbrev pub ReplyFits : Reply → Type 0
ReplyFits (Node body) = BodiesFit (body ∷ [])
ReplyFits Placed = Unit {0}
ReplyFits (Rows width bodies) = BodiesFit bodies
ReplyFits (Count number) = number < 2 ^ 64
ReplyFits (Ended how table number) = number < 2 ^ 64
ReplyFits (No code value) = value < 2 ^ 32

pub record QueryShape (b : List ℕ) : Type 0 where
  pub long : length b ≡ 25 + at b 24 * 2
  pub limited : at b 6 ≤ 1
  pub unlimited : at b 6 ≡ 0 → big_number 8 (drop 7 b) ≡ 0
  pub narrow : at b 15 ≤ 8
  pub zeros : drop (at b 15) (take 8 (drop 16 b)) ≡ replicate (8 - at b 15) 0

pub record RequestShape (b : List ℕ) : Type 0 where
  pub some : 1 ≤ length b
  pub low : 1 ≤ at b 0
  pub high : at b 0 ≤ 8
  pub begins : at b 0 ≡ 1 → length b ≡ 1
  pub walk_start : at b 0 ≡ 2 → length b ≡ 3
  pub go : at b 0 ≡ 3 → (length b ≡ 2) × (at b 1 ≤ 1)
  pub found : at b 0 ≡ 4 → length b ≡ 1
  pub insert : at b 0 ≡ 5 → length b ≡ 3 + at b 2 * 16
  pub query : at b 0 ≡ 6 → QueryShape b
  pub ends : at b 0 ≡ 7 → (length b ≡ 2) × (at b 1 ≤ 1)
  pub rebuild : at b 0 ≡ 8 → length b ≡ 3

pub record ReplyShape (b : List ℕ) : Type 0 where
  pub some : 1 ≤ length b
  pub low : 9 ≤ at b 0
  pub high : at b 0 ≤ 14
  pub node : at b 0 ≡ 9 → length b ≡ 17
  pub placed : at b 0 ≡ 10 → length b ≡ 1
  pub rows : at b 0 ≡ 11 → length b ≡ 6 + big_number 4 (drop 2 b) * 16
  pub count : at b 0 ≡ 12 → length b ≡ 9
  pub ended : at b 0 ≡ 13 → (length b ≡ 11) × (at b 1 ≤ 5)
  pub no : at b 0 ≡ 14 → length b ≡ 6
