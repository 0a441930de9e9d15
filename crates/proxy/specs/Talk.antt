-- The exchanges of a session: whose requests are the client's, whose replies it allows, and what its transactions are by them. The definition is our own.
use Rattle.std.specs.Prelude.{◌≡◌, Bool, true, List, [], ◌∷◌, Some, None}
use Rattle.walk_proto.specs.declared.messages.Exchange.{Exchange}
use Rattle.workload.specs.declared.script.DoneTxn.{DoneTxn}
use Rattle.workload.specs.declared.script.Piece.{Piece}
use Rattle.proxy.specs.Allowed.{allowed}
use Rattle.proxy.specs.Client.{Setting, Client, starts, wants, hears}

-- each request of a log is the one that the client wants after the replies before it
unfoldable pub Talk : Setting → Client → List Exchange → Type 0
Talk s c [] = Unit {0}
Talk s c (e ∷ log) = (wants s c ≡ Some e.request) × Talk s (hears s c e.reply) log

-- each reply of a log is one that the client allows
unfoldable pub AllAllowed : Setting → Client → List Exchange → Type 0
AllAllowed s c [] = Unit {0}
AllAllowed s c (e ∷ log) = (allowed c e.reply ≡ true) × AllAllowed s (hears s c e.reply) log

-- the client after the replies of a log
unfoldable pub client_after : Setting → Client → List Exchange → Client
client_after s c [] = c
client_after s c (e ∷ log) = client_after s (hears s c e.reply) log

-- every transaction of the script has ended
abbrev pub HasEnded : Setting → Client → Type 0
HasEnded s c = wants s c ≡ None

-- the transactions of a script that ended by the replies of a log, with their answers
unfoldable pub transactions : Setting → List Piece → List Exchange → List DoneTxn
transactions s script log = (client_after s (starts script) log).done
